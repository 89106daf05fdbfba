-- New states.
use Rattle.std.proofs.Common.{◌≡◌, ℕ, ◌<◌, ◌≤◌, false, List, refl, ap, ◌∙◌, arith, ⊎_elim}
use Rattle.std.specs.Prelude.{replicate}
use Rattle.std.proofs.lemmas.Bool.{cases_lt}
use Rattle.std.proofs.lemmas.List.{length-replicate, get_or-replicate}
use mathlib.Core.Path.{fun_ext}
use Rattle.vt100_cells.specs.Cell.{default_cell}
use Rattle.vt100_cells.specs.Cells.{cell_at}
use Rattle.vt100_rows.specs.Row.{RowView, blank_row}
use Rattle.terminal_model.specs.Term.{blank_term}
use Rattle.vt100_rows.specs.Picture.{lines_of, wraps_of}
use Rattle.vt100_rows.proofs.SheetLemmas.{IsSheet-blank}
use Rattle.vt100_rows.proofs.PictureLemmas.{line-blank, lines-past, wraps-past}
use Rattle.screen_view_laws.specs.StateLaws.{EachFreshStateIsBlank}

abbrev blanks : ℕ → ℕ → List RowView
blanks rows cols = replicate rows (blank_row cols)

blank-line : (rows cols r : ℕ) → lines_of (blanks rows cols) r ≡ (λ k. default_cell)
blank-line rows cols r =
    ⊎_elim
    (λ (l : r < rows). ap (λ (v : RowView). cell_at v.cells) (get_or-replicate rows r (blank_row cols) (blank_row 0) l)
    ∙ line-blank cols)
    (λ (l : rows ≤ r). lines-past (blanks rows cols) r (omega (arith, l, length-replicate rows (blank_row cols))))
    (cases_lt r rows)

blank-flag : (rows cols r : ℕ) → wraps_of (blanks rows cols) r ≡ false
blank-flag rows cols r =
    ⊎_elim
    (λ (l : r < rows). ap (λ (v : RowView). v.wrapped) (get_or-replicate rows r (blank_row cols) (blank_row 0) l))
    (λ (l : rows ≤ r). wraps-past (blanks rows cols) r (omega (arith, l, length-replicate rows (blank_row cols))))
    (cases_lt r rows)

pub fresh-blank : EachFreshStateIsBlank
fresh-blank rows cols capacity some_rows few_rows some_cols few_cols =
    let lines = fun_ext (blank-line rows cols) in
    let flags = fun_ext (blank-flag rows cols) in (
      (
        refl,
        record {
          sheet = IsSheet-blank rows cols rows (λ _. refl) few_cols;
          some = omega (arith, length-replicate rows (blank_row cols), some_rows);
          few_rows = few_rows;
          few_cols = few_cols;
          some_cols = some_cols;
          cursor_row = some_rows;
          cursor_col = omega arith;
          saved_row = some_rows;
          saved_col = omega arith;
          top = refl;
          bottom = omega (arith, some_rows);
          origin = refl;
          saved_origin = refl;
          offset = refl;
        },
      ),
      λ i. record blank_term { cell = lines i; wrapped = flags i },
    )
