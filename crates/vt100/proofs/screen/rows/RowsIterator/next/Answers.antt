use Rattle.std.proofs.Common.{◌≡◌, ◌∙◌, ◌+◌, ℕ, List, [], ◌∷◌, ap, refl, sym, rules}
use Rattle.std.specs.Prelude.{encode_utf8_all}
use Rattle.vt100_rows.specs.Row.{RowView}
use Rattle.vt100_rows.specs.Text.{row_text}
use Rattle.vt100.specs.Rows.{each_row}
use Rattle.vt100.specs.Texts.{row_texts}
use Rattle.vt100.specs.Writers.{each_diff}
use Rattle.vt100.specs.declared.screen.rows.Writing.{Writing}
use Rattle.vt100.proofs.screen.rows.RowsIterator.next.Goals as goal

-- where no earlier row is left
none_left : (start width i : ℕ) (rows : List RowView) → each_diff start width i rows [] ≡ []
none_left start width i [] = refl
none_left start width i (v ∷ vs) = refl

pub returns-in_err-prev-in-Diff-clause-steps : goal.returns-in_err-prev-in-Diff-clause-steps
returns-in_err-prev-in-Diff-clause-steps c =
    let s = c.self.inside in
    let steps = c.in_err-prev-in-Diff.ensures.steps in
    rw c.from_residual-in_err-prev-in-Diff.ensures (
      sym c.self.view_is
          ∙ ap (λ (w : Writing). each_row w s.wrapping s.start s.width s.row s.rows) c.in-Diff.is
          ∙ ap (each_diff s.start s.width s.row s.rows) steps.0
          ∙ none_left s.start s.width s.row s.rows,
      ap (each_diff s.start s.width (s.row + 1) c.next.new.self) steps.1
          ∙ none_left s.start s.width (s.row + 1) c.next.new.self,
    )

pub returns-in-Text-clause-steps : goal.returns-in-Text-clause-steps
returns-in-Text-clause-steps c =
    let s = c.self.inside in
    rw c.in-Text.is (
      encode_utf8_all (row_text c.in_ok-row.row.now s.start (s.start + s.width)),
      sym c.self.view_is
          ∙ ap (λ (w : Writing). each_row w s.wrapping s.start s.width s.row s.rows) c.in-Text.is
          ∙ ap (row_texts s.start s.width) c.in_ok-row.ensures.steps,
      search rules,
    )
