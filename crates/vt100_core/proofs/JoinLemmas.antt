-- What each result of joining a zero-width character says of the grid.
use Rattle.std.proofs.Common.{◌≡◌, ℕ, ◌+◌, ◌<◌, ◌≤◌, true, [], length, sym, ap, ◌∙◌, arith, subst}
use Rattle.std.proofs.Common.{refl, length-set}
use Rattle.std.specs.Prelude.{Some, Ok}
use Rattle.std.specs.Char.{IsScalar}
use Rattle.std.proofs.lemmas.Bool.{ltb-true, ltb-false}
use Rattle.vt100_forms.specs.declared.attrs.Attrs.{Attrs}
use Rattle.vt100_cells.specs.Cell.{CellView, IsCell, drawn_columns, has_text}
use Rattle.vt100_cells.proofs.CellLemmas.{IsCell-with_attrs}
use Rattle.vt100_rows.specs.declared.join.Join.TheVariants.{InPlace, Ignored, Widened, Carried}
use Rattle.vt100_rows.specs.Row.{RowView, joined_cell, join_row, join_answer}
use Rattle.vt100_rows.proofs.JoinLemmas.{IsCell-joined, widened-is}
use Rattle.vt100_rows.proofs.SinkLemmas.{TakesAll-list}
use Rattle.vt100_core.specs.declared.printed.Printed.{Printed}
use Rattle.vt100_core.specs.declared.printed.Printed.TheVariants.{Nothing, Joined}
use Rattle.vt100_core.specs.Grid.{GridView, IsGrid, IsAllocated, SameLimits, with_cursor_row, row_of_cursor}
use Rattle.vt100_core.specs.Text.{Prints, joined, carried_on}
use Rattle.vt100_core.proofs.EraseLemmas.{cursor_row_of}
use Rattle.vt100_core.proofs.TextLemmas.{tests-of, in-place}
use Rattle.vt100_core.proofs.TextLemmas.{ignored, widens, carries, carried-is, two-columns}

-- the cell x, which has become wide, goes to the next row
pub record IsCarried (g h : GridView) (c : ℕ) (a : Attrs) (x : CellView) : Type 0 where
  pub fits : 2 ≤ h.width
  pub wide : x.wide ≡ true
  pub text : has_text x ≡ true
  pub valid : IsScalar c → drawn_columns c ≡ Some 0 → IsCell x
  pub prints : carried_on h x a ≡ joined g c a

module _ {g : GridView} (c : ℕ) (a : Attrs) {h : GridView} (i : IsGrid g) (l : IsAllocated g)
    (after : h ≡ with_cursor_row g (join_row (row_of_cursor g) g.col c a)) where
  abbrev v : RowView
  v = row_of_cursor g

  joined-limits : SameLimits g h
  joined-limits = rw after (record { height = refl; width = refl; kept = record { keeps = refl; capacity = refl } })

  pub joined-some : IsAllocated h
  joined-some =
      let count = ap (λ (x : GridView). length x.rows) after ∙ length-set g.rows g.row (join_row v g.col c a) in
      omega (arith, count, l)

  -- where no row scrolls
  prints-here : {S : Type 0} (takes : S → RowView → S → Type 0) (s : S) {E : Type 0} (k : GridView) (p : Printed)
      → (k ≡ (joined g c a).grid) × ((joined g c a).sunk ≡ []) × ((joined g c a).printed ≡ p) → SameLimits g k
      → IsAllocated k → Prints takes s s g k {E = E} (Ok p) (joined g c a)
  prints-here takes s k p is same some = record {
    grid = is.0;
    sink = TakesAll-list takes s s [] _ (sym is.1) refl;
    answer = sym is.2;
    limits = same;
    keeps_none = λ z. refl;
    stays = λ z. refl;
    allocated = some;
  }

  pub joins-in-place : {S : Type 0} (takes : S → RowView → S → Type 0) (s : S) {E : Type 0}
      → InPlace ≡ join_answer (row_of_cursor g) g.col c a → Prints takes s s g h {E = E} (Ok Joined) (joined g c a)
  joins-in-place takes s e = prints-here takes s h Joined
      (in-place g c a h (cursor_row_of g i l).wide after (tests-of v g.col c a InPlace e)) joined-limits joined-some

  pub joins-ignored : {S : Type 0} (takes : S → RowView → S → Type 0) (s : S) {E : Type 0}
      → Ignored ≡ join_answer (row_of_cursor g) g.col c a → Prints takes s s g h {E = E} (Ok Nothing) (joined g c a)
  joins-ignored takes s e =
      let is = tests-of v g.col c a Ignored e in
      prints-here takes s h Nothing (ignored g c a h (cursor_row_of g i l).wide after is.0 is.1) joined-limits
      joined-some

  -- the cell to the left has become wide, and the cursor of k, which is h, goes on by one
  pub widened-room : {k : GridView} → k ≡ h → Widened ≡ join_answer (row_of_cursor g) g.col c a → k.col < k.width
  widened-room e is =
      let n = (cursor_row_of g i l).wide in
      let tests = tests-of v g.col c a Widened is in
      let room = ltb-true g.col (length v.cells) tests.2 in
      rw (e ∙ after) (omega arith)

  pub joins-widened : {S : Type 0} (takes : S → RowView → S → Type 0) (s : S) {E : Type 0} {k : GridView} → k ≡ h
      → Widened ≡ join_answer (row_of_cursor g) g.col c a
      → Prints takes s s g (record k { col = k.col + 1 }) {E = E} (Ok Joined) (joined g c a)
  joins-widened takes s {k = k} e is =
      let tests = tests-of v g.col c a Widened is in
      let all = widens g c a k (cursor_row_of g i l).wide (e ∙ after) tests.0 tests.1 tests.2 in
      let col = ap (λ (x : GridView). x.col) (e ∙ after) in
      let same : SameLimits g k = subst (λ (x : GridView). SameLimits g x) (sym e) joined-limits in
      prints-here takes s (record k { col = k.col + 1 }) Joined
      (ap (λ m. record k { col = m + 1 }) col ∙ all.0, all.1, all.2)
      (record { height = same.height; width = same.width; kept = same.kept })
      (subst (λ (x : GridView). IsAllocated x) (sym e) joined-some)

  pub joins-carried : (x : CellView) → Carried x ≡ join_answer (row_of_cursor g) g.col c a → IsCarried g h c a x
  joins-carried x e =
      let row = cursor_row_of g i l in
      let is = tests-of v g.col c a (Carried x) e in
      let all = carries g c a h row.wide after is.0 is.1 is.2 in
      let far : g.width < g.col + 2 = omega (arith, ltb-false g.col (length v.cells) is.2, row.wide) in
      let wide = widened-is v g.col c row.row is.0 in
      record {
        fits = omega (
          arith,
          two-columns (length v.cells) is.1 (omega (arith, row.wide, i.some_cols)),
          row.wide,
          joined-limits.width,
        );
        wide = ap (λ (y : CellView). y.wide) is.3 ∙ wide.0;
        text = ap (λ (y : CellView). has_text y) is.3 ∙ wide.1;
        valid = λ s z. subst (λ (y : CellView). IsCell y) (sym is.3)
            (IsCell-with_attrs (joined_cell v g.col c) a (IsCell-joined v g.col c row.row s z));
        prints = carried-is g h c a x far all.0 is.3 ∙ sym all.1;
      }
