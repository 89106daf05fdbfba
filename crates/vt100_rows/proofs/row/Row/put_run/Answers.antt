use Rattle.std.proofs.Common.{subst, arith, ◌∙◌, ◌≡◌, ◌+◌, ◌*◌, ◌≤◌, length, map, ap, sym}
use Rattle.std.specs.Prelude.{Some}
use Rattle.std.proofs.lemmas.Grind.{common_steps}
use Rattle.std.proofs.lemmas.List.{length-map}
use Rattle.std.proofs.lemmas.List.Elements.{All-map}
use Rattle.vt100_cells.specs.Cell.{drawn_columns}
use Rattle.vt100_rows.specs.Row.{RowView, IsRow, IsBlankFrom, run_row, placed_each}
use Rattle.vt100_rows.proofs.RowRuns.{run_row-each}
use Rattle.vt100_rows.proofs.BlankLemmas.{fields-at, blank-run}
use Rattle.vt100_rows.specs.declared.row.Row.TheInside.{Inside}
use Rattle.vt100_rows.proofs.row.Row.put_run.Goals as goal
use Rattle.vt100_rows.proofs.row.Row.put_run.Goals.{then-run_end, else-run_end}

pub returns-after-run_end-clause-each : goal.returns-after-run_end-clause-each
returns-after-run_end-clause-each g c =
    let w = g.row.COLUMNS in
    let xs = map g.G.Glyph.code c.args.text.now in
    let v = c.args.self.now in
    let i = c.args.col in
    let a = c.args.attrs.now in
    let within : i + w * length xs ≤ length v.cells =
    subst (λ n. i + w * n ≤ length v.cells) (sym (length-map c.args.text.now g.G.Glyph.code)) c.requires.in_row in
    let drawn = All-map (λ k. drawn_columns k ≡ Some w) g.G.Glyph.code c.args.text.now
    (λ k d l. g.met.G.Glyph.drawn w _ (c.requires.drawn k d l)) in
    let same : _ ≡ run_row w v i xs a = grind (arith, common_steps) in
    same ∙ (run_row-each xs v i a w c.requires.columns (rw (← c.self.view_is) c.self.invariant.row) drawn
    c.put_run.ensures.characters within).0

pub invariant_of-self : goal.invariant_of-self
invariant_of-self g c =
    let w = g.row.COLUMNS in
    let o = c.requires.columns in
    let xs = map g.G.Glyph.code c.args.text.now in
    let v = c.args.self.now in
    let i = c.args.col in
    let a = c.args.attrs.now in
    let few = length-map c.args.text.now g.G.Glyph.code in
    let within : i + w * length xs ≤ length v.cells =
    subst (λ n. i + w * n ≤ length v.cells) (sym few) c.requires.in_row in
    let drawn = All-map (λ k. drawn_columns k ≡ Some w) g.G.Glyph.code c.args.text.now
    (λ k d l. g.met.G.Glyph.drawn w _ (c.requires.drawn k d l)) in
    let span : w * length c.args.text.now ≡ w * length xs = ap (λ n. w * n) (sym few) in
    let r : IsRow v = rw (← c.self.view_is) c.self.invariant.row in
    let b : IsBlankFrom v.cells c.self.inside.filled = subst (λ (u : RowView). IsBlankFrom u.cells c.self.inside.filled)
    c.self.view_is c.self.invariant.blank in
    let kept : c.if-run_end.self-inside.filled ≡ c.self.inside.filled = elim c.if-run_end.branch [
      | then-run_end u ↦ ap (λ (x : Inside). x.filled) u.self-inside-is
      | else-run_end u ↦ ap (λ (x : Inside). x.filled) u.self-inside-is
    ] in
    let both = run_row-each xs v i a w o r drawn c.put_run.ensures.characters within in
    fields-at _ _ _ (placed_each w v i xs a) (returns-after-run_end-clause-each g c) both.1
    (subst (λ (u : RowView). IsBlankFrom u.cells c.max-self-inside.result) both.0
    (blank-run v.cells c.self.inside.filled c.max-self-inside.result i xs a w o r.narrow b
    (omega (arith, kept, c.max-self-inside.ensures)) (λ h. omega (
      arith,
      span,
      h,
      c.saturating_add.ensures,
      c.max-self-inside.ensures,
    ))))
