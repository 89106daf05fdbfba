use Rattle.std.proofs.Common.{ap, ◌∙◌, ◌≡◌, length, take, false}
use Rattle.vt100_rows.specs.Row.{RowView, truncated}
use Rattle.vt100_rows.proofs.RowLemmas.{IsRow-truncated, truncates}
use Rattle.vt100_rows.proofs.SheetLemmas.{refilled}
use Rattle.vt100_rows.proofs.BlankLemmas.{fields-any}
use Rattle.vt100_rows.proofs.row.Row.truncate.Goals as goal

pub returns : goal.returns
returns c =
    let lent = c.deref_mut.result.now in
    let cut_off : lent ≡ take c.args.len c.self.inside.cells.items =
    c.deref_mut.ensures.value ∙ c.truncate.ensures.items
    ∙ ap (λ n. take n c.self.inside.cells.items) c.from.ensures in
    let whole = refilled c.truncate.new.self.len c.clear_cut_half.new.cells c.truncate.new.self.items
    c.truncate.new.self.ok.0 (c.clear_cut_half.auto.cells ∙ ap length c.deref_mut.ensures.value) in
    let cells = whole ∙ c.clear_cut_half.ensures ∙ truncates c.self.inside.cells.items lent c.args.len cut_off in
    (λ i. record { cells = cells i; wrapped = false }) ∙ ap (λ (v : RowView). truncated v c.args.len) c.self.view_is

pub invariant_of-self : goal.invariant_of-self
invariant_of-self c =
    fields-any _ _ (truncated c.args.self.now c.args.len) (returns c)
    (IsRow-truncated c.args.self.now c.args.len (rw (← c.self.view_is) c.self.invariant.row))
