use Rattle.std.proofs.Common.{refl, ◌-◌, ◌∙◌, ap, length}
use Rattle.vt100_rows.specs.Row.{RowView, unwrapped}
use Rattle.vt100_rows.specs.Sheet.{moved_down}
use Rattle.vt100_rows.proofs.SheetLemmas.{row_at-read, length-read}
use Rattle.vt100_rows.proofs.MoveLemmas.{unwraps}
use Rattle.vt100_rows.proofs.sheet.Sheet.open_lines.Goals as goal

pub returns : goal.returns
returns c = λ width widths.
    let rows = c.args.self.now in
    let f = moved_down rows c.args.first c.args.end c.args.n width in
    unwraps f c.move_down.new.self _ (length rows) c.args.end (c.args.end - 1) _ c.requires.some c.requires.in_rows refl
    (length-read (length rows) f c.move_down.new.self (c.move_down.ensures.rows width widths))
    (λ k h. row_at-read (length rows) f c.move_down.new.self k (c.move_down.ensures.rows width widths) h)
    (c.wrap.ensures ∙ ap (λ (v : RowView). unwrapped v) c.index_mut.ensures.value) refl
