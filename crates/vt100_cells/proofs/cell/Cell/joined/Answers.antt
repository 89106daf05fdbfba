use Rattle.std.proofs.Common.{◌≡◌, true, false, ◌||◌, ◌&&◌, ◌==◌, nat_lt, ap, ◌∙◌, sym}
use Rattle.unicode_width.specs.Width.{str_width}
use Rattle.vt100_cells.specs.Cell.{CellView, is_widened_by}
use Rattle.vt100_cells.specs.CellFields.{view_of, is_wide_span, is_continuation_span}
use Rattle.vt100_cells.proofs.CellLemmas.{IsCell-made, or-true, or-false}
use Rattle.vt100_cells.proofs.cell.Cell.joined.Goals as goal
use Rattle.vt100_cells.proofs.cell.Cell.joined.Goals.{then-is_widened_by, else-is_widened_by}

pub invariant_of-result-2 : goal.invariant_of-result-2
invariant_of-result-2 c =
    let x = view_of c.self.inside in
    let whole : x.continuation ≡ false = ap (λ (v : CellView). v.continuation) c.self.view_is ∙ c.requires.no_half in
    let widened : c.is_widened_by.result ≡ is_widened_by x.text c.args.c =
    c.is_widened_by.ensures ∙ ap (λ cs. (c.args.c == 0xFE0F) && nat_lt 1 (str_width false cs)) c.join.ensures in
    let room = sym c.has_room.ensures ∙ c.if-not-has_room.false in
    elim c.if-is_widened_by.branch [
      | then-is_widened_by w ↦
          let now : is_widened_by x.text c.args.c ≡ true = sym widened ∙ w.if-is_widened_by.true in
          IsCell-made x c.args.c c.join.new.self (is_wide_span c.if-is_widened_by.span)
          (is_continuation_span c.if-is_widened_by.span) c.self.invariant c.ranges.c.0 c.requires.zero_width whole
          room
          c.join.ensures
          (ap is_wide_span w.span-is ∙ sym (ap (λ b. x.wide || b) now ∙ or-true x.wide))
          (ap is_continuation_span w.span-is ∙ sym whole)
      | else-is_widened_by w ↦
          let not_now : is_widened_by x.text c.args.c ≡ false = sym widened ∙ w.if-is_widened_by.false in
          IsCell-made x c.args.c c.join.new.self (is_wide_span c.if-is_widened_by.span)
          (is_continuation_span c.if-is_widened_by.span) c.self.invariant c.ranges.c.0 c.requires.zero_width whole
          room
          c.join.ensures
          (ap is_wide_span w.span-is ∙ sym (ap (λ b. x.wide || b) not_now ∙ or-false x.wide))
          (ap is_continuation_span w.span-is)
    ]
