use Rattle.std.proofs.Common.{arith, rules, refl, ◌≡◌, ap, subst, sym, ◌∙◌, ◌+◌, ◌≤◌, true}
use Rattle.std.specs.Prelude.{Err}
use Rattle.vt100_cells.specs.Cell.{cell_of}
use Rattle.vt100_cells.proofs.WidthLemmas.{drawn-ascii}
use Rattle.vt100_core.specs.Grid.{GridView}
use Rattle.vt100_core.specs.Text.{put_at}
use Rattle.vt100_core.proofs.TextLemmas.{IsMade-made}
use Rattle.vt100_core.proofs.RunLemmas.{printed-printable}
use Rattle.vt100_core.proofs.grid.Grid.text.Goals as goal

pub print_spacing-requires-clause-drawn : goal.print_spacing-requires-clause-drawn
print_spacing-requires-clause-drawn g c =
    let printable = c.is_printable.ensures.0 c.if-is_printable.true in
    sym (drawn-ascii c.args.c (omega (arith, printable.0)) (omega (arith, printable.1)))

pub print_spacing-requires-clause-fits : goal.print_spacing-requires-clause-fits
print_spacing-requires-clause-fits g c =
    let m = IsMade-made c.args.self.now 1 true c.in_ok-make_room.ensures.wide in
    subst (λ (x : GridView). x.col + 1 ≤ x.width) (sym c.in_ok-make_room.ensures.scrolls.grid) m.fits

pub returns-then-is_printable : goal.returns-then-is_printable
returns-then-is_printable g c =
    rw (printed-printable c.args.self.now c.args.c c.args.attrs (c.is_printable.ensures.0 c.if-is_printable.true)
    c.in_ok-make_room.ensures.wide) (record {
      grid = c.print_spacing.ensures.grid ∙ ap (λ (h : GridView). put_at h (cell_of c.args.c c.args.attrs) c.args.attrs
          1)
          c.in_ok-make_room.ensures.scrolls.grid;
      sink = c.in_ok-make_room.ensures.scrolls.sink;
      answer = refl;
      limits = search rules;
      keeps_none = search rules;
      stays = search rules;
      allocated = c.print_spacing.ensures.allocated;
    })

pub returns-in_err-make_room : goal.returns-in_err-make_room
returns-in_err-make_room g c =
    let is : c.from_residual.result ≡ Err c.in_err-make_room.field-0.0 = search rules in
    let refused = c.in_err-make_room.ensures.scrolls in
    rw (
      is,
      printed-printable c.args.self.now c.args.c c.args.attrs (c.is_printable.ensures.0 c.if-is_printable.true)
          c.in_err-make_room.ensures.wide,
    ) (record {
      grid = tt;
      sink = refused.sink;
      answer = tt;
      limits = refused.limits;
      keeps_none = refused.keeps_none;
      stays = refused.stays;
      allocated = refused.allocated;
    })
