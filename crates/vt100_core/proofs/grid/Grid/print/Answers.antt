use Rattle.std.proofs.Common.{arith, rules, refl, ◌≡◌, ap, subst, sym, ◌∙◌, ◌+◌, ◌≤◌, true}
use Rattle.std.specs.Prelude.{Err}
use Rattle.vt100_cells.specs.Cell.{cell_of}
use Rattle.vt100_core.specs.Grid.{GridView}
use Rattle.vt100_core.specs.Text.{put_at}
use Rattle.vt100_core.proofs.TextLemmas.{IsMade-made}
use Rattle.vt100_core.proofs.RunLemmas.{printed-printable}
use Rattle.vt100_core.proofs.grid.Grid.print.Goals as goal

pub print_printable-requires-clause-fits : goal.print_printable-requires-clause-fits
print_printable-requires-clause-fits g c =
    let m = IsMade-made c.args.self.now 1 true c.in_ok-make_room.ensures.wide in
    subst (λ (x : GridView). x.col + 1 ≤ x.width) (sym c.in_ok-make_room.ensures.scrolls.grid) m.fits

pub returns-then-is_printable : goal.returns-then-is_printable
returns-then-is_printable g c =
    let a = c.args.attrs.now in
    rw (printed-printable c.args.self.now c.args.c a (c.is_printable.ensures.0 c.if-is_printable.true)
    c.in_ok-make_room.ensures.wide) (record {
      grid = c.print_printable.ensures.grid ∙ ap (λ (h : GridView). put_at h (cell_of c.args.c a) a 1)
          c.in_ok-make_room.ensures.scrolls.grid;
      sink = c.in_ok-make_room.ensures.scrolls.sink;
      answer = refl;
      limits = search rules;
      keeps_none = search rules;
      stays = search rules;
      allocated = c.print_printable.ensures.allocated;
    })

pub returns-in_err-make_room : goal.returns-in_err-make_room
returns-in_err-make_room g c =
    let is : c.from_residual.result ≡ Err c.in_err-make_room.field-0.0 = search rules in
    let refused = c.in_err-make_room.ensures.scrolls in
    rw (
      is,
      printed-printable c.args.self.now c.args.c c.args.attrs.now (omega arith, omega arith)
          c.in_err-make_room.ensures.wide,
    ) (record {
      grid = tt;
      sink = refused.sink;
      answer = tt;
      limits = refused.limits;
      keeps_none = refused.keeps_none;
      stays = refused.stays;
      allocated = refused.allocated;
    })
