use Rattle.std.proofs.Common.{Ok, Err, refl}
use Rattle.c_objects.proofs.Did.{kept_code}
use Rattle.c_objects.specs.Screens.{ResizesTo}
use Rattle.c_objects.proofs.screen.resize_to.Goals as goal

pub returns-in-Ok : goal.returns-in-Ok
returns-in-Ok c =
    let e = c.in-Ok.ensures in (
      Ok c.in-Ok.field-0,
      record {
        screen = e.screen;
        stops = e.stops;
        same = e.same;
        smaller = e.smaller;
        reader = e.reader;
        made = e.made;
      },
      refl,
      refl,
    )

pub returns-in-Err : goal.returns-in-Err
returns-in-Err c =
    let e = c.in-Err.ensures in
    kept_code (λ code. ResizesTo c.args.rows.value c.args.cols.value c.args.marked.now code
    (record { parser = c.set_size.new.self; mark = c.args.marked.now.mark })) c.screen_refusal.result
    c.screen_refusal.type_inv (
      Err c.in-Err.error,
      record {
        screen = e.screen;
        stops = e.stops;
        same = e.same;
        smaller = e.smaller;
        reader = e.reader;
        made = e.made;
      },
      c.screen_refusal.ensures,
      refl,
    )
