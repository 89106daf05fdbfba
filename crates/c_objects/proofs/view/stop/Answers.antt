use Rattle.std.proofs.Common.{refl}
use Rattle.c_objects.proofs.view.stop.Goals as goal

pub returns-in-View : goal.returns-in-View
returns-in-View c =
    rw c.in-View.is (
      c.stop_sync.new.self,
      record { code_is = refl; emptied = c.stop_sync.ensures.emptied; exact = c.stop_sync.ensures.exact },
      refl,
    )
