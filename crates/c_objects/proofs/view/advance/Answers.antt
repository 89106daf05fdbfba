use Rattle.std.proofs.Common.{refl}
use Rattle.c_objects.proofs.view.advance.Goals as goal

pub returns-in-View : goal.returns-in-View
returns-in-View c =
    rw c.in-View.is (
      c.advance.new.self,
      record { code_is = refl; advanced = c.advance.ensures.advanced; exact = c.advance.ensures.exact },
      refl,
    )
