-- What is unfolded when a worked example is computed.
use Rattle.std.specs.Prelude.{⊤}
use Rattle.unicode_width.specs.Width.{char_width}
use Rattle.vt100_core.specs.Resize.{resized}
use Rattle.vt100_core.specs.Scroll.{scrolled_up, fed, wrapped_on}
use Rattle.vt100_core.specs.Text.{printed}

unfoldable pub on_literals : ⊤
unfolding char_width printed scrolled_up fed wrapped_on resized
on_literals = tt
