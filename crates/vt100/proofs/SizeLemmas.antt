-- A sheet's size after another one was asked for.
use Rattle.std.proofs.Common.{◌≡◌, ℕ, arith}
use Rattle.std.proofs.lemmas.Bool.Decides.{nat_tests}
use Rattle.vt100_core.specs.Grid.{GridView}
use Rattle.vt100_core.specs.Resize.{resized}

pub resized_height : (g : GridView) (height width : ℕ) → (resized g height width).grid.height ≡ height
unfolding resized
resized_height g height width = grind (arith, nat_tests)

pub resized_width : (g : GridView) (height width : ℕ) → (resized g height width).grid.width ≡ width
unfolding resized
resized_width g height width = grind (arith, nat_tests)
