use Rattle.std.proofs.Common.{◌≡◌, ◌+◌, ◌<◌, ℕ, get_or, length}
use Rattle.row_pictures.specs.Themes.{rgb_of}
use Rattle.row_pictures.proofs.theme.theme_of.Given as goal

-- the colours so far, in room for sixteen
abbrev pub invariant-loop-i : goal.invariant-loop-i
invariant-loop-i l = record {
  sixteen : length l.first ≡ 16;
  colors : (k : ℕ) → k < l.i → get_or l.first k (rgb_of 0) ≡ rgb_of (get_or l.colors (k + 2) 0);
}
