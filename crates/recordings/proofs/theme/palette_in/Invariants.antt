use Rattle.std.proofs.Common.{map, List, ℕ}
use Rattle.std.specs.Borrow.{Bor}
use Rattle.recordings.proofs.ThemeLemmas.{IsPaletteAfter}
use Rattle.recordings.proofs.theme.palette_in.Given as goal

-- the words so far
abbrev pub invariant-loop-word : goal.invariant-loop-word
invariant-loop-word l = IsPaletteAfter (map {A = Bor (List ℕ)} {B = List ℕ} (λ w. w.now) l.yielded) l.end l.colors
