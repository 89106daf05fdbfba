-- What a sink of rows has gone through.
use Rattle.std.specs.Prelude.{◌≡◌, List, [], ◌∷◌}
use Rattle.vt100_rows.specs.Row.{RowView}

-- s has taken these rows, in order and each once, and is t; `takes` says what one call does
abbrev pub TakesAll : {S : Type 0} → (S → RowView → S → Type 0) → S → List RowView → S → Type 0
TakesAll takes s [] t = s ≡ t
TakesAll {S} takes s (v ∷ vs) t = (u : S) × takes s v u × TakesAll takes u vs t
