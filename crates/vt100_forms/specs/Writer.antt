-- How a form's bytes reach a writer.
use Rattle.std.specs.Prelude.{ℕ, ◌≡◌, List, [], ◌∷◌}

-- the writer before, a text, the writer after: the text is written in one call, or in no call if it is empty
abbrev pub HandsOver : {W : Type 0} → (W → List ℕ → W → Type 0) → W → List ℕ → W → Type 0
HandsOver gives w [] v = v ≡ w
HandsOver gives w (b ∷ bs) v = gives w (b ∷ bs) v
