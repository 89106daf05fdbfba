-- What a command is called with.
use Rattle.std.specs.Prelude.{◌≡◌, ℕ, List, map}
use Rattle.std.specs.Fn.{Once}
use denote.Ref.{Bor, MutBor}

-- f, called with a `&mut` to the state s and with these arguments, may return r and leave the state t
pub record ReturnsWith {F S : Type 0}
    (g : Once F (MutBor S × (Bor (List (Bor (List ℕ))) × Unit {0})) (ℕ × (MutBor S × Unit {0}))) (f : F) (s : S)
    (words : List (List ℕ)) (r : ℕ) (t : S) : Type 0 where
  pub shown : MutBor S
  pub shows : shown.now ≡ s
  pub lent : Bor (List (Bor (List ℕ)))
  pub spells : map (λ w. w.now) lent.now ≡ words
  pub left : MutBor S
  pub met : g.post f (shown, (lent, tt)) (r, (left, tt))
  pub leaves : left.now ≡ t
