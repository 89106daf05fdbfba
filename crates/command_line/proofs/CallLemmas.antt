-- Calls with the arguments after a program's name.
use Rattle.std.proofs.Common.{◌≡◌, refl, subst, sym, ℕ, List, map, Result, Ok, Err, IfOk, IfErr, Bor, MutBor}
use Rattle.std.specs.Fn.{FnOnceReturnsAtMut, Once}
use Rattle.command_line.specs.Running.{ReturnsWith}

module _ {A E : Type 0} {P Q : A → Type 0} where
  pub also_ok : (r : Result A E) → IfOk r P → ((a : A) → P a → Q a) → IfOk r Q
  also_ok (Ok a) p f = f a p
  also_ok (Err e) p f = tt

module _ {A E : Type 0} {P Q : E → Type 0} where
  pub also_err : (r : Result A E) → IfErr r P → ((e : E) → P e → Q e) → IfErr r Q
  also_err (Ok a) p f = tt
  also_err (Err e) p f = f e p

module _ {A E : Type 0} where
  pub when_ok : (r : Result A E) {Q : A → Type 0} → ((a : A) → Q a) → IfOk r Q
  when_ok (Ok a) f = f a
  when_ok (Err e) f = tt

  pub when_err : (r : Result A E) {Q : E → Type 0} → ((e : E) → Q e) → IfErr r Q
  when_err (Ok a) f = tt
  when_err (Err e) f = f e

module _ {F S : Type 0} (g : Once F (MutBor S × Unit {0}) (ℕ × (MutBor S × Unit {0}))) (f : F) (s : S) where
  pub refused_at : (r status : ℕ) (shown left : MutBor S) → shown.now ≡ s → status ≡ r
      → g.post f (shown, tt) (r, (left, tt)) → FnOnceReturnsAtMut g f s status left.now
  refused_at r status shown left shows is met = record {
    shown = shown;
    shows = shows;
    left = left;
    met = subst (λ (n : ℕ). g.post f (shown, tt) (n, (left, tt))) (sym is) met;
    leaves = refl;
  }

module _ {F S : Type 0} (g : Once F (MutBor S × (Bor (List (Bor (List ℕ))) × Unit {0})) (ℕ × (MutBor S × Unit {0})))
    (f : F) (s : S) (words : List (List ℕ)) where
  pub returns_with : (r : ℕ) (shown left : MutBor S) (lent : Bor (List (Bor (List ℕ)))) → shown.now ≡ s
      → map (λ w. w.now) lent.now ≡ words → g.post f (shown, (lent, tt)) (r, (left, tt))
      → ReturnsWith g f s words r left.now
  returns_with r shown left lent shows spells met = record {
    shown = shown;
    shows = shows;
    lent = lent;
    spells = spells;
    left = left;
    met = met;
    leaves = refl;
  }
