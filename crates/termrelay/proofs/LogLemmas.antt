-- The last session of a key.
use Rattle.std.proofs.Common.{◌≡◌, ◌∙◌, ℕ, Bool, true, false, List, [], ◌∷◌, ◌++◌, map, refl, sym, ap, get_or, set}
use Rattle.std.proofs.Common.{append-nil}
use Rattle.std.proofs.Math.Seq.{set-append_seam, get_or-append_seam}
use Rattle.std.specs.Prelude.{not, OnOk, Result, Ok, Err}
use Rattle.std.specs.List.{list_any}
use Rattle.std.proofs.lemmas.Bool.{and_parts, eqb-true, or_parts, or_right}
use Rattle.termrelay.specs.Hub.{HubState, as_kept, clients_in}
use Rattle.termrelay.specs.Calls.{Fork}
use Rattle.termrelay.specs.Log.{SessionView, is_of, change_last, last_that, branched, bytes_owed, sessions_after, IsLast}
use Rattle.termrelay.specs.declared.runs.call.Reply.{Reply}
use Rattle.termrelay.specs.declared.runs.call.Reply.TheVariants.{Attached}

module _ {A : Type 0} (test : A → Bool) where
  any-here : (prefix back : List A) (x : A) → test x ≡ true → list_any test (prefix ++ x ∷ back) ≡ true
  any-here [] back x is = rw is
  any-here (y ∷ ys) back x is = or_right (test y) _ (any-here ys back x is)

  -- the one at the place found
  pub found-last : (xs : List A) (at : ℕ) (d : A) (l : IsLast test xs at) → get_or xs at d ≡ l.last
  found-last xs at d l = rw (l.parts, ← l.place) (get_or-append_seam l.prefix l.last l.back d)

  pub found-passes : (xs : List A) (at : ℕ) (d : A) → IsLast test xs at → test (get_or xs at d) ≡ true
  found-passes xs at d l = rw (found-last xs at d l) l.is

  module _ (f : A → A) where
    pub none-changed : (xs : List A) → list_any test xs ≡ false → change_last test f xs ≡ xs
    none-changed [] none = refl
    none-changed (x ∷ xs) none = let (first, later) = or_parts (test x) (list_any test xs) none in rw (later, first)

    seam-changed : (prefix back : List A) (x : A) → test x ≡ true → list_any test back ≡ false
        → change_last test f (prefix ++ x ∷ back) ≡ prefix ++ f x ∷ back
    seam-changed [] back x is none = rw (none, is)
    seam-changed (y ∷ ys) back x is none = rw (any-here ys back x is, seam-changed ys back x is none)

    -- is changed
    pub last-changed : (xs : List A) (at : ℕ) (d y : A) → IsLast test xs at → y ≡ f (get_or xs at d)
        → set xs at y ≡ change_last test f xs
    last-changed xs at d y l is =
        rw (is, found-last xs at d l, l.parts, ← l.place, seam-changed l.prefix l.back l.last l.is l.none)
        (set-append_seam l.prefix l.last l.back (f l.last))

  -- the list of the last one
  pub none-that : (xs : List A) → list_any test xs ≡ false → last_that test xs ≡ []
  none-that [] none = refl
  none-that (x ∷ xs) none = let (first, later) = or_parts (test x) (list_any test xs) none in rw (later, first) refl

  seam-that : (prefix back : List A) (x : A) → test x ≡ true → list_any test back ≡ false
      → last_that test (prefix ++ x ∷ back) ≡ x ∷ []
  seam-that [] back x is none = rw (none, is) refl
  seam-that (y ∷ ys) back x is none = rw (any-here ys back x is) (seam-that ys back x is none)

  pub found-that : (xs : List A) (at : ℕ) (l : IsLast test xs at) → last_that test xs ≡ l.last ∷ []
  found-that xs at l = ap (last_that test) l.parts ∙ seam-that l.prefix l.back l.last l.is l.none

-- if no session of the client is open, its fork begins no session
pub none-branched : (h : HubState as_kept) (key : ℕ) (reply : Reply) (ss : List SessionView)
    → list_any (is_of key) ss ≡ false → ss ≡ sessions_after h (Fork key) reply ss
none-branched h key (Attached new) ss none =
    sym (ap (λ xs. ss ++ map (branched new (bytes_owed (clients_in h key))) xs) (none-that (is_of key) ss none)
    ∙ append-nil ss)
none-branched h key _ ss none = refl

pub of-key : (key : ℕ) (s : SessionView) → is_of key s ≡ true → s.client ≡ key
of-key key s h = eqb-true s.client key (and_parts (not s.ended) _ h).1

pub ok-then : {A E : Type 0} (r : Result A E) (P Q : Type 0) → OnOk r P → (P → Q) → OnOk r Q
ok-then (Ok x) P Q h f = f h
ok-then (Err e) P Q h f = tt
