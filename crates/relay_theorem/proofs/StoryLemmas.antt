-- Stories of one key, and changes of the last one.
use Rattle.std.proofs.Common.{◌≡◌, ◌∙◌, ℕ, zero, suc, Bool, true, false, not, ◌&&◌, ◌||◌, List, [], ◌∷◌, ◌++◌, map}
use Rattle.std.proofs.Common.{Option, Some, None, refl, sym, ap, subst, arith, if◌then◌else◌}
use Rattle.std.specs.Prelude.{◌==◌, slice_get}
use Rattle.std.specs.List.{list_any, AllByRecursion}
use Rattle.std.proofs.lemmas.Bool.{eqb-true, eq-eqb, or_parts, or_from, or_right, and_parts}
use Rattle.std.proofs.Math.Bool.{or-false}
use Rattle.std.proofs.lemmas.List.Folds.{list_any-append}
use Rattle.std.proofs.lemmas.Bool.Decides.{nat_tests}
use Rattle.termrelay.specs.Answers.{ClientState}
use Rattle.termrelay.specs.Hub.{HubState, with_client}
use Rattle.termrelay.specs.Log.{change_last, last_that, ended}
use Rattle.termrelay.proofs.LogLemmas.{of-key}
use Rattle.relay_theorem.specs.History.{as_reported, Story, is_on, with_session}
use Rattle.relay_theorem.specs.Laws.{AtMostOne}

-- ---- tests

no-both : (b : Bool) → b ≡ true → b ≡ false → ⊥
no-both true h k = absurd (let no : true ≡ false = k in cc)
no-both false h k = absurd (let no : false ≡ true = h in cc)

and-none : (a b : Bool) → b ≡ false → (a && b) ≡ false
and-none true b h = h
and-none false b h = refl

not-true : (b : Bool) → not b ≡ true → b ≡ false
not-true true h = absurd (let no : false ≡ true = h in cc)
not-true false h = refl

-- ---- lists

pub all-map : {X Y : Type 0} (P : X → Type 0) (Q : Y → Type 0) (f : X → Y) → ((x : X) → P x → Q (f x)) → (xs : List X)
    → AllByRecursion P xs → AllByRecursion Q (map f xs)
all-map P Q f k [] h = tt
all-map P Q f k (x ∷ xs) h = (k x h.0, all-map P Q f k xs h.1)

pub all-push : {X : Type 0} (P : X → Type 0) (xs : List X) (x : X) → AllByRecursion P xs → P x
    → AllByRecursion P (xs ++ x ∷ [])
all-push P [] x h p = (p, tt)
all-push P (y ∷ xs) x h p = (h.0, all-push P xs x h.1 p)

pub all-at : {X : Type 0} (P : X → Type 0) (xs : List X) (n : ℕ) (x : X) → AllByRecursion P xs
    → slice_get xs n ≡ Some x → P x
all-at P [] n x h e = absurd (let no : None ≡ Some x = e in cc)
all-at P (y ∷ xs) zero x h e = let same : y ≡ x = cc in subst P same h.0
all-at P (y ∷ xs) (suc n) x h e = all-at P xs n x h.1 e

-- ---- the last one that passes a test

pub record IsFound {A : Type 0} (test : A → Bool) (P : A → Type 0) (xs : List A) : Type 0 where
  pub item : A
  pub last : last_that test xs ≡ item ∷ []
  pub passes : test item ≡ true
  pub holds : P item

module _ {A : Type 0} (test : A → Bool) (P : A → Type 0) where
  found-by : (later here : Bool) (x : A) (xs : List A) → list_any test xs ≡ later → test x ≡ here → P x
      → (list_any test xs ≡ true → IsFound test P xs) → list_any test (x ∷ xs) ≡ true → IsFound test P (x ∷ xs)
  found-by true here x xs l e p go h =
      let f = go l in
      let one : List A = if test x then x ∷ [] else [] in
      record {
        item = f.item;
        last = ap (λ b. if b then last_that test xs else one) l ∙ f.last;
        passes = f.passes;
        holds = f.holds;
      }
  found-by false true x xs l e p go h =
      let one : List A = if test x then x ∷ [] else [] in
      record {
        item = x;
        last = ap (λ b. if b then last_that test xs else one) l ∙ ap (λ b. if b then x ∷ [] else []) e;
        passes = e;
        holds = p;
      }
  found-by false false x xs l e p go h =
      absurd (let no : false ≡ true = sym (or_from (test x) (list_any test xs) e l) ∙ h in cc)

  pub found : (xs : List A) → AllByRecursion P xs → list_any test xs ≡ true → IsFound test P xs
  found [] all h = absurd (let no : false ≡ true = h in cc)
  found (x ∷ xs) all h = found-by (list_any test xs) (test x) x xs refl refl all.0 (λ l. found xs all.1 l) h

  all-by : (later here : Bool) (x : A) (xs : List A) → P x → AllByRecursion P (last_that test xs)
      → AllByRecursion P (if later then last_that test xs else if here then x ∷ [] else [])
  all-by true here x xs p h = h
  all-by false true x xs p h = (p, tt)
  all-by false false x xs p h = tt

  pub all-last : (xs : List A) → AllByRecursion P xs → AllByRecursion P (last_that test xs)
  all-last [] h = tt
  all-last (x ∷ xs) h = all-by (list_any test xs) (test x) x xs h.0 (all-last xs h.1)

-- where only one can pass, it is the one at this place
module _ {A : Type 0} (test : A → Bool) where
  any-at : (xs : List A) (n : ℕ) (x : A) → slice_get xs n ≡ Some x → test x ≡ true → list_any test xs ≡ true
  any-at [] n x e h = absurd (let no : None ≡ Some x = e in cc)
  any-at (y ∷ xs) zero x e h = let same : y ≡ x = cc in ap (λ b. b || list_any test xs) (ap test same ∙ h)
  any-at (y ∷ xs) (suc n) x e h = or_right (test y) _ (any-at xs n x e h)

  one-by : (later here : Bool) (y : A) (xs : List A) (n : ℕ) (x : A) → list_any test xs ≡ later → test y ≡ here
      → (here ≡ true → later ≡ false) → slice_get (y ∷ xs) n ≡ Some x → test x ≡ true
      → ((m : ℕ) → slice_get xs m ≡ Some x → last_that test xs ≡ x ∷ [])
      → (if later then last_that test xs else if here then y ∷ [] else []) ≡ x ∷ []
  one-by later true y xs zero x l e one at h go =
      let same : y ≡ x = cc in ap (λ b. if b then last_that test xs else y ∷ []) (one refl) ∙ ap (λ z. z ∷ []) same
  one-by later false y xs zero x l e one at h go =
      let same : y ≡ x = cc in absurd (let no : true ≡ false = sym h ∙ sym (ap test same) ∙ e in cc)
  one-by true here y xs (suc n) x l e one at h go = go n at
  one-by false here y xs (suc n) x l e one at h go =
      absurd (let no : true ≡ false = sym (any-at xs n x at h) ∙ l in cc)

  pub only-that : (xs : List A) (n : ℕ) (x : A) → AtMostOne test xs → slice_get xs n ≡ Some x → test x ≡ true
      → last_that test xs ≡ x ∷ []
  only-that [] n x one at h = absurd (let no : None ≡ Some x = at in cc)
  only-that (y ∷ xs) n x one at h =
      one-by (list_any test xs) (test y) y xs n x refl refl one.0 at h (λ m e. only-that xs m x one.1 e h)

-- the last one, by what is shown of each
module _ {X Y : Type 0} (test : X → Bool) (check : Y → Bool) (shown : X → Y) (same : (x : X) → check (shown x) ≡ test x)
  where
    that-by : (later later' here here' : Bool) (x : X) (xs : List X) → later' ≡ later → here' ≡ here
        → map shown (last_that test xs) ≡ last_that check (map shown xs)
        → map shown (if later then last_that test xs else if here then x ∷ [] else [])
        ≡ (if later' then last_that check (map shown xs) else if here' then shown x ∷ [] else [])
    that-by true true here here' x xs l e rest = rest
    that-by true false here here' x xs l e rest = absurd (let no : false ≡ true = l in cc)
    that-by false true here here' x xs l e rest = absurd (let no : true ≡ false = l in cc)
    that-by false false true true x xs l e rest = refl
    that-by false false true false x xs l e rest = absurd (let no : false ≡ true = e in cc)
    that-by false false false true x xs l e rest = absurd (let no : true ≡ false = e in cc)
    that-by false false false false x xs l e rest = refl

    any-shown : (xs : List X) → list_any check (map shown xs) ≡ list_any test xs
    any-shown [] = refl
    any-shown (x ∷ xs) =
        ap (λ b. b || list_any check (map shown xs)) (same x) ∙ ap (λ b. test x || b) (any-shown xs)

    pub shown-that : (xs : List X) → map shown (last_that test xs) ≡ last_that check (map shown xs)
    shown-that [] = refl
    shown-that (x ∷ xs) =
        that-by (list_any test xs) (list_any check (map shown xs)) (test x) (check (shown x)) x xs (any-shown xs) (same x)
        (shown-that xs)

-- ---- lists that are changed

-- where f makes q of what p is
module _ {X Y : Type 0} (p : X → Bool) (q : Y → Bool) (f : X → Y) (same : (x : X) → q (f x) ≡ p x) where
  pub any-mapped : (xs : List X) → list_any q (map f xs) ≡ list_any p xs
  any-mapped [] = refl
  any-mapped (x ∷ xs) = ap (λ b. b || list_any q (map f xs)) (same x) ∙ ap (λ b. p x || b) (any-mapped xs)

  pub one-mapped : (xs : List X) → AtMostOne p xs → AtMostOne q (map f xs)
  one-mapped [] h = tt
  one-mapped (x ∷ xs) h = (λ e. any-mapped xs ∙ h.0 (sym (same x) ∙ e), one-mapped xs h.1)

module _ {X Y : Type 0} (q : Y → Bool) (f : X → Y) (none : (x : X) → q (f x) ≡ false) where
  pub none-mapped : (xs : List X) → list_any q (map f xs) ≡ false
  none-mapped [] = refl
  none-mapped (x ∷ xs) = or_from (q (f x)) (list_any q (map f xs)) (none x) (none-mapped xs)

  pub no-one-mapped : (xs : List X) → AtMostOne q (map f xs)
  no-one-mapped [] = tt
  no-one-mapped (x ∷ xs) = (λ e. none-mapped xs, no-one-mapped xs)

module _ {X : Type 0} (test : X → Bool) where
  pub any-pushed : (xs : List X) (y : X) → list_any test (xs ++ y ∷ []) ≡ (list_any test xs || test y)
  any-pushed xs y = list_any-append test xs (y ∷ []) ∙ ap (λ b. list_any test xs || b) (or-false (test y))

  pushed-by : (b : Bool) (xs : List X) (y x : X) → test y ≡ b → AtMostOne test (x ∷ xs)
      → (test y ≡ true → list_any test (x ∷ xs) ≡ false) → test x ≡ true → list_any test (xs ++ y ∷ []) ≡ false
  pushed-by true xs y x e h k is =
      absurd (no-both (test x) is (or_parts (test x) (list_any test xs) (k e)).0)
  pushed-by false xs y x e h k is = any-pushed xs y ∙ or_from (list_any test xs) (test y) (h.0 is) e

  pub one-pushed : (xs : List X) (y : X) → AtMostOne test xs → (test y ≡ true → list_any test xs ≡ false)
      → AtMostOne test (xs ++ y ∷ [])
  one-pushed [] y h k = (λ e. refl, tt)
  one-pushed (x ∷ xs) y h k = (
    λ is. pushed-by (test y) xs y x refl h k is,
    one-pushed xs y h.1 (λ e. (or_parts (test x) (list_any test xs) (k e)).1),
  )

  module _ (f : X → X) where
    -- what passes the test is changed so
    abbrev pub pick : X → X
    pick x = if test x then f x else x

    none-picked : (xs : List X) → list_any test xs ≡ false → map pick xs ≡ xs
    none-picked [] h = refl
    none-picked (x ∷ xs) h =
        ap (λ b. (if b then f x else x) ∷ map pick xs) (or_parts (test x) (list_any test xs) h).0
        ∙ ap (λ ys. x ∷ ys) (none-picked xs (or_parts (test x) (list_any test xs) h).1)

    only-by : (later here : Bool) (x : X) (xs : List X) → list_any test xs ≡ later → test x ≡ here
        → AtMostOne test (x ∷ xs) → change_last test f xs ≡ map pick xs
        → (if later then x ∷ change_last test f xs else if here then f x ∷ xs else x ∷ xs)
        ≡ (if here then f x else x) ∷ map pick xs
    only-by true true x xs l e h rest = absurd (no-both (list_any test xs) l (h.0 e))
    only-by true false x xs l e h rest = ap (λ ys. x ∷ ys) rest
    only-by false true x xs l e h rest = ap (λ ys. f x ∷ ys) (sym (none-picked xs l))
    only-by false false x xs l e h rest = ap (λ ys. x ∷ ys) (sym (none-picked xs l))

    -- where at most one passes it, that one is changed
    pub only-changed : (xs : List X) → AtMostOne test xs → change_last test f xs ≡ map pick xs
    only-changed [] h = refl
    only-changed (x ∷ xs) h =
        only-by (list_any test xs) (test x) x xs refl refl h (only-changed xs h.1)

-- where f and g go together, what is shown of the changed list is the changed list of what is shown
module _ {X Y : Type 0} (test : X → Bool) (check : Y → Bool) (f : X → X) (g : Y → Y) (shown : X → Y)
    (same : (x : X) → check (shown x) ≡ test x) (goes : (x : X) → shown (f x) ≡ g (shown x)) where
  shown-by : (later later' here here' : Bool) (x : X) (xs : List X) → later' ≡ later → here' ≡ here
      → map shown (change_last test f xs) ≡ change_last check g (map shown xs)
      → map shown (if later then x ∷ change_last test f xs else if here then f x ∷ xs else x ∷ xs)
      ≡ (if later' then shown x ∷ change_last check g (map shown xs)
      else if here' then g (shown x) ∷ map shown xs
      else shown x ∷ map shown xs)
  shown-by true true here here' x xs l e rest = ap (λ ys. shown x ∷ ys) rest
  shown-by true false here here' x xs l e rest = absurd (let no : false ≡ true = l in cc)
  shown-by false true here here' x xs l e rest = absurd (let no : true ≡ false = l in cc)
  shown-by false false true true x xs l e rest = ap (λ y. y ∷ map shown xs) (goes x)
  shown-by false false true false x xs l e rest = absurd (let no : false ≡ true = e in cc)
  shown-by false false false true x xs l e rest = absurd (let no : true ≡ false = e in cc)
  shown-by false false false false x xs l e rest = refl

  pub shown-changed : (xs : List X) → map shown (change_last test f xs) ≡ change_last check g (map shown xs)
  shown-changed [] = refl
  shown-changed (x ∷ xs) =
      shown-by (list_any test xs) (list_any check (map shown xs)) (test x) (check (shown x)) x xs
      (any-mapped test check shown same xs) (same x) (shown-changed xs)

unchanged-by : {X : Type 0} (test : X → Bool) (f : X → X) (later here : Bool) (x : X) (xs : List X) → f x ≡ x
    → change_last test f xs ≡ xs
    → (if later then x ∷ change_last test f xs else if here then f x ∷ xs else x ∷ xs) ≡ x ∷ xs
unchanged-by test f true here x xs e rest = ap (λ ys. x ∷ ys) rest
unchanged-by test f false true x xs e rest = ap (λ y. y ∷ xs) e
unchanged-by test f false false x xs e rest = refl

pub unchanged : {X : Type 0} (test : X → Bool) (f : X → X) → ((x : X) → f x ≡ x) → (xs : List X)
    → change_last test f xs ≡ xs
unchanged test f same [] = refl
unchanged test f same (x ∷ xs) =
    unchanged-by test f (list_any test xs) (test x) x xs (same x) (unchanged test f same xs)

-- ---- stories of a key

pub on-live : (key : ℕ) (t : Story) → is_on key t ≡ true → t.session.ended ≡ false
on-live key t h = not-true t.session.ended (and_parts (not t.session.ended) (t.session.client == key) h).0

pub on-key : (key : ℕ) (t : Story) → is_on key t ≡ true → t.session.client ≡ key
on-key key t h = of-key key t.session h

pub off-key : (key : ℕ) (t : Story) → is_on key t ≡ false → t.session.ended ≡ false
    → (t.session.client == key) ≡ false
off-key key t h live = sym (ap (λ b. not b && (t.session.client == key)) live) ∙ h

pub other-key : (key other : ℕ) → (other == key) ≡ false → (key == other) ≡ false
other-key key other h = grind (arith, nat_tests)

-- one of another key isn't of this one
pub off-other : (key other : ℕ) (t : Story) → (other == key) ≡ false → is_on key t ≡ true → is_on other t ≡ false
off-other key other t e h =
    and-none (not t.session.ended) (t.session.client == other)
    (ap (λ k. k == other) (on-key key t h) ∙ other-key key other e)

-- what is picked and stays on its keys
module _ (key : ℕ) (f : Story → Story) where
  picked-by : (b : Bool) (k : ℕ) (t : Story) → is_on key t ≡ b → is_on k (f t) ≡ is_on k t
      → is_on k (if b then f t else t) ≡ is_on k t
  picked-by true k t e same = same
  picked-by false k t e same = refl

  pub picked-on : ((k : ℕ) (t : Story) → is_on k (f t) ≡ is_on k t) → (k : ℕ) (t : Story)
      → is_on k (pick (is_on key) f t) ≡ is_on k t
  picked-on same k t = picked-by (is_on key t) k t refl (same k t)

-- one that ends
ends-by : (b : Bool) (key : ℕ) (t : Story) → is_on key t ≡ b
    → is_on key (if b then with_session ended t else t) ≡ false
ends-by true key t e = refl
ends-by false key t e = e

pub ends-on : (key : ℕ) (t : Story) → is_on key (pick (is_on key) (with_session ended) t) ≡ false
ends-on key t = ends-by (is_on key t) key t refl

ends-other-by : (b : Bool) (key other : ℕ) (t : Story) → (other == key) ≡ false → is_on key t ≡ b
    → is_on other (if b then with_session ended t else t) ≡ is_on other t
ends-other-by true key other t apart e = sym (off-other key other t apart e)
ends-other-by false key other t apart e = refl

pub ends-other : (key other : ℕ) → (other == key) ≡ false → (t : Story)
    → is_on other (pick (is_on key) (with_session ended) t) ≡ is_on other t
ends-other key other apart t = ends-other-by (is_on key t) key other t apart refl

-- ---- clients

-- this is at the key
abbrev pub put : HubState as_reported → ℕ → Option ClientState → HubState as_reported
put h key slot = record h { clients = with_client h.clients key slot }

module _ (clients : ℕ → Option ClientState) (key : ℕ) (slot : Option ClientState) where
  pub at-key : with_client clients key slot key ≡ slot
  at-key = ap (λ b. if b then slot else clients key) (eq-eqb key key refl)

  pub at-other : (other : ℕ) → (other == key) ≡ false → with_client clients key slot other ≡ clients other
  at-other other e = ap (λ b. if b then slot else clients other) e

  at-known-by : (other : ℕ) (c : ClientState) (b : Bool) → (other == key) ≡ b → clients key ≡ None
      → clients other ≡ Some c → with_client clients key slot other ≡ Some c
  at-known-by other c true e free at =
      let no : None ≡ Some c = sym free ∙ ap clients (sym (eqb-true other key e)) ∙ at in absurd (cc)
  at-known-by other c false e free at = at-other other e ∙ at

  -- a client of another key than a free one
  pub at-known : (other : ℕ) (c : ClientState) → clients key ≡ None → clients other ≡ Some c
      → with_client clients key slot other ≡ Some c
  at-known other c free at = at-known-by other c (other == key) refl free at
