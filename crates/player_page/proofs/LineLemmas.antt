-- Lines, and the numbers that they say.
use Rattle.std.proofs.Common.{◌≡◌, ◌⊎◌, ◌<◌, ◌≤◌, ◌+◌, ◌++◌, ◌∙◌, ℕ, zero, suc, List, [], ◌∷◌, ap, append-nil}
use Rattle.std.proofs.Common.{arith, append_assoc, get_or, inl, inr, length, refl, set, subst, sym, take}
use Rattle.std.specs.List.{flat_map}
use Rattle.std.proofs.lemmas.Grind.{flat_map-append}
use Rattle.std.proofs.lemmas.List.{ext_get_or, get_or-set_other, get_or-set_same, length-set}
use Rattle.picture_page.specs.Bytes.{numbers_bytes}
use Rattle.picture_page.specs.Page.{Adds}
use Rattle.picture_page.specs.Tags.{tag_bytes}
use Rattle.picture_page.specs.declared.tag.Tag.TheVariants as tag
use Rattle.picture_page.proofs.PageLemmas.{after_markup, joined_more}
use Rattle.player_page.specs.Lines.{Say, changed, spaced}
use Rattle.player_page.specs.Lines.Say.{all, changes}
use Rattle.player_page.specs.Strips.{AddsNumbers}

-- ---- one after another

-- one item more of those that are taken from the left
pub one_more : {A : Type 0} (f : A → List ℕ) (head a b c : List ℕ) (xs : List A) (i : ℕ) (x : A)
    → take (i + 1) xs ≡ take i xs ++ x ∷ [] → b ≡ a ++ (head ++ flat_map f (take i xs)) → c ≡ b ++ f x
    → c ≡ a ++ (head ++ flat_map f (take (i + 1) xs))
one_more f head a b c xs i x more first second =
    joined_more a b c (head ++ flat_map f (take i xs)) (f x) first second
    ∙ ap (λ bs. a ++ bs) (append_assoc head (flat_map f (take i xs)) (f x)
    ∙ ap (λ bs. head ++ bs) (sym (ap (flat_map f) more ∙ flat_map-append f (take i xs) (x ∷ [])
    ∙ ap (λ bs. flat_map f (take i xs) ++ bs) (append-nil (f x)))))

pub none_yet : {A : Type 0} (f : A → List ℕ) (head a b : List ℕ) → b ≡ a ++ head → b ≡ a ++ (head ++ flat_map f [])
none_yet f head a b is = is ∙ ap (λ bs. a ++ bs) (sym (append-nil head))

-- ---- numbers that differ

changed-push : (numbers : List ℕ) (cs : List (ℕ × ℕ)) (c : ℕ × ℕ)
    → changed numbers (cs ++ c ∷ []) ≡ set (changed numbers cs) c.0 c.1
changed-push numbers [] c = refl
changed-push numbers (d ∷ cs) c = changed-push (set numbers d.0 d.1) cs c

length-changed : (numbers : List ℕ) (cs : List (ℕ × ℕ)) → length (changed numbers cs) ≡ length numbers
length-changed numbers [] = refl
length-changed numbers (c ∷ cs) = length-changed (set numbers c.0 c.1) cs ∙ length-set numbers c.0 c.1

abbrev pub pairs : List (ℕ × ℕ) → List ℕ
pairs cs = flat_map (λ c. spaced (c.0 ∷ c.1 ∷ [])) cs

-- the changes so far come after the mark, and make the first numbers those that are shown now
pub record ChangesSoFar (old new : List ℕ) (i : ℕ) (a b : List ℕ) : Type 0 where
  pub cs : List (ℕ × ℕ)
  pub joined : b ≡ a ++ (tag_bytes tag.Changed ++ pairs cs)
  pub adds : Adds a b []
  pub done : (k : ℕ) → k < i → get_or (changed old cs) k 0 ≡ get_or new k 0
  pub left : (k : ℕ) → i ≤ k → get_or (changed old cs) k 0 ≡ get_or old k 0

pub no_changes : (old new a b : List ℕ) → b ≡ a ++ tag_bytes tag.Changed → Adds a b [] → ChangesSoFar old new 0 a b
no_changes old new a b is adds = record {
  cs = [];
  joined = is ∙ ap (λ xs. a ++ xs) (sym (append-nil (tag_bytes tag.Changed)));
  adds = adds;
  done = λ k lt. absurd (omega arith);
  left = λ k le. refl;
}

pub at_or_below : (k i : ℕ) → k < i + 1 → (k < i) ⊎ (k ≡ i)
at_or_below zero zero lt = inr refl
at_or_below zero (suc i) lt = inl (omega arith)
at_or_below (suc k) zero lt = absurd (omega arith)
at_or_below (suc k) (suc i) lt = by (at_or_below k i (omega arith))
  where
    by : (k < i) ⊎ (k ≡ i) → (suc k < suc i) ⊎ (suc k ≡ suc i)
    by (inl below) = inl (omega arith)
    by (inr same) = inr (ap suc same)

-- a number that is the same
pub no_change : (old new a b : List ℕ) (i : ℕ) → get_or old i 0 ≡ get_or new i 0 → ChangesSoFar old new i a b
    → ChangesSoFar old new (i + 1) a b
no_change old new a b i same so_far = record {
  cs = so_far.cs;
  joined = so_far.joined;
  adds = so_far.adds;
  done = λ k lt. by k (at_or_below k i lt);
  left = λ k le. so_far.left k (omega arith);
}
  where
    by : (k : ℕ) → (k < i) ⊎ (k ≡ i) → get_or (changed old so_far.cs) k 0 ≡ get_or new k 0
    by k (inl below) = so_far.done k below
    by k (inr is) = ap (λ j. get_or (changed old so_far.cs) j 0) is ∙ so_far.left i (omega arith) ∙ same
        ∙ ap (λ j. get_or new j 0) (sym is)

-- a number that differs
pub one_change : (old new a b c : List ℕ) (i n : ℕ) → i < length old → n ≡ get_or new i 0 → ChangesSoFar old new i a b
    → c ≡ b ++ numbers_bytes ((tag.Space, i) ∷ (tag.Space, n) ∷ []) → Adds b c [] → ChangesSoFar old new (i + 1) a c
one_change old new a b c i n lt is so_far joined adds = record {
  cs = so_far.cs ++ (i, n) ∷ [];
  joined = joined_more a b c (tag_bytes tag.Changed ++ pairs so_far.cs) (spaced (i ∷ n ∷ [])) so_far.joined
      (joined ∙ ap (λ xs. b ++ xs) spaces)
      ∙ ap (λ xs. a ++ xs) (append_assoc (tag_bytes tag.Changed) (pairs so_far.cs) (spaced (i ∷ n ∷ []))
      ∙ ap (λ xs. tag_bytes tag.Changed ++ xs) (sym (flat_map-append (λ (p : ℕ × ℕ). spaced (p.0 ∷ p.1 ∷ [])) so_far.cs
      ((i, n) ∷ []) ∙ ap (λ xs. pairs so_far.cs ++ xs) (append-nil (spaced (i ∷ n ∷ []))))));
  adds = after_markup a b c [] so_far.adds adds;
  done = λ k lt. by k (at_or_below k i lt);
  left = λ k le. ap (λ xs. get_or xs k 0) push
      ∙ get_or-set_other (changed old so_far.cs) i k n 0 (λ e. absurd (omega arith)) ∙ so_far.left k (omega arith);
}
  where
    spaces : numbers_bytes ((tag.Space, i) ∷ (tag.Space, n) ∷ []) ≡ spaced (i ∷ n ∷ [])
    spaces = refl

    push : changed old (so_far.cs ++ (i, n) ∷ []) ≡ set (changed old so_far.cs) i n
    push = changed-push old so_far.cs (i, n)

    by : (k : ℕ) → (k < i) ⊎ (k ≡ i) → get_or (changed old (so_far.cs ++ (i, n) ∷ [])) k 0 ≡ get_or new k 0
    by k (inl below) = ap (λ xs. get_or xs k 0) push
        ∙ get_or-set_other (changed old so_far.cs) i k n 0 (λ e. absurd (omega arith)) ∙ so_far.done k below
    by k (inr same) = ap (λ xs. get_or xs k 0) push ∙ ap (λ j. get_or (set (changed old so_far.cs) i n) j 0) same
        ∙ get_or-set_same (changed old so_far.cs) i n 0 (let len = length-changed old so_far.cs in omega arith)
        ∙ is ∙ ap (λ j. get_or new j 0) (sym same)

-- all changes
pub all_changes : (old new a b : List ℕ) (i : ℕ) → length old ≡ length new → length new ≤ i
    → ChangesSoFar old new i a b → AddsNumbers old new a b
all_changes old new a b i count end so_far = record {
  said = tag_bytes tag.Changed ++ pairs so_far.cs;
  joined = so_far.joined;
  say = subst (λ ns. Say old ns (tag_bytes tag.Changed ++ pairs so_far.cs)) is (changes so_far.cs);
  adds = so_far.adds;
}
  where
    len : length (changed old so_far.cs) ≡ length new
    len = length-changed old so_far.cs ∙ count

    is : changed old so_far.cs ≡ new
    is = ext_get_or 0 (changed old so_far.cs) new len (λ k lt. so_far.done k (let same = len in omega arith))

-- ---- all numbers

pub all_numbers : (before numbers a b : List ℕ) → b ≡ a ++ (tag_bytes tag.Whole ++ spaced numbers) → Adds a b []
    → AddsNumbers before numbers a b
all_numbers before numbers a b is adds = record {
  said = tag_bytes tag.Whole ++ spaced numbers;
  joined = is;
  say = all numbers;
  adds = adds;
}

-- ---- a page that is appended to another

pub text_appended : (old page new text : List ℕ) → new ≡ old ++ page → Adds [] page text → Adds old new text
text_appended old page new text is adds = record {
  parts = adds.parts;
  joined = is ∙ ap (λ xs. old ++ xs) adds.joined;
  text_is = adds.text_is;
}
