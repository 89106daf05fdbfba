-- The numbers of a header, byte by byte.
use Rattle.std.proofs.Common.{◌≡◌, ℕ, ◌+◌, ◌-◌, ◌*◌, min, Bool, true, false, List, [], ◌∷◌, ◌++◌, map, ◌==◌, refl, sym}
use Rattle.std.proofs.Common.{◌∙◌, ap}
use Rattle.std.proofs.lemmas.List.{map-append}
use Rattle.std.proofs.lemmas.List.Sums.{fold-append}
use Rattle.std.specs.List.{slice_split}
use Rattle.vte_core.specs.Header.{number, groups_of}
use Rattle.vte_core.specs.Reading.{AreNumbers, ReadsUpTo}
use Rattle.vte_core.specs.declared.numbers.Numbers.{Numbers}
use Rattle.vte_core.proofs.Headers.{split-yes, split-no, onto_last, onto_last-last}

abbrev group_of : List ℕ → List ℕ
group_of p = map number (slice_split (λ b. b == 0x3A) p)

split-digit : (p : ℕ → Bool) (m : List ℕ) (b : ℕ) (parts : List (List ℕ)) (last : List ℕ) → p b ≡ false
    → slice_split p m ≡ parts ++ last ∷ []
    → slice_split p (m ++ b ∷ []) ≡ parts ++ (last ++ b ∷ []) ∷ []
split-digit p m b parts last e h = split-no p m b e ∙ (ap (onto_last b) h ∙ onto_last-last b parts last)

split-cut : (p : ℕ → Bool) (m : List ℕ) (b : ℕ) (parts : List (List ℕ)) (last : List ℕ) → p b ≡ true
    → slice_split p m ≡ parts ++ last ∷ []
    → slice_split p (m ++ b ∷ []) ≡ (parts ++ last ∷ []) ++ [] ∷ []
split-cut p m b parts last e h = split-yes p m b e ∙ ap (λ r. r ++ [] ∷ []) h

-- the last group, whole
last_group : (m : List ℕ) (gs : List (List ℕ)) (g : List ℕ) (n : ℕ) (a : AreNumbers m gs g n)
    → group_of a.last ≡ g ++ n ∷ []
last_group m gs g n a = ap (map number) a.by_numbers
    ∙ (map-append number a.last_parts (a.digits ∷ []) ∙ (ap (λ r. r ++ number a.digits ∷ []) (sym a.are_group)
    ∙ ap (λ r. g ++ r ∷ []) (sym a.is_number)))

pub numbers-digit : (m : List ℕ) (gs : List (List ℕ)) (g : List ℕ) (n b : ℕ) → (b == 0x3B) ≡ false
    → (b == 0x3A) ≡ false → AreNumbers m gs g n
    → AreNumbers (m ++ b ∷ []) gs g (min 65535 (n * 10 + (b - 0x30)))
numbers-digit m gs g n b e f a = record {
  parts = a.parts;
  last = a.last ++ b ∷ [];
  last_parts = a.last_parts;
  digits = a.digits ++ b ∷ [];
  by_groups = split-digit _ m b a.parts a.last e a.by_groups;
  by_numbers = split-digit _ a.last b a.last_parts a.digits f a.by_numbers;
  are_groups = a.are_groups;
  are_group = a.are_group;
  is_number = ap (λ k. min 65535 (k * 10 + (b - 0x30))) a.is_number
      ∙ sym (fold-append (λ k d. min 65535 (k * 10 + (d - 0x30))) 0 a.digits (b ∷ []));
}

pub numbers-colon : (m : List ℕ) (gs : List (List ℕ)) (g : List ℕ) (n b : ℕ) → (b == 0x3B) ≡ false → (b == 0x3A) ≡ true
    → AreNumbers m gs g n
    → AreNumbers (m ++ b ∷ []) gs (g ++ n ∷ []) 0
numbers-colon m gs g n b e f a = record {
  parts = a.parts;
  last = a.last ++ b ∷ [];
  last_parts = a.last_parts ++ a.digits ∷ [];
  digits = [];
  by_groups = split-digit _ m b a.parts a.last e a.by_groups;
  by_numbers = split-cut _ a.last b a.last_parts a.digits f a.by_numbers;
  are_groups = a.are_groups;
  are_group = sym (map-append number a.last_parts (a.digits ∷ [])
      ∙ (ap (λ r. r ++ number a.digits ∷ []) (sym a.are_group) ∙ ap (λ r. g ++ r ∷ []) (sym a.is_number)));
  is_number = refl;
}

pub numbers-semicolon : (m : List ℕ) (gs : List (List ℕ)) (g : List ℕ) (n b : ℕ) → (b == 0x3B) ≡ true
    → AreNumbers m gs g n
    → AreNumbers (m ++ b ∷ []) (gs ++ (g ++ n ∷ []) ∷ []) [] 0
numbers-semicolon m gs g n b e a = record {
  parts = a.parts ++ a.last ∷ [];
  last = [];
  last_parts = [];
  digits = [];
  by_groups = split-cut _ m b a.parts a.last e a.by_groups;
  by_numbers = refl;
  are_groups = sym (map-append group_of a.parts (a.last ∷ [])
      ∙ (ap (λ r. r ++ group_of a.last ∷ []) (sym a.are_groups) ∙ ap (λ r. gs ++ r ∷ []) (last_group m gs g n a)));
  are_group = refl;
  is_number = refl;
}

pub numbers-whole : (m : List ℕ) (gs : List (List ℕ)) (g : List ℕ) (n : ℕ) → AreNumbers m gs g n
    → groups_of m ≡ gs ++ (g ++ n ∷ []) ∷ []
numbers-whole m gs g n a = ap (map group_of) a.by_groups
    ∙ (map-append group_of a.parts (a.last ∷ []) ∙ (ap (λ r. r ++ group_of a.last ∷ []) (sym a.are_groups)
    ∙ ap (λ r. gs ++ r ∷ []) (last_group m gs g n a)))

-- no numbers
pub numbers-none : (x : Numbers) → x.params ≡ [] → x.is_open ≡ false → x.many ≡ false → ReadsUpTo x 0 []
numbers-none x p o m = (
  [],
  [],
  record {
    parts = [];
    last = [];
    last_parts = [];
    digits = [];
    by_groups = refl;
    by_numbers = refl;
    are_groups = refl;
    are_group = refl;
    is_number = refl;
  },
  record { params = p; is_open = o; many = m },
)
