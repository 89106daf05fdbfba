-- What holds of all sets that are in use or saved goes on to hold after control sequences.
use Rattle.std.proofs.Common.{ℕ, Bool, true, false, List, [], ◌∷◌, ◌==◌, ◌&&◌, ◌||◌, if◌then◌else◌, Option, None}
use Rattle.vte_core.proofs.Characters.{if_holds}
use Rattle.vte_types.specs.declared.charset.CharsetIndex.{CharsetIndex}
use Rattle.charset_filter.specs.Sets.{ascii, saved, restored, showing, reset_softly, after_mode, after_modes}
use Rattle.charset_filter.specs.Sets.{after_csi, is_bare}
use Rattle.charset_filter.specs.declared.sets.Designations.{Designations}
use Rattle.charset_filter.specs.declared.sets.CharacterSets.{CharacterSets}

-- P of the sets in use and of the saved ones, and Q of the pending single shift
pub record Holds (P : Designations → Type 0) (Q : Option CharsetIndex → Type 0) (s : CharacterSets) : Type 0 where
  pub current : P s.current
  pub single : Q s.single
  pub main : P s.main_saved
  pub alternate : P s.alternate_saved

pub holds-either : (P : Designations → Type 0) (Q : Option CharsetIndex → Type 0) (v : Bool) (x y : CharacterSets)
    → Holds P Q x → Holds P Q y → Holds P Q (if v then x else y)
holds-either P Q v x y h k = if_holds (Holds P Q) v x y h k

pub holds-saved : (P : Designations → Type 0) (Q : Option CharsetIndex → Type 0) (s : CharacterSets) → Holds P Q s
    → Holds P Q (saved s)
holds-saved P Q s h = holds-either P Q s.alternate _ _
    (record { current = h.current; single = h.single; main = h.main; alternate = h.current })
    (record { current = h.current; single = h.single; main = h.current; alternate = h.alternate })

pub holds-restored : (P : Designations → Type 0) (Q : Option CharsetIndex → Type 0) (s : CharacterSets) → Holds P Q s
    → Holds P Q (restored s)
holds-restored P Q s h = record {
  current = if_holds P s.alternate s.alternate_saved s.main_saved h.alternate h.main;
  single = h.single;
  main = h.main;
  alternate = h.alternate;
}

holds-showing : (P : Designations → Type 0) (Q : Option CharsetIndex → Type 0) (v : Bool) (s : CharacterSets)
    → Holds P Q s → Holds P Q (showing v s)
holds-showing P Q v s h =
    record { current = h.current; single = h.single; main = h.main; alternate = h.alternate }

holds-mode : (P : Designations → Type 0) (Q : Option CharsetIndex → Type 0) (set : Bool) (s : CharacterSets)
    (g : List ℕ) → Holds P Q s → Holds P Q (after_mode set s g)
holds-mode P Q set s [] h = h
holds-mode P Q set s (m ∷ []) h = holds-either P Q (m == 47 || m == 1047) _ _ (holds-showing P Q set s h)
    (holds-either P Q (m == 1048) _ _
    (holds-either P Q set _ _ (holds-saved P Q s h) (holds-restored P Q s h))
    (holds-either P Q (m == 1049) _ _
    (holds-either P Q set _ _ (holds-showing P Q true (saved s) (holds-saved P Q s h))
    (holds-restored P Q (showing false s) (holds-showing P Q false s h))) h))
holds-mode P Q set s (m ∷ n ∷ ms) h = h

holds-modes : (P : Designations → Type 0) (Q : Option CharsetIndex → Type 0) (set : Bool) (s : CharacterSets)
    (groups : List (List ℕ)) → Holds P Q s → Holds P Q (after_modes set s groups)
holds-modes P Q set s [] h = h
holds-modes P Q set s (g ∷ gs) h = holds-modes P Q set (after_mode set s g) gs (holds-mode P Q set s g h)

holds-reset : (P : Designations → Type 0) (Q : Option CharsetIndex → Type 0) (s : CharacterSets) → P ascii → Q None
    → Holds P Q s → Holds P Q (reset_softly s)
holds-reset P Q s p q h = holds-saved P Q (record s { current = ascii; single = None })
    (record { current = p; single = q; main = h.main; alternate = h.alternate })

pub holds-csi : (P : Designations → Type 0) (Q : Option CharsetIndex → Type 0) (s : CharacterSets)
    (groups : List (List ℕ)) (is : List ℕ) (f : ℕ) → P ascii → Q None → Holds P Q s
    → Holds P Q (after_csi s groups is f)
holds-csi P Q s groups [] f p q h = holds-either P Q (is_bare groups && f == 0x73) _ _ (holds-saved P Q s h)
    (holds-either P Q (is_bare groups && f == 0x75) _ _ (holds-restored P Q s h) h)
holds-csi P Q s groups (i ∷ []) f p q h = holds-either P Q (i == 0x21 && f == 0x70) _ _ (holds-reset P Q s p q h)
    (holds-either P Q (i == 0x3F && f == 0x68) _ _ (holds-modes P Q true s groups h)
    (holds-either P Q (i == 0x3F && f == 0x6C) _ _ (holds-modes P Q false s groups h) h))
holds-csi P Q s groups (i ∷ j ∷ is) f p q h = h
