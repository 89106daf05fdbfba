-- Ground text, byte by byte.
use Rattle.std.proofs.Common.{◌≡◌, ℕ, Bool, true, false, not, ◌&&◌, ◌||◌, List, [], ◌∷◌, ◌++◌, length}
use Rattle.std.proofs.Common.{◌==◌, if◌then◌else◌, refl, sym, ◌∙◌, ap, subst, inl, inr, append-nil}
use Rattle.std.specs.List.{All, filter}
use Rattle.std.proofs.Math.Bool.{and-true, and-false}
use Rattle.vte_core.specs.Event.{Event}
use Rattle.vte_core.specs.Bytes.{is_esc, is_abort, is_control, is_intermediate, is_header, ends_header, ends_escape}
use Rattle.vte_core.specs.Bytes.{ends_osc, ends_device}
use Rattle.vte_core.specs.Header.{is_well_formed}
use Rattle.vte_core.specs.Shapes.{before, from, cut_at_esc}
use Rattle.vte_core.specs.GroundText as ground
use Rattle.vte_core.specs.GroundText.{past_device, past_introduced, past_final, last_text_of, has_bytes, ends_in_text}
use Rattle.vte_core.specs.Pending.{Pending, InText, InEscape, InCsi, InOsc, InHook, InDevice, InSwallowed, kept}
use Rattle.vte_core.specs.Pending.{final_rest, byte_rest, events_of_byte, after_bytes, pending}
use Rattle.vte_core.specs.Stopping.{is_text}
use Rattle.vte_core.specs.Laws.{IsCharacter, TellsCharacters}
use Rattle.vte_core.proofs.AddedLemmas.{added-from}
use Rattle.vte_core.proofs.LawLemmas.{text_holds}
use Rattle.vte_core.proofs.Machine.{filter-kept}
use Rattle.vte_core.proofs.Characters.{bool_cases, ifs_agree}

-- text is pending
pub text_is : (q : Pending) → is_text q ≡ true → (u : List ℕ) × (q ≡ InText u)
text_is (InText u) h = (u, refl)
text_is (InEscape is) h = cc
text_is (InCsi x) h = cc
text_is (InOsc d) h = cc
text_is (InHook x) h = cc
text_is InDevice h = cc
text_is InSwallowed h = cc

-- the ground text that a segment ends in, read from what is pending
abbrev pub text_on : Pending → List ℕ → List ℕ
text_on (InText u) s = s
text_on (InEscape is) s = past_final (is ++ filter is_intermediate (before ends_escape s)) (from ends_escape s)
text_on (InCsi h) s = ground.past ends_header s
text_on (InOsc d) s = ground.past ends_osc s
text_on (InHook h) s = past_device (h ++ filter is_header (before ends_header s)) (from ends_header s)
text_on InDevice s = ground.past ends_device s
text_on InSwallowed s = ground.past is_abort s

-- a byte that ends the shape, and one that doesn't
past-byte : (p : ℕ → Bool) (q : Pending) (b : ℕ) (s : List ℕ) → text_on q s ≡ ground.past p s
    → ground.past p (b ∷ s) ≡ text_on (if p b then InText [] else q) s
past-byte p q b s same = elim (bool_cases (p b)) [ inl e ↦ rw e refl | inr e ↦ rw e (sym same) ]

device-byte : (h : List ℕ) (b : ℕ) (s : List ℕ) → text_on (InHook h) (b ∷ s) ≡ text_on (byte_rest (InHook h) b) s
device-byte h b s =
    elim (bool_cases (ends_header b)) [
      | inl e ↦ rw (e, append-nil h) (elim (bool_cases (is_abort b)) [
        | inl a ↦ rw a refl
        | inr a ↦ rw a (elim (bool_cases (is_well_formed h)) [ inl w ↦ rw w refl | inr w ↦ rw w refl ])
      ])
      | inr e ↦ rw e (rw (filter-kept is_header h b (before ends_header s)) refl)
    ]

introduced-byte : (is : List ℕ) (b : ℕ) (s : List ℕ) → past_introduced is b s ≡ text_on (final_rest is b) s
introduced-byte is b s =
    let on = λ (q : Pending). text_on q s in
    ifs_agree on (length is == 0 && b == 0x5B) refl (ifs_agree on (length is == 0 && b == 0x5D) refl
    (ifs_agree on (length is == 0 && b == 0x50) refl
    (ifs_agree on (length is == 0 && (b == 0x58 || (b == 0x5E || b == 0x5F))) refl refl)))

escape-byte : (is : List ℕ) (b : ℕ) (s : List ℕ) → text_on (InEscape is) (b ∷ s) ≡ text_on (byte_rest (InEscape is) b) s
escape-byte is b s =
    elim (bool_cases (ends_escape b)) [
      | inl e ↦ rw (e, append-nil is) (elim (bool_cases (is_abort b))
          [ inl a ↦ rw a refl | inr a ↦ rw a (introduced-byte is b s) ])
      | inr e ↦ rw e (rw (filter-kept is_intermediate is b (before ends_escape s)) refl)
    ]

-- a byte of a shape
shape-byte : (q : Pending) (b : ℕ) (s : List ℕ) → is_text q ≡ false → text_on q (b ∷ s) ≡ text_on (byte_rest q b) s
shape-byte (InText u) b s h = absurd (let no : true ≡ false = h in cc)
shape-byte (InEscape is) b s h = escape-byte is b s
shape-byte (InCsi x) b s h = past-byte ends_header (InCsi (x ++ kept is_header b)) b s refl
shape-byte (InOsc d) b s h = past-byte ends_osc (InOsc (d ++ kept (λ c. not (is_control c)) b)) b s refl
shape-byte (InHook x) b s h = device-byte x b s
shape-byte InDevice b s h = past-byte ends_device InDevice b s refl
shape-byte InSwallowed b s h = past-byte is_abort InSwallowed b s refl

none_left : (q : Pending) → text_on q [] ≡ []
none_left (InText u) = refl
none_left (InEscape is) = refl
none_left (InCsi h) = refl
none_left (InOsc d) = refl
none_left (InHook h) = refl
none_left InDevice = refl
none_left InSwallowed = refl

-- the ground text that the bytes end in, read from what is pending
abbrev pub last_on : Pending → List ℕ → List ℕ
last_on q bs = last_text_of (text_on q (cut_at_esc bs).0) (cut_at_esc bs).1

-- one byte more before a text that isn't empty
grown_by : (c d : ℕ) (s : List ℕ) (ts : List (List ℕ))
    → has_bytes (last_text_of (c ∷ d ∷ s) ts) ≡ has_bytes (last_text_of (d ∷ s) ts)
grown_by c d s [] = refl
grown_by c d s (t ∷ ts) = refl

grown : (c : ℕ) (bs : List ℕ) (b : ℕ) → let r = cut_at_esc (bs ++ b ∷ [])
    in has_bytes (last_text_of (c ∷ r.0) r.1) ≡ has_bytes (last_text_of r.0 r.1)
grown c [] b = elim (bool_cases (is_esc b)) [ inl e ↦ rw e refl | inr e ↦ rw e refl ]
grown c (d ∷ bs) b =
    elim (bool_cases (is_esc d)) [
      | inl e ↦ rw e refl
      | inr e ↦ rw e (grown_by c d (cut_at_esc (bs ++ b ∷ [])).0 (cut_at_esc (bs ++ b ∷ [])).1)
    ]

byte_more : (q : Pending) (c : ℕ) (bs : List ℕ) (b : ℕ) → let r = cut_at_esc (bs ++ b ∷ [])
    in has_bytes (last_text_of (text_on q (c ∷ r.0)) r.1) ≡ has_bytes (last_on (byte_rest q c) (bs ++ b ∷ []))
byte_more q c bs b = elim (bool_cases (is_text q)) [
  | inl e ↦ let (u, is) = text_is q e in rw is (grown c bs b)
  | inr e ↦
      let r = cut_at_esc (bs ++ b ∷ []) in
      ap (λ (s : List ℕ). has_bytes (last_text_of s r.1)) (shape-byte q c r.0 e)
]

last_byte : (q : Pending) (b : ℕ) → has_bytes (text_on q (b ∷ [])) ≡ is_text q
last_byte q b = elim (bool_cases (is_text q)) [
  | inl e ↦ let (u, is) = text_is q e in rw is refl
  | inr e ↦ ap has_bytes (shape-byte q b [] e ∙ none_left (byte_rest q b)) ∙ sym e
]

-- the last byte is ground text where text was pending before it, and it isn't ESC
ends_on : (q : Pending) (bs : List ℕ) (b : ℕ) → has_bytes (last_on q (bs ++ b ∷ []))
    ≡ (is_text (after_bytes q bs) && not (is_esc b))
ends_on q [] b =
    elim (bool_cases (is_esc b)) [
      | inl e ↦ rw e (sym (and-false (is_text q)))
      | inr e ↦ rw e (last_byte q b ∙ sym (and-true (is_text q)))
    ]
ends_on q (c ∷ bs) b =
    elim (bool_cases (is_esc c)) [
      | inl e ↦ rw e (ends_on (InEscape []) bs b)
      | inr e ↦ rw e (byte_more q c bs b ∙ ends_on (byte_rest q c) bs b)
    ]

pub ends_in_text-last : (past : List ℕ) (b : ℕ) → ends_in_text (past ++ b ∷ [])
    ≡ (is_text (pending past) && not (is_esc b))
ends_in_text-last past b = ends_on (InText []) past b

-- ground text prints characters and executes controls

of_byte_are : (n : ℕ) (q : Pending) (b : ℕ) → (is_text q && not (is_esc b)) ≡ true
    → All IsCharacter (events_of_byte n q b)
of_byte_are n (InText u) b h =
    elim (bool_cases (is_esc b)) [
      | inl e ↦ absurd (let no : false ≡ true = rw e at h in cc)
      | inr e ↦ rw e (text_holds IsCharacter (λ c. tt) (λ c. tt) u b)
    ]
of_byte_are n (InEscape is) b h = cc
of_byte_are n (InCsi x) b h = cc
of_byte_are n (InOsc s) b h = cc
of_byte_are n (InHook x) b h = cc
of_byte_are n InDevice b h = cc
of_byte_are n InSwallowed b h = cc

pub text-tells : TellsCharacters
text-tells n past b h =
    let q = pending past in
    let reported : All IsCharacter (events_of_byte n q b) = of_byte_are n q b (sym (ends_in_text-last past b) ∙ h) in
    subst (λ (es : List Event). All IsCharacter es)
    (sym (added-from n past (b ∷ []) ∙ append-nil (events_of_byte n q b))) reported
