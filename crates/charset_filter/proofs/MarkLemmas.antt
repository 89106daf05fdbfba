-- Which bytes have an event that may have bytes behind it.
use Rattle.std.proofs.Common.{◌≡◌, ℕ, ◌+◌, Bool, true, false, ◌&&◌, ◌||◌, List, [], ◌∷◌, ◌++◌, length, take}
use Rattle.std.proofs.Common.{nat_lt, ◌==◌}
use Rattle.std.proofs.Common.{◌⊎◌, refl, inl, inr}
use Rattle.std.specs.Int.{is_in_range}
use Rattle.vte_core.specs.Event.{Event, Print, Execute, Csi, Esc}
use Rattle.vte_core.specs.Bytes.{is_esc, is_abort, is_control, is_put, ends_header, ends_escape, ends_osc, ends_device}
use Rattle.vte_core.specs.Text.{char_len, first_bits, joined, char_event}
use Rattle.vte_core.specs.Header.{is_well_formed, kept_groups, kept_intermediates, overflows}
use Rattle.vte_core.specs.Pending.{Pending, InText, InEscape, InCsi, InOsc, InHook, InDevice, InSwallowed}
use Rattle.vte_core.specs.Pending.{reported, goes_on, begun, text_reported, closed, events_of_byte, after_byte}
use Rattle.vte_core.proofs.Characters.{bool_cases, if_holds}
use Rattle.charset_filter.specs.Filter.{is_sequence}
use Rattle.charset_filter.proofs.EventLemmas.{unmarked}

abbrev Unmarked : List Event → Type 0
Unmarked es = unmarked es ≡ true

unmarked-reported : (p : ℕ → Bool) (b : ℕ) → Unmarked (reported p Execute b)
unmarked-reported p b = if_holds Unmarked (p b) (Execute b ∷ []) [] refl refl

unmarked-char : (c : ℕ) → Unmarked (char_event c ∷ [])
unmarked-char c = if_holds (λ (e : Event). Unmarked (e ∷ [])) (nat_lt c 0x20 || is_in_range 0x80 0x9F c) (Execute c)
    (Print c) refl refl

unmarked-begun : (b : ℕ) → Unmarked (begun b)
unmarked-begun b = if_holds Unmarked (char_len b == 1) _ _ (unmarked-char (first_bits b))
    (if_holds Unmarked (char_len b == 0) _ _
    (if_holds (λ (e : Event). Unmarked (e ∷ [])) (1 == 1 && is_in_range 0x80 0x9F b) (Execute b) (Print 0xFFFD) refl
    refl) refl)

unmarked-text : (u : List ℕ) (b : ℕ) → Unmarked (text_reported u b)
unmarked-text [] b = unmarked-begun b
unmarked-text (a ∷ t) b = if_holds Unmarked (goes_on a t b) _ _
    (if_holds Unmarked (length t + 2 == char_len a) _ _ (unmarked-char (joined (first_bits a) (t ++ b ∷ []))) refl)
    (unmarked-begun b)

unmarked-closed : (n : ℕ) (u : List ℕ) → Unmarked (closed n (InText u))
unmarked-closed n [] = refl
unmarked-closed n (a ∷ t) = refl

-- outside of sequences no byte has such an event
pub outside-unmarked : (n : ℕ) (q : Pending) (b : ℕ) → is_sequence q ≡ false → unmarked (events_of_byte n q b) ≡ true
outside-unmarked n (InText u) b h = if_holds Unmarked (is_esc b) _ _ (unmarked-closed n u) (unmarked-text u b)
outside-unmarked n (InEscape is) b h = absurd (let no : true ≡ false = h in cc)
outside-unmarked n (InCsi x) b h = absurd (let no : true ≡ false = h in cc)
outside-unmarked n (InOsc d) b h = if_holds Unmarked (is_esc b) _ _ refl
    (if_holds Unmarked (ends_osc b) _ _ (unmarked-reported is_abort b) refl)
outside-unmarked n (InHook x) b h = if_holds Unmarked (is_esc b) _ _ refl
    (if_holds Unmarked (ends_header b) _ _
    (if_holds Unmarked (is_abort b) _ _ refl (if_holds Unmarked (is_well_formed x) _ _ refl refl)) refl)
outside-unmarked n InDevice b h = if_holds Unmarked (is_esc b) _ _ refl
    (if_holds Unmarked (ends_device b) _ _ (unmarked-reported is_abort b) (if_holds Unmarked (is_put b) _ _ refl refl))
outside-unmarked n InSwallowed b h = if_holds Unmarked (is_esc b) _ _ refl (unmarked-reported is_abort b)

-- the byte ends a sequence with this event alone
pub record Ends (q : Pending) (b : ℕ) (e : Event) : Type 0 where
  pub events : (n : ℕ) → events_of_byte n q b ≡ e ∷ []
  pub rest : after_byte q b ≡ InText []

abbrev pub NoMark : Pending → ℕ → Type 0
NoMark q b = (n : ℕ) → unmarked (events_of_byte n q b) ≡ true

pub escape-ends : (is : List ℕ) (b : ℕ)
    → NoMark (InEscape is) b ⊎ Ends (InEscape is) b (Esc (take 2 is) (nat_lt 2 (length is)) b)
escape-ends is b = elim (bool_cases (is_esc b)) [
  | inl e ↦ inl (λ n. rw e refl)
  | inr e ↦ elim (bool_cases (ends_escape b)) [
    | inr f ↦ inl (λ n. rw f (if_holds Unmarked (is_esc b) _ _ refl (unmarked-reported is_control b)))
    | inl f ↦ elim (bool_cases (is_abort b)) [
      | inl g ↦ inl (λ n. rw (e, f, g) refl)
      | inr g ↦ elim (bool_cases (length is == 0 && b == 0x5B)) [
        | inl h ↦ inl (λ n. rw (e, f, g, h) refl)
        | inr h ↦ elim (bool_cases (length is == 0 && b == 0x5D)) [
          | inl i ↦ inl (λ n. rw (e, f, g, h, i) refl)
          | inr i ↦ elim (bool_cases (length is == 0 && b == 0x50)) [
            | inl j ↦ inl (λ n. rw (e, f, g, h, i, j) refl)
            | inr j ↦ elim (bool_cases (length is == 0 && (b == 0x58 || (b == 0x5E || b == 0x5F)))) [
              | inl k ↦ inl (λ n. rw (e, f, g, h, i, j, k) refl)
              | inr k ↦ inr (record {
                events = λ n. rw (e, f, g, h, i, j, k) refl;
                rest = rw (e, f, g, h, i, j, k) refl;
              })
            ]
          ]
        ]
      ]
    ]
  ]
]

pub csi-ends : (x : List ℕ) (b : ℕ)
    → NoMark (InCsi x) b ⊎ Ends (InCsi x) b (Csi (kept_groups x) (kept_intermediates x) (overflows x) b)
csi-ends x b = elim (bool_cases (is_esc b)) [
  | inl e ↦ inl (λ n. rw e refl)
  | inr e ↦ elim (bool_cases (ends_header b)) [
    | inr f ↦ inl (λ n. rw f (if_holds Unmarked (is_esc b) _ _ refl (unmarked-reported is_control b)))
    | inl f ↦ elim (bool_cases (is_abort b)) [
      | inl g ↦ inl (λ n. rw (e, f, g) refl)
      | inr g ↦ elim (bool_cases (is_well_formed x)) [
        | inl h ↦ inr (record { events = λ n. rw (e, f, g, h) refl; rest = rw (e, f) refl })
        | inr h ↦ inl (λ n. rw (e, f, g, h) refl)
      ]
    ]
  ]
]
