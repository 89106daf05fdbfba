-- Where an escape sequence or a control sequence is pending.
use Rattle.std.proofs.Common.{◌≡◌, ℕ, Bool, true, false, ◌&&◌, ◌||◌, List, length, ◌==◌, if◌then◌else◌, refl, sym}
use Rattle.std.proofs.Common.{◌∙◌, inl, inr, arith, true≢false}
use Rattle.std.proofs.lemmas.Bool.Decides.{nat_tests}
use Rattle.vte_core.specs.Bytes.{is_abort, is_esc, ends_device, ends_escape, ends_header, ends_osc}
use Rattle.vte_core.specs.Header.{is_well_formed}
use Rattle.vte_core.specs.Pending.{Pending, InText, InEscape, InCsi, InOsc, InHook, InDevice, InSwallowed}
use Rattle.vte_core.specs.Pending.{after_byte, byte_rest, final_rest}
use Rattle.vte_core.proofs.Characters.{bool_cases, if_holds}
use Rattle.charset_filter.specs.Filter.{ends_both, is_sequence}

abbrev Outside : Pending → Type 0
Outside q = is_sequence q ≡ false

either : (v : Bool) (x y : Pending) → Outside x → Outside y → Outside (if v then x else y)
either v x y h k = if_holds Outside v x y h k

-- no byte but ESC begins one
pub rest-outside : (q : Pending) (b : ℕ) → is_sequence q ≡ false → is_sequence (byte_rest q b) ≡ false
rest-outside (InText u) b h = refl
rest-outside (InEscape is) b h = absurd (let no : true ≡ false = h in cc)
rest-outside (InCsi x) b h = absurd (let no : true ≡ false = h in cc)
rest-outside (InOsc d) b h = either (ends_osc b) _ _ refl refl
rest-outside (InHook x) b h = either (ends_header b) _ _
    (either (is_abort b) _ _ refl (either (is_well_formed x) _ _ refl refl)) refl
rest-outside InDevice b h = either (ends_device b) _ _ refl refl
rest-outside InSwallowed b h = either (is_abort b) _ _ refl refl

second : (x y : Bool) → (x && y) ≡ true → y ≡ true
second true y h = h
second false y h = absurd (let no : false ≡ true = h in cc)

final-outside : (is : List ℕ) (b : ℕ) → (b == 0x5B) ≡ false → Outside (final_rest is b)
final-outside is b isnt = elim (bool_cases (length is == 0 && b == 0x5B)) [
  | inl e ↦ absurd (true≢false (sym (second (length is == 0) (b == 0x5B) e) ∙ isnt))
  | inr e ↦ rw e (either (length is == 0 && b == 0x5D) _ _ refl
      (either (length is == 0 && b == 0x50) _ _ refl
      (either (length is == 0 && (b == 0x58 || (b == 0x5E || b == 0x5F))) _ _ refl refl)))
]

both-escape : (b : ℕ) → ends_both b ≡ true → ends_escape b ≡ true
both-escape b h = grind (arith, nat_tests)

both-header : (b : ℕ) → ends_both b ≡ true → ends_header b ≡ true
both-header b h = grind (arith, nat_tests)

both-other : (b : ℕ) → ends_both b ≡ true → (b == 0x5B) ≡ false
both-other b h = grind (arith, nat_tests)

ended : (q : Pending) (b : ℕ) → ends_both b ≡ true → Outside (byte_rest q b)
ended (InText u) b h = refl
ended (InEscape is) b h =
    let ends = both-escape b h in
    rw ends (either (is_abort b) _ _ refl (final-outside is b (both-other b h)))
ended (InCsi x) b h = let ends = both-header b h in rw ends refl
ended (InOsc d) b h = rest-outside (InOsc d) b refl
ended (InHook x) b h = rest-outside (InHook x) b refl
ended InDevice b h = rest-outside InDevice b refl
ended InSwallowed b h = rest-outside InSwallowed b refl

-- after each byte
pub outside-after : (q : Pending) (b : ℕ) (before : Bool) → (before ≡ false → is_sequence q ≡ false)
    → (if is_esc b then true else (if ends_both b then false else before)) ≡ false
    → is_sequence (after_byte q b) ≡ false
outside-after q b before out h = elim (bool_cases (is_esc b)) [
  | inl e ↦ absurd (let no : true ≡ false = rw e at h in cc)
  | inr e ↦
      let rest : (if ends_both b then false else before) ≡ false = rw e at h in
      rw e (elim (bool_cases (ends_both b)) [
        | inl f ↦ ended q b f
        | inr f ↦ let none : before ≡ false = rw f at rest in rest-outside q b (out none)
      ])
]
