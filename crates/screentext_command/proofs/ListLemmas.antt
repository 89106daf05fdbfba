-- What is printed of a recording that is described.
use Rattle.std.proofs.Common.{◌≡◌, ◌∙◌, ℕ, ◌^◌, ◌-◌, Bool, true, false, List, ◌++◌, refl, sym, ap, subst, cond}
use Rattle.std.proofs.Common.{Option, Some, None, Ok, Err, Result, OnOk, is_ok, codes}
use Rattle.std.specs.Prelude.{IfSome, encode_utf8}
use Rattle.std.specs.Char.{is_control}
use Rattle.std.specs.Fmt.{AppendsText, ◌++?◌, decimal, digits, format_spec, radix_digits, styled_decimal}
use Rattle.std.specs.Str.{bytes_eq}
use Rattle.std.proofs.Padding.{padded_integral_zeros}
use Rattle.std.proofs.lemmas.Slice.Eq.{bytes_eq-Decides}
use Rattle.recordings.specs.Kinds.{kind_named}
use Rattle.recordings.specs.declared.recording.Kind.{Kind}
use Rattle.recordings.specs.declared.recording.Kind.TheVariants.{Asciicast, Raw, Script, Ttyrec}
use Rattle.screentext_command.specs.Listed.{kind_name, name_character, six_digits}

pub ok_on : {T E : Type 0} {P Q : Type 0} (r : Result T E) → OnOk r P → (P → Q) → OnOk r Q
ok_on (Ok x) p f = f p
ok_on (Err e) p f = tt

-- ---- the kind's name

named : (w : List ℕ) (a b d r : Bool) → (a ≡ true → w ≡ codes "asciicast") → (b ≡ true → w ≡ codes "script")
    → (d ≡ true → w ≡ codes "ttyrec") → (r ≡ true → w ≡ codes "raw")
    → IfSome (cond a (Some Asciicast) (cond b (Some Script) (cond d (Some Ttyrec) (cond r (Some Raw) None))))
    (λ k. w ≡ kind_name k)
named w true b d r p q s t = p refl
named w false true d r p q s t = q refl
named w false false true r p q s t = s refl
named w false false false true p q s t = t refl
named w false false false false p q s t = tt

-- a word that is a kind's name
pub kind_said : (w : List ℕ) (k : Kind) → kind_named w ≡ Some k → w ≡ kind_name k
kind_said w k is =
    subst (λ (o : Option Kind). IfSome o (λ x. w ≡ kind_name x)) is
    (named w (bytes_eq w (codes "asciicast")) (bytes_eq w (codes "script")) (bytes_eq w (codes "ttyrec"))
    (bytes_eq w (codes "raw")) (bytes_eq-Decides w (codes "asciicast")).0 (bytes_eq-Decides w (codes "script")).0
    (bytes_eq-Decides w (codes "ttyrec")).0 (bytes_eq-Decides w (codes "raw")).0)

-- ---- characters of names

control_shown : (c : ℕ) → is_control c ≡ true → name_character c ≡ codes "\\u{" ++ (digits 16 false c ++ codes "}")
control_shown c is = ap (λ b. cond b (codes "\\u{" ++ (digits 16 false c ++ codes "}")) (encode_utf8 c)) is

plain_shown : (c : ℕ) → is_control c ≡ false → name_character c ≡ encode_utf8 c
plain_shown c is = ap (λ b. cond b (codes "\\u{" ++ (digits 16 false c ++ codes "}")) (encode_utf8 c)) is

pub control_pushed : (old new : List ℕ) (c : ℕ) (hex : Option (List ℕ)) → is_control c ≡ true
    → hex ≡ Some (radix_digits 16 false c) → AppendsText old new (Some (codes "\\u{") ++? (hex ++? Some (codes "}")))
    → new ≡ old ++ name_character c
control_pushed old new c hex is known adds =
    let at : new ≡ old ++ (codes "\\u{" ++ (digits 16 false c ++ codes "}")) =
    subst (λ (o : Option (List ℕ)). AppendsText old new (Some (codes "\\u{") ++? (o ++? Some (codes "}")))) known adds
    in
    at ∙ ap (λ t. old ++ t) (sym (control_shown c is))

pub plain_pushed : {E : Type 0} (r : Result (Unit {0}) E) (old new : List ℕ) (c : ℕ) → is_control c ≡ false
    → new ≡ cond (is_ok r) (old ++ encode_utf8 c) old → OnOk r (new ≡ old ++ name_character c)
plain_pushed (Ok u) old new c is adds = adds ∙ ap (λ t. old ++ t) (sym (plain_shown c is))
plain_pushed (Err e) old new c is adds = tt

-- ---- times

-- what `{:06}` writes
pub padded_six : (n : ℕ) → styled_decimal (format_spec 32 0 4 6 (2 ^ 64 - 1)) n ≡ six_digits n
padded_six n = padded_integral_zeros (format_spec 32 0 4 6 (2 ^ 64 - 1)) (decimal n) refl refl
