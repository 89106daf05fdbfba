-- What may be between the marks of a frame.
use Rattle.std.proofs.Common.{◌≡◌, ◌≢◌, ℕ, ◌<◌, Bool, true, false, ◌||◌, List, [], ◌∷◌, ◌++◌, if◌then◌else◌, map}
use Rattle.std.proofs.Common.{length, refl, sym, ◌∙◌, ap, inl, inr, arith, length-append}
use Rattle.std.specs.List.{AllByRecursion, concat, list_any}
use Rattle.std.specs.Str.{chars}
use Rattle.std.proofs.lemmas.Bool.{cases_lt}
use Rattle.std.proofs.lemmas.List.{nil_from_length}
use Rattle.std.proofs.lemmas.List.Folds.{list_any-append}
use Rattle.vte_core.specs.Event.{Print, Execute}
use Rattle.vte_core.specs.Text.{char_event}
use Rattle.vte_core.specs.Shapes.{events}
use Rattle.vte_core.specs.Ground.{AtGround, IsText}
use Rattle.vte_core.proofs.GroundLemmas.{ground-nothing, ground-joins, text-tells}
use Rattle.vte.specs.Table.{opens}
use Rattle.vte.specs.Marks.{start_mark, end_mark}
use Rattle.vte.specs.Frames.{IsFrame}
use Rattle.vte.proofs.FrameLemmas.{cut_later}

pub parts_open_nothing : (parts : List (List ℕ)) → AllByRecursion (AtGround 1024) parts
    → AllByRecursion (λ part. list_any opens (events 1024 part) ≡ false) parts
    → AtGround 1024 (concat parts) × (list_any opens (events 1024 (concat parts)) ≡ false)
parts_open_nothing [] h k = (ground-nothing 1024, refl)
parts_open_nothing (part ∷ parts) h k =
    let later = parts_open_nothing parts h.1 k.1 in (
      ground-joins 1024 part (concat parts) h.0 later.0,
      ap (list_any opens) (h.0 (concat parts)) ∙ (list_any-append opens (events 1024 part) (events 1024 (concat parts))
          ∙ (ap (λ v. v || list_any opens (events 1024 (concat parts))) k.0 ∙ later.1)),
    )

one_none : (b : Bool) (c : ℕ) → opens (if b then Execute c else Print c) ≡ false
one_none true c = refl
one_none false c = refl

chars_none : (cs : List ℕ) → list_any opens (map char_event cs) ≡ false
chars_none [] = refl
chars_none (c ∷ cs) = ap (λ v. v || list_any opens (map char_event cs)) (one_none _ c) ∙ chars_none cs

-- the text has no ESC
no_esc : (text prefix after : List ℕ) → AllByRecursion (λ b. b ≢ 0x1B) text → text ≡ prefix ++ 0x1B ∷ after → ⊥
no_esc [] prefix after h e = absurd (omega (arith, ap length e, length-append prefix (0x1B ∷ after)))
no_esc (b ∷ text) [] after h e = h.0 (let same : b ≡ 0x1B = cc in same)
no_esc (b ∷ text) (c ∷ prefix) after h e = no_esc text prefix after h.1 (let same : text ≡ prefix ++ 0x1B ∷ after = cc
    in same)

-- so an end mark doesn't begin in it
begun_in : (text before after rest : List ℕ) → AllByRecursion (λ b. b ≢ 0x1B) text → length before < length text
    → text ≡ before ++ rest → end_mark ++ after ≡ rest ++ end_mark → ⊥
begun_in text before after [] h inside is same = absurd (omega (arith, inside, ap length is, length-append before []))
begun_in text before after (c ∷ rest) h inside is same =
    no_esc text before rest h (is ∙ ap (λ b. before ++ b ∷ rest) (let first : c ≡ 0x1B = cc in first))

text_ends_once : (text before after : List ℕ) → AllByRecursion (λ b. b ≢ 0x1B) text
    → text ++ end_mark ≡ before ++ (end_mark ++ after) → after ≡ []
text_ends_once text before after h e =
    elim (cases_lt (length before) (length text)) [
      | inl inside ↦
          let cut = cut_later before (end_mark ++ after) text end_mark (sym e) (omega (arith, inside)) in
          absurd (begun_in text before after cut.0 h inside cut.1 cut.2)
      | inr behind ↦
          let cut = cut_later text end_mark before (end_mark ++ after) e behind in
          let size = ap length cut.2 ∙ length-append cut.0 (end_mark ++ after) in
          nil_from_length after (omega (arith, size, length-append end_mark after))
    ]

pub text_makes_frame : (text : List ℕ) → IsText text → IsFrame (start_mark ++ (text ++ end_mark))
text_makes_frame text h = record {
  body = text;
  is = refl;
  ends_once = λ before after e. text_ends_once text before after h.1 e;
  opens_nothing = ap (list_any opens) (text-tells 1024 text h) ∙ chars_none (chars text);
}
