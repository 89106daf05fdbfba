-- Inline text, after whole characters.
use Rattle.std.proofs.Common.{◌≡◌, ◌∙◌, ℕ, zero, suc, ◌<◌, ◌≤◌, true, false, List, [], ◌∷◌, length, take, drop, get_or}
use Rattle.std.proofs.Common.{ap, arith, inl, inr, refl, sym}
use Rattle.std.proofs.lemmas.Bool.Decides.{nat_tests}
use Rattle.vte_core.specs.Bytes.{is_esc}
use Rattle.vte_core.specs.Event.{Event, Performs}
use Rattle.vte_core.specs.Pending.{Pending, InText}
use Rattle.vte_core.specs.Reads.{Reads}
use Rattle.vte_core.specs.Runs.{has_no_esc, run_reported, run_rest, is_one_step}
use Rattle.vte_core.specs.Shapes.{before}
use Rattle.vte_core.specs.Standing.{IsAt, state_is_text}
use Rattle.vte_core.specs.declared.parser.Parser.{Parser}
use Rattle.vte_core.specs.declared.parser.State.TheVariants.{Ground}
use Rattle.vte_core.proofs.Characters.{bool_cases}
use Rattle.vte_core.proofs.GroundTextLemmas.{text_is}
use Rattle.vte_core.proofs.Runs.{before-ends, no_esc-before, run-at, run-events, take-before}
use Rattle.vte_core.proofs.StopLemmas.{is_text-at}

pub inline-no_esc : (bs : List ℕ) (k : ℕ) → (0 < k → k ≡ length (before is_esc bs)) → has_no_esc (take k bs) ≡ true
inline-no_esc bs zero h = refl
inline-no_esc bs (suc k) h =
    ap has_no_esc (ap (λ (j : ℕ). take j bs) (h (omega arith)) ∙ take-before bs) ∙ no_esc-before bs

not-esc : (bs : List ℕ) → 0 < length (before is_esc bs) → is_esc (get_or bs 0 0) ≡ false
not-esc [] h = absurd (omega (arith, h))
not-esc (b ∷ s) h = elim (bool_cases (is_esc b))
    [ inl e ↦ let g = rw e at h in absurd (omega (arith, g)) | inr e ↦ e ]

-- the byte after the text
pub esc_after : (bs : List ℕ) (k : ℕ) → k < length bs → k ≡ length (before is_esc bs) → get_or bs k 0 ≡ 0x1B
esc_after bs k less len =
    let ends : is_esc (get_or bs k 0) ≡ true = rw len (before-ends bs (rw (← len) less)) in
    grind (arith, nat_tests, ends)

-- nothing is pending
whole_text : (n : ℕ) (p : Parser n) (q : Pending) → p.state ≡ Ground → p.unfinished ≡ [] → IsAt n p q → q ≡ InText []
whole_text n p q ground whole h =
    let (u, q_is) = text_is q (is_text-at n p q h ∙ ap state_is_text ground) in
    let here = rw q_is at h in
    q_is ∙ ap InText (sym here.1 ∙ whole)

module _ {S : Type 0} {step : S → Event → S → Type 0} {n : ℕ} {p r : Parser n} {old new : S} where
  pub inline_reads : (bs : List ℕ) (k : ℕ) → p.state ≡ Ground → p.unfinished ≡ [] → k ≤ length bs
      → has_no_esc (take k bs) ≡ true → run_rest [] (take k bs) ≡ [] → r.state ≡ Ground → r.unfinished ≡ []
      → Performs step old (run_reported [] (take k bs)) new → Reads step n p old bs k r new
  inline_reads bs k ground whole within no_esc rest grounds wholes performed =
      let run = run-events n [] (take k bs) no_esc in
      record {
        within = within;
        state_after = λ q at. rw (whole_text n p q ground whole at, run.1, rest) (grounds, wholes);
        reported = record {
          reported = run_reported [] (take k bs);
          performed = performed;
          added = λ q at. rw (whole_text n p q ground whole at) (sym run.0);
        };
      }

pub inline_step : (n : ℕ) (p : Parser n) (bs : List ℕ) (k : ℕ) (q : Pending) → p.state ≡ Ground → 0 < length bs → 0 < k
    → k ≡ length (before is_esc bs) → IsAt n p q → is_one_step q (take k bs) (drop k bs) ≡ true
inline_step n p bs k q ground some more len at =
    let esc : is_esc (get_or bs 0 0) ≡ false = not-esc bs (omega (arith, more, len)) in
    (run-at n p bs k q some (rw (ground, esc) refl) len at).2
