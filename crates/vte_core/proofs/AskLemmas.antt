-- Where the performer is asked.
use Rattle.std.proofs.Common.{◌≡◌, ℕ, ◌+◌, true, false, not, ◌==◌, List, [], ◌∷◌, ◌++◌}
use Rattle.std.proofs.Common.{take, drop, length, length-append, append_assoc, arith, refl, ap, sym, ◌∙◌, inl, inr}
use Rattle.std.proofs.Math.Bool.{or-true}
use Rattle.std.proofs.Math.Seq.{take-append_seam, drop-append_seam}
use Rattle.std.proofs.lemmas.Bool.{ne_eqb}
use Rattle.std.proofs.lemmas.List.{drop_all}
use Rattle.vte_core.specs.GroundText.{ends_in_text}
use Rattle.vte_core.specs.Stopping.{asks_after, ends_run}
use Rattle.vte_core.specs.Laws.{AsksAtEnds, AsksAfterSequences, AsksOutsideRuns}
use Rattle.vte_core.proofs.Characters.{bool_cases}
use Rattle.vte_core.proofs.GroundTextLemmas.{text-tells}

pub ends-asked : AsksAtEnds
ends-asked past piece =
    let none : drop (length piece) piece ≡ [] = drop_all (length piece) piece (omega arith) in
    let last : ends_run (drop (length piece) piece) ≡ true = ap ends_run none in (
      refl,
      rw last (rw (or-true (not (ends_in_text (past ++ take (length piece) piece))))
          (or-true (length piece == 0))),
    )

-- after a byte that isn't ground text
pub asks-past_text : (past piece : List ℕ) (m : ℕ) → ends_in_text (past ++ take m piece) ≡ false
    → asks_after past piece m ≡ true
asks-past_text past piece m h = rw h (or-true (m == 0))

-- the bytes up to one of a piece
up_to : (past bytes : List ℕ) (b : ℕ) (rest : List ℕ)
    → past ++ take (length bytes + 1) (bytes ++ b ∷ rest) ≡ (past ++ bytes) ++ b ∷ []
up_to past bytes b rest =
    let more : length bytes + 1 ≡ length (bytes ++ b ∷ []) = sym (length-append bytes (b ∷ [])) in
    ap (λ xs. past ++ xs) (ap (λ k. take k (bytes ++ b ∷ rest)) more
    ∙ (ap (take (length (bytes ++ b ∷ []))) (sym (append_assoc bytes (b ∷ []) rest))
    ∙ take-append_seam (bytes ++ b ∷ []) rest))
    ∙ sym (append_assoc past bytes (b ∷ []))

pub sequences-asked : AsksAfterSequences
sequences-asked n past bytes b rest more = elim (bool_cases (ends_in_text ((past ++ bytes) ++ b ∷ []))) [
  | inl text ↦ absurd (more (text-tells n (past ++ bytes) b text))
  | inr other ↦ asks-past_text past (bytes ++ b ∷ rest) (length bytes + 1)
      (ap ends_in_text (up_to past bytes b rest) ∙ other)
]

pub runs-unasked : AsksOutsideRuns
runs-unasked past bytes b rest some text other =
    let prefix : take (length bytes) (bytes ++ b ∷ rest) ≡ bytes = take-append_seam bytes (b ∷ rest) in
    let back : drop (length bytes) (bytes ++ b ∷ rest) ≡ b ∷ rest = drop-append_seam bytes (b ∷ rest) in
    let begun : (length bytes == 0) ≡ false = ne_eqb (length bytes) 0 (λ e. absurd (omega (arith, some, e))) in
    let goes_on : (b == 0x1B) ≡ false = ne_eqb b 0x1B other in
    rw (begun, prefix, back, text, goes_on) refl
