-- An operating system command that BEL ends, read at once.
use Rattle.std.proofs.Common.{◌≡◌, ◌∙◌, ℕ, suc, ◌+◌, ◌-◌, ◌<◌, ◌≤◌, ◌==◌, true, false, List, [], ◌∷◌, ◌++◌, length, take}
use Rattle.std.proofs.Common.{drop, get_or, refl, ap, sym, arith, length-append, append-nil, ◌⊎◌, inl, inr}
use Rattle.std.proofs.Common.{map, set}
use Rattle.std.proofs.lemmas.List.{length-map, length-set, length-take, take_all, take_more}
use Rattle.std.proofs.lemmas.List.Splits.{slice_split-cons_yes, slice_split-cons_no}
use Rattle.std.proofs.lemmas.Bool.{cases_Bool}
use Rattle.std.proofs.Math.Seq.{take-append_seam}
use Rattle.std.specs.List.{concat, onto_first}
use Rattle.vte_core.specs.Bytes.{each, is_data}
use Rattle.vte_core.specs.Event.{Event, Osc}
use Rattle.vte_core.specs.Pending.{InOsc}
use Rattle.vte_core.specs.Reads.{BeginsWithEsc, ReadsStep}
use Rattle.vte_core.specs.Runs.{is_one_step}
use Rattle.vte_core.specs.Shapes.{first_bytes, osc_pieces}
use Rattle.vte_core.specs.Store.{total, pieces_of}
use Rattle.vte_core.specs.declared.parser.Parser.{Parser}
use Rattle.vte_core.specs.declared.parser.State.TheVariants.{Ground}
use Rattle.vte_core.proofs.MarkedSequence.{final_step}
use Rattle.vte_core.proofs.OscLemmas.{tell_step}
use Rattle.vte_core.proofs.Quiet.{begun-osc}
use Rattle.vte_core.proofs.Splits.{split_at, split_nowhere}
use Rattle.vte_core.proofs.Telling.{same_step}

-- ---- its pieces

-- up to the first `;`
pub first_piece : (s : List ℕ) (k : ℕ) → k < length s → ((j : ℕ) → j < k → (get_or s j 0 == 0x3B) ≡ false)
    → (get_or s k 0 == 0x3B) ≡ true → pieces_of s ≡ take k s ∷ pieces_of (drop (k + 1) s)
first_piece s k less none is =
    let next : suc k ≡ k + 1 = omega arith in
    split_at (λ b. b == 0x3B) s k less is none ∙ ap (λ (j : ℕ). take k s ∷ pieces_of (drop j s)) next

-- without a `;`
pub only_piece : (s : List ℕ) → ((j : ℕ) → j < length s → (get_or s j 0 == 0x3B) ≡ false) → pieces_of s ≡ s ∷ []
only_piece s none = split_nowhere (λ b. b == 0x3B) s none

-- the pieces that are reported are the first sixteen
pub first_sixteen : (told more all : List (List ℕ)) → told ++ more ≡ all → length told ≤ 16
    → (more ≡ []) ⊎ (length told ≡ 16) → take 16 all ≡ told
first_sixteen told more all e few either = elim either [
  | inl none ↦ ap (take 16) (sym e ∙ (ap (λ (m : List (List ℕ)). told ++ m) none ∙ append-nil told))
      ∙ take_all 16 told few
  | inr full ↦ ap (take 16) (sym e) ∙ (ap (λ (j : ℕ). take j (told ++ more)) (sym full) ∙ take-append_seam told more)
]

pub first_told : {X : Type 0} (f : X → List ℕ) (xs : List X) (x : X) (i : ℕ) (first : List ℕ) (more all : List (List ℕ))
    → length xs ≡ 16 → i < 16 → f x ≡ first → map f (take i xs) ++ first ∷ more ≡ all
    → (more ≡ []) ⊎ (i + 1 ≡ 16) → take 16 all ≡ map f (take (i + 1) (set xs i x))
first_told f xs x i first more all size less is e either =
    let told = map f (take (i + 1) (set xs i x)) in
    let len : length told ≡ i + 1 =
    length-map (take (i + 1) (set xs i x)) f
    ∙ (length-take (i + 1) (set xs i x) ∙ omega (arith, length-set xs i x, size, less)) in
    first_sixteen told more all (tell_step f xs x i first more all (omega (arith, size, less)) is e)
    (omega (arith, len, less)) (elim either [ inl none ↦ inl none | inr full ↦ inr (len ∙ full) ])

total-onto : (b : ℕ) (ps : List (List ℕ)) → total (onto_first b ps) ≤ suc (total ps)
total-onto b [] = omega arith
total-onto b (p ∷ ps) = omega arith

-- they have no more bytes than the data
pub few_bytes : (s : List ℕ) → total (pieces_of s) ≤ length s
few_bytes [] = omega arith
few_bytes (b ∷ s) =
    let more = few_bytes s in
    elim (cases_Bool (b == 0x3B)) [
      | inl e ↦ rw (slice_split-cons_yes (λ c. c == 0x3B) b s e) (omega (arith, more))
      | inr e ↦ rw (slice_split-cons_no (λ c. c == 0x3B) b s e) (omega (arith, more, total-onto b (pieces_of s)))
    ]

-- so all of them are kept
all_kept : (n : ℕ) (ps : List (List ℕ)) → total ps ≤ n → first_bytes n ps ≡ ps
all_kept n [] few = refl
all_kept n (p ∷ ps) few =
    let len : length (p ++ concat ps) ≡ length p + total ps = length-append p (concat ps) in
    let first : take n p ≡ p = take_all n p (omega (arith, len, few)) in
    let rest : first_bytes (n - length p) ps ≡ ps = all_kept (n - length p) ps (omega (arith, len, few)) in
    rw (first, rest) refl

pub whole_pieces : (n : ℕ) (s : List ℕ) → length s ≤ n → osc_pieces n s ≡ take 16 (pieces_of s)
whole_pieces n s few = ap (take 16) (all_kept n (pieces_of s) (omega (arith, few_bytes s, few)))

-- ---- `ESC ]`, its data, and BEL

asked : (s rest : List ℕ) → is_one_step (InOsc s) (0x07 ∷ []) rest ≡ true
asked s [] = refl
asked s (b ∷ rest) = refl

pub command_step : {S : Type 0} {step : S → Event → S → Type 0} {n : ℕ} {p : Parser n} {old new : S}
    (bs : List ℕ) (k : ℕ) (s : List ℕ)
    → BeginsWithEsc bs → p.state ≡ Ground → p.unfinished ≡ [] → 2 + k < length bs → get_or bs 1 0 ≡ 0x5D
    → s ≡ take k (take (length bs - 2) (drop 2 bs)) → each is_data s ≡ true → length s ≤ n
    → get_or bs (2 + k) 0 ≡ 0x07
    → step old (Osc (take 16 (pieces_of s)) true) new → ReadsStep step n p old bs (k + 3) p new
command_step {S} {step} {n} {p} {old} {new} bs k s begins ground whole less bracket is all few bell told =
    let cut : take (2 + k + 1) bs ≡ take (2 + k) bs ++ 0x07 ∷ [] =
    take_more bs (2 + k) 0 less ∙ ap (λ (b : ℕ). take (2 + k) bs ++ b ∷ []) bell in
    let end : k + 3 ≡ 2 + k + 1 = omega arith in
    let begun = begun-osc n bs k (omega (arith, less)) begins.esc bracket (rw (← is) all) in
    let event = Osc (osc_pieces n s) true in
    let same : Osc (take 16 (pieces_of s)) true ≡ event = ap (λ (ps : List (List ℕ)). Osc ps true)
    (sym (whole_pieces n s few)) in
    rw end (final_step bs (take (2 + k) bs) (2 + k + 1) 0x07 (InOsc s) event (omega arith) (omega (arith, less)) ground
    whole cut (begun.0, begun.1 ∙ ap InOsc (sym is)) (refl, refl) (asked s) (same_step step old new _ _ same told))
