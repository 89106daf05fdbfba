-- Control sequences of lone numbers, read at once.
use Rattle.std.proofs.Common.{◌≡◌, ◌∙◌, ℕ, ◌+◌, ◌-◌, ◌<◌, ◌≤◌, true, false, List, [], ◌∷◌, ◌++◌, length, take}
use Rattle.std.proofs.Common.{drop, get_or, nat_lt, refl, suc, ap, arith, length-drop, subst}
use Rattle.std.proofs.lemmas.Bool.Decides.{nat_tests}
use Rattle.std.proofs.lemmas.List.{take_more, get_or-drop}
use Rattle.std.specs.Int.{is_in_range}
use Rattle.std.specs.List.{filter}
use Rattle.vte_core.specs.Bytes.{each, is_esc, is_header, is_intermediate, is_numeric, is_private}
use Rattle.vte_core.specs.Event.{Event, Csi}
use Rattle.vte_core.specs.Header.{first_numbers, groups_of, intermediates, is_well_formed}
use Rattle.vte_core.specs.Header.{kept_groups, kept_intermediates, overflows}
use Rattle.vte_core.specs.Pending.{Pending, InText, InCsi, events_of_byte, events_from, after_byte, after_bytes}
use Rattle.vte_core.specs.LoneNumbers.{AreLoneNumbers}
use Rattle.vte_core.specs.Reads.{BeginsWithEsc, ReadsStep, ReadsWhole}
use Rattle.vte_core.specs.Runs.{is_one_step}
use Rattle.vte_core.specs.Standing.{IsAt}
use Rattle.vte_core.specs.Store.{total}
use Rattle.vte_core.specs.declared.parser.Parser.{Parser}
use Rattle.vte_core.specs.declared.parser.State.TheVariants.{Ground}
use Rattle.vte_core.proofs.HeaderBytes.{final-ends}
use Rattle.vte_core.proofs.Machine.{events_from-append, after_bytes-append}
use Rattle.vte_core.proofs.PhaseLemmas.{each-more, marked-well, numbers-well, numeric-header, numeric-no, numerics-kept}
use Rattle.vte_core.proofs.PhaseLemmas.{private-well}
use Rattle.vte_core.proofs.Quiet.{begun-csi, by_state, one-step, quiet-step}
use Rattle.vte_core.proofs.StopLemmas.{whole_rest}

-- the header h is reported with these numbers and these other bytes
record IsReported (h : List ℕ) (numbers : List (List ℕ)) (is : List ℕ) : Type 0 where
  header : each is_header h ≡ true
  in_order : is_well_formed h ≡ true
  groups : kept_groups h ≡ numbers
  others : kept_intermediates h ≡ is
  all : overflows h ≡ false

no_more : (n : ℕ) → n ≤ 32 → nat_lt 32 n ≡ false
no_more n h = grind (arith, nat_tests)

-- by its numbers and its other bytes
reported_by : (h m is : List ℕ) (numbers : List (List ℕ)) → each is_header h ≡ true → is_well_formed h ≡ true
    → filter is_numeric h ≡ m → intermediates h ≡ is → nat_lt 2 (length is) ≡ false → take 2 is ≡ is
    → numbers ≡ first_numbers 32 (groups_of m) → total (groups_of m) ≤ 32
    → IsReported h numbers is
reported_by h m is numbers header well numeric others fits all groups few = record {
  header = header;
  in_order = well;
  groups = rw (numeric, groups) refl;
  others = rw (others, all) refl;
  all = rw (numeric, others, fits, no_more _ few) refl;
}

-- numbers alone
numbers_reported : (bs : List ℕ) (k : ℕ) (numbers : List (List ℕ)) → AreLoneNumbers bs k numbers
    → IsReported (take k bs) numbers []
numbers_reported bs k numbers lone =
    let h = take k bs in
    let kept = numerics-kept [] h lone.numeric in
    reported_by h h [] numbers (numeric-header h lone.numeric) (numbers-well h lone.numeric) kept.0 kept.1 refl refl
    lone.groups lone.few

-- numbers after a private byte
private_reported : (m : ℕ) (bs : List ℕ) (k : ℕ) (numbers : List (List ℕ)) → is_private m ≡ true
    → AreLoneNumbers bs k numbers
    → IsReported (m ∷ take k bs) numbers (m ∷ [])
private_reported m bs k numbers private lone =
    let h = take k bs in
    let other : is_numeric m ≡ false = grind (arith, nat_tests) in
    let header : is_header m ≡ true = grind (arith, nat_tests) in
    let kept = numerics-kept (m ∷ []) h lone.numeric in
    reported_by (m ∷ h) h (m ∷ []) numbers (rw header (numeric-header h lone.numeric))
    (private-well m h private lone.numeric)
    (kept.0 ∙ rw other refl) (kept.1 ∙ rw other refl) refl refl lone.groups lone.few

-- numbers before an intermediate
marked_reported : (m : ℕ) (bs : List ℕ) (k : ℕ) (numbers : List (List ℕ)) → is_intermediate m ≡ true
    → AreLoneNumbers bs k numbers
    → IsReported (take k bs ++ m ∷ []) numbers (m ∷ [])
marked_reported m bs k numbers mark lone =
    let h = take k bs in
    let other : is_numeric m ≡ false = grind (arith, nat_tests) in
    let header : is_header m ≡ true = grind (arith, nat_tests) in
    let kept = numerics-kept [] h lone.numeric in
    let more = numeric-no h m other in
    reported_by (h ++ m ∷ []) h (m ∷ []) numbers
    (each-more is_header h m (numeric-header h lone.numeric) header) (marked-well m h mark lone.numeric)
    (more.0 ∙ kept.0) (more.1 ∙ ap (λ (is : List ℕ). is ++ m ∷ []) kept.1) refl refl lone.groups lone.few

-- the event of a final byte after a header
header-event : (n : ℕ) (h : List ℕ) (f : ℕ) (numbers : List (List ℕ)) (is : List ℕ) → IsReported h numbers is
    → is_in_range 0x40 0x7E f ≡ true
    → (events_of_byte n (InCsi h) f ≡ Csi numbers is false f ∷ []) × (after_byte (InCsi h) f ≡ InText [])
header-event n h f numbers is reported final =
    let ends = final-ends f final in
    let esc : is_esc f ≡ false = grind (arith, nat_tests) in (
      rw (esc, ends.0, ends.1, reported.in_order, reported.groups, reported.others, reported.all) refl,
      rw (esc, ends.0) refl,
    )

asked : (h : List ℕ) (f : ℕ) (rest : List ℕ) → is_one_step (InCsi h) (f ∷ []) rest ≡ true
asked h f [] = refl
asked h f (b ∷ rest) = refl

from_third : (bs : List ℕ) (k : ℕ) → 3 ≤ length bs → take (1 + k) (drop 2 bs) ≡ get_or bs 2 0 ∷ take k (drop 3 bs)
from_third [] k some = absurd (omega (arith, some))
from_third (x ∷ []) k some = absurd (omega (arith, some))
from_third (x ∷ y ∷ []) k some = absurd (omega (arith, some))
from_third (x ∷ y ∷ z ∷ bs) k some = let next : 1 + k ≡ suc k = omega arith in rw next refl

-- the bytes after the first j, as a slice has them
abbrev rest_of : ℕ → List ℕ → List ℕ
rest_of j bs = take (length bs - j) (drop j bs)

pub rest_at : (j : ℕ) (bs : List ℕ) (k : ℕ) → get_or (take (length bs - j) (drop j bs)) k 0 ≡ get_or bs (j + k) 0
rest_at j bs k = ap (λ (xs : List ℕ). get_or xs k 0) (whole_rest bs j) ∙ get_or-drop j bs k 0

module _ {S : Type 0} {step : S → Event → S → Type 0} {n : ℕ} {p r : Parser n} {old new : S} where
  -- `ESC [`, i bytes of a header, and a final byte
  header_step : (bs : List ℕ) (i : ℕ) (numbers : List (List ℕ)) (is : List ℕ) → p.state ≡ Ground → p.unfinished ≡ []
      → 2 + i < length bs → get_or bs 0 0 ≡ 0x1B → get_or bs 1 0 ≡ 0x5B → IsReported (take i (drop 2 bs)) numbers is
      → is_in_range 0x40 0x7E (get_or bs (2 + i) 0) ≡ true
      → ((q : Pending) → IsAt n p q → IsAt n r q)
      → step old (Csi numbers is false (get_or bs (2 + i) 0)) new
      → ReadsStep step n p old bs (2 + i + 1) r new
  header_step bs i numbers is ground whole less esc bracket header final state_after reported =
      let f = get_or bs (2 + i) 0 in
      let h : List ℕ = take i (drop 2 bs) in
      let rest : take (length bs - 2) (drop 2 bs) ≡ drop 2 bs = whole_rest bs 2 in
      let begins : each is_header (take i (take (length bs - 2) (drop 2 bs))) ≡ true = rw rest header.header in
      let ev = header-event n h f numbers is header final in
      let cut : take (2 + i + 1) bs ≡ take (2 + i) bs ++ f ∷ [] = take_more bs (2 + i) 0 less in
      let begun : (q : Pending) → IsAt n p q → (events_from n q (take (2 + i) bs) ≡ [])
      × (after_bytes q (take (2 + i) bs) ≡ InCsi h) =
      λ q at. rw rest at (begun-csi n p q bs i (omega (arith, less)) esc bracket ground (rw whole refl) begins at) in
      record {
        some = omega arith;
        reads = record {
          within = omega (arith, less);
          state_after = λ q at. rw (cut, after_bytes-append q (take (2 + i) bs) (f ∷ []), (begun q at).1, ev.1)
              (state_after (InText []) (ground, whole));
          reported = record {
            reported = Csi numbers is false f ∷ [];
            performed = (new, reported, refl);
            added = λ q at. rw (
              cut,
              events_from-append n q (take (2 + i) bs) (f ∷ []),
              (begun q at).0,
              (begun q at).1,
              ev.0,
            ) refl;
          };
        };
        is_step = λ q at. rw cut (quiet-step n q (take (2 + i) bs) (f ∷ []) _ (begun q at).0
            (rw (begun q at).1 (one-step n (InCsi h) (f ∷ []) _ (asked h f _))));
      }

  pub csi_step : (bs : List ℕ) (k : ℕ) → BeginsWithEsc bs → p.state ≡ Ground → p.unfinished ≡ [] → 2 ≤ length bs
      → get_or bs 1 0 ≡ 0x5B → AreLoneNumbers (rest_of 2 bs) k r.header.numbers.params
      → is_in_range 0x40 0x7E (get_or bs (2 + k) 0) ≡ true
      → ((q : Pending) → IsAt n p q → IsAt n r q)
      → step old (Csi r.header.numbers.params [] false (get_or bs (2 + k) 0)) new
      → ReadsStep step n p old bs (2 + k + 1) r new
  csi_step bs k begins ground whole some bracket lone final state_after reported =
      let numbers = r.header.numbers.params in
      let kept : AreLoneNumbers (drop 2 bs) k numbers = subst (λ xs. AreLoneNumbers xs k numbers)
      (whole_rest bs 2) lone in
      let less : 2 + k < length bs = omega (arith, kept.within, length-drop 2 bs) in
      header_step bs k numbers [] ground whole less begins.esc bracket
      (numbers_reported (drop 2 bs) k numbers kept) final state_after reported

  pub marked_csi_step : (bs : List ℕ) (k : ℕ) → BeginsWithEsc bs → p.state ≡ Ground → p.unfinished ≡ [] → 2 ≤ length bs
      → get_or bs 1 0 ≡ 0x5B → AreLoneNumbers (rest_of 2 bs) k r.header.numbers.params
      → is_in_range 0x20 0x2F (get_or bs (2 + k) 0) ≡ true → 2 + k + 1 < length bs
      → is_in_range 0x40 0x7E (get_or bs (2 + k + 1) 0) ≡ true
      → ((q : Pending) → IsAt n p q → IsAt n r q)
      → step old (Csi r.header.numbers.params (get_or bs (2 + k) 0 ∷ []) false (get_or bs (2 + k + 1) 0)) new
      → ReadsStep step n p old bs (2 + k + 2) r new
  marked_csi_step bs k begins ground whole some bracket lone mark less final state_after reported =
      let numbers = r.header.numbers.params in
      let kept : AreLoneNumbers (drop 2 bs) k numbers = subst (λ xs. AreLoneNumbers xs k numbers)
      (whole_rest bs 2) lone in
      let m = get_or bs (2 + k) 0 in
      let at_mark : get_or (drop 2 bs) k 0 ≡ m = get_or-drop 2 bs k 0 in
      let cut : take (k + 1) (drop 2 bs) ≡ take k (drop 2 bs) ++ m ∷ [] =
      take_more (drop 2 bs) k 0 kept.within ∙ rw at_mark refl in
      let place : 2 + (k + 1) ≡ 2 + k + 1 = omega arith in
      let end : 2 + k + 2 ≡ 2 + (k + 1) + 1 = omega arith in
      rw end (header_step bs (k + 1) numbers (m ∷ []) ground whole (omega (arith, less)) begins.esc bracket
      (rw cut (marked_reported m (drop 2 bs) k numbers mark kept)) (rw place final) state_after (rw place reported))

  pub private_step : (bs : List ℕ) (k : ℕ) → BeginsWithEsc bs → p.state ≡ Ground → p.unfinished ≡ [] → 3 ≤ length bs
      → get_or bs 1 0 ≡ 0x5B → is_private (get_or bs 2 0) ≡ true
      → AreLoneNumbers (rest_of 3 bs) k r.header.numbers.params
      → is_in_range 0x40 0x7E (get_or (rest_of 3 bs) k 0) ≡ true
      → ((q : Pending) → IsAt n p q → IsAt n r q)
      → step old (Csi r.header.numbers.params (get_or bs 2 0 ∷ []) false (get_or (rest_of 3 bs) k 0)) new
      → ReadsStep step n p old bs (k + 4) r new
  private_step bs k begins ground whole some bracket private lone final state_after reported =
      let numbers = r.header.numbers.params in
      let kept : AreLoneNumbers (drop 3 bs) k numbers = subst (λ xs. AreLoneNumbers xs k numbers)
      (whole_rest bs 3) lone in
      let m = get_or bs 2 0 in
      let cut : take (1 + k) (drop 2 bs) ≡ m ∷ take k (drop 3 bs) = from_third bs k some in
      let end : k + 4 ≡ 2 + (1 + k) + 1 = omega arith in
      let place : 3 + k ≡ 2 + (1 + k) = omega arith in
      let less : 2 + (1 + k) < length bs = omega (arith, kept.within, length-drop 3 bs) in
      let at_final : get_or (rest_of 3 bs) k 0 ≡ get_or bs (2 + (1 + k)) 0 =
      rest_at 3 bs k ∙ ap (λ (i : ℕ). get_or bs i 0) place in
      rw end (header_step bs (1 + k) numbers (m ∷ []) ground whole less begins.esc bracket
      (rw cut (private_reported m (drop 3 bs) k numbers private kept)) (rw (← at_final) final) state_after
      (rw (← at_final) reported))

-- ground text stays as it is, whatever is kept of a header
pub still_text : (n : ℕ) (p r : Parser n) → p.state ≡ Ground → r.state ≡ Ground → r.unfinished ≡ p.unfinished
    → (q : Pending) → IsAt n p q → IsAt n r q
still_text n p r ground grounds same q at =
    let (u, q_is) = by_state n p Ground q ground at in
    let here = rw q_is at at in
    rw q_is (grounds, same ∙ here.1)

module _ {S : Type 0} {step : S → Event → S → Type 0} {n : ℕ} {p r : Parser n} {old new : S} where
  pub sequence_read : (bs : List ℕ) (k : ℕ) → ReadsStep step n p old bs k r new → ReadsWhole step n p old bs k r new
  sequence_read bs k one = record { sequence = λ some. one; nothing = λ none. absurd (omega (arith, one.some, none)) }

module _ {S : Type 0} {step : S → Event → S → Type 0} {n : ℕ} {p mid r : Parser n} {old new : S} where
  -- a step from a parser in whatever state this one is
  from_same : (bs : List ℕ) (k : ℕ) → ((q : Pending) → IsAt n p q → IsAt n mid q)
      → ReadsStep step n mid old bs k r new → ReadsStep step n p old bs k r new
  from_same bs k same one = record {
    some = one.some;
    reads = record {
      within = one.reads.within;
      state_after = λ q at. one.reads.state_after q (same q at);
      reported = record {
        reported = one.reads.reported.reported;
        performed = one.reads.reported.performed;
        added = λ q at. one.reads.reported.added q (same q at);
      };
    };
    is_step = λ q at. one.is_step q (same q at);
  }

  pub whole_from : (bs : List ℕ) (k : ℕ) → ((q : Pending) → IsAt n p q → IsAt n mid q)
      → ReadsWhole step n mid old bs k r new → ReadsWhole step n p old bs k r new
  whole_from bs k same whole = record {
    sequence = λ some. from_same bs k same (whole.sequence some);
    nothing = λ none. ((whole.nothing none).0, λ q at. (whole.nothing none).1 q (same q at));
  }

-- a step after nothing
pub after_nothing : {S : Type 0} {step : S → Event → S → Type 0} {n : ℕ} {p mid r : Parser n} {old between new : S}
    (bs : List ℕ) (i k : ℕ) → i ≡ 0 → ReadsWhole step n p old bs i mid between
    → ReadsStep step n mid between bs k r new → ReadsStep step n p old bs k r new
after_nothing {S} {step} {n} {p} {mid} {r} {old} {between} {new} bs i k none before_it one =
    let (told, same) = before_it.nothing none in
    from_same bs k same (subst (λ (s : S). ReadsStep step n mid s bs k r new) told one)
