-- Escape sequences with one intermediate, or with none, read at once.
use Rattle.std.proofs.Common.{◌≡◌, ℕ, ◌<◌, ◌≤◌, ◌==◌, true, false, List, [], ◌∷◌, ◌++◌, length, take}
use Rattle.std.proofs.Common.{get_or, refl, arith}
use Rattle.std.proofs.lemmas.Bool.Decides.{nat_tests}
use Rattle.std.specs.Int.{is_in_range}
use Rattle.vte_core.specs.Bytes.{is_abort, is_control, is_esc, is_intermediate, ends_escape, opens_sequence}
use Rattle.vte_core.specs.Event.{Event, Esc}
use Rattle.vte_core.specs.Pending.{Pending, InText, InEscape, events_of_byte, events_from, after_byte, after_bytes}
use Rattle.vte_core.specs.Reads.{BeginsWithEsc, ReadsStep}
use Rattle.vte_core.specs.Runs.{is_one_step}
use Rattle.vte_core.specs.declared.parser.Parser.{Parser}
use Rattle.vte_core.specs.declared.parser.State.TheVariants.{Ground}
use Rattle.vte_core.proofs.Machine.{events_from-append, after_bytes-append}
use Rattle.vte_core.proofs.Quiet.{begun-text, one-step, quiet-step}

-- ESC and the intermediate have no event
marked : (n m : ℕ) → is_in_range 0x20 0x2F m ≡ true
    → (events_from n (InText []) (0x1B ∷ m ∷ []) ≡ []) × (after_bytes (InText []) (0x1B ∷ m ∷ []) ≡ InEscape (m ∷ []))
marked n m h =
    let esc : is_esc m ≡ false = grind (arith, nat_tests) in
    let on : ends_escape m ≡ false = grind (arith, nat_tests) in
    let other : is_control m ≡ false = grind (arith, nat_tests) in
    let is : is_intermediate m ≡ true = h in
    (rw (other, esc, on) refl, rw (esc, on, is) refl)

-- the final byte has one
final-marked : (n m f : ℕ) → is_in_range 0x30 0x7E f ≡ true
    → (events_of_byte n (InEscape (m ∷ [])) f ≡ Esc (m ∷ []) false f ∷ [])
    × (after_byte (InEscape (m ∷ [])) f ≡ InText [])
final-marked n m f h =
    let esc : is_esc f ≡ false = grind (arith, nat_tests) in
    let ends : ends_escape f ≡ true = grind (arith, nat_tests) in
    let other : is_abort f ≡ false = grind (arith, nat_tests) in
    (rw (esc, ends, other) refl, rw (esc, ends, other) refl)

final-unmarked : (n f : ℕ) → is_in_range 0x30 0x7E f ≡ true → opens_sequence f ≡ false
    → (events_of_byte n (InEscape []) f ≡ Esc [] false f ∷ []) × (after_byte (InEscape []) f ≡ InText [])
final-unmarked n f h opens_none =
    let esc : is_esc f ≡ false = grind (arith, nat_tests) in
    let ends : ends_escape f ≡ true = grind (arith, nat_tests) in
    let other : is_abort f ≡ false = grind (arith, nat_tests) in
    let a : (f == 0x5B) ≡ false = grind (arith, nat_tests) in
    let b : (f == 0x5D) ≡ false = grind (arith, nat_tests) in
    let c : (f == 0x50) ≡ false = grind (arith, nat_tests) in
    let d : (f == 0x58) ≡ false = grind (arith, nat_tests) in
    let e : (f == 0x5E) ≡ false = grind (arith, nat_tests) in
    let g : (f == 0x5F) ≡ false = grind (arith, nat_tests) in
    (rw (esc, ends, other, a, b, c, d, e, g) refl, rw (esc, ends, other, a, b, c, d, e, g) refl)

asked : (is : List ℕ) (f : ℕ) (rest : List ℕ) → is_one_step (InEscape is) (f ∷ []) rest ≡ true
asked is f [] = refl
asked is f (b ∷ rest) = refl

first_two : (bs : List ℕ) (f : ℕ) → 2 ≤ length bs → get_or bs 0 0 ≡ 0x1B → get_or bs 1 0 ≡ f
    → take 2 bs ≡ (0x1B ∷ []) ++ f ∷ []
first_two [] f some a b = absurd (omega (arith, some))
first_two (x ∷ []) f some a b = absurd (omega (arith, some))
first_two (x ∷ y ∷ bs) f some a b = cc

first_three : (bs : List ℕ) (m f : ℕ) → 3 ≤ length bs → get_or bs 0 0 ≡ 0x1B → get_or bs 1 0 ≡ m → get_or bs 2 0 ≡ f
    → take 3 bs ≡ (0x1B ∷ m ∷ []) ++ f ∷ []
first_three [] m f some a b c = absurd (omega (arith, some))
first_three (x ∷ []) m f some a b c = absurd (omega (arith, some))
first_three (x ∷ y ∷ []) m f some a b c = absurd (omega (arith, some))
first_three (x ∷ y ∷ z ∷ bs) m f some a b c = cc

module _ {S : Type 0} {step : S → Event → S → Type 0} {n : ℕ} {p : Parser n} {old new : S} where
  -- the bytes before the final byte have no event, and it has this one
  pub final_step : (bs quiet : List ℕ) (k f : ℕ) (mid : Pending) (event : Event) → 0 < k → k ≤ length bs
      → p.state ≡ Ground → p.unfinished ≡ [] → take k bs ≡ quiet ++ f ∷ []
      → (events_from n (InText []) quiet ≡ []) × (after_bytes (InText []) quiet ≡ mid)
      → (events_of_byte n mid f ≡ event ∷ []) × (after_byte mid f ≡ InText [])
      → ((rest : List ℕ) → is_one_step mid (f ∷ []) rest ≡ true)
      → step old event new → ReadsStep step n p old bs k p new
  final_step bs quiet k f mid event some within ground none cut begun ends asked told = record {
    some = some;
    reads = record {
      within = within;
      state_after = λ q at. rw (
        begun-text n p q ground none at,
        cut,
        after_bytes-append (InText []) quiet (f ∷ []),
        begun.1,
        ends.1,
      ) (ground, none);
      reported = record {
        reported = event ∷ [];
        performed = (new, told, refl);
        added = λ q at. rw (
          begun-text n p q ground none at,
          cut,
          events_from-append n (InText []) quiet (f ∷ []),
          begun.0,
          begun.1,
          ends.0,
        ) refl;
      };
    };
    is_step = λ q at. rw (begun-text n p q ground none at, cut) (quiet-step n (InText []) quiet (f ∷ []) _ begun.0
        (rw begun.1 (one-step n mid (f ∷ []) _ (asked _))));
  }

  pub marked_step : (bs : List ℕ) → BeginsWithEsc bs → p.state ≡ Ground → p.unfinished ≡ [] → 3 ≤ length bs
      → is_intermediate (get_or bs 1 0) ≡ true → is_in_range 0x30 0x7E (get_or bs 2 0) ≡ true
      → step old (Esc (get_or bs 1 0 ∷ []) false (get_or bs 2 0)) new → ReadsStep step n p old bs 3 p new
  marked_step bs begins ground whole some mark final told =
      let m = get_or bs 1 0 in
      let f = get_or bs 2 0 in
      final_step bs (0x1B ∷ m ∷ []) 3 f (InEscape (m ∷ [])) (Esc (m ∷ []) false f) (omega arith) some ground whole
      (first_three bs m f some begins.esc refl refl) (marked n m mark) (final-marked n m f final)
      (asked (m ∷ []) f) told

  pub unmarked_step : (bs : List ℕ) → BeginsWithEsc bs → p.state ≡ Ground → p.unfinished ≡ [] → 2 ≤ length bs
      → is_in_range 0x30 0x7E (get_or bs 1 0) ≡ true → opens_sequence (get_or bs 1 0) ≡ false
      → step old (Esc [] false (get_or bs 1 0)) new → ReadsStep step n p old bs 2 p new
  unmarked_step bs begins ground whole some final opens_none told =
      let f = get_or bs 1 0 in
      final_step bs (0x1B ∷ []) 2 f (InEscape []) (Esc [] false f) (omega arith) some ground whole
      (first_two bs f some begins.esc refl) (refl, refl) (final-unmarked n f final opens_none) (asked [] f) told
