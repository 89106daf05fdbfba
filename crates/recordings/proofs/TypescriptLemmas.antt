-- Steps of a typescript, one after another.
use Rattle.std.proofs.Common.{◌≡◌, ◌∙◌, ◌<◌, ◌+◌, ℕ, suc, List, [], ◌∷◌, ◌++◌, ◌==◌, length, take, drop, get_or, refl, sym}
use Rattle.std.proofs.Common.{ap, nat_le, ◌≤◌, ◌&&◌, ◌⊎◌, inl, inr, cond, codes, ap₂, add-one, drop-cons, Bool, true}
use Rattle.std.proofs.Common.{false, Option, Some, None, arith, subst}
use Rattle.std.specs.Borrow.{Bor}
use Rattle.std.specs.Prelude.{option_and_then}
use Rattle.std.specs.Option.{option_map}
use Rattle.std.specs.Str.{IsUtf8, all_ascii_digits, bytes_eq}
use Rattle.std.specs.List.{before_first, find}
use mathlib.Core.Logic.{⊎_elim}
use Rattle.std.proofs.lemmas.Bool.Decides.{nat_tests}
use Rattle.std.proofs.lemmas.Fmt.{IsAscii-from_digits}
use Rattle.std.proofs.lemmas.Str.{IsUtf8-from_ascii}
use Rattle.command_line.specs.Numbers.{count_of, size_in}
use Rattle.command_line.proofs.NumberLemmas.{own}
use Rattle.std.proofs.lemmas.List.{get_or-map, length-map, length-take-le}
use Rattle.recordings.specs.Details.{details_of, no_details}
use Rattle.recordings.specs.Lines.{lines_in}
use Rattle.recordings.specs.Recorded.{IsStateAfter, Row, said, size_said, writes}
use Rattle.recordings.specs.Typescript.{AreSteps, IsReadScript, SaysRows, event_of, events_of, gives}
use Rattle.recordings.specs.Typescript.{begins_with, is_field, output_of, quoted_side, rest_of, script_size, shares_log, skips, taken}
use Rattle.recordings.specs.Typescript.{value_named, word_of}
use Rattle.recordings.specs.declared.error.RecordingError.{RecordingError}
use Rattle.recordings.specs.declared.error.RecordingError.TheVariants.{Step as AStep}
use Rattle.recordings.specs.declared.recording.Kind.TheVariants.{Script}
use Rattle.recordings.specs.declared.recording.Recording.{Recording}
use Rattle.recordings.specs.declared.timeline.Pace.TheVariants.{FromLast}
use Rattle.recordings.specs.declared.timeline.Timeline.{Timeline}
use Rattle.recordings.proofs.LineLemmas.{parts_at, taken_next, texts}

abbrev Events : Type 0
Events = List Row × List ℕ

abbrev after_row : Row → Events → Events
after_row row e = (row ∷ e.0, e.1)

abbrev after_rows : List Row → Events → Events
after_rows rows e = (rows ++ e.0, e.1)

none_first : (o : Option Events) → o ≡ option_map (after_rows []) o
none_first None = refl
none_first (Some e) = refl

one_first : (row : Row) (rows : List Row) (o : Option Events)
    → option_map (after_row row) (option_map (after_rows rows) o) ≡ option_map (after_rows (row ∷ rows)) o
one_first row rows None = refl
one_first row rows (Some e) = refl

row_first : (row : Row) (o : Option Events) (more : List ℕ → Option Events)
    → option_map (after_row row) (option_and_then (λ p. option_map (after_rows p.0) (more p.1)) o)
    ≡ option_and_then (λ p. option_map (after_rows p.0) (more p.1)) (option_map (after_row row) o)
row_first row None more = refl
row_first row (Some p) more = one_first row p.0 (more p.1)

by_event : (shared : Bool) (xs ys : List (List ℕ)) → ((l : List ℕ)
    → events_of shared l (xs ++ ys) ≡ option_and_then (λ p. option_map (after_rows p.0) (events_of shared p.1 ys))
    (events_of shared l xs))
    → (o : Option (Row × List ℕ)) → option_and_then (λ event. option_map (after_row event.0)
    (events_of shared event.1 (xs ++ ys))) o
    ≡ option_and_then (λ p. option_map (after_rows p.0) (events_of shared p.1 ys))
    (option_and_then (λ event. option_map (after_row event.0) (events_of shared event.1 xs)) o)
by_event shared xs ys more None = refl
by_event shared xs ys more (Some event) =
    ap (option_map (after_row event.0)) (more event.1)
    ∙ row_first event.0 (events_of shared event.1 xs) (λ l. events_of shared l ys)

pub events_of-append : (shared : Bool) (left : List ℕ) (xs ys : List (List ℕ))
    → events_of shared left (xs ++ ys) ≡ option_and_then (λ p. option_map (after_rows p.0) (events_of shared p.1 ys))
    (events_of shared left xs)
events_of-append shared left [] ys = none_first (events_of shared left ys)
events_of-append shared left (x ∷ xs) ys =
    by_event shared xs ys (λ l. events_of-append shared l xs ys) (event_of shared left x)

-- one line more
pub events_of-push : (shared : Bool) (output : List ℕ) (lines : List (List ℕ)) (line : List ℕ) (rows : List Row)
    (left : List ℕ) (row : Row)
    (after : List ℕ) → events_of shared output lines ≡ Some (rows, left) → event_of shared left line ≡ Some (row, after)
    → events_of shared output (lines ++ line ∷ []) ≡ Some (rows ++ row ∷ [], after)
events_of-push shared output lines line rows left row after so_far one =
    events_of-append shared output lines (line ∷ [])
    ∙ ap (option_and_then (λ (p : Events). option_map (after_rows p.0) (events_of shared p.1 (line ∷ [])))) so_far
    ∙ ap (λ (o : Option (Row × List ℕ)). option_map (after_rows rows)
    (option_and_then (λ event. option_map (after_row event.0) (events_of shared event.1 [])) o)) one

-- the first line that is no step
pub stopped : (shared : Bool) (output : List ℕ) (lines : List (Bor (List ℕ))) (i n : ℕ) (d : Bor (List ℕ))
    (rows : List Row)
    (left : List ℕ) (t : Timeline)
    → i < length lines → n ≡ i + 1 → events_of shared output (take i (texts lines)) ≡ Some (rows, left)
    → event_of shared left (get_or lines i d).now ≡ None → IsStateAfter FromLast rows t
    → AreSteps shared output (texts lines) t (Some n)
stopped shared output lines i n d rows left t lt number fine ill state_after =
    let m = length-map lines (λ (x : Bor (List ℕ)). x.now) in
    let k = length-take-le i (texts lines) (omega (arith, m)) in (
      record {
        before = take i (texts lines);
        line = (get_or lines i d).now;
        after = drop (suc i) (texts lines);
        parts = parts_at lines i d lt;
        number = omega (arith, k);
        rows = rows;
        left = left;
        fine = fine;
        ill = ill;
      },
      state_after,
    )

-- one more of the borrowed lines
pub next_step : (shared : Bool) (output : List ℕ) (lines : List (Bor (List ℕ))) (i : ℕ) (d : Bor (List ℕ))
    (rows : List Row)
    (left : List ℕ) (row : Row)
    (after : List ℕ) → i < length lines → events_of shared output (take i (texts lines)) ≡ Some (rows, left)
    → event_of shared left (get_or lines i d).now ≡ Some (row, after)
    → events_of shared output (take (i + 1) (texts lines)) ≡ Some (rows ++ row ∷ [], after)
next_step shared output lines i d rows left row after lt so_far one =
    ap (events_of shared output) (taken_next lines i d lt)
    ∙ events_of-push shared output (take i (texts lines)) (get_or lines i d).now rows left row after so_far one

-- the bytes of an output
pub bytes_taken : (left bytes after : List ℕ) (time count : ℕ) → count ≤ length left → bytes ≡ take count left → after
    ≡ drop count left
    → taken left (gives time count) ≡ Some ((time, Some (writes bytes)), after)
bytes_taken left bytes after time count le is rest =
    let whole : nat_le count (length left) ≡ true = grind (arith, nat_tests) in
    rw (whole, is, rest) refl

pub bytes_skipped : (left after : List ℕ) (time count : ℕ) → count ≤ length left → after ≡ drop count left
    → taken left (skips time count) ≡ Some ((time, None), after)
bytes_skipped left after time count le rest =
    let whole : nat_le count (length left) ≡ true = grind (arith, nat_tests) in
    rw (whole, rest) refl

-- ---- what is read up to a fault

says_rows : (typescript timing : List ℕ) (rows : List Row) (t : Timeline) (r : Recording) → IsStateAfter FromLast rows t
    → r.kind ≡ Script → option_map size_said r.size ≡ script_size typescript (lines_in timing) → details_of r ≡ no_details
    → r.events ≡ t.events → r.length ≡ t.time → SaysRows typescript timing rows r
says_rows typescript timing rows t r state_after kind size own events end = record {
  kind = kind;
  size = size;
  own = own;
  moments = ap (λ es. said es.items) events ∙ state_after.moments;
  length = end ∙ state_after.last;
}

read_by : (typescript timing : List ℕ) (t : Timeline) (n : Option ℕ) (r : Recording)
    → AreSteps (shares_log (lines_in timing)) (output_of typescript) (lines_in timing) t n
    → r.kind ≡ Script → option_map size_said r.size ≡ script_size typescript (lines_in timing) → details_of r ≡ no_details
    → r.events ≡ t.events → r.length ≡ t.time → IsReadScript typescript timing r (option_map AStep n)
read_by typescript timing t None r read kind size own events end = record {
  rows = read.0;
  left = read.1;
  steps = read.2;
  says = says_rows typescript timing read.0 t r read.3 kind size own events end;
}
read_by typescript timing t (Some n) r read kind size own events end = (
  read.0,
  says_rows typescript timing read.0.rows t r read.1 kind size own events end,
)

pub steps_read : (typescript timing output : List ℕ) (shared : Bool) (lines : List (List ℕ)) (t : Timeline)
    (n : Option ℕ) (r : Recording) (fault : Option RecordingError) → output ≡ output_of typescript
    → lines ≡ lines_in timing → shared ≡ shares_log lines → AreSteps shared output lines t n → r.kind ≡ Script
    → option_map size_said r.size ≡ script_size typescript lines → details_of r ≡ no_details
    → r.events ≡ t.events → r.length ≡ t.time → fault ≡ option_map AStep n → IsReadScript typescript timing r fault
steps_read typescript timing output shared lines t n r fault output_is lines_is shared_is read kind size own events
    end is =
    let by_output = subst (λ (o : List ℕ). AreSteps shared o lines t n) output_is read in
    let by_shared = subst (λ (b : Bool). AreSteps b (output_of typescript) lines t n) shared_is by_output in
    let by_lines = subst (λ (ls : List (List ℕ)). AreSteps (shares_log ls) (output_of typescript) ls t n) lines_is
    by_shared in
    subst (λ (o : Option RecordingError). IsReadScript typescript timing r o) (sym is)
    (read_by typescript timing t n r by_lines kind (size ∙ ap (script_size typescript) lines_is) own events end)

-- words that aren't UTF-8 are no numbers
digits_are_text : (word : List ℕ) → all_ascii_digits word ≡ true → IsUtf8 word
digits_are_text word is = IsUtf8-from_ascii word (IsAscii-from_digits word (own.to word is))

uncounted : (word : List ℕ) → all_ascii_digits word ≡ false → None ≡ count_of word
uncounted word e = grind arith

unsized : (word : List ℕ) → all_ascii_digits word ≡ false → None ≡ size_in word
unsized word e = grind arith

no_digits : (word : List ℕ) → ¬ (IsUtf8 word) → all_ascii_digits word ≡ false
no_digits word h = go (all_ascii_digits word) refl
  where
    go : (b : Bool) → all_ascii_digits word ≡ b → b ≡ false
    go true e = absurd (h (digits_are_text word e))
    go false e = refl

pub no_count : (word : List ℕ) → ¬ (IsUtf8 word) → None ≡ count_of word
no_count word h = uncounted word (no_digits word h)

pub no_size : (word : List ℕ) → ¬ (IsUtf8 word) → None ≡ size_in word
no_size word h = unsized word (no_digits word h)

-- ---- the fields of the header

both_hold : (a b : Bool) → a ≡ true → b ≡ true → a && b ≡ true
both_hold a b p q = rw (p, q) refl

one : (a b : Bool) → (a ≡ false) ⊎ (b ≡ false) → a && b ≡ false
one a b (inl p) = rw p refl
one true b (inr q) = q
one false b (inr q) = refl

abbrev value_of : List ℕ → List ℕ
value_of line = rest_of (rest_of (rest_of line))

abbrev found_in : List ℕ → List (List ℕ) → Option (List ℕ)
found_in name lines = option_map value_of (find (is_field name) lines)

parted : (lines : List (Bor (List ℕ))) (i : ℕ) (d : Bor (List ℕ)) → i < length lines
    → drop i (texts lines) ≡ (get_or lines i d).now ∷ drop (i + 1) (texts lines)
parted lines i d lt =
    let n = length-map lines (λ (x : Bor (List ℕ)). x.now) in
    drop-cons (texts lines) i [] (omega (arith, n))
    ∙ ap₂ (λ (x : List ℕ) (k : ℕ). x ∷ drop k (texts lines)) (get_or-map (λ (x : Bor (List ℕ)). x.now) lines i d [] lt)
    (sym (add-one i))

pub field_at : (name : List ℕ) (lines : List (Bor (List ℕ))) (i : ℕ) (d : Bor (List ℕ))
    (first rest field found value : List ℕ)
    → first ≡ word_of (get_or lines i d).now → rest ≡ rest_of (get_or lines i d).now → field ≡ rest_of rest → found
    ≡ word_of field
    → value ≡ rest_of field → i < length lines → bytes_eq first (codes "H") ≡ true → bytes_eq found name ≡ true
    → value_named name (drop i (texts lines)) ≡ Some value
field_at name lines i d first rest field found value a b e f g lt p q =
    let line = (get_or lines i d).now in
    let third : field ≡ rest_of (rest_of line) = e ∙ ap rest_of b in
    let hit : is_field name line ≡ true = both_hold (bytes_eq (word_of line) (codes "H"))
    (bytes_eq (word_of (rest_of (rest_of line))) name)
    (ap (λ w. bytes_eq w (codes "H")) (sym a) ∙ p) (ap (λ w. bytes_eq w name) (sym (f ∙ ap word_of third)) ∙ q) in
    ap (found_in name) (parted lines i d lt)
    ∙ ap (λ h. option_map value_of (cond h (Some line) (find (is_field name) (drop (i + 1) (texts lines))))) hit
    ∙ ap (λ v. Some v) (sym (g ∙ ap rest_of third))

pub field_not_at : (name : List ℕ) (lines : List (Bor (List ℕ))) (i : ℕ) (d : Bor (List ℕ))
    (first rest field found : List ℕ)
    → first ≡ word_of (get_or lines i d).now → rest ≡ rest_of (get_or lines i d).now → field ≡ rest_of rest → found
    ≡ word_of field
    → i < length lines → (bytes_eq first (codes "H") ≡ false) ⊎ (bytes_eq found name ≡ false)
    → value_named name (drop i (texts lines)) ≡ value_named name (drop (i + 1) (texts lines))
field_not_at name lines i d first rest field found a b e f lt other =
    let line = (get_or lines i d).now in
    let third : field ≡ rest_of (rest_of line) = e ∙ ap rest_of b in
    let miss : is_field name line ≡ false = one (bytes_eq (word_of line) (codes "H"))
    (bytes_eq (word_of (rest_of (rest_of line))) name)
    (⊎_elim (λ p. inl (ap (λ w. bytes_eq w (codes "H")) (sym a) ∙ p))
    (λ q. inr (ap (λ w. bytes_eq w name) (sym (f ∙ ap word_of third)) ∙ q)) other) in
    ap (found_in name) (parted lines i d lt)
    ∙ ap (λ h. option_map value_of (cond h (Some line) (find (is_field name) (drop (i + 1) (texts lines))))) miss

-- ---- the words of the first line

abbrev quoted : List ℕ → List ℕ → Option ℕ
quoted start word = size_in (before_first (λ b. b == 0x22) (drop (length start) word))

pub quoted_at : (start : List ℕ) (words : List (Bor (List ℕ))) (i : ℕ) (d : Bor (List ℕ)) → i < length words
    → begins_with start (get_or words i d).now ≡ true
    → quoted_side start (drop i (texts words)) ≡ quoted start (get_or words i d).now
quoted_at start words i d lt is =
    ap (quoted_side start) (parted words i d lt)
    ∙ ap (λ h. option_and_then (quoted start) (cond h (Some (get_or words i d).now)
    (find (begins_with start) (drop (i + 1) (texts words))))) is

pub quoted_not_at : (start : List ℕ) (words : List (Bor (List ℕ))) (i : ℕ) (d : Bor (List ℕ)) → i < length words
    → begins_with start (get_or words i d).now ≡ false
    → quoted_side start (drop i (texts words)) ≡ quoted_side start (drop (i + 1) (texts words))
quoted_not_at start words i d lt is =
    ap (quoted_side start) (parted words i d lt)
    ∙ ap (λ h. option_and_then (quoted start) (cond h (Some (get_or words i d).now)
    (find (begins_with start) (drop (i + 1) (texts words))))) is
