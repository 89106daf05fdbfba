-- The rows, the tracks and the shots of a film that is being built.
use Rattle.std.proofs.Common.{◌≡◌, ◌≢◌, ◌⊎◌, inl, inr, ◌<◌, ◌≤◌, ◌+◌, ◌*◌, ◌/◌, ◌%◌, ◌^◌, ◌++◌, ℕ, zero, suc, max, List, [], ◌∷◌, Bool}
use Rattle.std.proofs.Common.{true, false, not, cond, ◌&&◌, ◌||◌, Some, sym, ap, ◌∙◌, length, map}
use Rattle.std.proofs.Common.{subst, take, append-nil, append_assoc, refl, arith, true≢false, nat_eq, decimal}
use Rattle.std.proofs.Common.{◌-◌, below_more, get_or, length-append, slice_get}
use Rattle.std.proofs.Common.{drop, nat_le}
use Rattle.std.specs.Prelude.{if◌then◌else◌}
use Rattle.std.specs.List.{flat_map, list_any, position_or_len}
use Rattle.std.specs.Option.{option_map}
use Rattle.std.specs.Cmp.Lexicographic.{pointwise}
use Rattle.std.proofs.Math.Nat.{pow-succ', one-le-pow}
use Rattle.std.proofs.lemmas.Bool.{eq-eqb, eqb-true, le-leb}
use Rattle.std.proofs.lemmas.Grind.{flat_map-append}
use Rattle.std.proofs.lemmas.List.{length-map, map-append, take_all, take_more}
use Rattle.std.proofs.lemmas.List.Sums.{prefix_len-drop_yes}
use Rattle.std.proofs.lemmas.Option.{slice_get-map}
use Rattle.indexmap.specs.IndexSet.{insert_key}
use Rattle.picture_page.specs.Page.{digit_byte}
use Rattle.picture_page.specs.Tags.{tag_bytes}
use Rattle.picture_page.specs.declared.tag.Tag.TheVariants as tag
use Rattle.picture_page.proofs.PageLemmas.{joined_more}
use Rattle.recorded_screen.specs.Reel.{Track, changes_in, decimal_point, in_32_bits, last_digits, numbered, shots_until}
use Rattle.recorded_screen.specs.Shots.{AddsOnly, AreDifferent, Inserts, IsLonger, TakesPlace, track_of}
use Rattle.recorded_screen.specs.declared.reel.Shot.{Shot}
use Rattle.recorded_screen.specs.declared.reel.Track.{Track as GrowingTrack}

-- ---- one after another, by number

pub numbered-push : {A : Type 0} (f : ℕ → A → List ℕ) (n : ℕ) (xs : List A) (x : A)
    → numbered f n (xs ++ x ∷ []) ≡ numbered f n xs ++ f (n + length xs) x
numbered-push f n [] x = let is : n ≡ n + 0 = omega arith in append-nil (f n x) ∙ ap (λ (k : ℕ). f k x) is
numbered-push f n (y ∷ ys) x =
    let is : suc n + length ys ≡ n + suc (length ys) = omega arith in
    ap (λ (zs : List ℕ). f n y ++ zs) (numbered-push f (suc n) ys x
    ∙ ap (λ (k : ℕ). numbered f (suc n) ys ++ f k x) is)
    ∙ sym (append_assoc (f n y) (numbered f (suc n) ys) (f (n + suc (length ys)) x))

-- the same from the first number on
pub numbered-push-first : {A : Type 0} (f : ℕ → A → List ℕ) (xs : List A) (x : A)
    → numbered f 0 (xs ++ x ∷ []) ≡ numbered f 0 xs ++ f (length xs) x
numbered-push-first f xs x =
    let is : 0 + length xs ≡ length xs = omega arith in
    numbered-push f 0 xs x ∙ ap (λ (k : ℕ). numbered f 0 xs ++ f k x) is

length_taken : {A : Type 0} (i : ℕ) (xs : List A) → i < length xs → length (take i xs) ≡ i
length_taken i [] lt = absurd (omega arith)
length_taken zero (x ∷ xs) lt = refl
length_taken (suc i) (x ∷ xs) lt = ap suc (length_taken i xs (omega arith))

-- one more of those that are taken from the left
pub numbered_more : {A : Type 0} (f : ℕ → A → List ℕ) (a b c : List ℕ) (xs : List A) (i : ℕ) (x : A)
    → i < length xs → take (i + 1) xs ≡ take i xs ++ x ∷ [] → b ≡ a ++ numbered f 0 (take i xs) → c ≡ b ++ f i x
    → c ≡ a ++ numbered f 0 (take (i + 1) xs)
numbered_more f a b c xs i x lt more first second =
    joined_more a b c (numbered f 0 (take i xs)) (f i x) first second
    ∙ ap (λ (ys : List ℕ). a ++ ys)
    (ap (λ (k : ℕ). numbered f 0 (take i xs) ++ f k x) (sym (length_taken i xs lt))
    ∙ sym (numbered-push-first f (take i xs) x)
    ∙ ap (numbered f 0) (sym more))

-- ---- rows, each by its number

-- an item is drawn if it is new
pub drawn_more : (f : ℕ → List ℕ → List ℕ) (old new : List (List ℕ)) (item : List ℕ) (number : ℕ) (is_new : Bool)
    (a b : List ℕ) → Inserts old new item number is_new → a ≡ numbered f 0 old
    → b ≡ a ++ (if is_new then f number item else []) → b ≡ numbered f 0 new
drawn_more f old new item number true a b inserts drawn is =
    is ∙ ap (λ (xs : List ℕ). xs ++ f number item) drawn
    ∙ ap (λ (k : ℕ). numbered f 0 old ++ f k item) inserts.1
    ∙ sym (numbered-push-first f old item) ∙ ap (numbered f 0) (sym inserts.0)
drawn_more f old new item number false a b inserts drawn is =
    is ∙ append-nil a ∙ drawn ∙ ap (numbered f 0) (sym inserts.0)

pub got_last : {A : Type 0} (xs : List A) (x : A) → slice_get (xs ++ x ∷ []) (length xs) ≡ Some x
got_last [] x = refl
got_last (y ∷ ys) x = got_last ys x

longer_by_one : {A : Type 0} (old new : List A) (item : A) (number : ℕ) (is_new : Bool)
    → Inserts old new item number is_new → IsLonger old new
longer_by_one old new item number true inserts = record { more = item ∷ []; is = inserts.0 }
longer_by_one old new item number false inserts = record { more = []; is = inserts.0 ∙ sym (append-nil old) }

item_is_at : {A : Type 0} (old new : List A) (item : A) (number : ℕ) (is_new : Bool)
    → Inserts old new item number is_new → slice_get new number ≡ Some item
item_is_at {A} old new item number true inserts =
    ap (λ (xs : List A). slice_get xs number) inserts.0
    ∙ ap (λ (k : ℕ). slice_get (old ++ item ∷ []) k) inserts.1 ∙ got_last old item
item_is_at {A} old new item number false inserts =
    ap (λ (xs : List A). slice_get xs number) inserts.0 ∙ inserts.1

-- the one that is added is the only new one
number_added : {A : Type 0} (old new : List A) (item : A) (number : ℕ) (is_new : Bool)
    → Inserts old new item number is_new → AddsOnly number old new
number_added {A} old new item number true inserts = λ i lt.
    let len : length new ≡ length old + 1 =
    ap (λ (xs : List A). length xs) inserts.0 ∙ length-append old (item ∷ []) in
    below_more (λ (k : ℕ). (k < length old) ⊎ (k ≡ number)) (length old) (λ r below. inl below) (inr (sym inserts.1)) i
    (omega arith)
number_added {A} old new item number false inserts = λ i lt.
    inl (subst (λ (xs : List A). i < length xs) inserts.0 lt)

got_either : {A : Type 0} (xs : List A) (x : A) (i : ℕ) (y : A) → slice_get (xs ++ x ∷ []) i ≡ Some y
    → (slice_get xs i ≡ Some y) ⊎ ((y ≡ x) × (i ≡ length xs))
got_either [] x zero y h = let same : x ≡ y = cc in inr (sym same, refl)
got_either [] x (suc i) y h = absurd (cc)
got_either (z ∷ zs) x zero y h = inl h
got_either (z ∷ zs) x (suc i) y h = further (got_either zs x i y h)
  where
    further : (slice_get zs i ≡ Some y) ⊎ ((y ≡ x) × (i ≡ length zs))
        → (slice_get zs i ≡ Some y) ⊎ ((y ≡ x) × (suc i ≡ suc (length zs)))
    further (inl at) = inl at
    further (inr last) = inr (last.0, ap suc last.1)

different_push : {A : Type 0} (xs : List A) (x : A) → AreDifferent xs → ((i : ℕ) → slice_get xs i ≢ Some x)
    → AreDifferent (xs ++ x ∷ [])
different_push {A} xs x before absent = λ i j y a b. by i j y (got_either xs x i y a) (got_either xs x j y b)
  where
    by : (i j : ℕ) (y : A) → (slice_get xs i ≡ Some y) ⊎ ((y ≡ x) × (i ≡ length xs))
        → (slice_get xs j ≡ Some y) ⊎ ((y ≡ x) × (j ≡ length xs)) → i ≡ j
    by i j y (inl a) (inl b) = before i j y a b
    by i j y (inl a) (inr b) = absurd (absent i (a ∙ ap (λ (z : A). Some z) b.0))
    by i j y (inr a) (inl b) = absurd (absent j (b ∙ ap (λ (z : A). Some z) a.0))
    by i j y (inr a) (inr b) = a.1 ∙ sym b.1

different_more : {A : Type 0} (old new : List A) (item : A) (number : ℕ) (is_new : Bool)
    → Inserts old new item number is_new → AreDifferent old → AreDifferent new
different_more old new item number true inserts before =
    subst AreDifferent (sym inserts.0) (different_push old item before inserts.2)
different_more old new item number false inserts before = subst AreDifferent (sym inserts.0) before

pub takes_place : {A : Type 0} (old new : List A) (item : A) (number : ℕ) (is_new : Bool)
    → Inserts old new item number is_new → TakesPlace item old new number
takes_place old new item number is_new inserts = record {
  at = item_is_at old new item number is_new inserts;
  longer = longer_by_one old new item number is_new inserts;
  own = number_added old new item number is_new inserts;
  different = different_more old new item number is_new inserts;
}

-- ---- what a set of them says

both : (a b : Bool) → a && b ≡ true → (a ≡ true) × (b ≡ true)
both true b h = (refl, h)
both false b h = absurd (true≢false (sym h))

pub same_items : (xs ys : List ℕ) → pointwise nat_eq xs ys ≡ true → xs ≡ ys
same_items [] [] h = refl
same_items [] (y ∷ ys) h = absurd (true≢false (sym h))
same_items (x ∷ xs) [] h = absurd (true≢false (sym h))
same_items (x ∷ xs) (y ∷ ys) h =
    let all = both (nat_eq x y) (pointwise nat_eq xs ys) h in
    ap (λ (z : ℕ). z ∷ xs) (eqb-true x y all.0) ∙ ap (λ (zs : List ℕ). y ∷ zs) (same_items xs ys all.1)

equal_to_itself : (xs : List ℕ) → pointwise nat_eq xs xs ≡ true
equal_to_itself [] = refl
equal_to_itself (x ∷ xs) =
    ap (λ (b : Bool). b && pointwise nat_eq xs xs) (eq-eqb x x refl) ∙ equal_to_itself xs

pub items_same : (xs ys : List ℕ) → xs ≡ ys → pointwise nat_eq xs ys ≡ true
items_same xs ys is = subst (λ (zs : List ℕ). pointwise nat_eq xs zs ≡ true) is (equal_to_itself xs)

got_mapped : {V A : Type 0} (items : V → A) (xs : List V) (i : ℕ) (k : V) → slice_get xs i ≡ Some k
    → slice_get (map items xs) i ≡ Some (items k)
got_mapped items xs i k h = slice_get-map items xs i ∙ ap (option_map items) h

neither : (a b : Bool) → a || b ≡ false → (a ≡ false) × (b ≡ false)
neither false b h = (refl, h)
neither true b h = absurd (true≢false h)

position_of_none : {V A : Type 0} (items : V → A) (p : V → Bool) (xs : List V) → list_any p xs ≡ false
    → position_or_len p xs ≡ length (map items xs)
position_of_none items p [] h = refl
position_of_none items p (x ∷ xs) h =
    let no = neither (p x) (list_any p xs) h in
    let one : 1 + length (map items xs) ≡ suc (length (map items xs)) = omega arith in
    ap (λ (b : Bool). cond (not b) (1 + position_or_len p xs) 0) no.0
    ∙ ap (λ (n : ℕ). 1 + n) (position_of_none items p xs no.1) ∙ one

none_there : {V A : Type 0} (eq : V → V → Bool) (items : V → A)
    → ((x y : V) → items x ≡ items y → eq x y ≡ true) → (value : V) (old : List V) (i : ℕ)
    → list_any (eq value) old ≡ false → slice_get (map items old) i ≢ Some (items value)
none_there eq items equal value [] i h = λ at. absurd (cc)
none_there eq items equal value (x ∷ xs) zero h = λ at.
    let no = neither (eq value x) (list_any (eq value) xs) h in
    let same : items x ≡ items value = cc in
    absurd (true≢false (sym (equal value x (sym same)) ∙ no.0))
none_there eq items equal value (x ∷ xs) (suc i) h =
    none_there eq items equal value xs i (neither (eq value x) (list_any (eq value) xs) h).1

pub inserted : {V A : Type 0} (eq : V → V → Bool) (items : V → A)
    → ((x y : V) → eq x y ≡ true → items x ≡ items y) → ((x y : V) → items x ≡ items y → eq x y ≡ true)
    → (old new : List V) (value : V) (number : ℕ) (is_new : Bool)
    → is_new ≡ not (list_any (eq value) old) → new ≡ insert_key eq old value
    → number ≡ position_or_len (eq value) old → (k : V) → slice_get new number ≡ Some k → eq value k ≡ true
    → Inserts (map items old) (map items new) (items value) number is_new
inserted {V} {A} eq items same complete old new value number is_new is keys index k stored equal = by (list_any (eq value) old) refl
  where
    by : (b : Bool) → list_any (eq value) old ≡ b
        → Inserts (map items old) (map items new) (items value) number is_new
    by true there =
        let kept : new ≡ old = keys ∙ ap (λ (b : Bool). if b then old else old ++ value ∷ []) there in
        let none_new : is_new ≡ false = is ∙ ap not there in
        subst (λ (b : Bool). Inserts (map items old) (map items new) (items value) number b) (sym none_new) (
          ap (map items) kept,
          got_mapped items old number k (ap (λ (xs : List V). slice_get xs number) (sym kept) ∙ stored)
              ∙ ap (λ (v : A). Some v) (sym (same value k equal)),
        )
    by false absent =
        let more : new ≡ old ++ value ∷ [] = keys ∙ ap (λ (b : Bool). if b then old else old ++ value ∷ []) absent in
        let is_one : is_new ≡ true = is ∙ ap not absent in
        subst (λ (b : Bool). Inserts (map items old) (map items new) (items value) number b) (sym is_one) (
          ap (map items) more ∙ map-append items old (value ∷ []),
          index ∙ position_of_none items (eq value) old absent,
          λ i. none_there eq items complete value old i absent,
        )

map_same : (xs : List ℕ) → map (λ (x : ℕ). x) xs ≡ xs
map_same [] = refl
map_same (x ∷ xs) = ap (λ (ys : List ℕ). x ∷ ys) (map_same xs)

pub inserted_number : (old new : List ℕ) (value number : ℕ) (is_new : Bool)
    → Inserts (map (λ (x : ℕ). x) old) (map (λ (x : ℕ). x) new) value number is_new
    → Inserts old new value number is_new
inserted_number old new value number is_new inserts =
    subst (λ (xs : List ℕ). Inserts xs new value number is_new) (map_same old)
    (subst (λ (xs : List ℕ). Inserts (map (λ (x : ℕ). x) old) xs value number is_new) (map_same new) inserts)

-- ---- tracks, one after another

pub mapped_at : (xs : List GrowingTrack) (i : ℕ) (x : GrowingTrack)
    → get_or (map track_of xs) i (track_of x) ≡ track_of (get_or xs i x)
mapped_at [] i x = refl
mapped_at (y ∷ ys) zero x = refl
mapped_at (y ∷ ys) (suc i) x = mapped_at ys i x

pub track_more : (xs : List GrowingTrack) (i : ℕ) (x : GrowingTrack) → i < length xs → x ≡ get_or xs i x
    → take (i + 1) (map track_of xs) ≡ take i (map track_of xs) ++ track_of x ∷ []
track_more xs i x lt is =
    take_more (map track_of xs) i (track_of x) (let len = length-map xs track_of in omega arith)
    ∙ ap (λ (t : Track). take i (map track_of xs) ++ t ∷ [])
    (mapped_at xs i x ∙ ap (λ (t : GrowingTrack). track_of t) (sym is))

-- one more of the tracks that are written
pub tracks_more : (f : ℕ → Track → List ℕ) (a b d : List ℕ) (xs : List GrowingTrack) (i : ℕ) (x : GrowingTrack)
    → i < length xs → x ≡ get_or xs i x → b ≡ a ++ numbered f 0 (take i (map track_of xs)) → d ≡ b ++ f i (track_of x)
    → d ≡ a ++ numbered f 0 (take (i + 1) (map track_of xs))
tracks_more f a b d xs i x lt is first second =
    numbered_more f a b d (map track_of xs) i (track_of x) (let len = length-map xs track_of in omega arith)
    (track_more xs i x lt is) first second

pub all_tracks : (f : ℕ → Track → List ℕ) (a b : List ℕ) (xs : List GrowingTrack) (i : ℕ) → length xs ≤ i
    → b ≡ a ++ numbered f 0 (take i (map track_of xs)) → b ≡ a ++ numbered f 0 (map track_of xs)
all_tracks f a b xs i past is =
    is ∙ ap (λ (ts : List Track). a ++ numbered f 0 ts)
    (take_all i (map track_of xs) (let len = length-map xs track_of in omega arith))

changes-push : (xs : List Track) (x : Track)
    → changes_in (xs ++ x ∷ []) ≡ changes_in xs + (length x.shots - 1)
changes-push [] x = omega arith
changes-push (y ∷ ys) x = let rest = changes-push ys x in omega arith

pub changes_more : (xs : List GrowingTrack) (i : ℕ) (x : GrowingTrack) (before after : ℕ) → i < length xs
    → x ≡ get_or xs i x → before ≤ changes_in (take i (map track_of xs))
    → after ≤ before + (length x.shots.items - 1) → after ≤ changes_in (take (i + 1) (map track_of xs))
changes_more xs i x before after lt is first second =
    let more = ap changes_in (track_more xs i x lt is) in
    let push = changes-push (take i (map track_of xs)) (track_of x) in omega arith

pub all_changes : (xs : List GrowingTrack) (i count : ℕ) → length xs ≤ i
    → count ≤ changes_in (take i (map track_of xs)) → count ≤ changes_in (map track_of xs)
all_changes xs i count past is =
    subst (λ (ts : List Track). count ≤ changes_in ts)
    (take_all i (map track_of xs) (let len = length-map xs track_of in omega arith)) is

-- ---- decimals

pub decimal_begins : (a b d : List ℕ) (value parts places : ℕ) → parts ≡ 10 ^ places
    → b ≡ a ++ decimal (in_32_bits (value / parts)) → d ≡ b ++ tag_bytes tag.Point
    → a ++ decimal_point places value ≡ d ++ last_digits places value
decimal_begins a b d value parts places is first second =
    ap (λ (p : ℕ). a ++ (decimal (in_32_bits (value / p)) ++ (tag_bytes tag.Point ++ last_digits places value)))
    (sym is)
    ∙ sym (joined_more a b (d ++ last_digits places value) _ _ first
    (joined_more b d (d ++ last_digits places value) _ _ second refl))

-- the digits that are still to be written, where this many places are left
pub record IsRest (unit : ℕ) (whole page : List ℕ) (value : ℕ) : Type 0 where
  pub places : ℕ
  pub is : unit ≡ 10 ^ places
  pub rest : whole ≡ page ++ last_digits places value

pub decimal_goes_on : (whole a b : List ℕ) (value unit digit : ℕ) → 1 < unit → IsRest unit whole a value
    → digit ≡ value / max (unit / 10) 1 % 10 → b ≡ a ++ digit_byte (digit % 16) ∷ []
    → IsRest (unit / 10) whole b value
unfolding last_digits
decimal_goes_on whole a b value unit digit more left digit_is is = by left.places left.is left.rest
  where
    by : (places : ℕ) → unit ≡ 10 ^ places → whole ≡ a ++ last_digits places value
        → IsRest (unit / 10) whole b value
    by zero unit_is rest = let one : unit ≡ 1 = unit_is in absurd (omega arith)
    by (suc places) unit_is rest =
        let power : 10 ^ suc places ≡ 10 * 10 ^ places = pow-succ' 10 places in
        let some : 1 ≤ 10 ^ places = one-le-pow places 10 (omega arith) in
        let next : unit / 10 ≡ 10 ^ places = omega arith in
        let bound : max (unit / 10) 1 ≡ 10 ^ places = omega arith in
        let small : digit % 16 ≡ digit = omega arith in
        let digit_at : digit % 16 ≡ value / 10 ^ places % 10 =
        small ∙ digit_is ∙ ap (λ (p : ℕ). value / p % 10) bound in
        record {
          places = places;
          is = next;
          rest = rest ∙ sym (append_assoc a (digit_byte (value / 10 ^ places % 10) ∷ []) (last_digits places value))
              ∙ ap (λ (xs : List ℕ). xs ++ last_digits places value)
              (ap (λ (d : ℕ). a ++ digit_byte d ∷ []) (sym digit_at) ∙ sym is);
        }

pub decimal_ends : (whole a : List ℕ) (value unit : ℕ) → unit ≤ 1 → IsRest unit whole a value → a ≡ whole
unfolding last_digits
decimal_ends whole a value unit least left = by left.places left.is left.rest
  where
    by : (places : ℕ) → unit ≡ 10 ^ places → whole ≡ a ++ last_digits places value → a ≡ whole
    by zero unit_is rest = sym (rest ∙ append-nil a)
    by (suc places) unit_is rest =
        let power : 10 ^ suc places ≡ 10 * 10 ^ places = pow-succ' 10 places in
        let some : 1 ≤ 10 ^ places = one-le-pow places 10 (omega arith) in absurd (omega arith)

-- ---- the times

-- a shot more of those that are taken from the left
pub shots_more : (f : Shot → List ℕ) (a b c : List ℕ) (shots : List Shot) (i : ℕ) (x : Shot)
    → take (i + 1) shots ≡ take i shots ++ x ∷ [] → b ≡ a ++ flat_map f (take i shots) → c ≡ b ++ f x
    → c ≡ a ++ flat_map f (take (i + 1) shots)
shots_more f a b c shots i x more first second =
    let some = flat_map f (take i shots) in
    let joined : some ++ f x ≡ flat_map f (take (i + 1) shots) =
    sym (ap (flat_map f) more ∙ flat_map-append f (take i shots) (x ∷ [])
    ∙ ap (λ (xs : List ℕ). some ++ xs) (append-nil (f x))) in
    joined_more a b c some (f x) first second ∙ ap (λ (xs : List ℕ). a ++ xs) joined

pub other_fault : {A B C D : Type 0} → (C → D) → A ⊎ (B × C) → A ⊎ (B × D)
other_fault f (inl a) = inl a
other_fault f (inr fault) = inr (fault.0, f fault.1)

-- the parts of a film, on a page that was empty at first
pub film_developed : (empty a b d e bytes head times drawn foot : List ℕ) → empty ≡ [] → a ≡ empty ++ head
    → b ≡ a ++ times → d ≡ b ++ drawn → e ≡ d ++ foot → bytes ≡ e → bytes ≡ head ++ (times ++ (drawn ++ foot))
film_developed empty a b d e bytes head times drawn foot nothing first second third fourth is =
    is ∙ joined_more empty a e head _ first (joined_more a b e times _ second (joined_more b d e drawn foot third
    fourth))
    ∙ ap (λ (xs : List ℕ). xs ++ (head ++ (times ++ (drawn ++ foot)))) nothing

-- a shot more that comes no later
pub one_shot_counts : (shots : List Shot) (time i n : ℕ) (none : Shot) → i < length shots
    → (get_or shots i none).time ≤ time → n ≡ i + shots_until time (drop i shots)
    → n ≡ (i + 1) + shots_until time (drop (i + 1) shots)
one_shot_counts shots time i n none lt soon before =
    let test : Shot → Bool = λ y. nat_le y.time time in
    let passes : nat_le (get_or shots i none).time time ≡ true = le-leb (get_or shots i none).time time soon in
    let one : i + (1 + shots_until time (drop (i + 1) shots)) ≡ (i + 1) + shots_until time (drop (i + 1) shots) =
    omega arith in
    before ∙ ap (λ (k : ℕ). i + k) (prefix_len-drop_yes test shots i none lt passes) ∙ one
