-- Colours, one after another.
use Rattle.std.proofs.Common.{◌≡◌, ◌≢◌, ◌∙◌, ◌<◌, ◌≤◌, ◌+◌, ◌-◌, ℕ, suc, Bool, true, false, List, [], ◌∷◌, ◌++◌, map}
use Rattle.std.proofs.Common.{length, take, drop, get_or, refl, sym, ap, ◌*◌, ◌^◌, ◌&&◌, nat_lt, ap₂, subst, lit≤, lit<}
use Rattle.std.proofs.Common.{Option, Some, None, arith, append-nil, length-append, add-one, drop-cons}
use Rattle.std.proofs.Math.ListN.{set, length-set}
use Rattle.std.proofs.Math.Seq.{paste, take-add, take-suc-set}
use Rattle.std.proofs.lemmas.Bool.Decides.{nat_tests}
use Rattle.std.proofs.Math.Nat.{pow-le-pow_right, pow-suc}
use Rattle.std.proofs.lemmas.Int.Digits.{digits_value_more}
use Rattle.std.proofs.lemmas.List.{length-map, map-append, at_drop_all, at_drop_more, drop-take, drop_all, take_all}
use Rattle.std.proofs.lemmas.List.{take-append-le}
use Rattle.std.specs.Borrow.{Bor}
use Rattle.std.specs.Prelude.{if◌then◌else◌, option_and_then}
use Rattle.std.specs.Char.{digit_value, is_digit}
use Rattle.std.specs.List.{list_all}
use Rattle.std.specs.Str.Parse.{digits_value}
use Rattle.std.specs.Option.{option_map}
use Rattle.recordings.specs.Themes.{color_in, colors_in, palette_of}

joined : (o : Option ℕ) (m n : Option (List ℕ))
    → option_and_then (λ c. option_map (λ (cs : List ℕ). c ∷ cs) (option_and_then (λ xs. option_map (λ ys. xs ++ ys) n)
    m)) o
    ≡ option_and_then (λ xs. option_map (λ ys. xs ++ ys) n) (option_and_then (λ c. option_map (λ (cs : List ℕ). c ∷ cs)
    m) o)
joined None m n = refl
joined (Some c) None n = refl
joined (Some c) (Some xs) None = refl
joined (Some c) (Some xs) (Some ys) = refl

alone : (n : Option (List ℕ)) → n ≡ option_map (λ ys. [] ++ ys) n
alone None = refl
alone (Some ys) = refl

pub colors_in-append : (xs ys : List (List ℕ))
    → colors_in (xs ++ ys) ≡ option_and_then (λ cs. option_map (λ ds. cs ++ ds) (colors_in ys)) (colors_in xs)
colors_in-append [] ys = alone (colors_in ys)
colors_in-append (x ∷ xs) ys =
    ap (λ m. option_and_then (λ c. option_map (λ (cs : List ℕ). c ∷ cs) m) (color_in x)) (colors_in-append xs ys)
    ∙ joined (color_in x) (colors_in xs) (colors_in ys)

-- one colour more
pub colors_in-push : (xs : List (List ℕ)) (x : List ℕ) (cs : List ℕ) (c : ℕ) → colors_in xs ≡ Some cs → color_in x
    ≡ Some c
    → colors_in (xs ++ x ∷ []) ≡ Some (cs ++ c ∷ [])
colors_in-push xs x cs c so_far one = rw (colors_in-append xs (x ∷ []), so_far, one) refl

-- a word that is no colour
pub colors_in-none : (xs ys : List (List ℕ)) (x : List ℕ) (cs : List ℕ) → colors_in xs ≡ Some cs → color_in x ≡ None
    → colors_in (xs ++ x ∷ ys) ≡ None
colors_in-none xs ys x cs so_far none = rw (colors_in-append xs (x ∷ ys), so_far, none) refl

-- ---- the digits of a colour, as far as they were read

abbrev are_hex : List ℕ → Bool
are_hex bs = list_all (λ b. is_digit b 16) bs

pub record AreDigitsSoFar (digits : List ℕ) (i color : ℕ) : Type 0 where
  pub value : color ≡ digits_value 16 (take i digits)
  pub small : color < 16 ^ i
  pub left : list_all (λ b. is_digit b 16) (drop i digits) ≡ list_all (λ b. is_digit b 16) digits

pub no_digits_yet : (digits : List ℕ) → AreDigitsSoFar digits 0 0
no_digits_yet digits = record { value = refl; small = lit< tt; left = refl }

raised : (i color v : ℕ) → color < 16 ^ i → v < 16 → color * 16 + v < 16 ^ (i + 1)
raised i color v a b =
    let more : 16 ^ (i + 1) ≡ 16 ^ i * 16 = rw (add-one, pow-suc) refl in
    omega (arith, more)

is_hex : (x : ℕ) → x < 16 → nat_lt x 16 ≡ true
is_hex x h = grind (arith, nat_tests)

no_hex : (x : ℕ) → ¬ (x < 16) → nat_lt x 16 ≡ false
no_hex x h = grind (arith, nat_tests)

pub next_digit : (digits : List ℕ) (i color v : ℕ) → i < length digits → digit_value (get_or digits i 0) < 16
    → v ≡ digit_value (get_or digits i 0) → AreDigitsSoFar digits i color → AreDigitsSoFar digits (i + 1)
    (color * 16 + v)
next_digit digits i color v lt small is so_far =
    let d = get_or digits i 0 in
    record {
      value = ap₂ (λ m n. m * 16 + n) so_far.value is ∙ sym (digits_value_more 16 digits i lt);
      small = raised i color v so_far.small (subst (λ n. n < 16) (sym is) small);
      left = sym (at_drop_more are_hex digits i 0 lt ∙ ap (λ b. b && are_hex (drop (i + 1) digits))
          (is_hex (digit_value d) small))
          ∙ so_far.left;
    }

pub all_digits : (digits : List ℕ) (i color : ℕ) → length digits ≤ i → AreDigitsSoFar digits i color
    → Some color ≡ (if list_all (λ b. is_digit b 16) digits then Some (digits_value 16 digits) else None)
all_digits digits i color end so_far =
    let all : are_hex digits ≡ true = sym so_far.left ∙ at_drop_all are_hex digits i end in
    ap Some (so_far.value ∙ ap (digits_value 16) (take_all i digits end))
    ∙ sym (ap (λ b. if b then Some (digits_value 16 digits) else None) all)

pub no_digit : (digits : List ℕ) (i color : ℕ) → i < length digits → ¬ (digit_value (get_or digits i 0) < 16)
    → AreDigitsSoFar digits i color
    → None ≡ (if list_all (λ b. is_digit b 16) digits then Some (digits_value 16 digits) else None)
no_digit digits i color lt other so_far =
    let none : are_hex digits ≡ false =
    sym so_far.left ∙ at_drop_more are_hex digits i 0 lt
    ∙ ap (λ b. b && are_hex (drop (i + 1) digits)) (no_hex (digit_value (get_or digits i 0)) other) in
    sym (ap (λ b. if b then Some (digits_value 16 digits) else None) none)

pub color_fits : (i color : ℕ) → i < 6 → color < 16 ^ i → color < 2 ^ 20
color_fits i color lt small =
    let most : 16 ^ i ≤ 16 ^ 5 = pow-le-pow_right {n = 16} (lit< tt) {i = i} {j = 5} (omega arith) in
    omega (arith, most)

-- ---- the palette, as far as its words were read

pub record IsPaletteAfter (words : List (List ℕ)) (end : ℕ) (colors : List ℕ) : Type 0 where
  pub some : List ℕ
  pub are : colors_in (take 16 words) ≡ Some some
  pub stored : take end colors ≡ 0 ∷ 0 ∷ some
  pub filled : end ≡ length some + 2
  pub short : end < 18 → length words ≡ length some
  pub most : end ≤ 18
  pub long : end ≡ 18 → 16 ≤ length words
  pub room : length colors ≡ 18

abbrev pub behind_two : List ℕ → List ℕ
behind_two colors = 0 ∷ 0 ∷ colors

pub no_words : (colors : List ℕ) → length colors ≡ 18 → take 2 colors ≡ 0 ∷ 0 ∷ [] → IsPaletteAfter [] 2 colors
no_words colors room first = record {
  some = [];
  are = refl;
  stored = first;
  filled = refl;
  short = λ h. refl;
  most = lit≤ tt;
  long = λ e. absurd (omega (arith, e));
  room = room;
}

pub one_word : (words : List (List ℕ)) (word : List ℕ) (end v : ℕ) (colors : List ℕ) → end < 18 → color_in word ≡ Some v
    → IsPaletteAfter words end colors → IsPaletteAfter (words ++ word ∷ []) (end + 1) (set colors end v)
one_word words word end v colors lt one p =
    let n : length words ≡ length p.some = p.short lt in
    let few : length words < 16 = omega (arith, n, p.filled) in
    let m : length (words ++ word ∷ []) ≡ length words + 1 = length-append words (word ∷ []) in
    let k : length (p.some ++ v ∷ []) ≡ length p.some + 1 = length-append p.some (v ∷ []) in
    let all : take 16 words ≡ words = take_all 16 words (omega (arith, few)) in
    let more : take 16 (words ++ word ∷ []) ≡ words ++ word ∷ [] = take_all 16 (words ++ word ∷ [])
    (omega (arith, m, few)) in
    record {
      some = p.some ++ v ∷ [];
      are = ap colors_in more ∙ colors_in-push words word p.some v (ap colors_in (sym all) ∙ p.are) one;
      stored = ap (λ i. take i (set colors end v)) (add-one end) ∙ take-suc-set colors end v (omega (arith, p.room))
          ∙ ap (λ xs. xs ++ v ∷ []) p.stored;
      filled = omega (arith, p.filled, k);
      short = λ h. omega (arith, m, n, k);
      most = omega arith;
      long = λ e. omega (arith, e, m, n, p.filled);
      room = length-set colors end v ∙ p.room;
    }

pub word_more : (words : List (List ℕ)) (word : List ℕ) (end : ℕ) (colors : List ℕ) → 18 ≤ end
    → IsPaletteAfter words end colors → IsPaletteAfter (words ++ word ∷ []) end colors
word_more words word end colors full p =
    let is : end ≡ 18 = let most = p.most in omega arith in
    let long : 16 ≤ length words = p.long is in
    let m : length (words ++ word ∷ []) ≡ length words + 1 = length-append words (word ∷ []) in
    record {
      some = p.some;
      are = ap colors_in (take-append-le 16 words (word ∷ []) long) ∙ p.are;
      stored = p.stored;
      filled = p.filled;
      short = λ h. absurd (omega (arith, h, full));
      most = p.most;
      long = λ e. omega (arith, m, long);
      room = p.room;
    }

-- a word that is no colour, among the first sixteen
pub bad_word : (all words : List (List ℕ)) (word : List ℕ) (end : ℕ) (colors : List ℕ) → words ≡ take (length words) all
    → length words < length all → word ≡ get_or all (length words) word → end < 18 → color_in word ≡ None
    → IsPaletteAfter words end colors → None ≡ option_map behind_two (option_and_then palette_of
    (colors_in (take 16 all)))
bad_word all words word end colors so_far lt here small none p =
    let n = length words in
    let short : n ≡ length p.some = p.short small in
    let sum : n + suc (15 - n) ≡ 16 = omega (arith, short, p.filled, small) in
    let first : take 16 words ≡ words = take_all 16 words (omega (arith, sum)) in
    let parted : take 16 all ≡ words ++ word ∷ take (15 - n) (drop (suc n) all) =
    ap (λ k. take k all) (sym sum) ∙ take-add n (suc (15 - n)) all
    ∙ ap₂ (λ xs ys. xs ++ take (suc (15 - n)) ys) (sym so_far)
    (drop-cons all n word lt ∙ ap (λ x. x ∷ drop (suc n) all) (sym here)) in
    sym (ap (λ ws. option_map behind_two (option_and_then palette_of (colors_in ws))) parted
    ∙ ap (λ o. option_map behind_two (option_and_then palette_of o))
    (colors_in-none words (take (15 - n) (drop (suc n) all)) word p.some (ap colors_in (sym first) ∙ p.are) none))

palette_is : (end : ℕ) (colors : List ℕ) (all words : List (List ℕ)) → words ≡ all
    → (p : IsPaletteAfter words end colors)
    → option_map behind_two (option_and_then palette_of (colors_in (take 16 all))) ≡ option_map behind_two
    (palette_of p.some)
palette_is end colors all words is p =
    ap (λ ws. option_map behind_two (option_and_then palette_of (colors_in (take 16 ws)))) (sym is)
    ∙ ap (λ o. option_map behind_two (option_and_then palette_of o)) p.are

pub sixteen : (end : ℕ) (colors : List ℕ) (all words : List (List ℕ)) → words ≡ all → end ≡ 18 → IsPaletteAfter words
    end colors
    → Some colors ≡ option_map behind_two (option_and_then palette_of (colors_in (take 16 all)))
sixteen end colors all words is e p =
    let n : length p.some ≡ 16 = omega (arith, e, p.filled) in
    let whole : colors ≡ 0 ∷ 0 ∷ p.some =
    sym (take_all end colors (omega (arith, e, p.room))) ∙ p.stored in
    let palette : palette_of p.some ≡ Some p.some = grind (arith, nat_tests) in
    ap Some whole ∙ sym (palette_is end colors all words is p ∙ ap (option_map behind_two) palette)

pub eight : (end : ℕ) (colors new : List ℕ) (all words : List (List ℕ)) → words ≡ all → end ≡ 10 → IsPaletteAfter words
    end colors
    → new ≡ paste colors 10 (drop 2 colors) 8
    → Some new ≡ option_map behind_two (option_and_then palette_of (colors_in (take 16 all)))
eight end colors new all words is e p pasted =
    let n : length p.some ≡ 8 = omega (arith, e, p.filled) in
    let first : take 10 colors ≡ 0 ∷ 0 ∷ p.some = ap (λ i. take i colors) (sym e) ∙ p.stored in
    let second : take 8 (drop 2 colors) ≡ p.some = sym (drop-take 2 8 colors) ∙ ap (drop 2) first in
    let none : drop 18 colors ≡ [] = drop_all 18 colors (omega (arith, p.room)) in
    let whole : new ≡ 0 ∷ 0 ∷ (p.some ++ p.some) =
    pasted ∙ ap₂ (λ xs ys. xs ++ ys) (ap₂ (λ xs ys. xs ++ ys) first second) none
    ∙ append-nil (0 ∷ 0 ∷ (p.some ++ p.some)) in
    let palette : palette_of p.some ≡ Some (p.some ++ p.some) = grind (arith, nat_tests) in
    ap Some whole ∙ sym (palette_is end colors all words is p ∙ ap (option_map behind_two) palette)

pub other_count : (end : ℕ) (colors : List ℕ) (all words : List (List ℕ)) → words ≡ all → end ≢ 18 → end ≢ 10
    → IsPaletteAfter words end colors → None ≡ option_map behind_two (option_and_then palette_of
    (colors_in (take 16 all)))
other_count end colors all words is a b p =
    let m : length p.some ≢ 16 = λ x. a (omega (arith, x, p.filled)) in
    let n : length p.some ≢ 8 = λ x. b (omega (arith, x, p.filled)) in
    let palette : palette_of p.some ≡ None = grind (arith, nat_tests) in
    sym (palette_is end colors all words is p ∙ ap (option_map behind_two) palette)

-- ---- the same of borrowed words

abbrev pub words_of : List (Bor (List ℕ)) → List (List ℕ)
words_of ys = map {A = Bor (List ℕ)} {B = List ℕ} (λ w. w.now) ys

pushed : (ys : List (Bor (List ℕ))) (y : Bor (List ℕ)) → words_of (ys ++ y ∷ []) ≡ words_of ys ++ y.now ∷ []
pushed ys y = map-append (λ (w : Bor (List ℕ)). w.now) ys (y ∷ [])

pub next_word : (ys : List (Bor (List ℕ))) (y : Bor (List ℕ)) (end v : ℕ) (colors : List ℕ) → end < 18 → color_in y.now
    ≡ Some v
    → IsPaletteAfter (words_of ys) end colors → IsPaletteAfter (words_of (ys ++ y ∷ [])) (end + 1) (set colors end v)
next_word ys y end v colors lt one p =
    subst (λ (ws : List (List ℕ)). IsPaletteAfter ws (end + 1) (set colors end v)) (sym (pushed ys y))
    (one_word (words_of ys) y.now end v colors lt one p)

pub past_word : (ys : List (Bor (List ℕ))) (y : Bor (List ℕ)) (end : ℕ) (colors : List ℕ) → 18 ≤ end
    → IsPaletteAfter (words_of ys) end colors → IsPaletteAfter (words_of (ys ++ y ∷ [])) end colors
past_word ys y end colors full p =
    subst (λ (ws : List (List ℕ)). IsPaletteAfter ws end colors) (sym (pushed ys y)) (word_more (words_of ys) y.now end
    colors full p)

pub no_color : (all : List (List ℕ)) (ys : List (Bor (List ℕ))) (y : Bor (List ℕ)) (end : ℕ) (colors : List ℕ)
    → words_of ys ≡ take (length ys) all → (length ys < length all) × (y.now ≡ get_or all (length ys) y.now) → end < 18
    → color_in y.now ≡ None → IsPaletteAfter (words_of ys) end colors
    → None ≡ option_map behind_two (option_and_then palette_of (colors_in (take 16 all)))
no_color all ys y end colors so_far turn lt none p =
    let n = length-map ys (λ (w : Bor (List ℕ)). w.now) in
    bad_word all (words_of ys) y.now end colors (so_far ∙ ap (λ (k : ℕ). take k all) (sym n)) (omega (arith, n, turn.0))
    (turn.1 ∙ ap (λ (k : ℕ). get_or all k y.now) (sym n)) lt none p
