-- Lone numbers, byte by byte.
use Rattle.std.proofs.Common.{◌≡◌, ◌∙◌, ℕ, ◌+◌, ◌-◌, ◌*◌, ◌<◌, ◌≤◌, min, true, false, List, [], ◌∷◌, ◌++◌, length, take}
use Rattle.std.proofs.Common.{Bool, set, sym, ap, subst, refl, arith, ◌==◌, drop, append-nil, append_assoc, length-drop}
use Rattle.std.proofs.Common.{length-take}
use Rattle.std.proofs.lemmas.Bool.Decides.{nat_tests}
use Rattle.std.specs.Int.{is_in_range}
use Rattle.vte_core.specs.Bytes.{each, is_numeric}
use Rattle.vte_core.specs.Header.{groups_of, first_numbers}
use Rattle.vte_core.specs.LoneNumbers.{IsBoundedNumber, number_by}
use Rattle.vte_core.specs.Reading.{AreNumbers}
use Rattle.vte_core.specs.Store.{total, cut_at, IsStore}
use Rattle.vte_core.proofs.Headers.{first-whole, total-append}
use Rattle.vte_core.proofs.Numbered.{numbers-digit, numbers-semicolon, numbers-whole}
use Rattle.vte_core.proofs.PhaseLemmas.{each-append, each-first}
use Rattle.vte_core.proofs.Runs.{read_more}
use Rattle.vte_core.proofs.StopLemmas.{whole_rest}
use Rattle.vte_core.proofs.Stores.{total-store, pushed_one}

-- the bytes so far are the groups in these stores, each of one number, and then the number n
pub record LoneSoFar (m : List ℕ) (count n : ℕ) (numbers ends : List ℕ) : Type 0 where
  pub gs : List (List ℕ)
  pub are : AreNumbers m gs [] n
  pub store : IsStore numbers ends count count
  pub view : cut_at 0 (take count ends) (take count numbers) ≡ gs
  pub kept : first_numbers 32 gs ≡ gs

pub empty_store : (numbers ends : List ℕ) → length numbers ≡ 32 → length ends ≡ 32 → IsStore numbers ends 0 0
empty_store numbers ends h k = (refl, omega arith, omega arith, h, k)

pub lone-none : (numbers ends : List ℕ) → length numbers ≡ 32 → length ends ≡ 32 → LoneSoFar [] 0 0 numbers ends
lone-none numbers ends h k = record {
  gs = [];
  are = record {
    parts = [];
    last = [];
    last_parts = [];
    digits = [];
    by_groups = refl;
    by_numbers = refl;
    are_groups = refl;
    are_group = refl;
    is_number = refl;
  };
  store = empty_store numbers ends h k;
  view = refl;
  kept = refl;
}

module _ {m : List ℕ} {count n : ℕ} {numbers ends : List ℕ} (s : LoneSoFar m count n numbers ends) where
  pub lone-digit : (b : ℕ) → n ≤ 6552 → is_in_range 0x30 0x39 b ≡ true
      → LoneSoFar (m ++ b ∷ []) count (n * 10 + (b - 0x30)) numbers ends
  lone-digit b few digit =
      let semicolon : (b == 0x3B) ≡ false = grind (arith, nat_tests) in
      let colon : (b == 0x3A) ≡ false = grind (arith, nat_tests) in
      let most : b ≤ 0x39 = grind (arith, nat_tests) in
      let same : min 65535 (n * 10 + (b - 0x30)) ≡ n * 10 + (b - 0x30) = omega (arith, few, most) in
      record {
        gs = s.gs;
        are = subst (λ (k : ℕ). AreNumbers (m ++ b ∷ []) s.gs [] k) same
            (numbers-digit m s.gs [] n b semicolon colon s.are);
        store = s.store;
        view = s.view;
        kept = s.kept;
      }

  room : count < 32 → total s.gs < 32
  room h = omega (arith, h, total-store numbers ends count count s.gs s.store s.view)

  -- the number ends
  pub lone-more : count < 32
      → (cut_at 0 (take (count + 1) (set ends count (count + 1))) (take (count + 1) (set numbers count n))
      ≡ s.gs ++ (n ∷ []) ∷ []) × IsStore (set numbers count n) (set ends count (count + 1)) (count + 1) (count + 1)
  lone-more h = pushed_one numbers ends count count s.gs s.store s.view n (room h)

  kept-more : count < 32 → first_numbers 32 (s.gs ++ (n ∷ []) ∷ []) ≡ s.gs ++ (n ∷ []) ∷ []
  kept-more h = first-whole s.gs (n ∷ []) (omega arith) (omega (arith, room h))
      ∙ ap (λ (gs : List (List ℕ)). gs ++ (n ∷ []) ∷ []) s.kept

  pub lone-semicolon : (b : ℕ) → count < 32 → (b == 0x3B) ≡ true
      → LoneSoFar (m ++ b ∷ []) (count + 1) 0 (set numbers count n) (set ends count (count + 1))
  lone-semicolon b h semicolon = record {
    gs = s.gs ++ (n ∷ []) ∷ [];
    are = numbers-semicolon m s.gs [] n b semicolon s.are;
    store = (lone-more h).1;
    view = (lone-more h).0;
    kept = kept-more h;
  }

  -- all of them
  pub lone-all : count < 32
      → cut_at 0 (take (count + 1) (set ends count (count + 1))) (take (count + 1) (set numbers count n))
      ≡ first_numbers 32 (groups_of m)
  lone-all h = (lone-more h).0 ∙ (sym (kept-more h) ∙ ap (first_numbers 32) (sym (numbers-whole m s.gs [] n s.are)))

  pub lone-few : count < 32 → total (groups_of m) ≤ 32
  lone-few h = omega (
    arith,
    ap total (numbers-whole m s.gs [] n s.are),
    total-append s.gs (n ∷ []),
    room h,
  )

abbrev is_digit : ℕ → Bool
is_digit b = is_in_range 0x30 0x39 b

-- a digit more, where there is room for one
one_digit : {m : List ℕ} {count n : ℕ} {numbers ends : List ℕ} → LoneSoFar m count n numbers ends
    → (b : ℕ) (bs : List ℕ)
    → n ≤ 6552 → each is_digit (b ∷ bs) ≡ true
    → LoneSoFar (m ++ b ∷ []) count (n * 10 + (b - 0x30)) numbers ends × (each is_digit bs ≡ true)
    × (n * 10 + (b - 0x30) ≤ n * 10 + 9)
one_digit s b bs few h =
    let g = each-first is_digit b bs h in
    let digit : is_in_range 0x30 0x39 b ≡ true = g.0 in
    (lone-digit s b few digit, g.1, grind (arith, nat_tests))

-- four digits more, or fewer
four_digits : {m : List ℕ} {count : ℕ} {numbers ends : List ℕ} → LoneSoFar m count 0 numbers ends → (ds : List ℕ)
    → length ds ≤ 4 → each is_digit ds ≡ true → LoneSoFar (m ++ ds) count (number_by 0 ds) numbers ends
four_digits {m} s [] few h = rw (append-nil m) s
four_digits {m} s (a ∷ []) few h = (one_digit s a [] (omega arith) h).0
four_digits {m} s (a ∷ b ∷ []) few h =
    let x = one_digit s a (b ∷ []) (omega arith) h in
    rw (append_assoc m (a ∷ []) (b ∷ [])) at ((one_digit x.0 b [] (omega (arith, x.2)) x.1).0)
four_digits {m} s (a ∷ b ∷ d ∷ []) few h =
    let x = one_digit s a (b ∷ d ∷ []) (omega arith) h in
    let y = one_digit x.0 b (d ∷ []) (omega (arith, x.2)) x.1 in
    rw (append_assoc m (a ∷ []) (b ∷ []), append_assoc m (a ∷ b ∷ []) (d ∷ []))
    at ((one_digit y.0 d [] (omega (arith, x.2, y.2)) y.1).0)
four_digits {m} s (a ∷ b ∷ d ∷ e ∷ []) few h =
    let x = one_digit s a (b ∷ d ∷ e ∷ []) (omega arith) h in
    let y = one_digit x.0 b (d ∷ e ∷ []) (omega (arith, x.2)) x.1 in
    let z = one_digit y.0 d (e ∷ []) (omega (arith, x.2, y.2)) y.1 in
    rw (
      append_assoc m (a ∷ []) (b ∷ []),
      append_assoc m (a ∷ b ∷ []) (d ∷ []),
      append_assoc m (a ∷ b ∷ d ∷ []) (e ∷ []),
    )
    at ((one_digit z.0 e [] (omega (arith, x.2, y.2, z.2)) z.1).0)
four_digits s (a ∷ b ∷ d ∷ e ∷ f ∷ ds) few h = absurd (omega (arith, few))

digits_numeric : (ds : List ℕ) → each is_digit ds ≡ true → each is_numeric ds ≡ true
digits_numeric [] h = refl
digits_numeric (d ∷ ds) h =
    let g = each-first is_digit d ds h in
    let digit : is_in_range 0x30 0x39 d ≡ true = g.0 in
    let is : is_numeric d ≡ true = grind (arith, nat_tests) in
    rw is (digits_numeric ds g.1)

-- a bounded number more
pub bounded_next : {count : ℕ} {numbers ends : List ℕ} (bs : List ℕ) (i k n : ℕ) → i ≤ length bs
    → each is_numeric (take i bs) ≡ true → LoneSoFar (take i bs) count 0 numbers ends
    → IsBoundedNumber (take (length bs - i) (drop i bs)) n k
    → (i + k < length bs) × (each is_numeric (take (i + k) bs) ≡ true)
    × LoneSoFar (take (i + k) bs) count n numbers ends
bounded_next bs i k n within numeric s bounded =
    let rest = whole_rest bs i in
    let digits : List ℕ = take k (take (length bs - i) (drop i bs)) in
    let less : i + k < length bs = omega (arith, bounded.within, ap length rest, length-drop i bs) in
    let few : length digits ≤ 4 = omega (arith, bounded.few, length-take k (take (length bs - i) (drop i bs))) in
    let all : take (i + k) bs ≡ take i bs ++ digits = read_more bs i k in (
      less,
      rw all (each-append is_numeric (take i bs) digits numeric (digits_numeric digits bounded.digits)),
      rw (all, bounded.number) (four_digits s digits few bounded.digits),
    )
