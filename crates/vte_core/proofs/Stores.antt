-- Lists in one store.
use Rattle.std.proofs.Common.{◌≡◌, ℕ, ◌+◌, ◌-◌, ◌<◌, ◌≤◌, List, [], ◌∷◌, ◌++◌, length, take, refl, sym, zero, suc, ◌∙◌}
use Rattle.std.proofs.Common.{ap, arith, length-append, slice_range, subst, set, get_or}
use Rattle.std.proofs.lemmas.Grind.{common_steps}
use Rattle.std.proofs.lemmas.List.{take_more, take_more_set}
use Rattle.std.proofs.Math.ListN.{length-set}
use Rattle.std.specs.List.{concat}
use Rattle.vte_core.specs.Store.{total, cut_at, EndsFit, IsStore, rising}
use Rattle.vte_core.proofs.Headers.{onto_last}

pub ends_below : (start : ℕ) (ends xs : List ℕ) → EndsFit start ends xs → length ends + start ≤ length xs
ends_below start [] xs h = omega (arith, h)
ends_below start (end ∷ ends) xs h = omega (arith, h.0, ends_below end ends xs h.1)

length-range : (a b : ℕ) (xs : List ℕ) → b ≤ length xs → length (slice_range xs a b) ≡ b - a
length-range a b xs h = grind (arith, common_steps)

pub total-cut : (start : ℕ) (ends xs : List ℕ) → EndsFit start ends xs
    → total (cut_at start ends xs) + start ≡ length xs
total-cut start [] xs h = omega (arith, h)
total-cut start (end ∷ ends) xs h =
    omega (
      arith,
      h.0,
      total-cut end ends xs h.1,
      ends_below end ends xs h.1,
      length-range start end xs (omega (arith, ends_below end ends xs h.1)),
      length-append (slice_range xs start end) (concat (cut_at end ends xs)),
    )

range-append : (a b : ℕ) (xs ys : List ℕ) → a ≤ b → b ≤ length xs → slice_range (xs ++ ys) a b ≡ slice_range xs a b
range-append a b xs ys h k = grind (arith, common_steps)

range-seam : (a : ℕ) (xs ys : List ℕ) → a ≡ length xs → slice_range (xs ++ ys) a (length (xs ++ ys)) ≡ ys
range-seam a xs ys h = grind (arith, common_steps)

pub cut-append : (start : ℕ) (ends xs ys : List ℕ) → EndsFit start ends xs
    → cut_at start (ends ++ length (xs ++ ys) ∷ []) (xs ++ ys) ≡ cut_at start ends xs ++ ys ∷ []
cut-append start [] xs ys h = ap (λ g. g ∷ []) (range-seam start xs ys h)
cut-append start (end ∷ ends) xs ys h =
    let more = cut-append end ends xs ys h.1 in
    let first : slice_range (xs ++ ys) start end ≡ slice_range xs start end =
    range-append start end xs ys (omega (arith, h.0)) (omega (arith, ends_below end ends xs h.1)) in cc

pub fit-append : (start : ℕ) (ends xs ys : List ℕ) → EndsFit start ends xs → 0 < length ys
    → EndsFit start (ends ++ length (xs ++ ys) ∷ []) (xs ++ ys)
fit-append start [] xs ys h some = (omega (arith, h, length-append xs ys), refl)
fit-append start (end ∷ ends) xs ys h some = (h.0, fit-append end ends xs ys h.1 some)

pub length-cut : (start : ℕ) (ends xs : List ℕ) → length (cut_at start ends xs) ≡ length ends
length-cut start [] xs = refl
length-cut start (end ∷ ends) xs = ap suc (length-cut end ends xs)

range-more : (a : ℕ) (xs ys : List ℕ) → a ≤ length xs
    → slice_range (xs ++ ys) a (length (xs ++ ys)) ≡ slice_range xs a (length xs) ++ ys
range-more a xs ys h = grind (arith, common_steps)

-- one more number of the last list
pub cut-extend : (start : ℕ) (ends : List ℕ) (end : ℕ) (xs : List ℕ) (n : ℕ) → EndsFit start (ends ++ end ∷ []) xs
    → cut_at start (ends ++ length (xs ++ n ∷ []) ∷ []) (xs ++ n ∷ [])
    ≡ onto_last n (cut_at start (ends ++ end ∷ []) xs)
unfolding onto_last
cut-extend start [] end xs n h = ap (λ g. g ∷ []) (range-more start xs (n ∷ []) (omega (arith, h.0, h.1))
    ∙ ap (λ k. slice_range xs start k ++ n ∷ []) (sym h.1))
cut-extend start (a ∷ []) end xs n h =
    let more = cut-extend a [] end xs n h.1 in
    let first : slice_range (xs ++ n ∷ []) start a ≡ slice_range xs start a =
    range-append start a xs (n ∷ []) (omega (arith, h.0)) (omega (arith, ends_below a (end ∷ []) xs h.1)) in cc
cut-extend start (a ∷ b ∷ ends) end xs n h =
    let more = cut-extend a (b ∷ ends) end xs n h.1 in
    let first : slice_range (xs ++ n ∷ []) start a ≡ slice_range xs start a =
    range-append start a xs (n ∷ []) (omega (arith, h.0))
    (omega (arith, ends_below a (b ∷ (ends ++ end ∷ [])) xs h.1)) in cc

pub fit-extend : (start : ℕ) (ends : List ℕ) (end : ℕ) (xs : List ℕ) (n : ℕ) → EndsFit start (ends ++ end ∷ []) xs
    → EndsFit start (ends ++ length (xs ++ n ∷ []) ∷ []) (xs ++ n ∷ [])
fit-extend start [] end xs n h = (omega (arith, h.0, h.1, length-append xs (n ∷ [])), refl)
fit-extend start (a ∷ ends) end xs n h = (h.0, fit-extend a ends end xs n h.1)

pub fit_next : (start end : ℕ) (ends rest xs : List ℕ) → ends ≡ end ∷ rest → EndsFit start ends xs → (start < end)
    × (end ≤ length xs) × EndsFit end rest xs
fit_next start end ends rest xs e h =
    let g : EndsFit start (end ∷ rest) xs = subst (λ ys. EndsFit start ys xs) e h
    in (g.0, omega (arith, ends_below end rest xs g.1), g.1)

length_prefix : (xs : List ℕ) (k : ℕ) → length xs ≡ 32 → k ≤ 32 → length (take k xs) ≡ k
length_prefix xs k h l = grind (arith, common_steps)

-- such stores, and the groups that they hold
module _ (numbers ends : List ℕ) (len groups : ℕ) (old : List (List ℕ)) (s : IsStore numbers ends len groups)
    (v : cut_at 0 (take groups ends) (take len numbers) ≡ old) where
  pub total-store : total old ≡ len
  total-store = ap total (sym v) ∙ omega (
    arith,
    total-cut 0 (take groups ends) (take len numbers) s.0,
    length_prefix numbers len s.3 s.1,
  )

  pub numbers_below : total old < 32 → len < 32
  numbers_below h = omega (arith, total-store, h)

  pub groups_below : total old < 32 → groups < 32
  groups_below h =
      omega (
        arith,
        total-store,
        h,
        ends_below 0 (take groups ends) (take len numbers) s.0,
        length_prefix numbers len s.3 s.1,
        length_prefix ends groups s.4 s.2,
      )

  groups_count : length old ≡ groups
  groups_count = ap length (sym v) ∙ (length-cut 0 (take groups ends) (take len numbers)
      ∙ length_prefix ends groups s.4 s.2)

  pub groups_few : length old ≤ 32
  groups_few = omega (arith, s.2, groups_count)

  one_more : (n : ℕ) → total old < 32 → take (len + 1) (set numbers len n) ≡ take len numbers ++ n ∷ []
  one_more n h = take_more_set numbers len n (omega (arith, s.3, numbers_below h))

  size_more : (n : ℕ) → len + 1 ≡ length (take len numbers ++ n ∷ [])
  size_more n = omega (arith, length-append (take len numbers) (n ∷ []), length_prefix numbers len s.3 s.1)

  pub pushed_one : (n : ℕ) → total old < 32
      → (cut_at 0 (take (groups + 1) (set ends groups (len + 1))) (take (len + 1) (set numbers len n))
      ≡ old ++ (n ∷ []) ∷ []) × IsStore (set numbers len n) (set ends groups (len + 1)) (len + 1) (groups + 1)
  pushed_one n h =
      let below = numbers_below h in
      let few = groups_below h in
      let ends_are : take (groups + 1) (set ends groups (len + 1)) ≡ take groups ends
      ++ length (take len numbers ++ n ∷ []) ∷ [] =
      take_more_set ends groups (len + 1) (omega (arith, s.4, few))
      ∙ ap (λ k. take groups ends ++ k ∷ []) (size_more n) in (
        rw (ends_are, one_more n h) (cut-append 0 (take groups ends) (take len numbers) (n ∷ []) s.0
            ∙ ap (λ gs. gs ++ (n ∷ []) ∷ []) v),
        (
          rw (ends_are, one_more n h) (fit-append 0 (take groups ends) (take len numbers) (n ∷ []) s.0 (omega arith)),
          omega (arith, below),
          omega (arith, few),
          length-set numbers len n ∙ s.3,
          length-set ends groups (len + 1) ∙ s.4,
        ),
      )

  pub extended : (n : ℕ) → total old < 32 → 0 < length old
      → (cut_at 0 (take groups (set ends (groups - 1) (len + 1))) (take (len + 1) (set numbers len n))
      ≡ onto_last n old) × IsStore (set numbers len n) (set ends (groups - 1) (len + 1)) (len + 1) groups
  extended n h some =
      let below = numbers_below h in
      let one : 0 < groups = omega (arith, some, groups_count) in
      let last : groups - 1 + 1 ≡ groups = omega (arith, one) in
      let prefix = take (groups - 1) ends in
      let end = get_or ends (groups - 1) 0 in
      let was : take groups ends ≡ prefix ++ end ∷ [] =
      ap (λ k. take k ends) (sym last) ∙ take_more ends (groups - 1) 0 (omega (arith, s.4, s.2, one)) in
      let ends_are : take groups (set ends (groups - 1) (len + 1)) ≡ prefix
      ++ length (take len numbers ++ n ∷ []) ∷ [] =
      ap (λ k. take k (set ends (groups - 1) (len + 1))) (sym last)
      ∙ (take_more_set ends (groups - 1) (len + 1) (omega (arith, s.4, s.2, one))
      ∙ ap (λ k. prefix ++ k ∷ []) (size_more n)) in
      let fits = subst (λ ys. EndsFit 0 ys (take len numbers)) was s.0 in (
        rw (ends_are, one_more n h) (cut-extend 0 prefix end (take len numbers) n fits
            ∙ ap (onto_last n) (ap (λ ys. cut_at 0 ys (take len numbers)) (sym was) ∙ v)),
        (
          rw (ends_are, one_more n h) (fit-extend 0 prefix end (take len numbers) n fits),
          omega (arith, below),
          s.2,
          length-set numbers len n ∙ s.3,
          length-set ends (groups - 1) (len + 1) ∙ s.4,
        ),
      )

onto_last-length : (b : ℕ) (ss : List (List ℕ)) → 0 < length ss → length (onto_last b ss) ≡ length ss
unfolding onto_last
onto_last-length b [] h = absurd (omega (arith, h))
onto_last-length b (s ∷ []) h = refl
onto_last-length b (s ∷ t ∷ ts) h = ap suc (onto_last-length b (t ∷ ts) (omega arith))

pub extended-length : (b : ℕ) (now old : List (List ℕ)) → now ≡ onto_last b old → 0 < length old
    → length now ≡ length old
extended-length b now old e h = ap length e ∙ onto_last-length b old h

-- the count of the groups written otherwise
pub store_at : (numbers ends : List ℕ) (len : ℕ) {g h : ℕ} → g ≡ h → IsStore numbers ends len g
    → IsStore numbers ends len h
store_at numbers ends len e s = subst (λ (k : ℕ). IsStore numbers ends len k) e s

pub cut_by : (numbers ends : List ℕ) (len : ℕ) {g h : ℕ} → g ≡ h
    → cut_at 0 (take g ends) (take len numbers) ≡ cut_at 0 (take h ends) (take len numbers)
cut_by numbers ends len e = ap (λ (k : ℕ). cut_at 0 (take k ends) (take len numbers)) e

-- the ends of groups of one number each
pub length-rising : (n k : ℕ) → length (rising n k) ≡ k
length-rising n zero = refl
length-rising n (suc k) = ap suc (length-rising (suc n) k)

pub set-rising : (n k i : ℕ) → i < k → set (rising n k) i (n + i) ≡ rising n k
set-rising n zero i h = absurd (omega (arith, h))
set-rising n (suc k) zero h = let e : n + 0 ≡ n = omega arith in rw e refl
set-rising n (suc k) (suc i) h =
    let e : n + suc i ≡ suc n + i = omega arith in
    rw e (ap (λ (xs : List ℕ). n ∷ xs) (set-rising (suc n) k i (omega (arith, h))))

pub fits-rising : (start k n : ℕ) (xs : List ℕ) → k ≤ n → length xs ≡ start + k
    → EndsFit start (take k (rising (suc start) n)) xs
fits-rising start zero n xs h e = omega (arith, e)
fits-rising start (suc k) zero xs h e = absurd (omega (arith, h))
fits-rising start (suc k) (suc n) xs h e =
    (omega arith, fits-rising (suc start) k n xs (omega (arith, h)) (omega (arith, e)))

pub lone_store : (numbers ends : List ℕ) (len : ℕ) → ends ≡ rising 1 32 → len ≤ 32 → length numbers ≡ 32
    → IsStore numbers ends len len
lone_store numbers ends len lone few all = (
  rw lone (fits-rising 0 len 32 (take len numbers) few (omega (arith, length_prefix numbers len all few))),
  few,
  few,
  all,
  ap length lone,
)

-- one more end of such groups is already there
pub lone_more : (ends : List ℕ) (k : ℕ) → ends ≡ rising 1 32 → k < 32 → set ends k (k + 1) ≡ ends
lone_more ends k lone h =
    let e : k + 1 ≡ 1 + k = omega arith in
    rw (lone, e) (set-rising 1 32 k h)

-- groups of one number each are a whole store
pub lone_whole : (numbers ends : List ℕ) (len subs : ℕ) → subs ≡ 0 → ends ≡ rising 1 32 → len ≤ 32
    → length numbers ≡ 32
    → IsStore numbers ends len (len - subs) × (subs ≤ len) × (subs ≡ 0 → ends ≡ rising 1 32)
lone_whole numbers ends len subs none lone few all =
    let same : len ≡ len - subs = omega (arith, none) in
    (store_at numbers ends len same (lone_store numbers ends len lone few all), omega (arith, none), λ e. lone)
