-- Rows that are moved to their places in memory.
use Rattle.std.proofs.Common.{◌≡◌, ℕ, zero, suc, ◌+◌, ◌<◌, ◌≤◌, ◌==◌, cond, List, length, sym, ap}
use Rattle.std.proofs.Common.{◌∙◌, arith, inl, inr, le_refl}
use Rattle.std.proofs.lemmas.Bool.{cases_eq}
use Rattle.std.proofs.lemmas.Bool.Decides.{nat_tests}
use Rattle.std.specs.List.{SwappedAt}
use Rattle.vt100_rows.specs.Row.{RowView, blank_row}
use Rattle.vt100_rows.specs.Sheet.{row_at}
use Rattle.vt100_rows.specs.SheetFields.{number_at, IsOrder, in_order}
use Rattle.vt100_rows.proofs.OrderLemmas.{IsOrder-moved, in_order-is, row_at-in_order, length-in_order}

abbrev pub away : ℕ → ℕ → ℕ
away m n = cond (m == n) 0 1

-- how many of the first n rows aren't at their places
pub unsettled : List ℕ → ℕ → ℕ
unsettled order zero = 0
unsettled order (suc n) = unsettled order n + away (number_at order n) n

-- none of the first n rows leaves its place
abbrev pub Stays : List ℕ → List ℕ → ℕ → Type 0
Stays order moved n = (r : ℕ) → r < n → number_at order r ≡ r → number_at moved r ≡ r

stays-before : (order moved : List ℕ) (n : ℕ) → Stays order moved (suc n) → Stays order moved n
stays-before order moved n stays = λ r h. stays r (omega arith)

one-less : (order moved : List ℕ) (n : ℕ) → Stays order moved (suc n)
    → away (number_at moved n) n ≤ away (number_at order n) n
one-less order moved n stays = elim (cases_eq (number_at order n) n) [
  | inl e ↦ grind (arith, nat_tests, stays n (omega arith) e)
  | inr ne ↦ grind (arith, nat_tests)
]

unsettled-le : (order moved : List ℕ) (n : ℕ) → Stays order moved n → unsettled moved n ≤ unsettled order n
unfolding unsettled
unsettled-le order moved zero stays = le_refl 0
unsettled-le order moved (suc n) stays =
    omega (arith, unsettled-le order moved n (stays-before order moved n stays), one-less order moved n stays)

counts-none : (m n : ℕ) → m ≡ n → away m n ≡ zero
counts-none m n e = grind (arith, nat_tests)

counts-one : (m n : ℕ) → (m ≡ n → ⊥) → away m n ≡ suc zero
counts-one m n ne = grind (arith, nat_tests)

pub unsettled-less : (order moved : List ℕ) (n p : ℕ) → Stays order moved n → p < n → number_at moved p ≡ p
    → (number_at order p ≡ p → ⊥) → unsettled moved n < unsettled order n
unfolding unsettled
unsettled-less order moved zero p stays h at moves = absurd (omega arith)
unsettled-less order moved (suc n) p stays h at moves = elim (cases_eq p n) [
  | inl e ↦ omega (
    arith,
    unsettled-le order moved n (stays-before order moved n stays),
    counts-none (number_at moved n) n (sym (ap (number_at moved) e) ∙ at ∙ e),
    counts-one (number_at order n) n (λ is. moves (ap (number_at order) e ∙ is ∙ sym e)),
  )
  | inr ne ↦ omega (
    arith,
    unsettled-less order moved n p (stays-before order moved n stays) (omega arith) at moves,
    one-less order moved n stays,
  )
]

-- ---- one exchange

-- where the row at r was before those at p and q changed places
abbrev pub exchanged : ℕ → ℕ → ℕ → ℕ
exchanged p q r = cond (r == p) q (cond (r == q) p r)

exchanged-first : (p q r : ℕ) → r ≡ p → q ≡ exchanged p q r
exchanged-first p q r e = grind (arith, nat_tests)

exchanged-second : (p q r : ℕ) → (r ≡ p → ⊥) → r ≡ q → p ≡ exchanged p q r
exchanged-second p q r ne e = grind (arith, nat_tests)

exchanged-other : (p q r : ℕ) → (r ≡ p → ⊥) → (r ≡ q → ⊥) → r ≡ exchanged p q r
exchanged-other p q r np nq = grind (arith, nat_tests)

number-exchanged : (order moved : List ℕ) (p q r : ℕ) → SwappedAt order moved p q
    → number_at moved r ≡ number_at order (exchanged p q r)
number-exchanged order moved p q r s = elim (cases_eq r p) [
  | inl e ↦ ap (number_at moved) e ∙ s.0 0 ∙ ap (number_at order) (exchanged-first p q r e)
  | inr np ↦ elim (cases_eq r q) [
    | inl e ↦ ap (number_at moved) e ∙ s.1 0 ∙ ap (number_at order) (exchanged-second p q r np e)
    | inr nq ↦ s.2 r 0 np nq ∙ ap (number_at order) (exchanged-other p q r np nq)
  ]
]

pub IsOrder-exchanged : (n : ℕ) (order moved : List ℕ) (p q : ℕ) → p < n → q < n → length moved ≡ length order
    → SwappedAt order moved p q → IsOrder n order → IsOrder n moved
IsOrder-exchanged n order moved p q hp hq l s o =
    IsOrder-moved n order moved (exchanged p q) l (λ r _. number-exchanged order moved p q r s)
    (λ r h. grind (arith, nat_tests)) (λ r k _ _ e. grind (arith, nat_tests)) o

-- The row at p was at the number q in memory, and comes to its place q; that at the place q was at m, where the other
-- goes.
pub in_order-settled : (rows ws : List RowView) (order moved : List ℕ) (p q m : ℕ) → IsOrder (length rows) order
    → p < length order → length moved ≡ length order → q ≡ number_at order p → m ≡ number_at order q
    → SwappedAt rows ws q m → SwappedAt order moved p q → in_order ws moved ≡ in_order rows order
in_order-settled rows ws order moved p q m o h l eq em sr so =
    let n = length rows in
    let hq : q < n = omega (arith, eq, o.below p (omega (arith, o.count))) in
    in_order-is ws moved (in_order rows order) (l ∙ sym (length-in_order rows order))
    (λ r k. let within : r < length order = omega (arith, l) in
    elim (cases_eq r p) [
      | inl e ↦ ap (λ i. row_at ws (number_at moved i)) e ∙ ap (row_at ws) (so.0 0 ∙ sym em) ∙ sr.1 (blank_row 0)
          ∙ ap (row_at rows) eq
          ∙ sym (ap (row_at (in_order rows order)) e ∙ row_at-in_order rows order p h)
      | inr np ↦ elim (cases_eq r q) [
        | inl e ↦ ap (λ i. row_at ws (number_at moved i)) e ∙ ap (row_at ws) (so.1 0 ∙ sym eq) ∙ sr.0 (blank_row 0)
            ∙ ap (row_at rows) em
            ∙ sym (ap (row_at (in_order rows order)) e ∙ row_at-in_order rows order q (omega (arith, o.count, hq)))
        | inr nq ↦
            let notq : number_at order r ≡ q → ⊥ =
            λ e. np (o.once r p (omega (arith, o.count)) (omega (arith, o.count)) (e ∙ eq)) in
            let notm : number_at order r ≡ m → ⊥ =
            λ e. nq (o.once r q (omega (arith, o.count)) hq (e ∙ em)) in
            ap (row_at ws) (so.2 r 0 np nq) ∙ sr.2 (number_at order r) (blank_row 0) notq notm
            ∙ sym (row_at-in_order rows order r within)
      ]
    ])

-- no settled row leaves its place, and one more is settled
pub stays-settled : (n : ℕ) (order moved : List ℕ) (p q : ℕ) → IsOrder n order → p < n → q ≡ number_at order p
    → (number_at order p ≡ p → ⊥) → SwappedAt order moved p q → Stays order moved n
stays-settled n order moved p q o h eq moves s = λ r k e. elim (cases_eq r p) [
  | inl is ↦ absurd (moves (sym (ap (number_at order) is) ∙ e ∙ is))
  | inr np ↦ elim (cases_eq r q) [
    | inl is ↦ absurd (np (o.once r p k h (e ∙ is ∙ eq)))
    | inr nq ↦ s.2 r 0 np nq ∙ e
  ]
]

pub fewer-unsettled : (n k : ℕ) (order moved : List ℕ) (p q : ℕ) → IsOrder n order → p < n → q ≡ number_at order p
    → (number_at order p ≡ p → ⊥) → SwappedAt order moved p q → k ≡ n → unsettled moved k < unsettled order n
fewer-unsettled n k order moved p q o h eq moves s e =
    rw e (unsettled-less order moved n q (stays-settled n order moved p q o h eq moves s)
    (omega (arith, eq, o.below p h)) (s.1 0 ∙ sym eq)
    (λ is. moves (ap (number_at order) (sym (o.once q p (omega (arith, eq, o.below p h)) h (is ∙ eq))) ∙ is
    ∙ o.once q p (omega (arith, eq, o.below p h)) h (is ∙ eq))))
