use Rattle.std.proofs.Common.{◌≡◌, ◌≢◌, ◌<◌, ◌∙◌, ◌==◌, ℕ, true, false, length, nat_lt, sym, arith}
use Rattle.std.proofs.lemmas.Bool.{eqb-true, ltb-true, ltb-false}
use Rattle.std.proofs.lemmas.Bool.Decides.{nat_tests}
use Rattle.vte_core.specs.Header.{first_numbers}
use Rattle.vte_core.specs.Store.{total}
use Rattle.vte_core.proofs.Headers.{ended}
use Rattle.vte_core.proofs.numbers.Numbers.end_number.Goals as goal

not_full : (k : ℕ) → false ≡ (k == 32) → k ≢ 32
not_full k h = grind (arith, nat_tests)

some_open : (k : ℕ) → true ≡ nat_lt 0 k → 0 < k
some_open k h = ltb-true 0 k (sym h)

none_open : (k : ℕ) → false ≡ nat_lt 0 k → k ≡ 0
none_open k h = omega (arith, ltb-false 0 k (sym h))

pub returns-then-is_full : goal.returns-then-is_full
returns-then-is_full c = λ gs g h.
    let x = c.args.self.now in
    let e = ended x.params gs g c.args.number x.many h.params h.many in
    let all = e.full (eqb-true (total x.params) 32 (sym c.if-is_full.ensures.value)) in
    record { params = all.0; is_open = e.is_open; many = all.1 }

pub returns-then-goes_on : goal.returns-then-goes_on
returns-then-goes_on c = λ gs g h.
    let x = c.args.self.now in
    let e = ended x.params gs g c.args.number x.many h.params h.many in
    let room = not_full (total x.params) c.if-is_full.ensures.value in
    let more = e.more room (some_open (length g) (sym c.if-goes_on.true ∙ h.is_open)) in
    record {
      params = c.extend.ensures.last (first_numbers 32 gs) g more.0 ∙ more.1;
      is_open = e.is_open;
      many = (e.room room).1;
    }

pub returns-else-goes_on : goal.returns-else-goes_on
returns-else-goes_on c = λ gs g h.
    let x = c.args.self.now in
    let e = ended x.params gs g c.args.number x.many h.params h.many in
    let room = not_full (total x.params) c.if-is_full.ensures.value in
    let first = e.first room (none_open (length g) (sym c.if-goes_on.false ∙ h.is_open)) in
    record {
      params = c.push.ensures ∙ first;
      is_open = e.is_open;
      many = (e.room room).1;
    }
