use Rattle.std.proofs.Common.{◌≡◌, ◌∙◌, ◌≤◌, ◌<◌, ℕ, List, arith, refl, sym, ap, subst, true, ◌==◌, ◌+◌, ◌-◌, ◌++◌, ◌∷◌}
use Rattle.std.proofs.Common.{[], take, get_or, length, set}
use Rattle.std.proofs.Math.ListN.{length-set}
use Rattle.std.proofs.lemmas.List.{take_more}
use Rattle.vte_core.specs.Bytes.{is_numeric}
use Rattle.vte_core.specs.Store.{cut_at, rising}
use Rattle.vte_core.proofs.PhaseLemmas.{each-more}
use Rattle.vte_core.proofs.LoneNumbers.{LoneSoFar, lone-none, lone-semicolon, lone-all, lone-few, bounded_next}
use Rattle.vte_core.proofs.Stores.{cut_by, lone_more, lone_whole}
use Rattle.vte_core.proofs.params.Params.read_lone_numbers.Goals as goal
use Rattle.vte_core.proofs.params.Params.read_lone_numbers.Goals.{then-self-ne0, else-self-ne0}

begun : (c : goal.After-min-last) → (c.if-self-ne0.self-inside.subparameters ≡ 0)
    × (c.if-self-ne0.self-inside.ends ≡ rising 1 32) × (c.if-self-ne0.self-inside.len ≤ 32)
    × (length c.if-self-ne0.self-inside.numbers ≡ 32)
begun c = elim c.if-self-ne0.branch [
  | then-self-ne0 w ↦ rw w.self-inside-is (refl, refl, c.self.invariant.0.1, c.self.invariant.0.3)
  | else-self-ne0 w ↦ rw w.self-inside-is
      (w.if-self-ne0.false, c.self.invariant.2 w.if-self-ne0.false, c.self.invariant.0.1, c.self.invariant.0.3)
]

pub loop-read-init : goal.loop-read-init
loop-read-init c =
    let now = c.if-self-ne0.self-inside in
    let is = begun c in
    record {
      within = omega arith;
      numeric = refl;
      so_far = lone-none now.numbers now.ends is.3 (ap length is.1);
      each_read = omega arith;
      kept = is.2;
      none = is.0;
      lone = is.1;
    }

pub invariant_of-self : goal.invariant_of-self
invariant_of-self c =
    let inv = c.loop-read.invariant in
    lone_whole _ _ _ _ inv.none inv.lone inv.kept inv.so_far.store.3

pub invariant_of-self-in_err-number : goal.invariant_of-self-in_err-number
invariant_of-self-in_err-number c =
    let inv = c.loop-read.invariant in
    lone_whole _ _ _ _ inv.none inv.lone inv.kept inv.so_far.store.3

pub invariant_of-self-then-bytes-read-ne59 : goal.invariant_of-self-then-bytes-read-ne59
invariant_of-self-then-bytes-read-ne59 c =
    let inv = c.loop-read.invariant in
    let count = c.loop-read.count in
    let few : count + 1 ≤ 32 = omega (arith, inv.each_read, c.loop-read-test.true, c.min-last.ensures) in
    lone_whole _ _ _ _ inv.none inv.lone few
    (length-set c.loop-read.self-inside.numbers count c.in_ok-number.number ∙ inv.so_far.store.3)

pub returns-then-bytes-read-ne59 : goal.returns-then-bytes-read-ne59
returns-then-bytes-read-ne59 c =
    let inv = c.loop-read.invariant in
    let now = c.loop-read.self-inside in
    let count = c.loop-read.count in
    let numbers : List ℕ = set now.numbers count c.in_ok-number.number in
    let below : count < 32 = omega (arith, inv.each_read, c.loop-read-test.true, c.min-last.ensures) in
    let all : count + 1 - now.subparameters ≡ count + 1 = omega (arith, inv.none) in
    let next = bounded_next c.args.bytes.now c.loop-read.read c.in_ok-number.digits c.in_ok-number.number inv.within
    inv.numeric inv.so_far c.in_ok-number.ensures in
    record {
      within = next.0;
      numeric = next.1;
      groups = cut_by numbers now.ends (count + 1) all
          ∙ (ap (λ (ends : List ℕ). cut_at 0 (take (count + 1) ends) (take (count + 1) numbers))
          (sym (lone_more now.ends count inv.lone below)) ∙ lone-all next.2 below);
      few = lone-few next.2 below;
    }

pub loop-read-preserved : goal.loop-read-preserved
loop-read-preserved c =
    let bs = c.args.bytes.now in
    let count = c.loop-read.count in
    let now = c.loop-read.self-inside in
    let i = c.loop-read.read + c.in_ok-number.digits in
    let b = get_or bs i 0 in
    let inv = c.loop-read.invariant in
    let below : count < 32 = omega (arith, inv.each_read, c.loop-read-test.true, c.min-last.ensures) in
    let next = bounded_next bs c.loop-read.read c.in_ok-number.digits c.in_ok-number.number inv.within inv.numeric
    inv.so_far c.in_ok-number.ensures in
    let more : take (i + 1) bs ≡ take i bs ++ b ∷ [] = take_more bs i 0 next.0 in
    let semicolon : (b == 0x3B) ≡ true = rw c.if-bytes-read-ne59.false refl in
    let is : is_numeric b ≡ true = rw c.if-bytes-read-ne59.false refl in
    let so_far = lone-semicolon next.2 b below semicolon in
    rw more record {
      within = omega (arith, next.0);
      numeric = each-more is_numeric (take i bs) b next.1 is;
      so_far = subst (λ (ends : List ℕ). LoneSoFar (take i bs ++ b ∷ []) (count + 1) 0
          (set now.numbers count c.in_ok-number.number) ends) (lone_more now.ends count inv.lone below) so_far;
      each_read = omega (arith, inv.each_read);
      kept = inv.kept;
      none = inv.none;
      lone = inv.lone;
    }
