use Rattle.std.proofs.Common.{◌≡◌, ◌+◌, ℕ, List, Some, None, false, nat_lt, if◌then◌else◌, arith, inl, inr}
use Rattle.std.proofs.lemmas.Bool.{cases_Bool}
use Rattle.vte.specs.Osc.{two_digits, color_calls}
use Rattle.vte_types.proofs.CallLemmas.{Calls-append}
use Rattle.vte.proofs.osc.set_dynamic_colors.Goals as goal

prefix_is : (n : ℕ) (f : List ℕ) → Some f ≡ (if nat_lt 12 n then None else Some (two_digits n)) → (nat_lt 12 n ≡ false)
    × (f ≡ two_digits n)
prefix_is n f h = elim (cases_Bool (nat_lt 12 n)) [
  | inl e ↦ absurd (let no : Some f ≡ None = rw e at h in cc)
  | inr e ↦ (e, (let is : Some f ≡ Some (two_digits n) = rw e at h in cc))
]

pub loop-color-preserved : goal.loop-color-preserved
loop-color-preserved g c =
    let n = c.loop-color.number in
    let prefix = prefix_is n _ c.in-Some-dynamic_prefix.ensures in
    let index : c.from.result + 246 ≡ 246 + n = omega (arith, c.from.ensures) in
    record {
      from = omega arith;
      calls = λ end more. c.loop-color.invariant.calls end
          (rw (c.in-Some.ensures.steps, prefix.0)
          (Calls-append g.H.Handler.step _ _ _ (color_calls (two_digits n) (246 + n) c.args.terminator.now
          c.in-Some.color.now) _ (rw (prefix.1, index) at c.set_color.ensures) more));
    }
