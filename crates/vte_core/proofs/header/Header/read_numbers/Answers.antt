use Rattle.std.proofs.Common.{◌≡◌, ◌<◌, ◌∙◌, ◌++◌, ℕ, List, sym, ap, true, false, arith, length, length-take, take}
use Rattle.std.proofs.Common.{append-nil}
use Rattle.vte_core.specs.Phases.{next_by, phase_of}
use Rattle.vte_core.proofs.PhaseLemmas.{numerics-some, numerics-kept}
use Rattle.vte_core.proofs.header.Header.read_numbers.Goals as goal

pub returns-then-len-gt0-clause-reads : goal.returns-then-len-gt0-clause-reads
returns-then-len-gt0-clause-reads c = λ h r.
    let bs = c.args.bytes.now in
    let k = c.read-len.result in
    let xs : List ℕ = take k bs in
    let some : 0 < length xs = omega (arith, length-take k bs, c.read-len.ensures.within, c.if-len-gt0.true) in
    let n = numerics-kept h xs c.read-len.ensures.numeric in
    record {
      phase = c.after_numeric-self.ensures ∙ (ap (next_by true false) r.phase
          ∙ sym (numerics-some h xs c.read-len.ensures.numeric some));
      numbers = rw n.0 (c.read-len.ensures.reads _ r.numbers);
      kept = rw n.1 r.kept;
    }

pub returns-else-len-gt0-clause-reads : goal.returns-else-len-gt0-clause-reads
returns-else-len-gt0-clause-reads c = λ h r.
    let bs = c.args.bytes.now in
    let k = c.read-len.result in
    let none : k ≡ 0 = omega (arith, c.if-len-gt0.false) in
    let same : h ++ take k bs ≡ h = ap (λ (j : ℕ). h ++ take j bs) none ∙ append-nil h in
    let n = numerics-kept h (take k bs) c.read-len.ensures.numeric in
    record {
      phase = r.phase ∙ ap phase_of (sym same);
      numbers = rw n.0 (c.read-len.ensures.reads _ r.numbers);
      kept = rw n.1 r.kept;
    }
