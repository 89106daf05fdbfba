use Rattle.std.proofs.Common.{◌≡◌, ◌∙◌, sym, ap, false}
use Rattle.vte_core.specs.Bytes.{is_numeric, is_intermediate}
use Rattle.vte_core.specs.Phases.{next_by}
use Rattle.vte_core.proofs.PhaseLemmas.{phase_of-last, numeric-no}
use Rattle.vte_core.proofs.header.Header.collect.Goals as goal

pub returns : goal.returns
returns c = λ h r.
    let b = c.args.byte in
    let e : is_numeric b ≡ false = c.requires.other in
    let n = numeric-no h b e in
    record {
      phase = c.after_other-self.ensures ∙ (ap (next_by false (is_intermediate b)) r.phase
          ∙ sym (rw e at (phase_of-last h b c.requires.header)));
      numbers = rw n.0 r.numbers;
      kept = rw n.1 (c.push.ensures _ r.kept);
    }
