use Rattle.std.proofs.Common.{◌≡◌, ◌∙◌, sym, ap, true, false}
use Rattle.vte_core.specs.Bytes.{is_numeric}
use Rattle.vte_core.specs.Phases.{next_by}
use Rattle.vte_core.proofs.PhaseLemmas.{numeric-yes, numeric-phase}
use Rattle.vte_core.proofs.header.Header.numeric.Goals as goal

pub returns : goal.returns
returns c = λ h r.
    let b = c.args.byte in
    let e : is_numeric b ≡ true = c.requires in
    let n = numeric-yes h b e in
    record {
      phase = c.after_numeric-self.ensures ∙ (ap (next_by true false) r.phase ∙ sym (numeric-phase h b e));
      numbers = rw n.0 (c.push.ensures _ r.numbers);
      kept = rw n.1 r.kept;
    }
