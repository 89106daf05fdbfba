use Rattle.std.proofs.Common.{◌<◌, ◌∙◌, [], length, length-take, refl, sym, arith, take}
use Rattle.vte_core.specs.declared.parser.State.TheVariants.{Escape}
use Rattle.vte_core.proofs.ReadsLemmas.{quiet_by}
use Rattle.vte_core.proofs.Quiet.{by_state, escape-csi, escape-osc, escs-quiet}
use Rattle.vte_core.proofs.parser.Parser.open_sequence.Goals as goal

pub returns-in-27-clause-reads : goal.returns-in-27-clause-reads
returns-in-27-clause-reads g c = quiet_by c.esc_len.ensures.within (λ q h.
    let (is, q_is) = by_state g.row.N c.args.self.now Escape q c.requires h in
    let here = rw q_is at h in
    let bs = c.args.bytes.now in
    let k = c.esc_len.result in
    let some : 0 < length (take k bs) = omega (
      arith,
      c.esc_len.ensures.some,
      c.esc_len.ensures.within,
      length-take k bs,
    ) in
    let m = escs-quiet g.row.N is (take k bs) c.esc_len.ensures.escs some in
    rw q_is (m.0, rw m.1 (here.0, here.1, c.clear.ensures)))

pub returns-in-91-clause-reads : goal.returns-in-91-clause-reads
returns-in-91-clause-reads g c = quiet_by (omega arith) (λ q h.
    let none = sym c.is_empty.ensures ∙ c.if-is_empty.true in
    let begun = escape-csi g.row.N c.args.self.now q c.args.bytes.now c.read.result (omega arith)
    (omega arith) c.requires none
    c.read.ensures.header h in
    (begun.0, rw begun.1 (refl, begun.2, c.read.ensures.reads [] c.clear-in-91.ensures)))

pub returns-in-93-clause-reads : goal.returns-in-93-clause-reads
returns-in-93-clause-reads g c = quiet_by (omega arith) (λ q h.
    let none = sym c.if-is_empty-2.ensures in
    let begun = escape-osc g.row.N c.args.self.now q c.args.bytes.now c.read-in-93.result (omega arith)
    (omega arith) c.requires none
    c.read-in-93.ensures.all_data h in
    (begun.0, rw begun.1 (refl, begun.2, c.read-in-93.ensures.reads [] c.clear-in-93.ensures)))
