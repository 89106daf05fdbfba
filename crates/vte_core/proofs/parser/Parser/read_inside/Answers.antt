use Rattle.std.proofs.Common.{◌+◌, ◌<◌, ◌∙◌, ap, arith, length}
use Rattle.vte_core.specs.Standing.{state_is_text}
use Rattle.vte_core.proofs.AskedLemmas.{never-asked, on_step}
use Rattle.vte_core.proofs.Quiet.{quiet-alone, quiet-byte-step}
use Rattle.vte_core.proofs.ReadsLemmas.{reads_quiet, reads_next}
use Rattle.vte_core.proofs.parser.Parser.read_inside.Goals as goal

pub returns-in-DcsPassthrough : goal.returns-in-DcsPassthrough
returns-in-DcsPassthrough g c =
    let put = c.read_data.ensures in
    record {
      some = put.some;
      reads = put.reads;
      asked = λ asks goes_on. absurd (never-asked _ c.if-not-this.true asks);
    }

pub returns-then-quiet-bytes : goal.returns-then-quiet-bytes
returns-then-quiet-bytes g c =
    let bs = c.args.bytes.now in
    let k = c.read_quiet-quiet.result in
    on_step bs k (quiet-alone bs k (omega (arith, c.requires.some, c.if-quiet-bytes.true))
    c.read_quiet-quiet.ensures.reads)

pub returns : goal.returns
returns g c =
    let bs = c.args.bytes.now in
    let k = c.read_quiet-quiet.result in
    let quiet = c.read_quiet-quiet.ensures.reads in
    let inside = ap state_is_text c.read_quiet-quiet.ensures.state ∙ c.requires.inside in
    let less : k < length bs = omega (arith, quiet.within, c.if-quiet-bytes.false) in
    on_step bs (k + 1) (record {
      some = omega arith;
      reads = reads_next bs k less (reads_quiet bs k quiet) c.byte.ensures;
      is_step = λ q h. quiet-byte-step g.row.N c.read_quiet-quiet.new.self q bs k less (quiet.quiet q h) inside
          (quiet.state_after q h);
    })
