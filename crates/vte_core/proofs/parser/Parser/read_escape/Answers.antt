use Rattle.std.proofs.Common.{◌<◌, arith, length}
use Rattle.vte_core.proofs.Quiet.{quiet-byte-step}
use Rattle.vte_core.proofs.ReadsLemmas.{reads_quiet, reads_next}
use Rattle.vte_core.proofs.parser.Parser.read_escape.Goals as goal

pub returns : goal.returns
returns g c =
    let bs = c.args.bytes.now in
    let k = c.open_sequence-quiet.result in
    let quiet = c.open_sequence-quiet.ensures.reads in
    let less : k < length bs = omega (arith, quiet.within, c.if-quiet-bytes.false) in
    record {
      some = omega arith;
      reads = reads_next bs k less (reads_quiet bs k quiet) c.likely_final.ensures;
      is_step = λ q h. quiet-byte-step g.row.N c.open_sequence-quiet.new.self q bs k less (quiet.quiet q h)
          c.open_sequence-quiet.ensures.inside (quiet.state_after q h);
    }
