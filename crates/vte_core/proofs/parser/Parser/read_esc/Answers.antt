use Rattle.std.proofs.Common.{arith, refl}
use Rattle.vte_core.proofs.Quiet.{one-step}
use Rattle.vte_core.proofs.ReadsLemmas.{reads_none, reads_next}
use Rattle.vte_core.proofs.Runs.{byte-at}
use Rattle.vte_core.proofs.parser.Parser.read_esc.Goals as goal

pub returns : goal.returns
returns g c =
    let bs = c.args.bytes.now in
    let begins = c.requires.begins in
    record {
      some = omega arith;
      reads = reads_next bs 0 begins.some (reads_none bs) (rw begins.esc c.begin_escape.ensures.reads);
      is_step = λ q h. one-step g.row.N q _ _ (byte-at g.row.N c.args.self.now bs q begins.some
          (rw (c.requires.ground, begins.esc) refl) h);
    }
