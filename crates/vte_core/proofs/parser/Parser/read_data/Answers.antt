use Rattle.std.proofs.Common.{◌<◌, arith, length}
use Rattle.vte_core.proofs.Device.{device-read}
use Rattle.vte_core.proofs.ReadsLemmas.{reads_next}
use Rattle.vte_core.proofs.parser.Parser.read_data.Goals as goal

pub returns-then-data-bytes : goal.returns-then-data-bytes
returns-then-data-bytes g c =
    let bs = c.args.bytes.now in
    record {
      some = omega (arith, c.requires.some, c.if-data-bytes.true);
      reads = device-read bs c.put_prefix-data.result c.requires.data c.put_prefix-data.ensures;
    }

pub returns : goal.returns
returns g c =
    let bs = c.args.bytes.now in
    let k = c.put_prefix-data.result in
    let put = device-read bs k c.requires.data c.put_prefix-data.ensures in
    let less : k < length bs = omega (arith, c.put_prefix-data.ensures.within, c.if-data-bytes.false) in
    record {
      some = omega arith;
      reads = reads_next bs k less put c.byte.ensures;
    }
