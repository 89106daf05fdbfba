use Rattle.std.proofs.Common.{◌∙◌, ◌+◌, ◌-◌, ◌<◌, List, ℕ, drop, length, length-drop, length-take, refl, take, arith, sym}
use Rattle.vte_core.proofs.WholeCommand.{command_step}
use Rattle.vte_core.proofs.WholeCsi.{rest_at, sequence_read}
use Rattle.vte_core.proofs.parser.Parser.read_command.Goals as goal

pub returns : goal.returns
returns g c =
    let need = c.requires in
    let bs = c.args.bytes.now in
    let k = c.data_len-len.result in
    let rest : List ℕ = take (length bs - 2) (drop 2 bs) in
    let size = length-take (length bs - 2) (drop 2 bs) in
    let less : k < length rest = omega (arith, c.data_len-len.ensures.within, c.if-len-rest.false) in
    sequence_read bs (k + 3) (command_step bs k (take k rest) need.begins need.ground need.whole
    (omega (arith, less, size, length-drop 2 bs)) (omega arith) refl c.data_len-len.ensures.all_data
    (omega (arith, length-take k rest, c.if-len.false)) (sym (rest_at 2 bs k) ∙ c.if-rest-len-ne7.false)
    c.report_whole.ensures)
