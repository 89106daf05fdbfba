use Rattle.std.proofs.Common.{ap, ◌∙◌}
use Rattle.std.specs.Prelude.{length, encode_utf8_all}
use Rattle.vt100_cells.specs.Cell.{CellView}
use Rattle.vt100_cells.proofs.FourByteTexts.{four-tests}
use Rattle.vt100_cells.proofs.cell.Cell.has_text_of_four.Goals as goal

pub returns : goal.returns
returns c = four-tests c.len-len.result c.args.self.now.text
    (c.len-len.ensures ∙ ap (λ (x : CellView). length (encode_utf8_all x.text)) c.self.view_is)
