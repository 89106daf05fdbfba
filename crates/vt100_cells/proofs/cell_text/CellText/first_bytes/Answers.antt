use Rattle.std.proofs.Common.{length, sym, ◌∙◌, take-take}
use Rattle.std.specs.Prelude.{encode_utf8_all}
use Rattle.std.proofs.lemmas.Str.{IsUtf8-had}
use Rattle.vt100_cells.specs.CellFields.{encode_utf8_all-text_of}
use Rattle.vt100_cells.proofs.FourByteTexts.{bytes-text_of}
use Rattle.vt100_cells.proofs.cell_text.CellText.first_bytes.Goals as goal

pub returns-clause-text : goal.returns-clause-text
returns-clause-text c few =
    take-take (length (encode_utf8_all c.args.self.now)) 4 c.self.inside.bytes few
    ∙ sym (bytes-text_of c.self.inside c.args.self.now c.self.invariant c.self.view_is)

pub returns-clause-utf8 : goal.returns-clause-utf8
returns-clause-utf8 c =
    rw (← c.self.view_is, encode_utf8_all-text_of c.self.inside c.self.invariant) (IsUtf8-had _ c.self.invariant.utf8)
