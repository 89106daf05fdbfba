use Rattle.std.proofs.Common.{sym, ap, ◌∙◌}
use Rattle.std.specs.Prelude.{chars}
use Rattle.std.proofs.lemmas.Str.{IsUtf8-had}
use Rattle.vt100_cells.specs.CellFields.{encode_utf8_all-text_of}
use Rattle.vt100_cells.proofs.cell_text.CellText.as_str.Goals as goal

pub from_utf8_unchecked-requires : goal.from_utf8_unchecked-requires
from_utf8_unchecked-requires c = IsUtf8-had _ c.self.invariant.utf8

pub returns-clause-bytes : goal.returns-clause-bytes
returns-clause-bytes c =
    rw (← c.self.view_is) (c.from_utf8_unchecked.ensures ∙ sym (encode_utf8_all-text_of c.self.inside c.self.invariant))

pub returns-clause-characters : goal.returns-clause-characters
returns-clause-characters c = ap chars c.from_utf8_unchecked.ensures ∙ c.self.view_is
