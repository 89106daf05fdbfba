use Rattle.std.proofs.lemmas.Str.{IsUtf8-from_ascii}
use Rattle.printable.proofs.PrintableLemmas.{printable-ascii}
use Rattle.vte_core.proofs.text.ascii_text.Goals as goal

pub from_utf8_unchecked-requires : goal.from_utf8_unchecked-requires
from_utf8_unchecked-requires c = IsUtf8-from_ascii c.args.bytes.now (printable-ascii c.args.bytes.now c.requires)
