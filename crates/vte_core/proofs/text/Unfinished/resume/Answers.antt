use Rattle.std.proofs.Common.{sym, ◌∙◌, ap, List, ℕ, get_or}
use Rattle.vte_core.specs.Pending.{whole_goes_on}
use Rattle.vte_core.proofs.Prefixes.{reads_byte, reads_cut}
use Rattle.vte_core.proofs.text.Unfinished.resume.Goals as goal

pub returns-then-goes_on : goal.returns-then-goes_on
returns-then-goes_on g c = reads_byte c.args.bytes.now c.requires.some c.requires.text c.read_byte.ensures.reported
    c.read_byte.ensures.rest

pub returns : goal.returns
returns g c = reads_cut c.args.self.now c.args.bytes.now c.requires.begun c.requires.text
    (ap (λ (u : List ℕ). whole_goes_on u (get_or c.args.bytes.now 0 0))
    (sym c.self.view_is ∙ sym c.as_slice.ensures.value)
    ∙ (sym c.goes_on.ensures ∙ c.if-goes_on.false)) c.print.ensures c.clear.ensures c.read_at_boundary.ensures
