use Rattle.std.proofs.Common.{◌≡◌, true, false, refl, sym, arith}
use Rattle.std.proofs.lemmas.Bool.Decides.{nat_tests}
use Rattle.std.specs.Int.{is_in_range}
use Rattle.vte_core.specs.Bytes.{is_abort, ends_escape}
use Rattle.vte_core.specs.StepEvents.{final_events}
use Rattle.vte_core.proofs.HeaderBytes.{reads_escape}
use Rattle.vte_core.proofs.parser.Parser.escape.Goals as goal

pub returns-in-Dispatch : goal.returns-in-Dispatch
returns-in-Dispatch g c =
    let final : is_in_range 0x30 0x7E c.args.byte ≡ true = rw c.in-Dispatch.is at c.step_of-action.ensures.action in
    let ends : ends_escape c.args.byte ≡ true = grind (arith, nat_tests) in
    let other : is_abort c.args.byte ≡ false = grind (arith, nat_tests) in
    reads_escape (final_events c.args.self.now.intermediates c.args.byte) c.end_escape.ensures.reported c.requires.state
    (rw (ends, other) refl)
    (λ is at. rw (ends, other) (sym (c.end_escape.ensures.is_reported is at), c.end_escape.ensures.state_after is at))
