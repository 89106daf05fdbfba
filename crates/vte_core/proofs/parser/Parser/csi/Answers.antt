use Rattle.std.proofs.Common.{◌≡◌, ◌∷◌, ◌||◌, [], true, false, refl, arith, append-nil}
use Rattle.std.proofs.lemmas.Bool.Decides.{nat_tests}
use Rattle.vte_core.specs.Bytes.{is_abort, is_control, is_header, ends_header, is_intermediate, is_numeric, is_private}
use Rattle.vte_core.specs.Event.{Execute}
use Rattle.vte_core.proofs.HeaderBytes.{reads_csi, csi_longer}
use Rattle.vte_core.proofs.parser.Parser.csi.Goals as goal

pub returns-in-Abort : goal.returns-in-Abort
returns-in-Abort g c =
    let abort : is_abort c.args.byte ≡ true = rw c.in-Abort.is at c.step_of-action.ensures.action in
    let ground = rw c.in-Abort.is at c.step_of-action.ensures.next in
    reads_csi (Execute c.args.byte ∷ []) (_, c.execute.ensures, refl) c.requires.state (rw abort refl)
    (λ h at. rw abort (refl, (ground, at.1)))

pub returns-in-Execute : goal.returns-in-Execute
returns-in-Execute g c =
    let control : is_control c.args.byte ≡ true = rw c.in-Execute.is at c.step_of-action.ensures.action in
    let on : ends_header c.args.byte ≡ false = grind (arith, nat_tests) in
    let other : is_header c.args.byte ≡ false = grind (arith, nat_tests) in
    reads_csi (Execute c.args.byte ∷ []) (_, c.execute-in-Execute.ensures, refl) c.requires.state
    (rw (on, control) refl) (λ h at. rw (on, control, other, append-nil h) (refl, at))

pub returns-in-Param : goal.returns-in-Param
returns-in-Param g c =
    let numeric : is_numeric c.args.byte ≡ true = rw c.in-Param.is at c.step_of-action.ensures.action in
    csi_longer (grind (arith, nat_tests)) c.requires.state (λ h at. (at.0, at.1, c.numeric.ensures h at.2))

pub returns-in-Collect : goal.returns-in-Collect
returns-in-Collect g c =
    let other : (is_intermediate c.args.byte || is_private c.args.byte) ≡ true =
    rw c.in-Collect.is at c.step_of-action.ensures.action in
    csi_longer (grind (arith, nat_tests)) c.requires.state (λ h at. (at.0, at.1, c.collect.ensures h at.2))
