use Rattle.std.proofs.Common.{◌≡◌, ◌∙◌, ◌∷◌, ◌||◌, ℕ, [], true, false, nat_lt, refl, sym, ap, arith, append-nil}
use Rattle.std.proofs.lemmas.Bool.Decides.{nat_tests}
use Rattle.std.specs.Bool.{IsTrue}
use Rattle.vte_core.specs.Bytes.{is_abort, is_control, is_header, ends_header, is_intermediate, is_numeric, is_private}
use Rattle.vte_core.specs.Event.{Event, Execute}
use Rattle.vte_core.specs.StepEvents.{hook_event}
use Rattle.vte_core.specs.Steps.{does}
use Rattle.vte_core.specs.declared.parser.State.TheVariants.{DcsHeader}
use Rattle.vte_core.specs.declared.table.Action.{Action}
use Rattle.vte_core.specs.declared.table.Action.TheVariants.{Ignore, Abort, Collect, Param, Dispatch}
use Rattle.vte_core.proofs.HeaderBytes.{reads_hook, hook_longer, final-ends}
use Rattle.vte_core.proofs.parser.Parser.dcs_header.Goals as goal

pub returns-in-Abort : goal.returns-in-Abort
returns-in-Abort g c =
    let abort : is_abort c.args.byte ≡ true = rw c.in-Abort.is at c.step_of-action.ensures.action in
    let ground = rw c.in-Abort.is at c.step_of-action.ensures.next in
    reads_hook (Execute c.args.byte ∷ []) (_, c.execute.ensures, refl) c.requires.state (rw abort refl)
    (λ h at. rw abort (refl, (ground, at.1)))

pub returns-in-Param : goal.returns-in-Param
returns-in-Param g c =
    let numeric : is_numeric c.args.byte ≡ true = rw c.in-Param.is at c.step_of-action.ensures.action in
    hook_longer (grind (arith, nat_tests)) c.requires.state (λ h at. (at.0, at.1, c.numeric.ensures h at.2))

pub returns-in-Collect : goal.returns-in-Collect
returns-in-Collect g c =
    let other : (is_intermediate c.args.byte || is_private c.args.byte) ≡ true =
    rw c.in-Collect.is at c.step_of-action.ensures.action in
    hook_longer (grind (arith, nat_tests)) c.requires.state (λ h at. (at.0, at.1, c.collect.ensures h at.2))

pub returns-then-is_kept : goal.returns-then-is_kept
returns-then-is_kept g c =
    let ends = final-ends c.args.byte (rw c.in-Dispatch.is at c.step_of-action.ensures.action) in
    let hooked = rw c.in-Dispatch.is at c.step_of-action.ensures.next in
    let keeps = sym c.is_kept.ensures.kept ∙ c.if-is_kept.true in
    reads_hook (hook_event c.hook.new.self c.args.byte ∷ []) (_, c.hook.ensures.reported, refl) c.requires.state
    (rw (ends.0, ends.1, keeps) refl)
    (λ h at.
    let well = sym (c.is_kept.ensures.well_formed h at.2) ∙ c.if-is_kept.true in
    rw (ends.0, ends.1, well)
    (ap (λ (x : Event). x ∷ []) (sym (c.hook.ensures.is_reported h at.2)), (hooked, at.1)))

pub returns-else-is_kept : goal.returns-else-is_kept
returns-else-is_kept g c =
    let ends = final-ends c.args.byte (rw c.in-Dispatch.is at c.step_of-action.ensures.action) in
    let ignored = sym c.is_kept.ensures.kept ∙ c.if-is_kept.false in
    reads_hook [] refl c.requires.state (rw (ends.0, ends.1, ignored) refl)
    (λ h at.
    let well = sym (c.is_kept.ensures.well_formed h at.2) ∙ c.if-is_kept.false in
    rw (ends.0, ends.1, well) (refl, (refl, at.1)))

-- what is left of the table's actions
ignored : (a : Action) (b : ℕ) → IsTrue (does DcsHeader a b) → (a ≡ Abort → ⊥) → (a ≡ Collect → ⊥) → (a ≡ Param → ⊥)
    → (a ≡ Dispatch → ⊥) → (is_control b || nat_lt 0x7E b) ≡ true
ignored Ignore b h d e f g = h
ignored Abort b h d e f g = absurd (d refl)
ignored Collect b h d e f g = absurd (e refl)
ignored Param b h d e f g = absurd (f refl)
ignored Dispatch b h d e f g = absurd (g refl)
ignored a b h d e f g = absurd (let no : false ≡ true = h in cc)

pub returns-in_default : goal.returns-in_default
returns-in_default g c =
    let b = c.args.byte in
    let rest = ignored _ b c.step_of-action.ensures.action c.in_default.not-Abort c.in_default.not-Collect
    c.in_default.not-Param c.in_default.not-Dispatch in
    let on : ends_header b ≡ false = grind (arith, nat_tests, rest) in
    let other : is_header b ≡ false = grind (arith, nat_tests, rest) in
    reads_hook [] refl c.requires.state (rw on refl) (λ h at. rw (on, other, append-nil h) (refl, at))
