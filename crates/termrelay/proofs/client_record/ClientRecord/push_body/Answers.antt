use Rattle.std.proofs.Common.{◌≡◌, true, false, ap, sym, ◌∙◌, Option, Some, None, rules}
use denote.Enum.Bare.{sameb, same_true}
use Rattle.std.proofs.lemmas.Bool.{false≢true}
use Rattle.std.specs.Option.{option_copied, option_map}
use Rattle.vt100_core.specs.Picture.{grid_size}
use Rattle.terminal_model.specs.Term.{Shown}
use Rattle.screen_model.specs.Call.{ScreenView}
use Rattle.screen_model.specs.Shown.{shown_state}
use Rattle.termrelay.specs.ClientRecord.{base_of}
use Rattle.termrelay.specs.contracts.answer.Answer.{the_type}
use Rattle.termrelay.specs.declared.answer.Answer.{Answer}
use Rattle.termrelay.specs.declared.answer.Answer.TheVariants.{Difference}
use Rattle.termrelay.proofs.DueLemmas.{full-text, difference-text, redraw-text}
use Rattle.termrelay.proofs.client_record.ClientRecord.push_body.Goals as goal

is-difference : (a : Answer) → sameb the_type a Difference ≡ true → a ≡ Difference
is-difference a h = same_true the_type (search rules) _ _ h

not-difference : (a : Answer) → sameb the_type a Difference ≡ false → a ≡ Difference → ⊥
not-difference a h e = false≢true (sym h ∙ ap (λ x. sameb the_type x Difference) e)

shown-of : Option ScreenView → Option Shown
shown-of base = option_map (λ v. shown_state v.state) base

pub returns-in-None-clause-text : goal.returns-in-None-clause-text
unfolding shown-of
returns-in-None-clause-text c =
    let z = grid_size c.args.now.now.state.shown in
    let is : shown-of (base_of c.args.self.now.last) ≡ None = ap shown-of (sym c.base.ensures ∙ ap option_copied c.in-None.is) in
    rw (full-text z (shown_state c.args.now.now.state) is) c.push_state.ensures.text

pub returns-in-Some-clause-text : goal.returns-in-Some-clause-text
unfolding shown-of
returns-in-Some-clause-text c =
    let z = grid_size c.args.now.now.state.shown in
    let is : shown-of (base_of c.args.self.now.last) ≡ Some (shown_state c.in-Some.base.now.state) =
    ap shown-of (sym c.base.ensures ∙ ap option_copied c.in-Some.is) in
    let answered = is-difference c.args.answer (sym c.eq.ensures ∙ c.if-eq.true) in
    rw (difference-text z (shown_state c.args.now.now.state) is c.requires.due answered) c.push_difference.ensures.text

pub returns-in-Some-2-clause-text : goal.returns-in-Some-2-clause-text
unfolding shown-of
returns-in-Some-2-clause-text c =
    let z = grid_size c.args.now.now.state.shown in
    let is : shown-of (base_of c.args.self.now.last) ≡ Some (shown_state c.in-Some.base.now.state) =
    ap shown-of (sym c.base.ensures ∙ ap option_copied c.in-Some.is) in
    let other = not-difference c.args.answer (sym c.eq.ensures ∙ c.if-eq.false) in
    rw (redraw-text z (shown_state c.args.now.now.state) is c.requires.due c.requires.frame other)
    c.push_redraw.ensures.text
