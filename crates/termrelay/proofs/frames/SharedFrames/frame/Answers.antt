use Rattle.std.proofs.Common.{◌≡◌, ◌∙◌, ℕ, List, length, false, ap, sym, refl}
use Rattle.std.specs.Prelude.{nat_lt}
use Rattle.termrelay.specs.Answers.{is_frame, longest_frame}
use Rattle.termrelay.specs.ClientRecord.{FrameView}
use Rattle.termrelay.specs.Due.{IsDueFrame}
use Rattle.termrelay.proofs.LocalFrames.{due-short}
use Rattle.termrelay.proofs.NumberLemmas.{base-now, base-keeps, frame-keeps, frame-due, kept-latest}
use Rattle.termrelay.proofs.frames.SharedFrames.frame.Goals as goal
use Rattle.termrelay.proofs.frames.SharedFrames.frame.Goals.{In-Ok}

-- the frame is what was put together
made : (c : In-Ok) → c.in-Ok.frame.value ≡ record {
  from = c.moment.result;
  answer = c.args.answer;
  text = c.in_ok-text.text.items;
  base = c.in_ok-base.base;
}
made c = c.in-Ok.ensures.ok ∙ c.new-frame.ensures

made-due : (c : In-Ok) → IsDueFrame c.args.now.now c.args.record.now.last c.in-Ok.frame.value
made-due c =
    let now = c.args.now.now in
    let r = c.args.record.now in
    let f = c.in-Ok.frame.value in
    let text : f.text ≡ c.in_ok-text.text.items = ap (λ (g : FrameView). g.text) (made c) in
    let answer : f.answer ≡ c.args.answer = ap (λ (g : FrameView). g.answer) (made c) in
    let fits : nat_lt longest_frame (length f.text) ≡ false =
    ap (λ (t : List ℕ). nat_lt longest_frame (length t)) (text ∙ sym c.deref.ensures.value)
    ∙ sym c.is_too_long.ensures ∙ c.if-is_too_long.false in
    let of_text = text ∙ c.in_ok-text.ensures.text in
    let base = base-now now c.args.self.now c.base.new.self c.args.self.now.latest c.in_ok-base.base
    c.requires.unscrolled refl c.requires.latest c.in_ok-base.ensures.base in
    frame-due now r.last c.in_ok-base.base f base (ap (λ (g : FrameView). g.base) (made c))
    (ap is_frame answer ∙ c.requires.frame)
    (due-short now r f.text c.requires.unscrolled c.requires.served of_text) fits (answer ∙ c.requires.due) of_text

pub returns-in_default-clause-numbers : goal.returns-in_default-clause-numbers
returns-in_default-clause-numbers c =
    base-keeps c.args.now.now c.args.self.now c.base.new.self c.args.record.now.last c.in_ok-base.base c.requires.latest
    c.in_ok-base.ensures.base

pub returns-clause-due : goal.returns-clause-due
returns-clause-due c = made-due (goal.at.returns-clause-due c).In-Ok

pub returns-clause-latest : goal.returns-clause-latest
returns-clause-latest c =
    let d = made-due (goal.at.returns-clause-latest c).In-Ok in
    kept-latest c.in-Ok.frame.value c.base.new.self.moments c.args.now.now c.keep.new.self.latest
    c.keep.new.self.moments c.keep.ensures.moments c.keep.ensures.latest d.frame d.shown

pub returns-clause-numbers : goal.returns-clause-numbers
returns-clause-numbers c =
    let at = (goal.at.returns-clause-numbers c).In-Ok in
    frame-keeps c.args.now.now c.args.self.now c.base.new.self c.keep.new.self c.args.record.now.last c.in_ok-base.base
    c.in-Ok.frame.value c.requires.unscrolled c.requires.latest c.in_ok-base.ensures.base c.keep.ensures.moments
    c.keep.ensures.latest (ap (λ (g : FrameView). g.from) (made at) ∙ c.moment.ensures)
    (ap (λ (g : FrameView). g.base) (made at)) (made-due at)
