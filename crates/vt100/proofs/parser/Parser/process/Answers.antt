use Rattle.std.proofs.Common.{◌≡◌, ◌∙◌, false, sym, arith}
use Rattle.vt100.proofs.PlayLemmas.{goes_reported, state_after_fed, fed_bounded, some_taken}
use Rattle.vt100.proofs.parser.Parser.process.Goals as goal

pub returns-then-failed-2-clause-goes : goal.returns-then-failed-2-clause-goes
returns-then-failed-2-clause-goes g c = rw (← c.self.view_is) (λ live. goes_reported c.advance.ensures.reported)

pub returns-clause-goes : goal.returns-clause-goes
returns-clause-goes g c = rw (← c.self.view_is) (λ live. goes_reported c.advance.ensures.reported)

pub returns-clause-made : goal.returns-clause-made
returns-clause-made g c =
    let lives : c.advance.new.screen.screen.failed ≡ false = grind arith in
    rw (← c.self.view_is) (λ keeps. state_after_fed g.CB.Callbacks.step g.CB.Callbacks.scrolls keeps _ _ _
    c.advance.ensures.state_after (goes_reported c.advance.ensures.reported) lives)

pub returns-then-failed-2-clause-bounds : goal.returns-then-failed-2-clause-bounds
returns-then-failed-2-clause-bounds g c = rw (← c.self.view_is)
    (λ keeps. fed_bounded g.CB.Callbacks.step g.CB.Callbacks.scrolls keeps _ _ _ c.advance.ensures.reported)

pub returns-clause-bounds : goal.returns-clause-bounds
returns-clause-bounds g c = rw (← c.self.view_is)
    (λ keeps. fed_bounded g.CB.Callbacks.step g.CB.Callbacks.scrolls keeps _ _ _ c.advance.ensures.reported)

pub returns-then-failed-2-clause-allocates : goal.returns-then-failed-2-clause-allocates
returns-then-failed-2-clause-allocates g c = rw (← c.self.view_is) (λ keeps _ past read. some_taken g.CB.Callbacks.step
    g.CB.Callbacks.scrolls keeps _ _ _ _ _ (sym c.failed.ensures ∙ c.if-failed.false)
    (goes_reported c.advance.ensures.reported past read) (sym c.failed-2.ensures ∙ c.if-failed-2.true))
