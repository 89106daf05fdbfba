use Rattle.std.proofs.Common.{◌≡◌, ◌∙◌, ◌++◌, List, ℕ, ap, append_assoc, arith, length, min}
use Rattle.screen_model.specs.Call.{ScreenView}
use Rattle.screen_model.specs.State.{State}
use Rattle.screen_model.specs.Step.{kept_shown}
use Rattle.vt100.specs.Tries.{alive}
use Rattle.screentext_command.specs.declared.rows.Look.{Look}
use Rattle.screentext_command.specs.Texts.{kept_text, rows_text, shown_text}
use Rattle.recorded_screen.specs.Picture.{scrolled}
use Rattle.screentext_command.proofs.text.push_lines.Goals as goal

-- the kept rows, and those of the screen that is then scrolled back to none
both : (old kept all : List ℕ) (look : Look) (s : State) (history count : ℕ) (now next : ScreenView)
    → count ≡ min history (length s.shown.kept.rows) → kept ≡ old ++ kept_text look s count count
    → now ≡ alive (scrolled s count count) → next ≡ alive (kept_shown 0 now.state)
    → all ≡ kept ++ shown_text look next.state.shown → all ≡ old ++ rows_text look history s
both old kept all look s history count now next is first second third adds =
    let at : next ≡ alive (kept_shown 0 (scrolled s count count)) =
    third ∙ ap (λ (v : ScreenView). alive (kept_shown 0 v.state)) second in
    adds ∙ ap (λ t. t ++ shown_text look next.state.shown) first
    ∙ ap (λ (v : ScreenView). (old ++ kept_text look s count count) ++ shown_text look v.state.shown) at
    ∙ append_assoc old (kept_text look s count count) (shown_text look (kept_shown 0 (scrolled s count count)).shown)
    ∙ ap (λ n. old ++ (kept_text look s n n ++ shown_text look (kept_shown 0 (scrolled s n n)).shown)) is

pub returns-clause-text : goal.returns-clause-text
returns-clause-text c =
    let count : c.min-count.result ≡ min c.args.history (length c.args.screen.now.state.shown.kept.rows) = omega arith in
    both _ _ _ c.args.look c.args.screen.now.state c.args.history c.min-count.result c.push_kept.new.screen
    c.set_scrollback.new.self count c.in_ok-push_kept.ensures.text c.in_ok-push_kept.ensures.screen
    c.in_ok-set_scrollback.ensures.tries.screen c.in_ok-push_shown.ensures
