use Rattle.std.proofs.Common.{◌≡◌, ◌+◌, Err, ap, arith, length, rules, subst, suc, sym, take, ℕ, []}
use Rattle.screen_model.specs.Call.{ScreenView}
use Rattle.vt100.specs.Parsing.{ParserIsAfter}
use Rattle.recorded_screen.specs.Film.{is_moment}
use Rattle.player_page.specs.Rows.{acts_of}
use Rattle.player_page.specs.Strips.{IsStrip}
use Rattle.player_page.proofs.MomentLemmas.{due_at_first, due_next, fails_for, is_due, not_due, strip_passed}
use Rattle.player_page.proofs.RowsLemmas.{acts_more, state_is}
use Rattle.player_page.proofs.strip.strip_of.Goals as goal
use Rattle.player_page.proofs.strip.strip_of.Goals.{then-not-begins_at_once+in_ok-shoot, else-not-begins_at_once}
use Rattle.player_page.proofs.strip.strip_of.Goals.{then-not-is_followed+in_ok-shoot-2, else-not-is_followed}

pub loop-i-init : goal.loop-i-init
loop-i-init c =
    let size = c.args.size in
    let look = c.args.look.now in
    let events = c.args.events.now in
    let after = c.in_ok-terminal.ensures.state_after in
    record {
      live = ap (λ (v : ScreenView). v.failed) after.screen;
      after = after;
      strip = elim c.if-not-begins_at_once.branch [
        | then-not-begins_at_once+in_ok-shoot w ↦ subst (IsStrip look size events 1) (sym w.strip-is)
            (w.in_ok-shoot.ensures.strip size events 0
            (due_at_first size events w.screen.result.now.state
            (is_due c.begins_at_once.result (is_moment events 0) c.begins_at_once.ensures w.if-not-begins_at_once.true)
            (state_is c.in_ok-terminal.terminal w.screen.result.now size.rows.value size.cols.value [] w.screen.ensures
            after))
            (c.new-strip.ensures look size events))
        | else-not-begins_at_once w ↦ subst (IsStrip look size events 1) (sym w.strip-is)
            (strip_passed look size events 0 c.new-strip.result
            (not_due c.begins_at_once.result (is_moment events 0) c.begins_at_once.ensures w.if-not-begins_at_once.false)
            (c.new-strip.ensures look size events))
      ];
    }

pub loop-i-preserved : goal.loop-i-preserved
loop-i-preserved c =
    let size = c.args.size in
    let rows = c.args.size.rows.value in
    let cols = c.args.size.cols.value in
    let look = c.args.look.now in
    let events = c.args.events.now in
    let i = c.loop-i.i in
    let event = c.index-events-i.result in
    let so_far = c.loop-i.invariant in
    let more = acts_more events i event c.loop-i-test.true c.index-events-i.is in
    let after : ParserIsAfter c.act.new.parser c.args.size.rows.value c.args.size.cols.value 0
    (acts_of (take (c.loop-i.i + 1) c.args.events.now)) =
    subst (λ acts. ParserIsAfter c.act.new.parser rows cols 0 acts) (sym more)
    (c.in_ok-act.ensures.shows rows cols 0 (acts_of (take i events)) so_far.after) in
    let one : suc c.loop-i.i ≡ c.loop-i.i + 1 = omega arith in
    let strip = subst (λ (n : ℕ). IsStrip look size events n c.loop-i.strip) one so_far.strip in
    record {
      live = c.in_ok-act.ensures.live;
      after = after;
      strip = elim c.if-not-is_followed.branch [
        | then-not-is_followed+in_ok-shoot-2 w ↦ subst (IsStrip look size events (suc (i + 1))) (sym w.strip-is)
            (w.in_ok-shoot-2.ensures.strip size events (i + 1)
            (due_next size events i event w.screen-then-not-is_followed.result.now.state c.loop-i-test.true
            c.index-events-i.is
            (is_due c.is_followed.result (is_moment events (i + 1)) c.is_followed.ensures w.if-not-is_followed.true)
            (state_is c.act.new.parser w.screen-then-not-is_followed.result.now rows cols (acts_of (take (i + 1) events))
            w.screen-then-not-is_followed.ensures after)) strip)
        | else-not-is_followed w ↦ subst (IsStrip look size events (suc (i + 1))) (sym w.strip-is)
            (strip_passed look size events (i + 1) c.loop-i.strip
            (not_due c.is_followed.result (is_moment events (i + 1)) c.is_followed.ensures w.if-not-is_followed.false)
            strip)
      ];
    }

pub returns-clause-strip : goal.returns-clause-strip
returns-clause-strip c =
    let look = c.args.look.now in
    let size = c.args.size in
    let events = c.args.events.now in
    let all : suc c.loop-i.i ≡ suc (length c.args.events.now) =
    (let end = c.loop-i-test.false in let within = c.loop-i.auto.i-end in omega arith) in
    subst (λ (n : ℕ). IsStrip look size events n c.loop-i.strip) all c.loop-i.invariant.strip

pub returns-in_err-shoot-clause-fault : goal.returns-in_err-shoot-clause-fault
returns-in_err-shoot-clause-fault c =
    let size = c.args.size in
    let look = c.args.look.now in
    let events = c.args.events.now in
    let e = c.in_err-shoot.field-0.0 in
    let is : c.from_residual-in_err-shoot.result ≡ Err e = search (rules, c.from_residual-in_err-shoot.ensures) in
    let due = due_at_first size events c.screen.result.now.state
    (is_due c.begins_at_once.result (is_moment events 0) c.begins_at_once.ensures c.if-not-begins_at_once.true)
    (state_is c.in_ok-terminal.terminal c.screen.result.now size.rows.value size.cols.value [] c.screen.ensures
    c.in_ok-terminal.ensures.state_after) in
    rw is (fails_for _ _ e (λ long. long size events 0 due (c.new-strip.ensures look size events))
    c.in_err-shoot.ensures.fault)

pub returns-in_err-shoot-2-clause-fault : goal.returns-in_err-shoot-2-clause-fault
returns-in_err-shoot-2-clause-fault c =
    let size = c.args.size in
    let rows = c.args.size.rows.value in
    let cols = c.args.size.cols.value in
    let look = c.args.look.now in
    let events = c.args.events.now in
    let i = c.loop-i.i in
    let event = c.index-events-i.result in
    let so_far = c.loop-i.invariant in
    let e = c.in_err-shoot-2.field-0.0 in
    let is : c.from_residual-in_err-shoot-2.result ≡ Err e = search (rules, c.from_residual-in_err-shoot-2.ensures) in
    let more = acts_more events i event c.loop-i-test.true c.index-events-i.is in
    let after : ParserIsAfter c.act.new.parser c.args.size.rows.value c.args.size.cols.value 0
    (acts_of (take (c.loop-i.i + 1) c.args.events.now)) =
    subst (λ acts. ParserIsAfter c.act.new.parser rows cols 0 acts) (sym more)
    (c.in_ok-act.ensures.shows rows cols 0 (acts_of (take i events)) so_far.after) in
    let one : suc c.loop-i.i ≡ c.loop-i.i + 1 = omega arith in
    let due = due_next size events i event c.screen-then-not-is_followed.result.now.state c.loop-i-test.true
    c.index-events-i.is
    (is_due c.is_followed.result (is_moment events (i + 1)) c.is_followed.ensures c.if-not-is_followed.true)
    (state_is c.act.new.parser c.screen-then-not-is_followed.result.now rows cols (acts_of (take (i + 1) events))
    c.screen-then-not-is_followed.ensures after) in
    rw is (fails_for _ _ e (λ long. long size events (i + 1) due
    (subst (λ (n : ℕ). IsStrip look size events n c.loop-i.strip) one so_far.strip)) c.in_err-shoot-2.ensures.fault)
