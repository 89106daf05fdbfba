use Rattle.std.proofs.Common.{◌≡◌, ◌≢◌, ◌∙◌, ◌≤◌, Err, List, arith, length, rules, suc, sym, true≢false, ℕ}
use Rattle.std.proofs.lemmas.Result.{on_ok_weaker}
use Rattle.recordings.specs.declared.recording.Event.{Event}
use Rattle.recordings.specs.declared.recording.ScreenSize.{ScreenSize}
use Rattle.player_page.specs.Strips.{IsDue, IsStrip}
use Rattle.player_page.specs.declared.page.TheConstants.{LONGEST_PLAYER}
use Rattle.player_page.proofs.MomentLemmas.{fails_for, fails_if_long, long_lines, strip_longer, strip_next, strip_same}
use Rattle.player_page.proofs.TableLemmas.{items_same, same_items}
use Rattle.player_page.proofs.strip.Strip.shoot.Goals as goal
use Rattle.player_page.proofs.strip.Strip.shoot.Goals.{After-check_length}

pub returns-in_err-numbers-clause-fault : goal.returns-in_err-numbers-clause-fault
returns-in_err-numbers-clause-fault c =
    let e = c.in_err-numbers.field-0.0 in
    let is : c.from_residual.result ≡ Err e = search (rules, c.from_residual.ensures) in
    rw is (fails_for _ _ e (λ long size events n due strip. long size events n due.state strip.drawn)
    c.in_err-numbers.ensures.fault)

pub returns-then-eq-clause-strip : goal.returns-then-eq-clause-strip
returns-then-eq-clause-strip c = λ size events n due strip.
    let look = c.args.look.now in
    let state = c.args.screen.now.state in
    let old = c.args.self.now in
    let new = c.row_numbers.new.self in
    let numbers = c.in_ok-numbers.numbers.items in
    let are = c.in_ok-numbers.ensures.numbers in
    let equal = same_items numbers new.last.items (sym c.eq.ensures ∙ c.if-eq.true) in
    strip_same look size events n c.args.time state old new numbers due are c.in_ok-numbers.ensures.count equal
    (strip_longer look size events n state old new numbers are
    (c.in_ok-numbers.ensures.drawn size events n due.state strip.drawn) strip)

-- the strip with the new line
with_line : (c : After-check_length) (size : ScreenSize) (events : List Event) (n : ℕ)
    → IsDue size events n c.args.time c.args.screen.now.state → IsStrip c.args.look.now size events n c.args.self.now
    → IsStrip c.args.look.now size events (suc n) c.tell.new.self
with_line c size events n due strip =
    let look = c.args.look.now in
    let state = c.args.screen.now.state in
    let old = c.args.self.now in
    let new = c.row_numbers.new.self in
    let numbers = c.in_ok-numbers.numbers.items in
    let are = c.in_ok-numbers.ensures.numbers in
    let other : c.in_ok-numbers.numbers.items ≢ c.row_numbers.new.self.last.items = λ equal.
    absurd (true≢false (sym (items_same numbers new.last.items equal) ∙ sym c.eq.ensures ∙ c.if-eq.false)) in
    strip_next look size events n c.args.time state old new c.tell.new.self numbers due are
    c.in_ok-numbers.ensures.count other c.in_ok-tell.ensures
    (strip_longer look size events n state old new numbers are
    (c.in_ok-numbers.ensures.drawn size events n due.state strip.drawn) strip)

pub returns-clause-strip : goal.returns-clause-strip
returns-clause-strip c =
    on_ok_weaker c.check_length.result (λ short size events n due strip. with_line c size events n due strip)
    c.check_length.ensures.short

pub returns-clause-fault : goal.returns-clause-fault
returns-clause-fault c =
    fails_if_long c.check_length.result _ _ (λ long size events n due strip.
    let within = due.within in
    let within_next : suc n ≤ suc (length events) = omega arith in
    long_lines LONGEST_PLAYER c.args.look.now size events (suc n) c.tell.new.self within_next
    (with_line c size events n due strip) long) c.check_length.ensures.long
