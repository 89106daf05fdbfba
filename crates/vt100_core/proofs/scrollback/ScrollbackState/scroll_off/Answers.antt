use Rattle.std.proofs.Common.{arith, ◌≡◌, ◌-◌, length, length-take-le, min, sym, take}
use Rattle.vt100_rows.specs.Sheet.{IsSheet, rows_by_position, moved_up}
use Rattle.vt100_rows.proofs.SinkLemmas.{TakesAll-list}
use Rattle.vt100_core.specs.KeptFields.{kept_of}
use Rattle.vt100_core.proofs.CountLemmas.{none-kept, none-pushed}
use Rattle.vt100_core.proofs.KeepLemmas.{IsSheet-scrolled}
use Rattle.vt100_rows.proofs.MoveLemmas.{moves_up_alike}
use Rattle.vt100_rows.proofs.SheetLemmas.{length-read}
use Rattle.vt100_core.proofs.scrollback.ScrollbackState.scroll_off.Given.{Over}
use Rattle.vt100_core.proofs.scrollback.ScrollbackState.scroll_off.Goals.{After-move_up-2}
use Rattle.vt100_core.proofs.scrollback.ScrollbackState.scroll_off.Goals as goal

moved : (g : Over) (c : After-move_up-2 g) → c.move_up-2.new.self
    ≡ rows_by_position (length c.args.rows.now) (moved_up c.args.rows.now 0 c.args.end c.args.n c.args.width)
moved g c =
    moves_up_alike c.args.rows.now c.push_off.new.rows c.move_up-2.new.self
    (c.args.n - min c.args.n c.args.self.now.capacity) c.args.end c.args.n c.args.width c.requires.in_part
    c.requires.in_rows c.in_ok-push_off.ensures.rows (c.move_up-2.ensures c.args.width c.push_off.ensures.sheet.each)

pub returns-clause-rows : goal.returns-clause-rows
returns-clause-rows g c = moved g (goal.at.returns-clause-rows g c).After-move_up-2

moved-size : (g : Over) (c : After-move_up-2 g) → length c.move_up-2.new.self ≡ length c.args.rows.now
moved-size g c = length-read _ _ c.move_up-2.new.self (moved g c)

pub returns-clause-size : goal.returns-clause-size
returns-clause-size g c = moved-size g (goal.at.returns-clause-size g c).After-move_up-2

pub returns-in_err-show-clause-size : goal.returns-in_err-show-clause-size
returns-in_err-show-clause-size g c = moved-size g (goal.at.returns-in_err-show-clause-size g c).After-move_up-2

moved-sheet : (g : Over) (c : After-move_up-2 g) → IsSheet (length c.args.rows.now) c.args.width c.move_up-2.new.self
moved-sheet g c =
    IsSheet-scrolled c.args.rows.now c.move_up-2.new.self c.args.width c.args.end c.args.n c.requires.sheet
    c.requires.some c.requires.in_rows (omega arith) (moved g c)

pub returns-clause-sheet : goal.returns-clause-sheet
returns-clause-sheet g c = moved-sheet g (goal.at.returns-clause-sheet g c).After-move_up-2

pub returns-in_err-show-clause-sheet : goal.returns-in_err-show-clause-sheet
returns-in_err-show-clause-sheet g c = moved-sheet g (goal.at.returns-in_err-show-clause-sheet g c).After-move_up-2

-- ---- where none is kept

pub returns-then-self-eq0-clause-kept : goal.returns-then-self-eq0-clause-kept
returns-then-self-eq0-clause-kept g c =
    let rows = c.args.rows.now in
    none-kept (kept_of c.args.self.now) (take c.args.n rows) c.saturating_add-self.result c.args.height c.args.width
    c.requires.valid c.if-self-eq0.true (omega (arith, length-take-le c.args.n rows (omega arith)))

pub returns-then-self-eq0-clause-sink : goal.returns-then-self-eq0-clause-sink
returns-then-self-eq0-clause-sink g c =
    let left = take c.args.n c.args.rows.now in
    TakesAll-list g.S.RowSink.takes c.args.sink.now c.give_first.new.sink left _
    (sym (none-pushed (kept_of c.args.self.now) left c.requires.valid c.if-self-eq0.true)) c.give_first.ensures

pub returns-then-self-eq0-clause-rows : goal.returns-then-self-eq0-clause-rows
returns-then-self-eq0-clause-rows g c = c.move_up.ensures c.args.width c.requires.sheet.each

pub returns-then-self-eq0-clause-size : goal.returns-then-self-eq0-clause-size
returns-then-self-eq0-clause-size g c =
    length-read _ _ c.move_up.new.self (c.move_up.ensures c.args.width c.requires.sheet.each)

pub returns-then-self-eq0-clause-sheet : goal.returns-then-self-eq0-clause-sheet
returns-then-self-eq0-clause-sheet g c =
    IsSheet-scrolled c.args.rows.now c.move_up.new.self c.args.width c.args.end c.args.n c.requires.sheet
    c.requires.some c.requires.in_rows (omega arith) (c.move_up.ensures c.args.width c.requires.sheet.each)
