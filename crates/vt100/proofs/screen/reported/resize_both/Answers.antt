use Rattle.std.proofs.Common.{rules, ◌++◌, true, false, inr}
use Rattle.vt100_rows.proofs.TextLemmas.{on-err}
use Rattle.vt100_core.specs.Resize.{resized}
use Rattle.screen_model.specs.Step.{reports_of}
use Rattle.screen_model.specs.Call.{Receives}
use Rattle.vt100.proofs.ReceiveLemmas.{receives_append, receives_whole}
use Rattle.vt100.proofs.screen.reported.resize_both.Goals as goal

pub returns-clause-reported : goal.returns-clause-reported
returns-clause-reported g c =
    let rows = c.args.size.rows.value in
    let cols = c.args.size.cols.value in
    let first = reports_of false (resized c.args.main.now rows cols).sunk in
    let second = reports_of true (resized c.args.alternate.now rows cols).sunk in
    let heard : Receives g.CB.Callbacks.scrolls c.args.callbacks.now (first ++ second) c.callbacks-2-1.given.0 =
    search (rules, receives_append) in
    on-err c.resize-2.result (receives_whole g.CB.Callbacks.scrolls _ _ _ heard)

pub returns-clause-smaller : goal.returns-clause-smaller
returns-clause-smaller g c low narrow none other_low other_narrow keeps =
    c.resize-2.ensures.smaller other_low other_narrow (inr (c.resize-2.ensures.valid.kept.none keeps).0)
