use Rattle.std.proofs.Common.{◌++◌, ap}
use Rattle.std.proofs.lemmas.Bool.{false≢true}
use Rattle.vt100_rows.proofs.BasicLemmas.{on-ok}
use Rattle.vt100_core.specs.Grid.{GridView}
use Rattle.vt100_core.proofs.BasicLemmas.{both-written, both-after, first-none, second-none}
use Rattle.vt100_core.proofs.grid.Grid.write_all_rows.Goals as goal

pub returns-clause-text : goal.returns-clause-text
returns-clause-text g c =
    let all = ap (λ (x : GridView). x.kept.rows ++ x.rows) c.self.view_is in
    on-ok c.write_rows.result
    (both-written _ _ c.self.inside.scrollback.rows.items c.self.inside.rows
    c.in_ok-write_kept_rows.ensures.state all g.W.Write.write_str_gives c.args.writer.now
    c.write_kept_rows.new.writer c.write_rows.new.writer c.in_ok-write_kept_rows.ensures.text) c.write_rows.ensures.text

pub returns-clause-state : goal.returns-clause-state
returns-clause-state g c =
    let all = ap (λ (x : GridView). x.kept.rows ++ x.rows) c.self.view_is in
    on-ok c.write_rows.result (both-after _ _ c.self.inside.scrollback.rows.items c.self.inside.rows
    c.in_ok-write_kept_rows.ensures.state all) c.write_rows.ensures.state

pub returns-in_err-write_kept_rows-clause-empty : goal.returns-in_err-write_kept_rows-clause-empty
returns-in_err-write_kept_rows-clause-empty g c none =
    absurd (false≢true (c.in_err-write_kept_rows.ensures.empty
    (first-none _ _ _ (ap (λ (x : GridView). x.kept.rows ++ x.rows) c.self.view_is) none)))

pub returns-clause-empty : goal.returns-clause-empty
returns-clause-empty g c none =
    let all = ap (λ (x : GridView). x.kept.rows ++ x.rows) c.self.view_is in
    c.write_rows.ensures.empty (second-none _ _ c.self.inside.scrollback.rows.items c.self.inside.rows
    c.in_ok-write_kept_rows.ensures.state all none)
