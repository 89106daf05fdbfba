use Rattle.std.proofs.Common.{◌-◌, List, ℕ, length, take, drop}
use Rattle.std.proofs.lemmas.List.{take_all}
use Rattle.vte_core.specs.Runs.{run_reported}
use Rattle.vte_core.proofs.Runs.{run_reported-append, run_rest-append, read_more, within_more, all_printed-take}
use Rattle.vte_core.proofs.Runs.{all_printed-drop}
use Rattle.vte_core.proofs.Telling.{performs-append}
use Rattle.vte_core.proofs.text.Unfinished.read_printed.Goals as goal

pub read_prefix-read-requires-clause-printed : goal.read_prefix-read-requires-clause-printed
read_prefix-read-requires-clause-printed g c =
    let bs = c.args.bytes.now in
    all_printed-take (length bs - c.loop-read.read) (drop c.loop-read.read bs)
    (all_printed-drop c.loop-read.read bs c.requires)

pub loop-read-preserved : goal.loop-read-preserved
loop-read-preserved g c =
    let bs = c.args.bytes.now in
    let i = c.loop-read.read in
    let k = c.read_prefix-read.result in
    let u = c.args.self.now in
    let piece : List ℕ = take k (take (length bs - i) (drop i bs)) in
    let inv = c.loop-read.invariant in
    let more = read_more bs i k in
    record {
      within = within_more bs i k inv.within c.read_prefix-read.ensures.within;
      reported = rw (more, run_reported-append u (take i bs) piece, ← inv.rest)
          (performs-append g.P.Perform.step c.args.performer.now c.loop-read.performer c.read_prefix-read.new.performer
          (run_reported u (take i bs))
          (run_reported c.loop-read.self piece) inv.reported c.read_prefix-read.ensures.reported);
      rest = rw (more, run_rest-append u (take i bs) piece, ← inv.rest) c.read_prefix-read.ensures.rest;
    }

pub returns-clause-reported : goal.returns-clause-reported
returns-clause-reported g c =
    rw (take_all c.loop-read.read c.args.bytes.now c.loop-read-test.false) at c.loop-read.invariant.reported

pub returns-clause-rest : goal.returns-clause-rest
returns-clause-rest g c =
    rw (take_all c.loop-read.read c.args.bytes.now c.loop-read-test.false) at c.loop-read.invariant.rest
