use Rattle.std.proofs.Common.{◌≡◌, ◌-◌, ◌++◌, arith, true, length, take, drop, get_or, ap, ◌∙◌}
use Rattle.std.proofs.lemmas.Bool.{eq-eqb}
use Rattle.vte_core.specs.Bytes.{is_esc}
use Rattle.vte_core.specs.Runs.{has_no_esc}
use Rattle.vte_core.proofs.Prefixes.{reads_more, reads_all}
use Rattle.vte_core.proofs.Runs.{read_more, within_more}
use Rattle.vte_core.proofs.Ground.{no_esc-append, text_end}
use Rattle.vte_core.proofs.Telling.{performs-append}
use Rattle.vte_core.proofs.text.Unfinished.read.Goals as goal

pub loop-read-init : goal.loop-read-init
loop-read-init g c =
    let first = c.read_some-read.ensures in
    record {
      within = first.within;
      no_esc = first.no_esc;
      reported = first.reported;
      performed = first.performed;
      added = first.added;
      rest = first.rest;
    }

pub loop-read-preserved : goal.loop-read-preserved
loop-read-preserved g c =
    let bs = c.args.bytes.now in
    let i = c.loop-read.read in
    let k = c.read_more-read.result in
    let inv = c.loop-read.invariant in
    let reads = c.read_more-read.ensures in
    let more = reads_more g.P.Perform.step c.args.self.now c.loop-read.self c.loop-read.performer bs i k
    c.read_more-read.new.performer c.read_more-read.new.self inv.reported inv.within inv.no_esc inv.added inv.rest reads
    in
    record {
      within = within_more bs i k inv.within reads.within;
      no_esc = ap has_no_esc (read_more bs i k)
          ∙ no_esc-append (take i bs) (take k (take (length bs - i) (drop i bs))) inv.no_esc reads.no_esc;
      reported = inv.reported ++ reads.reported;
      performed = performs-append g.P.Perform.step c.args.performer.now c.loop-read.performer
          c.read_more-read.new.performer inv.reported reads.reported inv.performed reads.performed;
      added = more.0;
      rest = more.1;
    }

pub returns-else-bytes-read-ne27 : goal.returns-else-bytes-read-ne27
returns-else-bytes-read-ne27 g c =
    let bs = c.args.bytes.now in
    let i = c.loop-read.read in
    let inv = c.loop-read.invariant in
    let esc : is_esc (get_or bs i 0) ≡ true = eq-eqb (get_or bs i 0) 0x1B (omega (arith, c.if-bytes-read-ne27.false)) in
    let len = text_end bs i inv.within inv.no_esc (λ lt. esc) in
    let all = reads_all c.args.self.now c.loop-read.self bs i inv.reported len inv.added inv.rest in
    record { len = len; reported = rw all.0 at inv.performed; rest = all.1 }

pub returns-after-loop-read : goal.returns-after-loop-read
returns-after-loop-read g c =
    let bs = c.args.bytes.now in
    let i = c.loop-read.read in
    let inv = c.loop-read.invariant in
    let len = text_end bs i inv.within inv.no_esc (λ lt. absurd (omega (arith, lt, c.loop-read-test.false))) in
    let all = reads_all c.args.self.now c.loop-read.self bs i inv.reported len inv.added inv.rest in
    record { len = len; reported = rw all.0 at inv.performed; rest = all.1 }
