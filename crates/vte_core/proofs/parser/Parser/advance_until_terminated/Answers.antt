use Rattle.std.proofs.Common.{◌≡◌, ◌∙◌, sym, ap, arith, List, ℕ, true, false, ◌-◌, ◌+◌, take}
use Rattle.std.proofs.Common.{drop, length, length-take, refl, ◌≤◌}
use Rattle.std.proofs.lemmas.Grind.{common_steps}
use Rattle.std.proofs.Math.Nat.{zero-add}
use Rattle.vte_core.specs.Pending.{pending, after_bytes}
use Rattle.vte_core.proofs.StopLemmas.{stop_now, stop_end, stops-said, whole_rest}
use Rattle.vte_core.proofs.Runs.{read_more, piece_and_rest}
use Rattle.vte_core.proofs.ReadsLemmas.{reads_none, reads_on, state_after_past, reported_past}
use Rattle.vte_core.proofs.Machine.{after_bytes-append}
use Rattle.vte_core.proofs.parser.Parser.advance_until_terminated.Goals as goal

pub loop-read-init : goal.loop-read-init
loop-read-init g c = record {
  reads = reads_none c.args.bytes.now;
  none = λ h. refl;
  stops = λ q h k new r. rw (zero-add k) r;
  already = λ t. (refl, refl, refl);
}

pub loop-read-preserved : goal.loop-read-preserved
loop-read-preserved g c =
    let bs = c.args.bytes.now in
    let i = c.loop-read.read in
    let k = c.read_on-read.result in
    let inv = c.loop-read.invariant in
    let read = c.read_on-read.ensures in
    let quiet : g.P.Perform.is_terminated c.loop-read.performer ≡ false =
    sym c.terminated.ensures ∙ c.if-terminated.false in
    record {
      reads = reads_on bs i k inv.reads read.reads;
      none = λ h. absurd (omega (arith, h, read.some));
      stops = λ q h j new r.
          let now = after_bytes q (take i bs) in
          let parts = piece_and_rest bs i k read.reads.within in
          let left = rw (
            parts.2,
            read_more bs i k,
            after_bytes-append q (take i bs) (take k (take (length bs - i) (drop i bs))),
          ) at r in
          let on = (read.asked refl quiet).stops now (inv.reads.state_after q h) j new left in
          let rest = rw (whole_rest bs i) at on in
          let m : i + k + j ≡ i + (k + j) = omega arith in
          rw m (inv.stops q h (k + j) new rest);
      already = λ t. let stopped = ap g.P.Perform.is_terminated (inv.already t).1 ∙ t in cc (quiet, stopped);
    }

pub returns-then-terminated-clause-state_after : goal.returns-then-terminated-clause-state_after
returns-then-terminated-clause-state_after g c =
    state_after_past c.args.bytes.now c.loop-read.read c.loop-read.invariant.reads

pub returns-then-terminated-clause-reported : goal.returns-then-terminated-clause-reported
returns-then-terminated-clause-reported g c =
    let bs = c.args.bytes.now in
    let i = c.loop-read.read in
    let inv = c.loop-read.invariant in
    reported_past bs i inv.reads (λ h. inv.none (omega (arith, ap length h, length-take i bs, inv.reads.within)))

pub returns-then-terminated-clause-stops : goal.returns-then-terminated-clause-stops
returns-then-terminated-clause-stops g c = λ past h.
    let m : c.loop-read.read + 0 ≡ c.loop-read.read = omega arith in
    stops-said _ _ g.row.N past c.args.bytes.now _ _ _
    (rw m at (c.loop-read.invariant.stops (pending past) h 0 c.loop-read.performer
    (stop_now _ _ _ _ true c.args.bytes.now c.loop-read.read _ c.loop-read-test.true
    (sym c.terminated.ensures ∙ c.if-terminated.true))))

take_all : (xs : List ℕ) (i : ℕ) → length xs ≤ i → take i xs ≡ take (length xs) xs
take_all xs i h = grind (arith, common_steps)

pub returns-clause-state_after : goal.returns-clause-state_after
returns-clause-state_after g c =
    let bs = c.args.bytes.now in
    rw (sym (take_all bs c.loop-read.read c.loop-read-test.false))
    (state_after_past bs c.loop-read.read c.loop-read.invariant.reads)

pub returns-clause-reported : goal.returns-clause-reported
returns-clause-reported g c =
    let bs = c.args.bytes.now in
    let i = c.loop-read.read in
    let inv = c.loop-read.invariant in
    rw (sym (take_all bs i c.loop-read-test.false))
    (reported_past bs i inv.reads (λ h. inv.none (omega (arith, ap length h, length-take i bs, inv.reads.within))))

pub returns-clause-stops : goal.returns-clause-stops
returns-clause-stops g c = λ past h.
    let m : c.loop-read.read + 0 ≡ length c.args.bytes.now = omega (arith, c.loop-read.invariant.reads.within) in
    stops-said _ _ g.row.N past c.args.bytes.now _ _ _
    (rw m at (c.loop-read.invariant.stops (pending past) h 0 c.loop-read.performer
    (stop_end _ _ _ _ true c.args.bytes.now c.loop-read.read _ c.loop-read-test.false)))

pub returns-clause-already : goal.returns-clause-already
returns-clause-already g c = λ t.
    let at = c.loop-read.invariant.already t in
    (omega (arith, at.0, c.loop-read-test.false), at.1, at.2)
