use Rattle.std.proofs.Common.{◌≡◌, arith, ap, take, length, refl}
use Rattle.std.proofs.lemmas.List.{take_all}
use Rattle.vte_core.proofs.ReadsLemmas.{reads_none, reads_on, state_after_past, reported_past}
use Rattle.vte_core.proofs.parser.Parser.advance.Goals as goal

pub loop-read-init : goal.loop-read-init
loop-read-init g c = record { reads = reads_none c.args.bytes.now; none = λ h. refl }

pub loop-read-preserved : goal.loop-read-preserved
loop-read-preserved g c = record {
  reads = reads_on c.args.bytes.now c.loop-read.read c.read_on-read.result c.loop-read.invariant.reads
      c.read_on-read.ensures.reads;
  none = λ h. absurd (omega (arith, h, c.read_on-read.ensures.some));
}

pub returns : goal.returns
returns g c =
    let bs = c.args.bytes.now in
    let i = c.loop-read.read in
    let inv = c.loop-read.invariant in
    let all : take i bs ≡ bs = take_all i bs c.loop-read-test.false in
    record {
      state_after = rw all at (state_after_past bs i inv.reads);
      reported = rw all at (reported_past bs i inv.reads
          (λ h. inv.none (omega (arith, ap length h, ap length all, c.loop-read-test.false))));
    }
