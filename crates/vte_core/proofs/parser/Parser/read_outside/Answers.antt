use Rattle.std.proofs.Common.{◌∙◌, arith, sym}
use Rattle.vte_core.proofs.AskedLemmas.{asked_none, never-asked, on_more}
use Rattle.vte_core.proofs.ReadsLemmas.{reads_none}
use Rattle.vte_core.proofs.parser.Parser.read_outside.Goals as goal
use Rattle.vte_core.proofs.parser.Parser.read_outside.Goals.{else-this-ne0-via-then-this-ne0+else-terminated}
use Rattle.vte_core.proofs.parser.Parser.read_outside.Goals.{else-this-ne0-via-else-this-ne0}

pub loop-read-init : goal.loop-read-init
loop-read-init g c = record {
  reads = reads_none c.args.bytes.now;
  left = c.requires.some;
  inside = c.requires.inside;
  asked = λ asks goes_on. asked_none c.args.bytes.now goes_on;
  goes_on = λ asks goes_on. goes_on;
}

pub returns-then-read-bytes : goal.returns-then-read-bytes
returns-then-read-bytes g c =
    let inv = c.loop-read.invariant in
    on_more c.args.bytes.now c.loop-read.read c.read_apart-read.result inv.reads inv.asked inv.goes_on
    c.read_apart-read.ensures

pub returns-then-terminated : goal.returns-then-terminated
returns-then-terminated g c =
    let inv = c.loop-read.invariant in
    on_more c.args.bytes.now c.loop-read.read c.read_apart-read.result inv.reads inv.asked inv.goes_on
    c.read_apart-read.ensures

pub loop-read-preserved : goal.loop-read-preserved
loop-read-preserved g c =
    let inv = c.loop-read.invariant in
    let all = on_more c.args.bytes.now c.loop-read.read c.read_apart-read.result inv.reads inv.asked inv.goes_on
    c.read_apart-read.ensures in
    record {
      reads = all.reads;
      left = omega (arith, all.reads.within, c.if-read-bytes.false);
      inside = sym c.is_ground.ensures ∙ c.if-is_ground.false;
      asked = all.asked;
      goes_on = λ asks goes_on. elim c.else-this-ne0.branch [
        | else-this-ne0-via-then-this-ne0+else-terminated w ↦ sym w.terminated.ensures ∙ w.if-terminated.false
        | else-this-ne0-via-else-this-ne0 w ↦ absurd (never-asked _ w.if-this-ne0.false asks)
      ];
    }
