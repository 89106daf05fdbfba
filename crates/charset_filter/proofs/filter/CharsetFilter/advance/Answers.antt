use Rattle.std.proofs.Common.{arith}
use Rattle.charset_filter.proofs.Telling.{gives-few, gives-on}
use Rattle.charset_filter.proofs.filter.CharsetFilter.advance.Goals as goal

pub loop-read-preserved : goal.loop-read-preserved
loop-read-preserved c = record {
  gives = gives-on _ _ _ c.args.bytes.now c.loop-read.read _ _ _ _ c.loop-read.invariant.gives c.in-Ok.ensures.given;
  len = omega (arith, c.in-Ok.ensures.len, c.loop-read.invariant.len);
  capacity = omega arith;
}

pub returns-in-Err-clause-full : goal.returns-in-Err-clause-full
returns-in-Err-clause-full c = λ past h.
    let few = gives-few _ _ c.args.bytes.now c.loop-read.read _ _ past c.loop-read.invariant.gives h in
    omega (
      arith,
      few,
      c.loop-read.invariant.len,
      c.loop-read.invariant.capacity,
      c.in-Err.ensures.full,
      c.loop-read-test.true,
    )

pub returns-in-Err-clause-short : goal.returns-in-Err-clause-short
returns-in-Err-clause-short c = λ past h.
    let few = gives-few _ _ c.args.bytes.now c.loop-read.read _ _ past c.loop-read.invariant.gives h in
    omega (arith, few, c.loop-read.invariant.len, c.in-Err.ensures.same.2, c.loop-read-test.true)

pub returns-clause-short : goal.returns-clause-short
returns-clause-short c = λ past h.
    let few = gives-few _ _ c.args.bytes.now c.loop-read.read _ _ past c.loop-read.invariant.gives h in
    omega (arith, few, c.loop-read.invariant.len, c.loop-read.invariant.gives.within)
