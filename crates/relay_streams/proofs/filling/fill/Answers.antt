use Rattle.std.proofs.Common.{◌≡◌, ◌≢◌, [], Ok, ◌+◌, ◌-◌, take, length, sym, ap, arith, refl, rules}
use Rattle.std.specs.IoError.{error_kind}
use Rattle.std.specs.declared.io.ErrorKind.TheVariants.{Interrupted}
use borrow.Rule.Slice.PartMut.{same_len_mid}
use Rattle.std.proofs.lemmas.List.{length-take-le}
use Rattle.relay_streams.specs.Fill.{Fills, Full, full, stopped, ended, failed}
use Rattle.relay_streams.proofs.FillLemmas.{take_put, prefix_put, prefix_put-len, prefix_is, window, begun, once_more}
use Rattle.relay_streams.proofs.FillLemmas.{some_more, filled}
use Rattle.relay_streams.proofs.filling.fill.Goals as goal

pub reading-init : goal.reading-init
reading-init g c = record {
  within = omega arith;
  made = 0;
  most = λ few. few;
  spent = λ many. refl;
  counted = omega arith;
  goes_on = begun (length c.args.piece.now - 0) (omega arith);
}

pub returns-then-reads-ge-MAX_READS : goal.returns-then-reads-ge-MAX_READS
returns-then-reads-ge-MAX_READS g c =
    let inv = c.reading.invariant in
    let piece = c.reading.piece in
    filled inv.goes_on c.reading.input c.args.reads.now c.reading.reads piece _ (stopped (omega arith))
    (prefix_is piece c.reading.len inv.within) (omega (arith, inv.counted))
    (λ few. omega (arith, inv.most few)) (λ many. omega (arith, inv.spent many)) refl

pub returns-in-Ok-eq0 : goal.returns-in-Ok-eq0
returns-in-Ok-eq0 g c =
    let inv = c.reading.invariant in
    let piece = c.reading.piece in
    let len = c.reading.len in
    let read = rw (window piece len, c.in-Ok-eq0.field-0-test) at c.in-Ok-eq0.ensures.gives in
    filled inv.goes_on c.give.new.self c.args.reads.now (c.reading.reads + 1) _ _ (ended (omega arith) read)
    (prefix_put piece c.give.new.room len _) (omega (arith, inv.counted))
    (λ few. omega arith) (λ many. omega (arith, inv.counted, many))
    (ap Ok (sym (length-take-le len piece inv.within)))

pub reading-preserved-in-Ok : goal.reading-preserved-in-Ok
reading-preserved-in-Ok g c =
    let inv = c.reading.invariant in
    let piece = c.reading.piece in
    let len = c.reading.len in
    let n = c.in-Ok.n in
    let room = c.give.new.room in
    let read = rw (window piece len) at c.in-Ok.ensures.gives in
    let bound = c.in-Ok.ensures.bound in
    let whole : length room ≡ length piece - len = omega (arith, c.give.auto.room, window piece len) in
    let got = take_put piece room len (length piece - len) n inv.within bound.0 in
    let same = same_len_mid len (length piece - len) piece room c.give.auto.room in
    let some : take n room ≢ [] = λ none. absurd (omega (arith, bound.1, ap length none, c.in-Ok.n-test)) in
    record {
      within = omega (arith, same, bound.0, whole);
      made = inv.made + 1;
      most = λ few. omega arith;
      spent = λ many. omega (arith, inv.counted, many);
      counted = omega (arith, inv.counted);
      goes_on = rw got (some_more inv.goes_on c.give.new.self _ (take n room) some
          (omega (arith, bound.0, bound.1, whole)) (omega (arith, same, bound.1)) read);
    }

pub returns-then-ne : goal.returns-then-ne
returns-then-ne g c =
    let inv = c.reading.invariant in
    let piece = c.reading.piece in
    let len = c.reading.len in
    let read = rw (window piece len) at c.in-Err.ensures.gives in
    filled inv.goes_on c.give.new.self c.args.reads.now (c.reading.reads + 1) _ _
    (failed (omega arith) read (search rules)) (prefix_put piece c.give.new.room len _) (omega (arith, inv.counted))
    (λ few. omega arith) (λ many. omega (arith, inv.counted, many)) refl

pub reading-preserved : goal.reading-preserved
reading-preserved g c =
    let inv = c.reading.invariant in
    let piece = c.reading.piece in
    let len = c.reading.len in
    let read = rw (window piece len) at c.in-Err.ensures.gives in
    let room = c.give.new.room in
    let same = same_len_mid len (length piece - len) piece room c.give.auto.room in
    let is : error_kind c.in-Err.error ≡ Interrupted = search rules in
    record {
      within = omega (arith, same, inv.within);
      made = inv.made + 1;
      most = λ few. omega arith;
      spent = λ many. omega (arith, inv.counted, many);
      counted = omega (arith, inv.counted);
      goes_on = rw (same, prefix_put-len piece room len (length piece - len) inv.within)
          (once_more inv.goes_on c.give.new.self c.in-Err.error (omega arith) read is);
    }

pub returns : goal.returns
returns g c =
    let inv = c.reading.invariant in
    let piece = c.reading.piece in
    let len = c.reading.len in
    let none : length piece - len ≡ 0 = omega arith in
    let last : Fills g.S.Source.gives c.reading.input (length piece - len) 0 [] Full c.reading.input = rw none full in
    filled inv.goes_on c.reading.input c.args.reads.now c.reading.reads piece _ last
    (prefix_is piece len inv.within) (omega (arith, inv.counted))
    (λ few. omega (arith, inv.most few)) (λ many. omega (arith, inv.spent many))
    (ap Ok (sym (length-take-le len piece inv.within)))
