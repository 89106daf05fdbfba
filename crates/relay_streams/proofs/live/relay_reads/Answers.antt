use Rattle.std.proofs.lemmas.Result.{err_from_is_err_and}
use Rattle.std.proofs.Common.{◌≡◌, ◌∙◌, ℕ, List, [], ◌∷◌, ◌++◌, take, length, arith, ap, sym, subst, Ok, Err}
use Rattle.std.proofs.Common.{refl, false, append_assoc, take-append-drop}
use Rattle.std.specs.List.{concat, list_any}
use Rattle.charset_filter.specs.Lines.{HasPassed, all_passed}
use Rattle.charset_filter.proofs.LineLemmas.{none-passed}
use Rattle.relay_streams.specs.Frames.{is_overlong}
use Rattle.relay_streams.specs.Live.{live_len, Tries, begun, none, unread, SendsFlushed}
use Rattle.relay_streams.specs.Turns.{Relaying}
use Rattle.relay_streams.specs.Updates.{HasSearched, cut_pieces, unless_empty}
use Rattle.relay_streams.proofs.FrameLists.{frames_of, answers_of, base_of}
use Rattle.relay_streams.proofs.LiveLemmas.{tried-fault, tried-gave, tried-made, listens-on, live-ends, tried-counts}
use Rattle.relay_streams.proofs.LiveLemmas.{tried-most, rejoined, front-goes, back-goes, front-faults, back-faults}
use Rattle.relay_streams.proofs.PieceLemmas.{concat-push}
use Rattle.relay_streams.proofs.SessionLemmas.{frames-are-relayed}
use Rattle.relay_streams.proofs.UpdateLemmas.{concat-cut}
use Rattle.relay_streams.proofs.live.relay_reads.Goals as goal

pub reads-init : goal.reads-init
reads-init g c = record {
  most = omega arith;
  past = [];
  read = begun;
  searched = c.new-ends.ensures;
  passes = λ lines passes. passes;
  sent = λ rows cols lines at passes. none-passed lines
      (λ ps. (list_any is_overlong (answers_of rows cols ps) ≡ false)
      × SendsFlushed g.W.ByteSink.takes g.W.FlushSink.flushes c.args.output.now (frames_of rows cols ps) (Ok tt)
      c.args.output.now
      × Relaying rows cols ps (base_of rows cols ps) c.args.hub.now c.args.client) (refl, none, at);
}

pub returns-in_err-n : goal.returns-in_err-n
returns-in_err-n g c = λ rows cols lines at passes.
    let so_far = c.reads.invariant in
    let whole : length c.reads.piece ≡ live_len = omega (arith, c.read_some.auto.room) in
    let fault = c.in_err-n.field-0.0 in
    let cuts = cut_pieces so_far.past in
    let sent = so_far.sent rows cols lines at passes in
    let made = c.from_residual in
    let p = err_from_is_err_and made.result made.ensures.1 in
    let is : c.from_residual.result ≡ Err fault = p.1 ∙ ap Err p.2 in
    rw is (unread c.reads.input so_far.past (frames_of rows cols (all_passed lines cuts)) fault so_far.read
    (tried-fault c.read_some.ensures whole fault c.in_err-n.was)
    (frames-are-relayed rows cols (all_passed lines cuts) at.height at.width sent.0) sent.1
    (tried-counts c.read_some.ensures whole fault c.in_err-n.was))

pub returns-then-n-eq0 : goal.returns-then-n-eq0
returns-then-n-eq0 g c = λ rows cols lines at passes.
    let so_far = c.reads.invariant in
    let whole : length c.reads.piece ≡ live_len = omega (arith, c.read_some.auto.room) in
    let n = c.in_ok-n.n in
    let past = so_far.past in
    let cuts = cut_pieces past in
    let zero : n ≡ 0 = omega arith in
    let nothing : take n c.read_some.new.room ≡ [] = ap (λ k. take k c.read_some.new.room) zero in
    let last = subst (λ (bytes : List ℕ). Tries g.S.Source.gives live_len c.reads.input c.read_some.ensures.made
    (Ok bytes) c.read_some.new.input) nothing (tried-gave c.read_some.ensures whole n c.in_ok-n.was) in
    let sent = so_far.sent rows cols lines at passes in
    let passed_on = rejoined g.row.S.Denot g.row.W.Denot g.S.Source.gives g.W.ByteSink.takes g.W.FlushSink.flushes rows
    cols lines cuts (concat past) (concat-cut [] past) c.farewell.result.now c.args.client c.reads.output
    c.pass_on.new.output c.pass_on.result c.pass_on.new.hub (c.pass_on.ensures.sent rows cols lines (concat past)
    (all_passed lines cuts) (base_of rows cols (all_passed lines cuts)) sent.2 (so_far.passes lines passes)) in
    live-ends g.row.S.Denot g.row.W.Denot g.S.Source.gives g.W.ByteSink.takes g.W.FlushSink.flushes rows cols lines
    cuts c.farewell.result.now past c.args.client c.pass_on.new.hub c.args.input.now c.reads.input c.read_some.new.input
    c.args.output.now c.reads.output c.pass_on.new.output c.reads.reads c.read_some.ensures.made c.pass_on.result
    at.height at.width refl c.farewell.ensures so_far.read last sent.0 sent.1 passed_on
    (omega (arith, c.read_some.ensures.counted, tried-most c.read_some.ensures whole n c.in_ok-n.was))

pub returns-in_err-pass_part : goal.returns-in_err-pass_part
returns-in_err-pass_part g c = λ rows cols lines at passes.
    let so_far = c.reads.invariant in
    let whole : length c.reads.piece ≡ live_len = omega (arith, c.read_some.auto.room) in
    let n = c.in_ok-n.n in
    let piece : List ℕ = take n c.read_some.new.room in
    let past = so_far.past in
    let fed = all_passed lines (cut_pieces past) in
    let fault = c.in_err-pass_part.field-0.0 in
    let made = c.from_residual-in_err-pass_part in
    let p = err_from_is_err_and made.result made.ensures.1 in
    let is : c.from_residual-in_err-pass_part.result ≡ Err fault = p.1 ∙ ap Err p.2 in
    let read = listens-on c.read_some.ensures whole n c.in_ok-n.was (omega arith) c.read_some.auto.room so_far.read in
    let sent = so_far.sent rows cols lines at passes in
    rw is (front-faults g.row.S.Denot g.row.W.Denot g.S.Source.gives g.W.ByteSink.takes g.W.FlushSink.flushes rows cols
    lines past piece c.last_end-end.result (c.last_end-end.ensures.end (concat past) so_far.searched) c.split_at.result.0.now
    c.split_at.result.1.now c.split_at.ensures.front c.split_at.ensures.back c.args.client c.reads.hub
    c.pass_part.new.hub c.args.input.now c.read_some.new.input c.args.output.now c.reads.output
    c.pass_part.new.output c.read_some.new.reads fault at.height at.width read sent
    (c.in_err-pass_part.ensures.sent rows cols lines (concat past) fed (base_of rows cols fed) sent.2
    (so_far.passes lines passes)) (tried-most c.read_some.ensures whole n c.in_ok-n.was))

pub returns-in_err-pass_part-2 : goal.returns-in_err-pass_part-2
returns-in_err-pass_part-2 g c = λ rows cols lines at passes.
    let so_far = c.reads.invariant in
    let whole : length c.reads.piece ≡ live_len = omega (arith, c.read_some.auto.room) in
    let n = c.in_ok-n.n in
    let piece : List ℕ = take n c.read_some.new.room in
    let past = so_far.past in
    let fed = all_passed lines (cut_pieces past) in
    let front = c.split_at.result.0.now in
    let fronts = all_passed lines (cut_pieces past ++ unless_empty front) in
    let found = c.last_end-end.ensures.end (concat past) so_far.searched in
    let fault = c.in_err-pass_part-2.field-0.0 in
    let made = c.from_residual-in_err-pass_part-2 in
    let p = err_from_is_err_and made.result made.ensures.1 in
    let is : c.from_residual-in_err-pass_part-2.result ≡ Err fault = p.1 ∙ ap Err p.2 in
    let read = listens-on c.read_some.ensures whole n c.in_ok-n.was (omega arith) c.read_some.auto.room so_far.read in
    let sent = so_far.sent rows cols lines at passes in
    let passed = so_far.passes lines passes in
    let first = front-goes g.row.S.Denot g.row.W.Denot g.S.Source.gives g.W.ByteSink.takes g.W.FlushSink.flushes rows
    cols lines past piece c.last_end-end.result found front c.split_at.result.1.now c.split_at.ensures.front
    c.split_at.ensures.back c.args.client c.reads.hub c.pass_part.new.hub c.args.output.now c.reads.output
    c.pass_part.new.output sent
    (c.in_ok-pass_part.ensures.sent rows cols lines (concat past) fed (base_of rows cols fed) sent.2 passed) in
    rw is (back-faults g.row.S.Denot g.row.W.Denot g.S.Source.gives g.W.ByteSink.takes g.W.FlushSink.flushes rows cols
    lines past piece c.last_end-end.result found front c.split_at.result.1.now c.split_at.ensures.front
    c.split_at.ensures.back c.args.client c.pass_part.new.hub c.pass_part-in-reads.new.hub c.args.input.now
    c.read_some.new.input c.args.output.now c.pass_part.new.output c.pass_part-in-reads.new.output c.read_some.new.reads fault
    at.height at.width read first
    (c.in_err-pass_part-2.ensures.sent rows cols lines (concat past ++ front) fronts (base_of rows cols fronts) first.2
    (c.in_ok-pass_part.ensures.passed lines (concat past) passed))
    (tried-most c.read_some.ensures whole n c.in_ok-n.was))

pub reads-preserved : goal.reads-preserved
reads-preserved g c =
    let so_far = c.reads.invariant in
    let whole : length c.reads.piece ≡ live_len = omega (arith, c.read_some.auto.room) in
    let n = c.in_ok-n.n in
    let piece : List ℕ = take n c.read_some.new.room in
    let past = so_far.past in
    let front = c.split_at.result.0.now in
    let back = c.split_at.result.1.now in
    let end = c.last_end-end.result in
    let found = c.last_end-end.ensures.end (concat past) so_far.searched in
    let parts : front ++ back ≡ piece =
    ap (λ (xs : List ℕ). xs ++ back) c.split_at.ensures.front
    ∙ ap (λ (xs : List ℕ). take end piece ++ xs) c.split_at.ensures.back ∙ take-append-drop end piece in
    let joined : (concat past ++ front) ++ back ≡ concat (past ++ piece ∷ []) =
    append_assoc (concat past) front back ∙ ap (λ (xs : List ℕ). concat past ++ xs) parts
    ∙ sym (concat-push past piece) in
    record {
      most = tried-most c.read_some.ensures whole n c.in_ok-n.was;
      past = past ++ piece ∷ [];
      read = listens-on c.read_some.ensures whole n c.in_ok-n.was (omega arith) c.read_some.auto.room so_far.read;
      searched = subst (λ (xs : List ℕ). HasSearched c.last_end-end.new.self xs) (sym (concat-push past piece))
          (c.last_end-end.ensures.searched (concat past) so_far.searched);
      passes = λ lines passes. subst (λ (xs : List ℕ). HasPassed c.pass_part-in-reads.new.filter lines xs) joined
          (c.in_ok-pass_part-2.ensures.passed lines (concat past ++ front)
          (c.in_ok-pass_part.ensures.passed lines (concat past) (so_far.passes lines passes)));
      sent = λ rows cols lines at passes.
          let fed = all_passed lines (cut_pieces past) in
          let fronts = all_passed lines (cut_pieces past ++ unless_empty front) in
          let sent = so_far.sent rows cols lines at passes in
          let passed = so_far.passes lines passes in
          let first = front-goes g.row.S.Denot g.row.W.Denot g.S.Source.gives g.W.ByteSink.takes g.W.FlushSink.flushes
          rows cols lines past piece end found front back c.split_at.ensures.front c.split_at.ensures.back
          c.args.client c.reads.hub c.pass_part.new.hub c.args.output.now c.reads.output c.pass_part.new.output sent
          (c.in_ok-pass_part.ensures.sent rows cols lines (concat past) fed (base_of rows cols fed) sent.2 passed) in
          back-goes g.row.S.Denot g.row.W.Denot g.S.Source.gives g.W.ByteSink.takes g.W.FlushSink.flushes rows cols
          lines past piece end found front back c.split_at.ensures.front c.split_at.ensures.back c.args.client
          c.pass_part.new.hub c.pass_part-in-reads.new.hub c.args.output.now c.pass_part.new.output c.pass_part-in-reads.new.output
          first
          (c.in_ok-pass_part-2.ensures.sent rows cols lines (concat past ++ front) fronts (base_of rows cols fronts)
          first.2 (c.in_ok-pass_part.ensures.passed lines (concat past) passed));
    }

pub reads-smaller : goal.reads-smaller
reads-smaller g c =
    let whole : length c.reads.piece ≡ live_len = omega (arith, c.read_some.auto.room) in
    omega (
      arith,
      c.read_some.ensures.counted,
      tried-most c.read_some.ensures whole c.in_ok-n.n c.in_ok-n.was,
      tried-made c.read_some.ensures whole c.in_ok-n.n c.in_ok-n.was,
    )
