use Rattle.std.proofs.Common.{◌≡◌, ◌∙◌, [], ◌++◌, length, ap, arith, refl, Some}
use Rattle.vte.specs.Hold.{keeps, replays, closes, unseen}
use Rattle.vte.proofs.MarkLemmas.{none_from_seen}
use Rattle.vte.proofs.RunLemmas.{Ticked-append}
use Rattle.vte.proofs.processor.Processor.hold.Goals as goal

pub returns-in_default : goal.returns-in_default
returns-in_default g c parsed held at =
    let all = rw at.holds at c.take_in.ensures.items in
    let seen : c.saturating_sub-seen.result ≡ unseen held =
    omega (arith, c.saturating_sub-seen.ensures, c.len.ensures, ap length at.holds, c.args.self.now.held.ok.0)
    in
    let again = rw (c.as_slice.ensures.value ∙ all, seen) at c.renew.ensures in
    let from_seen = rw (c.as_slice-2.ensures.value ∙ all) at c.in_default.ensures in
    let none = none_from_seen held c.args.piece.now c.saturating_sub-seen.result (omega (arith, seen)) at.no_end
    from_seen in
    record {
      parsed' = parsed;
      hold' = Some (held ++ c.args.piece.now);
      calls = [];
      ticks = again.ticks;
      settles = keeps parsed held c.args.piece.now again.ticks again.renews none;
      state_after = record { has_read = at.has_read; printed = at.printed; holds = all; no_end = none };
      ticked = again.ticked;
      goes = refl;
    }

pub returns-in-Some-first_mark : goal.returns-in-Some-first_mark
returns-in-Some-first_mark g c parsed held at =
    let all = rw at.holds at c.take_in.ensures.items in
    let seen : c.saturating_sub-seen.result ≡ unseen held =
    omega (arith, c.saturating_sub-seen.ensures, c.len.ensures, ap length at.holds, c.args.self.now.held.ok.0)
    in
    let again = rw (c.as_slice.ensures.value ∙ all, seen) at c.renew.ensures in
    let last = rw (c.as_slice-2.ensures.value ∙ all) at c.in-Some.ensures.1 in
    let first = rw (c.as_slice-3.ensures.value ∙ all) at c.in-Some-first_mark.ensures in
    let after = c.release.ensures parsed (held ++ c.args.piece.now) at.has_read at.printed all
    (λ k low below. last.2 k (omega (arith, first.0)) below) in
    record {
      parsed' = _;
      hold' = _;
      calls = _;
      ticks = _;
      settles = replays parsed held c.args.piece.now again.ticks again.renews c.in-Some-first_mark.start
          (c.in-Some.end, last, first);
      state_after = after.state_after;
      ticked = Ticked-append g.T.Timeout.ticking _ _ _ again.ticks _ again.ticked after.ticked;
      goes = after.goes;
    }

pub returns-in-None : goal.returns-in-None
returns-in-None g c parsed held at =
    let all = rw at.holds at c.take_in.ensures.items in
    let seen : c.saturating_sub-seen.result ≡ unseen held =
    omega (arith, c.saturating_sub-seen.ensures, c.len.ensures, ap length at.holds, c.args.self.now.held.ok.0)
    in
    let again = rw (c.as_slice.ensures.value ∙ all, seen) at c.renew.ensures in
    let last = rw (c.as_slice-2.ensures.value ∙ all) at c.in-Some.ensures.1 in
    let none = rw (c.as_slice-3.ensures.value ∙ all) at c.in-None.ensures in
    let after = c.empty.ensures parsed (held ++ c.args.piece.now) at.has_read at.printed all in
    record {
      parsed' = _;
      hold' = _;
      calls = _;
      ticks = _;
      settles = closes parsed held c.args.piece.now again.ticks again.renews (c.in-Some.end, last, none);
      state_after = after.state_after;
      ticked = Ticked-append g.T.Timeout.ticking _ _ _ again.ticks _ again.ticked after.ticked;
      goes = after.goes;
    }
