use Rattle.std.proofs.Common.{◌≡◌, ◌∙◌, sym, [], take, arith}
use Rattle.std.proofs.lemmas.List.{take_all}
use Rattle.vte.specs.Timeout.{sets_of}
use Rattle.vte.specs.Performed.{openers_of_all}
use Rattle.vte.specs.Stretch.{added}
use Rattle.vte.proofs.AskLemmas.{none_before}
use Rattle.vte.proofs.HoldLemmas.{printed_after}
use Rattle.vte.proofs.SetLemmas.{any_openers, sets_none}
use Rattle.vte.proofs.processor.Processor.begin.Goals as goal

pub returns-then-opened-clause-progress : goal.returns-then-opened-clause-progress
returns-then-opened-clause-progress g c = (
  c.parse_until_opened-read.ensures.some c.if-opened.true,
  c.parse_until_opened-read.ensures.within,
)

pub returns-then-opened-clause-led : goal.returns-then-opened-clause-led
returns-then-opened-clause-led g c parsed held at =
    let p = c.parse_until_opened-read.ensures in
    let n = c.parse_until_opened-read.result.0 in
    let run = p.performed parsed at.has_read in
    record {
      opens = record {
        within = p.within;
        opened = sym run.ends ∙ c.if-opened.true;
        first = none_before parsed c.args.piece.now n p.within (p.first parsed at.has_read);
      };
      parsed_so = record {
        state_after = record {
          has_read = p.state_after parsed at.has_read;
          printed = printed_after parsed (take n c.args.piece.now) at.printed run.printed;
          holds = at.holds;
          no_end = at.no_end;
        };
        ticked = run.ticked;
        goes = rw at.printed at run.calls;
      };
    }

pub returns-else-opened-clause-led : goal.returns-else-opened-clause-led
returns-else-opened-clause-led g c parsed held at =
    let p = c.parse_until_opened-read.ensures in
    let n = c.parse_until_opened-read.result.0 in
    let all : take n c.args.piece.now ≡ c.args.piece.now =
    take_all n c.args.piece.now (omega (arith, p.whole c.if-opened.false)) in
    let run = rw all at (p.performed parsed at.has_read) in
    let none = sym run.ends ∙ c.if-opened.false in
    let quiet : sets_of (openers_of_all (added parsed c.args.piece.now)) ≡ [] =
    sets_none (openers_of_all (added parsed c.args.piece.now)) (any_openers (added parsed c.args.piece.now)
    ∙ none) in
    record {
      none = none;
      same = rw quiet at run.ticked;
      state_after = record {
        has_read = rw all at (p.state_after parsed at.has_read);
        printed = printed_after parsed c.args.piece.now at.printed run.printed;
        holds = at.holds;
        no_end = at.no_end;
      };
      goes = rw at.printed at run.calls;
    }
