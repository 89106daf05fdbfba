use Rattle.std.proofs.Common.{◌≡◌, false, true, sym, arith, take, refl, get_or}
use Rattle.std.proofs.lemmas.Bool.Decides.{nat_tests}
use Rattle.vte_core.specs.Bytes.{is_esc}
use Rattle.vte_core.specs.Pending.{Pending}
use Rattle.vte_core.specs.Runs.{run_reported}
use Rattle.vte_core.specs.Standing.{IsAt}
use Rattle.vte_core.proofs.Runs.{run-at, before-len, before-ends}
use Rattle.vte_core.proofs.parser.Parser.read_text.Goals as goal

pub returns-clause-reads : goal.returns-clause-reads
returns-clause-reads g c =
    let bs = c.args.bytes.now in
    let k = c.read.result in
    let no = c.if-bytes-eq27.false in
    let esc : is_esc (get_or bs 0 0) ≡ false = grind (arith, nat_tests) in
    let run = λ (q : Pending) (h : IsAt g.row.N c.args.self.now q).
    run-at g.row.N c.args.self.now bs k q c.requires.some (rw (c.requires.ground, esc) refl) c.read.ensures.len h in
    record {
      within = omega (arith, c.read.ensures.len, before-len bs);
      state_after = λ q h. rw (run q h).1 ((run q h).3, c.read.ensures.rest);
      reported = record {
        reported = run_reported c.args.self.now.unfinished (take k bs);
        performed = c.read.ensures.reported;
        added = λ q h. sym (run q h).0;
      };
    }

pub returns-clause-ended : goal.returns-clause-ended
returns-clause-ended g c less =
    let bs = c.args.bytes.now in
    let k = c.read.result in
    let ends : is_esc (get_or bs k 0) ≡ true = rw c.read.ensures.len
    (before-ends bs (rw (← c.read.ensures.len) less)) in
    grind (arith, nat_tests, ends)

pub returns-clause-is_step : goal.returns-clause-is_step
returns-clause-is_step g c = λ some q at.
    let bs = c.args.bytes.now in
    let no = c.if-bytes-eq27.false in
    let esc : is_esc (get_or bs 0 0) ≡ false = grind (arith, nat_tests) in
    (run-at g.row.N c.args.self.now bs c.read.result q c.requires.some (rw (c.requires.ground, esc) refl)
    c.read.ensures.len at).2
