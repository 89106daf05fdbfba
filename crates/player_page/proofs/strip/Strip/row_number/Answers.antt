use Rattle.std.proofs.Common.{◌≡◌, ◌<◌, Err, arith, inr, length, refl, rules}
use Rattle.std.proofs.lemmas.Option.{slice_get_within}
use Rattle.player_page.specs.Strips.{table_of}
use Rattle.player_page.specs.declared.page.TheConstants.{LONGEST_PLAYER}
use Rattle.player_page.proofs.MomentLemmas.{drawn_more, long_rows, many_rows}
use Rattle.player_page.proofs.strip.Strip.row_number.Goals as goal

pub returns-in_err-check_length-clause-fault : goal.returns-in_err-check_length-clause-fault
returns-in_err-check_length-clause-fault c =
    let look = c.args.look.now in
    let is : c.from_residual-in_err-check_length.result ≡ Err c.in_err-check_length.field-0.0 =
    search (rules, c.from_residual-in_err-check_length.ensures) in
    rw is (inr (
      c.in_err-check_length.ensures.long.0,
      λ size events n after drawn.
          long_rows LONGEST_PLAYER look size events c.draw.new.self
          (drawn_more look size events n c.args.row c.args.screen.now.state _ c.args.self.now c.draw.new.self
          c.in_ok-number.number after c.in_ok-painted.ensures.painted c.in_ok-painted.ensures.text
          c.in_ok-number.ensures.draws drawn) c.in_err-check_length.ensures.long.1,
    ))

pub returns-clause-drawn : goal.returns-clause-drawn
returns-clause-drawn c = λ size events n after drawn.
    drawn_more c.args.look.now size events n c.args.row c.args.screen.now.state _ c.args.self.now c.draw.new.self
    c.in_ok-number.number after c.in_ok-painted.ensures.painted c.in_ok-painted.ensures.text
    c.in_ok-number.ensures.draws drawn

pub returns-in_default-clause-fault : goal.returns-in_default-clause-fault
returns-in_default-clause-fault c = inr (
  refl,
  λ size events n after drawn.
      let draws = c.in_ok-number.ensures.draws in
      let many : LONGEST_PLAYER < length (table_of c.draw.new.self) =
      (let within = slice_get_within (table_of c.draw.new.self) c.in_ok-number.number _ draws.takes.at in
      let big = c.in_default.ensures in omega arith) in
      many_rows LONGEST_PLAYER c.args.look.now size events c.draw.new.self
      (drawn_more c.args.look.now size events n c.args.row c.args.screen.now.state _ c.args.self.now c.draw.new.self
      c.in_ok-number.number after c.in_ok-painted.ensures.painted c.in_ok-painted.ensures.text draws drawn) many,
)
