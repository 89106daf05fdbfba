use Rattle.std.proofs.Common.{◌≡◌, ◌<◌, ◌≤◌, ◌==◌, ◌∙◌, sym, ℕ, [], ◌++◌, length, length-append, ap, arith, false}
use Rattle.std.proofs.lemmas.Bool.{eqb-true}
use Rattle.std.proofs.lemmas.List.{nil_from_length}
use Rattle.std.proofs.lemmas.Bool.Decides.{nat_tests}
use Rattle.vte.specs.Hold.{limit}
use Rattle.vte.specs.Advances.{IsEmptied}
use Rattle.vte.proofs.TurnLemmas.{idle_turn, turn_after, held_advances}
use Rattle.vte.proofs.processor.Processor.turn.Goals as goal
use Rattle.vte.proofs.processor.Processor.turn.Goals.{then-pending_timeout+else-piece-len}
use Rattle.vte.proofs.processor.Processor.turn.Goals.{else-pending_timeout+else-is_empty}

positive : (n : ℕ) → (n == 0) ≡ false → 0 < n
positive n h = grind (arith, nat_tests)

pub returns-then-is_empty-clause-led : goal.returns-then-is_empty-clause-led
returns-then-is_empty-clause-led g c parsed held at =
    let free = rw c.if-pending_timeout.false at c.pending_timeout.ensures in
    let none = eqb-true _ 0 (sym c.is_empty.ensures ∙ c.if-is_empty.true) in
    let empty : held ≡ [] = nil_from_length held (omega (arith, ap length at.holds, c.args.self.now.held.ok.0, none)) in
    idle_turn g.T.Timeout.ticking g.H.Handler.step c.begin.result _ parsed held
    c.args.piece.now _ _ _ empty free (c.begin.ensures.led parsed held at)

pub returns-then-piece-len-clause-led : goal.returns-then-piece-len-clause-led
returns-then-piece-len-clause-led g c parsed held at =
    let pending = rw c.if-pending_timeout.true at c.pending_timeout.ensures in
    let fits : length (held ++ c.args.piece.now) < limit =
    omega (
      arith,
      c.if-piece-len.true,
      c.len.ensures,
      length-append held c.args.piece.now,
      ap length at.holds,
      c.args.self.now.held.ok.0,
      c.args.self.now.bounded,
    ) in
    held_advances pending fits (c.hold.ensures parsed held at)

pub returns-clause-led : goal.returns-clause-led
returns-clause-led g c parsed held at =
    let emptied = c.empty.ensures parsed held at.has_read at.printed at.holds in
    let why : IsEmptied c.pending_timeout.result held c.args.piece.now = elim c.if-pending_timeout.branch [
      | then-pending_timeout+else-piece-len w ↦
          let full : limit ≤ length (held ++ c.args.piece.now) =
          omega (
            arith,
            w.if-piece-len.false,
            w.len.ensures,
            length-append held c.args.piece.now,
            ap length at.holds,
            c.args.self.now.held.ok.0,
            c.args.self.now.bounded,
          ) in
          rw w.if-pending_timeout.true full
      | else-pending_timeout+else-is_empty w ↦
          let some : 0 < length held = omega (
            arith,
            positive _ (sym w.is_empty.ensures ∙ w.if-is_empty.false),
            ap length at.holds,
            c.args.self.now.held.ok.0,
          ) in
          rw w.if-pending_timeout.false some
    ] in
    turn_after g.T.Timeout.ticking g.H.Handler.step _ _ parsed held
    c.args.piece.now _ _ c.pending_timeout.result c.pending_timeout.ensures why emptied _ _ c.begin-2.result
    (c.begin-2.ensures.led (parsed ++ held) [] emptied.state_after)
