use Rattle.std.proofs.Common.{◌<◌, ◌∙◌, ap, arith, List, ℕ, length, ◌≢◌}
use Rattle.std.proofs.lemmas.Bool.{eq-eqb}
use Rattle.std.proofs.lemmas.Bool.Decides.{nat_tests}
use Rattle.vte_core.proofs.OscLemmas.{rise-more, osc-byte, osc-semicolon, not_full, is_full, bytes-room, bytes-full}
use Rattle.vte_core.proofs.OscLemmas.{reads-by}
use Rattle.vte_core.proofs.osc_data.OscData.push.Goals as goal

pub invariant_of-self : goal.invariant_of-self
invariant_of-self g c = rise-more 0 c.self.inside.ends.items c.self.inside.bytes.items _
    (omega (arith, c.push.ensures.len)) c.self.invariant

pub returns-then-byte-eq59 : goal.returns-then-byte-eq59
returns-then-byte-eq59 g c = λ s r.
    let x = c.args.self.now in
    rw (← c.end_piece.ensures.bytes) at (osc-semicolon g.row.N x s c.args.byte c.end_piece.new.self.1
    (eq-eqb c.args.byte 59 c.if-byte-eq59.true) r (c.end_piece.ensures.ends s r))

pub returns-then-not-is_full : goal.returns-then-not-is_full
returns-then-not-is_full g c = λ s r.
    let x : List ℕ × List ℕ = (c.self.inside.bytes.items, c.self.inside.ends.items) in
    let r' = reads-by g.row.N x c.args.self.now s c.self.view_is r in
    let ne : c.args.byte ≢ 59 = c.if-byte-eq59.false in
    let room : length c.self.inside.bytes.items < g.row.N =
    not_full _ g.row.N c.if-not-is_full.ensures.value c.if-not-is_full.ensures.fits in
    osc-byte g.row.N x s c.args.byte c.push.new.self.items (grind (arith, nat_tests, ne)) r'
    (c.push.ensures.items ∙ bytes-room g.row.N x s c.args.byte r' room)

pub returns-else-not-is_full : goal.returns-else-not-is_full
returns-else-not-is_full g c = λ s r.
    let x = c.args.self.now in
    let ne : c.args.byte ≢ 59 = c.if-byte-eq59.false in
    let full = is_full _ g.row.N (length x.0) c.if-not-is_full.ensures.value (ap (λ y. length y.0) c.self.view_is) in
    osc-byte g.row.N x s c.args.byte x.0 (grind (arith, nat_tests, ne)) r (bytes-full g.row.N x s c.args.byte r full)
