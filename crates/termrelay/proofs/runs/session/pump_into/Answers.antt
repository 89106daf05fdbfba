use Rattle.std.proofs.Common.{◌≡◌, ◌++◌, length, ap, refl, arith, length-drop}
use Rattle.termrelay.specs.Hub.{clients_in}
use Rattle.termrelay.proofs.ScriptLemmas.{IsPumped, pumped-by, prefix-kept}
use Rattle.termrelay.proofs.runs.session.pump_into.Goals as goal
use Rattle.termrelay.proofs.runs.session.pump_into.Goals.{After-owed_count}

-- what the pump has left, and what it took
pumped : (c : After-owed_count)
    → IsPumped c.args.hub.now c.args.client c.args.takes.now c.in-Ok.owed.now c.owed_count.result
pumped c =
    pumped-by c.args.hub.now c.pump-reply.new.hub c.args.client c.args.takes.now c.pump-reply.result c.in-Ok.owed.now
    c.owed_count.result _ (λ no. absurd cc) (clients_in c.args.hub.now c.args.client) refl c.in-Ok.ensures.owed
    c.owed_count.ensures c.pump-reply.ensures

pub overflow_sub-len : goal.overflow_sub-len
overflow_sub-len c =
    let p = pumped (goal.at.overflow_sub-len c).After-owed_count in
    omega (arith, p.rest, length-drop p.count c.in-Ok.owed.now, c.len.ensures, c.in_ok-extend_from_slice.ensures.len)

pub returns-clause-bytes : goal.returns-clause-bytes
returns-clause-bytes c =
    let owed = c.in-Ok.owed.now in
    let bytes = c.args.bytes.now.items in
    let left = c.owed_count.result in
    let p = pumped (goal.at.returns-clause-bytes c).After-owed_count in
    let both = c.extend_from_slice.new.self in
    let whole : both.items ≡ bytes ++ owed = c.in_ok-extend_from_slice.ensures.items in
    let count : c.len.result ≡ length (bytes ++ owed) = omega (arith, c.len.ensures, both.ok.0, ap length whole) in
    rw (c.truncate.ensures.items, count, whole, prefix-kept bytes owed p.count left p.rest, p.bytes)
