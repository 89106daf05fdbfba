use Rattle.std.proofs.Common.{◌≡◌, ◌≢◌, ℕ, suc, ◌-◌, ◌^◌, ◌+◌, ◌<◌, List, [], Ok, Err, IfErr, take, length, ap, arith}
use Rattle.std.proofs.Common.{rules, refl, lit<}
use Rattle.std.specs.Io.KnownBytes.{Consumes}
use Rattle.std.specs.IoError.{error_kind}
use Rattle.std.specs.declared.io.ErrorKind.TheVariants.{Interrupted}
use Rattle.command_line.specs.Input.{Drains}
use Rattle.command_line.specs.declared.input.InputError.TheVariants.{Memory}
use Rattle.command_line.proofs.InputLemmas.{begun, once_more, some_more, at_end, at_fault, at_refusal, at_most, taken}
use Rattle.command_line.proofs.InputLemmas.{if_error, whole}
use Rattle.command_line.proofs.input.read_all.Goals as goal
use Rattle.command_line.proofs.input.read_all.Goals.{in-Ok+in_ok-extend_from_slice-in-Ok, in-Err+else-ne}

-- one read fewer may be made
fewer : (i : ℕ) → i < 2 ^ 40 → 2 ^ 40 - i ≡ suc (2 ^ 40 - (i + 1))
fewer i lt = omega (arith, lt)

pub reads-init : goal.reads-init
reads-init g c = record {
  wide = refl;
  goes_on = rw c.new-bytes.ensures.items (begun g.S.Source.gives 65536 c.args.input.now (2 ^ 40));
}

pub returns-in-Ok-eq0-clause-reads : goal.returns-in-Ok-eq0-clause-reads
returns-in-Ok-eq0-clause-reads g c =
    let inv = c.reads.invariant in
    let read = rw (inv.wide, c.in-Ok-eq0.field-0-test) at c.in-Ok-eq0.ensures.gives in
    at_end inv.goes_on _ (fewer c.reads.counter c.reads-test.true) c.give.new.self read

pub returns-in-Ok-eq0-clause-bytes : goal.returns-in-Ok-eq0-clause-bytes
returns-in-Ok-eq0-clause-bytes g c =
    whole g.S.Source.left g.met.S.Source.tells c.args.input.now c.give.new.self (2 ^ 40) _
    (returns-in-Ok-eq0-clause-reads g c) (lit< tt)

pub returns-then-ne-clause-faults : goal.returns-then-ne-clause-faults
returns-then-ne-clause-faults g c =
    let inv = c.reads.invariant in
    let read = rw inv.wide at c.in-Err.ensures.gives in
    let last = fewer c.reads.counter c.reads-test.true in
    (_, at_fault inv.goes_on _ last c.give.new.self c.in-Err.error read (search rules))

pub returns-then-ne-clause-lost : goal.returns-then-ne-clause-lost
returns-then-ne-clause-lost g c =
    let reported = returns-then-ne-clause-faults g c in (
      reported.0,
      taken g.S.Source.left g.met.S.Source.tells c.args.input.now c.give.new.self (2 ^ 40) reported.0 _
          reported.1,
    )

pub returns-clause-faults : goal.returns-clause-faults
returns-clause-faults g c = (_, at_most c.reads.invariant.goes_on (omega (arith, c.reads-test.false)))

pub returns-clause-lost : goal.returns-clause-lost
returns-clause-lost g c =
    let reported = returns-clause-faults g c in (
      reported.0,
      taken g.S.Source.left g.met.S.Source.tells c.args.input.now c.reads.input (2 ^ 40) reported.0 _
          reported.1,
    )

pub returns-in_err-extend_from_slice-in-Ok-clause-faults : goal.returns-in_err-extend_from_slice-in-Ok-clause-faults
returns-in_err-extend_from_slice-in-Ok-clause-faults g c =
    let inv = c.reads.invariant in
    let bound = c.in-Ok.ensures.bound in
    let read = rw inv.wide at c.in-Ok.ensures.gives in
    let some : take c.in-Ok.n c.give.new.room ≢ [] =
    λ none. absurd (omega (arith, bound.1, ap length none, c.in-Ok.n-test)) in
    if_error c.from_residual.result Memory _ c.from_residual.ensures.1 (
      _,
      at_refusal inv.goes_on _ (fewer c.reads.counter c.reads-test.true) c.give.new.self _ some
          (omega (arith, bound.0, bound.1, c.give.auto.room, inv.wide)) read,
    )

pub returns-in_err-extend_from_slice-in-Ok-clause-lost : goal.returns-in_err-extend_from_slice-in-Ok-clause-lost
returns-in_err-extend_from_slice-in-Ok-clause-lost g c =
    elim c.from_residual.result as (λ r. IfErr r (λ e. (lost : List ℕ)
    × Drains g.S.Source.gives 65536 c.args.input.now (2 ^ 40) lost (Err e) c.give.new.self)
    → IfErr r (λ e. (lost : List ℕ)
    × Consumes (g.S.Source.left c.args.input.now) (g.S.Source.left c.give.new.self) lost)) [
      | Ok x ↦ λ reported. tt
      | Err e ↦ λ reported.
          let read = taken g.S.Source.left g.met.S.Source.tells c.args.input.now c.give.new.self (2 ^ 40) in
          (reported.0, read reported.0 (Err e) reported.1)
    ] (returns-in_err-extend_from_slice-in-Ok-clause-faults g c)

pub reads-preserved : goal.reads-preserved
reads-preserved g c =
    let inv = c.reads.invariant in
    elim c.match-give.branch [
      | in-Ok+in_ok-extend_from_slice-in-Ok w ↦
          let bound = w.in-Ok.ensures.bound in
          let read = rw inv.wide at w.in-Ok.ensures.gives in
          let some : take w.in-Ok.n c.give.new.room ≢ [] =
          λ none. absurd (omega (arith, bound.1, ap length none, w.in-Ok.n-test)) in
          record {
            wide = omega (arith, c.give.auto.room, inv.wide);
            goes_on = rw (w.bytes-is, w.in_ok-extend_from_slice-in-Ok.ensures.items) (some_more inv.goes_on _
                (fewer c.reads.counter c.reads-test.true) c.give.new.self _ some
                (omega (arith, bound.0, bound.1, c.give.auto.room, inv.wide)) read);
          }
      | in-Err+else-ne w ↦
          let read = rw inv.wide at w.in-Err.ensures.gives in
          let is : error_kind w.in-Err.error ≡ Interrupted = search rules in
          record {
            wide = omega (arith, c.give.auto.room, inv.wide);
            goes_on = rw w.bytes-is (once_more inv.goes_on _ (fewer c.reads.counter c.reads-test.true) c.give.new.self
                w.in-Err.error read is);
          }
    ]
