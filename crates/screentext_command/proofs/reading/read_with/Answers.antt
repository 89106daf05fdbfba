use Rattle.std.proofs.Common.{◌≡◌, Err, List, Option, rules, subst, ℕ}
use Rattle.std.specs.Option.{option_map}
use Rattle.std.specs.Vec.{vec_items}
use Rattle.screentext_command.proofs.MissingLemmas.{unread_missing}
use Rattle.screentext_command.specs.Asked.{origin_of}
use Rattle.screentext_command.specs.Reads.{IsReadAs}
use Rattle.screentext_command.proofs.reading.read_with.Goals as goal

pub returns-in_err-reading-clause-fault : goal.returns-in_err-reading-clause-fault
returns-in_err-reading-clause-fault g c = λ wish.
    let e = c.in_err-reading.field-0.0 in
    let is : c.from_residual-in_err-reading.result ≡ Err e = search rules in
    rw is (unread_missing _ _ (origin_of c.args.source.now) wish c.args.bytes.items
    (option_map vec_items c.in_ok-timing.timing) _ e c.in_ok-timing.ensures.timing c.as_deref.ensures.value
    c.in_err-reading.ensures.fault)

pub returns-clause-reading : goal.returns-clause-reading
returns-clause-reading g c = record {
  timing = option_map vec_items c.in_ok-timing.timing;
  given = c.in_ok-timing.ensures.timing;
  read = subst (λ (t : Option (List ℕ)). IsReadAs c.args.source.now.kind t c.args.bytes.items c.in_ok-reading.reading)
      c.as_deref.ensures.value c.in_ok-reading.ensures.reading;
}
