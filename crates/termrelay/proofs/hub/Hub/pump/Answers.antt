use Rattle.std.proofs.Common.{◌≡◌, ℕ, List, drop, ap, sym, ◌∙◌, refl, subst, Some, None, Ok, Err, Result}
use Rattle.std.specs.Option.{option_copied_mut}
use Rattle.std.specs.declared.io.Error.{Error}
use Rattle.slab.specs.Slab.{Slab, get, with_value}
use Rattle.vt100.specs.Parsing.{ParserView}
use Rattle.termrelay.specs.declared.error.HubError.TheVariants.{UnknownClient}
use Rattle.byte_streams.specs.Pump.{Pumps}
use Rattle.termrelay.specs.ClientRecord.{RecordView, client_of}
use Rattle.termrelay.specs.Hub.{PumpsClient, pump_answer}
use Rattle.termrelay.specs.HubFields.{IsHub}
use Rattle.termrelay.proofs.HubLemmas.{holding, put-client, hub-put, left-served}
use Rattle.termrelay.proofs.hub.Hub.pump.Goals as goal
use Rattle.termrelay.proofs.hub.Hub.pump.Goals.{in-Some+in-Ok, in-Some+in-Err, in-None}

module _ {S : Type 0} (step : S → List ℕ → Result ℕ Error → S → Type 0) where
  client-pumped : (p : ParserView (Unit {0})) (s : Slab RecordView) (key : ℕ) (old new : RecordView) (from to : S)
      (r end : Result (Unit {0}) Error) (n : ℕ) → get s key ≡ Some old → r ≡ end → Pumps step from old.owed r n to
      → new ≡ record old { owed = drop n old.owed }
      → PumpsClient step (holding p s) key from (pump_answer end) to (holding p (with_value s key new))
  client-pumped p s key old new from to r end n found ended pumps is =
      rw found (end, n, rw ended at pumps, refl, rw (ap client_of is) at (put-client p s key old new found))

  no-client : (p : ParserView (Unit {0})) (s : Slab RecordView) (key : ℕ) (from : S) → get s key ≡ None
      → PumpsClient step (holding p s) key from (Err UnknownClient) from (holding p s)
  no-client p s key from none = rw none (refl, refl, refl)

pub returns : goal.returns
returns g c =
    let step = g.T.ByteSink.takes in
    let p = c.self.inside.parser in
    let s = c.self.inside.clients in
    let key = c.key.result in
    let from = c.args.to.now in
    elim c.match-get_mut.branch [
      | in-Some+in-Ok w ↦
          rw (w.result-is, w.to-is, w.self-inside-is, ← c.self.view_is, ← c.key.ensures)
          (client-pumped step p s key w.in-Some.record.now w.pump.new.self from w.pump.new.to _ (Ok tt) w.pump.ensures.0
          (sym c.get_mut.ensures.value ∙ ap option_copied_mut w.in-Some.is) w.in-Ok.is w.pump.ensures.1
          w.pump.ensures.2)
      | in-Some+in-Err w ↦
          rw (w.result-is, w.to-is, w.self-inside-is, ← c.self.view_is, ← c.key.ensures)
          (client-pumped step p s key w.in-Some.record.now w.pump.new.self from w.pump.new.to _ (Err w.in-Err.error)
          w.pump.ensures.0 (sym c.get_mut.ensures.value ∙ ap option_copied_mut w.in-Some.is) w.in-Err.is
          w.pump.ensures.1 w.pump.ensures.2)
      | in-None w ↦
          rw (w.result-is, w.to-is, w.self-inside-is, ← c.self.view_is, ← c.key.ensures)
          (no-client step p s key from (sym c.get_mut.ensures.value ∙ ap option_copied_mut w.in-None.is))
    ]

pub invariant_of-self : goal.invariant_of-self
invariant_of-self g c =
    let h = c.self.inside in
    let key = c.key.result in
    let i = c.self.invariant in
    elim c.match-get_mut.branch [
      | in-Some+in-Ok w ↦
          let old = w.in-Some.record.now in
          subst IsHub (sym w.self-inside-is)
          (hub-put h key old w.pump.new.self i (sym c.get_mut.ensures.value ∙ ap option_copied_mut w.in-Some.is)
          (λ live of. rw w.pump.ensures.2 (left-served h.parser.screen old w.pump.ensures.0 of))
          (ap (λ (r : RecordView). r.last) w.pump.ensures.2))
      | in-Some+in-Err w ↦
          let old = w.in-Some.record.now in
          subst IsHub (sym w.self-inside-is)
          (hub-put h key old w.pump.new.self i (sym c.get_mut.ensures.value ∙ ap option_copied_mut w.in-Some.is)
          (λ live of. rw w.pump.ensures.2 (left-served h.parser.screen old w.pump.ensures.0 of))
          (ap (λ (r : RecordView). r.last) w.pump.ensures.2))
      | in-None w ↦ subst IsHub (sym w.self-inside-is) i
    ]
