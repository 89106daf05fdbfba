use Rattle.std.proofs.Common.{◌≡◌, ◌∙◌, ℕ, ◌+◌, ◌-◌, ◌≤◌, List, Option, Some, None, ap, sym, arith, drop, length}
use Rattle.std.proofs.Common.{length-drop}
use Rattle.std.proofs.Math.Seq.{drop-nil}
use Rattle.std.proofs.lemmas.List.{drop-drop}
use Rattle.std.specs.Option.{IfSome, option_map}
use Rattle.termrelay.specs.ClientRecord.{FrameView, RecordView, left_of}
use Rattle.byte_streams.proofs.PumpLemmas.{pumps-within}
use Rattle.termrelay.proofs.client_record.ClientRecord.pump.Goals as goal

-- what is said of a frame is said of the one that is shared
holds-value : {A : Type 0} (o : Option A) (view : A → FrameView) (left : ℕ)
    → IfSome o (λ a. left ≤ length (view a).text) → IfSome (option_map view o) (λ f. left ≤ length f.text)
holds-value None view left h = tt
holds-value (Some a) view left h = h

-- at most that many bytes are taken
taken-within : (last : Option FrameView) (left n : ℕ) (owed : List ℕ) → IfSome last (λ f. left ≤ length f.text)
    → owed ≡ left_of last left → n ≤ length owed → n ≤ left
taken-within None left n owed holds is within = omega (arith, ap length is)
taken-within (Some f) left n owed holds is within =
    omega (arith, ap length is, length-drop (length f.text - left) f.text)

left-less : {A : Type 0} (o : Option A) (view : A → FrameView) (left n : ℕ)
    → IfSome o (λ a. left ≤ length (view a).text) → IfSome o (λ a. left - n ≤ length (view a).text)
left-less None view left n h = tt
left-less (Some a) view left n h = omega (arith, h)

left-dropped : (last : Option FrameView) (left n : ℕ) → IfSome last (λ f. left ≤ length f.text) → n ≤ left
    → left_of last (left - n) ≡ drop n (left_of last left)
left-dropped None left n holds within = sym (drop-nil n)
left-dropped (Some f) left n holds within =
    let at : length f.text - (left - n) ≡ (length f.text - left) + n = omega (arith, holds) in
    ap (λ k. drop k f.text) at ∙ sym (drop-drop n (length f.text - left) f.text)

pub overflow_sub-self : goal.overflow_sub-self
overflow_sub-self g c =
    let within = pumps-within g.row.T.Denot g.T.ByteSink.takes _ _ _ _ _ c.pump-taken.ensures in
    let is = c.owed.ensures ∙ ap (λ (r : RecordView). r.owed) (sym c.self.view_is) in
    let holds = holds-value c.self.inside.last (λ a. a.value) c.self.inside.left c.self.invariant in
    taken-within _ c.self.inside.left _ c.owed.result.now holds is within

pub invariant_of-self : goal.invariant_of-self
invariant_of-self g c = left-less c.self.inside.last (λ a. a.value) c.self.inside.left _ c.self.invariant

pub returns : goal.returns
returns g c =
    let within = pumps-within g.row.T.Denot g.T.ByteSink.takes _ _ _ _ _ c.pump-taken.ensures in
    let is = c.owed.ensures ∙ ap (λ (r : RecordView). r.owed) (sym c.self.view_is) in
    let holds = holds-value c.self.inside.last (λ a. a.value) c.self.inside.left c.self.invariant in
    let last = option_map (λ a. a.value) c.self.inside.last in
    let fits = taken-within last c.self.inside.left c.pump-taken.result.0 c.owed.result.now holds is within in
    let left = left-dropped last c.self.inside.left c.pump-taken.result.0 holds fits in (
      c.pump-taken.result.0,
      rw c.owed.ensures at c.pump-taken.ensures,
      λ i. record {
        owed = (left ∙ ap (λ (r : RecordView). drop c.pump-taken.result.0 r.owed) c.self.view_is) i;
        last = ap (λ (r : RecordView). r.last) c.self.view_is i;
      },
    )
