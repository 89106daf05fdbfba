-- Runs of a performer, step by step.
use Rattle.std.proofs.Common.{◌≡◌, ℕ, Bool, List, [], ◌∷◌, ◌++◌, Option, ◌||◌, refl, ap, sym, ◌∙◌, subst}
use Rattle.std.specs.List.{All, list_any}
use Rattle.std.proofs.lemmas.Bool.{cases_Bool}
use Rattle.std.proofs.Math.Bool.{or-false, or_assoc}
use Rattle.std.proofs.Common.{inl, inr}
use Rattle.std.proofs.lemmas.List.Elements.{All-head, All-tail}
use Rattle.vte_core.specs.Event.{Event, Performs}
use Rattle.vte_core.specs.Laws.{Fits}
use Rattle.vte_types.specs.Call.{Call, Calls}
use Rattle.vte_types.proofs.CallLemmas.{Calls-append}
use Rattle.vte.specs.Csi.{opens_group}
use Rattle.vte.specs.Table.{calls_of, last_after, openers, opens}
use Rattle.vte.specs.Timeout.{Ticking, Tick, Sets, Clears, Ticked, sets_of}
use Rattle.vte.specs.declared.performer.ProcessorState.{ProcessorState}
use Rattle.vte.specs.Performed.{Performed, PerformedAll, last_after_all, calls_of_all, openers_of_all}

pub Ticked-append : {T : Type 0} (ticking : Ticking T) (s m t : T) (a b : List Tick)
    → Ticked ticking s a m → Ticked ticking m b t → Ticked ticking s (a ++ b) t
Ticked-append {T} ticking s m t [] b h k = subst (λ (x : T). Ticked ticking x b t) h k
Ticked-append {T} ticking s m t (Sets ∷ a) b h k = (h.0, h.1, Ticked-append ticking h.0 m t a b h.2 k)
Ticked-append {T} ticking s m t (Clears ∷ a) b h k = (h.0, h.1, Ticked-append ticking h.0 m t a b h.2 k)

pub sets_of-append : (a b : List (List ℕ)) → sets_of (a ++ b) ≡ sets_of a ++ sets_of b
sets_of-append [] b = refl
sets_of-append (g ∷ a) b = elim (cases_Bool (opens_group g)) [
  | inl e ↦ rw e (ap (λ ts. Sets ∷ ts) (sets_of-append a b))
  | inr e ↦ rw e (sets_of-append a b)
]

or-any : (b : Bool) (e : Event) (es : List Event)
    → (b || list_any opens (e ∷ es)) ≡ ((b || opens e) || list_any opens es)
or-any b e es = sym (or_assoc b (opens e) (list_any opens es))

-- what each step does, a run does
pub performs_all : {P H T : Type 0} (step : H → Call → H → Type 0) (ticking : Ticking T)
    (h : P → H) (s : P → ProcessorState T) (ended : P → Bool) (steps : P → Event → P → Type 0)
    → ((p : P) (e : Event) (q : P) → steps p e q → Performed step ticking e (h p) (s p) (ended p) (h q) (s q)
    (ended q))
    → (p : P) (es : List Event) (q : P) → All (Fits 1024) es → Performs steps p es q
    → PerformedAll step ticking es (h p) (s p) (ended p) (h q) (s q) (ended q)
performs_all step ticking h s ended steps each p [] q fits g =
    record {
      calls = ap h g;
      printed = ap (λ x. (s x).preceding_char) g;
      ticked = ap (λ x. (s x).timeout) g;
      ends = ap ended g ∙ sym (or-false (ended p));
    }
performs_all step ticking h s ended steps each p (e ∷ es) q fits g =
    let one = each p e g.0 g.1 in
    let more = performs_all step ticking h s ended steps each g.0 es q (All-tail (Fits 1024) e es fits) g.2 in
    let last = (s p).preceding_char in
    let calls = subst (λ (l : Option ℕ). Calls step (h g.0) (calls_of_all l es) (h q)) one.printed more.calls in
    record {
      calls = Calls-append step (h p) (h g.0) (h q) (calls_of last e) (calls_of_all (last_after last e) es)
          (one.calls (All-head (Fits 1024) e es fits)) calls;
      printed = more.printed ∙ ap (λ l. last_after_all l es) one.printed;
      ticked = subst (λ (ts : List Tick). Ticked ticking (s p).timeout ts (s q).timeout)
          (sym (sets_of-append (openers e) (openers_of_all es)))
          (Ticked-append ticking (s p).timeout (s g.0).timeout (s q).timeout (sets_of (openers e))
          (sets_of (openers_of_all es)) one.ticked more.ticked);
      ends = more.ends ∙ (ap (λ b. b || list_any opens es) one.ends ∙ sym (or-any (ended p) e es));
    }

-- what each step keeps, a run keeps
pub keeps_all : {P N : Type 0} (f : P → N) (steps : P → Event → P → Type 0)
    → ((p : P) (e : Event) (q : P) → steps p e q → f q ≡ f p)
    → (p : P) (es : List Event) (q : P) → Performs steps p es q → f q ≡ f p
keeps_all f steps each p [] q g = ap f g
keeps_all f steps each p (e ∷ es) q g = keeps_all f steps each g.0 es q g.2 ∙ each p e g.0 g.1
