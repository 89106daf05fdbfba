use Rattle.std.proofs.Common.{◌≡◌, ◌∙◌, sym, ap, List, ℕ, [], ◌∷◌, ◌++◌, map, map-id, refl}
use Rattle.std.specs.Prelude.{⊤}
use Rattle.std.proofs.lemmas.Iterator.{YieldsList-from_chars}
use Rattle.std.proofs.lemmas.Iterator.Consumers.{YieldsList-end}
use Rattle.std.specs.Str.{chars}
use Rattle.vte_core.specs.Event.{Event, Print}
use Rattle.vte_core.proofs.Telling.{performs-append, same_events}
use Rattle.library_steps.proofs.streams.log.Log.run.Goals as goal

map-last : (cs : List ℕ) (c : ℕ) → map Print cs ++ Print c ∷ [] ≡ map Print (cs ++ c ∷ [])
map-last [] c = refl
map-last (x ∷ cs) c = ap (λ (es : List Event). Print x ∷ es) (map-last cs c)

pub loop-c-preserved : goal.loop-c-preserved
loop-c-preserved c =
    let es = map Print c.loop-c.yielded in
    let ds : List Event = Print c.in-Some.c ∷ [] in
    same_events (λ _ _ _. ⊤) c.args.self.now c.character.new.self (es
    ++ ds) (map Print (c.loop-c.yielded ++ c.in-Some.c ∷ [])) (map-last c.loop-c.yielded c.in-Some.c)
    (performs-append (λ _ _ _. ⊤) c.args.self.now c.loop-c.self c.character.new.self es ds c.loop-c.invariant
    (c.character.new.self, tt, refl))

pub returns : goal.returns
returns c =
    let end = YieldsList-end (YieldsList-from_chars c.args.text.now c.utf8.text cc) c.loop-c.yielded _
    c.loop-c.yielded_by _ _ c.in-None.is c.next.ensures.steps in
    same_events (λ _ _ _. ⊤) c.args.self.now c.loop-c.self (map Print c.loop-c.yielded)
    (map Print (chars c.args.text.now))
    (ap (map Print) (sym (map-id c.loop-c.yielded) ∙ end.0)) c.loop-c.invariant
