use Rattle.std.proofs.Common.{◌≡◌, ◌∙◌, sym, subst, List, ℕ, map, map-id, refl, take, get_or, ◌+◌}
use Rattle.std.proofs.lemmas.List.{take_more, take_all}
use Rattle.std.proofs.lemmas.Str.{chars-IsAscii}
use Rattle.std.proofs.lemmas.Iterator.{YieldsList-from_chars}
use Rattle.std.proofs.lemmas.Iterator.Consumers.{YieldsList-end}
use Rattle.vte_types.specs.Call.{Calls, input}
use Rattle.vte_types.proofs.CallLemmas.{input-more}
use Rattle.vte_types.proofs.handler.Handler.input_str.Goals as goal

pub loop-c-preserved : goal.loop-c-preserved
loop-c-preserved g c =
    input-more g.Self.Handler.step _ _ _ c.loop-c.yielded c.in-Some.c _ refl c.loop-c.invariant
    c.input-in-loop-c.ensures

pub loop-byte-preserved : goal.loop-byte-preserved
loop-byte-preserved g c =
    let bs = c.as_bytes-byte-items.result.now in
    let i = c.loop-byte.byte-index in
    input-more g.Self.Handler.step _ _ _ (take i bs) (get_or bs i 0) (take (i + 1) bs)
    (take_more bs i 0 c.loop-byte-test.true) c.loop-byte.invariant c.input.ensures

pub returns-then-is_ascii : goal.returns-then-is_ascii
returns-then-is_ascii g c =
    let bs = c.as_bytes-byte-items.result.now in
    let all : take c.loop-byte.byte-index bs ≡ bs = take_all c.loop-byte.byte-index bs c.loop-byte-test.false in
    subst (λ (cs : List ℕ). Calls g.Self.Handler.step c.args.self.now (map input cs) c.loop-byte.self)
    (all ∙ (c.as_bytes-byte-items.ensures.value ∙ sym (chars-IsAscii c.args.text.now c.if-is_ascii.ensures.cases)))
    c.loop-byte.invariant

pub returns : goal.returns
returns g c =
    let end = YieldsList-end (YieldsList-from_chars c.args.text.now c.utf8.text cc) c.loop-c.yielded _
    c.loop-c.yielded_by _ _ c.in-None.is c.next.ensures.steps in
    subst (λ (cs : List ℕ). Calls g.Self.Handler.step c.args.self.now (map input cs) c.loop-c.self)
    (sym (map-id c.loop-c.yielded) ∙ end.0) c.loop-c.invariant
