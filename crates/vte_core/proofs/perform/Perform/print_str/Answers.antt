use Rattle.std.proofs.Common.{◌≡◌, ◌∙◌, sym, ap, map, map-id, take}
use Rattle.std.proofs.lemmas.List.{take_all}
use Rattle.std.proofs.lemmas.Str.{chars-IsAscii}
use Rattle.std.proofs.lemmas.Iterator.{YieldsList-from_chars}
use Rattle.std.proofs.lemmas.Iterator.Consumers.{YieldsList-end}
use Rattle.std.specs.Str.{chars}
use Rattle.vte_core.specs.Event.{Print}
use Rattle.vte_core.proofs.Telling.{performs-last, performs-next, same_events}
use Rattle.vte_core.proofs.perform.Perform.print_str.Goals as goal

pub loop-c-preserved : goal.loop-c-preserved
loop-c-preserved g c = performs-last g.Self.Perform.step Print c.loop-c.yielded c.in-Some.c c.args.self.now
    c.loop-c.self c.print-in-loop-c.new.self c.loop-c.invariant c.print-in-loop-c.ensures

pub returns : goal.returns
returns g c =
    let end = YieldsList-end (YieldsList-from_chars c.args.text.now c.utf8.text cc) c.loop-c.yielded _
    c.loop-c.yielded_by _ _ c.in-None.is c.next.ensures.steps in
    same_events g.Self.Perform.step c.args.self.now c.loop-c.self (map Print c.loop-c.yielded)
    (map Print (chars c.args.text.now))
    (ap (map Print) (sym (map-id c.loop-c.yielded) ∙ end.0)) c.loop-c.invariant

pub loop-byte-preserved : goal.loop-byte-preserved
loop-byte-preserved g c = performs-next g.Self.Perform.step Print c.as_bytes-byte-items.result.now
    c.loop-byte.byte-index c.args.self.now c.loop-byte.self c.print.new.self c.loop-byte-test.true c.loop-byte.invariant
    c.print.ensures

pub returns-then-is_ascii : goal.returns-then-is_ascii
returns-then-is_ascii g c =
    let bs = c.as_bytes-byte-items.result.now in
    let text = c.args.text.now in
    let all : take c.loop-byte.byte-index bs ≡ bs = take_all c.loop-byte.byte-index bs c.loop-byte-test.false in
    same_events g.Self.Perform.step c.args.self.now c.loop-byte.self (map Print (take c.loop-byte.byte-index bs))
    (map Print (chars text))
    (ap (map Print) (all ∙ (c.as_bytes-byte-items.ensures.value
    ∙ sym (chars-IsAscii text c.if-is_ascii.ensures.cases)))) c.loop-byte.invariant
