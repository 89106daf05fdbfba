use Rattle.std.proofs.Common.{ap, arith, sym, ◌∙◌, length}
use Rattle.std.specs.Prelude.{encode_utf8_all}
use Rattle.std.proofs.lemmas.Bool.{ltb-true}
use Rattle.vt100_cells.proofs.CellTextLemmas.{len-text_of, text-push}
use Rattle.vt100_cells.proofs.NarrowLemmas.{encode-two}
use Rattle.vt100_cells.proofs.cell_text.CellText.push.Goals as goal

pub slice_bounds-copy_up_to_four-end : goal.slice_bounds-copy_up_to_four-end
slice_bounds-copy_up_to_four-end c =
    let n = len-text_of c.self.inside c.args.self.now c.self.invariant c.self.view_is in
    let room = ltb-true (length (encode_utf8_all c.args.self.now)) 18 c.requires in
    omega (arith, n, room)

pub slice_bounds-copy_up_to_four-end-2 : goal.slice_bounds-copy_up_to_four-end-2
slice_bounds-copy_up_to_four-end-2 c =
    let n = len-text_of c.self.inside c.args.self.now c.self.invariant c.self.view_is in
    let room = ltb-true (length (encode_utf8_all c.args.self.now)) 18 c.requires in
    omega (arith, n, room, c.encode_utf8-encoded.ensures.upper_bound)

pub invariant_of-self : goal.invariant_of-self
invariant_of-self c =
    let two = encode-two c.args.c (omega arith) (omega arith) in
    (text-push c.self.inside c.args.self.now 2 _ c.copy_up_to_four.new.to c.args.c c.self.invariant c.self.view_is
    c.requires
    (c.copy_up_to_four.ensures ∙ sym two)
    (sym (ap length two)) (omega arith) c.ranges.c.0).0

pub invariant_of-self-2 : goal.invariant_of-self-2
invariant_of-self-2 c =
    (text-push c.self.inside c.args.self.now _ _ c.copy_up_to_four-2.new.to c.args.c c.self.invariant c.self.view_is
    c.requires
    (c.copy_up_to_four-2.ensures ∙ c.as_bytes.ensures.value ∙ c.encode_utf8-encoded.ensures.value)
    (ap length c.encode_utf8-encoded.ensures.value) (omega arith) c.ranges.c.0).0

pub returns-then-code-lt2048 : goal.returns-then-code-lt2048
returns-then-code-lt2048 c =
    let two = encode-two c.args.c (omega arith) (omega arith) in
    (text-push c.self.inside c.args.self.now 2 _ c.copy_up_to_four.new.to c.args.c c.self.invariant c.self.view_is
    c.requires
    (c.copy_up_to_four.ensures ∙ sym two)
    (sym (ap length two)) (omega arith) c.ranges.c.0).1

pub returns : goal.returns
returns c =
    (text-push c.self.inside c.args.self.now _ _ c.copy_up_to_four-2.new.to c.args.c c.self.invariant c.self.view_is
    c.requires
    (c.copy_up_to_four-2.ensures ∙ c.as_bytes.ensures.value ∙ c.encode_utf8-encoded.ensures.value)
    (ap length c.encode_utf8-encoded.ensures.value) (omega arith) c.ranges.c.0).1
