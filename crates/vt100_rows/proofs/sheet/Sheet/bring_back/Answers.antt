use Rattle.std.proofs.Common.{◌≡◌, ◌≤◌, ◌∙◌, ◌+◌, ◌-◌, ◌++◌, ℕ, List, length, take, drop, replicate, append_assoc, ap, sym}
use Rattle.std.proofs.Common.{refl, arith, length-append, length-drop, length-take}
use Rattle.std.specs.List.{range_with_len}
use Rattle.vt100_cells.specs.Cell.{default_cell}
use Rattle.vt100_rows.specs.Row.{RowView, blank_row, resized_row}
use Rattle.vt100_rows.specs.SheetFields.{in_order}
use Rattle.vt100_rows.proofs.SheetLemmas.{refilled}
use Rattle.vt100_rows.proofs.OrderLemmas.{added-back, length-added, length-in_order}
use Rattle.vt100_rows.proofs.BackLemmas.{brings-back}
use Rattle.vt100_rows.proofs.sheet.Sheet.bring_back.Goals as goal

pub overflow_sub-len : goal.overflow_sub-len
overflow_sub-len c =
    let order = c.self.inside.order.items in
    let numbers = c.push_numbers.new.order.items in
    let added : numbers ≡ order ++ range_with_len (length order) (c.len-2.result - length order) =
    c.push_numbers.ensures ∙ ap (λ (xs : List ℕ). xs ++ range_with_len (length xs) (c.len-2.result - length xs))
    c.reserve-2.ensures.items in
    let all : length numbers ≡ c.len-2.result =
    length-added order numbers c.len-2.result
    (omega (
      arith,
      c.self.invariant.count,
      c.len-2.ensures,
      c.take_newest.ensures.len,
      c.in_ok-push_blank.ensures.len,
      c.reserve.ensures.len,
      c.self.inside.rows.ok,
    )) added in
    omega (
      arith,
      all,
      c.len-len.ensures,
      c.len-2.ensures,
      c.push_numbers.new.order.ok,
      c.take_newest.ensures.len,
      c.in_ok-push_blank.ensures.len,
      c.reserve.ensures.len,
      c.min-come.ensures,
    )

pub invariant_of-self-2 : goal.invariant_of-self-2
invariant_of-self-2 c =
    let rows = c.self.inside.rows.items in
    let order = c.self.inside.order.items in
    let sized = c.resize_newest.new.rows.items in
    let fresh = replicate (c.args.below + (c.args.down - c.min-come.result)) (blank_row c.args.width) in
    let back = drop (length sized - c.min-come.result) sized in
    let two = c.take_newest.new.rows.items in
    let numbers = c.push_numbers.new.order.items in
    let turned = c.turn_numbers.new.order in
    let same = c.deref_mut.ensures.value in
    let joined : two ≡ rows ++ (fresh ++ back) =
    c.take_newest.ensures.rows ∙ ap (λ (xs : List RowView). xs ++ back) (c.in_ok-push_blank.ensures.rows
    ∙ ap (λ (xs : List RowView). xs ++ fresh) c.reserve.ensures.items) ∙ append_assoc rows fresh back in
    let added : numbers ≡ order ++ range_with_len (length order) (c.len-2.result - length order) =
    c.push_numbers.ensures ∙ ap (λ (xs : List ℕ). xs ++ range_with_len (length xs) (c.len-2.result - length xs))
    c.reserve-2.ensures.items in
    let len : c.len-len.result ≡ length numbers = omega (arith, c.len-len.ensures, c.push_numbers.new.order.ok) in
    let all : length numbers ≡ c.len-2.result =
    length-added order numbers c.len-2.result
    (omega (
      arith,
      c.self.invariant.count,
      c.len-2.ensures,
      c.take_newest.ensures.len,
      c.in_ok-push_blank.ensures.len,
      c.reserve.ensures.len,
      c.self.inside.rows.ok,
    )) added in
    let enough : c.args.down ≤ c.len-len.result = omega (
      arith,
      all,
      len,
      c.len-2.ensures,
      c.take_newest.ensures.len,
      c.in_ok-push_blank.ensures.len,
      c.reserve.ensures.len,
      c.min-come.ensures,
    ) in
    let known = added-back rows (fresh ++ back) two order numbers c.deref_mut.result.now turned c.len-2.result
    c.len-len.result c.args.down joined (omega (arith, c.len-2.ensures, c.take_newest.new.rows.ok)) added same len
    enough c.turn_numbers.auto.order c.turn_numbers.ensures c.self.invariant in
    let whole = refilled c.push_numbers.new.order.len turned numbers (omega (arith, c.push_numbers.new.order.ok))
    (c.turn_numbers.auto.order ∙ ap (λ (xs : List ℕ). length xs) same) in
    rw whole known.0

pub returns-clause-rows : goal.returns-clause-rows
returns-clause-rows c =
    let rows = c.self.inside.rows.items in
    let order = c.self.inside.order.items in
    let sized = c.resize_newest.new.rows.items in
    let fresh = replicate (c.args.below + (c.args.down - c.min-come.result)) (blank_row c.args.width) in
    let back = drop (length sized - c.min-come.result) sized in
    let two = c.take_newest.new.rows.items in
    let numbers = c.push_numbers.new.order.items in
    let turned = c.turn_numbers.new.order in
    let same = c.deref_mut.ensures.value in
    let joined : two ≡ rows ++ (fresh ++ back) =
    c.take_newest.ensures.rows ∙ ap (λ (xs : List RowView). xs ++ back) (c.in_ok-push_blank.ensures.rows
    ∙ ap (λ (xs : List RowView). xs ++ fresh) c.reserve.ensures.items) ∙ append_assoc rows fresh back in
    let added : numbers ≡ order ++ range_with_len (length order) (c.len-2.result - length order) =
    c.push_numbers.ensures ∙ ap (λ (xs : List ℕ). xs ++ range_with_len (length xs) (c.len-2.result - length xs))
    c.reserve-2.ensures.items in
    let len : c.len-len.result ≡ length numbers = omega (arith, c.len-len.ensures, c.push_numbers.new.order.ok) in
    let all : length numbers ≡ c.len-2.result =
    length-added order numbers c.len-2.result
    (omega (
      arith,
      c.self.invariant.count,
      c.len-2.ensures,
      c.take_newest.ensures.len,
      c.in_ok-push_blank.ensures.len,
      c.reserve.ensures.len,
      c.self.inside.rows.ok,
    )) added in
    let enough : c.args.down ≤ c.len-len.result = omega (
      arith,
      all,
      len,
      c.len-2.ensures,
      c.take_newest.ensures.len,
      c.in_ok-push_blank.ensures.len,
      c.reserve.ensures.len,
      c.min-come.ensures,
    ) in
    let known = added-back rows (fresh ++ back) two order numbers c.deref_mut.result.now turned c.len-2.result
    c.len-len.result c.args.down joined (omega (arith, c.len-2.ensures, c.take_newest.new.rows.ok)) added same len
    enough c.turn_numbers.auto.order c.turn_numbers.ensures c.self.invariant in
    let whole = refilled c.push_numbers.new.order.len turned numbers (omega (arith, c.push_numbers.new.order.ok))
    (c.turn_numbers.auto.order ∙ ap (λ (xs : List ℕ). length xs) same) in
    let vs = c.args.self.now in
    let united = (vs ++ fresh) ++ back in
    let turned_rows : in_order two turned ≡ drop (c.len-len.result - c.args.down) united
    ++ take (c.len-len.result - c.args.down) united =
    known.1 ∙ ap (λ (xs : List RowView). drop (c.len-len.result - c.args.down) (xs ++ (fresh ++ back))
    ++ take (c.len-len.result - c.args.down) (xs ++ (fresh ++ back))) c.self.view_is
    ∙ ap (λ (xs : List RowView). drop (c.len-len.result - c.args.down) xs ++ take (c.len-len.result - c.args.down) xs)
    (sym (append_assoc vs fresh back)) in
    rw whole (brings-back (λ v. resized_row v c.args.width default_cell) (blank_row c.args.width) vs
    c.args.kept.now.items sized (vs ++ fresh) united (in_order two turned) c.min-come.result c.args.down c.args.below
    c.len-len.result (omega arith) c.in_ok-resize_newest.ensures.rows c.resize_newest.ensures.count refl refl
    (len ∙ sym (ap (λ (xs : List ℕ). length xs) same) ∙ sym c.turn_numbers.auto.order ∙ sym (length-in_order two turned)
    ∙ ap (λ (xs : List RowView). length xs) turned_rows
    ∙ simp (length-append, length-take, length-drop) (omega arith)) turned_rows)
