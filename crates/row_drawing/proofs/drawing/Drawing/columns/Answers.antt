use Rattle.std.proofs.Common.{◌≡◌, ◌+◌, ◌≤◌, ap, arith, append-nil, subst, sym, ◌∙◌, ◌++◌, refl}
use Rattle.std.specs.Prelude.{string_bytes}
use Rattle.vt100_forms.specs.Form.{bytes_of}
use Rattle.vt100_cells.specs.Cell.{CellView}
use Rattle.row_drawing.specs.Drawing.{row_change_of, AreQuiet}
use Rattle.row_drawing.specs.RowWriter.{columns}
use Rattle.row_drawing.specs.Writes.{IsBegun, Wrote}
use Rattle.row_drawing.proofs.KeptRows.{wrote_columns_quiet}
use Rattle.row_drawing.proofs.WritesLemmas.{began_columns_all, began_columns_moved, began_none, full_within}
use Rattle.row_drawing.proofs.WritesLemmas.{refused, wrote_behind, wrote_columns_next, wrote_columns_none}
use Rattle.row_drawing.proofs.drawing.Drawing.columns.Goals as goal

pub loop-n-init : goal.loop-n-init
loop-n-init c =
    let j = row_change_of c.args.self.now in
    let p = c.args.pen.now in
    let s = string_bytes c.args.contents.now in
    let n = c.same_columns-n.result in
    let start : j.start + 0 ≡ j.start = omega arith in
    let quiet = subst (λ k. AreQuiet j p k (j.start + n)) (sym start) c.same_columns-n.ensures.quiet in
    record {
      within = c.same_columns-n.ensures.within;
      drawn = subst (λ bs. Wrote (columns j n) p s p bs) (sym (ap (λ bs. s ++ bs) c.new-run.ensures ∙ append-nil s))
          (wrote_columns_quiet j 0 n (omega arith) quiet (wrote_columns_none j p s));
      begun = began_none _ p s;
      capacity = omega arith;
      like = tt;
    }

pub returns-in_err-make_room : goal.returns-in_err-make_room
returns-in_err-make_room c =
    let j = row_change_of c.args.self.now in
    let inv = c.loop-n.invariant in
    refused _ {f = columns j c.args.count} (columns j c.args.count) c.args.pen.now _ c.from_residual.ensures.0 refl
    (record {
      begun = (began_columns_moved j _ _ _ inv.within inv.drawn inv.begun c.in_err-make_room.ensures.moved).is;
      full = full_within c.args.contents.now c.loop-n.contents c.loop-n.run _ inv.capacity
          c.in_err-make_room.ensures.full
          (began_columns_all j _ c.args.count inv.within inv.drawn).is;
    })

pub returns-in_err-make_room-2 : goal.returns-in_err-make_room-2
returns-in_err-make_room-2 c =
    let j = row_change_of c.args.self.now in
    let inv = c.loop-n.invariant in
    refused _ {f = columns j c.args.count} (columns j c.args.count) c.args.pen.now _
    c.from_residual-in_err-make_room-2.ensures.0 refl (record {
      begun = (began_columns_moved j _ _ _ inv.within inv.drawn inv.begun c.in_err-make_room-2.ensures.moved).is;
      full = full_within c.args.contents.now c.loop-n.contents c.loop-n.run _ inv.capacity
          c.in_err-make_room-2.ensures.full (began_columns_all j _ c.args.count inv.within inv.drawn).is;
    })

pub loop-n-preserved-then-begins_run : goal.loop-n-preserved-then-begins_run
loop-n-preserved-then-begins_run c =
    let j = row_change_of c.args.self.now in
    let inv = c.loop-n.invariant in
    record {
      within = c.texts-n.ensures.within.1;
      drawn = (c.texts-n.ensures.written _).goes _ _ (rw (sym c.in_ok-make_room.ensures.kept) at inv.drawn);
      begun = began_columns_moved j _ _ _ inv.within inv.drawn inv.begun c.in_ok-make_room.ensures.moved;
      capacity = omega (arith, inv.capacity, c.in_ok-make_room.ensures.capacity);
      like = ap (λ (x : CellView). x.attrs) c.cell.ensures ∙ c.texts-n.ensures.like;
    }

pub loop-n-preserved-then-quiet-n : goal.loop-n-preserved-then-quiet-n
loop-n-preserved-then-quiet-n c =
    record {
      within = c.after_quiet-quiet.ensures.within.1;
      drawn = wrote_columns_quiet (row_change_of c.args.self.now) _ _ c.after_quiet-quiet.ensures.within.0
          c.after_quiet-quiet.ensures.quiet
          c.loop-n.invariant.drawn;
      begun = c.loop-n.invariant.begun;
      capacity = c.loop-n.invariant.capacity;
      like = c.loop-n.invariant.like;
    }

pub loop-n-preserved : goal.loop-n-preserved
loop-n-preserved c =
    let j = row_change_of c.args.self.now in
    let n = c.loop-n.n in
    let inv = c.loop-n.invariant in
    let made = c.in_ok-make_room-2.ensures in
    record {
      within = omega (arith, c.loop-n-test.true);
      drawn = wrote_columns_next j n (rw (sym made.kept) at inv.drawn) (wrote_behind _ c.change.ensures);
      begun = began_columns_moved j _ _ _ inv.within inv.drawn inv.begun made.moved;
      capacity = omega (arith, inv.capacity, made.capacity);
      like = tt;
    }

pub returns-in_err-move_to : goal.returns-in_err-move_to
returns-in_err-move_to c =
    let j = row_change_of c.args.self.now in
    let inv = c.loop-n.invariant in
    refused _ {f = columns j c.args.count} (columns j c.args.count) c.args.pen.now _
    c.from_residual-in_err-move_to.ensures.0 refl (record {
      begun = subst (λ t. IsBegun (string_bytes c.args.contents.now)
          (bytes_of (columns j c.args.count c.args.pen.now).forms) t)
          (sym c.in_err-move_to.ensures.bytes) inv.begun.is;
      full = full_within c.args.contents.now c.loop-n.contents c.loop-n.run _ inv.capacity c.in_err-move_to.ensures.full
          (began_columns_all j _ c.args.count inv.within inv.drawn).is;
    })
