-- The forms of a row have numbers that fit in the code's types, and a limited number of bytes.
use Rattle.std.proofs.Common.{◌≡◌, ℕ, zero, suc, ◌+◌, ◌-◌, ◌*◌, ◌<◌, ◌≤◌, ◌==◌, Bool, true, false, cond, not, ◌&&◌}
use Rattle.std.proofs.Common.{List, [], ◌∷◌, ◌++◌, length, length-append, Option, Some, None, ap, ◌∙◌, arith}
use Rattle.std.specs.Prelude.{◌^◌}
use Rattle.std.proofs.lemmas.Bool.{cond_both}
use lib.Utf8.{encode}
use Rattle.vt100_forms.specs.declared.attrs.Attrs.{Attrs}
use Rattle.vt100_forms.specs.declared.position.Pos.{Pos}
use Rattle.vt100_forms.specs.Form.{Form, Text, MoveTo, MoveRight, EraseChar, ClearRowForward, Crlf, Backspace}
use Rattle.vt100_forms.specs.Form.{moves, change, form_bytes, bytes_of}
use Rattle.vt100_forms.specs.Attrs.{HasByteColors}
use Rattle.vt100_forms.specs.Length.{HasSmallNumbers, longest}
use Rattle.vt100_forms.proofs.Lengths.{length-form_bytes, length-change}
use Rattle.vt100_cells.specs.Cell.{CellView, IsCell, has_text}
use Rattle.vt100_cells.specs.Line.{span_of}
use Rattle.vt100_cells.proofs.CellTexts.{text-short}
use Rattle.row_drawing.specs.declared.pen.Erase.{Erase}
use Rattle.row_drawing.specs.declared.pen.Pen.{Pen}
use Rattle.row_drawing.specs.Small.{AreSmall, SmallErase, IsSmallPen, IsSmallJob}
use Rattle.row_drawing.specs.Writer.{Writer, ◌>>◌, skip, goto, turn, color, print, space, back, erasing}
use Rattle.row_drawing.specs.Writer.{clearing, marking}
use Rattle.row_drawing.specs.RowWriter.{RowChange, is_same, wraps, owes_flag, owes_end, reprint, opening, to_erase}
use Rattle.row_drawing.specs.RowWriter.{is_end, flush_of, flush, finish_of, finish, arrive, mark_of, mark, draw}
use Rattle.row_drawing.specs.RowWriter.{column, columns, last_col_of, unflag, print_last, mend, closing, row_redraw}
use Rattle.row_drawing.specs.RowWriter.{row_difference}
use Rattle.row_drawing.proofs.RowForms.{moves-cases}
use Rattle.row_drawing.proofs.SmallRows.{change-small}
use Rattle.row_drawing.proofs.Texts.{all-join}
use Rattle.row_drawing.proofs.WritesLemmas.{bytes_of-joined}
use Rattle.screen_drawing.proofs.Lists.{IsMeasure, IsWritten, Writes, then}

-- ---- lists of forms

pub join-length : (fs gs : List Form) → length (bytes_of (fs ++ gs)) ≡ length (bytes_of fs) + length (bytes_of gs)
join-length fs gs = ap length (bytes_of-joined fs gs) ∙ length-append (bytes_of fs) (bytes_of gs)

-- small numbers, and at most n bytes
abbrev pub IsSmallList : ℕ → List Form → Type 0
IsSmallList n fs = AreSmall fs × (length (bytes_of fs) ≤ n)

pub small-measure : IsMeasure IsSmallList
small-measure = record {
  none = λ n. (tt, omega arith);
  join = λ fs gs m n k a b l. (
    all-join HasSmallNumbers fs gs a.0 b.0,
    omega (arith, join-length fs gs, a.1, b.1, l),
  );
}

pub form-small : (f : Form) (n : ℕ) → HasSmallNumbers f → longest f ≤ n → IsSmallList n (f ∷ [])
form-small f n h l = ((h, tt), omega (arith, length-append (form_bytes f) (bytes_of []), length-form_bytes f h))

pub moves-small : (p q : Pos) → q.row < 2 ^ 16 → q.col < 2 ^ 16 → IsSmallList 14 (moves p q)
moves-small p q hr hc =
    moves-cases (IsSmallList 14) p q (λ _. form-small Crlf 14 tt (omega arith)) (tt, omega arith)
    (form-small (MoveRight (q.col - p.col)) 14 (omega (arith, hc)) (omega arith))
    (form-small (MoveTo q.row q.col) 14 (hr, hc) (omega arith))

pub changes-small : (a b : Attrs) → HasByteColors b → IsSmallList 48 (change a b)
changes-small a b h = (change-small a b h, length-change a b h)

pub space-small : IsSmallList 1 (Text (32 ∷ []) ∷ [])
unfolding encode
space-small = ((tt, tt), omega arith)

-- ---- writers

abbrev pub Costs : Writer → ℕ → Type 0
Costs f n = Writes IsSmallList IsSmallPen f n

costs-then : {f g : Writer} {m n : ℕ} → Costs f m → Costs g n → Costs (f >> g) (m + n)
costs-then a b = then IsSmallList small-measure IsSmallPen a b (omega arith)

pub costs-more : {f : Writer} {m n : ℕ} → Costs f m → m ≤ n → Costs f n
costs-more h l p s = let a = h p s in record { forms = (a.forms.0, omega (arith, a.forms.1, l)); pen = a.pen }

costs-either : (b : Bool) {f g : Writer} {n : ℕ} → Costs f n → Costs g n → Costs (cond b f g) n
costs-either b {f = f} {g = g} {n = n} h k = cond_both b f g (λ w. Costs w n) (λ _. h) (λ _. k)

costs-here : (b : Bool) {f g : Writer} {n : ℕ} (p : Pen) → IsSmallPen p → Costs f n → Costs g n
    → IsWritten IsSmallList IsSmallPen n (cond b (f p) (g p))
costs-here b {f = f} {g = g} {n = n} p s h k =
    cond_both b (f p) (g p) (IsWritten IsSmallList IsSmallPen n) (λ _. h p s) (λ _. k p s)

pub costs-skip : {n : ℕ} → Costs skip n
unfolding skip
costs-skip p s = record { forms = (tt, omega arith); pen = s }

costs-goto : (row col : ℕ) → row < 2 ^ 16 → col < 2 ^ 16 → Costs (goto row col) 14
unfolding goto IsSmallPen
costs-goto row col hr hc p s =
    record { forms = moves-small p.pos (record { row = row; col = col }) hr hc; pen = s }

costs-turn : (row : ℕ) → Costs (turn row) 0
unfolding turn IsSmallPen
costs-turn row p s = record { forms = (tt, omega arith); pen = s }

costs-color : (a : Attrs) → HasByteColors a → Costs (color a) 48
unfolding color IsSmallPen
costs-color a h p s = record { forms = changes-small p.attrs a h; pen = (h, s.1) }

costs-print : (x : CellView) (b : Bool) → IsCell x → Costs (print x b) 21
unfolding print IsSmallPen
costs-print x b h p s = record { forms = form-small (Text x.text) 21 tt (text-short x h); pen = s }

costs-space : Costs space 1
unfolding space IsSmallPen
costs-space p s = record { forms = space-small; pen = s }

costs-back : Costs back 1
unfolding back IsSmallPen
costs-back p s = record { forms = form-small Backspace 1 tt (omega arith); pen = s }

costs-erasing : (n : ℕ) (b : Bool) → n < 2 ^ 16 → Costs (erasing n b) 8
unfolding erasing IsSmallPen SmallErase
costs-erasing n b h p s = record { forms = form-small (EraseChar n) 8 h (omega arith); pen = (s.0, tt) }

costs-clearing : Costs clearing 3
unfolding clearing IsSmallPen SmallErase
costs-clearing p s = record { forms = form-small ClearRowForward 3 tt (omega arith); pen = (s.0, tt) }

costs-marking : (n : ℕ) (a : Attrs) → n < 2 ^ 16 → HasByteColors a → Costs (marking n a) 0
unfolding marking IsSmallPen SmallErase
costs-marking n a h k p s = record { forms = (tt, omega arith); pen = (s.0, (h, k)) }

-- ---- a row

-- a row that is drawn from its first column on
pub record IsRowJob (j : RowChange) : Type 0 where
  pub start : j.start ≡ 0
  pub cells : (k : ℕ) → IsCell (j.new k)
  pub small : IsSmallJob j

module _ (j : RowChange) (h : IsRowJob j) where
  colors : (k : ℕ) → Costs (color (j.new k).attrs) 48
  colors k = costs-color _ (h.small.colors k)

  goes : (c : ℕ) → c < 2 ^ 16 → Costs (goto j.row c) 14
  goes c l = costs-goto j.row c h.small.row l

  costs-opening : Costs (opening j) 71
  unfolding opening reprint
  costs-opening p s =
      costs-here (owes_flag j p) p s
      (costs-then (costs-then (costs-turn j.row) (colors j.start)) (costs-either (has_text (j.new j.start))
      (costs-then (costs-print _ false (h.cells j.start))
      (costs-either (j.new j.start).wide (costs-then costs-back costs-back) (costs-more costs-back (omega arith))))
      (costs-more (costs-then (costs-then costs-space costs-back) (costs-erasing 1 _ (omega arith))) (omega arith))))
      costs-skip

  costs-to_erase : (e : Erase) → e.from < 2 ^ 16 → HasByteColors e.attrs → Costs (to_erase j e) 62
  unfolding to_erase
  costs-to_erase e l k p s =
      let dyes = costs-color e.attrs k in
      costs-here (wraps j 1 p && (e.from == 0)) p s
      (costs-more (costs-then (costs-then (costs-then (costs-turn j.row) costs-space) costs-back) dyes) (omega arith))
      (costs-then (goes e.from l) dyes)

  costs-flush_of : (c : ℕ) (e : Option Erase) → c < j.cols → SmallErase e → Costs (flush_of j c e) 70
  unfolding flush_of SmallErase
  costs-flush_of c None l s = costs-skip
  costs-flush_of c (Some e) l s =
      costs-either (is_end (j.new c) e.attrs)
      (costs-then (costs-to_erase e s.0 s.1) (costs-erasing (c - e.from) _ (omega (arith, l, h.small.cols))))
      costs-skip

  costs-finish_of : (e : Option Erase) → SmallErase e → Costs (finish_of j e) 65
  unfolding finish_of SmallErase
  costs-finish_of None s = costs-skip
  costs-finish_of (Some e) s = costs-then (costs-to_erase e s.0 s.1) costs-clearing

  costs-arrive : (c n : ℕ) → c < j.cols → Costs (arrive j c n) 14
  unfolding arrive
  costs-arrive c n l p s =
      costs-here (wraps j n p && (c == 0)) p s (costs-more (costs-turn j.row) (omega arith))
      (goes c (omega (arith, l, h.small.cols)))

  costs-mark_of : (c : ℕ) (e : Option Erase) → c < j.cols → Costs (mark_of j c e) 0
  unfolding mark_of
  costs-mark_of c None l = costs-marking c (j.new c).attrs (omega (arith, l, h.small.cols)) (h.small.colors c)
  costs-mark_of c (Some e) l = costs-skip

  costs-draw : (c : ℕ) → c < j.cols → Costs (draw j c) 83
  unfolding draw mark
  costs-draw c l =
      costs-either (is_same j c) costs-skip (costs-either (has_text (j.new c))
      (costs-then (costs-then (costs-arrive c (span_of (j.new c)) l) (colors c)) (costs-print _ _ (h.cells c)))
      (costs-more (λ p s. costs-mark_of c p.erase l p s) (omega arith)))

  costs-columns : (n : ℕ) → n ≤ j.cols → Costs (columns j n) (153 * n)
  unfolding columns column flush IsSmallPen
  costs-columns zero l = costs-skip
  costs-columns (suc n) l =
      let c = j.start + n in
      let here : c < j.cols = omega (arith, h.start, l) in
      costs-more (costs-then (costs-columns n (omega arith))
      (costs-either ((j.new c).continuation && not (c == j.start)) {n = 153} costs-skip
      (costs-then (λ p s. costs-flush_of c p.erase here s.1 p s) (costs-draw c here))))
      (omega arith)

  costs-redraw : (n : ℕ) → n ≤ j.cols → Costs (row_redraw j n) (71 + 153 * n + 65)
  unfolding row_redraw finish IsSmallPen
  costs-redraw n l =
      costs-then (costs-then costs-opening (costs-columns n l)) (λ p s. costs-finish_of p.erase s.1 p s)

  costs-print_last : (k : ℕ) → Costs (print_last (j.new k)) 69
  unfolding print_last
  costs-print_last k =
      costs-either (has_text (j.new k)) (costs-then (colors k) (costs-print _ false (h.cells k))) costs-skip

  costs-closing : Costs (closing j) 139
  unfolding closing mend unflag
  costs-closing p s =
      let k = last_col_of j in
      let prints = costs-print_last k in
      let erases = costs-erasing 1 true (omega arith) in
      let last : k < 2 ^ 16 = cond_both (j.new (j.cols - 1)).continuation (j.cols - 2) (j.cols - 1) (λ c. c < 2 ^ 16)
      (λ _. omega (arith, h.small.cols)) (λ _. omega (arith, h.small.cols)) in
      costs-here (owes_end j p) p s
      (costs-then (goes k last) (costs-either j.wrapped (costs-more prints (omega arith))
      (costs-then (costs-either (has_text (j.new k)) (costs-more erases (omega arith)) (costs-then (colors k) erases))
      prints)))
      costs-skip

  -- 428 bytes a column that is drawn
  pub costs-row_redraw : (n : ℕ) → 0 < n → n ≤ j.cols → Costs (row_redraw j n) (428 * n)
  costs-row_redraw n some l = costs-more (costs-redraw n l) (omega (arith, some))

  pub costs-row_difference : (n : ℕ) → 0 < n → n ≤ j.cols → Costs (row_difference j n) (428 * n)
  unfolding row_difference
  costs-row_difference n some l = costs-more (costs-then (costs-redraw n l) costs-closing) (omega (arith, some))
