-- What forms and lists of forms change.
use Rattle.std.proofs.Common.{◌≡◌, ℕ, ◌+◌, ◌-◌, ◌<◌, ◌≤◌, ◌==◌, Bool, true, false, cond, not, ◌&&◌, nat_lt, List, []}
use Rattle.std.proofs.Common.{◌∷◌, ◌++◌, length, min, Option, Some, None, sym, refl, ap, ◌∙◌, arith, length-append}
use Rattle.std.specs.Prelude.{encode_utf8, encode_utf8_all, decimal, codes, unwrap_or}
use Rattle.std.proofs.lemmas.Bool.{cond_both, eqb-true, ltb-true, and_parts, lt-ltb, ne_eqb}
use Rattle.std.proofs.lemmas.Bool.Decides.{nat_tests}
use Rattle.std.proofs.lemmas.Str.{length-encode, len_utf8_bounds}
use mathlib.Core.Path.{fun_ext}
use Rattle.vt100_forms.specs.declared.attrs.Attrs.{Attrs}
use Rattle.vt100_forms.specs.declared.attrs.Color.{Color}
use Rattle.vt100_forms.specs.declared.attrs.Color.TheVariants.{Default, Idx, Rgb}
use Rattle.vt100_forms.specs.declared.term.Intensity.{Intensity}
use Rattle.vt100_forms.specs.Attrs.{default_attrs, attrs_eq}
use Rattle.vt100_forms.specs.Form.{Form, Text, MoveTo, MoveRight, EraseChar}
use Rattle.vt100_forms.specs.Form.{HideCursor, Keypad, CursorKeys}
use Rattle.vt100_forms.specs.Form.{Paste, Mouse, Encoding, Style, Sgr, Change, csi, counted, mode_change, mode_set}
use Rattle.vt100_forms.specs.Form.{mode_reset, mouse_number, encoding_number, style_number, color_part, intensity_part}
use Rattle.vt100_forms.specs.Form.{flag_part, sgr_numbers, sgr_text, with_change, intensity_set, flag_set}
use Rattle.vt100_forms.specs.Form.{changed_attrs}
use Rattle.vt100_forms.proofs.AttrsLemmas.{change-leads}
use Rattle.vt100_cells.specs.Cell.{CellView}
use Rattle.vt100_cells.specs.CellEq.{attrs_eq-true}
use Rattle.vt100_cells.specs.Line.{wiped, wipe_unflags}
use Rattle.terminal_model.specs.Position.{update}
use Rattle.terminal_model.specs.Term.{Size, Shown, Saved, Term, IsTerm, IsShown, IsSaved, shown_of, saved_of}
use Rattle.terminal_model.specs.Term.{term_of, none_saved}
use Rattle.terminal_model.specs.Apply.{with_line, erase, down, switched, apply, run}
use Rattle.terminal_model.specs.Laws.{EachEmptyFormIsIdle, EachListJoins, EachPathJoins, EachMoveLeads}
use Rattle.terminal_model.specs.Laws.{EachChangeIsRead}
use Rattle.terminal_model.proofs.Positions.{update-kept}
use Rattle.terminal_model.proofs.TermLemmas.{IsTerm-elsewhere, IsTerm-run}

-- ---- lists of forms

pub run-joined : EachListJoins
run-joined z [] gs t = refl
run-joined z (f ∷ fs) gs t = run-joined z fs gs (apply z f t)

IsTerm-of : (z : Size) (a : Shown) (v : Saved) → IsShown z a → IsSaved z v → IsTerm z (term_of a v)
IsTerm-of z a v h s =
    IsTerm-elsewhere z (term_of a none_saved) (term_of a v) h h.in_rows h.in_cols s.in_rows s.in_cols

pub IsShown-of : (z : Size) (t : Term) → IsTerm z t → IsShown z (shown_of t)
IsShown-of z t h =
    IsTerm-elsewhere z t (term_of (shown_of t) none_saved) h h.in_rows h.in_cols h.some_row (omega arith)

pub paths-join : EachPathJoins
paths-join z fs gs a b c h f g v s =
    let u = run z fs (term_of a v) in
    let k = IsTerm-run z fs (term_of a v) (IsTerm-of z a v h s) in
    ap shown_of (run-joined z fs gs (term_of a v))
    ∙ ap (λ (x : Shown). shown_of (run z gs (term_of x (saved_of u)))) (f v s)
    ∙ g (saved_of u) (record { in_rows = k.saved_in_rows; in_cols = k.saved_in_cols })

-- ---- forms of no bytes

no_list : (x : ℕ) (xs : List ℕ) → x ∷ xs ≡ [] → ⊥
no_list x xs e = cc

both_none : (xs ys : List ℕ) → xs ++ ys ≡ [] → (xs ≡ []) × (ys ≡ [])
both_none [] ys e = (refl, e)
both_none (x ∷ xs) ys e = absurd (no_list x (xs ++ ys) e)

pub with_line-same : (t : Term) (g : ℕ → CellView) (stays : Bool) → g ≡ t.cell t.row → stays ≡ true
    → with_line t g stays ≡ t
unfolding with_line
with_line-same t g stays e h = λ i. record t {
  cell = update-kept t.cell t.row g e i;
  wrapped = cond (h i) t.wrapped (update t.wrapped t.row false);
}

wiped-none : (f : ℕ → CellView) (s e : ℕ) (a : Attrs) (k : ℕ) → e ≤ s → wiped f s e a k ≡ f k
wiped-none f s e a k h = grind (arith, nat_tests)

wiped-flag : (n : ℕ) (f : ℕ → CellView) (s e : ℕ) → e ≤ s → not (wipe_unflags n f s e) ≡ true
wiped-flag n f s e h = grind (arith, nat_tests)

pub erase-none : (z : Size) (e : ℕ) (t : Term) → e ≤ t.col → erase z e t ≡ t
unfolding erase
erase-none z e t h =
    with_line-same t (wiped (t.cell t.row) t.col e t.attrs) (not (wipe_unflags z.cols (t.cell t.row) t.col e))
    (fun_ext (λ k. wiped-none (t.cell t.row) t.col e t.attrs k h)) (wiped-flag z.cols (t.cell t.row) t.col e h)

counted-none : (n : ℕ) (final : List ℕ) → counted n final ≡ [] → n ≡ 0
counted-none n final e =
    cond_both (n == 0) [] (cond (n == 1) (csi final) (csi (decimal n ++ final))) (λ bs. bs ≡ []
    → n ≡ 0) (λ h _. eqb-true n 0 h)
    (λ _. cond_both (n == 1) (csi final) (csi (decimal n ++ final)) (λ bs. bs ≡ []
    → n ≡ 0) (λ _ q. absurd (no_list 27 _ q)) (λ _ q. absurd (no_list 27 _ q))) e

change-none : (to from : ℕ) → mode_change to from ≡ [] → (to == from) ≡ true
change-none to from e =
    cond_both (to == from) [] (cond (to == 0) (mode_reset from) (mode_set to)) (λ bs. bs ≡ []
    → (to == from) ≡ true) (λ h _. h)
    (λ _. cond_both (to == 0) (mode_reset from) (mode_set to) (λ bs. bs ≡ []
    → (to == from) ≡ true) (λ _ q. absurd (no_list 27 _ q)) (λ _ q. absurd (no_list 27 _ q))) e

switched-none : {A : Type 0} (number : A → ℕ) (to from now : A) → (number to == number from) ≡ true
    → switched number to from now ≡ now
switched-none number to from now h = rw h refl

sgr-none : (ns : List ℕ) → sgr_text ns ≡ [] → ns ≡ []
sgr-none [] e = refl
sgr-none (n ∷ ns) e = absurd (no_list 27 _ e)

color-none : (base : ℕ) (c : Option Color) → color_part base c ≡ [] → c ≡ None
color-none base None e = refl
color-none base (Some Default) e = absurd (no_list _ _ e)
color-none base (Some (Idx i)) e =
    cond_both (nat_lt i 8) ((base + i) ∷ []) (cond (nat_lt i 16) ((base + 52 + i) ∷ []) ((base + 8) ∷ 5 ∷ i ∷ []))
    (λ ns. ns ≡ [] → Some (Idx i) ≡ None) (λ _ q. absurd (no_list _ _ q))
    (λ _. cond_both (nat_lt i 16) ((base + 52 + i) ∷ []) ((base + 8) ∷ 5 ∷ i ∷ []) (λ ns. ns ≡ []
    → Some (Idx i) ≡ None) (λ _ q. absurd (no_list _ _ q)) (λ _ q. absurd (no_list _ _ q))) e
color-none base (Some (Rgb r g b)) e = absurd (no_list _ _ e)

intensity-none : (o : Option Intensity) → intensity_part o ≡ [] → o ≡ None
intensity-none None e = refl
intensity-none (Some i) e = absurd (no_list _ _ e)

flag-none : (on off : ℕ) (o : Option Bool) → flag_part on off o ≡ [] → o ≡ None
flag-none on off None e = refl
flag-none on off (Some true) e = absurd (no_list _ _ e)
flag-none on off (Some false) e = absurd (no_list _ _ e)

with_change-none : (c : Change) (a : Attrs) → sgr_numbers c ≡ [] → with_change c a ≡ a
with_change-none c a e =
    let fg = color_part 30 c.fgcolor in
    let bg = color_part 40 c.bgcolor in
    let p6 = both_none (fg ++ bg ++ intensity_part c.intensity ++ flag_part 3 23 c.italic
    ++ flag_part 4 24 c.underline) (flag_part 7 27 c.inverse) e in
    let p5 = both_none (fg ++ bg ++ intensity_part c.intensity
    ++ flag_part 3 23 c.italic) (flag_part 4 24 c.underline) p6.0 in
    let p4 = both_none (fg ++ bg ++ intensity_part c.intensity) (flag_part 3 23 c.italic) p5.0 in
    let p3 = both_none (fg ++ bg) (intensity_part c.intensity) p4.0 in
    let p2 = both_none fg bg p3.0 in
    let e1 = color-none 30 c.fgcolor p2.0 in
    let e2 = color-none 40 c.bgcolor p2.1 in
    let e3 = intensity-none c.intensity p3.1 in
    let e4 = flag-none 3 23 c.italic p4.1 in
    let e5 = flag-none 4 24 c.underline p5.1 in
    let e6 = flag-none 7 27 c.inverse p6.1 in
    λ i. record {
      fgcolor = unwrap_or (e1 i) a.fgcolor;
      bgcolor = unwrap_or (e2 i) a.bgcolor;
      mode = flag_set 16 (e6 i) (flag_set 8 (e5 i) (flag_set 4 (e4 i) (intensity_set (e3 i) a.mode)));
    }

pub form-idle : EachEmptyFormIsIdle
unfolding apply
form-idle z (Text []) t e = refl
form-idle z (Text (c ∷ cs)) t e =
    let n : length (encode_utf8 c ++ encode_utf8_all cs) ≡ 0 = ap length e in
    absurd (omega (
      arith,
      n,
      length-append (encode_utf8 c) (encode_utf8_all cs),
      length-encode c,
      (len_utf8_bounds c).0,
    ))
form-idle z (MoveTo r c) t e =
    cond_both ((r == 0) && (c == 0)) (csi (codes "H")) (csi (decimal (r + 1) ++ 59 ∷ (decimal (c + 1) ++ codes "H")))
    (λ bs. bs ≡ [] → apply z (MoveTo r c) t ≡ t)
    (λ _ q. absurd (no_list 27 _ q)) (λ _ q. absurd (no_list 27 _ q)) e
form-idle z (MoveRight n) t e = let none = counted-none n (codes "C") e in rw none refl
form-idle z (EraseChar n) t e = let none = counted-none n (codes "X") e
    in erase-none z (min (t.col + n) z.cols) t (omega arith)
form-idle z (HideCursor true) t e = absurd (no_list _ _ e)
form-idle z (HideCursor false) t e = absurd (no_list _ _ e)
form-idle z (Keypad true) t e = absurd (no_list _ _ e)
form-idle z (Keypad false) t e = absurd (no_list _ _ e)
form-idle z (CursorKeys true) t e = absurd (no_list _ _ e)
form-idle z (CursorKeys false) t e = absurd (no_list _ _ e)
form-idle z (Paste true) t e = absurd (no_list _ _ e)
form-idle z (Paste false) t e = absurd (no_list _ _ e)
form-idle z (Mouse to from) t e =
    ap (λ m. record t { modes = record (t.modes) { mouse = m } })
    (switched-none mouse_number to from t.modes.mouse (change-none (mouse_number to) (mouse_number from) e))
form-idle z (Encoding to from) t e =
    ap (λ m. record t { modes = record (t.modes) { encoding = m } })
    (switched-none encoding_number to from t.modes.encoding
    (change-none (encoding_number to) (encoding_number from) e))
form-idle z (Style to from) t e =
    cond_both (style_number to == style_number from) [] (csi (decimal (style_number to) ++ codes " q")) (λ bs. bs ≡ []
    → apply z (Style to from) t ≡ t)
    (λ h _. ap (λ b. record t { style = cond b t.style to }) h) (λ _ q. absurd (no_list 27 _ q)) e
form-idle z (Sgr c) t e = ap (λ a. record t { attrs = a }) (with_change-none c t.attrs (sgr-none (sgr_numbers c) e))
form-idle z f t e = absurd (no_list _ _ e)

-- ---- moves

at_place : (t : Term) (r s c d : ℕ) → r ≡ s → c ≡ d → record t { row = r; col = c } ≡ record t { row = s; col = d }
at_place t r s c d e f = λ i. record t { row = e i; col = f i }

pub down-room : (z : Size) (t : Term) → t.row + 1 < z.rows → down z t ≡ record t { row = t.row + 1 }
unfolding down
down-room z t h = rw (lt-ltb (t.row + 1) z.rows h) refl

pub moves-lead : EachMoveLeads
unfolding apply
moves-lead z t p q er ec hr hc =
    let P : List Form → Type 0 = λ fs. run z fs t ≡ record t { row = q.row; col = q.col } in
    cond_both ((q.row == p.row + 1) && (q.col == 0)) _ _ P
    (λ h. let parts = and_parts (q.row == p.row + 1) (q.col == 0) h in
    let row = eqb-true q.row (p.row + 1) parts.0 in
    let col = eqb-true q.col 0 parts.1 in
    down-room z (record t { col = 0 }) (omega arith) ∙ at_place t (t.row + 1) q.row 0 q.col (omega arith) (sym col))
    (λ _. cond_both ((p.row == q.row) && (p.col == q.col)) _ _ P
    (λ h. let parts = and_parts (p.row == q.row) (p.col == q.col) h in
    at_place t t.row q.row t.col q.col (er ∙ eqb-true p.row q.row parts.0) (ec ∙ eqb-true p.col q.col parts.1))
    (λ _. cond_both ((p.row == q.row) && nat_lt p.col q.col) _ _ P
    (λ h. let parts = and_parts (p.row == q.row) (nat_lt p.col q.col) h in
    let row = eqb-true p.row q.row parts.0 in
    let col = ltb-true p.col q.col parts.1 in
    ap (λ b. cond b t (record t { col = min (t.col + (q.col - p.col)) (z.cols - 1) }))
    (ne_eqb (q.col - p.col) 0 (λ e. absurd (omega arith)))
    ∙ at_place t t.row q.row (min (t.col + (q.col - p.col)) (z.cols - 1)) q.col (er ∙ row) (omega arith))
    (λ _. at_place t (min q.row (z.rows - 1)) q.row (min q.col (z.cols - 1)) q.col (omega arith) (omega arith))))

-- ---- attributes

pub change-read : EachChangeIsRead
unfolding apply
change-read z t old new e ho hn =
    let P : List Form → Type 0 = λ fs. run z fs t ≡ record t { attrs = new } in
    cond_both (attrs_eq new old) _ _ P
    (λ h. ap (λ a. record t { attrs = a }) (e ∙ sym (attrs_eq-true new old h)))
    (λ _. cond_both (attrs_eq new default_attrs) _ _ P
    (λ h. ap (λ a. record t { attrs = a }) (sym (attrs_eq-true new default_attrs h)))
    (λ _. ap (λ a. record t { attrs = with_change (changed_attrs old new) a }) e
    ∙ ap (λ a. record t { attrs = a }) (change-leads old new ho hn)))
