-- Characters of one column each, or of two each, as characters that are shown one after another.
use Rattle.std.proofs.Common.{◌≡◌, ℕ, zero, ◌+◌, ◌*◌, ◌<◌, ◌≤◌, List, [], ◌∷◌, ◌++◌, sym, refl, ap, inl}
use Rattle.std.proofs.Common.{◌∙◌, arith, length, length-drop, set, take, drop, map, subst, append-nil}
use Rattle.std.specs.Prelude.{All, Some}
use Rattle.std.specs.Str.{IsUtf8, chars}
use Rattle.std.specs.Char.{IsScalar, encode_utf8}
use Rattle.std.proofs.lemmas.List.{get_or-set_same, set-get_or, set-set, map-append, take-append-drop, nil_from_length}
use Rattle.std.proofs.lemmas.List.{take_all}
use Rattle.std.proofs.lemmas.List.Elements.{All-drop, All-map}
use Rattle.std.proofs.lemmas.Str.{chars_past_char, chars-nil}
use Rattle.printable.specs.Printable.{IsPrintable}
use Rattle.vt100_cells.specs.Cell.{cell_of, drawn_columns}
use Rattle.vt100_cells.specs.Ascii.{printable_takes}
use Rattle.vt100_cells.specs.Runs.{IsShown}
use Rattle.vt100_cells.proofs.CellLemmas.{IsCell-of}
use Rattle.vt100_cells.proofs.GlyphLemmas.{OneOrTwo, some-column, first-place, more-columns}
use Rattle.vt100_cells.proofs.WidthLemmas.{drawn-is}
use Rattle.vt100_rows.specs.Row.{RowView, blank_row, placed, placed_each}
use Rattle.printable.proofs.PrintableLemmas.{printable-chars}
use Rattle.vte_types.specs.Call.{Call, Calls, input}
use Rattle.vte_types.proofs.CallLemmas.{Calls-append}
use Rattle.terminal_model.specs.Apply.{made_to_fit}
use Rattle.termview.specs.Step.{view_step, printed}
use Rattle.termview.specs.Picture.{PictureView, IsPicture, Becomes, Does, ShowsPrefix, term_of_picture}
use Rattle.termview.proofs.RowTerms.{cursor_row, here, printed-is, span_of-cell}
use Rattle.termview.proofs.KeptPictures.{IsPicture-put, put_at}
use Rattle.termview.proofs.PictureSteps.{prints, read, room-there}

-- ---- a run in one row

module _ {w : ℕ} (o : OneOrTwo w) where
  -- a character of w columns
  abbrev pub IsOne : ℕ → Type 0
  IsOne c = IsScalar c × (drawn_columns c ≡ Some w)

  -- the characters at the cursor, and the cursor to the right of them
  abbrev pub run_at : PictureView → List ℕ → PictureView
  run_at p xs = record p {
    rows = set p.rows p.row (placed_each w (cursor_row p) p.col xs p.attrs);
    col = p.col + w * length xs;
  }

  run_at-none : (p : PictureView) → p ≡ run_at p []
  run_at-none p =
      let r = sym (set-get_or p.rows p.row (blank_row 0)) in
      let count : p.col ≡ p.col + w * 0 = omega (arith, first-place w o) in
      λ i. record p { rows = r i; col = count i }

  run_at-more : (p : PictureView) (x : ℕ) (xs : List ℕ) → p.row < length p.rows
      → run_at (put_at p (cell_of x p.attrs) w) xs ≡ run_at p (x ∷ xs)
  run_at-more p x xs h =
      let v = placed (cursor_row p) p.col (cell_of x p.attrs) p.attrs in
      let r = ap (λ (u : RowView). set (set p.rows p.row v) p.row (placed_each w u (p.col + w) xs p.attrs))
      (get_or-set_same p.rows p.row v (blank_row 0) h)
      ∙ set-set p.rows p.row v (placed_each w v (p.col + w) xs p.attrs) in
      let count : p.col + w + w * length xs ≡ p.col + w * length (x ∷ xs) = omega (arith, more-columns w x xs o) in
      λ i. record p { rows = r i; col = count i }

  -- the first of them, from a picture p, where the cursor's row of q has room for it
  shows-first : (p q : PictureView) (x : ℕ) → IsPicture q → IsOne x → IsShown x → w ≤ p.size.cols
      → Becomes p q (made_to_fit p.size w (term_of_picture p)) → q.col + w ≤ q.size.cols
      → Does p (input x) (put_at q (cell_of x q.attrs) w)
  unfolding view_step
  shows-first p q x j one shown enough room fits =
      let r = put_at q (cell_of x q.attrs) w in
      let some = some-column w o in
      read p r x shown.1
      (prints p q r x w one.1 some enough room
      (record {
        size = refl;
        shows = printed-is q (cell_of x q.attrs) w j (span_of-cell x w q.attrs (drawn-is x w one.1).1 some) fits;
      }))

  pub IsPicture-first : (p : PictureView) (x : ℕ) → IsPicture p → IsOne x → p.col + w ≤ p.size.cols
      → IsPicture (put_at p (cell_of x p.attrs) w)
  IsPicture-first p x i one fits =
      let d = drawn-is x w one.1 in
      let some = some-column w o in
      IsPicture-put p (cell_of x p.attrs) w i (IsCell-of x p.attrs one.0 d.0 (omega (arith, d.1, some))) refl
      (span_of-cell x w p.attrs d.1 some) fits

  pub IsPicture-run : (xs : List ℕ) (p : PictureView) → IsPicture p → All IsOne xs
      → p.col + w * length xs ≤ p.size.cols → IsPicture (run_at p xs)
  IsPicture-run [] p i ones fits = subst IsPicture (run_at-none p) i
  IsPicture-run (x ∷ xs) p i ones fits =
      let more = more-columns w x xs o in
      subst IsPicture (run_at-more p x xs (here p i))
      (IsPicture-run xs (put_at p (cell_of x p.attrs) w)
      (IsPicture-first p x i (ones zero 0 (omega arith)) (omega (arith, more, fits)))
      (All-drop IsOne 1 (x ∷ xs) ones) (omega (arith, more, fits)))

  shows-here : (xs : List ℕ) (p : PictureView) → IsPicture p → All IsOne xs → All IsShown xs → w ≤ p.size.cols
      → p.col + w * length xs ≤ p.size.cols → Calls Does p (map input xs) (run_at p xs)
  shows-here [] p i ones shown enough fits = sym (run_at-none p)
  shows-here (x ∷ xs) p i ones shown enough fits =
      let first = ones zero 0 (omega arith) in
      let more = more-columns w x xs o in
      let q = put_at p (cell_of x p.attrs) w in
      let within : p.col + w ≤ p.size.cols = omega (arith, more, fits) in (
        q,
        shows-first p p x i first (shown zero 0 (omega arith)) enough (room-there p w within) within,
        subst (Calls Does q (map input xs)) (run_at-more p x xs (here p i))
            (shows-here xs q (IsPicture-first p x i first within) (All-drop IsOne 1 (x ∷ xs) ones)
            (All-drop IsShown 1 (x ∷ xs) shown) enough (omega (arith, more, fits))),
      )

  -- those that go into a row, where q is the picture p with room made for the first of them
  pub shows-row : (xs : List ℕ) (p q : PictureView) → IsPicture q → 0 < length xs → All IsOne xs → All IsShown xs
      → w ≤ p.size.cols → Becomes p q (made_to_fit p.size w (term_of_picture p)) → q.col + w * length xs ≤ q.size.cols
      → Calls Does p (map input xs) (run_at q xs)
  shows-row [] p q j some ones shown enough room fits = absurd (omega arith)
  shows-row (x ∷ xs) p q j some ones shown enough room fits =
      let first = ones zero 0 (omega arith) in
      let more = more-columns w x xs o in
      let r = put_at q (cell_of x q.attrs) w in
      let within : q.col + w ≤ q.size.cols = omega (arith, more, fits) in
      let wide : w ≤ q.size.cols = omega (arith, enough, ap (λ z. z.cols) room.size) in (
        r,
        shows-first p q x j first (shown zero 0 (omega arith)) enough room within,
        subst (Calls Does r (map input xs)) (run_at-more q x xs (here q j))
            (shows-here xs r (IsPicture-first q x j first within) (All-drop IsOne 1 (x ∷ xs) ones)
            (All-drop IsShown 1 (x ∷ xs) shown) wide (omega (arith, more, fits))),
      )

-- ---- one run after another

runs-on : (p q r : PictureView) (xs : List ℕ) (n : ℕ) → Calls Does p (map input (take n xs)) q
    → Calls Does q (map input (drop n xs)) r → Calls Does p (map input xs) r
runs-on p q r xs n first more =
    subst (λ (cs : List Call). Calls Does p cs r)
    (sym (map-append input (take n xs) (drop n xs)) ∙ ap (map input) (take-append-drop n xs))
    (Calls-append Does p q r (map input (take n xs)) (map input (drop n xs)) first more)

-- a picture q on the way from p: where the characters that are left lead, all lead from p
pub record IsOnTheWay (text : List ℕ) (p : PictureView) (rest : List ℕ) (q : PictureView) : Type 0 where
  pub leads : (r : PictureView) → Calls Does q (map input rest) r → Calls Does p (map input text) r

pub on-the-way-next : {text : List ℕ} {p : PictureView} {rest : List ℕ} {q r : PictureView} {left : List ℕ} (n : ℕ)
    → IsOnTheWay text p rest q → Calls Does q (map input (take n rest)) r → left ≡ drop n rest
    → IsOnTheWay text p left r
on-the-way-next {text} {p} {rest} {q} {r} {left} n way first e = record {
  leads = rw e (λ o more. way.leads o (runs-on q r o rest n first more));
}

pub on-the-way-end : {text : List ℕ} {p : PictureView} {rest : List ℕ} {q : PictureView} → IsOnTheWay text p rest q
    → length rest ≡ 0 → Calls Does p (map input text) q
on-the-way-end {rest = rest} {q} way none =
    way.leads q (subst (λ (xs : List ℕ). Calls Does q (map input xs) q) (sym (nil_from_length rest none)) refl)

-- ---- printable ASCII

pub one_column : OneOrTwo 1
one_column = inl refl

pub printable-shown : (c : ℕ) → IsPrintable c → IsShown c
printable-shown c p = (inl (omega (arith, p.1)), λ e. absurd (omega (arith, e, p.1)))

pub all-drawn : (xs : List ℕ) → All IsPrintable xs → All (printable_takes 1) xs
all-drawn xs p k d l = (refl, p k d l)

pub all-shown : (xs : List ℕ) → All IsPrintable xs → All IsShown (map (λ c. c) xs)
all-shown xs p = All-map IsShown (λ c. c) xs (λ k d l. printable-shown _ (p k d l))

-- ---- the start of a text, and what is left of it

pub prefix-run : (text : List ℕ) (n : ℕ) (p q : PictureView) → All IsPrintable (take n text)
    → Calls Does p (map input (take n text)) q → ShowsPrefix text (drop n text) p q
prefix-run text n p q s shown = (take n text, printable-chars text n s, shown)

-- the characters of printable ASCII are its bytes
pub chars-run : (text : List ℕ) → All IsPrintable text → chars text ≡ text
chars-run text s =
    let n = length text in
    let all : take n text ≡ text = take_all n text (omega arith) in
    let left : length (drop n text) ≡ 0 = length-drop n text ∙ (omega arith) in
    printable-chars text n (subst (λ (xs : List ℕ). All IsPrintable xs) (sym all) s)
    ∙ ap (λ xs. xs ++ chars (drop n text)) all
    ∙ ap (λ xs. text ++ xs) (ap chars (nil_from_length (drop n text) left) ∙ chars-nil)
    ∙ append-nil text

pub prefix-char : (text left : List ℕ) (c : ℕ) (p q : PictureView) → IsUtf8 text → text ≡ encode_utf8 c ++ left
    → Becomes p q (printed p.size c (term_of_picture p)) → ShowsPrefix text left p q
unfolding view_step
prefix-char text left c p q utf8 e shown = (c ∷ [], chars_past_char text left c utf8 e, (q, shown, refl))

pub prefix-then : (text left : List ℕ) (p q r : PictureView) → ShowsPrefix text left p q
    → Calls Does q (map input (chars left)) r → Calls Does p (map input (chars text)) r
prefix-then text left p q r prefix more =
    subst (λ (cs : List Call). Calls Does p cs r)
    (sym (map-append input prefix.0 (chars left)) ∙ ap (map input) (sym prefix.1))
    (Calls-append Does p q r (map input prefix.0) (map input (chars left)) prefix.2 more)

-- if nothing is left
pub prefix-end : (left : List ℕ) (p : PictureView) → length left ≡ 0 → Calls Does p (map input (chars left)) p
prefix-end left p e =
    subst (λ (xs : List ℕ). Calls Does p (map input xs) p) (sym (ap chars (nil_from_length left e) ∙ chars-nil)) refl
