-- What one row adds to a capture, and what several rows add.
use Rattle.std.proofs.Common.{◌≡◌, ℕ, List, [], ◌∷◌, ◌++◌, true, false, cond, refl, sym, ap, subst, ◌∙◌, arith}
use Rattle.std.proofs.Common.{append_assoc, append-nil}
use Rattle.std.specs.Prelude.{encode_utf8}
use Rattle.std.specs.Fmt.{WritesInCalls}
use Rattle.std.proofs.lemmas.Str.{encode_ascii}
use Rattle.vt100_forms.specs.declared.attrs.Attrs.{Attrs}
use Rattle.vt100_rows.specs.Row.{RowView}
use Rattle.vt100_rows.specs.Basic.{basic_text}
use Rattle.vt100_rows.proofs.BasicLemmas.{writes-one, writes-append, writes-nothing, nil-left, nil-right}
use Rattle.vt100_capture.specs.Capture.{CaptureView, captured_row, after_row, captured, after_rows}

module _ {W : Type 0} (gives : W → List ℕ → W → Type 0) (s : CaptureView) (v : RowView) (a : Attrs) (w u x : W)
    (own : a ≡ s.attrs) (row : WritesInCalls gives u (basic_text v a) x) where
  text : WritesInCalls gives u (basic_text v s.attrs) x
  text = subst (λ y. WritesInCalls gives u (basic_text v y) x) own row

  pub captured-newline : s.newline_pending ≡ true → gives w (encode_utf8 10) u
      → WritesInCalls gives w (captured_row s v) x
  captured-newline e g =
      subst (λ (bs : List ℕ). WritesInCalls gives w (bs ++ basic_text v s.attrs) x)
      (encode_ascii 10 (omega arith) ∙ ap (λ b. cond b (10 ∷ []) []) (sym e))
      (writes-append gives w u x (encode_utf8 10) (basic_text v s.attrs) (writes-one gives w u (encode_utf8 10) g) text)

  pub captured-plain : s.newline_pending ≡ false → u ≡ w → WritesInCalls gives w (captured_row s v) x
  captured-plain e eu =
      subst (λ (bs : List ℕ). WritesInCalls gives w (bs ++ basic_text v s.attrs) x)
      (ap (λ b. cond b (10 ∷ []) []) (sym e))
      (subst (λ y. WritesInCalls gives y (basic_text v s.attrs) x) eu text)

-- ---- several rows

-- some rows of a capture are written, and `left` are the others
pub record IsCaptured {W : Type 0} (gives : W → List ℕ → W → Type 0) (s : CaptureView) (rows : List RowView) (w : W)
    (left : List RowView) (t : CaptureView) (v : W) : Type 0 where
  pub text : List ℕ
  pub written : WritesInCalls gives w text v
  pub whole : captured s rows ≡ text ++ captured t left
  pub ends : after_rows s rows ≡ after_rows t left

module _ {W : Type 0} (gives : W → List ℕ → W → Type 0) (s : CaptureView) (rows : List RowView) (w : W) where
  pub IsCaptured-start : (left : List RowView) → left ≡ rows → IsCaptured gives s rows w left s w
  IsCaptured-start left e = record {
    text = [];
    written = writes-nothing gives w w refl;
    whole = ap (captured s) (sym e);
    ends = ap (after_rows s) (sym e);
  }

  pub IsCaptured-next : (from left : List RowView) (x : RowView) (t u : CaptureView) (v y : W) → from ≡ x ∷ left
      → IsCaptured gives s rows w from t v → WritesInCalls gives v (captured_row t x) y → u ≡ after_row t x
      → IsCaptured gives s rows w left u y
  IsCaptured-next from left x t u v y e h g eu = record {
    text = h.text ++ captured_row t x;
    written = writes-append gives w v y h.text (captured_row t x) h.written g;
    whole = h.whole ∙ ap (λ xs. h.text ++ captured t xs) e
        ∙ sym (append_assoc h.text (captured_row t x) (captured (after_row t x) left))
        ∙ ap (λ z. (h.text ++ captured_row t x) ++ captured z left) (sym eu);
    ends = h.ends ∙ ap (after_rows t) e ∙ ap (λ z. after_rows z left) (sym eu);
  }

  pub IsCaptured-end : (left : List RowView) (t : CaptureView) (v : W) → left ≡ [] → IsCaptured gives s rows w left t v
      → WritesInCalls gives w (captured s rows) v × (t ≡ after_rows s rows)
  IsCaptured-end left t v e h = (
    subst (λ bs. WritesInCalls gives w bs v) (sym (h.whole ∙ ap (λ xs. h.text ++ captured t xs) e
        ∙ append-nil h.text)) h.written,
    sym (h.ends ∙ ap (after_rows t) e),
  )

-- some rows, and then others
pub captured-append : (s : CaptureView) (xs ys : List RowView)
    → captured s (xs ++ ys) ≡ captured s xs ++ captured (after_rows s xs) ys
captured-append s [] ys = refl
captured-append s (x ∷ xs) ys = ap (λ bs. captured_row s x ++ bs) (captured-append (after_row s x) xs ys)
    ∙ sym (append_assoc (captured_row s x) (captured (after_row s x) xs) (captured (after_rows s (x ∷ xs)) ys))

pub after_rows-append : (s : CaptureView) (xs ys : List RowView)
    → after_rows s (xs ++ ys) ≡ after_rows (after_rows s xs) ys
after_rows-append s [] ys = refl
after_rows-append s (x ∷ xs) ys = after_rows-append (after_row s x) xs ys

-- ---- where nothing is to be written

-- the first of the remaining rows writes nothing
pub left-none : {W : Type 0} (gives : W → List ℕ → W → Type 0) (s : CaptureView) (rows : List RowView) (w : W)
    (from left : List RowView) (x : RowView) (t : CaptureView) (v : W) → from ≡ x ∷ left
    → IsCaptured gives s rows w from t v → captured s rows ≡ [] → captured_row t x ≡ []
left-none gives s rows w from left x t v e h none =
    nil-left (captured_row t x) (captured (after_row t x) left)
    (nil-right h.text (captured t (x ∷ left)) (ap (λ xs. h.text ++ captured t xs) (sym e) ∙ sym h.whole ∙ none))
