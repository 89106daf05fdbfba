-- A capture of some rows, and then of others.
use Rattle.std.proofs.Common.{◌≡◌, ℕ, List, [], ◌++◌, sym, ap, subst, ◌∙◌}
use Rattle.std.specs.Fmt.{WritesInCalls}
use Rattle.vt100_rows.specs.Row.{RowView}
use Rattle.vt100_rows.proofs.BasicLemmas.{writes-append, nil-left, nil-right}
use Rattle.vt100_capture.specs.Capture.{CaptureView, captured, after_rows}
use Rattle.vt100_capture.proofs.CaptureLemmas.{captured-append, after_rows-append}

module _ (s t : CaptureView) (xs ys : List RowView) {all : List RowView} (e : t ≡ after_rows s xs)
    (is : xs ++ ys ≡ all) where
  pub both-written : {W : Type 0} (gives : W → List ℕ → W → Type 0) (w u v : W)
      → WritesInCalls gives w (captured s xs) u
      → WritesInCalls gives u (captured t ys) v → WritesInCalls gives w (captured s all) v
  both-written gives w u v first second =
      subst (λ bs. WritesInCalls gives w bs v) (sym (captured-append s xs ys) ∙ ap (captured s) is)
      (writes-append gives w u v (captured s xs) (captured (after_rows s xs) ys) first
      (subst (λ z. WritesInCalls gives u (captured z ys) v) e second))

  pub both-after : {u : CaptureView} → u ≡ after_rows t ys → u ≡ after_rows s all
  both-after h = h ∙ ap (λ z. after_rows z ys) e ∙ sym (after_rows-append s xs ys) ∙ ap (after_rows s) is

  -- where nothing is to be written, the others write nothing
  pub second-none : captured s all ≡ [] → captured t ys ≡ []
  second-none h = ap (λ z. captured z ys) e
      ∙ nil-right (captured s xs) (captured (after_rows s xs) ys)
      (sym (captured-append s xs ys) ∙ ap (captured s) is ∙ h)

-- nor do the first ones
pub first-none : (s : CaptureView) (xs ys : List RowView) {all : List RowView} → xs ++ ys ≡ all
    → captured s all ≡ [] → captured s xs ≡ []
first-none s xs ys is h =
    nil-left (captured s xs) (captured (after_rows s xs) ys) (sym (captured-append s xs ys) ∙ ap (captured s) is ∙ h)
