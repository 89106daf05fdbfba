-- The texts of a screen, row by row.
use Rattle.std.proofs.Common.{◌≡◌, ◌+◌, ◌-◌, ◌++◌, ℕ, suc, List, true, sym, ap, ◌∙◌, subst, add-one, append_assoc}
use Rattle.screen_model.specs.State.{State}
use Rattle.screen_model.specs.Step.{kept_shown}
use Rattle.picture_page.specs.Page.{Adds, escaped}
use Rattle.picture_page.specs.Seen.{Draws}
use Rattle.picture_page.proofs.PageLemmas.{adds_both, escaped-append}
use Rattle.picture_page.proofs.SeenLemmas.{draws_both}
use Rattle.row_pictures.specs.declared.look.Look.{Look}
use Rattle.recorded_screen.specs.Picture.{font_line, font_lines, line_text, lines_text, scrolled, written_line}
use Rattle.recorded_screen.specs.Picture.{written_lines}

-- one row more: the screen is scrolled on
pub scrolled_more : (s : State) (count k n : ℕ) (now next : State) → count ≡ k → now ≡ scrolled s k n
    → next ≡ kept_shown (count - n) now → next ≡ scrolled s k (suc n)
scrolled_more s count k n now next count_is first second =
    second ∙ ap (λ m. kept_shown (m - n) now) count_is ∙ ap (kept_shown (k - n)) first

-- a row of a screen, which is that of the picture
line_is : (a b : List ℕ) (text : State → ℕ → List ℕ) (s t : State) (k n r : ℕ) → t ≡ scrolled s k (suc n) → r ≡ n - k
    → Adds a b (text t r) → Adds a b (text (scrolled s k (suc n)) (n - k))
line_is a b text s t k n r screen row adds =
    subst (λ m. Adds a b (text (scrolled s k (suc n)) m)) row (subst (λ (v : State). Adds a b (text v r)) screen adds)

seen_is : (a b : List ℕ) (text : State → ℕ → List ℕ) (s t : State) (k n r : ℕ) → t ≡ scrolled s k (suc n) → r ≡ n - k
    → Draws a b true true (escaped (text t r))
    → Draws a b true true (escaped (text (scrolled s k (suc n)) (n - k)))
seen_is a b text s t k n r screen row draws =
    subst (λ m. Draws a b true true (escaped (text (scrolled s k (suc n)) m))) row
    (subst (λ (v : State). Draws a b true true (escaped (text v r))) screen draws)

pub line_drawn : (a b c : List ℕ) (s t : State) (k n r : ℕ) → t ≡ scrolled s k (suc n) → r ≡ n - k
    → Adds a b (lines_text s k n) → Adds b c (line_text t.shown r) → Adds a c (lines_text s k (n + 1))
line_drawn a b c s t k n r screen row first second =
    subst (λ m. Adds a c (lines_text s k m)) (sym (add-one n))
    (adds_both a b c (lines_text s k n) (line_text (scrolled s k (suc n)).shown (n - k)) first
    (line_is b c (λ v i. line_text v.shown i) s t k n r screen row second))

pub written_line_drawn : (a b c : List ℕ) (look : Look) (s t : State) (k n r : ℕ) → t ≡ scrolled s k (suc n)
    → r ≡ n - k → Adds a b (written_lines look s k n) → Adds b c (written_line look t r)
    → Adds a c (written_lines look s k (n + 1))
written_line_drawn a b c look s t k n r screen row first second =
    subst (λ m. Adds a c (written_lines look s k m)) (sym (add-one n))
    (adds_both a b c (written_lines look s k n) (written_line look (scrolled s k (suc n)) (n - k)) first
    (line_is b c (written_line look) s t k n r screen row second))

-- one text more after those that are seen
text_seen : (a b c front s t : List ℕ) → Draws a b true true (front ++ escaped s) → Draws b c true true (escaped t)
    → Draws a c true true (front ++ escaped (s ++ t))
text_seen a b c front s t first second =
    subst (λ xs. Draws a c true true xs)
    (append_assoc front (escaped s) (escaped t) ∙ ap (λ xs. front ++ xs) (sym (escaped-append s t)))
    (draws_both a b c true true true (front ++ escaped s) (escaped t) first second)

pub line_seen : (a b c : List ℕ) (s t : State) (k n r : ℕ) (front : List ℕ) → t ≡ scrolled s k (suc n) → r ≡ n - k
    → Draws a b true true (front ++ escaped (lines_text s k n)) → Draws b c true true (escaped (line_text t.shown r))
    → Draws a c true true (front ++ escaped (lines_text s k (n + 1)))
line_seen a b c s t k n r front screen row first second =
    subst (λ m. Draws a c true true (front ++ escaped (lines_text s k m))) (sym (add-one n))
    (text_seen a b c front (lines_text s k n) (line_text (scrolled s k (suc n)).shown (n - k)) first
    (seen_is b c (λ v i. line_text v.shown i) s t k n r screen row second))

pub font_line_seen : (a b c : List ℕ) (look : Look) (s t : State) (k n r : ℕ) (front : List ℕ)
    → t ≡ scrolled s k (suc n) → r ≡ n - k
    → Draws a b true true (front ++ escaped (font_lines look s k n))
    → Draws b c true true (escaped (font_line look t r))
    → Draws a c true true (front ++ escaped (font_lines look s k (n + 1)))
font_line_seen a b c look s t k n r front screen row first second =
    subst (λ m. Draws a c true true (front ++ escaped (font_lines look s k m))) (sym (add-one n))
    (text_seen a b c front (font_lines look s k n) (font_line look (scrolled s k (suc n)) (n - k)) first
    (seen_is b c (font_line look) s t k n r screen row second))
