-- Runs of cells that share their ink.
use Rattle.std.proofs.Common.{◌≡◌, ◌⊎◌, ◌≤◌, ◌<◌, ◌+◌, ◌-◌, ℕ, zero, suc, Bool, true, false, not, List, [], ◌∷◌, ◌++◌}
use Rattle.std.proofs.Common.{take, drop, length, refl, sym, ap, ap₂, ◌∙◌, inl, inr, subst, arith, cond, true≢false}
use Rattle.std.proofs.Common.{OnOk, Option, Some, None, Result, nat_le, Bor, get_or, map}
use Rattle.std.specs.Iterator.{AlwaysYields}
use Rattle.std.specs.Option.{option_map_or}
use Rattle.std.specs.Prelude.{is_some, ◌==◌}
use Rattle.std.proofs.lemmas.Iterator.{YieldsList}
use Rattle.std.proofs.lemmas.Bool.{and_parts, leb-true}
use Rattle.std.proofs.lemmas.List.{get_or-drop, get_or-take, length-take}
use Rattle.std.proofs.lemmas.Result.{on_ok_weaker}
use Rattle.picture_page.specs.Page.{escaped}
use Rattle.picture_page.specs.Seen.{Draws}
use Rattle.vt100_cells.specs.Cell.{CellView, default_cell}
use Rattle.row_pictures.specs.Drawn.{areas_of, drawn_character, font_texts, ink_of, ink_of_character, is_drawn}
use Rattle.row_pictures.specs.Drawn.{glyph_areas, is_drawn_character}
use Rattle.row_pictures.specs.Paint.{cell_in}
use Rattle.row_pictures.specs.Runs.{AreAlike, ShareInk, first_ink}
use Rattle.row_pictures.specs.Text.{row_text}
use Rattle.row_pictures.specs.declared.glyph.Ink.{Ink}
use Rattle.row_pictures.specs.declared.glyph.Ink.TheVariants.{Font, Shade, Solid}

-- ---- the texts of a run

abbrev pub is_font : Ink → Bool
is_font Font = true
is_font Solid = false
is_font (Shade hundredths) = false

shade_or_solid : (p q r : Bool) → is_font (cond p (Shade 25) (cond q (Shade 50) (cond r (Shade 75) Solid))) ≡ false
shade_or_solid true q r = refl
shade_or_solid false true r = refl
shade_or_solid false false true = refl
shade_or_solid false false false = refl

ink_of_option : (o : Option ℕ) → is_font (option_map_or ink_of_character o Font) ≡ not (is_some o)
ink_of_option None = refl
ink_of_option (Some c) = shade_or_solid (c == 0x2591) (c == 0x2592) (c == 0x2593)

opposite : (a b : Bool) → a ≡ not b → b ≡ not a
opposite true true h = h
opposite true false h = refl
opposite false true h = refl
opposite false false h = h

drawn_or_font : (x : CellView) → is_drawn x ≡ not (is_font (ink_of x))
drawn_or_font x = opposite (is_font (ink_of x)) (is_drawn x) (ink_of_option (drawn_character x))

text_of_drawn : (drawn continued : Bool) (t : List ℕ) → (drawn ≡ true) ⊎ (continued ≡ true)
    → cond drawn [] (cond continued [] t) ≡ []
text_of_drawn true continued t h = refl
text_of_drawn false true t h = refl
text_of_drawn false false t (inl h) = absurd (true≢false (sym h))
text_of_drawn false false t (inr h) = absurd (true≢false (sym h))

text_of_font : (drawn continued : Bool) (t : List ℕ) → (drawn ≡ false) ⊎ (continued ≡ true)
    → cond drawn [] (cond continued [] t) ≡ cond continued [] t
text_of_font false continued t h = refl
text_of_font true true t h = refl
text_of_font true false t (inl h) = absurd (true≢false h)
text_of_font true false t (inr h) = absurd (true≢false (sym h))

-- each cell is drawn with rectangles (true) or none is; the second column of a wide character counts as either
abbrev EachDrawn : Bool → List CellView → Type 0
EachDrawn drawn run =
    (n : ℕ) → n < length run → (is_drawn (cell_in run n) ≡ drawn) ⊎ ((cell_in run n).continuation ≡ true)

drawn_texts : (run : List CellView) → EachDrawn true run → font_texts run ≡ []
drawn_texts [] h = refl
drawn_texts (x ∷ xs) h =
    ap₂ (λ s t. s ++ t) (text_of_drawn (is_drawn x) x.continuation _ (h 0 (omega arith)))
    (drawn_texts xs (λ n lt. h (suc n) (omega arith)))

texts_in_a_font : (run : List CellView) → EachDrawn false run → font_texts run ≡ row_text run
texts_in_a_font [] h = refl
texts_in_a_font (x ∷ xs) h =
    ap₂ (λ s t. s ++ t) (text_of_font (is_drawn x) x.continuation _ (h 0 (omega arith)))
    (texts_in_a_font xs (λ n lt. h (suc n) (omega arith)))

each_drawn : (run : List CellView) (ink : Ink) → ink ≡ first_ink run → ShareInk run
    → EachDrawn (not (is_font ink)) run
each_drawn run ink is share = λ n lt. elim (share n lt) [
  | inl same ↦ inl (drawn_or_font (cell_in run n) ∙ ap (λ i. not (is_font i)) (same ∙ sym is))
  | inr second ↦ inr second
]

pub in_a_font : {T E : Type 0} (r : Result T E) (a b : List ℕ) (run : List CellView) (ink : Ink)
    → ink ≡ first_ink run → is_font ink ≡ true → ShareInk run → OnOk r (Draws a b true true (escaped (row_text run)))
    → OnOk r (Draws a b true true (escaped (font_texts run)))
in_a_font r a b run ink is font share =
    on_ok_weaker r (subst (λ t. Draws a b true true (escaped t)) (sym (texts_in_a_font run
    (subst (λ v. EachDrawn (not v) run) font (each_drawn run ink is share)))))

pub not_in_a_font : {T E : Type 0} (r : Result T E) (a b : List ℕ) (run : List CellView) (ink : Ink)
    → ink ≡ first_ink run → is_font ink ≡ false → ShareInk run → OnOk r (Draws a b true true [])
    → OnOk r (Draws a b true true (escaped (font_texts run)))
not_in_a_font r a b run ink is drawn share =
    on_ok_weaker r (subst (λ t. Draws a b true true (escaped t)) (sym (drawn_texts run
    (subst (λ v. EachDrawn (not v) run) drawn (each_drawn run ink is share)))))

-- ---- cells that are alike share their ink

cell_of_run : (cells : List CellView) (start end n : ℕ) → n < end - start
    → cell_in (take (end - start) (drop start cells)) n ≡ cell_in cells (start + n)
cell_of_run cells start end n lt =
    get_or-take (end - start) (drop start cells) n default_cell lt ∙ get_or-drop start cells n default_cell

pub alike_share : (cells : List CellView) (cursor : Option ℕ) (start end : ℕ) → start < end
    → AreAlike cells cursor start end → ShareInk (take (end - start) (drop start cells))
alike_share cells cursor start end some alike zero lt = inl refl
alike_share cells cursor start end some alike (suc n) lt =
    let few : length (take (end - start) (drop start cells)) ≤ end - start = omega (
      arith,
      length-take (end - start)
          (drop start cells),
    ) in
    let here : start < start + suc n = omega arith in
    let within : start + suc n < end = omega arith in
    let here_is = cell_of_run cells start end (suc n) (omega arith) in
    let first : cell_in (take (end - start) (drop start cells)) 0 ≡ cell_in cells start =
    cell_of_run cells start end 0 (omega arith) ∙ ap (cell_in cells) (omega arith) in
    elim (alike (start + suc n) here within) [
      | inl same ↦ inl (ap ink_of here_is ∙ same.2 ∙ sym (ap ink_of first))
      | inr wide ↦ inr (ap (λ x. x.continuation) here_is ∙ wide.1)
    ]

-- ---- the rectangles of a cell

abbrev pub listed : Bor (List (ℕ × ℕ × ℕ × ℕ)) → List (ℕ × ℕ × ℕ × ℕ)
listed areas = areas.now

pub get_or_now : (held : List (Bor (List (ℕ × ℕ × ℕ × ℕ)))) (i : ℕ) (d : Bor (List (ℕ × ℕ × ℕ × ℕ)))
    → (get_or held i d).now ≡ get_or (map listed held) i d.now
get_or_now [] i d = refl
get_or_now (x ∷ xs) zero d = refl
get_or_now (x ∷ xs) (suc i) d = get_or_now xs i d

pub areas_found : (x : CellView) (c : ℕ) → Some c ≡ drawn_character x → glyph_areas (c - 0x2500) ≡ areas_of x
areas_found x c is = ap (λ o. option_map_or (λ n. glyph_areas (n - 0x2500)) o []) is

pub within_glyphs : (c : ℕ) → is_drawn_character c ≡ true → (0x2500 ≤ c) × (c < 0x2500 + 160)
within_glyphs c drawn =
    let range = and_parts (nat_le 0x2500 c) (nat_le c 0x259F) drawn in
    let high : c ≤ 0x259F = leb-true c 0x259F range.1 in (leb-true 0x2500 c range.0, omega arith)

-- ---- the characters of a text, by two calls

-- they gave a character and then none
alone : {S : Type 0} (steps : S → Option ℕ → S → Type 0) (s t u : S) (all : List ℕ) (c : ℕ)
    → AlwaysYields steps (λ x. x) s all → steps s (Some c) t → steps t None u → all ≡ c ∷ []
alone steps s t u [] c runs first second = absurd (runs c t first)
alone steps s t u (y ∷ []) c runs first second = ap (λ x. x ∷ []) (sym (runs.1 c t first).0)
alone steps s t u (y ∷ (z ∷ zs)) c runs first second = absurd ((runs.1 c t first).1.0 u second)

pub one_character : {S : Type 0} {steps : S → Option ℕ → S → Type 0} {s : S} {all : List ℕ}
    (e : YieldsList steps (λ x. x) s all) (r q : Option ℕ) (t u : S) (c : ℕ) → r ≡ Some c → steps s r t → q ≡ None
    → steps t q u → all ≡ c ∷ []
one_character {steps = steps} {s = s} {all = all} e r q t u c is first none second =
    alone steps s t u all c e.runs (subst (λ (o : Option ℕ). steps s o t) is first)
    (subst (λ (o : Option ℕ). steps t o u) none second)
