-- The texts of parts of a row.
use Rattle.std.proofs.Common.{◌≡◌, ◌≤◌, ◌<◌, ◌+◌, ◌-◌, ℕ, List, [], ◌∷◌, ◌++◌, take, drop, length, get_or, encode_utf8}
use Rattle.std.proofs.Common.{true, sym, ap, ◌∙◌, append-nil, subst, arith}
use Rattle.std.specs.List.{flat_map}
use Rattle.std.proofs.Math.Seq.{take-add}
use Rattle.std.proofs.lemmas.Grind.{flat_map-append}
use Rattle.std.proofs.lemmas.List.{take_more}
use Rattle.picture_page.specs.Page.{Adds, escaped}
use Rattle.picture_page.specs.Seen.{Draws}
use Rattle.picture_page.proofs.PageLemmas.{adds_both, escaped-append, joined_more}
use Rattle.picture_page.proofs.SeenLemmas.{draws_more_text}
use Rattle.vt100_cells.specs.Cell.{CellView}
use Rattle.row_pictures.specs.Drawn.{font_text, font_texts}
use Rattle.row_pictures.specs.Text.{cell_text, row_text, shown_character, shown_characters}

-- the cells up to a place are those up to an earlier one and those between
row_text-take : (cells : List CellView) (i j : ℕ) → i ≤ j
    → row_text (take j cells) ≡ row_text (take i cells) ++ row_text (take (j - i) (drop i cells))
row_text-take cells i j le =
    let sum : i + (j - i) ≡ j = omega arith in
    ap (λ n. row_text (take n cells)) (sym sum) ∙ ap row_text (take-add i (j - i) cells)
    ∙ flat_map-append cell_text (take i cells) (take (j - i) (drop i cells))

pub row_drawn : (a b c : List ℕ) (cells : List CellView) (i j : ℕ) → i ≤ j → Adds a b (row_text (take i cells))
    → Adds b c (row_text (take (j - i) (drop i cells))) → Adds a c (row_text (take j cells))
row_drawn a b c cells i j le first second =
    subst (λ t. Adds a c t) (sym (row_text-take cells i j le)) (adds_both a b c _ _ first second)

-- what one more of some things adds
pub each_more : {X : Type 0} (f : X → List ℕ) (a b c : List ℕ) (xs : List X) (i : ℕ) (d : X) → i < length xs
    → b ≡ a ++ flat_map f (take i xs) → c ≡ b ++ f (get_or xs i d) → c ≡ a ++ flat_map f (take (i + 1) xs)
each_more f a b c xs i d lt first second =
    let x = get_or xs i d in
    joined_more a b c (flat_map f (take i xs)) (f x) first second
    ∙ ap (λ t. a ++ t) (sym (ap (flat_map f) (take_more xs i d lt) ∙ flat_map-append f (take i xs) (x ∷ [])
    ∙ ap (λ t. flat_map f (take i xs) ++ t) (append-nil (f x))))

-- one cell more
pub cell_drawn : (a b c : List ℕ) (cells : List CellView) (i : ℕ) (x : CellView) → i < length cells → x
    ≡ get_or cells i x
    → Adds a b (row_text (take i cells)) → Adds b c (cell_text x) → Adds a c (row_text (take (i + 1) cells))
cell_drawn a b c cells i x lt is first second =
    let more : take (i + 1) cells ≡ take i cells ++ x ∷ [] =
    take_more cells i x lt ∙ ap (λ y. take i cells ++ y ∷ []) (sym is) in
    let joined : row_text (take (i + 1) cells) ≡ row_text (take i cells) ++ cell_text x =
    ap row_text more ∙ flat_map-append cell_text (take i cells) (x ∷ [])
    ∙ ap (λ t. row_text (take i cells) ++ t) (append-nil (cell_text x)) in
    subst (λ t. Adds a c t) (sym joined) (adds_both a b c _ _ first second)

-- one character more
pub character_drawn : (a b c : List ℕ) (cs : List ℕ) (x y : ℕ) → y ≡ shown_character x → Adds a b (shown_characters cs)
    → Adds b c (encode_utf8 y) → Adds a c (shown_characters (cs ++ x ∷ []))
character_drawn a b c cs x y is first second =
    let shown : ℕ → List ℕ = λ z. encode_utf8 (shown_character z) in
    let joined : shown_characters (cs ++ x ∷ []) ≡ shown_characters cs ++ encode_utf8 y =
    flat_map-append shown cs (x ∷ [])
    ∙ ap (λ t. shown_characters cs ++ t) (append-nil (shown x) ∙ ap encode_utf8 (sym is)) in
    subst (λ t. Adds a c t) (sym joined) (adds_both a b c _ _ first second)

-- ---- what is seen of them

pub row_seen : (a b c : List ℕ) (cells : List CellView) (i j : ℕ) → i ≤ j
    → Draws a b true true (escaped (row_text (take i cells)))
    → Draws b c true true (escaped (row_text (take (j - i) (drop i cells))))
    → Draws a c true true (escaped (row_text (take j cells)))
row_seen a b c cells i j le first second =
    subst (λ t. Draws a c true true (escaped t)) (sym (row_text-take cells i j le))
    (draws_more_text a b c (row_text (take i cells)) (row_text (take (j - i) (drop i cells))) first second)

font_texts-take : (cells : List CellView) (i j : ℕ) → i ≤ j
    → font_texts (take j cells) ≡ font_texts (take i cells) ++ font_texts (take (j - i) (drop i cells))
font_texts-take cells i j le =
    let sum : i + (j - i) ≡ j = omega arith in
    ap (λ n. font_texts (take n cells)) (sym sum) ∙ ap font_texts (take-add i (j - i) cells)
    ∙ flat_map-append font_text (take i cells) (take (j - i) (drop i cells))

pub font_seen : (a b c : List ℕ) (cells : List CellView) (i j : ℕ) → i ≤ j
    → Draws a b true true (escaped (font_texts (take i cells)))
    → Draws b c true true (escaped (font_texts (take (j - i) (drop i cells))))
    → Draws a c true true (escaped (font_texts (take j cells)))
font_seen a b c cells i j le first second =
    subst (λ t. Draws a c true true (escaped t)) (sym (font_texts-take cells i j le))
    (draws_more_text a b c (font_texts (take i cells)) (font_texts (take (j - i) (drop i cells))) first second)

-- one cell more
pub cell_escaped : (a b c : List ℕ) (cells : List CellView) (i : ℕ) (x : CellView) → i < length cells → x
    ≡ get_or cells i x
    → b ≡ a ++ escaped (row_text (take i cells)) → c ≡ b ++ escaped (cell_text x)
    → c ≡ a ++ escaped (row_text (take (i + 1) cells))
cell_escaped a b c cells i x lt is first second =
    let more : take (i + 1) cells ≡ take i cells ++ x ∷ [] =
    take_more cells i x lt ∙ ap (λ y. take i cells ++ y ∷ []) (sym is) in
    let joined : row_text (take (i + 1) cells) ≡ row_text (take i cells) ++ cell_text x =
    ap row_text more ∙ flat_map-append cell_text (take i cells) (x ∷ [])
    ∙ ap (λ t. row_text (take i cells) ++ t) (append-nil (cell_text x)) in
    joined_more a b c (escaped (row_text (take i cells))) (escaped (cell_text x)) first second
    ∙ ap (λ t. a ++ t) (sym (ap escaped joined ∙ escaped-append (row_text (take i cells)) (cell_text x)))

-- one character more
pub character_escaped : (a b c : List ℕ) (cs : List ℕ) (x y : ℕ) → y ≡ shown_character x
    → b ≡ a ++ escaped (shown_characters cs) → c ≡ b ++ escaped (encode_utf8 y)
    → c ≡ a ++ escaped (shown_characters (cs ++ x ∷ []))
character_escaped a b c cs x y is first second =
    let shown : ℕ → List ℕ = λ z. encode_utf8 (shown_character z) in
    let joined : shown_characters (cs ++ x ∷ []) ≡ shown_characters cs ++ encode_utf8 y =
    flat_map-append shown cs (x ∷ [])
    ∙ ap (λ t. shown_characters cs ++ t) (append-nil (shown x) ∙ ap encode_utf8 (sym is)) in
    joined_more a b c (escaped (shown_characters cs)) (escaped (encode_utf8 y)) first second
    ∙ ap (λ t. a ++ t) (sym (ap escaped joined ∙ escaped-append (shown_characters cs) (encode_utf8 y)))
