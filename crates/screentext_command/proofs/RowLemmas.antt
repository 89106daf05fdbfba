-- The texts of parts of a row.
use Rattle.std.proofs.Common.{◌≡◌, ◌≤◌, ◌<◌, ◌+◌, ℕ, suc, Bool, true, false, List, [], ◌∷◌, ◌++◌, take, drop, length}
use Rattle.std.proofs.Common.{get_or, sym, ap, ◌∙◌, append-nil, append_assoc, add-one}
use Rattle.std.specs.Prelude.{if◌then◌else◌}
use Rattle.std.proofs.lemmas.Grind.{flat_map-append}
use Rattle.std.proofs.lemmas.List.{drop_all, drop_more, get_or_read, take_more}
use Rattle.vt100_forms.specs.Attrs.{default_attrs}
use Rattle.vt100_forms.specs.declared.attrs.Attrs.{Attrs}
use Rattle.vt100_cells.specs.Cell.{CellView, default_cell}
use Rattle.vt100_cells.specs.Cells.{cell_at}
use Rattle.screentext_command.specs.Rows.{changed, colored_text, is_shown, plain_text, shown_columns, text_of}
use Rattle.screentext_command.specs.declared.rows.Look.{Look}

-- one cell more
pub plain_more : (old now next : List ℕ) (cells : List CellView) (i : ℕ) (x : CellView) → i < length cells
    → x ≡ get_or cells i x → now ≡ old ++ plain_text (take i cells) → next ≡ now ++ text_of x
    → next ≡ old ++ plain_text (take (i + 1) cells)
plain_more old now next cells i x lt is before adds =
    let more : take (i + 1) cells ≡ take i cells ++ x ∷ [] =
    take_more cells i x lt ∙ ap (λ y. take i cells ++ y ∷ []) (sym is) in
    let joined : plain_text (take (i + 1) cells) ≡ plain_text (take i cells) ++ text_of x =
    ap plain_text more ∙ flat_map-append text_of (take i cells) (x ∷ [])
    ∙ ap (λ t. plain_text (take i cells) ++ t) (append-nil (text_of x)) in
    adds ∙ ap (λ t. t ++ text_of x) before ∙ append_assoc old (plain_text (take i cells)) (text_of x)
    ∙ ap (λ t. old ++ t) (sym joined)

-- a change of the attributes, and one cell more
pub colored_more : (now one two whole : List ℕ) (a b : Attrs) (cells : List CellView) (i : ℕ) (x : CellView)
    → i < length cells → x ≡ get_or cells i x → b ≡ x.attrs → now ++ colored_text a (drop i cells) ≡ whole
    → one ≡ now ++ changed a b → two ≡ one ++ text_of x → two ++ colored_text b (drop (i + 1) cells) ≡ whole
colored_more now one two whole a b cells i x lt is same before first second =
    let rest : List CellView = drop (i + 1) cells in
    let more : drop i cells ≡ x ∷ rest = drop_more cells i x lt ∙ ap (λ y. y ∷ rest) (sym is) in
    let step : colored_text a (drop i cells) ≡ changed a b ++ (text_of x ++ colored_text b rest) =
    ap (colored_text a) more
    ∙ ap (λ (d : Attrs). changed a d ++ (text_of x ++ colored_text d rest)) (sym same) in
    ap (λ t. t ++ colored_text b rest) (second ∙ ap (λ t. t ++ text_of x) first)
    ∙ append_assoc (now ++ changed a b) (text_of x) (colored_text b rest)
    ∙ append_assoc now (changed a b) (text_of x ++ colored_text b rest) ∙ sym (ap (λ t. now ++ t) step) ∙ before

-- the row's end
pub colored_end : (now one whole : List ℕ) (a b : Attrs) (cells : List CellView) (i : ℕ) → length cells ≤ i
    → b ≡ default_attrs → now ++ colored_text a (drop i cells) ≡ whole → one ≡ now ++ changed a b → one ≡ whole
colored_end now one whole a b cells i le same before first =
    first ∙ ap (λ (d : Attrs). now ++ changed a d) same
    ∙ sym (ap (λ ys. now ++ colored_text a ys) (drop_all i cells le)) ∙ before

-- ---- how many cells are left without the blanks at the end

test_at : (look : Look) (cells : List CellView) (i : ℕ) (x : CellView) (b : Bool) → i < length cells
    → x ≡ get_or cells i x → is_shown look x ≡ b
    → shown_columns look cells (suc i) ≡ (if b then suc i else shown_columns look cells i)
test_at look cells i x b lt is on =
    let at : cell_at cells i ≡ x = sym (get_or_read cells i x lt is default_cell) in
    let test : is_shown look (cell_at cells i) ≡ b = ap (is_shown look) at ∙ on in
    ap (λ t. if t then suc i else shown_columns look cells i) test

-- the next cell is shown
pub shown_next : (look : Look) (cells : List CellView) (i : ℕ) (x : CellView) → i < length cells
    → x ≡ get_or cells i x → is_shown look x ≡ true → i + 1 ≡ shown_columns look cells (i + 1)
shown_next look cells i x lt is on = rw add-one (sym (test_at look cells i x true lt is on))

-- the next cell is blank
pub blank_next : (look : Look) (cells : List CellView) (i end : ℕ) (x : CellView) → i < length cells
    → x ≡ get_or cells i x → is_shown look x ≡ false → end ≡ shown_columns look cells i
    → end ≡ shown_columns look cells (i + 1)
blank_next look cells i end x lt is off before = rw add-one (before ∙ sym (test_at look cells i x false lt is off))
