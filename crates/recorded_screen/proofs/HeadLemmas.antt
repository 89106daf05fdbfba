-- What comes before the rows of a picture, as it is appended.
use Rattle.std.proofs.Common.{◌≡◌, ◌++◌, ℕ, List, [], Option, Some, sym, ap, ap₂, ◌∙◌, Result, OnOk, String, Global}
use Rattle.std.specs.Option.{option_map_or}
use Rattle.std.specs.Prelude.{string_bytes}
use Rattle.std.proofs.lemmas.Result.{on_ok_weaker}
use Rattle.picture_page.specs.Page.{escaped}
use Rattle.picture_page.specs.Tags.{tag_bytes}
use Rattle.picture_page.specs.declared.tag.Tag.{Tag}
use Rattle.picture_page.proofs.PageLemmas.{joined_more}
use Rattle.row_pictures.specs.declared.look.Look.{Look}
use Rattle.recorded_screen.specs.Heads.{font_bytes, svg_head}

-- the name of a font
pub font_added : {T E : Type 0} (res : Result T E) (a b d e text : List ℕ) (before after : Tag) (look : Look)
    (font : String Global) → look.font ≡ Some font → text ≡ string_bytes font → b ≡ a ++ tag_bytes before
    → d ≡ b ++ escaped text → OnOk res (e ≡ d ++ tag_bytes after) → OnOk res (e ≡ a ++ font_bytes before after look)
font_added res a b d e text before after look font is text_is first second =
    let bytes : String Global → List ℕ =
    λ name. tag_bytes before ++ (escaped (string_bytes name) ++ tag_bytes after) in
    on_ok_weaker res (λ (last : e ≡ d ++ tag_bytes after).
    joined_more a b e _ _ first (joined_more b d e _ _ second last)
    ∙ ap (λ (xs : List ℕ). a ++ (tag_bytes before ++ (escaped xs ++ tag_bytes after))) text_is
    ∙ ap (λ (o : Option (String Global)). a ++ option_map_or bytes o []) (sym is))

-- the head of a picture of as many rows and columns
pub head_of_size : {T E : Type 0} (res : Result T E) (a b : List ℕ) (look : Look) (rows cols height width : ℕ)
    → rows ≡ height → cols ≡ width → OnOk res (b ≡ a ++ svg_head look rows cols)
    → OnOk res (b ≡ a ++ svg_head look height width)
head_of_size res a b look rows cols height width rows_are cols_are =
    on_ok_weaker res (λ (is : b ≡ a ++ svg_head look rows cols).
    is ∙ ap₂ (λ (h w : ℕ). a ++ svg_head look h w) rows_are cols_are)
