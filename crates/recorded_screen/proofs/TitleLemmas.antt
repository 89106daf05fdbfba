-- The titles of pictures, as they are appended.
use Rattle.std.proofs.Common.{◌≡◌, ◌++◌, ◌∙◌, List, ℕ, [], Option, Some, sym, ap, subst, codes, true, String, Global}
use Rattle.std.proofs.Common.{Result, OnOk}
use Rattle.std.specs.Option.{option_map_or}
use Rattle.std.specs.Prelude.{string_bytes}
use Rattle.std.proofs.lemmas.Result.{on_ok_weaker}
use Rattle.picture_page.specs.Page.{escaped}
use Rattle.picture_page.specs.Seen.{Draws}
use Rattle.picture_page.specs.Tags.{tag_bytes}
use Rattle.picture_page.specs.Titles.{title_text}
use Rattle.picture_page.specs.declared.tag.Tag.TheVariants as tag
use Rattle.row_pictures.specs.declared.look.Look.{Look}
use Rattle.recorded_screen.specs.Titles.{page_title, title_line}

-- the title of a picture in SVG, as a line that is seen
pub title_drawn : {T E : Type 0} (res : Result T E) (a e text : List ℕ) (look : Look) (title : String Global)
    → look.title ≡ Some title → text ≡ string_bytes title
    → OnOk res (Draws a e true true (escaped (title_text text) ++ codes "\n"))
    → OnOk res (Draws a e true true (title_line look))
title_drawn res a e text look title is text_is =
    let line : String Global → List ℕ = λ t. escaped (title_text (string_bytes t)) ++ codes "\n" in
    on_ok_weaker res (λ (draws : Draws a e true true (escaped (title_text text) ++ codes "\n")).
    subst (λ (xs : List ℕ). Draws a e true true xs)
    (ap (λ (xs : List ℕ). escaped (title_text xs) ++ codes "\n") text_is
    ∙ ap (λ (o : Option (String Global)). option_map_or line o []) (sym is)) draws)

-- the title of a page in HTML
pub page_title_is : (look : Look) (title : String Global) (text : List ℕ) → look.title ≡ Some title
    → text ≡ string_bytes title → escaped (title_text text) ≡ page_title look
page_title_is look title text is text_is =
    let line : String Global → List ℕ = λ t. escaped (title_text (string_bytes t)) in
    ap (λ (xs : List ℕ). escaped (title_text xs)) text_is
    ∙ ap (λ (o : Option (String Global)). option_map_or line o (tag_bytes tag.PageTitle)) (sym is)
