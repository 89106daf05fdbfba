-- The elements of a row in HTML, as they are appended.
use Rattle.std.proofs.Common.{◌≡◌, ◌<◌, ◌-◌, ◌++◌, ℕ, List, Bool, false, refl, ap, ◌∙◌, subst, take, drop, inl, inr}
use Rattle.std.proofs.Common.{Option, Result, OnOk}
use Rattle.std.proofs.lemmas.Result.{on_ok_weaker}
use Rattle.picture_page.specs.Page.{escaped}
use Rattle.picture_page.specs.Tags.{tag_bytes}
use Rattle.picture_page.specs.declared.tag.Tag.TheVariants as tag
use Rattle.picture_page.proofs.PageLemmas.{joined_more}
use Rattle.vt100_cells.specs.Cell.{CellView}
use Rattle.row_pictures.specs.Elements.{AddsSo}
use Rattle.row_pictures.specs.Html.{IsHtmlRun, IsSpan, span, span_head}
use Rattle.row_pictures.specs.Paint.{plain_style, style_in}
use Rattle.row_pictures.specs.Runs.{AddsRuns, AreAlike, is_wide_run}
use Rattle.row_pictures.specs.Text.{row_text}
use Rattle.row_pictures.specs.declared.look.Look.{Look}
use Rattle.row_pictures.specs.declared.style.Style.{Style}
use Rattle.row_pictures.proofs.RunLemmas.{one_run_more}

-- a run that is drawn as untouched cells are
pub plain_added : {T E : Type 0} (r : Result T E) (a b : List ℕ) (look : Look) (cells : List CellView) (s : Style)
    (wide : Bool) → s ≡ plain_style → wide ≡ is_wide_run cells → wide ≡ false
    → OnOk r (b ≡ a ++ escaped (row_text cells)) → OnOk r (AddsSo (IsSpan look cells s) a b)
plain_added r a b look cells s wide plain wide_is narrow =
    on_ok_weaker r (λ (is : b ≡ a ++ escaped (row_text cells)). record {
      more = escaped (row_text cells);
      joined = is;
      holds = inr (plain, subst (λ (v : Bool). v ≡ false) wide_is narrow, refl);
    })

-- a run in an element of its own
pub span_added : {T E : Type 0} (r : Result T E) (a b d e : List ℕ) (look : Look) (cells : List CellView) (s : Style)
    (wide : Bool) → wide ≡ is_wide_run cells → b ≡ a ++ span_head look s wide
    → d ≡ b ++ escaped (row_text cells) → OnOk r (e ≡ d ++ tag_bytes tag.SpanEnd)
    → OnOk r (AddsSo (IsSpan look cells s) a e)
span_added r a b d e look cells s wide wide_is head text =
    on_ok_weaker r (λ (last : e ≡ d ++ tag_bytes tag.SpanEnd). record {
      more = span look cells s;
      joined = joined_more a b e _ _ (head ∙ ap (λ (v : Bool). a ++ span_head look s v) wide_is)
          (joined_more b d e _ _ text last);
      holds = inl refl;
    })

pub html_run_more : (look : Look) (cells : List CellView) (cursor : Option ℕ) (a b c : List ℕ) (start end : ℕ)
    (s : Style) → start < end → AreAlike cells cursor start end → s ≡ style_in cells cursor start
    → AddsRuns (IsHtmlRun look cells cursor) start a b
    → AddsSo (IsSpan look (take (end - start) (drop start cells)) s) b c
    → AddsRuns (IsHtmlRun look cells cursor) end a c
html_run_more look cells cursor a b c start end s lt alike style first second =
    one_run_more (IsHtmlRun look cells cursor) a b c second.more start end first lt
    (record {
      alike = alike;
      drawn = subst (λ (v : Style). IsSpan look (take (end - start) (drop start cells)) v second.more) style
          second.holds;
    })
    second.joined
