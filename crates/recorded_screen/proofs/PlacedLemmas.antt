-- Rows of a whole picture, one below the other.
use Rattle.std.proofs.Common.{◌≡◌, ◌+◌, ◌-◌, ◌*◌, ◌++◌, ℕ, suc, List, [], ◌∷◌, sym, ap, ap₂, ◌∙◌, subst, length, add-one}
use Rattle.std.proofs.Common.{append-nil, refl}
use Rattle.std.proofs.Common.{Option, Result, OnOk}
use Rattle.std.proofs.lemmas.Result.{on_ok_weaker}
use Rattle.picture_page.specs.Bytes.{numbers_bytes}
use Rattle.picture_page.specs.Tags.{tag_bytes}
use Rattle.picture_page.specs.declared.tag.Tag.TheVariants as tag
use Rattle.picture_page.proofs.PageLemmas.{joined_more}
use Rattle.vt100_cells.specs.Cell.{CellView}
use Rattle.row_pictures.specs.Elements.{AddsSo}
use Rattle.row_pictures.specs.Html.{IsHtmlRun}
use Rattle.row_pictures.specs.Runs.{AddsRuns, AreRuns}
use Rattle.row_pictures.specs.Svg.{AreSvgRuns}
use Rattle.row_pictures.specs.declared.look.Look.{Look}
use Rattle.screen_model.specs.State.{State}
use Rattle.recorded_screen.specs.Heads.{block_head, svg_head}
use Rattle.recorded_screen.specs.Picture.{cells_shown, cursor_shown, kept_pictured, rows_pictured, scrolled}
use Rattle.recorded_screen.specs.Placed.{AreLines, IsAround, IsBlock, IsHtmlLine, IsHtmlLineOf, IsHtmlRow}
use Rattle.recorded_screen.specs.Placed.{IsSvg, IsSvgLine, IsSvgLineOf}
use Rattle.recorded_screen.specs.Placed.{IsSvgRow}
use Rattle.recorded_screen.specs.Placed.AreLines.{none, line}

-- ---- one line

-- the runs of a row of a screen
html_row_is : (look : Look) (s : State) (r : ℕ) (cells : List CellView) (cursor : Option ℕ) (runs : List ℕ)
    → cells ≡ cells_shown s.shown r → cursor ≡ cursor_shown look s r
    → AreRuns (IsHtmlRun look cells cursor) (length cells) runs → IsHtmlRow look s r runs
html_row_is look s r cells cursor runs cells_are cursor_is row =
    subst (λ (xs : List CellView). AreRuns (IsHtmlRun look xs (cursor_shown look s r)) (length xs) runs) cells_are
    (subst (λ (k : Option ℕ). AreRuns (IsHtmlRun look cells k) (length cells) runs) cursor_is row)

pub svg_row_is : (look : Look) (s : State) (r : ℕ) (cells : List CellView) (cursor : Option ℕ) (runs : List ℕ)
    → cells ≡ cells_shown s.shown r → cursor ≡ cursor_shown look s r
    → AreSvgRuns look cells cursor runs → IsSvgRow look s r runs
svg_row_is look s r cells cursor runs cells_are cursor_is row =
    subst (λ (xs : List CellView). AreSvgRuns look xs (cursor_shown look s r) runs) cells_are
    (subst (λ (k : Option ℕ). AreSvgRuns look cells k runs) cursor_is row)

pub html_line_added : {T E : Type 0} (res : Result T E) (a b d : List ℕ) (look : Look) (s : State) (r : ℕ)
    (cells : List CellView) (cursor : Option ℕ) → cells ≡ cells_shown s.shown r → cursor ≡ cursor_shown look s r
    → AddsRuns (IsHtmlRun look cells cursor) (length cells) a b → OnOk res (d ≡ b ++ 10 ∷ [])
    → OnOk res (AddsSo (IsHtmlLine look s r) a d)
html_line_added res a b d look s r cells cursor cells_are cursor_is row =
    on_ok_weaker res (λ (last : d ≡ b ++ 10 ∷ []). record {
      more = row.more ++ 10 ∷ [];
      joined = joined_more a b d _ _ row.joined last;
      holds = record {
        runs = row.more;
        is = refl;
        row = html_row_is look s r cells cursor row.more cells_are cursor_is row.runs;
      };
    })

pub svg_line_added : {T E : Type 0} (res : Result T E) (a b d e f g : List ℕ) (look : Look) (s : State) (r n : ℕ)
    (cells : List CellView) (cursor : Option ℕ) → cells ≡ cells_shown s.shown r → cursor ≡ cursor_shown look s r
    → b ≡ a ++ numbers_bytes ((tag.Row, n * 18) ∷ []) → d ≡ b ++ tag_bytes tag.RowCells
    → AddsSo (AreSvgRuns look cells cursor) d e → f ≡ e ++ tag_bytes tag.RowEnd
    → OnOk res (g ≡ f ++ 10 ∷ []) → OnOk res (AddsSo (IsSvgLine look s r n) a g)
svg_line_added res a b d e f g look s r n cells cursor cells_are cursor_is place open_row row close_row =
    on_ok_weaker res (λ (last : g ≡ f ++ 10 ∷ []). record {
      more = numbers_bytes ((tag.Row, n * 18) ∷ [])
          ++ (tag_bytes tag.RowCells ++ (row.more ++ (tag_bytes tag.RowEnd ++ 10 ∷ [])));
      joined = joined_more a b g _ _ place (joined_more b d g _ _ open_row (joined_more d e g _ _ row.joined
          (joined_more e f g _ _ close_row last)));
      holds = record {
        runs = row.more;
        is = refl;
        row = svg_row_is look s r cells cursor row.more cells_are cursor_is row.holds;
      };
    })

-- ---- lines, one after another

pub no_lines : (IsLine : ℕ → List ℕ → Type 0) (a b : List ℕ) → b ≡ a → AddsSo (AreLines IsLine 0) a b
no_lines IsLine a b is = record { more = []; joined = is ∙ sym (append-nil a); holds = none }

pub one_line_more : (IsLine : ℕ → List ℕ → Type 0) (a b c : List ℕ) (r : ℕ) → AddsSo (AreLines IsLine r) a b
    → AddsSo (IsLine r) b c → AddsSo (AreLines IsLine (r + 1)) a c
one_line_more IsLine a b c r first second =
    subst (λ (n : ℕ). AddsSo (AreLines IsLine n) a c) (sym (add-one r)) (record {
      more = first.more ++ second.more;
      joined = joined_more a b c first.more second.more first.joined second.joined;
      holds = line second.more first.holds second.holds;
    })

-- a row of a screen, which is row n of the picture
pub html_line_of : (a b : List ℕ) (look : Look) (s t : State) (k n r : ℕ) → t ≡ scrolled s k (suc n) → r ≡ n - k
    → AddsSo (IsHtmlLine look t r) a b → AddsSo (IsHtmlLineOf look s k n) a b
html_line_of a b look s t k n r screen row runs =
    subst (λ (i : ℕ). AddsSo (IsHtmlLine look (scrolled s k (suc n)) i) a b) row
    (subst (λ (v : State). AddsSo (IsHtmlLine look v r) a b) screen runs)

pub svg_line_of : (a b : List ℕ) (look : Look) (s t : State) (k n r : ℕ) → t ≡ scrolled s k (suc n) → r ≡ n - k
    → AddsSo (IsSvgLine look t r n) a b → AddsSo (IsSvgLineOf look s k n) a b
svg_line_of a b look s t k n r screen row runs =
    subst (λ (i : ℕ). AddsSo (IsSvgLine look (scrolled s k (suc n)) i n) a b) row
    (subst (λ (v : State). AddsSo (IsSvgLine look v r n) a b) screen runs)

-- ---- what is around them

-- a block, between its head and its end
pub block_added : {T E : Type 0} (res : Result T E) (a b c : List ℕ) (look : Look) (history : ℕ) (s : State)
    → AddsSo (AreLines (IsHtmlLineOf look s (kept_pictured history s)) (rows_pictured history s))
    (a ++ block_head look) b
    → OnOk res (c ≡ b ++ tag_bytes tag.BlockEnd) → OnOk res (AddsSo (IsBlock look history s) a c)
block_added res a b c look history s lines =
    on_ok_weaker res (λ (last : c ≡ b ++ tag_bytes tag.BlockEnd). record {
      more = block_head look ++ (lines.more ++ tag_bytes tag.BlockEnd);
      joined = joined_more a (a ++ block_head look) c _ _ refl (joined_more (a ++ block_head look) b c _ _
          lines.joined last);
      holds = record { lines = lines.more; is = refl; placed = lines.holds };
    })

-- a block between a head and a foot, on a page that was empty at first
pub around_placed : (empty a b d bytes before after : List ℕ) (look : Look) (history : ℕ) (s : State) → empty ≡ []
    → a ≡ empty ++ before → AddsSo (IsBlock look history s) a b → d ≡ b ++ after → bytes ≡ d
    → IsAround before after look history s bytes
around_placed empty a b d bytes before after look history s nothing head block foot is = record {
  block = block.more;
  is = is ∙ joined_more empty a d _ _ head (joined_more a b d _ _ block.joined foot)
      ∙ ap (λ (xs : List ℕ). xs ++ (before ++ (block.more ++ after))) nothing;
  placed = block.holds;
}

-- the head of a page that was empty at first
pub svg_begins : (empty a : List ℕ) (look : Look) (rows cols height width : ℕ) → empty ≡ [] → rows ≡ height
    → cols ≡ width → a ≡ empty ++ svg_head look rows cols → a ≡ svg_head look height width
svg_begins empty a look rows cols height width nothing rows_are cols_are is =
    is ∙ ap (λ (xs : List ℕ). xs ++ svg_head look rows cols) nothing
    ∙ ap₂ (λ (h w : ℕ). svg_head look h w) rows_are cols_are

pub svg_placed : (a b bytes : List ℕ) (look : Look) (history : ℕ) (s : State) (n : ℕ) → n ≡ rows_pictured history s
    → AddsSo (AreLines (IsSvgLineOf look s (kept_pictured history s)) n)
    (svg_head look (rows_pictured history s) s.shown.width) a
    → b ≡ a ++ tag_bytes tag.SvgFoot → bytes ≡ b → IsSvg look history s bytes
svg_placed a b bytes look history s n all lines foot is = record {
  lines = lines.more;
  is = is ∙ joined_more (svg_head look (rows_pictured history s) s.shown.width) a b _ _ lines.joined foot;
  placed = subst (λ (h : ℕ). AreLines (IsSvgLineOf look s (kept_pictured history s)) h lines.more) all lines.holds;
}
