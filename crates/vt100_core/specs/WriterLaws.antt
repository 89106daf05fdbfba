-- What a terminal makes of the forms of a grid.
use Rattle.std.specs.Prelude.{ℕ, ◌≡◌, Contains, Option, unwrap_or}
use Rattle.vt100_forms.specs.declared.attrs.Attrs.{Attrs}
use Rattle.vt100_forms.specs.declared.position.Pos.{Pos}
use Rattle.vt100_forms.specs.Attrs.{IsProper, default_attrs}
use Rattle.terminal_model.specs.Term.{Shown, shown_of}
use Rattle.terminal_model.specs.Leads.{Leads}
use Rattle.vt100_rows.specs.Picture.{lines_of, wraps_of}
use Rattle.screen_drawing.specs.Cursor as cursor
use Rattle.screen_drawing.specs.Screen.{grid_redraw, grid_difference}
use Rattle.screen_drawing.specs.Laws.{IsDrawable, CursorIsAt, with_grid_of}
use Rattle.vt100_core.specs.Grid.{GridView, IsGrid, IsAllocated}
use Rattle.vt100_core.specs.Picture.{grid_size, Extras, term_of_grid}
use Rattle.vt100_core.specs.Writers.{drawn_on, cursor_position_formatted, redrawn, contents_formatted, differing}

-- a grid with its rows, which shows no kept row
pub record IsUnscrolledGrid (g : GridView) : Type 0 where
  pub grid : IsGrid g
  pub some : IsAllocated g
  pub offset : g.kept.offset ≡ 0

-- the same, where no character asks for an emoji, and attributes are such as control sequences can set
pub record IsDrawableGrid (g : GridView) : Type 0 where
  pub shown : IsUnscrolledGrid g
  pub plain : (r k : ℕ) → Contains (lines_of g.rows r k).text 0xFE0F → ⊥
  pub proper : (r k : ℕ) → IsProper (lines_of g.rows r k).attrs

-- what a terminal with this grid shows
abbrev pub picture_of : GridView → Extras → Shown
picture_of g x = shown_of (term_of_grid g x)

-- ---- the same forms as for the picture

abbrev pub EachCursorIsOfPicture : Type 0
EachCursorIsOfPicture = (g : GridView) (x : Extras) (p : Option Pos) (a : Option Attrs)
    → cursor_position_formatted g p a
    ≡ cursor.cursor_position_formatted (grid_size g) (picture_of g x) p (unwrap_or a default_attrs)

abbrev pub EachRedrawIsOfPicture : Type 0
EachRedrawIsOfPicture = (g : GridView) (x : Extras) → IsUnscrolledGrid g
    → redrawn g ≡ grid_redraw (grid_size g) (picture_of g x)

abbrev pub EachDifferenceIsOfPictures : Type 0
EachDifferenceIsOfPictures = (g old : GridView) (x y : Extras) → IsUnscrolledGrid g → IsUnscrolledGrid old
    → grid_size old ≡ grid_size g
    → differing g old y.attrs ≡ grid_difference (grid_size g) (picture_of old y) (picture_of g x)

-- ---- a terminal that reads them shows it

abbrev pub EachGridIsDrawable : Type 0
EachGridIsDrawable = (g : GridView) (x : Extras) → IsDrawableGrid g → IsDrawable (grid_size g) (picture_of g x)

-- from any terminal to the grid's cells, flags and cursor
abbrev pub EachRedrawIsDrawn : Type 0
EachRedrawIsDrawn = (g : GridView) (from : Shown) → IsDrawableGrid g
    → Leads (grid_size g) (contents_formatted g) from (with_grid_of (drawn_on g) (redrawn g).pen.attrs from)

-- from an earlier grid of the same size to this one's cells, flags and cursor
abbrev pub EachDifferenceIsDrawn : Type 0
EachDifferenceIsDrawn = (g old : GridView) (y : Extras) → IsDrawableGrid g → IsUnscrolledGrid old
    → grid_size old ≡ grid_size g → IsProper y.attrs
    → Leads (grid_size g) (differing g old y.attrs).forms (picture_of old y)
    (with_grid_of (drawn_on g) (differing g old y.attrs).pen.attrs (picture_of old y))

-- from the grid's cells and flags, with a cursor as it is given, or any, and attributes as they are given, or the
-- default ones, to the grid's cursor
abbrev pub EachCursorIsDrawn : Type 0
EachCursorIsDrawn = (g : GridView) (from : Shown) (p : Option Pos) (a : Option Attrs) → IsDrawableGrid g
    → from.cell ≡ lines_of g.rows → from.wrapped ≡ wraps_of g.rows → CursorIsAt p from
    → from.attrs ≡ unwrap_or a default_attrs → IsProper from.attrs
    → Leads (grid_size g) (cursor_position_formatted g p a) from (record from { row = g.row; col = g.col })
