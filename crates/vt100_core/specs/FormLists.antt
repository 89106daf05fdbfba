-- What a grid appends are lists of forms that writers send, how long they can be, and which cells differences touch.
use Rattle.std.specs.Prelude.{ℕ, ◌+◌, ◌*◌, ◌≤◌, ◌≡◌, List, ◌++◌, length, Contains, Option, unwrap_or}
use Rattle.vt100_forms.specs.declared.attrs.Attrs.{Attrs}
use Rattle.vt100_forms.specs.declared.position.Pos.{Pos}
use Rattle.vt100_forms.specs.Attrs.{HasByteColors, default_attrs}
use Rattle.vt100_forms.specs.Form.{Form, bytes_of}
use Rattle.vt100_cells.specs.Cells.{cell_at}
use Rattle.terminal_model.specs.FormText.{AreForms, AreSentForms}
use Rattle.vt100_rows.specs.Picture.{lines_of}
use Rattle.screen_drawing.specs.Length.{IsWithin}
use Rattle.screen_drawing.specs.Local.{IsLocalList}
use Rattle.vt100_core.specs.Grid.{GridView, IsGrid, visible_at}
use Rattle.vt100_core.specs.Picture.{grid_size, Extras}
use Rattle.vt100_core.specs.Writers.{drawn_on, cursor_position_formatted, contents_formatted, differing}
use Rattle.vt100_core.specs.WriterLaws.{IsUnscrolledGrid, picture_of}

-- the colours of each cell are numbers of bytes, in the rows that are drawn on
abbrev pub HasByteCells : GridView → Type 0
HasByteCells g = (r k : ℕ) → HasByteColors (lines_of g.rows r k).attrs

-- and in those that are shown, of which some may be kept ones
abbrev pub HasByteVisibleCells : GridView → Type 0
HasByteVisibleCells g = (r k : ℕ) → HasByteColors (cell_at (visible_at g r).cells k).attrs

-- no cell has the character c
abbrev pub HasNo : ℕ → GridView → Type 0
HasNo c g = (r k : ℕ) → Contains (lines_of g.rows r k).text c → ⊥

-- what is true of each list of forms that is appended: over any earlier grid of the size, and for a cursor and
-- attributes as they are given
pub record IsTrueOfLists (Q : List Form → Type 0) (g : GridView) : Type 0 where
  pub contents : Q (contents_formatted g)
  pub difference : (old : GridView) (a : Attrs) → IsUnscrolledGrid old → grid_size old ≡ grid_size g → HasByteColors a
      → Q (differing g old a).forms
  pub cursor : (p : Option Pos) (a : Option Attrs) → HasByteColors (unwrap_or a default_attrs)
      → Q (cursor_position_formatted g p a)

abbrev pub EachListIsSent : Type 0
EachListIsSent = (g : GridView) → IsUnscrolledGrid g → HasByteCells g → HasNo 0xFFFD g → IsTrueOfLists AreSentForms g

-- where no cell has U+FE0F, they are forms that a screen and a view read alike
abbrev pub EachListIsOfForms : Type 0
EachListIsOfForms = (g : GridView) → IsUnscrolledGrid g → HasByteCells g → HasNo 0xFFFD g → HasNo 0xFE0F g
    → IsTrueOfLists AreForms g

-- at most 1,024 bytes a cell, and 256 more, whatever the earlier grid is
pub record AreShort (g : GridView) : Type 0 where
  pub contents : IsWithin (grid_size g) 256 (contents_formatted g)
  pub difference : (old : GridView) (a : Attrs) → HasByteColors a → IsWithin (grid_size g) 256 (differing g old a).forms

-- whichever rows are shown
abbrev pub EachListIsShort : Type 0
EachListIsShort = (g : GridView) → IsGrid g → HasByteCells g → HasByteVisibleCells g → AreShort g

-- a text has grown by no more than that
abbrev pub IsShortGrowth : GridView → List ℕ → List ℕ → Type 0
IsShortGrowth g old new = length new ≤ length old + (1024 * (g.height * g.width) + 256)

-- ---- which cells they touch

-- These forms are appended to the text s, which becomes t. Read by a terminal that shows the earlier grid, and draws
-- with the attributes a, they touch local cells of the two pictures alone; but where the cursor waits, also the last
-- cell of one row.
pub record AppendsLocal (forms : List Form) (g old : GridView) (a : Attrs) (s t : List ℕ) : Type 0 where
  pub appended : t ≡ s ++ bytes_of forms
  pub touches : (x : Extras) → x.attrs ≡ a → IsLocalList (grid_size g) (picture_of old x) (drawn_on g) forms
