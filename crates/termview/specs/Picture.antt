-- A picture's value in contracts, and its invariant.
use Rattle.std.specs.Prelude.{ℕ, ◌<◌, ◌≤◌, ◌≡◌, ◌^◌, ◌++◌, Bool, List, length, map}
use Rattle.std.specs.Str.{chars}
use Rattle.vte_types.specs.Call.{Call, Calls, input}
use Rattle.vt100_forms.specs.declared.attrs.Attrs.{Attrs}
use Rattle.vt100_forms.specs.declared.modes.CursorStyle.{CursorStyle}
use Rattle.vt100_rows.specs.Row.{RowView}
use Rattle.terminal_model.specs.Term.{Size, Modes, Term}
use Rattle.vt100_rows.specs.Sheet.{IsSheet}
use Rattle.vt100_rows.specs.Picture.{lines_of, wraps_of}
use Rattle.termview.specs.Step.{view_step}

-- a picture: its size, rows, cursor, attributes, modes and cursor style, and the saved cursor and attributes
pub record PictureView : Type 0 where
  pub size : Size
  -- the rows from the top
  pub rows : List RowView
  pub row : ℕ
  pub col : ℕ
  pub hidden : Bool
  pub attrs : Attrs
  pub modes : Modes
  pub style : CursorStyle
  pub saved_row : ℕ
  pub saved_col : ℕ
  pub saved_attrs : Attrs

-- the terminal that shows the picture
abbrev pub term_of_picture : PictureView → Term
term_of_picture p = record {
  cell = lines_of p.rows;
  wrapped = wraps_of p.rows;
  row = p.row;
  col = p.col;
  hidden = p.hidden;
  attrs = p.attrs;
  modes = p.modes;
  style = p.style;
  saved_row = p.saved_row;
  saved_col = p.saved_col;
  saved_attrs = p.saved_attrs;
}

-- there is a row for each line of the screen, and the cursor and the saved cursor are on the screen
pub record IsPicture (p : PictureView) : Type 0 where
  pub sheet : IsSheet p.size.rows p.size.cols p.rows
  pub full : length p.rows ≡ p.size.rows
  pub some_rows : 0 < p.size.rows
  pub some_cols : 0 < p.size.cols
  pub few_rows : p.size.rows < 2 ^ 16
  pub few_cols : p.size.cols < 2 ^ 16
  pub in_rows : p.row < p.size.rows
  pub in_cols : p.col ≤ p.size.cols
  pub saved_in_rows : p.saved_row < p.size.rows
  pub saved_in_cols : p.saved_col ≤ p.size.cols

-- the picture p becomes q, which has the same size and shows t
pub record Becomes (p q : PictureView) (t : Term) : Type 0 where
  pub size : q.size ≡ p.size
  pub shows : term_of_picture q ≡ t

-- a call takes the picture p to q
abbrev pub Does : PictureView → Call → PictureView → Type 0
Does p c q = Becomes p q (view_step p.size c (term_of_picture p))

-- a prefix of the text's characters has been printed, and `left` are the bytes of the others
abbrev pub ShowsPrefix : List ℕ → List ℕ → PictureView → PictureView → Type 0
ShowsPrefix text left p q = (prefix : List ℕ) × (chars text ≡ prefix ++ chars left) × Calls Does p (map input prefix) q
