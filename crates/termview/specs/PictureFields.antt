-- A picture's value in contracts, by its fields.
use Rattle.termview.specs.declared.picture.Picture.TheInside.{Inside}
use Rattle.termview.specs.Picture.{PictureView, IsPicture}

abbrev pub picture_of : Inside → PictureView
picture_of p = record {
  size = record { rows = p.size.rows.value; cols = p.size.cols.value };
  rows = p.rows;
  row = p.pos.row;
  col = p.pos.col;
  hidden = p.hide_cursor;
  attrs = p.attrs;
  modes = record {
    keypad = p.application_keypad;
    cursor_keys = p.application_cursor;
    paste = p.bracketed_paste;
    mouse = p.mouse_protocol_mode;
    encoding = p.mouse_protocol_encoding;
  };
  style = p.cursor_style;
  saved_row = p.saved_pos.row;
  saved_col = p.saved_pos.col;
  saved_attrs = p.saved_attrs;
}

abbrev pub IsPictureFields : Inside → Type 0
IsPictureFields p = IsPicture (picture_of p)
