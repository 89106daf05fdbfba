-- How a grid's fields give what a contract sees of it.
use Rattle.vt100_core.specs.declared.grid.Grid.TheInside.{Inside}
use Rattle.vt100_core.specs.KeptFields.{kept_of}
use Rattle.vt100_core.specs.Grid.{GridView, IsGrid}

abbrev pub grid_of : Inside → GridView
grid_of g = record {
  rows = g.rows;
  height = g.size.rows.value;
  width = g.size.cols.value;
  row = g.pos.row;
  col = g.pos.col;
  saved_row = g.saved_pos.row;
  saved_col = g.saved_pos.col;
  origin = g.origin_mode;
  saved_origin = g.saved_origin_mode;
  top = g.scroll_top;
  bottom = g.scroll_bottom;
  kept = kept_of g.scrollback;
}

abbrev pub IsGridFields : Inside → Type 0
IsGridFields g = IsGrid (grid_of g)
