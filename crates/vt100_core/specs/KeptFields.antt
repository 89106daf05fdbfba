-- How the fields of what a grid keeps give what a contract sees of it.
use Rattle.vt100_core.specs.declared.scrollback.ScrollbackState.{ScrollbackState}
use Rattle.vt100_core.specs.Grid.{KeptPart}

abbrev pub kept_of : ScrollbackState → KeptPart
kept_of s = record {
  keeps = s.enabled;
  rows = s.rows.items;
  capacity = s.capacity;
  offset = s.offset;
  scrolled_off = s.unbounded_len;
}
