use Rattle.std.proofs.Common.{◌≡◌, ◌++◌}
use Rattle.picture_page.specs.Page.{Adds, escaped}
use Rattle.row_pictures.specs.Text.{shown_characters}
use Rattle.row_pictures.proofs.row.push_characters.Given as goal

abbrev pub invariant-loop-c : goal.invariant-loop-c
invariant-loop-c l = record {
  adds : Adds l.fn.page l.page (shown_characters l.yielded);
  bytes : l.page ≡ l.fn.page ++ escaped (shown_characters l.yielded);
}
