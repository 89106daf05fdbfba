use Rattle.std.proofs.Common.{◌≡◌, [], ◌++◌}
use Rattle.picture_page.specs.Page.{Adds, escaped}
use Rattle.picture_page.specs.Titles.{title_characters}
use Rattle.picture_page.proofs.page.Page.title.Given as goal

-- what was appended so far
abbrev pub invariant-loop-c : goal.invariant-loop-c
invariant-loop-c l = record {
  adds : Adds l.fn.self l.self [];
  bytes : l.self ≡ l.fn.self ++ escaped (title_characters l.yielded);
}
