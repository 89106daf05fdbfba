use Rattle.std.proofs.Common.{◌≡◌, ◌++◌, take}
use Rattle.picture_page.specs.Page.{Adds, escaped}
use Rattle.picture_page.proofs.page.Page.text.Given as goal

-- what was appended so far
abbrev pub invariant-loop-byte : goal.invariant-loop-byte
invariant-loop-byte l = record {
  adds : Adds l.fn.self l.self (take l.byte-index l.text);
  bytes : l.self ≡ l.fn.self ++ escaped (take l.byte-index l.text);
}
