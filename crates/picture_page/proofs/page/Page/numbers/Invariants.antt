use Rattle.std.proofs.Common.{◌≡◌, [], ◌++◌, take}
use Rattle.picture_page.specs.Bytes.{numbers_bytes}
use Rattle.picture_page.specs.Page.{Adds}
use Rattle.picture_page.proofs.page.Page.numbers.Given as goal

-- what was appended so far
abbrev pub invariant-loop-tag : goal.invariant-loop-tag
invariant-loop-tag l = record {
  adds : Adds l.fn.self l.self [];
  bytes : l.self ≡ l.fn.self ++ numbers_bytes (take l.tag-index l.numbers);
}
