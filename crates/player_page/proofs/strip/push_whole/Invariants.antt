use Rattle.std.proofs.Common.{◌≡◌, ◌++◌, [], take}
use Rattle.picture_page.specs.Page.{Adds}
use Rattle.picture_page.specs.Tags.{tag_bytes}
use Rattle.picture_page.specs.declared.tag.Tag.TheVariants as tag
use Rattle.player_page.specs.Lines.{spaced}
use Rattle.player_page.proofs.strip.push_whole.Given as goal

-- the mark and the numbers so far, and no text
abbrev pub invariant-loop-number : goal.invariant-loop-number
invariant-loop-number l = record {
  bytes : l.page ≡ l.fn.page ++ (tag_bytes tag.Whole ++ spaced (take l.number-index l.numbers));
  adds : Adds l.fn.page l.page [];
}
