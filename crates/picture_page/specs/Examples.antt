-- Examples: what is seen of some pictures.
use Rattle.std.specs.Prelude.{◌≡◌, [], codes}
use Rattle.picture_page.specs.Seen.{seen}

pub record EachExampleHolds : Type 0 where
  -- a text in a run of cells, and then a digit
  pub digit : seen (codes "<span style=\"color:#00cd00\">a b</span>1") ≡ codes "a b1"
  -- a text in a label alone
  pub label : seen (codes "<path fill=\"#cdcd00\" aria-label=\"a b\"/>") ≡ []
  -- a letter of a path's data that is outside of the path
  pub letter : seen (codes "<path d=\"M0 9h9\"/>M0") ≡ codes "M0"
  -- a text that was escaped
  pub escaped : seen (codes "<b>a &lt;b&gt;</b>") ≡ codes "a &lt;b&gt;"
