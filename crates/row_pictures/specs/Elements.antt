-- Parts of elements.
use Rattle.std.specs.Prelude.{◌≡◌, ℕ, Bool, List, [], ◌++◌, if◌then◌else◌}
use Rattle.picture_page.specs.Bytes.{color_bytes}
use Rattle.picture_page.specs.Tags.{tag_bytes}
use Rattle.picture_page.specs.declared.page.Rgb.{Rgb}
use Rattle.picture_page.specs.declared.tag.Tag.{Tag}

abbrev pub tag_if : Bool → Tag → List ℕ
tag_if on t = if on then tag_bytes t else []

abbrev pub filled : Tag → Rgb → List ℕ
filled t color = tag_bytes t ++ color_bytes color

-- bytes are appended of which this holds
pub record AddsSo (Holds : List ℕ → Type 0) (old new : List ℕ) : Type 0 where
  pub more : List ℕ
  pub joined : new ≡ old ++ more
  pub holds : Holds more
