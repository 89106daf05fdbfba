-- The events of the bytes of some forms, computed.
use Rattle.std.proofs.Common.{refl}
use Rattle.std.specs.Fmt.{digits}
use lib.Utf8.{encode}
use Rattle.forms_read.specs.Examples.{EachExampleHolds}

pub examples-hold : EachExampleHolds
unfolding digits encode
examples-hold = record {
  moved = refl;
  moved_far = refl;
  counted = refl;
  cleared = refl;
  written = refl;
  saved = refl;
  modes = refl;
  styled = refl;
  colored = refl;
}
