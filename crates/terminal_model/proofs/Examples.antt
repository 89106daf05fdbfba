-- Small screens, computed.
use Rattle.std.proofs.Common.{refl}
use lib.Utf8.{encode}
use Rattle.unicode_width.specs.Width.{char_width}
use Rattle.terminal_model.specs.Position.{update}
use Rattle.terminal_model.specs.Apply.{with_line, erase, print, join, down, wrap, made_to_fit, input, apply}
use Rattle.terminal_model.specs.Examples.{EachExampleHolds}

pub examples-hold : EachExampleHolds
unfolding char_width encode update with_line erase print join down wrap made_to_fit input apply
examples-hold = record {
  typed_texts = refl;
  differed_texts = refl;
  differed_flag = refl;
  waiting = refl;
  moved_right = refl;
  moved_by_none = refl;
  scrolled_texts = refl;
  scrolled_flags = refl;
  cleared = refl;
  cleared_beyond = refl;
  restored = refl;
  halved = λ w e d. rw (e, d) refl;
  wrapped_wide = λ w e d. rw (e, d) refl;
  wrapped_flag = λ w e d. rw (e, d) refl;
  joined = λ m e d. rw (e, d) refl;
}
