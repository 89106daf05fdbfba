-- The length of a frame.
use Rattle.std.proofs.Common.{◌≡◌, ◌||◌, ◌++◌, length, Option, Some, None, refl, arith, length-append}
use Rattle.std.proofs.lemmas.Bool.{cond_both}
use Rattle.vt100_forms.specs.Form.{bytes_of}
use Rattle.terminal_model.specs.Term.{Size, Shown}
use Rattle.screen_drawing.specs.Length.{IsSmallScreen, IsWithin}
use Rattle.screen_drawing.specs.Modes.{input_mode_diff}
use Rattle.screen_drawing.specs.Screen.{contents_formatted, state_diff}
use Rattle.screen_drawing.proofs.Costs.{join-length}
use Rattle.screen_drawing.proofs.Lengths.{each-short}
use Rattle.termrelay.specs.Frame.{start_mark, end_mark, is_unsure, body_forms, HasByteBase, EachFrameIsShort}

body-short : (z : Size) (base : Option Shown) (now : Shown) → HasByteBase base → IsSmallScreen z now
    → IsWithin z 1008 (body_forms z base now)
unfolding body_forms
body-short z None now h small = (each-short z now now small.attrs small).state_formatted
body-short z (Some base) now h small =
    let each = each-short z base now h small in
    let contents = contents_formatted z now in
    let modes = input_mode_diff base now in
    cond_both (is_unsure z base || is_unsure z now) (contents ++ modes) (state_diff z base now) (IsWithin z 1008)
    (λ _. omega (arith, join-length contents modes, each.contents_formatted, each.input_mode_diff))
    (λ _. each.state_diff)

pub frame-short : EachFrameIsShort
frame-short z base now h small =
    let body = bytes_of (body_forms z base now) in
    let start : length start_mark ≡ 8 = refl in
    let end : length end_mark ≡ 8 = refl in
    omega (
      arith,
      length-append start_mark (body ++ end_mark),
      length-append body end_mark,
      start,
      end,
      body-short z base now h small,
    )
