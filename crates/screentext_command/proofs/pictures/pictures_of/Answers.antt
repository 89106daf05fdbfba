use Rattle.std.proofs.Common.{◌∙◌, ◌&&◌, ap, ap₂, codes, nat_lt, sym, true}
use Rattle.std.specs.Prelude.{string_bytes}
use Rattle.std.specs.Option.{option_map, option_map_or}
use Rattle.clap.specs.Words.{found_of, rows_of}
use Rattle.clap.proofs.WalkLemmas.{first_value-rows}
use Rattle.row_pictures.specs.Themes.{is_theme}
use Rattle.screentext_command.specs.Asked.{bold_meant, theme_meant}
use Rattle.screentext_command.specs.Words.{is_bold}
use Rattle.row_pictures.specs.Frames.{frame_said}
use Rattle.screentext_command.specs.Frames.{SaysFrame}
use Rattle.screentext_command.proofs.WordsLemmas.{pace_said, some_at, some_both}
use Rattle.screentext_command.proofs.pictures.pictures_of.Goals as goal

pub returns-clause-pictures : goal.returns-clause-pictures
returns-clause-pictures c =
    let f = found_of c.args.matches.now in
    let theme = c.theme_of-theme.ensures.theme
    ∙ ap (λ o. option_map_or is_theme o true) (c.get_str.ensures ∙ first_value-rows f (codes "theme")) in
    let bold = c.bold_of-bold.ensures.bold
    ∙ ap₂ (λ m n. is_bold (nat_lt 0 m) (nat_lt 0 n)) c.get_count.ensures.value c.get_count-2.ensures.value in
    c.new_pictures.ensures.pictures
    ∙ ap₂ (λ a b. a && b) theme (ap₂ (λ a b. a && b) bold (ap₂ (λ a b. a && b) c.in_ok-pace.ensures.pace
    c.in_ok-frame.ensures.frame))

pub returns-clause-says : goal.returns-clause-says
returns-clause-says c =
    let f = found_of c.args.matches.now in
    let made = c.new_pictures.ensures in
    some_both c.new_pictures.result made.found made.given (λ p found given. record {
      theme = sym (c.theme_of-theme.ensures.value
          ∙ ap theme_meant (c.get_str.ensures ∙ first_value-rows f (codes "theme"))) ∙ found.0;
      font = ap (option_map string_bytes) given.0 ∙ c.in_ok-font.ensures ∙ c.get_str-2.ensures
          ∙ first_value-rows f (codes "font");
      bold_is_bright = sym (c.bold_of-bold.ensures.value
          ∙ ap₂ (λ m n. bold_meant (nat_lt 0 m) (nat_lt 0 n)) c.get_count.ensures.value c.get_count-2.ensures.value)
          ∙ found.1;
      hides_cursor = given.1 ∙ ap (λ n. nat_lt 0 n) c.get_count-hides_cursor.ensures.value;
      pace = pace_said (rows_of f) c.in_ok-pace.pace p.pace found.2 c.in_ok-pace.ensures.says;
      frame = some_at c.in_ok-frame.frame p.frame (λ frame. SaysFrame (rows_of f) (frame_said frame)) found.3
          c.in_ok-frame.ensures.says;
    })
