use Rattle.std.proofs.Common.{◌∙◌, ◌&&◌, ap, ap₂, codes, is_some, sym}
use Rattle.std.specs.Option.{option_map}
use Rattle.std.specs.Prelude.{string_bytes}
use Rattle.clap.specs.Words.{found_of}
use Rattle.clap.proofs.WalkLemmas.{first_value-rows}
use Rattle.screentext_command.specs.Frames.{font_size_meant, padding_meant}
use Rattle.screentext_command.proofs.WordsLemmas.{some_goes}
use Rattle.screentext_command.proofs.frames.frame_of.Goals as goal

pub returns-clause-frame : goal.returns-clause-frame
returns-clause-frame c =
    let f = found_of c.args.matches.now in
    let padding = c.padding_of-padding.ensures
    ∙ ap padding_meant (c.get_str.ensures ∙ first_value-rows f (codes "padding")) in
    let size = c.font_size_of-size.ensures
    ∙ ap font_size_meant (c.get_str-2.ensures ∙ first_value-rows f (codes "font-size")) in
    c.new_frame.ensures.frame ∙ ap₂ (λ a b. is_some a && is_some b) padding size

pub returns-clause-says : goal.returns-clause-says
returns-clause-says c =
    let f = found_of c.args.matches.now in
    some_goes c.new_frame.result c.new_frame.ensures.found (λ p found. record {
      padding = sym (c.padding_of-padding.ensures
          ∙ ap padding_meant (c.get_str.ensures ∙ first_value-rows f (codes "padding"))) ∙ found.0;
      font_size = sym (c.font_size_of-size.ensures
          ∙ ap font_size_meant (c.get_str-2.ensures ∙ first_value-rows f (codes "font-size"))) ∙ found.1;
      title = ap (option_map string_bytes) found.2 ∙ c.in_ok-title.ensures ∙ c.get_str-3.ensures
          ∙ first_value-rows f (codes "window");
    })
