use Rattle.std.proofs.Common.{◌∙◌, ◌&&◌, ap, ap₂, codes, is_some, sym, true}
use Rattle.std.specs.Option.{option_map_or}
use Rattle.clap.specs.Words.{found_of}
use Rattle.clap.proofs.WalkLemmas.{first_value-rows}
use Rattle.command_line.specs.Numbers.{size_in}
use Rattle.recordings.specs.Times.{time_in}
use Rattle.screentext_command.specs.Asked.{idle_meant, plays_meant, rate_meant, speed_meant}
use Rattle.screentext_command.specs.Words.{is_rate, is_speed}
use Rattle.screentext_command.proofs.WordsLemmas.{some_goes}
use Rattle.screentext_command.proofs.pace.pace_of.Goals as goal

pub returns-clause-pace : goal.returns-clause-pace
returns-clause-pace c =
    let f = found_of c.args.matches.now in
    let speed = c.in_ok-speed.ensures.speed
    ∙ ap (λ o. option_map_or is_speed o true) (c.get_str.ensures ∙ first_value-rows f (codes "speed")) in
    let idle = c.in_ok-idle.ensures.idle
    ∙ ap (λ o. option_map_or (λ word. is_some (time_in word)) o true)
    (c.get_str-2.ensures ∙ first_value-rows f (codes "idle")) in
    let rate = c.rate_of-rate.ensures.rate
    ∙ ap (λ o. option_map_or is_rate o true) (c.get_str-3.ensures ∙ first_value-rows f (codes "fps")) in
    let plays = c.plays_of-plays.ensures.plays
    ∙ ap (λ o. option_map_or (λ word. is_some (size_in word)) o true)
    (c.get_str-4.ensures ∙ first_value-rows f (codes "loop")) in
    c.new_pace.ensures.pace
    ∙ ap₂ (λ a b. a && b) speed (ap₂ (λ a b. a && b) idle (ap₂ (λ a b. a && b) rate plays))

pub returns-clause-says : goal.returns-clause-says
returns-clause-says c =
    let f = found_of c.args.matches.now in
    some_goes c.new_pace.result c.new_pace.ensures.found (λ p found. record {
      speed = sym (c.in_ok-speed.ensures.value
          ∙ ap speed_meant (c.get_str.ensures ∙ first_value-rows f (codes "speed"))) ∙ found.0;
      idle = sym (c.in_ok-idle.ensures.value
          ∙ ap idle_meant (c.get_str-2.ensures ∙ first_value-rows f (codes "idle"))) ∙ found.1;
      rate = sym (c.rate_of-rate.ensures.value
          ∙ ap rate_meant (c.get_str-3.ensures ∙ first_value-rows f (codes "fps"))) ∙ found.2;
      plays = sym (c.plays_of-plays.ensures.value
          ∙ ap plays_meant (c.get_str-4.ensures ∙ first_value-rows f (codes "loop"))) ∙ found.3;
    })
