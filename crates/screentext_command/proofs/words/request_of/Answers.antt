use Rattle.std.proofs.Common.{◌∙◌, ◌&&◌, ap, ap₂, true, codes, nat_lt, sym}
use Rattle.std.specs.Option.{option_map, option_map_or}
use Rattle.clap.specs.Words.{found_of}
use Rattle.clap.proofs.WalkLemmas.{first_value-rows}
use Rattle.command_line.specs.Numbers.{is_count}
use Rattle.recordings.specs.Recorded.{size_said}
use Rattle.screentext_command.specs.declared.rows.Look.{Look}
use Rattle.screentext_command.specs.Asked.{history_meant, screen_meant}
use Rattle.screentext_command.specs.Words.{is_screen}
use Rattle.screentext_command.proofs.WordsLemmas.{form_counts, forms_meant, some_both}
use Rattle.screentext_command.proofs.words.request_of.Goals as goal

pub returns-clause-request : goal.returns-clause-request
returns-clause-request c =
    let f = found_of c.args.matches.now in
    let size = c.size_of-size.ensures.size
    ∙ ap₂ is_screen (c.get_str.ensures ∙ first_value-rows f (codes "ROWS")) (c.get_str-2.ensures
    ∙ first_value-rows f (codes "COLS")) in
    let history = c.history_of-history.ensures.history
    ∙ ap (λ o. option_map_or is_count o true) (c.get_str-3.ensures ∙ first_value-rows f (codes "history")) in
    let form = c.form_of-form.ensures.form
    ∙ form_counts _ _ _ _ _ _ _ _ _ _ c.get_count.ensures.value c.get_count-2.ensures.value c.get_count-3.ensures.value
    c.get_count-4.ensures.value c.get_count-5.ensures.value in
    c.new_request.ensures.request
    ∙ ap₂ (λ a b. a && b) size (ap₂ (λ a b. a && b) c.in_ok-times.ensures.moments (ap₂ (λ a b. a && b) history form))

pub returns-clause-says : goal.returns-clause-says
returns-clause-says c =
    let f = found_of c.args.matches.now in
    let made = c.new_request.ensures in
    some_both c.new_request.result made.found made.look (λ r found look pictures manner. record {
      size = sym (c.size_of-size.ensures.value
          ∙ ap₂ screen_meant (c.get_str.ensures ∙ first_value-rows f (codes "ROWS")) (c.get_str-2.ensures
          ∙ first_value-rows f (codes "COLS"))) ∙ ap (option_map (option_map size_said)) found.0;
      history = sym (c.history_of-history.ensures.value
          ∙ ap history_meant (c.get_str-3.ensures ∙ first_value-rows f (codes "history"))) ∙ found.1;
      joined = ap (λ (l : Look). l.joined) look ∙ ap (λ n. nat_lt 0 n) c.get_count-6.ensures.value;
      colors = ap (λ (l : Look). l.colors) look ∙ ap (λ n. nat_lt 0 n) c.get_count-7.ensures.value;
      form = sym (c.form_of-form.ensures.value
          ∙ forms_meant _ _ _ _ _ _ _ _ _ _ c.get_count.ensures.value c.get_count-2.ensures.value
          c.get_count-3.ensures.value c.get_count-4.ensures.value c.get_count-5.ensures.value) ∙ found.2;
      manner = manner;
    })
