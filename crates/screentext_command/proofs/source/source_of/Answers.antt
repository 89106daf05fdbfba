use Rattle.std.proofs.Common.{◌∙◌, ◌&&◌, ap, ap₂, codes, is_some, nat_eq, nat_lt, sym, true}
use Rattle.std.specs.Prelude.{string_bytes}
use Rattle.std.specs.Option.{option_map, option_map_or}
use Rattle.clap.specs.Words.{found_of}
use Rattle.clap.proofs.WalkLemmas.{first_value-rows}
use Rattle.command_line.specs.Numbers.{is_count}
use Rattle.recordings.specs.Kinds.{kind_named}
use Rattle.screentext_command.specs.Asked.{cells_meant, kind_meant}
use Rattle.screentext_command.proofs.WordsLemmas.{some_all}
use Rattle.screentext_command.proofs.source.source_of.Goals as goal

pub returns-clause-source : goal.returns-clause-source
returns-clause-source c =
    let f = found_of c.args.matches.now in
    let kind = c.kind_of-kind.ensures.kind ∙ ap (λ o. option_map_or (λ word. is_some (kind_named word)) o true)
    (c.get_str.ensures ∙ first_value-rows f (codes "kind")) in
    let cells = c.most_cells_of-most_cells.ensures.cells
    ∙ ap (λ o. option_map_or is_count o true) (c.get_str-5.ensures ∙ first_value-rows f (codes "max-cells")) in
    c.new_source.ensures.source ∙ ap₂ (λ a b. a && b) kind cells

pub returns-clause-says : goal.returns-clause-says
returns-clause-says c =
    let f = found_of c.args.matches.now in
    let made = c.new_source.ensures in
    some_all c.new_source.result made.found made.words made.flags (λ s found words flags. record {
      kind = sym (c.kind_of-kind.ensures.value
          ∙ ap kind_meant (c.get_str.ensures ∙ first_value-rows f (codes "kind"))) ∙ found.0;
      timing = ap (option_map string_bytes) words.0 ∙ c.in_ok-timing.ensures ∙ c.get_str-2.ensures
          ∙ first_value-rows f (codes "timing");
      moment = ap (option_map string_bytes) words.1 ∙ c.in_ok-moment.ensures ∙ c.get_str-3.ensures
          ∙ first_value-rows f (codes "at");
      since = ap (option_map string_bytes) words.2 ∙ c.in_ok-since.ensures ∙ c.get_str-4.ensures
          ∙ first_value-rows f (codes "diff");
      from = ap (option_map string_bytes) words.3 ∙ c.in_ok-from.ensures ∙ c.get_str-6.ensures
          ∙ first_value-rows f (codes "from");
      poster = ap (option_map string_bytes) words.4 ∙ c.in_ok-poster.ensures ∙ c.get_str-7.ensures
          ∙ first_value-rows f (codes "poster");
      list = flags.0 ∙ ap (λ n. nat_lt 0 n) c.get_count-list.ensures.value;
      draws_lines = flags.1 ∙ ap (λ n. nat_eq n 0) c.get_count-draws_lines.ensures.value;
      strict = flags.2 ∙ ap (λ n. nat_lt 0 n) c.get_count-strict.ensures.value;
      most_cells = sym (c.most_cells_of-most_cells.ensures.value
          ∙ ap cells_meant (c.get_str-5.ensures ∙ first_value-rows f (codes "max-cells"))) ∙ found.1;
    })
