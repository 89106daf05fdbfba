use Rattle.std.proofs.Common.{◌∙◌, ap, drop, refl, sym}
use Rattle.std.specs.Option.{option_map}
use Rattle.recordings.specs.Asciicast.{header_in, header_said}
use Rattle.recordings.specs.Details.{details_said}
use Rattle.recordings.specs.Lines.{first_line, lines_in}
use Rattle.recordings.proofs.CastLemmas.{is_read}
use Rattle.recordings.proofs.LineLemmas.{texts}
use Rattle.recordings.proofs.asciicast.read_header_and_lines.Goals as goal

pub returns-clause-reading : goal.returns-clause-reading
returns-clause-reading c =
    let line = c.first_line.ensures ∙ ap first_line c.unmarked-text.ensures in
    let details = rw c.in-Some.is at c.in_ok-header.ensures.details in
    let lines = c.later.ensures.lines ∙ ap (drop 1) (ap texts c.deref.ensures.value ∙ c.in_ok-lines.ensures.lines
    ∙ ap lines_in c.unmarked-text.ensures) in
    is_read c.args.text.now c.in-Some.header _ _ _ _ _
    (sym (ap (option_map header_said) c.in-Some.is) ∙ c.in_ok-header.ensures.header ∙ ap header_in line)
    (details ∙ ap details_said line) lines c.in_ok-timeline.ensures refl refl refl refl refl c.line_fault.ensures
