use Rattle.std.proofs.Common.{◌≡◌, ◌∙◌, ap, rules, sym, true, false}
use Rattle.screen_model.specs.Sgr.{Asks, asks, separate_color, read_on, read_groups}
use Rattle.vt100.proofs.screen.sgr.read_group.Goals as goal

pub returns-in_ok-color_in_groups-in-38-clause-reads : goal.returns-in_ok-color_in_groups-in-38-clause-reads
returns-in_ok-color_in_groups-in-38-clause-reads c =
    let asked : asks c.args.group.now c.args.groups.now ≡ separate_color true c.args.groups.now = search rules in
    ap (λ (x : Asks). read_on (read_groups c.args.groups.now) c.args.attrs.now x) asked
    ∙ c.in_ok-color_in_groups-in-38.ensures.reads true c.args.attrs.now
    ∙ ap (read_groups c.color_in_groups.new.groups 0) (sym c.set_fgcolor.ensures)

pub returns-in_ok-color_in_groups-in-48-clause-reads : goal.returns-in_ok-color_in_groups-in-48-clause-reads
returns-in_ok-color_in_groups-in-48-clause-reads c =
    let asked : asks c.args.group.now c.args.groups.now ≡ separate_color false c.args.groups.now = search rules in
    ap (λ (x : Asks). read_on (read_groups c.args.groups.now) c.args.attrs.now x) asked
    ∙ c.in_ok-color_in_groups-in-48.ensures.reads false c.args.attrs.now
    ∙ ap (read_groups c.color_in_groups-in-48.new.groups 0) (sym c.set_bgcolor.ensures)
