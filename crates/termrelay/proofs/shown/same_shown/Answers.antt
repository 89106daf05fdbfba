use Rattle.std.proofs.Common.{sym}
use Rattle.vt100_core.specs.Picture.{grid_size}
use Rattle.screen_model.specs.Shown.{shown_state}
use Rattle.vt100.proofs.ShownLemmas.{shown-is, old-shown}
use Rattle.termrelay.proofs.SameLemmas.{asked-same}
use Rattle.termrelay.proofs.shown.same_shown.Goals as goal

pub returns : goal.returns
returns c =
    let s = c.args.screen.now.state in
    let t = c.args.other.now.state in
    let asked = c.shows_same.ensures.shown c.requires.unscrolled c.requires.other_unscrolled in
    asked-same (grid_size s.shown) (shown_state s) (shown_state t) c.shows_same.result
    (shown-is s c.requires.unscrolled) (old-shown t s c.requires.other_unscrolled (sym c.requires.size))
    (λ yes. (asked.0 yes).shown) (λ same. asked.1 (record { size = c.requires.size; shown = same }))
