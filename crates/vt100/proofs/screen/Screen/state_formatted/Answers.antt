use Rattle.std.proofs.Common.{◌∙◌, rules, subst, sym}
use Rattle.vt100.specs.FormLists.{IsShortText}
use Rattle.vt100.proofs.screen.Screen.state_formatted.Goals as goal

pub returns : goal.returns
returns c =
    let is = rw c.new-contents.ensures.bytes at c.in_ok-write_state_formatted.ensures.text in
    let redraw = c.in_ok-write_state_formatted.ensures.redraw in
    record {
      text = is;
      shown = λ h. is ∙ redraw.shown h;
      short = λ h. subst (IsShortText _ 1008) (sym is) (redraw.short h);
      memory = search rules;
    }
