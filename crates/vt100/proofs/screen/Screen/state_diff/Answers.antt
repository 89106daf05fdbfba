use Rattle.std.proofs.Common.{◌∙◌, rules, refl, subst, sym}
use Rattle.std.proofs.lemmas.Bool.{false≢true}
use Rattle.vt100.specs.FormLists.{IsShortText}
use Rattle.vt100.proofs.screen.Screen.state_diff.Goals as goal

pub returns-in_err-write_state_diff : goal.returns-in_err-write_state_diff
returns-in_err-write_state_diff c = record {
  text = search rules;
  shown = search rules;
  short = search rules;
  local = search rules;
  memory = search rules;
  empty = λ none. absurd (false≢true (c.in_err-write_state_diff.ensures.empty none));
}

pub returns : goal.returns
returns c =
    let is = rw c.new-contents.ensures.bytes at c.in_ok-write_state_diff.ensures.text in
    let difference = c.in_ok-write_state_diff.ensures.difference in
    record {
      text = is;
      shown = λ o h e. is ∙ difference.shown o h e;
      short = λ h. subst (IsShortText _ 1008) (sym is) (difference.short h);
      local = λ o h e plain. record { written = is; touches = (difference.local o h e plain).touches };
      memory = search rules;
      empty = λ none. refl;
    }
