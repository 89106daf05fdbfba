use Rattle.std.proofs.Common.{◌∙◌, rules, ap, subst, sym}
use Rattle.vt100_forms.specs.Form.{bytes_of}
use Rattle.vt100.specs.FormLists.{IsShortText}
use Rattle.vt100.proofs.ShownLemmas.{redraw-of_shown}
use Rattle.vt100.proofs.ShortLists.{screen-short}
use Rattle.vt100.proofs.screen.Screen.contents_formatted.Goals as goal

pub returns : goal.returns
returns c =
    let s = c.args.self.now.state in
    let is = rw c.new-contents.ensures.bytes at c.in_ok-write_contents_formatted.ensures.text in
    record {
      text = is;
      shown = λ h. is ∙ ap bytes_of (redraw-of_shown _ h).contents;
      short = λ h. subst (IsShortText _ 512) (sym is) (screen-short s s h.attrs.colors h).contents_formatted;
      memory = search rules;
    }
