use Rattle.std.proofs.Common.{◌∙◌, rules, ap, refl, subst, sym}
use Rattle.vt100_forms.specs.Attrs.{HasByteColors}
use Rattle.vt100_forms.specs.Form.{bytes_of}
use Rattle.vt100.specs.FormLists.{IsShortText}
use Rattle.vt100.proofs.ShownLemmas.{difference-of_shown}
use Rattle.vt100.proofs.FormLists.{differences-local}
use Rattle.vt100.proofs.ShortLists.{screen-short}
use Rattle.vt100.proofs.screen.Screen.contents_diff.Goals as goal

pub returns : goal.returns
returns c =
    let old = c.args.prev.now.state in
    let new = c.args.self.now.state in
    let is = rw c.new-contents.ensures.bytes at c.in_ok-write_contents_diff.ensures.text in
    let colors : HasByteColors old.attrs = rw (← c.prev.view_is) c.prev.invariant.attrs.colors in
    record {
      text = is;
      shown = λ o h e. is ∙ ap bytes_of (difference-of_shown _ _ o h e).contents;
      short = λ h. subst (IsShortText _ 512) (sym is) (screen-short old new colors h).contents_diff;
      local = λ o h e plain. record { written = is; touches = (differences-local _ _ o h e plain).0 };
      memory = search rules;
      empty = λ none. refl;
    }
