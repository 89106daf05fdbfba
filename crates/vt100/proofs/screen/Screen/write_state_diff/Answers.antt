use Rattle.std.proofs.Common.{rules, ap, refl}
use Rattle.std.specs.Prelude.{string_bytes}
use Rattle.std.proofs.lemmas.Bool.{false≢true}
use Rattle.vt100_forms.specs.Attrs.{HasByteColors}
use Rattle.vt100_forms.specs.Form.{bytes_of}
use Rattle.vt100.specs.Writers.{contents_diff}
use Rattle.screen_drawing.specs.Modes.{input_mode_diff}
use Rattle.screen_model.specs.Shown.{shown_state}
use Rattle.vt100.proofs.WriteLemmas.{none-joined}
use Rattle.vt100.proofs.ShownLemmas.{difference-of_shown}
use Rattle.vt100.proofs.FormLists.{differences-local}
use Rattle.vt100.proofs.ShortLists.{screen-short}
use Rattle.vt100_core.proofs.WriterLemmas.{appended, begun_rest, bytes_then}
use Rattle.vt100.proofs.RefusedWrites.{cut, on_err}
use Rattle.vt100.proofs.screen.Screen.write_state_diff.Goals as goal

pub returns-in_err-write_contents_diff : goal.returns-in_err-write_contents_diff
returns-in_err-write_contents_diff c =
    let old = c.args.prev.now.state in
    let new = c.args.self.now.state in
    let colors : HasByteColors old.attrs = rw (← c.prev.view_is) c.prev.invariant.attrs.colors in
    record {
      text = search rules;
      difference = record {
        written = refl;
        shown = λ o h e. ap bytes_of (difference-of_shown old new o h e).state;
        short = λ h. (screen-short old new colors h).state_diff;
        local = λ o h e plain. record { written = refl; touches = (differences-local old new o h e plain).1 };
      };
      memory = search rules;
      refused = on_err c.from_residual.result (cut (contents_diff old new)
          (input_mode_diff (shown_state old) (shown_state new)) _ _ c.in_err-write_contents_diff.ensures.refused);
      empty = λ none. absurd (false≢true (c.in_err-write_contents_diff.ensures.empty
          (none-joined (contents_diff old new) (input_mode_diff (shown_state old) (shown_state new)) none).0));
    }

pub returns-in_err-write_input_mode_diff : goal.returns-in_err-write_input_mode_diff
returns-in_err-write_input_mode_diff c =
    let old = c.args.prev.now.state in
    let new = c.args.self.now.state in
    let colors : HasByteColors old.attrs = rw (← c.prev.view_is) c.prev.invariant.attrs.colors in
    record {
      text = search rules;
      difference = record {
        written = refl;
        shown = λ o h e. ap bytes_of (difference-of_shown old new o h e).state;
        short = λ h. (screen-short old new colors h).state_diff;
        local = λ o h e plain. record { written = refl; touches = (differences-local old new o h e plain).1 };
      };
      memory = search rules;
      refused = on_err c.from_residual-in_err-write_input_mode_diff.result
          (begun_rest (contents_diff old new) (input_mode_diff (shown_state old) (shown_state new)) _ _ _
          (appended c.write_contents_diff.new.contents c.in_ok-write_contents_diff.ensures.text
          c.in_ok-write_contents_diff.ensures.capacity)
          c.in_err-write_input_mode_diff.ensures.refused);
      empty = λ none. absurd (false≢true (c.in_err-write_input_mode_diff.ensures.empty
          (none-joined (contents_diff old new) (input_mode_diff (shown_state old) (shown_state new)) none).1));
    }

pub returns : goal.returns
returns c =
    let old = c.args.prev.now.state in
    let new = c.args.self.now.state in
    let colors : HasByteColors old.attrs = rw (← c.prev.view_is) c.prev.invariant.attrs.colors in
    record {
      text = bytes_then (contents_diff old new) _ (string_bytes c.args.contents.now) _ _
          c.in_ok-write_contents_diff.ensures.text c.in_ok-write_input_mode_diff.ensures.text;
      difference = record {
        written = refl;
        shown = λ o h e. ap bytes_of (difference-of_shown old new o h e).state;
        short = λ h. (screen-short old new colors h).state_diff;
        local = λ o h e plain. record { written = refl; touches = (differences-local old new o h e plain).1 };
      };
      memory = search rules;
      refused = tt;
      empty = λ none. refl;
    }
