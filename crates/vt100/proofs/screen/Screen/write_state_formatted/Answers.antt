use Rattle.std.proofs.Common.{rules, ap, refl}
use Rattle.std.specs.Prelude.{string_bytes}
use Rattle.vt100_forms.specs.Form.{bytes_of}
use Rattle.vt100.specs.Writers.{contents_formatted}
use Rattle.vt100.proofs.ShownLemmas.{redraw-of_shown}
use Rattle.vt100.proofs.ShortLists.{screen-short}
use Rattle.vt100_core.proofs.WriterLemmas.{appended, begun_rest, bytes_then}
use Rattle.screen_drawing.specs.Modes.{input_mode_formatted}
use Rattle.screen_model.specs.Shown.{shown_state}
use Rattle.vt100.proofs.RefusedWrites.{cut, on_err}
use Rattle.vt100.proofs.screen.Screen.write_state_formatted.Goals as goal

pub returns-in_err-write_contents_formatted : goal.returns-in_err-write_contents_formatted
returns-in_err-write_contents_formatted c =
    let s = c.args.self.now.state in
    record {
      text = search rules;
      redraw = record {
        written = refl;
        shown = λ h. ap bytes_of (redraw-of_shown s h).state;
        short = λ h. (screen-short s s h.attrs.colors h).state_formatted;
      };
      memory = search rules;
      refused = on_err c.from_residual.result (cut (contents_formatted s) (input_mode_formatted (shown_state s)) _ _
          c.in_err-write_contents_formatted.ensures.refused);
    }

pub returns-in_err-write_input_mode_formatted : goal.returns-in_err-write_input_mode_formatted
returns-in_err-write_input_mode_formatted c =
    let s = c.args.self.now.state in
    record {
      text = search rules;
      redraw = record {
        written = refl;
        shown = λ h. ap bytes_of (redraw-of_shown s h).state;
        short = λ h. (screen-short s s h.attrs.colors h).state_formatted;
      };
      memory = search rules;
      refused = on_err c.from_residual-in_err-write_input_mode_formatted.result
          (begun_rest (contents_formatted s) (input_mode_formatted (shown_state s)) _ _ _
          (appended c.write_contents_formatted.new.contents c.in_ok-write_contents_formatted.ensures.text
          c.in_ok-write_contents_formatted.ensures.capacity)
          c.in_err-write_input_mode_formatted.ensures.refused);
    }

pub returns : goal.returns
returns c =
    let s = c.args.self.now.state in
    record {
      text = bytes_then (contents_formatted s) _ (string_bytes c.args.contents.now) _ _
          c.in_ok-write_contents_formatted.ensures.text c.in_ok-write_input_mode_formatted.ensures.text;
      redraw = record {
        written = refl;
        shown = λ h. ap bytes_of (redraw-of_shown s h).state;
        short = λ h. (screen-short s s h.attrs.colors h).state_formatted;
      };
      memory = search rules;
      refused = tt;
    }
