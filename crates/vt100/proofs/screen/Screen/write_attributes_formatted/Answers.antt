use Rattle.std.proofs.Common.{[], ◌∷◌}
use Rattle.vt100_forms.specs.Form.{ClearAttrs, change}
use Rattle.screen_drawing.specs.Modes.{attributes_formatted}
use Rattle.vt100.proofs.WriteLemmas.{written_then}
use Rattle.vt100.proofs.screen.Screen.write_attributes_formatted.Goals as goal

pub returns : goal.returns
unfolding attributes_formatted
returns c = rw (← c.self.view_is) (rw c.new.ensures at (written_then c.write_escape_code_diff.result (ClearAttrs ∷ [])
    (change c.new.result c.self.inside.attrs) _ _ _ c.in_ok-write_buf.ensures.bytes
    (rw c.attrs.ensures at c.write_escape_code_diff.ensures.bytes)))
