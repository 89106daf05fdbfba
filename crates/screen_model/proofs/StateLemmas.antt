-- The state of a screen that hasn't failed.
use Rattle.std.proofs.Common.{◌≡◌, Bool, true, false, not, refl, if◌then◌else◌}
use Rattle.vt100_forms.specs.Attrs.{IsProper}
use Rattle.vt100_core.specs.Grid.{GridView, IsGrid, IsAllocated}
use Rattle.screen_model.specs.State.{State, IsState, IsProperSheet}

drawn : (b : Bool) (g h : GridView) → IsAllocated g → (b ≡ true → IsAllocated h)
    → IsAllocated (if b then h else g)
drawn true g h p q = q refl
drawn false g h p q = p

-- what the flag says of the main and of the alternate screen
sheets_keep : (b : Bool) (g h : GridView) → g.kept.keeps ≡ not b → h.kept.keeps ≡ b
    → ((if b then h else g).kept.keeps ≡ true) × ((if b then g else h).kept.keeps ≡ false)
sheets_keep true g h p q = (q, p)
sheets_keep false g h p q = (p, q)

pub state_whole : (s : State) → IsAllocated s.shown → (s.alternate ≡ true → IsAllocated s.other)
    → s.other.height ≡ s.shown.height → s.other.width ≡ s.shown.width
    → s.shown.kept.keeps ≡ not s.alternate → s.other.kept.keeps ≡ s.alternate
    → IsProper s.attrs → IsProper s.saved_attrs → IsProperSheet s.shown → IsProperSheet s.other
    → IsGrid s.shown → IsGrid s.other → IsState s
state_whole s shown main height width keeps other_keeps attrs saved_attrs proper other_proper is_shown is_other =
    record {
      shown = is_shown;
      other = is_other;
      drawn = shown;
      main_drawn = drawn s.alternate s.shown s.other shown main;
      height = height;
      width = width;
      main_keeps = (sheets_keep s.alternate s.shown s.other keeps other_keeps).0;
      alternate_keeps = (sheets_keep s.alternate s.shown s.other keeps other_keeps).1;
      attrs = attrs;
      saved_attrs = saved_attrs;
      proper = proper;
      other_proper = other_proper;
    }
