-- How many bytes redraws and differences of screens can have.
use Rattle.std.proofs.Common.{ℕ, zero, suc, ◌*◌, ◌<◌, ◌≤◌, length, arith}
use Rattle.std.proofs.Math.Nat.{mul-suc}
use Rattle.vt100_forms.specs.Form.{bytes_of}
use Rattle.terminal_model.specs.Term.{Shown}
use Rattle.screen_drawing.specs.Modes.{input_mode_formatted, input_mode_diff}
use Rattle.screen_drawing.specs.Length.{EachIsShort}
use Rattle.screen_drawing.proofs.Lists.{modes-set, modes-changed}
use Rattle.screen_drawing.proofs.Costs.{IsSmallList, small-measure}
use Rattle.screen_drawing.proofs.SmallScreens.{small-modes, each-small}

pub le-times : (n m : ℕ) → 0 < m → n ≤ n * m
le-times n zero h = absurd (omega (arith, h))
le-times n (suc k) h = omega (arith, mul-suc n k)

pub modes-length : (s : Shown) → length (bytes_of (input_mode_formatted s)) ≤ 36
modes-length s = (modes-set IsSmallList small-measure small-modes s).1

pub modes_diff-length : (old new : Shown) → length (bytes_of (input_mode_diff old new)) ≤ 36
modes_diff-length old new = (modes-changed IsSmallList small-measure small-modes old new).1

pub each-short : EachIsShort
each-short z old new ha h =
    let all = each-small z old new ha h in
    let rows = le-times z.rows z.cols h.shown.some_col in
    record {
      grid_formatted = omega (arith, all.grid_formatted.1, rows, h.shown.in_rows);
      grid_diff = omega (arith, all.grid_diff.1, rows, h.shown.in_rows);
      contents_formatted = omega (arith, all.contents_formatted.1, rows, h.shown.in_rows);
      contents_diff = omega (arith, all.contents_diff.1, rows, h.shown.in_rows);
      state_formatted = omega (arith, all.state_formatted.1, rows, h.shown.in_rows);
      state_diff = omega (arith, all.state_diff.1, rows, h.shown.in_rows);
      input_mode_formatted = omega (arith, modes-length new);
      input_mode_diff = omega (arith, modes_diff-length old new);
    }
