-- What a parser does with a byte other than ESC, by the state in which it comes, and the state after it.
use Rattle.std.specs.Prelude.{ℕ, Bool, true, false, not, ◌&&◌, ◌||◌, ◌==◌, nat_lt}
use Rattle.std.specs.Int.{is_in_range}
use Rattle.vte_core.specs.Bytes.{is_abort, is_control, is_intermediate, is_numeric, is_private}
use Rattle.vte_core.specs.declared.parser.State.{State}
use Rattle.vte_core.specs.declared.parser.State.TheVariants as s
use Rattle.vte_core.specs.declared.table.Action.{Action}
use Rattle.vte_core.specs.declared.table.Action.TheVariants.{Ignore, Abort, Execute, Collect, Param, Dispatch, Put}
use Rattle.vte_core.specs.declared.table.Action.TheVariants.{End}

-- whether the byte does this in the state
abbrev pub does : State → Action → ℕ → Bool
does s.Ground a b = true
does s.Escape Abort b = is_abort b
does s.Escape Execute b = is_control b
does s.Escape Collect b = is_intermediate b
does s.Escape Dispatch b = is_in_range 0x30 0x7E b
does s.Escape Ignore b = nat_lt 0x7E b
does s.Csi Abort b = is_abort b
does s.Csi Execute b = is_control b
does s.Csi Collect b = is_intermediate b || is_private b
does s.Csi Param b = is_numeric b
does s.Csi Dispatch b = is_in_range 0x40 0x7E b
does s.Csi Ignore b = nat_lt 0x7E b
does s.OscString Abort b = is_abort b
does s.OscString End b = b == 0x07
does s.OscString Put b = not (nat_lt b 0x20)
does s.OscString Ignore b = is_control b && not (b == 0x07)
does s.DcsHeader Abort b = is_abort b
does s.DcsHeader Collect b = is_intermediate b || is_private b
does s.DcsHeader Param b = is_numeric b
does s.DcsHeader Dispatch b = is_in_range 0x40 0x7E b
does s.DcsHeader Ignore b = is_control b || nat_lt 0x7E b
does s.DcsPassthrough Abort b = is_abort b
does s.DcsPassthrough End b = b == 0x9C
does s.DcsPassthrough Put b = nat_lt b 0x7F && not (is_abort b)
does s.DcsPassthrough Ignore b = nat_lt 0x7E b && not (b == 0x9C)
does s.SosPmApcString Abort b = is_abort b
does s.SosPmApcString Ignore b = not (is_abort b)
does x a b = false

-- the state after it
abbrev pub next_state : State → Action → State
next_state x Abort = s.Ground
next_state x End = s.Ground
next_state s.Escape Dispatch = s.Ground
next_state s.Csi Dispatch = s.Ground
next_state s.DcsHeader Dispatch = s.DcsPassthrough
next_state x a = x
