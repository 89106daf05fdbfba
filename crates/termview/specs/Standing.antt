-- The state of a view: the bytes that it has parsed, the bytes that it has buffered, and what it shows of the first.
use Rattle.std.specs.Prelude.{ℕ, false, List, [], ◌∷◌, ◌++◌, ◌≡◌, Option, is_some}
use Rattle.vte_types.specs.Call.{Call}
use Rattle.vte.specs.Timeout.{Ticking, Clears, Ticked, Awaits}
use Rattle.vte.specs.Stretch.{ticks_from}
use Rattle.vte.specs.Hold.{held_of}
use Rattle.vte.specs.Advances.{Advances}
use Rattle.vte.specs.Standing as processor
use Rattle.vte.specs.Standing.{TakesPiece}
use Rattle.terminal_model.specs.Term.{Size, Term}
use Rattle.termview.specs.Picture.{term_of_picture}
use Rattle.termview.specs.Seen.{seen}
use Rattle.termview.specs.declared.view.View.{View}

abbrev pub view_size : {T : Type 0} → View T → Size
view_size v = v.picture.size

-- what the view shows, and what it has saved
abbrev pub shown_by : {T : Type 0} → View T → Term
shown_by v = term_of_picture v.picture

abbrev pub timeout_of : {T : Type 0} → View T → T
timeout_of v = processor.timeout_of v.processor

-- the view has parsed `parsed` and shows its effect on a blank terminal, and it has buffered `held`
pub record ViewIsAfter {T : Type 0} (v : View T) (parsed held : List ℕ) : Type 0 where
  pub reads : processor.IsStateAfter v.processor parsed held
  pub shows : shown_by v ≡ seen (view_size v) parsed

-- the view is in that state, and the timeout is pending exactly if an update is open
pub record HoldsAt {T : Type 0} (ticking : Ticking T) (v : View T) (parsed : List ℕ) (hold : Option (List ℕ))
    : Type 0 where
  pub state_after : ViewIsAfter v parsed (held_of hold)
  pub awaits : Awaits ticking (timeout_of v) (is_some hold)

-- the state of the view after the next bytes
pub record Advanced {T : Type 0} (ticking : Ticking T) (old : View T) (parsed held piece : List ℕ) (new : View T)
    : Type 0 where
  pub parsed' : List ℕ
  pub held' : List ℕ
  pub calls : List Call
  pub advances : Advances ticking false (timeout_of old) parsed held piece (timeout_of new) parsed' held' calls
  pub state_after : ViewIsAfter new parsed' held'
  pub size : view_size new ≡ view_size old

-- the state of the view after the next bytes, with a timeout that is pending exactly from setting to clearing
pub record Taken {T : Type 0} (ticking : Ticking T) (old : View T) (parsed : List ℕ) (hold : Option (List ℕ))
    (piece : List ℕ) (new : View T) : Type 0 where
  pub leads : TakesPiece ticking (timeout_of old) parsed hold piece (timeout_of new)
  pub state_after : HoldsAt ticking new leads.parsed' leads.hold'
  pub size : view_size new ≡ view_size old

-- all buffered bytes were parsed, and the update was closed
pub record Emptied {T : Type 0} (ticking : Ticking T) (old : View T) (parsed held : List ℕ) (new : View T)
    : Type 0 where
  pub state_after : ViewIsAfter new (parsed ++ held) []
  pub ticked : Ticked ticking (timeout_of old) (ticks_from parsed held ++ Clears ∷ []) (timeout_of new)
  pub size : view_size new ≡ view_size old
