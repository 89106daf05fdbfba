-- The state after the bytes of a program and resizes, from a new terminal on.
use Rattle.std.specs.Prelude.{ℕ, List, [], ◌∷◌, ◌++◌, length, drop}
use Rattle.vte_core.specs.Event.{Event}
use Rattle.vte_core.specs.Shapes.{events}
use Rattle.screen_model.specs.State.{State, fresh_state}
use Rattle.screen_model.specs.Step.{resized_to}
use Rattle.screen_model.specs.Effect.{effect}

-- bytes are fed, or the terminal gets another size
pub data Act : Type 0 where
  Fed : List ℕ → Act
  Resized : ℕ → ℕ → Act

-- the state after these events, if no callback changes it
abbrev pub played : List Event → State → State
played [] s = s
played (e ∷ es) s = played es (effect e s).state

-- the events of a stream with these bytes, without those of the bytes before
abbrev pub events_added : List ℕ → List ℕ → List Event
events_added past bytes = drop (length (events 1024 past)) (events 1024 (past ++ bytes))

-- the bytes that were fed
abbrev pub bytes_fed : List Act → List ℕ
bytes_fed [] = []
bytes_fed (Fed bs ∷ acts) = bs ++ bytes_fed acts
bytes_fed (Resized rows cols ∷ acts) = bytes_fed acts

-- The state after these acts, if `past` was fed before. An event takes effect where its last byte is fed.
abbrev pub made_on : List ℕ → State → List Act → State
made_on past s [] = s
made_on past s (Fed bs ∷ acts) = made_on (past ++ bs) (played (events_added past bs) s) acts
made_on past s (Resized rows cols ∷ acts) = made_on past (resized_to rows cols s).state acts

-- the state after these acts, for a new terminal of this size that keeps at most `capacity` rows
abbrev pub made : ℕ → ℕ → ℕ → List Act → State
made rows cols capacity acts = made_on [] (fresh_state rows cols capacity) acts
