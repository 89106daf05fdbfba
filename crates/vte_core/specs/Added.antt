-- What bytes add to the events of a stream, for a parser that keeps n bytes of an operating system command.
use Rattle.std.specs.Prelude.{ℕ, List, ◌++◌, drop, length}
use Rattle.vte_core.specs.Event.{Event}
use Rattle.vte_core.specs.Shapes.{events}

-- the events that the stream has with these bytes, beyond those of its past
unfoldable pub added : ℕ → List ℕ → List ℕ → List Event
added n past bytes = drop (length (events n past)) (events n (past ++ bytes))
