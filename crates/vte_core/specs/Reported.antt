-- What a call of a parser reports to its performer.
use Rattle.std.specs.Prelude.{◌≡◌, ℕ, List, [], ◌++◌}
use Rattle.vte_core.specs.Event.{Event, Performs}
use Rattle.vte_core.specs.Shapes.{events}
use Rattle.vte_core.specs.Standing.{IsAfter}
use Rattle.vte_core.specs.declared.parser.Parser.{Parser}

-- the performer has gone through some events: none where there are no bytes, and, whatever past the parser had, those
-- that the bytes add to it
pub record Reported {S : Type 0} (step : S → Event → S
    → Type 0) (n : ℕ) (parser : Parser n) (old : S) (bytes : List ℕ) (new : S) : Type 0 where
  pub reported : List Event
  pub performed : Performs step old reported new
  pub none : bytes ≡ [] → reported ≡ []
  pub added : (past : List ℕ) → IsAfter n parser past → events n (past ++ bytes) ≡ events n past ++ reported
