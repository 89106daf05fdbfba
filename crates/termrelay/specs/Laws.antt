-- Laws of a hub's calls.
use Rattle.std.specs.Prelude.{ℕ, List, ◌∷◌, ◌++◌, Ok}
use Rattle.termrelay.specs.Hub.{HubState, as_kept, Feeds}
use Rattle.termrelay.specs.Calls.{Call, Feed}
use Rattle.termrelay.specs.Log.{SessionView, RunsLogged}
use Rattle.termrelay.specs.declared.runs.call.Reply.{Reply}
use Rattle.termrelay.specs.declared.runs.call.Reply.TheVariants.{Done}

-- two feeds that succeed give the same hub as one successful feed of the joined bytes
abbrev pub TwoFeedsAreOne : Type 0
TwoFeedsAreOne = (h g k : HubState as_kept) (a b : List ℕ) → Feeds h a (Ok tt) g → Feeds g b (Ok tt) k
    → Feeds h (a ++ b) (Ok tt) k

-- in a run the two feeds can be joined too: the log has one reply less, and the same sessions
abbrev pub TwoFeedsRunAsOne : Type 0
TwoFeedsRunAsOne = (h k : HubState as_kept) (ss ts : List SessionView) (a b : List ℕ) (calls : List Call)
    (replies : List Reply)
    → RunsLogged h ss (Feed a ∷ Feed b ∷ calls) (Done ∷ Done ∷ replies) k ts
    → RunsLogged h ss (Feed (a ++ b) ∷ calls) (Done ∷ replies) k ts
