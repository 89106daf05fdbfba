-- One call more.
use Rattle.std.proofs.Common.{◌≡◌, ◌∙◌, ℕ, ◌+◌, ◌<◌, ◌≤◌, List, [], ◌∷◌, ◌++◌, map, take, length, Result, Err}
use Rattle.std.proofs.Common.{refl, sym, ap, arith, append-nil, append_assoc, get_or}
use Rattle.std.proofs.lemmas.List.{take-map, take_more, take_all, length-map, map-append}
use Rattle.termrelay.specs.declared.runs.call.Reply.{Reply}
use Rattle.termrelay.specs.declared.runs.call.Call.{Call as Given}
use Rattle.termrelay.specs.declared.error.HubError.{HubError}
use Rattle.termrelay.specs.declared.error.HubError.TheVariants.{Memory}
use Rattle.termrelay.specs.Hub.{HubState, as_kept}
use Rattle.termrelay.specs.Calls.{Call, call_of, IsCall, Serves}
use Rattle.termrelay.specs.Log.{SessionView, LogView, sessions_after, RunsLogged, ServesLogged, MadeAll, RunsCalls}

runs-more : (h g k : HubState as_kept) (ss ts us : List SessionView) (calls : List Call) (replies : List Reply)
    (call : Call)
    (reply : Reply) → RunsLogged h ss calls replies g ts → IsCall call → Serves g call reply k
    → us ≡ sessions_after g call reply ts → RunsLogged h ss (calls ++ call ∷ []) (replies ++ reply ∷ []) k us
runs-more h g k ss ts us [] [] call reply run is serves e =
    (k, is, rw run.0 at serves, (refl, rw (← run.0, ← run.1) e))
runs-more h g k ss ts us [] (r ∷ rs) call reply run is serves e = absurd run
runs-more h g k ss ts us (c ∷ cs) [] call reply run is serves e = absurd run
runs-more h g k ss ts us (c ∷ cs) (r ∷ rs) call reply (m, first, served, later) is serves e =
    (m, first, served, runs-more m g k (sessions_after h c r ss) ts us cs rs call reply later is serves e)

pub made-none : (h : HubState as_kept) (l : LogView) → MadeAll h l [] h l
made-none h l = ([], sym (append-nil l.replies), (refl, refl))

made-one : (h g k : HubState as_kept) (l m o : LogView) (calls : List Call) (call : Call) → MadeAll h l calls g m
    → ServesLogged g call k m o → MadeAll h l (calls ++ call ∷ []) k o
made-one h g k l m o calls call (replies, are, runs) (reply, is, serves, reported, kept) = (
  replies ++ reply ∷ [],
  reported ∙ ap (λ xs. xs ++ reply ∷ []) are ∙ append_assoc l.replies replies (reply ∷ []),
  runs-more h g k l.sessions m.sessions o.sessions calls replies call reply runs is serves kept,
)

pub made-more : (h g k : HubState as_kept) (l m o : LogView) (calls : List Given) (n : ℕ) (call : Given)
    → n < length calls
    → call ≡ get_or calls n call → MadeAll h l (map call_of (take n calls)) g m → ServesLogged g (call_of call) k m o
    → MadeAll h l (map call_of (take (n + 1) calls)) k o
made-more h g k l m o calls n call lt is made serves =
    rw (take_more calls n call lt, map-append call_of (take n calls) (get_or calls n call ∷ []), ← is)
    (made-one h g k l m o (map call_of (take n calls)) (call_of call) made serves)

pub made-all : (h g : HubState as_kept) (l m : LogView) (calls : List Given) (n : ℕ) → length calls ≤ n
    → MadeAll h l (map call_of (take n calls)) g m → MadeAll h l (map call_of calls) g m
made-all h g l m calls n le made = rw (take_all n calls le) at made

-- an allocation for the log of a call failed
pub made-some : (h g k : HubState as_kept) (l m o : LogView) (calls : List Given) (n : ℕ) (result : Result (Unit {0})
    HubError)
    → n < length calls → MadeAll h l (map call_of (take n calls)) g m → k ≡ g → o ≡ m → result ≡ Err Memory
    → RunsCalls h l (map call_of calls) result k o
made-some h g k l m o calls n result lt made same kept e =
    rw (e, same, kept) (n, omega (arith, length-map calls call_of), rw (take-map call_of n calls) made)
