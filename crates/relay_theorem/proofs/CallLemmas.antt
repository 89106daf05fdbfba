-- The effect of one call on a hub described by its history.
use Rattle.std.proofs.Common.{◌≡◌, ◌∙◌, ℕ, true, List, [], ◌∷◌, ◌++◌, drop, length, Option, Some, None, Result, Ok}
use Rattle.std.proofs.Common.{Err, refl, sym, ap, subst}
use Rattle.std.specs.declared.io.Error.{Error}
use Rattle.screen_model.specs.Made.{Act, Fed, Resized}
use Rattle.byte_streams.specs.Pump.{Pumps}
use Rattle.termrelay.specs.Answers.{ClientState, answer_for, after_answer}
use Rattle.termrelay.specs.Hub.{HubState, screen_in, size_in, shown_in, with_client, new_client, no_clients, Feeds}
use Rattle.termrelay.specs.Hub.{Resizes, Attaches, DetachesFrom, CanFrame, Framed, PumpsFrom}
use Rattle.termrelay.specs.declared.answer.Answer.{Answer}
use Rattle.termrelay.specs.declared.runs.call.Take.{Take}
use Rattle.termrelay.specs.declared.runs.call.Reply.{Reply}
use Rattle.termrelay.specs.declared.runs.call.Reply.TheVariants.{Done, Attached, Answered, Refused}
use Rattle.termrelay.specs.declared.error.HubError.{HubError}
use Rattle.termrelay.specs.declared.error.HubError.TheVariants as hub
use Rattle.termrelay.specs.Calls.{Call, Feed, Resize, Attach, Detach, Frame, Pump, Fork, Redraw, WritesAsReported}
use Rattle.termrelay.specs.Calls.{taken_by, done, replied, IsRedrawn, Serves}
use Rattle.termrelay.specs.Joins.{forked, ForksFrom}
use Rattle.termrelay.proofs.ScriptLemmas.{taken-as-reported}
use Rattle.relay_theorem.specs.History.{as_reported}
use Rattle.relay_theorem.proofs.StoryLemmas.{put}

-- ---- what is done

-- the program's screen goes on by an act, and the clients are these
abbrev pub acted : HubState as_reported → Act → (ℕ → Option ClientState) → HubState as_reported
acted h act clients = record { parser = record (h.parser) { acts = h.parser.acts ++ act ∷ [] }; clients = clients }

-- the hub has failed
abbrev pub broken : HubState as_reported → HubState as_reported
broken h = record h { parser = record (h.parser) { failed = true } }

-- a writer of this script can end a pump of these bytes
abbrev pub CanPump : List Take → List ℕ → Type 0
CanPump takes owed =
    (end : Result (Unit {0}) Error) × (n : ℕ) × (rest : List Take) × Pumps WritesAsReported takes owed end n rest

-- and leaves a client this
abbrev pub left_in : List Take → ClientState → ClientState
left_in takes c = record c { owed = drop (taken_by takes (length c.owed)) c.owed }

-- where it is refused so, this call is nothing to any session
abbrev pub IsIdle : Call → HubError → Type 0
IsIdle (Feed bytes) hub.Memory = ⊥
IsIdle (Frame key) e = ⊥
IsIdle (Pump key takes) e = ⊥
IsIdle call e = Unit {0}

-- a hub h gets this call, gives this reply, and is this one then
pub data Does (h : HubState as_reported) : Call → Reply → HubState as_reported → Type 0 where
  refuses : (call : Call) (e : HubError) → IsIdle call e → Does h call (Refused e) h
  feeds : (bytes : List ℕ) → Does h (Feed bytes) Done (acted h (Fed bytes) h.clients)
  fails : (bytes : List ℕ) → Does h (Feed bytes) (Refused hub.Memory) (broken h)
  resizes : (rows cols : ℕ) → Does h (Resize rows cols) Done (acted h (Resized rows cols) no_clients)
  attaches : (key : ℕ) → h.clients key ≡ None → Does h Attach (Attached key) (put h key (Some new_client))
  detaches : (key : ℕ) (c : ClientState) → h.clients key ≡ Some c → Does h (Detach key) Done (put h key None)
  answers : (key : ℕ) (c : ClientState) (answer : Answer) → h.clients key ≡ Some c
      → answer ≡ answer_for (screen_in h).state c
      → Does h (Frame key) (Answered answer) (put h key (Some (after_answer (size_in h) (shown_in h) c answer)))
  declines : (key : ℕ) (e : HubError) → CanFrame (screen_in h) (h.clients key) (Err e)
      → Does h (Frame key) (Refused e) h
  pumps : (key : ℕ) (takes : List Take) (reply : Reply) (c : ClientState) → h.clients key ≡ Some c
      → CanPump takes c.owed → Does h (Pump key takes) reply (put h key (Some (left_in takes c)))
  misses : (key : ℕ) (takes : List Take) (reply : Reply) → h.clients key ≡ None → Does h (Pump key takes) reply h
  forks : (old key : ℕ) (c : ClientState) → h.clients old ≡ Some c → h.clients key ≡ None
      → Does h (Fork old) (Attached key) (put h key (Some (forked c)))
  draws : (key : ℕ) (reply : Reply) → IsRedrawn h key reply → Does h (Redraw key) reply h

module _ (h g : HubState as_reported) where
  pub same-hub : (k : HubState as_reported) → g.parser ≡ k.parser → g.clients ≡ k.clients → g ≡ k
  same-hub k p c = λ i. record { parser = p i; clients = c i }

  becomes : (call : Call) (reply : Reply) (k : HubState as_reported) → Does h call reply k → g.parser ≡ k.parser
      → g.clients ≡ k.clients → Does h call reply g
  becomes call reply k does p c = subst (Does h call reply) (sym (same-hub k p c)) does

  stays : (call : Call) (reply : Reply) → Does h call reply h → g ≡ h → Does h call reply g
  stays call reply does is = subst (Does h call reply) (sym is) does

  feed-does : (bytes : List ℕ) (result : Result (Unit {0}) HubError) → Feeds h bytes result g
      → Does h (Feed bytes) (done result) g
  feed-does bytes (Ok u) f = becomes (Feed bytes) Done (acted h (Fed bytes) h.clients) (feeds bytes) f.3 f.2
  feed-does bytes (Err hub.Memory) f =
      becomes (Feed bytes) (Refused hub.Memory) (broken h) (fails bytes) f.1.1 f.2
  feed-does bytes (Err hub.Failed) f =
      stays (Feed bytes) (Refused hub.Failed) (refuses (Feed bytes) hub.Failed tt) f.1
  feed-does bytes _ f = absurd f

  resize-does : (rows cols : ℕ) (result : Result (Unit {0}) HubError) → Resizes h rows cols result g
      → Does h (Resize rows cols) (done result) g
  resize-does rows cols (Ok u) f =
      becomes (Resize rows cols) Done (acted h (Resized rows cols) no_clients) (resizes rows cols) f.3 f.2
  resize-does rows cols (Err hub.Memory) f =
      stays (Resize rows cols) (Refused hub.Memory) (refuses (Resize rows cols) hub.Memory tt) f.1
  resize-does rows cols (Err hub.Failed) f =
      stays (Resize rows cols) (Refused hub.Failed) (refuses (Resize rows cols) hub.Failed tt) f.1
  resize-does rows cols _ f = absurd f

  attach-does : (result : Result ℕ HubError) → Attaches h result g → Does h Attach (replied Attached result) g
  attach-does (Ok key) f =
      becomes Attach (Attached key) (put h key (Some new_client)) (attaches key f.1) f.2.0 f.2.1
  attach-does (Err hub.Memory) f = stays Attach (Refused hub.Memory) (refuses Attach hub.Memory tt) f.1
  attach-does (Err hub.Failed) f = stays Attach (Refused hub.Failed) (refuses Attach hub.Failed tt) f.1
  attach-does _ f = absurd f

  detach-does : (key : ℕ) (o : Option ClientState) (result : Result (Unit {0}) HubError) → h.clients key ≡ o
      → DetachesFrom h key o result g → Does h (Detach key) (done result) g
  detach-does key None result at f =
      subst (λ r. Does h (Detach key) (done r) g) (sym f.0)
      (stays (Detach key) (Refused hub.UnknownClient) (refuses (Detach key) hub.UnknownClient tt) f.1)
  detach-does key (Some c) result at f =
      subst (λ r. Does h (Detach key) (done r) g) (sym f.0)
      (becomes (Detach key) Done (put h key None) (detaches key c at) f.1.0 f.1.1)

  frame-does : (key : ℕ) (o : Option ClientState) (result : Result Answer HubError) → h.clients key ≡ o
      → CanFrame (screen_in h) o result → Framed h key o result g → Does h (Frame key) (replied Answered result) g
  frame-does key None (Ok answer) at can f = absurd (let no : Ok answer ≡ Err hub.UnknownClient = can in cc)
  frame-does key None (Err e) at can f =
      stays (Frame key) (Refused e)
      (declines key e (subst (λ o. CanFrame (screen_in h) o (Err e)) (sym at) can)) f
  frame-does key (Some c) (Ok answer) at can f =
      becomes (Frame key) (Answered answer) (put h key (Some (after_answer (size_in h) (shown_in h) c answer)))
      (answers key c answer at can.1) f.0 f.1
  frame-does key (Some c) (Err e) at can f =
      stays (Frame key) (Refused e)
      (declines key e (subst (λ o. CanFrame (screen_in h) o (Err e)) (sym at) can)) f

  pump-does : (key : ℕ) (takes rest : List Take) (o : Option ClientState) (result : Result (Unit {0}) HubError)
      (reply : Reply) → h.clients key ≡ o → PumpsFrom WritesAsReported h key o takes result rest g
      → Does h (Pump key takes) reply g
  pump-does key takes rest None result reply at f = stays (Pump key takes) reply (misses key takes reply at) f.2
  pump-does key takes rest (Some c) result reply at (end, n, took, is, puts) =
      let left : Some (record c { owed = drop n c.owed }) ≡ Some (left_in takes c) =
      ap (λ m. Some (record c { owed = drop m c.owed })) (taken-as-reported takes rest c.owed end n took) in
      becomes (Pump key takes) reply (put h key (Some (left_in takes c)))
      (pumps key takes reply c at (end, n, rest, took)) puts.0
      (puts.1 ∙ ap (λ slot. with_client h.clients key slot) left)

  fork-does : (old : ℕ) (o : Option ClientState) (result : Result ℕ HubError) → h.clients old ≡ o
      → ForksFrom h o result g → Does h (Fork old) (replied Attached result) g
  fork-does old None result at f =
      subst (λ r. Does h (Fork old) (replied Attached r) g) (sym f.0)
      (stays (Fork old) (Refused hub.UnknownClient) (refuses (Fork old) hub.UnknownClient tt) f.1)
  fork-does old (Some c) (Ok key) at f =
      becomes (Fork old) (Attached key) (put h key (Some (forked c))) (forks old key c at f.1) f.2.0 f.2.1
  fork-does old (Some c) (Err hub.Memory) at f =
      stays (Fork old) (Refused hub.Memory) (refuses (Fork old) hub.Memory tt) f.1
  fork-does old (Some c) (Err hub.Failed) at f =
      stays (Fork old) (Refused hub.Failed) (refuses (Fork old) hub.Failed tt) f.1
  fork-does old (Some c) _ at f = absurd f

  pub serves-does : (call : Call) (reply : Reply) → Serves h call reply g → Does h call reply g
  serves-does (Feed bytes) reply (result, f, e) =
      subst (λ r. Does h (Feed bytes) r g) (sym e) (feed-does bytes result f)
  serves-does (Resize rows cols) reply (result, f, e) =
      subst (λ r. Does h (Resize rows cols) r g) (sym e) (resize-does rows cols result f)
  serves-does Attach reply (result, f, e) = subst (λ r. Does h Attach r g) (sym e) (attach-does result f)
  serves-does (Detach key) reply (result, f, e) =
      subst (λ r. Does h (Detach key) r g) (sym e) (detach-does key (h.clients key) result refl f)
  serves-does (Frame key) reply (result, f, e) =
      subst (λ r. Does h (Frame key) r g) (sym e) (frame-does key (h.clients key) result refl f.0 f.1)
  serves-does (Pump key takes) reply (result, rest, f, e) =
      pump-does key takes rest (h.clients key) result reply refl f
  serves-does (Fork old) reply (result, f, e) =
      subst (λ r. Does h (Fork old) r g) (sym e) (fork-does old (h.clients old) result refl f)
  serves-does (Redraw key) reply (f, is) = stays (Redraw key) reply (draws key reply f) is

-- the hub after it, by the call and the reply
module _ (h : HubState as_reported) where
  abbrev pub answered_by : ℕ → Answer → Option ClientState → HubState as_reported
  answered_by key answer None = h
  answered_by key answer (Some c) = put h key (Some (after_answer (size_in h) (shown_in h) c answer))

  abbrev pub pumped_by : ℕ → List Take → Option ClientState → HubState as_reported
  pumped_by key takes None = h
  pumped_by key takes (Some c) = put h key (Some (left_in takes c))

  abbrev pub forked_by : ℕ → Option ClientState → HubState as_reported
  forked_by key None = h
  forked_by key (Some c) = put h key (Some (forked c))

  abbrev pub hub_after : Call → Reply → HubState as_reported
  hub_after (Feed bytes) Done = acted h (Fed bytes) h.clients
  hub_after (Feed bytes) (Refused hub.Memory) = broken h
  hub_after (Resize rows cols) Done = acted h (Resized rows cols) no_clients
  hub_after Attach (Attached key) = put h key (Some new_client)
  hub_after (Detach key) Done = put h key None
  hub_after (Frame key) (Answered answer) = answered_by key answer (h.clients key)
  hub_after (Pump key takes) reply = pumped_by key takes (h.clients key)
  hub_after (Fork old) (Attached key) = forked_by key (h.clients old)
  hub_after call reply = h

  pub does-after : (call : Call) (reply : Reply) (g : HubState as_reported) → Does h call reply g → g
      ≡ hub_after call reply
  does-after call reply g (refuses (Feed bytes) hub.Memory never) = absurd never
  does-after call reply g (refuses (Frame key) e never) = absurd never
  does-after call reply g (refuses (Pump key takes) e never) = absurd never
  does-after call reply g (refuses _ _ idle) = refl
  does-after call reply g (feeds bytes) = refl
  does-after call reply g (fails bytes) = refl
  does-after call reply g (resizes rows cols) = refl
  does-after call reply g (attaches key free) = refl
  does-after call reply g (detaches key c at) = refl
  does-after call reply g (answers key c answer at due) = ap (answered_by key answer) (sym at)
  does-after call reply g (declines key e can) = refl
  does-after call reply g (pumps key takes r c at can) = ap (pumped_by key takes) (sym at)
  does-after call reply g (misses key takes r free) = ap (pumped_by key takes) (sym free)
  does-after call reply g (forks old key c at free) = ap (forked_by key) (sym at)
  does-after call reply g (draws key r f) = refl
