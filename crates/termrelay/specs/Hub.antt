-- A hub: one program's screen, and clients that are sent frames of it. The effect of each call, and its errors.
--
-- If a call can be refused for several reasons, an unknown client comes first, then a failed hub, then a failed
-- allocation.
use Rattle.std.specs.Prelude.{◌≡◌, ℕ, ◌==◌, Bool, true, false, List, [], ◌∷◌, ◌++◌, drop, Option, Some, None, Result}
use Rattle.std.specs.Prelude.{Ok}
use Rattle.std.specs.Prelude.{Err, slice_index_or, if◌then◌else◌, IfSome}
use Rattle.std.specs.Option.{option_map}
use Rattle.std.specs.declared.io.Error.{Error}
use Rattle.terminal_model.specs.Term.{Size, Shown}
use Rattle.vt100_core.specs.Picture.{grid_size}
use Rattle.screen_model.specs.Call.{ScreenView}
use Rattle.screen_model.specs.Made.{Act, Fed, Resized, events_added}
use Rattle.screen_model.specs.Shown.{shown_state}
use Rattle.vt100.specs.Memory.{some_may_allocate}
use Rattle.vt100.specs.Parsing.{ParserView, HasRead, ParserIsAfter}
use Rattle.vt100.specs.declared.error.ScreenError.{ScreenError}
use Rattle.vt100.specs.declared.error.ScreenError.TheVariants as screen
use Rattle.byte_streams.specs.Pump.{Pumps}
use Rattle.termrelay.specs.Answers.{ClientState, answer_for, after_answer, may_allocate}
use Rattle.termrelay.specs.Frame.{IsShortFrame, IsLocalFrame}
use Rattle.termrelay.specs.ClientRecord.{RecordView, client_of}
use Rattle.termrelay.specs.declared.answer.Answer.{Answer}
use Rattle.termrelay.specs.declared.error.HubError.{HubError}
use Rattle.termrelay.specs.declared.error.HubError.TheVariants.{Memory, Failed, UnknownClient, Write}

-- ---- ways to describe a hub

-- A way to describe hubs: a type for the parser, its screen, what an act does to it, and how it fails at bytes; and a
-- type for the clients, and the client at each key.
pub record Telling : Type 1 where
  pub Parser : Type 0
  pub screen : Parser → ScreenView
  pub goes : Parser → Act → Parser → Type 0
  pub fails : Parser → List ℕ → Parser → Type 0
  pub Clients : Type 0
  pub client : Clients → ℕ → Option ClientState

-- a hub, in one way to describe it
pub record HubState (way : Telling) : Type 0 where
  pub parser : way.Parser
  pub clients : way.Clients

-- an act takes the parser p to q, whatever acts came before it
abbrev pub GoesOn : ParserView (Unit {0}) → Act → ParserView (Unit {0}) → Type 0
GoesOn p act q =
    (rows cols capacity : ℕ) (acts : List Act) → ParserIsAfter p rows cols capacity acts
    → ParserIsAfter q rows cols capacity (acts ++ act ∷ [])

-- The parser has failed at these bytes. Whatever bytes it read before, one of the events of these may allocate memory.
abbrev pub FailsAt : ParserView (Unit {0}) → List ℕ → ParserView (Unit {0}) → Type 0
FailsAt p bytes q =
    (q.screen.failed ≡ true)
    × ((past : List ℕ) → HasRead p past → some_may_allocate (events_added past bytes) p.screen.state ≡ true)

-- hubs described by the code's fields: the parser, with its state inside a sequence, and a record at each key
abbrev pub as_kept : Telling
as_kept = record {
  Parser = ParserView (Unit {0});
  screen = λ p. p.screen;
  goes = GoesOn;
  fails = FailsAt;
  Clients = List (Option RecordView);
  client = λ records key. option_map client_of (slice_index_or records key None);
}

-- a client that has had no frame
abbrev pub new_client : ClientState
new_client = record { owed = []; base = None }

abbrev pub no_clients : ℕ → Option ClientState
no_clients key = None

-- this client (or none) is at the key, and the other keys are unchanged
abbrev pub with_client : (ℕ → Option ClientState) → ℕ → Option ClientState → ℕ → Option ClientState
with_client client key slot other = if other == key then slot else client other

-- the hub's error for an error of the screen
abbrev pub refusal_of : ScreenError → HubError
refusal_of screen.Memory = Memory
refusal_of screen.Failed = Failed

-- the result of a pump, as a result of the hub
abbrev pub pump_answer : Result (Unit {0}) Error → Result (Unit {0}) HubError
pump_answer (Ok u) = Ok tt
pump_answer (Err e) = Err (Write e)

-- The results that a request for a frame can have, by the present screen and the client at the key, if there is one.
abbrev pub CanFrame : ScreenView → Option ClientState → Result Answer HubError → Type 0
CanFrame now None result = result ≡ Err UnknownClient
CanFrame now (Some c) (Ok answer) = (now.failed ≡ false) × (answer ≡ answer_for now.state c)
CanFrame now (Some c) (Err Memory) = (now.failed ≡ false) × (may_allocate (answer_for now.state c) ≡ true)
CanFrame now (Some c) (Err Failed) = now.failed ≡ true
CanFrame now (Some c) (Err UnknownClient) = ⊥
CanFrame now (Some c) (Err (Write e)) = ⊥

-- For each way to describe a hub:
module _ {way : Telling} where
  abbrev pub screen_in : HubState way → ScreenView
  screen_in h = way.screen h.parser

  -- a hub has failed if its screen has
  abbrev pub is_failed : HubState way → Bool
  is_failed h = (screen_in h).failed

  -- what its screen shows
  abbrev pub size_in : HubState way → Size
  size_in h = grid_size (screen_in h).state.shown

  abbrev pub shown_in : HubState way → Shown
  shown_in h = shown_state (screen_in h).state

  -- the client at each key
  abbrev pub clients_in : HubState way → ℕ → Option ClientState
  clients_in h = way.client h.clients

  -- the hub h becomes g: this client (or none) is at the key, and nothing else changes
  abbrev pub Puts : HubState way → ℕ → Option ClientState → HubState way → Type 0
  Puts h key slot g = (g.parser ≡ h.parser) × (clients_in g ≡ with_client (clients_in h) key slot)

  -- ---- feed

  -- A feed takes the hub h to g. If an allocation fails, g has failed, which only bytes that may allocate can cause.
  abbrev pub Feeds : HubState way → List ℕ → Result (Unit {0}) HubError → HubState way → Type 0
  Feeds h bytes (Ok u) g =
      (is_failed h ≡ false) × (is_failed g ≡ false) × (clients_in g ≡ clients_in h)
      × way.goes h.parser (Fed bytes) g.parser
  Feeds h bytes (Err Memory) g =
      (is_failed h ≡ false) × way.fails h.parser bytes g.parser × (clients_in g ≡ clients_in h)
  Feeds h bytes (Err Failed) g = (is_failed h ≡ true) × (g ≡ h)
  Feeds h bytes (Err UnknownClient) g = ⊥
  Feeds h bytes (Err (Write e)) g = ⊥

  -- ---- resize

  -- a resize takes the hub h to g: if it succeeds, every client ends
  abbrev pub Resizes : HubState way → ℕ → ℕ → Result (Unit {0}) HubError → HubState way → Type 0
  Resizes h rows cols (Ok u) g =
      (is_failed h ≡ false) × (is_failed g ≡ false) × (clients_in g ≡ no_clients)
      × way.goes h.parser (Resized rows cols) g.parser
  Resizes h rows cols (Err Memory) g = (is_failed h ≡ false) × (g ≡ h)
  Resizes h rows cols (Err Failed) g = (is_failed h ≡ true) × (g ≡ h)
  Resizes h rows cols (Err UnknownClient) g = ⊥
  Resizes h rows cols (Err (Write e)) g = ⊥

  -- ---- attach and detach

  -- an attach takes the hub h to g: the new client gets a key that no client has
  abbrev pub Attaches : HubState way → Result ℕ HubError → HubState way → Type 0
  Attaches h (Ok key) g = (is_failed h ≡ false) × (clients_in h key ≡ None) × Puts h key (Some new_client) g
  Attaches h (Err Memory) g = (is_failed h ≡ false) × (g ≡ h)
  Attaches h (Err Failed) g = (is_failed h ≡ true) × (g ≡ h)
  Attaches h (Err UnknownClient) g = ⊥
  Attaches h (Err (Write e)) g = ⊥

  -- a detach takes the hub h to g: the client at the key, if there is one, ends
  abbrev pub DetachesFrom : HubState way → ℕ → Option ClientState → Result (Unit {0}) HubError → HubState way
      → Type 0
  DetachesFrom h key None result g = (result ≡ Err UnknownClient) × (g ≡ h)
  DetachesFrom h key (Some c) result g = (result ≡ Ok tt) × Puts h key None g

  abbrev pub Detaches : HubState way → ℕ → Result (Unit {0}) HubError → HubState way → Type 0
  Detaches h key result g = DetachesFrom h key (clients_in h key) result g

  -- ---- frame

  -- the hub g after a request for a frame: if the call fails, nothing changes
  abbrev pub Framed : HubState way → ℕ → Option ClientState → Result Answer HubError → HubState way → Type 0
  Framed h key None result g = g ≡ h
  Framed h key (Some c) (Ok answer) g = Puts h key (Some (after_answer (size_in h) (shown_in h) c answer)) g
  Framed h key (Some c) (Err e) g = g ≡ h

  -- a frame is asked for the client at a key
  abbrev pub Frames : HubState way → ℕ → Result Answer HubError → HubState way → Type 0
  Frames h key result g = CanFrame (screen_in h) (clients_in h key) result × Framed h key (clients_in h key) result g

  -- at most the longest frame of a screen of this size waits for the client at a key, if there is one
  abbrev pub OwesOneFrame : HubState way → ℕ → Type 0
  OwesOneFrame h key = IfSome (clients_in h key) (λ c. IsShortFrame (size_in h) c.owed)

  -- No bytes waited for the client at a key, and now a frame does. The frame's forms touch only local cells of its
  -- base's picture and the screen's.
  pub record OwesLocalFrame (h : HubState way) (key : ℕ) (g : HubState way) : Type 0 where
    pub base : Shown
    pub text : List ℕ
    pub was : clients_in h key ≡ Some (record { owed = []; base = Some base })
    pub is : clients_in g key ≡ Some (record { owed = text; base = Some (shown_in h) })
    pub local : IsLocalFrame (size_in h) base (shown_in h) text

  -- ---- pump

  -- A pump of the client at a key, if there is one, takes a writer s to t. `step` gives the result of one write of
  -- these bytes, and the writer after it. Bytes that were taken are no longer pending. A failed hub can pump too.
  abbrev pub PumpsFrom : {S : Type 0} → (S → List ℕ → Result ℕ Error → S → Type 0) → HubState way → ℕ
      → Option ClientState → S → Result (Unit {0}) HubError → S → HubState way → Type 0
  PumpsFrom step h key None s result t g = (result ≡ Err UnknownClient) × (t ≡ s) × (g ≡ h)
  PumpsFrom step h key (Some c) s result t g =
      (end : Result (Unit {0}) Error) × (n : ℕ) × Pumps step s c.owed end n t × (result ≡ pump_answer end)
      × Puts h key (Some (record c { owed = drop n c.owed })) g

  abbrev pub PumpsClient : {S : Type 0} → (S → List ℕ → Result ℕ Error → S → Type 0) → HubState way → ℕ → S
      → Result (Unit {0}) HubError → S → HubState way → Type 0
  PumpsClient step h key s result t g = PumpsFrom step h key (clients_in h key) s result t g

-- ---- new

-- a hub of this size, with a blank screen, no scrollback and no clients
pub record IsNewHub (rows cols : ℕ) (h : HubState as_kept) : Type 0 where
  pub parser : ParserIsAfter h.parser rows cols 0 []
  pub clients : clients_in h ≡ no_clients
