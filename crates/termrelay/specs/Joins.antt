-- Redraws, whole frames and forks of a hub's clients, for terminals that join late.
use Rattle.std.specs.Prelude.{◌≡◌, ℕ, true, false, List, [], Option, Some, None, Result, Ok, Err, IsSome}
use Rattle.terminal_model.specs.Term.{Size, Shown}
use Rattle.termrelay.specs.Answers.{ClientState}
use Rattle.termrelay.specs.Redraw.{redraw_of}
use Rattle.termrelay.specs.Whole.{whole_of}
use Rattle.termrelay.specs.Hub.{Telling, HubState, is_failed, size_in, clients_in, Puts}
use Rattle.termrelay.specs.declared.error.HubError.{HubError}
use Rattle.termrelay.specs.declared.error.HubError.TheVariants.{Memory, Failed, UnknownClient, Write}

-- a fork of the client: its next frame starts from the same screen, and no bytes wait for it
abbrev pub forked : ClientState → ClientState
forked c = record { owed = []; base = c.base }

-- For each way to describe a hub:
module _ {way : Telling} where
  -- The results that a request for a text can have, by the client at the key, if there is one. The text depends only on
  -- the size and the screen at the client's last frame. Memory is taken only if the client has had a frame.
  abbrev pub DrawsFrom : (Size → Option Shown → Option (List ℕ)) → HubState way → Option ClientState
      → Result (Option (List ℕ)) HubError → Type 0
  DrawsFrom text_of h None result = result ≡ Err UnknownClient
  DrawsFrom text_of h (Some c) (Ok text) = (is_failed h ≡ false) × (text ≡ text_of (size_in h) c.base)
  DrawsFrom text_of h (Some c) (Err Memory) = (is_failed h ≡ false) × IsSome c.base
  DrawsFrom text_of h (Some c) (Err Failed) = is_failed h ≡ true
  DrawsFrom text_of h (Some c) (Err UnknownClient) = ⊥
  DrawsFrom text_of h (Some c) (Err (Write e)) = ⊥

  -- a redraw is asked for the client at a key; nothing changes
  abbrev pub Redraws : HubState way → ℕ → Result (Option (List ℕ)) HubError → Type 0
  Redraws h key result = DrawsFrom redraw_of h (clients_in h key) result

  -- a whole frame is asked for the client at a key; nothing changes
  abbrev pub DrawsWhole : HubState way → ℕ → Result (Option (List ℕ)) HubError → Type 0
  DrawsWhole h key result = DrawsFrom whole_of h (clients_in h key) result

  -- A fork of a client takes the hub h to g. The new client gets a key that no client has.
  abbrev pub ForksFrom : HubState way → Option ClientState → Result ℕ HubError → HubState way → Type 0
  ForksFrom h None result g = (result ≡ Err UnknownClient) × (g ≡ h)
  ForksFrom h (Some c) (Ok key) g =
      (is_failed h ≡ false) × (clients_in h key ≡ None) × Puts h key (Some (forked c)) g
  ForksFrom h (Some c) (Err Memory) g = (is_failed h ≡ false) × (g ≡ h)
  ForksFrom h (Some c) (Err Failed) g = (is_failed h ≡ true) × (g ≡ h)
  ForksFrom h (Some c) (Err UnknownClient) g = ⊥
  ForksFrom h (Some c) (Err (Write e)) g = ⊥

  -- the client at a key is forked
  abbrev pub Forks : HubState way → ℕ → Result ℕ HubError → HubState way → Type 0
  Forks h key result g = ForksFrom h (clients_in h key) result g
