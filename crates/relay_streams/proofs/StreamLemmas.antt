-- Turns after turns.
use Rattle.std.proofs.Common.{◌≡◌, ℕ, false, List, [], ◌∷◌, ◌++◌, Option, Ok, Err, Result, refl, sym, subst}
use Rattle.std.specs.List.{concat, list_any}
use Rattle.std.specs.declared.io.Error.{Error}
use Rattle.terminal_model.specs.Term.{Shown}
use Rattle.termrelay.specs.Hub.{HubState, as_kept, Attaches}
use Rattle.termrelay.specs.declared.error.HubError.{HubError}
use Rattle.termrelay.specs.declared.error.HubError.TheVariants as hub
use Rattle.relay_streams.specs.declared.error.RelayError.{RelayError}
use Rattle.relay_streams.specs.declared.error.RelayError.TheVariants.{Read, Write, Memory, TooManyReads, FrameTooLong}
use Rattle.screen_model.specs.Holds.{IsSide}
use Rattle.relay_streams.specs.Frames.{asked, answered, is_overlong}
use Rattle.relay_streams.specs.Pieces.{piece_len, Begun}
use Rattle.relay_streams.specs.Relayed.{Streams, unmade, overlong, stopped}
use Rattle.byte_streams.specs.Sent as sent
use Rattle.byte_streams.specs.Sent.{Sends}
use Rattle.relay_streams.specs.Turns.{Relaying, Turned, fault_of}
use Rattle.relay_streams.proofs.FrameLists.{frames_of, answers_of, base_of, frames-more, fits-push, base-push}
use Rattle.relay_streams.proofs.SessionLemmas.{frames-are-relayed, ends-overlong, wants-memory}
use Rattle.byte_streams.proofs.SendLemmas.{sends-more}

-- a hub has refused a client for want of memory
pub attach-refused : (h g : HubState as_kept) (e : HubError) → Attaches h (Err e) g → fault_of e ≡ Memory
attach-refused h g hub.Memory a = refl
attach-refused h g hub.Failed a = refl
attach-refused h g hub.UnknownClient a = refl
attach-refused h g (hub.Write e) a = absurd a

module _ (S W : Type 0) (gives : S → ℕ → Result (List ℕ) Error → S → Type 0)
    (takes : W → List ℕ → Result ℕ Error → W → Type 0) (rows cols : ℕ) (past : List (List ℕ)) (piece : List ℕ)
    (key : ℕ) (g : HubState as_kept) where
  abbrev pieces : List (List ℕ)
  pieces = past ++ piece ∷ []

  abbrev base : Option Shown
  base = base_of rows cols past

  frames-are : frames_of rows cols pieces ≡ frames_of rows cols past ++ (asked rows cols (concat pieces) base).owed ∷ []
  frames-are = frames-more rows cols past (piece ∷ [])

  -- no frame is too long
  abbrev Fit : List (List ℕ) → Type 0
  Fit ps = list_any is_overlong (answers_of rows cols ps) ≡ false

  fits-on : is_overlong (answered rows cols (concat pieces) base) ≡ false → Fit past → Fit pieces
  fits-on last fit = fits-push rows cols past piece fit last

  -- a turn at which a fault came
  pub turn-faults : (s t : S) (w m v : W) (e : RelayError) → IsSide rows → IsSide cols → Begun gives piece_len s pieces
      t
      → Fit past → Sends takes w (frames_of rows cols past) (Ok tt) m
      → Turned takes rows cols past piece base key m (Err e) v g → Streams gives takes rows cols s w (Err e) t v
  turn-faults s t w m v Read height width b fit sends turned = absurd turned
  turn-faults s t w m v Write height width b fit sends (last, x, n, pumps) =
      let all : Sends takes w (frames_of rows cols pieces) (Err x) v =
      subst (λ (texts : List (List ℕ)). Sends takes w texts (Err x) v) (sym frames-are)
      (sends-more W takes w m v (frames_of rows cols past) ((asked rows cols (concat pieces) base).owed ∷ []) (Ok tt)
      (Err x) sends refl (sent.fault pumps)) in
      stopped pieces (frames_of rows cols pieces) x b (frames-are-relayed rows cols pieces height width
      (fits-on last fit))
      all
  turn-faults s t w m v Memory height width b fit sends (wants, stays) =
      unmade past (frames_of rows cols past) piece b (frames-are-relayed rows cols past height width fit)
      (wants-memory rows cols past piece height width wants)
      (subst (λ (u : W). Sends takes w (frames_of rows cols past) (Ok tt) u) (sym stays) sends)
  turn-faults s t w m v FrameTooLong height width b fit sends (long, stays) =
      overlong past (frames_of rows cols past) piece b (frames-are-relayed rows cols past height width fit)
      (ends-overlong rows cols past piece height width long)
      (subst (λ (u : W). Sends takes w (frames_of rows cols past) (Ok tt) u) (sym stays) sends)
  turn-faults s t w m v TooManyReads height width b fit sends turned = absurd turned

  -- one that went well
  pub turn-goes : (w m v : W) → Fit past → Sends takes w (frames_of rows cols past) (Ok tt) m
      → Turned takes rows cols past piece base key m (Ok tt) v g
      → Fit pieces × Sends takes w (frames_of rows cols pieces) (Ok tt) v
      × Relaying rows cols pieces (base_of rows cols pieces) g key
  turn-goes w m v fit sends turned = (
    fits-on turned.0 fit,
    subst (λ (texts : List (List ℕ)). Sends takes w texts (Ok tt) v) (sym frames-are)
        (sends-more W takes w m v (frames_of rows cols past) ((asked rows cols (concat pieces) base).owed ∷ []) (Ok tt)
        (Ok tt) sends refl (sent.next v turned.1.1 sent.none)),
    subst (λ (b : Option Shown). Relaying rows cols pieces b g key)
        (sym (base-push rows cols past piece)) turned.2,
  )
