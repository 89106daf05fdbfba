-- Pieces that are taken one after another.
use Rattle.std.proofs.Common.{◌≡◌, ℕ, false, List, [], ◌∷◌, ◌++◌, None, Ok, Result, OnOk, refl, sym, subst}
use Rattle.std.specs.List.{list_any}
use Rattle.std.specs.declared.io.Error.{Error}
use Rattle.byte_streams.specs.Sent as sends
use Rattle.byte_streams.specs.Sent.{Sends}
use Rattle.termview.specs.declared.view.View.{View}
use Rattle.termview.specs.declared.until_cleared.UntilCleared.{UntilCleared}
use Rattle.relay_streams.specs.declared.error.RelayError.{RelayError}
use Rattle.relay_streams.specs.declared.relaying.OneClientHub.{OneClientHub}
use Rattle.relay_streams.specs.declared.showing.Unchanged.{Unchanged}
use Rattle.relay_streams.specs.Each as each
use Rattle.relay_streams.specs.Each.{TakesAll, GivesEach}
use Rattle.relay_streams.specs.Frames.{is_overlong}
use Rattle.relay_streams.specs.Led.{Led, GivesPiece}
use Rattle.relay_streams.specs.Pieces.{piece_len, Drained}
use Rattle.relay_streams.specs.Relayed.{Streams, unread, sent}
use Rattle.relay_streams.specs.Turns.{Relaying, TakesTurn}
use Rattle.relay_streams.proofs.FrameLists.{frames_of, answers_of, base_of}
use Rattle.relay_streams.proofs.SessionLemmas.{frames-are-relayed}
use Rattle.relay_streams.proofs.StreamLemmas.{turn-faults, turn-goes}
use Rattle.relay_streams.proofs.ViewLemmas.{not_led, led_more}

module _ (S W : Type 0) (gives : S → ℕ → Result (List ℕ) Error → S → Type 0)
    (takes : W → List ℕ → Result ℕ Error → W → Type 0) (rows cols : ℕ) where
  -- turns that all went well
  turns-go : (p : OneClientHub) (w : W) (pieces : List (List ℕ)) (q : OneClientHub) (v : W)
      → Relaying rows cols [] None p.hub p.client → TakesAll (TakesTurn takes) p w pieces q v
      → (list_any is_overlong (answers_of rows cols pieces) ≡ false)
      × Sends takes w (frames_of rows cols pieces) (Ok tt) v
      × Relaying rows cols pieces (base_of rows cols pieces) q.hub q.client
  turns-go p w pieces q v at each.none = (refl, sends.none, at)
  turns-go p w _ r v at (each.more {pieces = pieces} {piece = piece} q m all step) =
      let before = turns-go p w pieces q m at all in
      let goes = turn-goes S W gives takes rows cols pieces piece q.client r.hub w m v before.0 before.1
      (step.1 rows cols pieces (base_of rows cols pieces) before.2) in (
        goes.0,
        goes.1,
        subst (λ (key : ℕ). Relaying rows cols (pieces ++ piece ∷ []) (base_of rows cols (pieces ++ piece ∷ [])) r.hub
            key)
            (sym step.0) goes.2,
      )

  -- turns, the last of which may have been refused
  pub streams-of : (s t : S) (p q : OneClientHub) (w v : W) (answer : Result (Unit {0}) RelayError)
      → Relaying rows cols [] None p.hub p.client → GivesEach gives (TakesTurn takes) s p w answer t q v
      → Streams gives takes rows cols s w answer t v
  streams-of s t p q w v answer at (each.unread pieces rest e d all) =
      let so_far = turns-go p w pieces q v at all in
      unread pieces (frames_of rows cols pieces) rest e d
      (frames-are-relayed rows cols pieces at.height at.width so_far.0) so_far.1
  streams-of s t p r w v answer at (each.refused q m pieces piece e begun all step) =
      let so_far = turns-go p w pieces q m at all in
      turn-faults S W gives takes rows cols pieces piece q.client r.hub s t w m v e at.height at.width begun so_far.0
      so_far.1 (step.1 rows cols pieces (base_of rows cols pieces) so_far.2)
  streams-of s t p q w v answer at (each.taken pieces d all) =
      let so_far = turns-go p w pieces q v at all in
      sent pieces (frames_of rows cols pieces) d (frames-are-relayed rows cols pieces at.height at.width so_far.0)
      so_far.1

abbrev ByView : Unchanged → View UntilCleared → List ℕ → Result (Unit {0}) RelayError → Unchanged → View UntilCleared
    → Type 0
ByView p view piece answer q new = GivesPiece view piece answer new

-- pieces that a view was given
all-led : (p : Unchanged) (a : View UntilCleared) (pieces : List (List ℕ)) (q : Unchanged) (b : View UntilCleared)
    → TakesAll ByView p a pieces q b → Led a pieces b
all-led p a pieces q b each.none = not_led a
all-led p a _ r c (each.more {pieces = pieces} {piece = piece} q b all step) =
    led_more a b c pieces (piece ∷ []) (all-led p a pieces q b all) step.1

pub viewed-of : {S : Type 0} {gives : S → ℕ → Result (List ℕ) Error → S → Type 0} (s t : S) (p q : Unchanged)
    (a b : View UntilCleared) (answer : Result (Unit {0}) RelayError) → GivesEach gives ByView s p a answer t q b
    → (pieces : List (List ℕ)) × Drained gives piece_len s pieces answer t × OnOk answer (Led a pieces b)
viewed-of s t p q a b answer (each.unread pieces rest e d all) = (pieces ++ rest ∷ [], d, tt)
viewed-of s t p r a c answer (each.refused q b pieces piece e begun all step) = absurd (let e = step.0 in cc)
viewed-of s t p q a b answer (each.taken pieces d all) = (pieces, d, all-led p a pieces q b all)
