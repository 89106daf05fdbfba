-- A turn: what feeding a piece, asking for a frame and pumping leave.
use Rattle.std.proofs.Common.{◌≡◌, ◌≢◌, ◌∙◌, ℕ, false, List, [], ◌∷◌, ◌++◌, map, drop, Option, Some, None, Ok, Err}
use Rattle.std.proofs.Common.{Result}
use Rattle.std.proofs.Common.{refl, sym, ap, subst, if◌then◌else◌, inl, inr, true}
use Rattle.std.specs.List.{concat}
use Rattle.std.proofs.lemmas.Bool.{eq-eqb}
use Rattle.std.proofs.lemmas.List.{map-append}
use Rattle.std.specs.declared.io.Error.{Error}
use Rattle.terminal_model.specs.Term.{Shown}
use Rattle.vt100_core.specs.Picture.{grid_size}
use Rattle.screen_model.specs.State.{State}
use Rattle.screen_model.specs.Shown.{shown_state}
use Rattle.screen_model.specs.Call.{ScreenView}
use Rattle.screen_model.specs.Made.{Act, Fed, bytes_fed, events_added}
use Rattle.screen_model.specs.Holds.{IsSide}
use Rattle.vt100.specs.Memory.{some_may_allocate}
use Rattle.vt100.specs.Parsing.{HasRead, ParserIsAfter}
use Rattle.termrelay.specs.Answers.{ClientState, after_answer, may_allocate}
use Rattle.byte_streams.specs.Pump.{Pumps}
use Rattle.termrelay.specs.Hub.{HubState, as_kept, clients_in, new_client, size_in, shown_in, Puts, IsNewHub}
use Rattle.termrelay.specs.Hub.{Attaches, Feeds, CanFrame, Framed, Frames, pump_answer, PumpsFrom, PumpsClient}
use Rattle.termrelay.specs.declared.answer.Answer.{Answer}
use Rattle.termrelay.specs.declared.answer.Answer.TheVariants.{Full, Difference, Unsure, Unchanged, Behind, Held}
use Rattle.termrelay.specs.declared.answer.Answer.TheVariants.{TooLong}
use Rattle.termrelay.specs.declared.error.HubError.{HubError}
use Rattle.termrelay.specs.declared.error.HubError.TheVariants as hub
use Rattle.byte_streams.proofs.PumpLaws.{takes-all, writes-nothing}
use Rattle.relay_streams.specs.Frames.{idle, answered, answer_on, asked, asked_on, is_overlong, state_after}
use Rattle.relay_streams.specs.declared.error.RelayError.TheVariants.{Memory}
use Rattle.relay_streams.specs.Turns.{Relaying, fault_of, MayWantMemory, Turned}
use Rattle.relay_streams.proofs.FrameLists.{pieces-make}

abbrev pub over : Result (Unit {0}) HubError
over = Ok tt

at-key : (h g : HubState as_kept) (key : ℕ) (slot : Option ClientState) → Puts h key slot g → clients_in g key ≡ slot
at-key h g key slot puts =
    ap (λ (clients : ℕ → Option ClientState). clients key) puts.1
    ∙ ap (λ b. if b then slot else clients_in h key) (eq-eqb key key refl)

-- the first client of a new hub
pub first-attached : (rows cols key : ℕ) (h g : HubState as_kept) → IsSide rows → IsSide cols → IsNewHub rows cols h
    → Attaches h (Ok key) g → Relaying rows cols [] None g key
first-attached rows cols key h g height width new at = record {
  height = height;
  width = width;
  parser = subst (λ p. ParserIsAfter p rows cols 0 []) (sym at.2.0) new.parser;
  client = at-key h g key (Some new_client) at.2;
}

-- a piece was fed
piece-fed : (rows cols : ℕ) (pieces : List (List ℕ)) (piece : List ℕ) (base : Option Shown) (h g : HubState as_kept)
    (key : ℕ) → Relaying rows cols pieces base h key → Feeds h piece over g
    → Relaying rows cols (pieces ++ piece ∷ []) base g key
piece-fed rows cols pieces piece base h g key r f = record {
  height = r.height;
  width = r.width;
  parser = subst (λ (acts : List Act). ParserIsAfter g.parser rows cols 0 acts)
      (sym (map-append Fed pieces (piece ∷ [])))
      (f.3 rows cols 0 (map Fed pieces) r.parser);
  client = ap (λ (c : ℕ → Option ClientState). c key) f.2 ∙ r.client;
}

-- all bytes of the pieces were read, and the screen hasn't failed
fed-bytes : (pieces : List (List ℕ)) → bytes_fed (map Fed pieces) ≡ concat pieces
fed-bytes [] = refl
fed-bytes (p ∷ ps) = ap (λ (xs : List ℕ). p ++ xs) (fed-bytes ps)

lives : (rows cols : ℕ) (pieces : List (List ℕ)) (base : Option Shown) (h : HubState as_kept) (key : ℕ)
    → Relaying rows cols pieces base h key → h.parser.screen.failed ≡ false
lives rows cols pieces base h key r = ap (λ (v : ScreenView). v.failed) r.parser.screen

-- a frame was asked for
abbrev Asked : ℕ → ℕ → List (List ℕ) → Option Shown → HubState as_kept → HubState as_kept → ℕ → Type 0
Asked rows cols pieces base h g key =
    (g.parser ≡ h.parser) × (clients_in g key ≡ Some (asked rows cols (concat pieces) base))

state-now : (rows cols : ℕ) (pieces : List (List ℕ)) (base : Option Shown) (h : HubState as_kept) (key : ℕ)
    → Relaying rows cols pieces base h key → h.parser.screen.state ≡ state_after rows cols (concat pieces)
state-now rows cols pieces base h key r =
    ap (λ (v : ScreenView). v.state) r.parser.screen ∙ pieces-make rows cols pieces

frame-asked : (rows cols : ℕ) (pieces : List (List ℕ)) (base : Option Shown) (h g : HubState as_kept) (key : ℕ)
    (answer : Answer) → Relaying rows cols pieces base h key → Frames h key (Ok answer) g
    → Asked rows cols pieces base h g key
unfolding asked
frame-asked rows cols pieces base h g key answer r f =
    let can : CanFrame h.parser.screen (Some (idle base)) (Ok answer) =
    subst (λ (o : Option ClientState). CanFrame h.parser.screen o (Ok answer)) r.client f.0 in
    let is : Puts h key (Some (after_answer (size_in h) (shown_in h) (idle base) answer)) g =
    subst (λ (o : Option ClientState). Framed h key o (Ok answer) g) r.client f.1 in
    let state = state-now rows cols pieces base h key r in
    let client : after_answer (size_in h) (shown_in h) (idle base) answer
    ≡ asked_on (state_after rows cols (concat pieces)) base =
    ap (after_answer (size_in h) (shown_in h) (idle base)) can.1 ∙ ap (λ (s : State). asked_on s base) state in (
      is.0,
      at-key h g key (Some (after_answer (size_in h) (shown_in h) (idle base) answer)) is
          ∙ ap (λ (c : ClientState). Some c) client,
    )

-- and was answered so
frame-answered : (rows cols : ℕ) (pieces : List (List ℕ)) (base : Option Shown) (h g : HubState as_kept) (key : ℕ)
    (answer : Answer) → Relaying rows cols pieces base h key → Frames h key (Ok answer) g
    → is_overlong (answered rows cols (concat pieces) base) ≡ is_overlong answer
unfolding answered
frame-answered rows cols pieces base h g key answer r f =
    let can : CanFrame h.parser.screen (Some (idle base)) (Ok answer) =
    subst (λ (o : Option ClientState). CanFrame h.parser.screen o (Ok answer)) r.client f.0 in
    ap is_overlong (sym (can.1 ∙ ap (λ (s : State). answer_on s base) (state-now rows cols pieces base h key r)))

-- a piece was fed, and then a frame asked for
pub record HasAsked {rows cols : ℕ} {past : List (List ℕ)} {base : Option Shown} {old : HubState as_kept} {key : ℕ}
    (at : Relaying rows cols past base old key) (piece : List ℕ) (h k : HubState as_kept) (answer : Answer)
    : Type 0 where
  pub fed : Relaying rows cols (past ++ piece ∷ []) base h key
  pub asked : Asked rows cols (past ++ piece ∷ []) base h k key
  pub long : is_overlong (answered rows cols (concat (past ++ piece ∷ [])) base) ≡ is_overlong answer

pub asks : {rows cols : ℕ} {past : List (List ℕ)} {base : Option Shown} {old : HubState as_kept} {key : ℕ}
    (at : Relaying rows cols past base old key) (piece : List ℕ) (h k : HubState as_kept) (answer : Answer)
    → Feeds old piece over h → Frames h key (Ok answer) k → HasAsked at piece h k answer
asks {rows} {cols} {past} {base} {old} {key} at piece h k answer feeds frames =
    let all : List (List ℕ) = past ++ piece ∷ [] in
    let fed = piece-fed rows cols past piece base old h key at feeds in
    record {
      fed = fed;
      asked = frame-asked rows cols all base h k key answer fed frames;
      long = frame-answered rows cols all base h k key answer fed frames;
    }

-- ---- what is refused may need memory

-- a request for a frame that was refused
frame-cannot : (rows cols : ℕ) (past : List (List ℕ)) (piece : List ℕ) (base : Option Shown) (e : HubError)
    (now : ScreenView) → now.state ≡ state_after rows cols (concat (past ++ piece ∷ [])) → now.failed ≡ false
    → CanFrame now (Some (idle base)) (Err e) → MayWantMemory rows cols past piece base × (fault_of e ≡ Memory)
unfolding answered
frame-cannot rows cols past piece base hub.Memory now is live can =
    (inr (subst (λ (s : State). may_allocate (answer_on s base) ≡ true) is can.1), refl)
frame-cannot rows cols past piece base hub.Failed now is live can =
    absurd (let no : false ≡ true = sym live ∙ can in cc)
frame-cannot rows cols past piece base hub.UnknownClient now is live can = absurd can
frame-cannot rows cols past piece base (hub.Write e) now is live can = absurd can

module _ {rows cols : ℕ} {past : List (List ℕ)} {base : Option Shown} {old : HubState as_kept} {key : ℕ}
    (at : Relaying rows cols past base old key) (piece : List ℕ) where
  -- the piece was refused
  pub feed-wants : (h : HubState as_kept) (e : HubError) → Feeds old piece (Err e) h
      → MayWantMemory rows cols past piece base × (fault_of e ≡ Memory)
  feed-wants h hub.Memory fails = (
    inl (subst (λ (s : State). some_may_allocate (events_added (concat past) piece) s ≡ true)
        (state-now rows cols past base old key at)
        (fails.1.1 (concat past) (subst (HasRead old.parser) (fed-bytes past) at.parser.has_read))),
    refl,
  )
  feed-wants h hub.Failed fails =
      absurd (let no : false ≡ true = sym (lives rows cols past base old key at) ∙ fails.0 in cc)
  feed-wants h hub.UnknownClient fails = absurd fails
  feed-wants h (hub.Write e) fails = absurd fails

  -- its frame was refused
  pub frame-wants : (h k : HubState as_kept) (e : HubError) → Feeds old piece over h → Frames h key (Err e) k
      → MayWantMemory rows cols past piece base × (fault_of e ≡ Memory)
  frame-wants h k e feeds frames =
      let all : List (List ℕ) = past ++ piece ∷ [] in
      let fed = piece-fed rows cols past piece base old h key at feeds in
      let can : CanFrame h.parser.screen (Some (idle base)) (Err e) =
      subst (λ (o : Option ClientState). CanFrame h.parser.screen o (Err e)) fed.client frames.0 in
      frame-cannot rows cols past piece base e h.parser.screen (state-now rows cols all base h key fed)
      (lives rows cols all base h key fed) can

-- a client for which bytes wait got a frame
frame-owed : (s : State) (base : Option Shown) (a : Answer)
    → (after_answer (grid_size s.shown) (shown_state s) (idle base) a).owed ≢ [] → may_allocate a ≡ true
frame-owed s base Full some = refl
frame-owed s base Difference some = refl
frame-owed s base Unsure some = refl
frame-owed s base Unchanged some = absurd (some refl)
frame-owed s base Behind some = absurd (some refl)
frame-owed s base Held some = absurd (some refl)
frame-owed s base TooLong some = refl

owed-frame : (rows cols : ℕ) (bytes : List ℕ) (base : Option Shown) → (asked rows cols bytes base).owed ≢ []
    → may_allocate (answered rows cols bytes base) ≡ true
unfolding asked answered
owed-frame rows cols bytes base some =
    frame-owed (state_after rows cols bytes) base (answer_on (state_after rows cols bytes) base) some

broken-pump : (e : HubError) (end : Result (Unit {0}) Error) → Err e ≡ pump_answer end → end ≡ Ok tt → ⊥
broken-pump e (Ok u) is well = absurd (let no : Err e ≡ over = is in cc)
broken-pump e (Err x) is well = absurd (cc)

module _ (W : Type 0) (takes : W → List ℕ → Result ℕ Error → W → Type 0) where
  -- all pending bytes were pumped
  pumped-by : (h g : HubState as_kept) (key : ℕ) (c : ClientState) (w v : W) (end : Result (Unit {0}) Error) (n : ℕ)
      → Pumps takes w c.owed end n v → over ≡ pump_answer end
      → Puts h key (Some (record c { owed = drop n c.owed })) g
      → ((k : ℕ) × Pumps takes w c.owed (Ok tt) k v) × (g.parser ≡ h.parser) × (clients_in g key ≡ Some (idle c.base))
  pumped-by h g key c w v (Ok u) n pumps is after = (
    (n, pumps),
    after.0,
    at-key h g key (Some (record c { owed = drop n c.owed })) after
        ∙ ap (λ (xs : List ℕ). Some (record c { owed = xs })) (takes-all W takes w v c.owed n pumps),
  )
  pumped-by h g key c w v (Err e) n pumps is after = absurd (cc)

  pub turn-ends : {rows cols : ℕ} {past : List (List ℕ)} {base : Option Shown} {old h k : HubState as_kept} {key : ℕ}
      {at : Relaying rows cols past base old key} {piece : List ℕ} {answer : Answer} (g : HubState as_kept) (w v : W)
      → HasAsked at piece h k answer → is_overlong answer ≡ false → PumpsClient takes k key w over v g
      → Turned takes rows cols past piece base key w (Ok tt) v g
  turn-ends {rows = rows} {cols = cols} {past = past} {base = base} {h = h} {k = k} {key = key} {piece = piece} g w v a
      short p =
      let all : List (List ℕ) = past ++ piece ∷ [] in
      let c = asked rows cols (concat all) base in
      let q : PumpsFrom takes k key (Some c) w over v g =
      subst (λ (o : Option ClientState). PumpsFrom takes k key o w over v g) a.asked.1 p in
      let end = pumped-by k g key c w v q.0 q.1 q.2 q.3 q.4 in (
        a.long ∙ short,
        end.0,
        record {
          height = a.fed.height;
          width = a.fed.width;
          parser = subst (λ p. ParserIsAfter p rows cols 0 (map Fed all)) (sym (end.1 ∙ a.asked.0)) a.fed.parser;
          client = end.2;
        },
      )

  -- the writer failed
  broken-by : (rows cols : ℕ) (past : List (List ℕ)) (piece : List ℕ) (base : Option Shown) (key : ℕ) (w v : W)
      (g : HubState as_kept) (e : HubError) (end : Result (Unit {0}) Error) (n : ℕ)
      → is_overlong (answered rows cols (concat (past ++ piece ∷ [])) base) ≡ false
      → Pumps takes w (asked rows cols (concat (past ++ piece ∷ [])) base).owed end n v → Err e ≡ pump_answer end
      → Turned takes rows cols past piece base key w (Err (fault_of e)) v g
  broken-by rows cols past piece base key w v g e (Ok u) n fits pumps is = absurd (let no : Err e ≡ over = is in cc)
  broken-by rows cols past piece base key w v g hub.Memory (Err x) n fits pumps is = absurd (cc)
  broken-by rows cols past piece base key w v g hub.Failed (Err x) n fits pumps is = absurd (cc)
  broken-by rows cols past piece base key w v g hub.UnknownClient (Err x) n fits pumps is = absurd (cc)
  broken-by rows cols past piece base key w v g (hub.Write y) (Err x) n fits pumps is = (fits, x, n, pumps)

  pub turn-breaks : {rows cols : ℕ} {past : List (List ℕ)} {base : Option Shown} {old h k : HubState as_kept} {key : ℕ}
      {at : Relaying rows cols past base old key} {piece : List ℕ} {answer : Answer} (g : HubState as_kept) (w v : W)
      (e : HubError) → HasAsked at piece h k answer → is_overlong answer ≡ false
      → PumpsClient takes k key w (Err e) v g
      → Turned takes rows cols past piece base key w (Err (fault_of e)) v g
  turn-breaks {rows = rows} {cols = cols} {past = past} {base = base} {k = k} {key = key} {piece = piece} g w v e a
      short p =
      let all : List (List ℕ) = past ++ piece ∷ [] in
      let q : PumpsFrom takes k key (Some (asked rows cols (concat all) base)) w (Err e) v g =
      subst (λ (o : Option ClientState). PumpsFrom takes k key o w (Err e) v g) a.asked.1 p in
      broken-by rows cols past piece base key w v g e q.0 q.1 (a.long ∙ short) q.2 q.3

  -- its frame was pumped, and the writer failed
  pub pump-wants : {rows cols : ℕ} {past : List (List ℕ)} {base : Option Shown} {old h k : HubState as_kept} {key : ℕ}
      {at : Relaying rows cols past base old key} {piece : List ℕ} {answer : Answer} (g : HubState as_kept) (w v : W)
      (e : HubError) → HasAsked at piece h k answer → PumpsClient takes k key w (Err e) v g
      → MayWantMemory rows cols past piece base
  pump-wants {rows = rows} {cols = cols} {past = past} {base = base} {k = k} {key = key} {piece = piece} g w v e a p =
      let bytes : List ℕ = concat (past ++ piece ∷ []) in
      let c = asked rows cols bytes base in
      let q : PumpsFrom takes k key (Some c) w (Err e) v g =
      subst (λ (o : Option ClientState). PumpsFrom takes k key o w (Err e) v g) a.asked.1 p in
      inr (owed-frame rows cols bytes base (λ none. broken-pump e q.0 q.3
      (writes-nothing W takes w v q.0 q.1 (subst (λ (xs : List ℕ). Pumps takes w xs q.0 q.1 v) none q.2)).0))
