-- What is relayed is a session of a history.
use Rattle.std.proofs.Common.{◌≡◌, ◌∙◌, ℕ, zero, suc, ◌+◌, Bool, true, false, List, [], ◌∷◌, ◌++◌, map, take, drop}
use Rattle.std.proofs.Common.{length, min, Option, Some, None, Result, Ok, Err, refl, sym, ap, subst, arith}
use Rattle.std.proofs.Common.{if◌then◌else◌, append_assoc, append-nil, inl, inr}
use Rattle.std.proofs.lemmas.List.{drop_all, take_all, map-append}
use Rattle.std.proofs.lemmas.Bool.{eq-eqb, or_parts}
use Rattle.std.proofs.lemmas.List.Elements.{All-nil}
use Rattle.std.specs.List.{concat, list_any}
use Rattle.std.specs.Prelude.{slice_get}
use Rattle.terminal_model.specs.Term.{Size, Shown, shown_of}
use Rattle.screen_model.specs.State.{State}
use Rattle.screen_model.specs.Made.{Act, Fed, made}
use Rattle.screen_model.specs.Holds.{IsSide, IsAct}
use Rattle.screen_model.proofs.MadeLemmas.{makes-last_size}
use Rattle.byte_streams.specs.Pump.{Pumps, all, some}
use Rattle.byte_streams.proofs.PumpLaws.{takes-all}
use Rattle.termrelay.specs.Frame.{frame_text}
use Rattle.termrelay.specs.Answers.{ClientState, answer_for, after_answer, is_frame}
use Rattle.termrelay.specs.Hub.{HubState, screen_in, size_in, shown_in, is_failed, with_client, new_client, Feeds}
use Rattle.termrelay.specs.Hub.{Attaches, CanFrame, Framed, PumpsFrom, Puts}
use Rattle.termrelay.specs.declared.answer.Answer.{Answer}
use Rattle.termrelay.specs.declared.runs.call.Take.{Take}
use Rattle.termrelay.specs.declared.runs.call.Reply.{Reply}
use Rattle.termrelay.specs.declared.runs.call.Reply.TheVariants.{Done, Attached, Answered, Refused}
use Rattle.termrelay.specs.declared.error.HubError.{HubError}
use Rattle.termrelay.specs.Calls.{Feed, Attach, Frame, Pump, WritesAsReported, taken_by, done, replied, Serves}
use Rattle.termrelay.specs.Log.{change_last, begun, grown, bytes_taken}
use Rattle.termrelay.proofs.ScriptLemmas.{pumped-left}
use Rattle.relay_theorem.specs.History.{Past, as_reported, fresh, Entry, Story, size_of_story, is_on, with_session}
use Rattle.relay_theorem.specs.History.{with_entries, entries_of, stories_after, RunsReported}
use Rattle.relay_theorem.specs.Judge.{texts, IsShownRight}
use Rattle.relay_theorem.specs.Headline.{last_read}
use Rattle.relay_theorem.proofs.HeadlineLemmas.{last-shown}
use Rattle.relay_theorem.proofs.StoryLemmas.{at-key}
use Rattle.termview.specs.Seen.{seen}
use Rattle.relay_streams.specs.Laws.{RelayedPrefixesAreShown}
use Rattle.relay_streams.specs.Frames.{state_after, idle, answered, answer_on, asked, asked_on, is_overlong}
use Rattle.relay_streams.specs.Pieces.{pieces_of}
use Rattle.relay_streams.specs.Shown.{sized}
use Rattle.relay_streams.specs.Sessions.{turn_calls, relay_calls, is_refused, IsRelayed, answers_in, texts_of}
use Rattle.relay_streams.specs.Sessions.{AreRelayed, has_overlong, IsRelayText, EndsOverlong, EachRelayIsASession}
use Rattle.relay_streams.specs.Sessions.{WantsMemory, by_event, by_frame}
use Rattle.relay_streams.specs.Turns.{MayWantMemory}
use Rattle.relay_streams.specs.Sessions.{EachRelayIsPumped, RelayedAreOne, RelayTextsAreOne}
use Rattle.relay_streams.proofs.FrameLists.{entry_at, base_at, entries_from, entries_after, frames_from, frames_of}
use Rattle.relay_streams.proofs.FrameLists.{answers_of, base_of, relay_text, answers-more, overlong-is, pieces-make}

-- ---- replies

not-refused : (r : Reply) (e : HubError) → r ≡ Refused e → is_refused r ≡ false → ⊥
not-refused r e is h = let no : true ≡ false = ap is_refused (sym is) ∙ h in absurd (cc)

-- ---- the hub after some pieces

abbrev put : HubState as_reported → ℕ → Option ClientState → HubState as_reported
put h key slot = record h { clients = with_client h.clients key slot }

one-by : (f : Story → Story) (t : Story) (b : Bool) → b ≡ true → (if b then f t ∷ [] else t ∷ []) ≡ f t ∷ []
one-by f t true e = refl
one-by f t false e = absurd (let no : false ≡ true = e in cc)

one-changed : (key : ℕ) (f : Story → Story) (t : Story) → is_on key t ≡ true
    → change_last (is_on key) f (t ∷ []) ≡ f t ∷ []
one-changed key f t on = one-by f t (is_on key t) on

taken-whole : (owed : List ℕ) → taken_by [] (length owed) ≡ length owed
unfolding taken_by
taken-whole owed = refl

-- what is asked for, by whether it brings a frame
owed-text : (z : Size) (now : Shown) (base : Option Shown) (frame : Bool)
    → (if frame then frame_text z base now else []) ≡ (let c : ClientState =
    (if frame then record { owed = [] ++ frame_text z base now; base = Some now } else idle base) in c.owed)
owed-text z now base true = refl
owed-text z now base false = refl

pump-whole : (owed : List ℕ) → (n : ℕ) × Pumps WritesAsReported [] owed (Ok tt) n []
pump-whole [] = (0, all)
pump-whole (x ∷ xs) =
    let owed : List ℕ = x ∷ xs in
    let whole : drop (length owed) owed ≡ [] = drop_all (length owed) owed (omega arith) in (
      min (length owed) (length owed) + 0,
      some [] (length owed) 0 (λ no. absurd (cc)) (omega arith) (refl, refl)
          (subst (λ ys. Pumps WritesAsReported [] ys (Ok tt) 0 []) (sym whole) all),
    )

module _ (rows cols key : ℕ) where
  abbrev past_of : List (List ℕ) → Past
  past_of past = record { rows = rows; cols = cols; acts = map Fed past; failed = false }

  -- these pieces have been fed, no bytes wait for the client, and it has this base and the only session
  pub record IsAt (past : List (List ℕ)) (base : Option Shown) (h : HubState as_reported) (t : Story) : Type 0 where
    pub parser : h.parser ≡ past_of past
    pub client : h.clients key ≡ Some (idle base)
    pub on : is_on key t ≡ true

  state-at : (past : List (List ℕ)) (h : HubState as_reported) → h.parser ≡ past_of past
      → (screen_in h).state ≡ state_after rows cols (concat past)
  state-at past h e =
      ap (λ (p : Past). made p.rows p.cols 0 p.acts) e ∙ pieces-make rows cols past

  -- one more piece is fed
  fed-at : (past : List (List ℕ)) (p : List ℕ) (h g : HubState as_reported) → h.parser ≡ past_of past
      → g.parser ≡ record (h.parser) { acts = h.parser.acts ++ Fed p ∷ [] } → g.parser ≡ past_of (past ++ p ∷ [])
  fed-at past p h g e f =
      f ∙ ap (λ (q : Past). record q { acts = q.acts ++ Fed p ∷ [] }) e
      ∙ ap (λ (acts : List Act). record (past_of past) { acts = acts }) (sym (map-append Fed past (p ∷ [])))

  -- the client after its request, and the answer to it
  asked-at : (past : List (List ℕ)) (base : Option Shown) (g : HubState as_reported) → g.parser ≡ past_of past
      → asked_on (screen_in g).state base ≡ asked rows cols (concat past) base
  unfolding asked
  asked-at past base g e = ap (λ (s : State). asked_on s base) (state-at past g e)

  answered-at : (past : List (List ℕ)) (base : Option Shown) (g : HubState as_reported) → g.parser ≡ past_of past
      → answer_on (screen_in g).state base ≡ answered rows cols (concat past) base
  unfolding answered
  answered-at past base g e = ap (λ (s : State). answer_on s base) (state-at past g e)

  -- ---- a turn

  -- the story after an answer, and after its text is pumped
  abbrev with_answer : Entry → Story → Story
  with_answer e t = with_session (grown e.text) (with_entries (e ∷ []) t)

  -- the state after a turn, with which all these pieces have been fed
  pub record Turns (got : List (List ℕ)) (base : Option Shown) (t : Story) (g : HubState as_reported) (us : List Story)
      : Type 0 where
    pub are : us ≡ with_answer (entry_at rows cols got base) t ∷ []
    pub at : IsAt got (base_at rows cols got base) g (with_answer (entry_at rows cols got base) t)

  module _ (got : List (List ℕ)) (base : Option Shown) (t : Story) (on : is_on key t ≡ true)
      (g k l : HubState as_reported)
      (fed : g.parser ≡ past_of got) (client : g.clients key ≡ Some (idle base)) (answer : Answer)
      (is : answer ≡ answer_for (screen_in g).state (idle base))
      (put : Puts g key (Some (after_answer (size_in g) (shown_in g) (idle base) answer)) k) (reply : Reply)
      (pumps : Serves k (Pump key []) reply l) where
    c : ClientState
    c = after_answer (size_in g) (shown_in g) (idle base) answer

    after : c ≡ asked rows cols (concat got) base
    unfolding c
    after = ap (after_answer (size_in g) (shown_in g) (idle base)) is ∙ asked-at got base g fed

    e : Entry
    e = record {
      moment = g.parser.acts;
      answer = answer;
      text = if is_frame answer then frame_text (size_in g) base (shown_in g) else [];
    }

    text : e.text ≡ c.owed
    unfolding c e
    text = owed-text (size_in g) (shown_in g) base (is_frame answer)

    reported : e ≡ entry_at rows cols got base
    unfolding e
    reported =
        let moment = ap (λ (q : Past). q.acts) fed in
        let answers = is ∙ answered-at got base g fed in
        let texts = text ∙ ap (λ (d : ClientState). d.owed) after in
        λ i. record { moment = moment i; answer = answers i; text = texts i }

    at-frame : k.clients key ≡ Some c
    unfolding c
    at-frame =
        ap (λ (clients : ℕ → Option ClientState). clients key) put.1
        ∙ at-key g.clients key (Some (after_answer (size_in g) (shown_in g) (idle base) answer))

    at-pump : l.clients key ≡ Some (idle c.base)
    at-pump =
        pumped-left k l key [] reply c at-frame pumps
        ∙ ap (λ n. Some (record c { owed = drop n c.owed })) (taken-whole c.owed)
        ∙ ap (λ (xs : List ℕ). Some (record c { owed = xs })) (drop_all (length c.owed) c.owed (omega arith))

    pump-parser : (o : Option ClientState) (result : Result (Unit {0}) HubError) (rest : List Take)
        → PumpsFrom WritesAsReported k key o [] result rest l → l.parser ≡ k.parser
    pump-parser None result rest f = ap (λ (x : HubState as_reported). x.parser) f.2
    pump-parser (Some d) result rest (end, n, took, so, puts) = puts.0

    framed : stories_after g (Frame key) (Answered answer) (t ∷ []) ≡ with_entries (e ∷ []) t ∷ []
    unfolding e
    framed =
        ap (λ (o : Option ClientState). change_last (is_on key) (with_entries (entries_of g o answer)) (t ∷ [])) client
        ∙ one-changed key (with_entries (entries_of g (Some (idle base)) answer)) t on

    pumped : stories_after k (Pump key []) reply (with_entries (e ∷ []) t ∷ []) ≡ with_answer e t ∷ []
    pumped =
        let u = with_entries (e ∷ []) t in
        let change = λ (bytes : List ℕ). change_last (is_on key) (with_session (grown bytes)) (u ∷ []) in
        ap (λ (o : Option ClientState). change (bytes_taken [] o)) at-frame
        ∙ ap (λ n. change (take n c.owed)) (taken-whole c.owed)
        ∙ ap change (take_all (length c.owed) c.owed (omega arith) ∙ sym text)
        ∙ one-changed key (with_session (grown e.text)) u on

    turns : (ts : List Story) → ts ≡ t ∷ []
        → Turns got base t l (stories_after k (Pump key []) reply (stories_after g (Frame key) (Answered answer) ts))
    turns ts are = record {
      are = ap (λ xs. stories_after k (Pump key []) reply (stories_after g (Frame key) (Answered answer) xs)) are
          ∙ ap (stories_after k (Pump key []) reply) framed ∙ pumped ∙ ap (λ (x : Entry). with_answer x t ∷ [])
          reported;
      at = record {
        parser = pump-parser (k.clients key) pumps.0 pumps.1 pumps.2 ∙ put.0 ∙ fed;
        client = at-pump ∙ ap (λ (d : ClientState). Some (idle d.base)) after;
        on = on;
      };
    }

  -- whatever a turn's calls are answered, where none is refused
  fed-by : (past : List (List ℕ)) (p : List ℕ) (h g : HubState as_reported) (result : Result (Unit {0}) HubError)
      (reply : Reply) → h.parser ≡ past_of past → Feeds h p result g → reply ≡ done result → is_refused reply ≡ false
      → (g.parser ≡ past_of (past ++ p ∷ [])) × (g.clients ≡ h.clients)
  fed-by past p h g (Ok u) reply at f e ok = (fed-at past p h g at f.3, f.2)
  fed-by past p h g (Err x) reply at f e ok = absurd (not-refused reply x e ok)

  asked-by : (got : List (List ℕ)) (base : Option Shown) (t : Story) (on : is_on key t ≡ true)
      (g k l : HubState as_reported) → g.parser ≡ past_of got → g.clients key ≡ Some (idle base)
      → (result : Result Answer HubError) → CanFrame (screen_in g) (Some (idle base)) result
      → Framed g key (Some (idle base)) result k → (reply last : Reply) → reply ≡ replied Answered result
      → is_refused reply ≡ false → Serves k (Pump key []) last l → (ts : List Story) → ts ≡ t ∷ []
      → Turns got base t l (stories_after k (Pump key []) last (stories_after g (Frame key) reply ts))
  asked-by got base t on g k l fed client (Ok answer) can puts reply last e ok pumps ts are =
      subst (λ r. Turns got base t l (stories_after k (Pump key []) last (stories_after g (Frame key) r ts))) (sym e)
      (turns got base t on g k l fed client answer can.1 puts last pumps ts are)
  asked-by got base t on g k l fed client (Err x) can puts reply last e ok pumps ts are =
      absurd (not-refused reply x e ok)

  turn-by : (past : List (List ℕ)) (p : List ℕ) (base : Option Shown) (t : Story) (h g k l : HubState as_reported)
      (first reply last : Reply) (ts : List Story) → IsAt past base h t → ts ≡ t ∷ [] → is_refused first ≡ false
      → is_refused reply ≡ false → Serves h (Feed p) first g → Serves g (Frame key) reply k
      → Serves k (Pump key []) last l
      → Turns (past ++ p ∷ []) base t l (stories_after k (Pump key []) last (stories_after g (Frame key) reply ts))
  turn-by past p base t h g k l first reply last ts at are ok fine (fed, f, e) (result, frames, is) pumps =
      let on = fed-by past p h g fed first at.parser f e ok in
      let client : g.clients key ≡ Some (idle base) =
      ap (λ (clients : ℕ → Option ClientState). clients key) on.1 ∙ at.client in
      asked-by (past ++ p ∷ []) base t at.on g k l on.0 client result
      (subst (λ (o : Option ClientState). CanFrame (screen_in g) o result) client frames.0)
      (subst (λ (o : Option ClientState). Framed g key o result k) client frames.1) reply last is fine pumps ts are

  -- ---- all turns

  -- what they make of a story
  abbrev story_from : List (List ℕ) → Option Shown → List (List ℕ) → Story → Story
  story_from past base [] t = t
  story_from past base (p ∷ ps) t =
      let got = past ++ p ∷ [] in
      story_from got (base_at rows cols got base) ps (with_answer (entry_at rows cols got base) t)

  story-size : (past : List (List ℕ)) (base : Option Shown) (pieces : List (List ℕ)) (t : Story)
      → size_of_story (story_from past base pieces t) ≡ size_of_story t
  story-size past base [] t = refl
  story-size past base (p ∷ ps) t =
      let got = past ++ p ∷ [] in
      story-size got (base_at rows cols got base) ps (with_answer (entry_at rows cols got base) t)

  story-entries : (past : List (List ℕ)) (base : Option Shown) (pieces : List (List ℕ)) (t : Story)
      → (story_from past base pieces t).entries ≡ t.entries ++ entries_from rows cols past base pieces
  story-entries past base [] t = sym (append-nil t.entries)
  story-entries past base (p ∷ ps) t =
      let got = past ++ p ∷ [] in
      let e = entry_at rows cols got base in
      let next = base_at rows cols got base in
      story-entries got next ps (with_answer e t)
      ∙ append_assoc t.entries (e ∷ []) (entries_from rows cols got next ps)

  story-pumped : (past : List (List ℕ)) (base : Option Shown) (pieces : List (List ℕ)) (t : Story)
      → (story_from past base pieces t).session.pumped
      ≡ t.session.pumped ++ concat (frames_from rows cols past base pieces)
  story-pumped past base [] t = sym (append-nil t.session.pumped)
  story-pumped past base (p ∷ ps) t =
      let got = past ++ p ∷ [] in
      let e = entry_at rows cols got base in
      let next = base_at rows cols got base in
      story-pumped got next ps (with_answer e t)
      ∙ append_assoc t.session.pumped e.text (concat (frames_from rows cols got next ps))

  ran-by : (past : List (List ℕ)) (base : Option Shown) (t : Story) (pieces : List (List ℕ))
      (h k : HubState as_reported)
      (ts us : List Story) (replies : List Reply) → IsAt past base h t → ts ≡ t ∷ []
      → list_any is_refused replies ≡ false → RunsReported h ts (turn_calls key pieces) replies k us
      → us ≡ story_from past base pieces t ∷ []
  ran-by past base t [] h k ts us [] at are ok run = run.1 ∙ are
  ran-by past base t [] h k ts us (r ∷ rs) at are ok run = absurd run
  ran-by past base t (p ∷ pieces) h k ts us [] at are ok run = absurd run
  ran-by past base t (p ∷ pieces) h k ts us (r ∷ []) at are ok (g, is, s, run) = absurd run
  ran-by past base t (p ∷ pieces) h k ts us (r ∷ q ∷ []) at are ok (g, is, s, (l, so, f, run)) = absurd run
  ran-by past base t (p ∷ pieces) h k ts us (r ∷ q ∷ v ∷ rs) at are ok (g, is, s, (l, so, f, (m, also, w, run))) =
      let fed = or_parts (is_refused r) (list_any is_refused (q ∷ v ∷ rs)) ok in
      let asked = or_parts (is_refused q) (list_any is_refused (v ∷ rs)) fed.1 in
      let one = turn-by past p base t h g l m r q v ts at are fed.0 asked.0 s f w in
      let got = past ++ p ∷ [] in
      ran-by got (base_at rows cols got base) (with_answer (entry_at rows cols got base) t) pieces m k
      (stories_after l (Pump key []) v (stories_after g (Frame key) q ts)) us rs one.at one.are
      (or_parts (is_refused v) (list_any is_refused rs) asked.1).1 run

  -- ---- the client that comes

  abbrev first : Story
  first = record { session = begun (fresh rows cols) key; entries = [] }

  first-at : (result : Result ℕ HubError) (g : HubState as_reported) → Attaches (fresh rows cols) result g
      → Attached key ≡ replied Attached result → IsAt [] None g first
  first-at (Ok other) g f e =
      let same : other ≡ key = cc in
      let puts : Puts (fresh rows cols) key (Some new_client) g =
      subst (λ n. Puts (fresh rows cols) n (Some new_client) g) same f.2 in
      record {
        parser = puts.0;
        client = ap (λ (clients : ℕ → Option ClientState). clients key) puts.1
            ∙ at-key (fresh rows cols).clients key (Some new_client);
        on = eq-eqb key key refl;
      }
  first-at (Err x) g f e = absurd (let no : Attached key ≡ Refused x = e in cc)

  first-size : IsSide rows → IsSide cols → size_of_story first ≡ sized rows cols
  first-size height width =
      let size = makes-last_size rows cols 0 []
      (record { height = height; width = width; few = omega arith; each = All-nil IsAct }) in
      λ i. record { rows = size.height i; cols = size.width i }

  -- the story of some pieces
  abbrev relayed : List (List ℕ) → Story
  relayed pieces = story_from [] None pieces first

  reported-by : (pieces : List (List ℕ)) (t : Story) (replies : List Reply) (h : HubState as_reported) (ts : List Story)
      → list_any is_refused replies ≡ false
      → RunsReported (fresh rows cols) [] (relay_calls key pieces) (Attached key ∷ replies) h ts → slice_get ts 0
      ≡ Some t
      → t ≡ relayed pieces
  reported-by pieces t replies h ts ok (g, is, (result, f, e), run) at =
      let are = ran-by [] None first pieces g h (first ∷ []) ts replies (first-at result g f e) refl ok run in
      let same : Some t ≡ Some (relayed pieces) = sym at ∙ ap (λ xs. slice_get xs 0) are in cc

  -- ---- there is one

  -- a run of these pieces that no call refuses
  pub record CanRelay (pieces : List (List ℕ)) (h : HubState as_reported) (ts : List Story) : Type 0 where
    pub replies : List Reply
    pub hub : HubState as_reported
    pub stories : List Story
    pub ok : list_any is_refused replies ≡ false
    pub run : RunsReported h ts (turn_calls key pieces) replies hub stories

  relays-by : (past : List (List ℕ)) (base : Option Shown) (pieces : List (List ℕ)) (h : HubState as_reported)
      (ts : List Story) → h.parser ≡ past_of past → h.clients key ≡ Some (idle base) → CanRelay pieces h ts
  relays-by past base [] h ts at client = record {
    replies = [];
    hub = h;
    stories = ts;
    ok = refl;
    run = (refl, refl);
  }
  relays-by past base (p ∷ pieces) h ts at client =
      let live : is_failed h ≡ false = ap (λ (q : Past). q.failed) at in
      let g : HubState as_reported = record h { parser = record (h.parser) { acts = h.parser.acts ++ Fed p ∷ [] } } in
      let answer = answer_for (screen_in g).state (idle base) in
      let c = after_answer (size_in g) (shown_in g) (idle base) answer in
      let k = put g key (Some c) in
      let w = pump-whole c.owed in
      let l = put k key (Some (record c { owed = drop w.0 c.owed })) in
      let fed : Serves h (Feed p) Done g = (Ok tt, (live, live, refl, refl), refl) in
      let asks : Serves g (Frame key) (Answered answer) k = (
        Ok answer,
        subst (λ (o : Option ClientState). CanFrame (screen_in g) o (Ok answer) × Framed g key o (Ok answer) k)
            (sym client) ((live, refl), (refl, refl)),
        refl,
      ) in
      let pumps : Serves k (Pump key []) Done l = (
        Ok tt,
        [],
        subst (λ (o : Option ClientState). PumpsFrom WritesAsReported k key o [] (Ok tt) [] l)
            (sym (at-key g.clients key (Some c))) (Ok tt, w.0, w.1, refl, (refl, refl)),
        refl,
      ) in
      let none : drop w.0 c.owed ≡ [] = takes-all (List Take) WritesAsReported [] [] c.owed w.0 w.1 in
      let after : l.clients key ≡ Some (idle c.base) =
      at-key k.clients key (Some (record c { owed = drop w.0 c.owed }))
      ∙ ap (λ (xs : List ℕ). Some (record c { owed = xs })) none in
      let us = stories_after k (Pump key []) Done (stories_after g (Frame key) (Answered answer) ts) in
      let rest = relays-by (past ++ p ∷ []) c.base pieces l us (fed-at past p h g at refl) after in
      record {
        replies = Done ∷ Answered answer ∷ Done ∷ rest.replies;
        hub = rest.hub;
        stories = rest.stories;
        ok = rest.ok;
        run = (g, tt, fed, (k, tt, asks, (l, tt, pumps, rest.run)));
      }

  pub one-relayed : (pieces : List (List ℕ)) → IsSide rows → IsSide cols
      → (t : Story) × IsRelayed rows cols key pieces t
  one-relayed pieces height width =
      let g = put (fresh rows cols) key (Some new_client) in
      let comes : Serves (fresh rows cols) Attach (Attached key) g = (Ok key, (refl, refl, (refl, refl)), refl) in
      let client = at-key (fresh rows cols).clients key (Some new_client) in
      let r = relays-by [] None pieces g (first ∷ []) refl client in
      let are = ran-by [] None first pieces g r.hub (first ∷ []) r.stories r.replies
      (first-at (Ok key) g (refl, refl, (refl, refl)) refl) refl r.ok r.run in (
        relayed pieces,
        record {
          replies = r.replies;
          served = r.ok;
          session = record {
            height = height;
            width = width;
            hub = r.hub;
            stories = r.stories;
            ran = (g, tt, comes, r.run);
            is = ap (λ xs. slice_get xs 0) are;
          };
        },
      )

pub relays-are-sessions : EachRelayIsASession
relays-are-sessions rows cols key pieces height width = one-relayed rows cols key pieces height width

-- whichever it is, it has this
pub record IsReported (rows cols : ℕ) (pieces : List (List ℕ)) (t : Story) : Type 0 where
  pub size : size_of_story t ≡ sized rows cols
  pub entries : t.entries ≡ entries_after rows cols pieces
  pub pumped : t.session.pumped ≡ concat (frames_of rows cols pieces)

pub relayed-by : (rows cols key : ℕ) (pieces : List (List ℕ)) (t : Story) → IsRelayed rows cols key pieces t
    → IsReported rows cols pieces t
relayed-by rows cols key pieces t r =
    let s = r.session in
    let one = first rows cols key in
    let is = reported-by rows cols key pieces t r.replies s.hub s.stories r.served s.ran s.is in
    record {
      size = ap (λ (u : Story). size_of_story u) is ∙ story-size rows cols key [] None pieces one
          ∙ first-size rows cols key s.height s.width;
      entries = ap (λ (u : Story). u.entries) is ∙ story-entries rows cols key [] None pieces one;
      pumped = ap (λ (u : Story). u.session.pumped) is ∙ story-pumped rows cols key [] None pieces one;
    }

one-each : (rows cols : ℕ) (past : List (List ℕ)) (base : Option Shown) (pieces : List (List ℕ))
    → length (entries_from rows cols past base pieces) ≡ length pieces
one-each rows cols past base [] = refl
one-each rows cols past base (p ∷ ps) =
    let got = past ++ p ∷ [] in ap suc (one-each rows cols got (base_at rows cols got base) ps)

texts-joined : (es : List Entry) → concat (map (λ e. e.text) es) ≡ texts es
texts-joined [] = refl
texts-joined (e ∷ es) = ap (λ xs. e.text ++ xs) (texts-joined es)

moment-at : (rows cols : ℕ) (past : List (List ℕ)) (base : Option Shown) (pieces : List (List ℕ)) (n : ℕ) (e : Entry)
    → slice_get (entries_from rows cols past base pieces) n ≡ Some e
    → e.moment ≡ map Fed (past ++ take (suc n) pieces)
moment-at rows cols past base [] n e is = absurd (let no : None ≡ Some e = is in cc)
moment-at rows cols past base (p ∷ ps) zero e is =
    let same : entry_at rows cols (past ++ p ∷ []) base ≡ e = cc in ap (λ (x : Entry). x.moment) (sym same)
moment-at rows cols past base (p ∷ ps) (suc n) e is =
    let got = past ++ p ∷ [] in
    moment-at rows cols got (base_at rows cols got base) ps n e is
    ∙ ap (λ (xs : List (List ℕ)). map Fed xs) (append_assoc past (p ∷ []) (take (suc n) ps))

pub relays-are-pumped : EachRelayIsPumped
relays-are-pumped rows cols key pieces t r =
    let by = relayed-by rows cols key pieces t r in record {
      size = by.size;
      each = ap (λ (es : List Entry). length es) by.entries ∙ one-each rows cols [] None pieces;
      moments = λ n e at. moment-at rows cols [] None pieces n e (sym (ap (λ xs. slice_get xs n) by.entries) ∙ at);
      pumped = by.pumped ∙ texts-joined (entries_after rows cols pieces) ∙ ap texts (sym by.entries);
    }

pub relayed-answers : (rows cols key : ℕ) (pieces : List (List ℕ)) (t : Story) → IsRelayed rows cols key pieces t
    → answers_in t ≡ answers_of rows cols pieces
relayed-answers rows cols key pieces t r =
    ap (λ (es : List Entry). map (λ e. e.answer) es) (relayed-by rows cols key pieces t r).entries

relayed-texts : (rows cols key : ℕ) (pieces : List (List ℕ)) (t : Story) → IsRelayed rows cols key pieces t
    → texts_of t ≡ frames_of rows cols pieces
relayed-texts rows cols key pieces t r =
    ap (λ (es : List Entry). map (λ e. e.text) es) (relayed-by rows cols key pieces t r).entries

-- whether a frame would be too long
pub overlong-of : (rows cols key : ℕ) (pieces : List (List ℕ)) (t : Story) → IsRelayed rows cols key pieces t
    → has_overlong t ≡ list_any is_overlong (answers_of rows cols pieces)
overlong-of rows cols key pieces t r =
    ap (λ (xs : List Answer). list_any is_overlong xs) (relayed-answers rows cols key pieces t r)

pub frames-are-relayed : (rows cols : ℕ) (pieces : List (List ℕ)) → IsSide rows → IsSide cols
    → list_any is_overlong (answers_of rows cols pieces) ≡ false
    → AreRelayed rows cols pieces (frames_of rows cols pieces)
frames-are-relayed rows cols pieces height width fit =
    let one = one-relayed rows cols 0 pieces height width in
    record {
      key = 0;
      story = one.0;
      is = one.1;
      fits = overlong-of rows cols 0 pieces one.0 one.1 ∙ fit;
      texts = relayed-texts rows cols 0 pieces one.0 one.1;
    }

pub ends-overlong : (rows cols : ℕ) (pieces : List (List ℕ)) (piece : List ℕ) → IsSide rows → IsSide cols
    → is_overlong (answered rows cols (concat (pieces ++ piece ∷ [])) (base_of rows cols pieces)) ≡ true
    → EndsOverlong rows cols (pieces ++ piece ∷ [])
ends-overlong rows cols pieces piece height width long =
    let got = pieces ++ piece ∷ [] in
    let one = one-relayed rows cols 0 got height width in
    record {
      key = 0;
      story = one.0;
      is = one.1;
      prefix = answers_of rows cols pieces;
      answers = relayed-answers rows cols 0 got one.0 one.1 ∙ answers-more rows cols pieces (piece ∷ [])
          ∙ ap (λ (a : Answer). answers_of rows cols pieces ++ a ∷ [])
          (overlong-is (answered rows cols (concat got) (base_of rows cols pieces)) long);
    }

pub wants-memory : (rows cols : ℕ) (pieces : List (List ℕ)) (piece : List ℕ) → IsSide rows → IsSide cols
    → MayWantMemory rows cols pieces piece (base_of rows cols pieces) → WantsMemory rows cols pieces piece
wants-memory rows cols pieces piece height width (inl taken) = by_event taken
wants-memory rows cols pieces piece height width (inr made) =
    let got = pieces ++ piece ∷ [] in
    let one = one-relayed rows cols 0 got height width in
    by_frame 0 one.0 (answers_of rows cols pieces) (answered rows cols (concat got) (base_of rows cols pieces)) one.1
    (relayed-answers rows cols 0 got one.0 one.1 ∙ answers-more rows cols pieces (piece ∷ [])) made

pub frames-of : (rows cols : ℕ) (pieces frames : List (List ℕ)) → AreRelayed rows cols pieces frames
    → frames ≡ frames_of rows cols pieces
frames-of rows cols pieces frames r = sym r.texts ∙ relayed-texts rows cols r.key pieces r.story r.is

pub pumped-of : (rows cols key : ℕ) (input : List ℕ) (t : Story) → IsRelayed rows cols key (pieces_of input) t
    → t.session.pumped ≡ relay_text rows cols input
pumped-of rows cols key input t r = (relayed-by rows cols key (pieces_of input) t r).pumped

pub text-of : (rows cols : ℕ) (input text : List ℕ) → IsRelayText rows cols input text
    → text ≡ relay_text rows cols input
text-of rows cols input text r = sym r.pumped ∙ pumped-of rows cols r.key input r.story r.is

-- the texts that are relayed of an input's pieces, joined
pub relayed-as : (rows cols : ℕ) (input : List ℕ) (pieces frames : List (List ℕ)) (text : List ℕ)
    → AreRelayed rows cols pieces frames → pieces ≡ pieces_of input → text ≡ concat frames
    → IsRelayText rows cols input text
relayed-as rows cols input pieces frames text are cut joined =
    record {
      key = are.key;
      story = are.story;
      is = subst (λ (ps : List (List ℕ)). IsRelayed rows cols are.key ps are.story) cut are.is;
      fits = are.fits;
      pumped = (relayed-by rows cols are.key pieces are.story are.is).pumped
          ∙ ap concat (sym (relayed-texts rows cols are.key pieces are.story are.is) ∙ are.texts) ∙ sym joined;
    }

pub relayed-are-one : RelayedAreOne
relayed-are-one rows cols key other pieces t u r s =
    let a = relayed-by rows cols key pieces t r in
    let b = relayed-by rows cols other pieces u s in
    (a.entries ∙ sym b.entries, a.pumped ∙ sym b.pumped)

pub relay-texts-are-one : RelayTextsAreOne
relay-texts-are-one rows cols input a b r s = text-of rows cols input a r ∙ sym (text-of rows cols input b s)

-- ---- any prefix of it

pub prefixes-shown : RelayedPrefixesAreShown
prefixes-shown rows cols key parsed cut pieces t r reads =
    subst (λ (z : Size). IsShownRight rows cols (shown_of (seen z parsed)) (last_read t pieces))
    (relayed-by rows cols key cut t r).size
    (last-shown rows cols (relay_calls key cut) (Attached key ∷ r.replies) 0 t pieces parsed r.session reads)
