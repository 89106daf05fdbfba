-- Runs of a hub are histories.
use Rattle.std.proofs.Common.{◌≡◌, ◌∙◌, ℕ, ◌+◌, ◌-◌, ◌<◌, true, false, List, [], ◌∷◌, ◌++◌, drop, length, min, map}
use Rattle.std.proofs.Common.{Option, Some, None, Result, Ok, Err, refl, sym, ap, subst, arith, length-drop}
use Rattle.std.specs.Prelude.{◌==◌}
use Rattle.std.proofs.lemmas.Bool.Decides.{nat_tests}
use Rattle.std.proofs.lemmas.List.{map-append}
use Rattle.std.specs.Option.{option_map}
use Rattle.std.specs.declared.io.Error.{Error}
use Rattle.terminal_model.specs.Term.{Size, Shown}
use Rattle.vt100_core.specs.Picture.{grid_size}
use Rattle.screen_model.specs.Call.{ScreenView}
use Rattle.screen_model.specs.Shown.{shown_state}
use Rattle.screen_model.specs.Made.{Fed, Resized, bytes_fed, events_added, made}
use Rattle.vt100.specs.Memory.{some_may_allocate}
use Rattle.vt100.specs.Parsing.{ParserView, HasRead, ParserIsAfter}
use Rattle.byte_streams.specs.Pump.{Pumps, all, nothing, fault, some}
use Rattle.termrelay.specs.Answers.{ClientState, answer_for, after_answer, may_allocate}
use Rattle.termrelay.specs.Redraw.{redraw_of}
use Rattle.termrelay.specs.Hub.{Telling, HubState, as_kept, is_failed, screen_in, clients_in, with_client, new_client}
use Rattle.termrelay.specs.Hub.{no_clients, Puts, IsNewHub, Feeds, Resizes, Attaches, DetachesFrom, CanFrame, Framed}
use Rattle.termrelay.specs.Hub.{pump_answer, PumpsFrom}
use Rattle.termrelay.specs.declared.answer.Answer.{Answer}
use Rattle.termrelay.specs.declared.error.HubError.{HubError}
use Rattle.termrelay.specs.declared.error.HubError.TheVariants as hub
use Rattle.termrelay.specs.declared.runs.call.Take.{Take}
use Rattle.termrelay.specs.declared.runs.call.Take.TheVariants.{Bytes, Fault}
use Rattle.termrelay.specs.declared.runs.call.Reply.{Reply}
use Rattle.termrelay.specs.declared.runs.call.Reply.TheVariants.{Done, Attached, Answered, Redrawn, Refused}
use Rattle.termrelay.specs.Joins.{forked, DrawsFrom, ForksFrom}
use Rattle.termrelay.specs.Calls.{Call, Feed, Resize, Attach, Detach, Frame, Pump, Fork, Redraw, taken_by}
use Rattle.termrelay.specs.Calls.{WritesAsReported, IsRedrawn, Serves, Runs, done, replied}
use Rattle.termrelay.specs.Log.{SessionView, is_of, change_last, last_that, begun, ended, grown, branched, bytes_owed}
use Rattle.termrelay.specs.Log.{bytes_taken, sessions_after}
use Rattle.termrelay.specs.Log.{RunsLogged}
use Rattle.std.proofs.lemmas.List.{drop_min}
use Rattle.termrelay.proofs.ScriptLemmas.{takes-nothing, some-owed, first-none, first-fault, first-some, ok-number}
use Rattle.termrelay.proofs.ScriptLemmas.{pumped-left}
use Rattle.relay_theorem.specs.History.{as_reported, fresh, Story, is_on, with_session, with_entries, entries_of}
use Rattle.relay_theorem.specs.History.{stories_after, RunsReported}
use Rattle.relay_theorem.specs.Serves.{IsPumpReply, EachPumpTakesAsReported, EachPumpIsServed, Matches}
use Rattle.relay_theorem.specs.Serves.{EachRunHasAHistory, EachLogHasAHistory}
use Rattle.relay_theorem.proofs.StoryLemmas.{put, shown-changed, shown-that, unchanged}

-- ---- a call on a hub, and on its history

-- the history after a call on a hub that is then g
pub record Follows (u : HubState as_reported) (call : Call) (reply : Reply) (g : HubState as_kept) : Type 0 where
  pub after : HubState as_reported
  pub serves : Serves u call reply after
  pub matches : Matches g after

module _ (h : HubState as_kept) (u : HubState as_reported) (m : Matches h u) where
  pub live : is_failed h ≡ false → is_failed u ≡ false
  live e = sym m.failed ∙ e

  pub dead : is_failed h ≡ true → is_failed u ≡ true
  dead e = sym m.failed ∙ e

  pub unchanged-matches : (g : HubState as_kept) → g ≡ h → Matches g u
  unchanged-matches g e = subst (λ x. Matches x u) (sym e) m

  pub put-matches : (key : ℕ) (slot : Option ClientState) (g : HubState as_kept) → Puts h key slot g
      → Matches g (put u key slot)
  put-matches key slot g puts = record {
    failed = ap (λ (p : ParserView (Unit {0})). p.screen.failed) puts.0 ∙ m.failed;
    parser = λ e. subst (λ p. ParserIsAfter p u.parser.rows u.parser.cols 0 u.parser.acts) (sym puts.0) (m.parser e);
    clients = puts.1 ∙ ap (λ clients. with_client clients key slot) m.clients;
  }

  -- what is shown is what the history says
  pub screen-now : is_failed u ≡ false → screen_in h ≡ screen_in u
  screen-now e =
      (m.parser e).screen
      ∙ (λ i. record { state = made u.parser.rows u.parser.cols 0 u.parser.acts; failed = sym e i })

  -- what may allocate by what has been read, may by the history
  may-take : (bytes : List ℕ) → is_failed h ≡ false
      → ((past : List ℕ) → HasRead h.parser past → some_may_allocate (events_added past bytes) h.parser.screen.state
      ≡ true)
      → some_may_allocate (events_added (bytes_fed u.parser.acts) bytes)
      (made u.parser.rows u.parser.cols 0 u.parser.acts) ≡ true
  may-take bytes e may =
      let at = m.parser (live e) in
      let past = bytes_fed u.parser.acts in
      ap (λ (v : ScreenView). some_may_allocate (events_added past bytes) v.state) (sym at.screen)
      ∙ may past at.has_read

  feed-follows : (bytes : List ℕ) (result : Result (Unit {0}) HubError) (g : HubState as_kept) → Feeds h bytes result g
      → (v : HubState as_reported) × Feeds u bytes result v × Matches g v
  feed-follows bytes (Ok x) g f =
      let p = u.parser in
      let on = live f.0 in (
        record u { parser = record p { acts = p.acts ++ Fed bytes ∷ [] } },
        (on, on, refl, refl),
        record {
          failed = f.1 ∙ sym on;
          parser = λ e. f.3 p.rows p.cols 0 p.acts (m.parser e);
          clients = f.2 ∙ m.clients;
        },
      )
  feed-follows bytes (Err hub.Memory) g f = (
    record u { parser = record (u.parser) { failed = true } },
    (live f.0, (may-take bytes f.0 f.1.1, refl), refl),
    record {
      failed = f.1.0;
      parser = λ e. absurd (let no : true ≡ false = e in cc);
      clients = f.2 ∙ m.clients;
    },
  )
  feed-follows bytes (Err hub.Failed) g f = (u, (dead f.0, refl), unchanged-matches g f.1)
  feed-follows bytes _ g f = absurd f

  resize-follows : (rows cols : ℕ) (result : Result (Unit {0}) HubError) (g : HubState as_kept)
      → Resizes h rows cols result g → (v : HubState as_reported) × Resizes u rows cols result v × Matches g v
  resize-follows rows cols (Ok x) g f =
      let p = u.parser in
      let on = live f.0 in (
        record { parser = record p { acts = p.acts ++ Resized rows cols ∷ [] }; clients = no_clients },
        (on, on, refl, refl),
        record {
          failed = f.1 ∙ sym on;
          parser = λ e. f.3 p.rows p.cols 0 p.acts (m.parser e);
          clients = f.2;
        },
      )
  resize-follows rows cols (Err hub.Memory) g f = (u, (live f.0, refl), unchanged-matches g f.1)
  resize-follows rows cols (Err hub.Failed) g f = (u, (dead f.0, refl), unchanged-matches g f.1)
  resize-follows rows cols _ g f = absurd f

  attach-follows : (result : Result ℕ HubError) (g : HubState as_kept) → Attaches h result g
      → (v : HubState as_reported) × Attaches u result v × Matches g v
  attach-follows (Ok key) g f = (
    put u key (Some new_client),
    (live f.0, ap (λ clients. clients key) (sym m.clients) ∙ f.1, (refl, refl)),
    put-matches key (Some new_client) g f.2,
  )
  attach-follows (Err hub.Memory) g f = (u, (live f.0, refl), unchanged-matches g f.1)
  attach-follows (Err hub.Failed) g f = (u, (dead f.0, refl), unchanged-matches g f.1)
  attach-follows _ g f = absurd f

  detach-follows : (key : ℕ) (o : Option ClientState) (result : Result (Unit {0}) HubError) (g : HubState as_kept)
      → DetachesFrom h key o result g → (v : HubState as_reported) × DetachesFrom u key o result v × Matches g v
  detach-follows key None result g f = (u, (f.0, refl), unchanged-matches g f.1)
  detach-follows key (Some c) result g f = (put u key None, (f.0, (refl, refl)), put-matches key None g f.1)

  frame-follows : (key : ℕ) (o : Option ClientState) (result : Result Answer HubError) (g : HubState as_kept)
      → CanFrame (screen_in h) o result → Framed h key o result g
      → (v : HubState as_reported) × (CanFrame (screen_in u) o result × Framed u key o result v) × Matches g v
  frame-follows key None result g can f = (u, (can, refl), unchanged-matches g f)
  frame-follows key (Some c) (Ok answer) g can f =
      let on = live can.0 in
      let same = screen-now on in
      let after = λ (v : ScreenView). after_answer (grid_size v.state.shown) (shown_state v.state) c answer in (
        put u key (Some (after (screen_in u))),
        ((on, can.1 ∙ ap (λ (v : ScreenView). answer_for v.state c) same), (refl, refl)),
        put-matches key (Some (after (screen_in u))) g
            (f.0, f.1 ∙ ap (λ v. with_client (clients_in h) key (Some (after v))) same),
      )
  frame-follows key (Some c) (Err hub.Memory) g can f =
      let on = live can.0 in
      let due = ap (λ (v : ScreenView). may_allocate (answer_for v.state c)) (sym (screen-now on)) ∙ can.1 in
      (u, ((on, due), refl), unchanged-matches g f)
  frame-follows key (Some c) (Err hub.Failed) g can f = (u, (dead can, refl), unchanged-matches g f)
  frame-follows key (Some c) _ g can f = absurd can

  pump-follows : (key : ℕ) (takes rest : List Take) (o : Option ClientState) (result : Result (Unit {0}) HubError)
      (g : HubState as_kept) → PumpsFrom WritesAsReported h key o takes result rest g
      → (v : HubState as_reported) × PumpsFrom WritesAsReported u key o takes result rest v × Matches g v
  pump-follows key takes rest None result g f = (u, (f.0, f.1, refl), unchanged-matches g f.2)
  pump-follows key takes rest (Some c) result g (end, n, pumps, is, puts) = (
    put u key (Some (record c { owed = drop n c.owed })),
    (end, n, pumps, is, (refl, refl)),
    put-matches key (Some (record c { owed = drop n c.owed })) g puts,
  )

  pub client-now : (key : ℕ) → clients_in h key ≡ clients_in u key
  client-now key = ap (λ clients. clients key) m.clients

  fork-follows : (o : Option ClientState) (result : Result ℕ HubError) (g : HubState as_kept) → ForksFrom h o result g
      → (v : HubState as_reported) × ForksFrom u o result v × Matches g v
  fork-follows None result g f = (u, (f.0, refl), unchanged-matches g f.1)
  fork-follows (Some c) (Ok key) g f = (
    put u key (Some (forked c)),
    (live f.0, ap (λ clients. clients key) (sym m.clients) ∙ f.1, (refl, refl)),
    put-matches key (Some (forked c)) g f.2,
  )
  fork-follows (Some c) (Err hub.Memory) g f = (u, (live f.0, refl), unchanged-matches g f.1)
  fork-follows (Some c) (Err hub.Failed) g f = (u, (dead f.0, refl), unchanged-matches g f.1)
  fork-follows (Some c) _ g f = absurd f

  -- texts that are made of the screen at a client's last frame
  module _ (text_of : Size → Option Shown → Option (List ℕ)) where
    drawn-from : (o : Option ClientState) (result : Result (Option (List ℕ)) HubError) → DrawsFrom text_of h o result
        → DrawsFrom text_of u o result
    drawn-from None result f = f
    drawn-from (Some c) (Ok text) f =
        let on = live f.0 in
        (on, f.1 ∙ ap (λ (v : ScreenView). text_of (grid_size v.state.shown) c.base) (screen-now on))
    drawn-from (Some c) (Err hub.Memory) f = (live f.0, f.1)
    drawn-from (Some c) (Err hub.Failed) f = dead f
    drawn-from (Some c) _ f = absurd f

    pub drawn-matches : (key : ℕ) (result : Result (Option (List ℕ)) HubError)
        → DrawsFrom text_of h (clients_in h key) result → DrawsFrom text_of u (clients_in u key) result
    drawn-matches key result f =
        drawn-from (clients_in u key) result (subst (λ o. DrawsFrom text_of h o result) (client-now key) f)

  -- a redraw's reply
  redrawn-matches : (key : ℕ) (reply : Reply) → IsRedrawn h key reply → IsRedrawn u key reply
  redrawn-matches key (Redrawn redraw) f = drawn-matches redraw_of key (Ok (option_map (λ text. text.items) redraw)) f
  redrawn-matches key (Refused e) f = drawn-matches redraw_of key (Err e) f
  redrawn-matches key _ f = absurd f

  pub call-follows : (call : Call) (reply : Reply) (g : HubState as_kept) → Serves h call reply g → Follows u call reply g
  call-follows (Feed bytes) reply g (result, f, e) =
      let x = feed-follows bytes result g f in record { after = x.0; serves = (result, x.1, e); matches = x.2 }
  call-follows (Resize rows cols) reply g (result, f, e) =
      let x = resize-follows rows cols result g f in
      record { after = x.0; serves = (result, x.1, e); matches = x.2 }
  call-follows Attach reply g (result, f, e) =
      let x = attach-follows result g f in record { after = x.0; serves = (result, x.1, e); matches = x.2 }
  call-follows (Detach key) reply g (result, f, e) =
      let x = detach-follows key (clients_in u key) result g
      (subst (λ o. DetachesFrom h key o result g) (client-now key) f) in
      record { after = x.0; serves = (result, x.1, e); matches = x.2 }
  call-follows (Frame key) reply g (result, f, e) =
      let x = frame-follows key (clients_in u key) result g
      (subst (λ o. CanFrame (screen_in h) o result) (client-now key) f.0)
      (subst (λ o. Framed h key o result g) (client-now key) f.1) in
      record { after = x.0; serves = (result, x.1, e); matches = x.2 }
  call-follows (Pump key takes) reply g (result, rest, f, e) =
      let x = pump-follows key takes rest (clients_in u key) result g
      (subst (λ o. PumpsFrom WritesAsReported h key o takes result rest g) (client-now key) f) in
      record { after = x.0; serves = (result, rest, x.1, e); matches = x.2 }
  call-follows (Fork key) reply g (result, f, e) =
      let x = fork-follows (clients_in u key) result g
      (subst (λ o. ForksFrom h o result g) (client-now key) f) in
      record { after = x.0; serves = (result, x.1, e); matches = x.2 }
  call-follows (Redraw key) reply g (f, e) =
      record { after = u; serves = (redrawn-matches key reply f, refl); matches = unchanged-matches g e }

  -- ---- sessions

  abbrev shown : List Story → List SessionView
  shown ts = map (λ t. t.session) ts

  ended-shown : (ts : List Story) → shown (map (with_session ended) ts) ≡ map ended (shown ts)
  ended-shown [] = refl
  ended-shown (t ∷ ts) = ap (λ ss. ended t.session ∷ ss) (ended-shown ts)

  -- what an attach begins, on a hub that attaches
  attached-live : (result : Result ℕ HubError) (key : ℕ) (g : HubState as_kept) → Attaches h result g
      → Attached key ≡ replied Attached result → is_failed h ≡ false
  attached-live (Ok other) key g f e = f.0
  attached-live (Err x) key g f e = absurd (let no : Attached key ≡ Refused x = e in cc)

  same-begun : (key : ℕ) → is_failed h ≡ false → begun u key ≡ begun h key
  same-begun key e =
      ap (λ (v : ScreenView). record {
        client = key;
        rows = (grid_size v.state.shown).rows;
        cols = (grid_size v.state.shown).cols;
        pumped = [];
        ended = false;
      }) (sym (screen-now (live e)))

  same-taken : (key : ℕ) (takes : List Take)
      → bytes_taken takes (clients_in u key) ≡ bytes_taken takes (clients_in h key)
  same-taken key takes = ap (bytes_taken takes) (sym (client-now key))

  each-shown : (f : SessionView → SessionView) (ts : List Story)
      → shown (map (with_session f) ts) ≡ map f (shown ts)
  each-shown f [] = refl
  each-shown f (t ∷ ts) = ap (λ ss. f t.session ∷ ss) (each-shown f ts)

  branches-shown : (f : SessionView → SessionView) (ts new : List Story)
      → shown (ts ++ map (with_session f) new) ≡ shown ts ++ map f (shown new)
  branches-shown f ts new =
      map-append (λ (t : Story). t.session) ts (map (with_session f) new) ∙ ap (λ ss. shown ts ++ ss) (each-shown f new)

  call-shown : (call : Call) (reply : Reply) (g : HubState as_kept) (ts : List Story) → Serves h call reply g
      → shown (stories_after u call reply ts) ≡ sessions_after h call reply (shown ts)
  call-shown (Resize rows cols) Done g ts s = ended-shown ts
  call-shown Attach (Attached key) g ts (result, f, e) =
      map-append (λ (t : Story). t.session) ts (record { session = begun u key; entries = [] } ∷ [])
      ∙ ap (λ s. shown ts ++ s ∷ []) (same-begun key (attached-live result key g f e))
  call-shown (Detach key) Done g ts s =
      shown-changed (is_on key) (is_of key) (with_session ended) ended (λ t. t.session) (λ t. refl) (λ t. refl) ts
  call-shown (Frame key) (Answered answer) g ts s =
      shown-changed (is_on key) (is_of key) (with_entries (entries_of u (clients_in u key) answer)) (λ x. x)
      (λ t. t.session) (λ t. refl) (λ t. refl) ts
      ∙ unchanged (is_of key) (λ x. x) (λ x. refl) (shown ts)
  call-shown (Pump key takes) reply g ts s =
      let bytes = bytes_taken takes (clients_in u key) in
      shown-changed (is_on key) (is_of key) (with_session (grown bytes)) (grown bytes) (λ t. t.session) (λ t. refl)
      (λ t. refl) ts
      ∙ ap (λ bs. change_last (is_of key) (grown bs) (shown ts)) (same-taken key takes)
  call-shown (Fork key) (Attached new) g ts s =
      branches-shown (branched new (bytes_owed (clients_in u key))) ts (last_that (is_on key) ts)
      ∙ ap (λ ss. shown ts ++ map (branched new (bytes_owed (clients_in u key))) ss)
      (shown-that (is_on key) (is_of key) (λ t. t.session) (λ t. refl) ts)
      ∙ ap (λ o. shown ts ++ map (branched new (bytes_owed o)) (last_that (is_of key) (shown ts))) (sym (client-now key))
  call-shown _ _ g ts s = refl

-- ---- runs

run-follows : (h g : HubState as_kept) (u : HubState as_reported) (calls : List Call) (replies : List Reply)
    → Matches h u → Runs h calls replies g → (v : HubState as_reported) × Runs u calls replies v × Matches g v
run-follows h g u [] [] m run = (u, refl, subst (λ x. Matches x u) (sym run) m)
run-follows h g u [] (reply ∷ replies) m run = absurd run
run-follows h g u (call ∷ calls) [] m run = absurd run
run-follows h g u (call ∷ calls) (reply ∷ replies) m (k, is, serves, later) =
    let first = call-follows h u m call reply k serves in
    let rest = run-follows k g first.after calls replies first.matches later in
    (rest.0, (first.after, is, first.serves, rest.1), rest.2)

-- and what a log keeps of them
log-follows : (h g : HubState as_kept) (u : HubState as_reported) (calls : List Call) (replies : List Reply)
    (ts : List Story) (ss ss' : List SessionView) → Matches h u → map (λ t. t.session) ts ≡ ss
    → RunsLogged h ss calls replies g ss'
    → (v : HubState as_reported) × (us : List Story) × RunsReported u ts calls replies v us × Matches g v
    × (map (λ t. t.session) us ≡ ss')
log-follows h g u [] [] ts ss ss' m logged run =
    (u, ts, (refl, refl), subst (λ x. Matches x u) (sym run.0) m, logged ∙ sym run.1)
log-follows h g u [] (reply ∷ replies) ts ss ss' m logged run = absurd run
log-follows h g u (call ∷ calls) [] ts ss ss' m logged run = absurd run
log-follows h g u (call ∷ calls) (reply ∷ replies) ts ss ss' m logged (k, is, serves, later) =
    let first = call-follows h u m call reply k serves in
    let shows = call-shown h u m call reply k ts serves ∙ ap (sessions_after h call reply) logged in
    let rest = log-follows k g first.after calls replies (stories_after u call reply ts) (sessions_after h call reply
    ss)
    ss' first.matches shows later in
    (rest.0, rest.1, (first.after, is, first.serves, rest.2), rest.3, rest.4)

pub new-matches : (rows cols : ℕ) (h : HubState as_kept) → IsNewHub rows cols h → Matches h (fresh rows cols)
new-matches rows cols h new = record {
  failed = ap (λ (v : ScreenView). v.failed) new.parser.screen;
  parser = λ e. new.parser;
  clients = new.clients;
}

pub runs-follow : EachRunHasAHistory
runs-follow rows cols calls replies h g new run =
    run-follows h g (fresh rows cols) calls replies (new-matches rows cols h new) run

pub logs-follow : EachLogHasAHistory
logs-follow rows cols calls replies h g ss new run =
    log-follows h g (fresh rows cols) calls replies [] [] ss (new-matches rows cols h new) refl run

-- ---- pumps

-- the reply to a pump that takes `taken` of n bytes
abbrev Ends : ℕ → ℕ → Result (Unit {0}) Error → Type 0
Ends taken n end = IsPumpReply (taken == n) (done (pump_answer end))

ends-none : (taken n : ℕ) (e : Error) → taken ≡ 0 → 0 < n → Ends taken n (Err e)
ends-none taken n e h k =
    subst (λ b. IsPumpReply b (Refused (hub.Write e)))
    (let same : false ≡ (taken == n) = grind (arith, nat_tests) in same) (e, refl)

ends-all : (taken n : ℕ) → taken ≡ 0 → n ≡ 0 → Ends taken n (Ok tt)
ends-all taken n h k =
    subst (λ b. IsPumpReply b Done) (let same : true ≡ (taken == n) = grind (arith, nat_tests) in same) refl

ends-later : (first k n : ℕ) (end : Result (Unit {0}) Error) → first ≡ min first n → Ends k (n - first) end
    → Ends (min first n + k) n end
ends-later first k n end h later =
    subst (λ b. IsPumpReply b (done (pump_answer end)))
    (let same : (k == n - first) ≡ (min first n + k == n) = grind (arith, nat_tests) in same) later

-- the reply to a pump to a scripted writer, by its script
pump-ends : (takes rest : List Take) (owed : List ℕ) (end : Result (Unit {0}) Error) (n : ℕ)
    → Pumps WritesAsReported takes owed end n rest → Ends (taken_by takes (length owed)) (length owed) end
pump-ends takes rest owed end n all = ends-all (taken_by takes 0) 0 (takes-nothing takes) refl
pump-ends takes rest owed end n (nothing owes reported kind) =
    ends-none (taken_by takes (length owed)) (length owed) _ (first-none takes rest owed owes reported)
    (some-owed owed owes)
pump-ends takes rest owed end n (fault {e = e} owes reported) =
    ends-none (taken_by takes (length owed)) (length owed) e (first-fault takes rest owed e reported)
    (some-owed owed owes)
pump-ends takes rest owed end n (some middle first k more pos reported later) =
    let h = first-some takes middle owed first pos reported in
    let further = pump-ends middle rest (drop first owed) end k later in
    let left = length-drop first owed in
    let after : Ends (taken_by middle (length owed - first)) (length owed - first) end =
    subst (λ c. Ends (taken_by middle c) c end) left further in
    subst (λ c. Ends c (length owed) end) (sym h.0)
    (ends-later first (taken_by middle (length owed - first)) (length owed) end h.1 after)

module _ (way : Telling) where
  pumps-take-by : (h g : HubState way) (key : ℕ) (takes rest : List Take) (reply : Reply) (c : ClientState)
      (result : Result (Unit {0}) HubError) → PumpsFrom WritesAsReported h key (Some c) takes result rest g
      → reply ≡ done result → IsPumpReply (taken_by takes (length c.owed) == length c.owed) reply
  pumps-take-by h g key takes rest reply c result (end, n, pumps, is, puts) e =
      subst (λ r. IsPumpReply (taken_by takes (length c.owed) == length c.owed) r) (sym (e ∙ ap done is))
      (pump-ends takes rest c.owed end n pumps)

  pub pumps-take : EachPumpTakesAsReported way
  pumps-take h g key takes reply c at (result, rest, f, e) = (
    pumps-take-by h g key takes rest reply c result
        (subst (λ o. PumpsFrom WritesAsReported h key o takes result rest g) at f) e,
    pumped-left h g key takes reply c at (result, rest, f, e),
  )

-- ---- any writer, as a script

module _ (S : Type 0) (step : S → List ℕ → Result ℕ Error → S → Type 0) where
  abbrev Reported : List ℕ → Result (Unit {0}) Error → ℕ → Type 0
  Reported owed end n = (takes : List Take) × Pumps WritesAsReported takes owed end n []

  reported-of : (s t : S) (owed : List ℕ) (end : Result (Unit {0}) Error) (n : ℕ) → Pumps step s owed end n t
      → Reported owed end n
  reported-of s t owed end n all = ([], all)
  reported-of s t owed end n (nothing owes takes kind) =
      let none : 0 ≡ min 0 (length owed) = omega arith in
      (Bytes 0 ∷ [], nothing owes (ok-number 0 (min 0 (length owed)) none, refl) kind)
  reported-of s t owed end n (fault {e = e} owes takes) = (Fault ∷ [], fault owes ((e, refl), refl))
  reported-of s t owed end n (some m first k owes pos takes rest) =
      let later = reported-of m t (drop first owed) end k rest in
      let j = min first (length owed) in
      let after : Pumps WritesAsReported later.0 (drop j owed) end k [] =
      subst (λ bytes. Pumps WritesAsReported later.0 bytes end k []) (sym (drop_min first owed)) later.1 in
      let more : 0 < j = omega (arith, some-owed owed owes) in
      let same : min j (length owed) ≡ j = omega arith in (
        Bytes first ∷ later.0,
        subst (λ c. Pumps WritesAsReported (Bytes first ∷ later.0) owed end (c + k) []) same
            (some later.0 j k owes more (refl, refl) after),
      )

  reported-from : (h g : HubState as_kept) (key : ℕ) (o : Option ClientState) (s t : S) (result : Result (Unit {0})
      HubError)
      → PumpsFrom step h key o s result t g
      → (takes : List Take) × PumpsFrom WritesAsReported h key o takes result [] g
  reported-from h g key None s t result f = ([], (f.0, refl, f.2))
  reported-from h g key (Some c) s t result (end, n, pumps, is, after) =
      let reported = reported-of s t c.owed end n pumps in
      (reported.0, (end, n, reported.1, is, after))

  pub pumps-served : EachPumpIsServed step
  pumps-served h g key s t result f =
      let reported = reported-from h g key (clients_in h key) s t result f in
      (reported.0, (result, [], reported.1, refl))
