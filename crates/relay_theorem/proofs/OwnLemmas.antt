-- The state of a session, and the effect of one call on it.
use Rattle.std.proofs.Common.{◌≡◌, ◌∙◌, ℕ, zero, suc, ◌+◌, Bool, true, false, List, [], ◌∷◌, ◌++◌, map, length}
use Rattle.std.proofs.Common.{Option, Some, None, Err, refl, sym, ap, subst, arith, if◌then◌else◌}
use Rattle.std.specs.Prelude.{◌==◌, slice_get}
use Rattle.std.specs.Option.{option_map}
use Rattle.std.proofs.lemmas.Bool.{eqb-true, eq-eqb}
use Rattle.std.proofs.lemmas.Option.{slice_get-map, slice_get_past}
use Rattle.vt100_core.specs.Picture.{grid_size}
use Rattle.screen_model.specs.Made.{Act, Fed, Resized, made}
use Rattle.screen_model.specs.Shown.{shown_state}
use Rattle.screen_model.specs.Holds.{IsSide, IsAct}
use Rattle.termrelay.specs.Frame.{frame_text}
use Rattle.termrelay.specs.Answers.{ClientState, is_frame, answer_for, after_answer}
use Rattle.termrelay.specs.declared.answer.Answer.{Answer}
use Rattle.termrelay.specs.declared.runs.call.Reply.{Reply}
use Rattle.termrelay.specs.declared.runs.call.Reply.TheVariants.{Refused}
use Rattle.termrelay.specs.declared.error.HubError.{HubError}
use Rattle.termrelay.specs.declared.error.HubError.TheVariants as hub
use Rattle.termrelay.specs.Hub.{HubState, screen_in, size_in, shown_in, new_client, CanFrame}
use Rattle.termrelay.specs.Calls.{Call, Frame, Pump, IsCall, done}
use Rattle.termrelay.specs.Joins.{forked}
use Rattle.termrelay.specs.Log.{change_last, last_that, begun, ended, grown, branched, bytes_owed, bytes_taken}
use Rattle.relay_theorem.specs.History.{Past, as_reported, Entry, Story, is_on, with_session, with_entries, entries_of}
use Rattle.relay_theorem.specs.History.{stories_after}
use Rattle.relay_theorem.specs.Laws.{AtMostOne}
use Rattle.relay_theorem.specs.Isolation.{is_out_of_memory, Own, Acts, Comes, Asks, Pumped, Leaves, own_at, ends}
use Rattle.relay_theorem.proofs.StoryLemmas.{pick, only-changed, other-key, put, at-key, at-other, at-known}
use Rattle.relay_theorem.proofs.CallLemmas.{CanPump, left_in, Does, refuses, feeds, fails, resizes, attaches}
use Rattle.relay_theorem.proofs.CallLemmas.{detaches, answers, declines, pumps, misses, forks, draws}
use Rattle.relay_theorem.proofs.HistoryLemmas.{IsKept}

-- ---- lists

pub got-mapped : {X Y : Type 0} (f : X → Y) (xs : List X) (n : ℕ) (x : X) → slice_get xs n ≡ Some x
    → slice_get (map f xs) n ≡ Some (f x)
got-mapped f xs n x e = slice_get-map f xs n ∙ ap (option_map f) e

pub got-prefix : {X : Type 0} (xs ys : List X) (n : ℕ) (x : X) → slice_get xs n ≡ Some x
    → slice_get (xs ++ ys) n ≡ Some x
got-prefix [] ys n x e = absurd (let no : None ≡ Some x = e in cc)
got-prefix (y ∷ xs) ys zero x e = e
got-prefix (y ∷ xs) ys (suc n) x e = got-prefix xs ys n x e

pub got-last : {X : Type 0} (xs : List X) (x : X) → slice_get (xs ++ x ∷ []) (length xs) ≡ Some x
got-last [] x = refl
got-last (y ∷ xs) x = got-last xs x

pub none-past : {X : Type 0} (xs : List X) (n : ℕ) (x : X) → slice_get xs (length xs + n) ≡ Some x → ⊥
none-past xs n x e = let no : None ≡ Some x = sym (slice_get_past xs (length xs + n) (omega arith)) ∙ e in absurd (cc)

-- ---- what a session has

-- a session by itself: what has been fed and resized, its client, and what it has
pub record Life : Type 0 where
  pub acts : List Act
  pub client : ClientState
  pub rows : ℕ
  pub cols : ℕ
  pub pumped : List ℕ
  pub entries : List Entry

-- on a hub that was first of this size
module _ (rows cols : ℕ) where
  abbrev pub past : List Act → Past
  past acts = record { rows = rows; cols = cols; acts = acts; failed = false }

  abbrev pub story_of : ℕ → Bool → Life → Story
  story_of key gone l = record {
    session = record { client = key; rows = l.rows; cols = l.cols; pumped = l.pumped; ended = gone };
    entries = l.entries;
  }

  -- it has just come
  abbrev pub born : List Act → Life
  born acts = record {
    acts = acts;
    client = new_client;
    rows = (grid_size (made rows cols 0 acts).shown).rows;
    cols = (grid_size (made rows cols 0 acts).shown).cols;
    pumped = [];
    entries = [];
  }

  abbrev pub answer_now : Life → Answer
  answer_now l = answer_for (made rows cols 0 l.acts) l.client

  abbrev pub client_by : Life → Answer → ClientState
  client_by l answer =
      after_answer (grid_size (made rows cols 0 l.acts).shown) (shown_state (made rows cols 0 l.acts)) l.client answer

  abbrev pub entry_by : Life → Answer → Entry
  entry_by l answer = record {
    moment = l.acts;
    answer = answer;
    text = if is_frame answer
        then frame_text (grid_size (made rows cols 0 l.acts).shown) l.client.base
        (shown_state (made rows cols 0 l.acts))
        else [];
  }

  abbrev pub asked : Life → Answer → Life
  asked l answer = record l { client = client_by l answer; entries = l.entries ++ entry_by l answer ∷ [] }

  -- what it has after one of its own
  abbrev pub lives : Life → Own → Life
  lives l (Acts act) = record l { acts = l.acts ++ act ∷ [] }
  lives l Comes = l
  lives l Asks = asked l (answer_now l)
  lives l (Pumped takes) =
      record l { client = left_in takes l.client; pumped = l.pumped ++ bytes_taken takes (Some l.client) }
  lives l Leaves = l

  -- after all of them, and whether it has ended
  abbrev pub life_on : Life → List Own → Life × Bool
  life_on l [] = (l, false)
  life_on l (own ∷ owns) = if ends own then (lives l own, true) else life_on (lives l own) owns

  abbrev pub life_of : List Act → List Own → Option (Life × Bool)
  life_of acts [] = None
  life_of acts (Acts act ∷ owns) = life_of (acts ++ act ∷ []) owns
  life_of acts (Comes ∷ owns) = Some (life_on (born acts) owns)
  life_of acts (own ∷ owns) = None

  -- all of them can be done
  abbrev pub CanLive : Life → List Own → Type 0
  CanLive l [] = Unit {0}
  CanLive l (Acts (Fed bytes) ∷ owns) = CanLive (lives l (Acts (Fed bytes))) owns
  CanLive l (Acts (Resized height width) ∷ owns) = (IsSide height × IsSide width) × (owns ≡ [])
  CanLive l (Comes ∷ owns) = ⊥
  CanLive l (Asks ∷ owns) = CanLive (lives l Asks) owns
  CanLive l (Pumped takes ∷ owns) = CanPump takes l.client.owed × CanLive (lives l (Pumped takes)) owns
  CanLive l (Leaves ∷ owns) = owns ≡ []

  abbrev pub CanCome : List Act → List Own → Type 0
  CanCome acts [] = ⊥
  CanCome acts (Acts act ∷ owns) = IsAct act × CanCome (acts ++ act ∷ []) owns
  CanCome acts (Comes ∷ owns) = CanLive (born acts) owns
  CanCome acts (own ∷ owns) = ⊥

  -- ---- while it lives

  -- on this hub the n-th session lives at the key, and has this
  pub record Lives (key n : ℕ) (h : HubState as_reported) (ts : List Story) (l : Life) : Type 0 where
    pub parser : h.parser ≡ past l.acts
    pub client : h.clients key ≡ Some l.client
    pub story : slice_get ts n ≡ Some (story_of key false l)

  -- and so after a call that is its own, or isn't
  abbrev pub Goes : ℕ → ℕ → HubState as_reported → List Story → Life → Option Own → Type 0
  Goes key n g us l None = Lives key n g us l
  Goes key n g us l (Some (Acts (Fed bytes))) = Lives key n g us (lives l (Acts (Fed bytes)))
  Goes key n g us l (Some (Acts (Resized height width))) =
      (IsSide height × IsSide width) × (slice_get us n ≡ Some (story_of key true l))
  Goes key n g us l (Some Comes) = ⊥
  Goes key n g us l (Some Asks) = Lives key n g us (lives l Asks)
  Goes key n g us l (Some (Pumped takes)) = CanPump takes l.client.owed × Lives key n g us (lives l (Pumped takes))
  Goes key n g us l (Some Leaves) = slice_get us n ≡ Some (story_of key true l)

  module _ (key n : ℕ) (l : Life) (clients : ℕ → Option ClientState) (ts : List Story)
      (one : (k : ℕ) → AtMostOne (is_on k) ts) (client : clients key ≡ Some l.client)
      (story : slice_get ts n ≡ Some (story_of key false l)) where
    abbrev now : HubState as_reported
    now = record { parser = past l.acts; clients = clients }

    own-changed : (f : Story → Story) → slice_get (change_last (is_on key) f ts) n ≡ Some (f (story_of key false l))
    own-changed f =
        let t = story_of key false l in
        ap (λ xs. slice_get xs n) (only-changed (is_on key) f ts (one key))
        ∙ got-mapped (pick (is_on key) f) ts n t story
        ∙ ap (λ b. Some (if b then f t else t)) (eq-eqb key key refl)

    other-changed : (other : ℕ) (f : Story → Story) → (key == other) ≡ false
        → slice_get (change_last (is_on other) f ts) n ≡ Some (story_of key false l)
    other-changed other f apart =
        let t = story_of key false l in
        ap (λ xs. slice_get xs n) (only-changed (is_on other) f ts (one other))
        ∙ got-mapped (pick (is_on other) f) ts n t story
        ∙ ap (λ b. Some (if b then f t else t)) apart

    stays : (us : List Story) → slice_get us n ≡ Some (story_of key false l) → Lives key n now us l
    stays us at = record { parser = refl; client = client; story = at }

    -- something is put at a key, which is its own, or another's
    put-goes : (b : Bool) (other : ℕ) (slot : Option ClientState) (f : Story → Story) (own : Own) → (other == key) ≡ b
        → ((other == key) ≡ true → Goes key n (put now key slot) (change_last (is_on key) f ts) l (Some own))
        → Goes key n (put now other slot) (change_last (is_on other) f ts) l (if b then Some own else None)
    put-goes true other slot f own e goes =
        subst (λ k. Goes key n (put now k slot) (change_last (is_on k) f ts) l (Some own)) (sym (eqb-true other key e))
        (goes e)
    put-goes false other slot f own e goes =
        let apart = other-key key other e in
        record {
          parser = refl;
          client = at-other clients other slot key apart ∙ client;
          story = other-changed other f apart;
        }

    -- a client at its own key is its own
    its-own : (other : ℕ) (o : Option ClientState) → (other == key) ≡ true → clients other ≡ o → o ≡ Some l.client
    its-own other o e at = sym at ∙ ap clients (eqb-true other key e) ∙ client

    -- where there is no client at a key, that isn't the session's own key
    free-by : (b : Bool) (other : ℕ) → (other == key) ≡ b → clients other ≡ None → b ≡ false
    free-by true other e free = let no : None ≡ Some l.client = its-own other None e free in absurd (cc)
    free-by false other e free = refl

    free-goes : (other : ℕ) (own : Own) (us : List Story) → clients other ≡ None
        → ((key == other) ≡ false → slice_get us n ≡ Some (story_of key false l))
        → Goes key n now us l (if other == key then Some own else None)
    free-goes other own us free at =
        let apart = free-by (other == key) other refl free in
        subst (λ b. Goes key n now us l (if b then Some own else None)) (sym apart)
        (stays us (at (other-key key other apart)))

    -- no frame where no client is
    declined : (o : Option ClientState) (e : HubError) → CanFrame (screen_in now) o (Err e)
        → is_out_of_memory (Refused e) ≡ false → o ≡ None
    declined None e can fed = refl
    declined (Some c) hub.Memory can fed = absurd (let no : true ≡ false = fed in cc)
    declined (Some c) hub.Failed can fed = absurd (let no : false ≡ true = can in cc)
    declined (Some c) _ can fed = absurd can

    does-goes : (call : Call) (reply : Reply) (g : HubState as_reported) → IsCall call → Does now call reply g
        → is_out_of_memory reply ≡ false → Goes key n g (stories_after now call reply ts) l (own_at key call reply)
    does-goes call reply g is (refuses (Frame other) e never) fed = absurd never
    does-goes call reply g is (refuses (Pump other takes) e never) fed = absurd never
    does-goes call reply g is (refuses _ e idle) fed = stays ts story
    does-goes call reply g is (feeds bytes) fed = record { parser = refl; client = client; story = story }
    does-goes call reply g is (fails bytes) fed = absurd (let no : true ≡ false = fed in cc)
    does-goes call reply g is (resizes height width) fed =
        (is, got-mapped (with_session ended) ts n (story_of key false l) story)
    does-goes call reply g is (attaches other free) fed = record {
      parser = refl;
      client = at-known clients other (Some new_client) key l.client free client;
      story = got-prefix ts (record { session = begun now other; entries = [] } ∷ []) n (story_of key false l) story;
    }
    does-goes call reply g is (detaches other c at) fed =
        put-goes (other == key) other None (with_session ended) Leaves refl (λ e. own-changed (with_session ended))
    does-goes call reply g is (answers other c answer at due) fed =
        let change = with_entries (entries_of now (clients other) answer) in
        put-goes (other == key) other (Some (after_answer (size_in now) (shown_in now) c answer)) change Asks refl
        (λ e.
        let same : c ≡ l.client = let both = its-own other (Some c) e at in cc in
        let reported : answer ≡ answer_now l = due ∙ ap (answer_for (made rows cols 0 l.acts)) same in
        record {
          parser = refl;
          client = at-key clients key (Some (after_answer (size_in now) (shown_in now) c answer))
              ∙ ap (λ d. Some (after_answer (size_in now) (shown_in now) d answer)) same
              ∙ ap (λ a. Some (client_by l a)) reported;
          story = own-changed change
              ∙ ap (λ o. Some (with_entries (entries_of now o answer) (story_of key false l)))
              (at ∙ its-own other (Some c) e at)
              ∙ ap (λ a. Some (with_entries (entry_by l a ∷ []) (story_of key false l))) reported;
        })
    does-goes call reply g is (declines other e can) fed =
        free-goes other Asks ts (declined (clients other) e can fed) (λ apart. story)
    does-goes call reply g is (pumps other takes r c at can) fed =
        let change = with_session (grown (bytes_taken takes (clients other))) in
        put-goes (other == key) other (Some (left_in takes c)) change (Pumped takes) refl
        (λ e.
        let same : c ≡ l.client = let both = its-own other (Some c) e at in cc in (
          subst (λ (d : ClientState). CanPump takes d.owed) same can,
          record {
            parser = refl;
            client = at-key clients key (Some (left_in takes c)) ∙ ap (λ d. Some (left_in takes d)) same;
            story = own-changed change
                ∙ ap (λ o. Some (with_session (grown (bytes_taken takes o)) (story_of key false l)))
                (at ∙ its-own other (Some c) e at);
          },
        ))
    does-goes call reply g is (misses other takes r free) fed =
        let change = with_session (grown (bytes_taken takes (clients other))) in
        free-goes other (Pumped takes) (change_last (is_on other) change ts) free (other-changed other change)
    does-goes call reply g is (forks old other c at free) fed =
        let new = map (with_session (branched other (bytes_owed (clients old)))) (last_that (is_on old) ts) in
        record {
          parser = refl;
          client = at-known clients other (Some (forked c)) key l.client free client;
          story = got-prefix ts new n (story_of key false l) story;
        }
    does-goes call reply g is (draws other r f) fed = stays ts story

  pub call-goes-on : (key n : ℕ) (l : Life) (h g : HubState as_reported) (ts : List Story) (call : Call) (reply : Reply)
      → IsKept h ts → Lives key n h ts l → IsCall call → Does h call reply g → is_out_of_memory reply ≡ false
      → Goes key n g (stories_after h call reply ts) l (own_at key call reply)
  call-goes-on key n l h g ts call reply kept s is does fed =
      let same : h ≡ now key n l h.clients ts kept.one s.client s.story =
      λ i. record { parser = s.parser i; clients = h.clients } in
      subst (λ x. Goes key n g (stories_after x call reply ts) l (own_at key call reply)) (sym same)
      (does-goes key n l h.clients ts kept.one s.client s.story call reply g is
      (subst (λ x. Does x call reply g) same does) fed)
