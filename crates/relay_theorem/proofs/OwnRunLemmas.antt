-- A run's calls on a session, followed to its end.
use Rattle.std.proofs.Common.{◌≡◌, ◌∙◌, ℕ, ◌+◌, ◌-◌, Bool, true, false, List, [], ◌∷◌, ◌++◌, map, length, Option}
use Rattle.std.proofs.Common.{Some, None, refl, sym, ap, subst, append_assoc, append-nil}
use Rattle.std.specs.Prelude.{slice_get}
use Rattle.std.specs.List.{list_any}
use Rattle.std.proofs.lemmas.Bool.{or_parts}
use Rattle.std.proofs.lemmas.List.{length-map}
use Rattle.screen_model.specs.Made.{Act, Fed, Resized}
use Rattle.termrelay.specs.Answers.{ClientState}
use Rattle.termrelay.specs.declared.runs.call.Reply.{Reply}
use Rattle.termrelay.specs.declared.runs.call.Reply.TheVariants.{Done, Attached, Answered}
use Rattle.termrelay.specs.Hub.{HubState}
use Rattle.termrelay.specs.Calls.{Call, Resize, Attach, Detach, Frame, Pump, Fork, IsCall, done}
use Rattle.termrelay.specs.Log.{change_last, last_that, begun, ended, grown, branched, bytes_owed, bytes_taken}
use Rattle.relay_theorem.specs.History.{as_reported, Story, is_on, with_session, with_entries, entries_of}
use Rattle.relay_theorem.specs.History.{stories_after}
use Rattle.relay_theorem.specs.Laws.{AtMostOne}
use Rattle.relay_theorem.specs.Isolation.{is_out_of_memory, Own, Acts, Comes, Asks, Pumped, Leaves, acts_of, own_at}
use Rattle.relay_theorem.specs.Isolation.{own_then, own_of}
use Rattle.relay_theorem.proofs.StoryLemmas.{pick, only-changed}
use Rattle.relay_theorem.proofs.CallLemmas.{Does, refuses, feeds, fails, resizes, attaches, detaches, answers}
use Rattle.relay_theorem.proofs.CallLemmas.{declines, pumps, misses, forks, draws}
use Rattle.relay_theorem.proofs.HistoryLemmas.{IsKept, Went, over, called}
use Rattle.relay_theorem.proofs.OwnLemmas.{got-mapped, got-prefix, Life, past, story_of}
use Rattle.relay_theorem.proofs.OwnLemmas.{lives, life_on, life_of, CanLive, CanCome, Lives, Goes, call-goes-on}

-- on a hub that was first of this size
module _ (rows cols : ℕ) where
  -- ---- once it has ended

  gone-changed : (key other n : ℕ) (l : Life) (f : Story → Story) (ts : List Story) → AtMostOne (is_on other) ts
      → slice_get ts n ≡ Some (story_of rows cols key true l)
      → slice_get (change_last (is_on other) f ts) n ≡ Some (story_of rows cols key true l)
  gone-changed key other n l f ts one at =
      ap (λ xs. slice_get xs n) (only-changed (is_on other) f ts one)
      ∙ got-mapped (pick (is_on other) f) ts n (story_of rows cols key true l) at

  module _ (key n : ℕ) (l : Life) (h : HubState as_reported) (ts : List Story) (one : (k : ℕ) → AtMostOne (is_on k) ts)
      (at : slice_get ts n ≡ Some (story_of rows cols key true l)) where
    abbrev Stays : Call → Reply → Type 0
    Stays call reply = slice_get (stories_after h call reply ts) n ≡ Some (story_of rows cols key true l)

    gone-stays : (call : Call) (reply : Reply) → Stays call reply
    gone-stays (Resize height width) Done = got-mapped (with_session ended) ts n (story_of rows cols key true l) at
    gone-stays Attach (Attached other) =
        got-prefix ts (record { session = begun h other; entries = [] } ∷ []) n (story_of rows cols key true l) at
    gone-stays (Detach other) Done = gone-changed key other n l (with_session ended) ts (one other) at
    gone-stays (Frame other) (Answered answer) =
        gone-changed key other n l (with_entries (entries_of h (h.clients other) answer)) ts (one other) at
    gone-stays (Pump other takes) reply =
        gone-changed key other n l (with_session (grown (bytes_taken takes (h.clients other)))) ts (one other) at
    gone-stays (Fork old) (Attached other) =
        got-prefix ts (map (with_session (branched other (bytes_owed (h.clients old)))) (last_that (is_on old) ts)) n
        (story_of rows cols key true l) at
    gone-stays _ _ = at

  gone-run : (key n : ℕ) (l : Life) (h k : HubState as_reported) (ts us : List Story) (calls : List Call)
      (replies : List Reply) → slice_get ts n ≡ Some (story_of rows cols key true l) → Went h ts calls replies k us
      → slice_get us n ≡ Some (story_of rows cols key true l)
  gone-run key n l h k ts us calls replies at (over kept) = at
  gone-run key n l h k ts us (call ∷ calls) (reply ∷ replies) at (called g kept does is later) =
      gone-run key n l g k (stories_after h call reply ts) us calls replies
      (gone-stays key n l h ts kept.one at call reply) later

  -- ---- from its coming on

  -- what its own calls make
  pub record EndsAs (key n : ℕ) (k : HubState as_reported) (us : List Story) (l : Life) (owns : List Own) : Type 0 where
    pub story : slice_get us n ≡ Some (story_of rows cols key (life_on rows cols l owns).1 (life_on rows cols l owns).0)
    pub client : (life_on rows cols l owns).1 ≡ false → k.clients key ≡ Some (life_on rows cols l owns).0.client
    pub can : CanLive rows cols l owns

  -- one more call, by what those after it make
  module _ (key n : ℕ) (g k : HubState as_reported) (ts us : List Story) (owns : List Own)
      (more : (l : Life) → Lives rows cols key n g ts l → EndsAs key n k us l owns)
      (gone : (l : Life) → slice_get ts n ≡ Some (story_of rows cols key true l)
      → slice_get us n ≡ Some (story_of rows cols key true l))
      (l : Life) where
    lives-then : (o : Option Own) → Goes rows cols key n g ts l o → EndsAs key n k us l (own_then o owns)
    lives-then None goes = more l goes
    lives-then (Some (Acts (Fed bytes))) goes =
        let e = more (lives rows cols l (Acts (Fed bytes))) goes in
        record { story = e.story; client = e.client; can = e.can }
    lives-then (Some (Acts (Resized height width))) goes = record {
      story = gone l goes.1;
      client = λ e. absurd (let no : true ≡ false = e in cc);
      can = (goes.0, refl);
    }
    lives-then (Some Comes) goes = absurd goes
    lives-then (Some Asks) goes =
        let e = more (lives rows cols l Asks) goes in
        record { story = e.story; client = e.client; can = e.can }
    lives-then (Some (Pumped takes)) goes =
        let e = more (lives rows cols l (Pumped takes)) goes.1 in
        record { story = e.story; client = e.client; can = (goes.0, e.can) }
    lives-then (Some Leaves) goes = record {
      story = gone l goes;
      client = λ e. absurd (let no : true ≡ false = e in cc);
      can = refl;
    }

  pub lives-run : (key n : ℕ) (l : Life) (h k : HubState as_reported) (ts us : List Story) (calls : List Call)
      (replies : List Reply) → Lives rows cols key n h ts l → list_any is_out_of_memory replies ≡ false
      → Went h ts calls replies k us → EndsAs key n k us l (own_of key calls replies)
  lives-run key n l h k ts us calls replies s fed (over kept) =
      record { story = s.story; client = λ _. s.client; can = tt }
  lives-run key n l h k ts us (call ∷ calls) (reply ∷ replies) s fed (called g kept does is later) =
      let after = stories_after h call reply ts in
      let each = or_parts (is_out_of_memory reply) (list_any is_out_of_memory replies) fed in
      lives-then key n g k after us (own_of key calls replies)
      (λ m t. lives-run key n m g k after us calls replies t each.1 later)
      (λ m at. gone-run key n m g k after us calls replies at later) l (own_at key call reply)
      (call-goes-on rows cols key n l h g ts call reply kept s is does each.0)

  -- ---- before it comes

  -- a session as its own calls make it, on the hub after them
  pub record Found (acts : List Act) (owns : List Own) (k : HubState as_reported) (t : Story) : Type 0 where
    pub key : ℕ
    pub life : Life
    pub gone : Bool
    pub reported : life_of rows cols acts owns ≡ Some (life, gone)
    pub is : t ≡ story_of rows cols key gone life
    pub client : gone ≡ false → k.clients key ≡ Some life.client
    pub can : CanCome rows cols acts owns

  -- no session comes by this call
  abbrev pub IsQuiet : Call → Reply → Type 0
  IsQuiet Attach (Attached key) = ⊥
  IsQuiet (Fork old) (Attached key) = ⊥
  IsQuiet call reply = Unit {0}

  -- the screen goes on by the call's acts
  pub record Passes (acts : List Act) (g : HubState as_reported) (ts us : List Story) (done : List Act) : Type 0 where
    pub parser : g.parser ≡ past rows cols (acts ++ done)
    pub count : length us ≡ length ts
    pub sides : (owns : List Own) → CanCome rows cols (acts ++ done) owns
        → CanCome rows cols acts (map Acts done ++ owns)

  module _ (acts : List Act) (clients : ℕ → Option ClientState) (ts : List Story)
      (one : (k : ℕ) → AtMostOne (is_on k) ts) where
    abbrev before : HubState as_reported
    before = record { parser = past rows cols acts; clients = clients }

    idle-passes : (g : HubState as_reported) (us : List Story) → g.parser ≡ past rows cols acts → length us ≡ length ts
        → Passes acts g ts us []
    idle-passes g us same count = record {
      parser = same ∙ ap (past rows cols) (sym (append-nil acts));
      count = count;
      sides = λ owns can. subst (λ done. CanCome rows cols done owns) (append-nil acts) can;
    }

    changed-count : (key : ℕ) (f : Story → Story) → length (change_last (is_on key) f ts) ≡ length ts
    changed-count key f =
        ap (λ (xs : List Story). length xs) (only-changed (is_on key) f ts (one key))
        ∙ length-map ts (pick (is_on key) f)

    does-pass : (call : Call) (reply : Reply) (g : HubState as_reported) → IsQuiet call reply → IsCall call
        → Does before call reply g → is_out_of_memory reply ≡ false
        → Passes acts g ts (stories_after before call reply ts) (acts_of call reply)
    does-pass call reply g quiet is (refuses (Frame key) e never) fed = absurd never
    does-pass call reply g quiet is (refuses (Pump key takes) e never) fed = absurd never
    does-pass call reply g quiet is (refuses _ e idle) fed = idle-passes before ts refl refl
    does-pass call reply g quiet is (feeds bytes) fed =
        record { parser = refl; count = refl; sides = λ owns can. (tt, can) }
    does-pass call reply g quiet is (fails bytes) fed = absurd (let no : true ≡ false = fed in cc)
    does-pass call reply g quiet is (resizes height width) fed = record {
      parser = refl;
      count = length-map ts (with_session ended);
      sides = λ owns can. (is, can);
    }
    does-pass call reply g quiet is (attaches key free) fed = absurd quiet
    does-pass call reply g quiet is (detaches key c at) fed =
        idle-passes g (change_last (is_on key) (with_session ended) ts) refl (changed-count key (with_session ended))
    does-pass call reply g quiet is (answers key c answer at due) fed =
        let change = with_entries (entries_of before (clients key) answer) in
        idle-passes g (change_last (is_on key) change ts) refl (changed-count key change)
    does-pass call reply g quiet is (declines key e can) fed = idle-passes before ts refl refl
    does-pass call reply g quiet is (pumps key takes r c at can) fed =
        let change = with_session (grown (bytes_taken takes (clients key))) in
        idle-passes g (change_last (is_on key) change ts) refl (changed-count key change)
    does-pass call reply g quiet is (misses key takes r free) fed =
        let change = with_session (grown (bytes_taken takes (clients key))) in
        idle-passes before (change_last (is_on key) change ts) refl (changed-count key change)
    does-pass call reply g quiet is (forks old key c at free) fed = absurd quiet
    does-pass call reply g quiet is (draws key r f) fed = idle-passes before ts refl refl

  pub call-passes : (acts : List Act) (h g : HubState as_reported) (ts : List Story) (call : Call) (reply : Reply)
      → IsKept h ts → h.parser ≡ past rows cols acts → IsQuiet call reply → IsCall call → Does h call reply g
      → is_out_of_memory reply ≡ false → Passes acts g ts (stories_after h call reply ts) (acts_of call reply)
  call-passes acts h g ts call reply kept parser quiet is does fed =
      let same : h ≡ before acts h.clients ts kept.one = λ i. record { parser = parser i; clients = h.clients } in
      subst (λ x. Passes acts g ts (stories_after x call reply ts) (acts_of call reply)) (sym same)
      (does-pass acts h.clients ts kept.one call reply g quiet is (subst (λ x. Does x call reply g) same does) fed)

  -- the life that a run's own calls make goes on by the acts before them
  pub life_of-more : (acts more : List Act) (owns : List Own)
      → life_of rows cols acts (map Acts more ++ owns) ≡ life_of rows cols (acts ++ more) owns
  life_of-more acts [] owns = ap (λ all. life_of rows cols all owns) (sym (append-nil acts))
  life_of-more acts (act ∷ more) owns =
      life_of-more (acts ++ act ∷ []) more owns ∙ ap (λ all. life_of rows cols all owns) (append_assoc acts (act ∷ [])
      more)
