-- A session's own calls can be made without any others.
use Rattle.std.proofs.Common.{◌≡◌, ◌∙◌, ℕ, false, ◌||◌, List, [], ◌∷◌, ◌++◌, map, Option, Some, None, Result, Ok, Err}
use Rattle.std.proofs.Common.{drop, refl, sym, ap, subst, append_assoc, if◌then◌else◌}
use Rattle.std.specs.Prelude.{◌==◌, slice_get}
use Rattle.std.specs.List.{list_any}
use Rattle.std.specs.declared.io.Error.{Error}
use Rattle.std.proofs.lemmas.Bool.{eq-eqb}
use Rattle.screen_model.specs.Made.{Act, Fed, Resized}
use Rattle.termrelay.specs.Answers.{ClientState}
use Rattle.termrelay.specs.declared.runs.call.Reply.{Reply}
use Rattle.termrelay.specs.declared.runs.call.Reply.TheVariants.{Done, Attached, Answered}
use Rattle.termrelay.specs.Hub.{HubState, screen_in, with_client, new_client, no_clients, CanFrame, Framed}
use Rattle.termrelay.specs.Hub.{DetachesFrom, PumpsFrom, pump_answer}
use Rattle.termrelay.specs.Calls.{Feed, Resize, Attach, Detach, Frame, Pump, IsCall, WritesAsReported, done, Serves}
use Rattle.termrelay.specs.Log.{begun}
use Rattle.termrelay.proofs.ScriptLemmas.{taken-as-reported}
use Rattle.relay_theorem.specs.History.{as_reported, Story, stories_after, RunsReported}
use Rattle.relay_theorem.specs.Isolation.{is_out_of_memory, Own, Acts, Comes, Asks, Pumped, Leaves, own_then, own_of}
use Rattle.relay_theorem.specs.Isolation.{own_since, own_calls, alone, EachSessionIsIsolated}
use Rattle.relay_theorem.proofs.StoryLemmas.{at-key}
use Rattle.relay_theorem.proofs.CallLemmas.{left_in}
use Rattle.relay_theorem.proofs.HistoryLemmas.{IsKept, fed-kept, resized-kept, attached-kept, fresh-kept, run-went}
use Rattle.relay_theorem.proofs.OwnLemmas.{Life, past, story_of, born, answer_now, client_by, lives, life_on, CanLive}
use Rattle.relay_theorem.proofs.OwnLemmas.{CanCome, Lives}
use Rattle.relay_theorem.proofs.OwnRunLemmas.{EndsAs, lives-run}
use Rattle.relay_theorem.proofs.BeginLemmas.{session-found}

-- a pump with any result didn't fail for want of memory
pump-fed : (end : Result (Unit {0}) Error) → is_out_of_memory (done (pump_answer end)) ≡ false
pump-fed (Ok u) = refl
pump-fed (Err e) = refl

module _ (rows cols key : ℕ) where
  abbrev hub_at : List Act → (ℕ → Option ClientState) → HubState as_reported
  hub_at acts clients = record { parser = past rows cols acts; clients = clients }

  -- ---- from its coming on

  -- these can be made at the key, and are then the session's own
  pub record CanGoOn (h : HubState as_reported) (ts : List Story) (owns : List Own) : Type 0 where
    pub replies : List Reply
    pub hub : HubState as_reported
    pub stories : List Story
    pub fed : list_any is_out_of_memory replies ≡ false
    pub run : RunsReported h ts (map (alone key) owns) replies hub stories
    pub same : own_of key (map (alone key) owns) replies ≡ owns

  own-first : (own : Own) (later : List Own)
      → own_then (if key == key then Some own else None) later ≡ own_then (Some own) later
  own-first own later = ap (λ b. own_then (if b then Some own else None) later) (eq-eqb key key refl)

  none-more : (h : HubState as_reported) (ts : List Story) → CanGoOn h ts []
  none-more h ts = record { replies = []; hub = h; stories = ts; fed = refl; run = (refl, refl); same = refl }

  -- one of them first
  one-more : (h g : HubState as_reported) (ts : List Story) (own : Own) (owns : List Own) (reply : Reply)
      → IsCall (alone key own) → Serves h (alone key own) reply g → is_out_of_memory reply ≡ false
      → (r : CanGoOn g (stories_after h (alone key own) reply ts) owns)
      → own_of key (map (alone key) (own ∷ owns)) (reply ∷ r.replies)
      ≡ own ∷ own_of key (map (alone key) owns) r.replies
      → CanGoOn h ts (own ∷ owns)
  one-more h g ts own owns reply is serves well r same = record {
    replies = reply ∷ r.replies;
    hub = r.hub;
    stories = r.stories;
    fed = ap (λ b. b || list_any is_out_of_memory r.replies) well ∙ r.fed;
    run = (g, is, serves, r.run);
    same = same ∙ ap (λ xs. own ∷ xs) r.same;
  }

  goes-on : (l : Life) (owns : List Own) (clients : ℕ → Option ClientState) (ts : List Story)
      → CanLive rows cols l owns → clients key ≡ Some l.client → CanGoOn (hub_at l.acts clients) ts owns
  goes-on l [] clients ts can at = none-more (hub_at l.acts clients) ts
  goes-on l (Acts (Fed bytes) ∷ owns) clients ts can at =
      let act = Acts (Fed bytes) in
      one-more (hub_at l.acts clients) (hub_at (l.acts ++ Fed bytes ∷ []) clients) ts act owns Done tt
      (Ok tt, (refl, refl, refl, refl), refl) refl (goes-on (lives rows cols l act) owns clients ts can at) refl
  goes-on l (Acts (Resized height width) ∷ owns) clients ts can at =
      let act = Acts (Resized height width) in
      let h = hub_at l.acts clients in
      let g = hub_at (l.acts ++ Resized height width ∷ []) no_clients in
      subst (λ xs. CanGoOn h ts (act ∷ xs)) (sym can.1)
      (one-more h g ts act [] Done can.0 (Ok tt, (refl, refl, refl, refl), refl) refl
      (none-more g (stories_after h (Resize height width) Done ts)) refl)
  goes-on l (Comes ∷ owns) clients ts can at = absurd can
  goes-on l (Asks ∷ owns) clients ts can at =
      let h = hub_at l.acts clients in
      let answer = answer_now rows cols l in
      let c = client_by rows cols l answer in
      let now = with_client clients key (Some c) in
      let g = hub_at l.acts now in
      let serves : Serves h (Frame key) (Answered answer) g = (
        Ok answer,
        subst (λ (o : Option ClientState). CanFrame (screen_in h) o (Ok answer) × Framed h key o (Ok answer) g) (sym at)
            ((refl, refl), (refl, refl)),
        refl,
      ) in
      let r = goes-on (lives rows cols l Asks) owns now (stories_after h (Frame key) (Answered answer) ts) can
      (at-key clients key (Some c)) in
      one-more h g ts Asks owns (Answered answer) tt serves refl r
      (own-first Asks (own_of key (map (alone key) owns) r.replies))
  goes-on l (Pumped takes ∷ owns) clients ts ((end, m, rest, pumps), can) at =
      let h = hub_at l.acts clients in
      let left = λ (i : ℕ). record (l.client) { owed = drop i l.client.owed } in
      let now = with_client clients key (Some (left m)) in
      let g = hub_at l.acts now in
      let reply = done (pump_answer end) in
      let serves : Serves h (Pump key takes) reply g = (
        pump_answer end,
        rest,
        subst (λ (o : Option ClientState). PumpsFrom WritesAsReported h key o takes (pump_answer end) rest g) (sym at)
            (end, m, pumps, refl, (refl, refl)),
        refl,
      ) in
      let after : now key ≡ Some (left_in takes l.client) =
      at-key clients key (Some (left m))
      ∙ ap (λ i. Some (left i)) (taken-as-reported takes rest l.client.owed end m pumps) in
      let r = goes-on (lives rows cols l (Pumped takes)) owns now (stories_after h (Pump key takes) reply ts) can
      after in
      one-more h g ts (Pumped takes) owns reply tt serves (pump-fed end) r
      (own-first (Pumped takes) (own_of key (map (alone key) owns) r.replies))
  goes-on l (Leaves ∷ owns) clients ts can at =
      let h = hub_at l.acts clients in
      let g = hub_at l.acts (with_client clients key None) in
      let serves : Serves h (Detach key) Done g = (
        Ok tt,
        subst (λ (o : Option ClientState). DetachesFrom h key o (Ok tt) g) (sym at) (refl, (refl, refl)),
        refl,
      ) in
      subst (λ xs. CanGoOn h ts (Leaves ∷ xs)) (sym can)
      (one-more h g ts Leaves [] Done tt serves refl (none-more g (stories_after h (Detach key) Done ts))
      (own-first Leaves []))

  -- ---- from the first act on

  -- these can be made where no session has come, and are then those of the first
  pub record CanStart (h : HubState as_reported) (owns : List Own) : Type 0 where
    pub replies : List Reply
    pub hub : HubState as_reported
    pub stories : List Story
    pub story : Story
    pub fed : list_any is_out_of_memory replies ≡ false
    pub run : RunsReported h [] (map (alone key) owns) replies hub stories
    pub is : slice_get stories 0 ≡ Some story
    -- whatever lived before, and whatever was fed
    pub same : (lived : ℕ → List Own) (acts : List Own)
        → own_since lived acts 0 (map (alone key) owns) replies ≡ acts ++ owns

  starts : (acts : List Act) (owns : List Own) → IsKept (hub_at acts no_clients) [] → CanCome rows cols acts owns
      → CanStart (hub_at acts no_clients) owns
  starts acts (Acts (Fed bytes) ∷ owns) kept can =
      let h = hub_at acts no_clients in
      let g = hub_at (acts ++ Fed bytes ∷ []) no_clients in
      let serves : Serves h (Feed bytes) Done g = (Ok tt, (refl, refl, refl, refl), refl) in
      let r = starts (acts ++ Fed bytes ∷ []) owns (fed-kept h bytes [] kept) can.1 in
      record {
        replies = Done ∷ r.replies;
        hub = r.hub;
        stories = r.stories;
        story = r.story;
        fed = r.fed;
        run = (g, tt, serves, r.run);
        is = r.is;
        same = λ lived past.
            r.same (λ k. lived k ++ Acts (Fed bytes) ∷ []) (past ++ Acts (Fed bytes) ∷ [])
            ∙ append_assoc past (Acts (Fed bytes) ∷ []) owns;
      }
  starts acts (Acts (Resized height width) ∷ owns) kept can =
      let h = hub_at acts no_clients in
      let act = Resized height width in
      let g = hub_at (acts ++ act ∷ []) no_clients in
      let serves : Serves h (Resize height width) Done g = (Ok tt, (refl, refl, refl, refl), refl) in
      let r = starts (acts ++ act ∷ []) owns (resized-kept h height width [] can.0 kept) can.1 in
      record {
        replies = Done ∷ r.replies;
        hub = r.hub;
        stories = r.stories;
        story = r.story;
        fed = r.fed;
        run = (g, can.0, serves, r.run);
        is = r.is;
        same = λ lived past.
            r.same (λ k. lived k ++ Acts act ∷ []) (past ++ Acts act ∷ []) ∙ append_assoc past (Acts act ∷ []) owns;
      }
  starts acts (Comes ∷ owns) kept can =
      let h = hub_at acts no_clients in
      let now = with_client no_clients key (Some new_client) in
      let g = hub_at acts now in
      let serves : Serves h Attach (Attached key) g = (Ok key, (refl, refl, (refl, refl)), refl) in
      let at = at-key no_clients key (Some new_client) in
      let ts : List Story = record { session = begun h key; entries = [] } ∷ [] in
      let r = goes-on (born rows cols acts) owns now ts can at in
      let s : Lives rows cols key 0 g ts (born rows cols acts) = record { parser = refl; client = at; story = refl } in
      let e : EndsAs rows cols key 0 r.hub r.stories (born rows cols acts)
      (own_of key (map (alone key) owns) r.replies) =
      lives-run rows cols key 0 (born rows cols acts) g r.hub ts r.stories (map (alone key) owns) r.replies s r.fed
      (run-went g r.hub ts r.stories (map (alone key) owns) r.replies (attached-kept h key [] refl kept) r.run) in
      let l = life_on rows cols (born rows cols acts) (own_of key (map (alone key) owns) r.replies) in
      record {
        replies = Attached key ∷ r.replies;
        hub = r.hub;
        stories = r.stories;
        story = story_of rows cols key l.1 l.0;
        fed = r.fed;
        run = (g, tt, serves, r.run);
        is = e.story;
        same = λ lived past.
            ap (λ xs. (past ++ Comes ∷ []) ++ xs) r.same ∙ append_assoc past (Comes ∷ []) owns;
      }
  starts acts _ kept can = absurd can

pub sessions-alone : EachSessionIsIsolated
sessions-alone rows cols calls replies n t key s fed =
    let f = session-found rows cols calls replies n t s fed in
    let b = starts rows cols key [] (own_calls n calls replies) (fresh-kept rows cols s.height s.width) f.can in
    record {
      replies = b.replies;
      story = b.story;
      session = record {
        height = s.height;
        width = s.width;
        hub = b.hub;
        stories = b.stories;
        ran = b.run;
        is = b.is;
      };
      fed = b.fed;
      same = b.same (λ k. []) [];
    }
