-- A run of only a session's own calls has a session that is like it.
use Rattle.std.proofs.Common.{◌≡◌, ◌∙◌, ℕ, true, false, List, [], ◌∷◌, ◌++◌, map, Some, None, Ok, Err}
use Rattle.std.proofs.Common.{refl, sym, ap, subst, append_assoc, if◌then◌else◌}
use Rattle.std.specs.Prelude.{◌==◌, slice_get}
use Rattle.std.specs.List.{list_any}
use Rattle.std.proofs.lemmas.Bool.{eq-eqb, or_parts}
use Rattle.screen_model.specs.Made.{Act, Fed, Resized}
use Rattle.termrelay.specs.declared.runs.call.Reply.{Reply}
use Rattle.termrelay.specs.declared.runs.call.Reply.TheVariants.{Done, Attached}
use Rattle.termrelay.specs.declared.error.HubError.TheVariants as hub
use Rattle.termrelay.specs.Hub.{HubState, new_client, no_clients, DetachesFrom}
use Rattle.termrelay.specs.Calls.{Call, Feed, Resize, Attach, Detach, done, Serves}
use Rattle.termrelay.specs.Log.{SessionView, begun}
use Rattle.relay_theorem.specs.History.{Past, as_reported, Story, stories_after, RunsReported}
use Rattle.relay_theorem.specs.Isolation.{is_out_of_memory, Own, Acts, Comes, Asks, Pumped, Leaves, own_at, own_then}
use Rattle.relay_theorem.specs.Isolation.{own_of, own_since}
use Rattle.relay_theorem.specs.Isolation.{own_calls, alone, EachLoneSessionIsAlike, EachLoggedLoneSessionIsAlike}
use Rattle.relay_theorem.proofs.StoryLemmas.{put, at-key}
use Rattle.relay_theorem.proofs.CallLemmas.{serves-does, hub_after, does-after}
use Rattle.relay_theorem.proofs.HistoryLemmas.{IsKept, fed-kept, resized-kept, attached-kept, does-kept, fresh-kept}
use Rattle.relay_theorem.proofs.HistoryLemmas.{run-went}
use Rattle.relay_theorem.proofs.LoggedLemmas.{logged-story}
use Rattle.relay_theorem.proofs.OwnLemmas.{Life, past, story_of, born, lives, life_on, CanLive, CanCome, Lives, Goes}
use Rattle.relay_theorem.proofs.OwnLemmas.{call-goes-on}
use Rattle.relay_theorem.proofs.OwnRunLemmas.{lives-run}
use Rattle.relay_theorem.proofs.BeginLemmas.{session-found}
use Rattle.relay_theorem.proofs.IsolationLemmas.{sessions-isolated, logged-isolated}

module _ (rows cols : ℕ) where
  -- ---- replies, where no call is refused for want of memory

  module _ (h g : HubState as_reported) (acts : List Act) (reply : Reply) (is : h.parser ≡ past rows cols acts)
      (fed : is_out_of_memory reply ≡ false) where
    live : h.parser.failed ≡ false
    live = ap (λ (p : Past). p.failed) is

    feed-done : (bytes : List ℕ) → Serves h (Feed bytes) reply g → reply ≡ Done
    feed-done bytes (Ok u, f, e) = e
    feed-done bytes (Err hub.Memory, f, e) = absurd (let no : true ≡ false = sym (ap is_out_of_memory e) ∙ fed in cc)
    feed-done bytes (Err hub.Failed, f, e) = absurd (let no : false ≡ true = sym live ∙ f.0 in cc)
    feed-done bytes (Err hub.UnknownClient, f, e) = absurd f
    feed-done bytes (Err (hub.Write x), f, e) = absurd f

    resize-done : (height width : ℕ) → Serves h (Resize height width) reply g → reply ≡ Done
    resize-done height width (Ok u, f, e) = e
    resize-done height width (Err hub.Memory, f, e) =
        absurd (let no : true ≡ false = sym (ap is_out_of_memory e) ∙ fed in cc)
    resize-done height width (Err hub.Failed, f, e) = absurd (let no : false ≡ true = sym live ∙ f.0 in cc)
    resize-done height width (Err hub.UnknownClient, f, e) = absurd f
    resize-done height width (Err (hub.Write x), f, e) = absurd f

    attach-done : Serves h Attach reply g → (key : ℕ) × (reply ≡ Attached key)
    attach-done (Ok key, f, e) = (key, e)
    attach-done (Err hub.Memory, f, e) = absurd (let no : true ≡ false = sym (ap is_out_of_memory e) ∙ fed in cc)
    attach-done (Err hub.Failed, f, e) = absurd (let no : false ≡ true = sym live ∙ f.0 in cc)
    attach-done (Err hub.UnknownClient, f, e) = absurd f
    attach-done (Err (hub.Write x), f, e) = absurd f

  detach-done : (key : ℕ) (l : Life) (h g : HubState as_reported) (reply : Reply) → h.clients key ≡ Some l.client
      → Serves h (Detach key) reply g → reply ≡ Done
  detach-done key l h g reply at (result, d, e) =
      e ∙ ap done (subst (λ o. DetachesFrom h key o result g) at d).0

  -- ---- from its coming on

  module _ (key : ℕ) where
    -- at its own key a call is its own
    here : (own : Own) → (if key == key then Some own else None) ≡ Some own
    here own = ap (λ b. if b then Some own else None) (eq-eqb key key refl)

    own-now : (n : ℕ) (l : Life) (h g : HubState as_reported) (ts : List Story) (own : Own) (owns : List Own)
        (reply : Reply) → CanLive rows cols l (own ∷ owns) → Lives rows cols key n h ts l → is_out_of_memory reply
        ≡ false
        → Serves h (alone key own) reply g → own_at key (alone key own) reply ≡ Some own
    own-now n l h g ts (Acts (Fed bytes)) owns reply can s fed serves =
        ap (own_at key (Feed bytes)) (feed-done h g l.acts reply s.parser fed bytes serves)
    own-now n l h g ts (Acts (Resized height width)) owns reply can s fed serves =
        ap (own_at key (Resize height width)) (resize-done h g l.acts reply s.parser fed height width serves)
    own-now n l h g ts Comes owns reply can s fed serves = absurd can
    own-now n l h g ts Asks owns reply can s fed serves = here Asks
    own-now n l h g ts (Pumped takes) owns reply can s fed serves = here (Pumped takes)
    own-now n l h g ts Leaves owns reply can s fed serves =
        ap (own_at key (Detach key)) (detach-done key l h g reply s.client serves) ∙ here Leaves

    -- one more call of its own, by what is said of those after it
    own-more : (n : ℕ) (l : Life) (g : HubState as_reported) (us : List Story) (own : Own) (owns later : List Own)
        → CanLive rows cols l (own ∷ owns) → Goes rows cols key n g us l (Some own)
        → ((m : Life) → CanLive rows cols m owns → Lives rows cols key n g us m → later ≡ owns)
        → own_then (Some own) later ≡ own ∷ owns
    own-more n l g us (Acts (Fed bytes)) owns later can goes more =
        ap (λ xs. Acts (Fed bytes) ∷ xs) (more (lives rows cols l (Acts (Fed bytes))) can goes)
    own-more n l g us (Acts (Resized height width)) owns later can goes more =
        ap (λ xs. Acts (Resized height width) ∷ xs) (sym can.1)
    own-more n l g us Comes owns later can goes more = absurd can
    own-more n l g us Asks owns later can goes more =
        ap (λ xs. Asks ∷ xs) (more (lives rows cols l Asks) can goes)
    own-more n l g us (Pumped takes) owns later can goes more =
        ap (λ xs. Pumped takes ∷ xs) (more (lives rows cols l (Pumped takes)) can.1 goes.1)
    own-more n l g us Leaves owns later can goes more = ap (λ xs. Leaves ∷ xs) (sym can)

    lone-on : (n : ℕ) (l : Life) (owns : List Own) (h k : HubState as_reported) (ts us : List Story)
        (answers : List Reply)
        → CanLive rows cols l owns → IsKept h ts → Lives rows cols key n h ts l → list_any is_out_of_memory answers
        ≡ false
        → RunsReported h ts (map (alone key) owns) answers k us → own_of key (map (alone key) owns) answers ≡ owns
    lone-on n l [] h k ts us [] can kept s fed run = refl
    lone-on n l [] h k ts us (reply ∷ answers) can kept s fed run = absurd run
    lone-on n l (own ∷ owns) h k ts us [] can kept s fed run = absurd run
    lone-on n l (own ∷ owns) h k ts us (reply ∷ answers) can kept s fed (g, is, serves, later) =
        let call = alone key own in
        let each = or_parts (is_out_of_memory reply) (list_any is_out_of_memory answers) fed in
        let does = serves-does h g call reply serves in
        let after = stories_after h call reply ts in
        let now = own-now n l h g ts own owns reply can s each.0 serves in
        let goes = subst (Goes rows cols key n g after l) now
        (call-goes-on rows cols key n l h g ts call reply kept s is does each.0) in
        ap (λ o. own_then o (own_of key (map (alone key) owns) answers)) now
        ∙ own-more n l g after own owns (own_of key (map (alone key) owns) answers) can goes
        (λ m c t. lone-on n m owns g k after us answers c (does-kept h ts kept call reply g is does) t each.1 later)

  -- ---- from the first act on

  -- no client has come
  abbrev hub_at : List Act → HubState as_reported
  hub_at acts = record { parser = past rows cols acts; clients = no_clients }

  -- and then the first one, at a key
  abbrev first_at : List Act → ℕ → HubState as_reported
  first_at acts key = put (hub_at acts) key (Some new_client)

  abbrev stories_at : List Act → ℕ → List Story
  stories_at acts key = record { session = begun (hub_at acts) key; entries = [] } ∷ []

  goes-to : (acts : List Act) (call : Call) (reply other : Reply) (g k : HubState as_reported) (us : List Story)
      (calls : List Call) (answers : List Reply) → Serves (hub_at acts) call reply g → reply ≡ other
      → RunsReported g (stories_after (hub_at acts) call reply []) calls answers k us
      → RunsReported (hub_after (hub_at acts) call other) (stories_after (hub_at acts) call other []) calls answers k us
  goes-to acts call reply other g k us calls answers serves is later =
      let h = hub_at acts in
      let same = does-after h call reply g (serves-does h g call reply serves) ∙ ap (hub_after h call) is in
      subst (λ x. RunsReported x (stories_after h call other []) calls answers k us) same
      (subst (λ r. RunsReported g (stories_after h call r []) calls answers k us) is later)

  born-lives : (acts : List Act) (key : ℕ)
      → Lives rows cols key 0 (first_at acts key) (stories_at acts key) (born rows cols acts)
  born-lives acts key = record { parser = refl; client = at-key no_clients key (Some new_client); story = refl }

  -- the first session has the key that its attach got
  key-of : (acts : List Act) (key : ℕ) (k : HubState as_reported) (us : List Story) (calls : List Call)
      (answers : List Reply) (u : Story) → IsKept (hub_at acts) [] → list_any is_out_of_memory answers ≡ false
      → RunsReported (first_at acts key) (stories_at acts key) calls answers k us → slice_get us 0 ≡ Some u
      → key ≡ u.session.client
  key-of acts key k us calls answers u kept fed run is =
      let l = life_on rows cols (born rows cols acts) (own_of key calls answers) in
      let e = lives-run rows cols key 0 (born rows cols acts) (first_at acts key) k (stories_at acts key) us calls
      answers
      (born-lives acts key) fed
      (run-went (first_at acts key) k (stories_at acts key) us calls answers
      (attached-kept (hub_at acts) key [] refl kept) run) in
      let both : Some (story_of rows cols key l.1 l.0) ≡ Some u = sym e.story ∙ is in
      let one : story_of rows cols key l.1 l.0 ≡ u = cc in
      ap (λ (x : Story). x.session.client) one

  lone-start : (acts : List Act) (owns : List Own) (key : ℕ) (k : HubState as_reported) (us : List Story)
      (answers : List Reply) (u : Story) → CanCome rows cols acts owns → IsKept (hub_at acts) []
      → list_any is_out_of_memory answers ≡ false → RunsReported (hub_at acts) [] (map (alone key) owns) answers k us
      → slice_get us 0 ≡ Some u → u.session.client ≡ key → (lived : ℕ → List Own) (past : List Own)
      → own_since lived past 0 (map (alone key) owns) answers ≡ past ++ owns
  lone-start acts (Acts (Fed bytes) ∷ owns) key k us [] u can kept fed run is at lived past = absurd run
  lone-start acts (Acts (Fed bytes) ∷ owns) key k us (reply ∷ answers) u can kept fed (g, ok, serves, later) is at lived past =
      let h = hub_at acts in
      let calls = map (alone key) owns in
      let each = or_parts (is_out_of_memory reply) (list_any is_out_of_memory answers) fed in
      let r = feed-done h g acts reply refl each.0 bytes serves in
      let run = goes-to acts (Feed bytes) reply Done g k us calls answers serves r later in
      let act = Acts (Fed bytes) in
      ap (λ y. own_since lived past 0 (Feed bytes ∷ calls) (y ∷ answers)) r
      ∙ lone-start (acts ++ Fed bytes ∷ []) owns key k us answers u can.1 (fed-kept h bytes [] kept) each.1 run is at
      (λ x. lived x ++ act ∷ []) (past ++ act ∷ [])
      ∙ append_assoc past (act ∷ []) owns
  lone-start acts (Acts (Resized height width) ∷ owns) key k us [] u can kept fed run is at lived past = absurd run
  lone-start acts (Acts (Resized height width) ∷ owns) key k us (reply ∷ answers) u can kept fed (g, ok, serves, later)
      is at lived past =
      let h = hub_at acts in
      let calls = map (alone key) owns in
      let each = or_parts (is_out_of_memory reply) (list_any is_out_of_memory answers) fed in
      let r = resize-done h g acts reply refl each.0 height width serves in
      let run = goes-to acts (Resize height width) reply Done g k us calls answers serves r later in
      let act = Acts (Resized height width) in
      ap (λ y. own_since lived past 0 (Resize height width ∷ calls) (y ∷ answers)) r
      ∙ lone-start (acts ++ Resized height width ∷ []) owns key k us answers u can.1
      (resized-kept h height width [] can.0 kept) each.1 run is at (λ x. lived x ++ act ∷ []) (past ++ act ∷ [])
      ∙ append_assoc past (act ∷ []) owns
  lone-start acts (Comes ∷ owns) key k us [] u can kept fed run is at lived past = absurd run
  lone-start acts (Comes ∷ owns) key k us (reply ∷ answers) u can kept fed (g, ok, serves, later) is at lived past =
      let h = hub_at acts in
      let calls = map (alone key) owns in
      let each = or_parts (is_out_of_memory reply) (list_any is_out_of_memory answers) fed in
      let got = attach-done h g acts reply refl each.0 serves in
      let run = goes-to acts Attach reply (Attached got.0) g k us calls answers serves got.1 later in
      let who : got.0 ≡ key = key-of acts got.0 k us calls answers u kept each.1 run is ∙ at in
      let here = subst (λ o. RunsReported (first_at acts o) (stories_at acts o) calls answers k us) who run in
      ap (λ y. own_since lived past 0 (Attach ∷ calls) (y ∷ answers)) (got.1 ∙ ap Attached who)
      ∙ ap (λ xs. (past ++ Comes ∷ []) ++ xs) (lone-on key 0 (born rows cols acts) owns (first_at acts key) k (stories_at acts key) us
      answers can (attached-kept h key [] refl kept) (born-lives acts key) each.1 here)
      ∙ append_assoc past (Comes ∷ []) owns
  lone-start acts _ key k us answers u can kept fed run is at lived past = absurd can

-- ---- sessions

pub lone-alike : EachLoneSessionIsAlike
lone-alike rows cols calls replies answers n t u key s z fed also at =
    let owns = own_calls n calls replies in
    let found = session-found rows cols calls replies n t s fed in
    let same = lone-start rows cols [] owns key z.hub z.stories answers u found.can
    (fresh-kept rows cols z.height z.width) also z.ran z.is at (λ k. []) [] in
    let both = sessions-isolated rows cols calls (map (alone key) owns) replies answers n 0 t u s z fed also
    (sym same) in
    (both.0, both.1, same)

pub logged-lone_alike : EachLoggedLoneSessionIsAlike
logged-lone_alike rows cols calls l k n s z key a b fed also at =
    let others = map (alone key) (own_calls n calls l.replies) in
    let x = logged-story rows cols calls l n s a in
    let y = logged-story rows cols others k 0 z b in
    let is = ap (λ (v : SessionView). v.client) y.logged ∙ at in
    let all = lone-alike rows cols calls l.replies k.replies n x.story y.story key x.session y.session fed also is in
    logged-isolated rows cols calls others l k n 0 s z a b fed also (sym all.2)
