-- Where the sessions of a run begin: each by an attach, or as a fork of another.
use Rattle.std.proofs.Common.{◌≡◌, ◌∙◌, ℕ, ◌+◌, ◌-◌, ◌<◌, Bool, true, false, List, [], ◌∷◌, ◌++◌, map, length}
use Rattle.std.proofs.Common.{Option, Some, None, Ok, refl, sym, ap, subst, append_assoc, append-nil, arith, drop, min}
use Rattle.std.proofs.Common.{length-append, if◌then◌else◌}
use Rattle.std.specs.Prelude.{◌==◌, slice_get}
use Rattle.std.specs.List.{list_any}
use Rattle.std.proofs.lemmas.Bool.{eqb-true, eq-eqb, or_parts}
use Rattle.std.proofs.lemmas.Bool.Decides.{nat_tests}
use Rattle.std.proofs.lemmas.List.{take_all, drop_all}
use Rattle.vt100_core.specs.Picture.{grid_size}
use Rattle.screen_model.specs.Made.{Act, Fed, Resized, made}
use Rattle.byte_streams.specs.Pump.{Pumps, all, some}
use Rattle.termrelay.specs.Answers.{ClientState}
use Rattle.termrelay.specs.declared.runs.call.Reply.{Reply}
use Rattle.termrelay.specs.declared.runs.call.Reply.TheVariants.{Attached, Refused}
use Rattle.termrelay.specs.Hub.{HubState, with_client, new_client}
use Rattle.termrelay.specs.Joins.{forked}
use Rattle.termrelay.specs.Calls.{Call, Feed, Resize, Attach, Detach, Frame, Pump, Fork, Redraw, IsCall, WritesAsReported}
use Rattle.termrelay.specs.Calls.{taken_by}
use Rattle.termrelay.specs.Log.{last_that, begun, branched, bytes_owed, bytes_taken}
use Rattle.relay_theorem.specs.History.{Past, as_reported, fresh, Story, is_on, with_session, stories_after}
use Rattle.relay_theorem.specs.Laws.{IsSession}
use Rattle.relay_theorem.specs.Isolation.{is_out_of_memory, Own, Acts, Comes, Asks, Pumped, Leaves, ends, acts_of, own_at}
use Rattle.relay_theorem.specs.Isolation.{own_of, own_list, own_put, own_since, own_calls}
use Rattle.relay_theorem.proofs.StoryLemmas.{put, at-key, at-other, other-key, only-that}
use Rattle.relay_theorem.proofs.CallLemmas.{CanPump, left_in, Does, refuses, feeds, fails, resizes, attaches, detaches}
use Rattle.relay_theorem.proofs.CallLemmas.{answers, declines, pumps, misses, forks, draws}
use Rattle.relay_theorem.proofs.HistoryLemmas.{IsKept, Went, over, called, fresh-went}
use Rattle.relay_theorem.proofs.OwnLemmas.{got-last, none-past, Life, past, story_of, born, lives, life_on, life_of}
use Rattle.relay_theorem.proofs.OwnLemmas.{CanLive, CanCome, Lives, Goes, call-goes-on}
use Rattle.relay_theorem.proofs.OwnRunLemmas.{lives-run, Found, IsQuiet, call-passes, life_of-more}

-- ---- a pump that takes all

can-all : (owed : List ℕ) → CanPump [] owed
can-all [] = (Ok tt, 0, [], all)
can-all (x ∷ owed) =
    let bytes = x ∷ owed in
    let n = length bytes in
    let none : drop n bytes ≡ [] = drop_all n bytes (omega arith) in (
      Ok tt,
      min n n + 0,
      [],
      some [] n 0 (λ no. absurd (cc)) (omega arith) (refl, refl)
          (subst (λ ys. Pumps WritesAsReported [] ys (Ok tt) 0 []) (sym none) all),
    )

left-all : (c : ClientState) → left_in [] c ≡ forked c
unfolding taken_by
left-all c = ap (λ xs. record c { owed = xs }) (drop_all (length c.owed) c.owed (omega arith))

taken-all : (c : ClientState) → bytes_taken [] (Some c) ≡ c.owed
unfolding taken_by
taken-all c = take_all (length c.owed) c.owed (omega arith)

-- ---- calls by which no session comes

-- an own call that doesn't end the session, if it is one
abbrev Lasts : Option Own → Type 0
Lasts None = Unit {0}
Lasts (Some own) = ends own ≡ false

-- there was a client at the key
abbrev Had : (ℕ → Option ClientState) → ℕ → Type 0
Had clients key = (c : ClientState) × (clients key ≡ Some c)

module _ (clients : ℕ → Option ClientState) (other key : ℕ) (c : ClientState) where
  put-lasts : (b : Bool) (d new : ClientState) (own : Own) → (other == key) ≡ b → ends own ≡ false
      → clients other ≡ Some d → with_client clients other (Some new) key ≡ Some c
      → Had clients key × Lasts (if b then Some own else None)
  put-lasts true d new own e last at is = ((d, ap clients (sym (eqb-true other key e)) ∙ at), last)
  put-lasts false d new own e last at is =
      ((c, sym (at-other clients other (Some new) key (other-key key other e)) ∙ is), tt)

  gone-lasts : (b : Bool) → (other == key) ≡ b → with_client clients other None key ≡ Some c
      → Had clients key × Lasts (if b then Some Leaves else None)
  gone-lasts true e is =
      let none : with_client clients other None key ≡ None =
      ap (λ k. with_client clients other None k) (sym (eqb-true other key e)) ∙ at-key clients other None in
      absurd (let no : None ≡ Some c = sym none ∙ is in cc)
  gone-lasts false e is = ((c, sym (at-other clients other None key (other-key key other e)) ∙ is), tt)

  same-lasts : (b : Bool) (own : Own) → ends own ≡ false → clients key ≡ Some c
      → Had clients key × Lasts (if b then Some own else None)
  same-lasts true own last is = ((c, is), last)
  same-lasts false own last is = ((c, is), tt)

module _ (rows cols : ℕ) where
  -- a client after such a call was there before, and the call doesn't end its session
  lasting : (h g : HubState as_reported) (call : Call) (reply : Reply) (key : ℕ) (c : ClientState)
      → IsQuiet rows cols call reply → Does h call reply g → g.clients key ≡ Some c
      → Had h.clients key × Lasts (own_at key call reply)
  lasting h g call reply key c quiet (refuses (Frame other) e never) is = absurd never
  lasting h g call reply key c quiet (refuses (Pump other takes) e never) is = absurd never
  lasting h g call reply key c quiet (refuses _ e idle) is = ((c, is), tt)
  lasting h g call reply key c quiet (feeds bytes) is = ((c, is), refl)
  lasting h g call reply key c quiet (fails bytes) is = ((c, is), tt)
  lasting h g call reply key c quiet (resizes high wide) is = absurd (let no : None ≡ Some c = is in cc)
  lasting h g call reply key c quiet (attaches other free) is = absurd quiet
  lasting h g call reply key c quiet (detaches other d at) is = gone-lasts h.clients other key c (other == key) refl is
  lasting h g call reply key c quiet (answers other d answer at due) is =
      put-lasts h.clients other key c (other == key) d _ Asks refl refl at is
  lasting h g call reply key c quiet (declines other e can) is =
      same-lasts h.clients other key c (other == key) Asks refl is
  lasting h g call reply key c quiet (pumps other takes r d at can) is =
      put-lasts h.clients other key c (other == key) d _ (Pumped takes) refl refl at is
  lasting h g call reply key c quiet (misses other takes r free) is =
      same-lasts h.clients other key c (other == key) (Pumped takes) refl is
  lasting h g call reply key c quiet (forks old other d at free) is = absurd quiet
  lasting h g call reply key c quiet (draws other r f) is = ((c, is), tt)

  -- ---- a session that lives, by its own calls so far

  -- whatever own calls come later, it goes on with them from what it has
  abbrev GoesOn : List Own → Life → Type 0
  GoesOn owns l =
      (more : List Own) → CanLive rows cols l more
      → CanCome rows cols [] (owns ++ more) × (life_of rows cols [] (owns ++ more) ≡ Some (life_on rows cols l more))

  record Lived (owns : List Own) (key : ℕ) (h : HubState as_reported) (ts : List Story) : Type 0 where
    life : Life
    place : ℕ
    here : Lives rows cols key place h ts life
    goes : GoesOn owns life

  one-more : (owns : List Own) (l m : Life) (own : Own) → GoesOn owns l
      → ((more : List Own) → CanLive rows cols m more → CanLive rows cols l (own ∷ more))
      → ((more : List Own) → life_on rows cols l (own ∷ more) ≡ life_on rows cols m more)
      → GoesOn (owns ++ own ∷ []) m
  one-more owns l m own goes can on more c =
      let r = goes (own ∷ more) (can more c) in
      let same : (owns ++ own ∷ []) ++ more ≡ owns ++ (own ∷ more) = append_assoc owns (own ∷ []) more in (
        subst (CanCome rows cols []) (sym same) r.0,
        ap (life_of rows cols []) same ∙ r.1 ∙ ap (λ x. Some x) (on more),
      )

  lived-then : (owns : List Own) (key place : ℕ) (g : HubState as_reported) (us : List Story) (l : Life)
      → GoesOn owns l → (o : Option Own) → Lasts o → Goes rows cols key place g us l o
      → Lived (owns ++ own_list o) key g us
  lived-then owns key place g us l goes None last to = record {
    life = l;
    place = place;
    here = to;
    goes = subst (λ xs. GoesOn xs l) (sym (append-nil owns)) goes;
  }
  lived-then owns key place g us l goes (Some (Acts (Fed bytes))) last to =
      let m = lives rows cols l (Acts (Fed bytes)) in
      record {
        life = m;
        place = place;
        here = to;
        goes = one-more owns l m (Acts (Fed bytes)) goes (λ more c. c) (λ more. refl);
      }
  lived-then owns key place g us l goes (Some (Acts (Resized high wide))) last to =
      absurd (let no : true ≡ false = last in cc)
  lived-then owns key place g us l goes (Some Comes) last to = absurd to
  lived-then owns key place g us l goes (Some Asks) last to =
      let m = lives rows cols l Asks in
      record {
        life = m;
        place = place;
        here = to;
        goes = one-more owns l m Asks goes (λ more c. c) (λ more. refl);
      }
  lived-then owns key place g us l goes (Some (Pumped takes)) last to =
      let m = lives rows cols l (Pumped takes) in
      record {
        life = m;
        place = place;
        here = to.1;
        goes = one-more owns l m (Pumped takes) goes (λ more c. (to.0, c)) (λ more. refl);
      }
  lived-then owns key place g us l goes (Some Leaves) last to = absurd (let no : true ≡ false = last in cc)

  -- ---- all that live

  record Told (owns : ℕ → List Own) (acts : List Own) (fed : List Act) (h : HubState as_reported) (ts : List Story)
      : Type 0 where
    parser : h.parser ≡ past rows cols fed
    begins : (more : List Own) → CanCome rows cols fed more → CanCome rows cols [] (acts ++ more)
    reads : (more : List Own) → life_of rows cols [] (acts ++ more) ≡ life_of rows cols fed more
    each : (key : ℕ) (c : ClientState) → h.clients key ≡ Some c → Lived (owns key) key h ts

  module _ (owns : ℕ → List Own) (acts : List Own) (fed : List Act) (h : HubState as_reported) (ts : List Story)
      (kept : IsKept h ts) (told : Told owns acts fed h ts) where
    -- no session comes
    quiet-told : (call : Call) (reply : Reply) (g : HubState as_reported) → IsQuiet rows cols call reply → IsCall call
        → Does h call reply g → is_out_of_memory reply ≡ false
        → Told (λ key. owns key ++ own_list (own_at key call reply)) (acts ++ map Acts (acts_of call reply))
        (fed ++ acts_of call reply) g (stories_after h call reply ts)
    quiet-told call reply g quiet is does well =
        let new = acts_of call reply in
        let p = call-passes rows cols fed h g ts call reply kept told.parser quiet is does well in
        let joined : (more : List Own) → (acts ++ map Acts new) ++ more ≡ acts ++ (map Acts new ++ more) =
        λ more. append_assoc acts (map Acts new) more in
        record {
          parser = p.parser;
          begins = λ more can.
              subst (CanCome rows cols []) (sym (joined more))
              (told.begins (map Acts new ++ more) (p.sides more can));
          reads = λ more.
              ap (life_of rows cols []) (joined more) ∙ told.reads (map Acts new ++ more)
              ∙ life_of-more rows cols fed new more;
          each = λ key c at.
              let last = lasting h g call reply key c quiet does at in
              let l = told.each key last.0.0 last.0.1 in
              lived-then (owns key) key l.place g (stories_after h call reply ts) l.life l.goes (own_at key call reply)
              last.1 (call-goes-on rows cols key l.place l.life h g ts call reply kept l.here is does well);
        }

    -- one comes, at a key, by a call that is no other session's own
    module _ (call : Call) (reply : Reply) (key : ℕ) (new : ClientState) (own : List Own) (is : IsCall call)
        (does : Does h call reply (put h key (Some new))) (well : is_out_of_memory reply ≡ false)
        (none : (other : ℕ) → own_at other call reply ≡ None)
        (comes : Lived own key (put h key (Some new)) (stories_after h call reply ts)) where
      abbrev after : HubState as_reported
      after = put h key (Some new)

      each-by : (b : Bool) (other : ℕ) (c : ClientState) → (other == key) ≡ b → after.clients other ≡ Some c
          → Lived (if b then own else owns other) other after (stories_after h call reply ts)
      each-by true other c e at =
          subst (λ k. Lived own k after (stories_after h call reply ts)) (sym (eqb-true other key e)) comes
      each-by false other c e at =
          let l = told.each other c (sym (at-other h.clients key (Some new) other e) ∙ at) in
          record {
            life = l.life;
            place = l.place;
            here = subst (Goes rows cols other l.place after (stories_after h call reply ts) l.life) (none other)
                (call-goes-on rows cols other l.place l.life h after ts call reply kept l.here is does well);
            goes = l.goes;
          }

      comes-told : Told (own_put owns key own) acts fed after (stories_after h call reply ts)
      comes-told = record {
        parser = told.parser;
        begins = told.begins;
        reads = told.reads;
        each = λ other c at. each-by (other == key) other c refl at;
      }

    -- ---- by an attach

    abbrev new_story : ℕ → Story
    new_story key = record { session = begun h key; entries = [] }

    same-born : (key : ℕ) → new_story key ≡ story_of rows cols key false (born rows cols fed)
    same-born key =
        ap (λ (p : Past). record {
          session = record {
            client = key;
            rows = (grid_size (made p.rows p.cols 0 p.acts).shown).rows;
            cols = (grid_size (made p.rows p.cols 0 p.acts).shown).cols;
            pumped = [];
            ended = false;
          };
          entries = [];
        }) told.parser

    attach-lived : (key : ℕ)
        → (l : Lived (acts ++ Comes ∷ []) key (put h key (Some new_client)) (ts ++ new_story key ∷ []))
        × (l.place ≡ length ts)
    attach-lived key = (
      record {
        life = born rows cols fed;
        place = length ts;
        here = record {
          parser = told.parser;
          client = at-key h.clients key (Some new_client);
          story = got-last ts (new_story key) ∙ ap (λ x. Some x) (same-born key);
        };
        goes = λ more can.
            let same : (acts ++ Comes ∷ []) ++ more ≡ acts ++ (Comes ∷ more) =
            append_assoc acts (Comes ∷ []) more in (
              subst (CanCome rows cols []) (sym same) (told.begins (Comes ∷ more) can),
              ap (life_of rows cols []) same ∙ told.reads (Comes ∷ more),
            );
      },
      refl,
    )

    -- ---- as a fork

    module _ (old key : ℕ) (c : ClientState) (at : h.clients old ≡ Some c) where
      abbrev from : Lived (owns old) old h ts
      from = told.each old c at

      abbrev forks_to : Life
      forks_to = lives rows cols from.life (Pumped [])

      abbrev branched_stories : List Story
      branched_stories =
          ts ++ map (with_session (branched key (bytes_owed (h.clients old)))) (last_that (is_on old) ts)

      branched-are : branched_stories ≡ ts ++ story_of rows cols key false forks_to ∷ []
      branched-are =
          let l = from.life in
          let t = story_of rows cols old false l in
          let one : last_that (is_on old) ts ≡ t ∷ [] =
          only-that (is_on old) ts from.place t (kept.one old) from.here.story (eq-eqb old old refl) in
          ap (λ xs. ts ++ map (with_session (branched key (bytes_owed (h.clients old)))) xs) one
          ∙ ap (λ o. ts ++ with_session (branched key (bytes_owed o)) t ∷ []) from.here.client
          ∙ ap (λ bytes. ts ++ record {
            session = record {
              client = key;
              rows = l.rows;
              cols = l.cols;
              pumped = l.pumped ++ bytes;
              ended = false;
            };
            entries = l.entries;
          } ∷ []) (sym (taken-all l.client))

      same-client : Some (forked c) ≡ Some forks_to.client
      same-client =
          let both : Some c ≡ Some from.life.client = sym at ∙ from.here.client in
          let same : c ≡ from.life.client = cc in
          ap (λ d. Some (forked d)) same ∙ ap (λ d. Some d) (sym (left-all from.life.client))

      fork-lived : (l : Lived (owns old ++ Pumped [] ∷ []) key (put h key (Some (forked c))) branched_stories)
          × (l.place ≡ length ts)
      fork-lived = (
        record {
          life = forks_to;
          place = length ts;
          here = record {
            parser = from.here.parser;
            client = at-key h.clients key (Some (forked c)) ∙ same-client;
            story = ap (λ xs. slice_get xs (length ts)) branched-are
                ∙ got-last ts (story_of rows cols key false forks_to);
          };
          goes = one-more (owns old) from.life forks_to (Pumped []) from.goes
              (λ more can. (can-all from.life.client.owed, can)) (λ more. refl);
        },
        refl,
      )

  -- ---- the n-th session

  -- it is the one that comes now
  found-now : (own : List Own) (key : ℕ) (g k : HubState as_reported) (ts us : List Story) (calls : List Call)
      (replies : List Reply) (t : Story) (l : Lived own key g ts) → list_any is_out_of_memory replies ≡ false
      → Went g ts calls replies k us → slice_get us l.place ≡ Some t
      → Found rows cols [] (own ++ own_of key calls replies) k t
  found-now own key g k ts us calls replies t l fed later at =
      let r = lives-run rows cols key l.place l.life g k ts us calls replies l.here fed later in
      let on = life_on rows cols l.life (own_of key calls replies) in
      let goes = l.goes (own_of key calls replies) r.can in
      let both : Some t ≡ Some (story_of rows cols key on.1 on.0) = sym at ∙ r.story in
      record {
        key = key;
        life = on.0;
        gone = on.1;
        reported = goes.1;
        is = cc;
        client = r.client;
        can = goes.0;
      }

  -- or a later one
  found-by : (b : Bool) (n : ℕ) (own : List Own) (key count : ℕ) (g k : HubState as_reported) (ts us : List Story)
      (calls : List Call) (replies : List Reply) (t : Story) (others : ℕ → List Own) (acts : List Own)
      (l : Lived own key g ts) → (n == 0) ≡ b → l.place ≡ count → list_any is_out_of_memory replies ≡ false
      → Went g ts calls replies k us → slice_get us (count + n) ≡ Some t
      → (0 < n → Found rows cols [] (own_since others acts (n - 1) calls replies) k t)
      → Found rows cols []
      (if b then own ++ own_of key calls replies else own_since others acts (n - 1) calls replies) k t
  found-by true n own key count g k ts us calls replies t others acts l e place fed later at more =
      let first : n ≡ 0 = eqb-true n 0 e in
      found-now own key g k ts us calls replies t l fed later
      (ap (λ i. slice_get us i) (let same : l.place ≡ count + n = omega (arith, place, first) in same) ∙ at)
  found-by false n own key count g k ts us calls replies t others acts l e place fed later at more =
      more (let pos : 0 < n = grind (arith, nat_tests) in pos)

  abbrev Finds : List Call → List Reply → HubState as_reported → List Story → Story → HubState as_reported → List Story
      → Type 0
  Finds calls replies k us t g ts =
      (owns : ℕ → List Own) (acts : List Own) (fed : List Act) (m : ℕ) → Told owns acts fed g ts
      → slice_get us (length ts + m) ≡ Some t → Found rows cols [] (own_since owns acts m calls replies) k t

  module _ (owns : ℕ → List Own) (acts : List Own) (fed : List Act) (h k : HubState as_reported) (ts us : List Story)
      (calls : List Call) (replies : List Reply) (n : ℕ) (t : Story) (kept : IsKept h ts)
      (told : Told owns acts fed h ts) (rest : list_any is_out_of_memory replies ≡ false)
      (at : slice_get us (length ts + n) ≡ Some t) where
    quiet-now : (call : Call) (reply : Reply) (g : HubState as_reported) → IsQuiet rows cols call reply → IsCall call
        → Does h call reply g → is_out_of_memory reply ≡ false
        → Finds calls replies k us t g (stories_after h call reply ts)
        → Found rows cols [] (own_since (λ key. owns key ++ own_list (own_at key call reply))
        (acts ++ map Acts (acts_of call reply)) n calls replies) k t
    quiet-now call reply g quiet is does well more =
        let p = call-passes rows cols fed h g ts call reply kept told.parser quiet is does well in
        more (λ key. owns key ++ own_list (own_at key call reply)) (acts ++ map Acts (acts_of call reply))
        (fed ++ acts_of call reply) n (quiet-told owns acts fed h ts kept told call reply g quiet is does well)
        (ap (λ i. slice_get us (i + n)) p.count ∙ at)

    -- one more session
    longer : (x : Story) → 0 < n → slice_get us (length (ts ++ x ∷ []) + (n - 1)) ≡ Some t
    longer x pos =
        ap (λ i. slice_get us i)
        (let same : length (ts ++ x ∷ []) + (n - 1) ≡ length ts + n = omega (arith, pos, length-append ts (x ∷ [])) in
        same) ∙ at

    since-now : (call : Call) (reply : Reply) (g : HubState as_reported) → IsCall call → Does h call reply g
        → is_out_of_memory reply ≡ false → Went g (stories_after h call reply ts) calls replies k us
        → Finds calls replies k us t g (stories_after h call reply ts)
        → Found rows cols [] (own_since owns acts n (call ∷ calls) (reply ∷ replies)) k t
    since-now Attach reply g is (attaches key free) well later more =
        let l = attach-lived owns acts fed h ts kept told key in
        let own = acts ++ Comes ∷ [] in
        found-by (n == 0) n own key (length ts) g k (stories_after h Attach (Attached key) ts) us calls replies t
        (own_put owns key own) acts l.0 refl l.1 rest later at
        (λ pos. more (own_put owns key own) acts fed (n - 1)
        (comes-told owns acts fed h ts kept told Attach (Attached key) key new_client own is (attaches key free) well
        (λ other. refl) l.0)
        (longer (new_story owns acts fed h ts kept told key) pos))
    since-now Attach reply g is (refuses call e idle) well later more =
        quiet-now Attach (Refused e) h tt is (refuses Attach e idle) well more
    since-now (Fork old) reply g is (forks other key c here free) well later more =
        let l = fork-lived owns acts fed h ts kept told old key c here in
        let own = owns old ++ Pumped [] ∷ [] in
        found-by (n == 0) n own key (length ts) g k (stories_after h (Fork old) (Attached key) ts) us calls replies t
        (own_put owns key own) acts l.0 refl l.1 rest later at
        (λ pos. more (own_put owns key own) acts fed (n - 1)
        (comes-told owns acts fed h ts kept told (Fork old) (Attached key) key (forked c) own is
        (forks old key c here free) well (λ other. refl) l.0)
        (ap (λ (xs : List Story). slice_get us (length xs + (n - 1)))
        (branched-are owns acts fed h ts kept told old key c here) ∙ longer _ pos))
    since-now (Fork old) reply g is (refuses call e idle) well later more =
        quiet-now (Fork old) (Refused e) h tt is (refuses (Fork old) e idle) well more
    since-now (Feed bytes) reply g is does well later more = quiet-now (Feed bytes) reply g tt is does well more
    since-now (Resize high wide) reply g is does well later more =
        quiet-now (Resize high wide) reply g tt is does well more
    since-now (Detach key) reply g is does well later more = quiet-now (Detach key) reply g tt is does well more
    since-now (Frame key) reply g is does well later more = quiet-now (Frame key) reply g tt is does well more
    since-now (Pump key takes) reply g is does well later more =
        quiet-now (Pump key takes) reply g tt is does well more
    since-now (Redraw key) reply g is does well later more = quiet-now (Redraw key) reply g tt is does well more

  since-run : (owns : ℕ → List Own) (acts : List Own) (fed : List Act) (h k : HubState as_reported)
      (ts us : List Story) (calls : List Call) (replies : List Reply) (n : ℕ) (t : Story) → Told owns acts fed h ts
      → list_any is_out_of_memory replies ≡ false → slice_get us (length ts + n) ≡ Some t
      → Went h ts calls replies k us → Found rows cols [] (own_since owns acts n calls replies) k t
  since-run owns acts fed h k ts us calls replies n t told well at (over kept) = absurd (none-past ts n t at)
  since-run owns acts fed h k ts us (call ∷ calls) (reply ∷ replies) n t told well at (called g kept does is later) =
      let each = or_parts (is_out_of_memory reply) (list_any is_out_of_memory replies) well in
      since-now owns acts fed h k ts us calls replies n t kept told each.1 at call reply g is does each.0 later
      (λ others more all m p i.
      since-run others more all g k (stories_after h call reply ts) us calls replies m t p each.1 i later)

  -- the session of a run
  pub session-found : (calls : List Call) (replies : List Reply) (n : ℕ) (t : Story)
      → (s : IsSession rows cols calls replies n t) → list_any is_out_of_memory replies ≡ false
      → Found rows cols [] (own_calls n calls replies) s.hub t
  session-found calls replies n t s well =
      let place : 0 + n ≡ n = omega arith in
      since-run (λ key. []) [] [] (fresh rows cols) s.hub [] s.stories calls replies n t
      (record {
        parser = refl;
        begins = λ more can. can;
        reads = λ more. refl;
        each = λ key c no. absurd (let none : None ≡ Some c = no in cc);
      })
      well (ap (λ i. slice_get s.stories i) place ∙ s.is)
      (fresh-went rows cols s.hub s.stories calls replies s.height s.width s.ran)
