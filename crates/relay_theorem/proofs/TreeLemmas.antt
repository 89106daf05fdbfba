-- From a session's frames to the screen of a hub that is fed them, and to what its clients show.
use Rattle.std.proofs.Common.{◌≡◌, ◌≢◌, ◌∙◌, ℕ, zero, suc, ◌+◌, ◌-◌, nat_le, Bool, true, false, List, []}
use Rattle.std.proofs.Common.{◌∷◌, ◌++◌, length, Option, Some, None, refl, sym, ap, subst, arith, append_assoc}
use Rattle.std.proofs.Common.{append-nil, length-append}
use Rattle.std.specs.List.{AllByRecursion, concat}
use Rattle.std.proofs.lemmas.Bool.{leb-true, leb-false}
use Rattle.std.proofs.lemmas.List.Elements.{All-from_recursion}
use Rattle.vte_core.specs.Shapes.{events}
use Rattle.vte_core.specs.Ground.{AtGround}
use Rattle.vte_core.proofs.GroundLemmas.{ground-nothing}
use Rattle.vte.proofs.FrameLemmas.{cut_later}
use Rattle.terminal_model.specs.Term.{Size, Shown, shown_of, blank_shown}
use Rattle.vt100_core.specs.Picture.{grid_size}
use Rattle.vt100_core.proofs.PictureLemmas.{visible_lines-drawn, visible_wraps-drawn}
use Rattle.screen_model.specs.State.{State, IsState, fresh_state}
use Rattle.screen_model.specs.Shown.{shown_state}
use Rattle.screen_model.specs.Holds.{IsSide, IsAct, AreActs}
use Rattle.screen_model.specs.Made.{Act, Fed, Resized, bytes_fed, played, made}
use Rattle.screen_model.proofs.MadeLemmas.{makes-states, makes-no_offset}
use Rattle.screen_view_laws.specs.Plain.{terminal_of, size_shown, IsPlainState}
use Rattle.screen_view_laws.proofs.FreshStates.{fresh-blank}
use Rattle.termrelay.specs.Frame.{any_below, is_unsure, frame_text, ShowsUnless, Agrees}
use Rattle.termrelay.specs.Answers.{is_frame}
use Rattle.termrelay.specs.declared.runs.call.Reply.{Reply}
use Rattle.termrelay.specs.Calls.{Call, Runs}
use Rattle.termrelay.specs.Hub.{HubState}
use Rattle.relay_theorem.specs.History.{as_reported, fresh, Entry, Story, size_of_story}
use Rattle.relay_theorem.specs.Judge.{state_at, shown_at, texts, frame_or, last_frame, whole_in, last_whole, judged}
use Rattle.relay_theorem.specs.Judge.{IsSure}
use Rattle.relay_theorem.specs.Laws.{IsAnswered, AreAnswered, IsSession}
use Rattle.relay_theorem.specs.Headline.{last_read, whole_read, resizes_made}
use Rattle.relay_theorem.specs.Trees.{AreFedFrom, last_fed, acts_at, screen_fed, EachFedScreenIsRight}
use Rattle.relay_theorem.specs.Trees.{EachFedHubIsRight, TreesAreShown}
use Rattle.relay_theorem.proofs.CallLemmas.{serves-does}
use Rattle.relay_theorem.proofs.HistoryLemmas.{sessions-reported, does-first}
use Rattle.relay_theorem.proofs.FrameSteps.{shots-sent, frame-ends}
use Rattle.relay_theorem.proofs.MomentLemmas.{IsPrefix, last-has, all-whole, these-before}
use Rattle.relay_theorem.proofs.RedrawLemmas.{Shows, shows-all, not-updating}
use Rattle.relay_theorem.proofs.HeadlineLemmas.{base_of, Known, known-base, frame_by, later, entry-none, entry-some}
use Rattle.relay_theorem.proofs.HeadlineLemmas.{entry-shot, entry-known, in-more, in-stops, answered-whole, last-shown}
use Rattle.relay_theorem.proofs.FrameScreens.{state_after, fed-made, state-more, frame-shown, part-shown}

-- ---- acts that resize nothing

fed-acts : (acts : List Act) → resizes_made acts ≡ 0 → AllByRecursion IsAct acts
fed-acts [] r = tt
fed-acts (Fed bytes ∷ acts) r = (tt, fed-acts acts r)
fed-acts (Resized rows cols ∷ acts) r = absurd (omega (arith, r))

resizes-append : (acts more : List Act) → resizes_made (acts ++ more) ≡ resizes_made acts + resizes_made more
resizes-append [] more = omega arith
resizes-append (Fed bytes ∷ acts) more = resizes-append acts more
resizes-append (Resized rows cols ∷ acts) more = omega (arith, resizes-append acts more)

bytes-append : (acts more : List Act) → bytes_fed (acts ++ more) ≡ bytes_fed acts ++ bytes_fed more
bytes-append [] more = refl
bytes-append (Fed bytes ∷ acts) more =
    ap (λ xs. bytes ++ xs) (bytes-append acts more) ∙ sym (append_assoc bytes (bytes_fed acts) (bytes_fed more))
bytes-append (Resized rows cols ∷ acts) more = bytes-append acts more

-- a beginning of what was fed
fed-before : (bytes : List ℕ) (acts first : List Act) → IsPrefix acts first → AreFedFrom bytes acts
    → AreFedFrom bytes first
fed-before bytes acts first p f =
    let none : resizes_made first + resizes_made p.0 ≡ 0 =
    sym (resizes-append first p.0) ∙ ap resizes_made p.1 ∙ f.sized in
    record {
      beyond = bytes_fed p.0 ++ f.beyond;
      fed =
          sym (append_assoc (bytes_fed first) (bytes_fed p.0) f.beyond)
          ∙ ap (λ xs. xs ++ f.beyond) (sym (bytes-append first p.0) ∙ ap bytes_fed p.1) ∙ f.fed;
      sized = omega (arith, none);
    }

-- ---- a blank screen

none-below : (n : ℕ) (p : ℕ → Bool) → ((k : ℕ) → p k ≡ false) → any_below n p ≡ false
none-below zero p h = refl
none-below (suc n) p h = rw (none-below n p h, h n) refl

blank-sure : (z : Size) → is_unsure z blank_shown ≡ false
unfolding is_unsure
blank-sure z = none-below z.rows _ (λ r. none-below z.cols _ (λ k. refl))

-- ---- what is shown, by what the rows have

terminal-shown : (s : State) → IsState s → s.shown.kept.offset ≡ 0 → shown_state s ≡ shown_of (terminal_of s)
terminal-shown s h o =
    let cells = visible_lines-drawn s.shown h.shown h.drawn o in
    let wraps = visible_wraps-drawn s.shown h.shown h.drawn o in
    λ i. record (shown_of (terminal_of s)) { cell = cells i; wrapped = wraps i }

-- ---- a screen that is fed frames

module _ (rows cols : ℕ) (z : Size) (height : IsSide z.rows) (width : IsSide z.cols) where
  abbrev base : Option Entry → Option Shown
  base last = base_of rows cols z height width last

  abbrev knows : Option Entry → Type 0
  knows last = Known rows cols z height width last

  -- the screen agrees with the last frame
  pub record IsAt (last : Option Entry) (s : State) : Type 0 where
    pub size : size_shown s ≡ z
    pub plain : IsPlainState s
    pub idle : s.updating ≡ false
    pub agrees : Agrees z (base last) (shown_of (terminal_of s))
    pub known : knows last

  -- after these bytes it does, and nothing is unfinished
  record HasFed (last : Option Entry) (past : List ℕ) : Type 0 where
    ground : AtGround 1024 past
    at : IsAt last (state_after z past)

  fed-nothing : HasFed None []
  fed-nothing =
      let f = fresh-blank z.rows z.cols 0 height.0 height.1 width.0 width.1 in
      record {
        ground = ground-nothing 1024;
        at = record { size = refl; plain = f.0; idle = refl; agrees = ap shown_of f.1; known = tt };
      }

  fed-frame : (last : Option Entry) (e : Entry) (past : List ℕ) → is_frame e.answer ≡ true → HasFed last past
      → IsAnswered rows cols z (base last) e → HasFed (Some e) (past ++ e.text)
  fed-frame last e past f h k =
      let now = shown_at rows cols e in
      let is = entry-some rows cols z height width last e k f in
      let b = known-base rows cols z height width last h.at.known in
      let shot = entry-shot rows cols z height width (base last) e k in
      let s = state_after z past in
      let r = frame-shown z (base last) now s b shot h.at.size h.at.plain h.at.agrees in
      let text = frame_text z (base last) now in
      let there : state_after z (past ++ text) ≡ played (events 1024 text) s = state-more z past text h.ground in
      subst (λ (xs : List ℕ). HasFed (Some e) (past ++ xs)) (sym is)
      (record {
        ground = frame-ends z past (base last) now;
        at = subst (IsAt (Some e)) (sym there) (record {
          size = r.size;
          plain = r.plain;
          idle = r.idle;
          agrees = r.shows;
          known = entry-known rows cols z height width (base last) e k f;
        });
      })

  fed-by : (frame : Bool) (last : Option Entry) (e : Entry) (past : List ℕ) → is_frame e.answer ≡ frame
      → HasFed last past → IsAnswered rows cols z (base last) e
      → HasFed (frame_by rows cols z height width frame last e) (past ++ e.text)
  fed-by true last e past f h k = fed-frame last e past f h k
  fed-by false last e past f h k =
      subst (λ (xs : List ℕ). HasFed last xs)
      (sym (append-nil past) ∙ ap (λ xs. past ++ xs) (sym (entry-none rows cols z height width last e k f))) h

  -- part of a text: unless an update is open, the screen is as before
  part-by : (frame : Bool) (last : Option Entry) (e : Entry) (past bytes left : List ℕ) → is_frame e.answer ≡ frame
      → HasFed last past → IsAnswered rows cols z (base last) e → e.text ≡ bytes ++ left → left ≢ []
      → (state_after z (past ++ bytes)).updating ≡ false → state_after z (past ++ bytes) ≡ state_after z past
  part-by false last e past bytes [] f h k is some idle = absurd (some refl)
  part-by false last e past bytes (x ∷ left) f h k is some idle =
      let none : bytes ++ (x ∷ left) ≡ [] = sym is ∙ entry-none rows cols z height width last e k f in
      absurd (omega (arith, ap length none, length-append bytes (x ∷ left)))
  part-by true last e past bytes left f h k is some idle =
      let now = shown_at rows cols e in
      let framed_is = sym is ∙ entry-some rows cols z height width last e k f in
      let b = known-base rows cols z height width last h.at.known in
      let shot = entry-shot rows cols z height width (base last) e k in
      let there = state-more z past bytes h.ground in
      there
      ∙ part-shown _ bytes left (state_after z past) (shots-sent z (base last) now b shot) framed_is some
      (sym (ap (λ (s : State). s.updating) there) ∙ idle)

  abbrev Follows : List Entry → Type 0
  Follows es = (last : Option Entry) (past bytes beyond : List ℕ) → HasFed last past
      → AreAnswered rows cols z (base last) es
      → bytes ++ beyond ≡ texts es → (state_after z (past ++ bytes)).updating ≡ false
      → IsAt (last_frame last (whole_in es (length bytes))) (state_after z (past ++ bytes))

  follows-by : (whole : Bool) (e : Entry) (es : List Entry) → Follows es → (last : Option Entry)
      (past bytes beyond : List ℕ)
      → nat_le (length e.text) (length bytes) ≡ whole → HasFed last past
      → AreAnswered rows cols z (base last) (e ∷ es)
      → bytes ++ beyond ≡ e.text ++ texts es → (state_after z (past ++ bytes)).updating ≡ false
      → IsAt (last_frame last (whole_in (e ∷ es) (length bytes))) (state_after z (past ++ bytes))
  follows-by true e es go last past bytes beyond w h k is idle =
      let cut = cut_later e.text (texts es) bytes beyond (sym is) (leb-true (length e.text) (length bytes) w) in
      let rest = cut.0 in
      let count : length bytes ≡ length e.text + length rest = ap length cut.1 ∙ length-append e.text rest in
      let there : past ++ bytes ≡ (past ++ e.text) ++ rest =
      ap (λ xs. past ++ xs) cut.1 ∙ sym (append_assoc past e.text rest) in
      let next = frame_or last e in
      let r = go next (past ++ e.text) rest beyond (fed-by (is_frame e.answer) last e past refl h k.0)
      (later rows cols z height width last e es k) (sym cut.2)
      (ap (λ xs. (state_after z xs).updating) (sym there) ∙ idle) in
      subst (λ (es : List Entry). IsAt (last_frame last es) (state_after z (past ++ bytes)))
      (sym (in-more rows cols z height width e es (length bytes) (length rest) count))
      (subst (λ xs. IsAt (last_frame next (whole_in es (length rest))) (state_after z xs)) (sym there) r)
  follows-by false e es go last past bytes beyond w h k is idle =
      let short = leb-false (length e.text) (length bytes) w in
      let cut = cut_later bytes beyond e.text (texts es) is (omega (arith, short)) in
      let some : cut.0 ≢ [] =
      λ none. absurd (omega (arith, short, ap length cut.1, length-append bytes cut.0, ap length none)) in
      let same = part-by (is_frame e.answer) last e past bytes cut.0 refl h k.0 cut.1 some idle in
      subst (λ (es : List Entry). IsAt (last_frame last es) (state_after z (past ++ bytes)))
      (sym (in-stops rows cols z height width e es (length bytes) short))
      (subst (IsAt last) (sym same) h.at)

  follows : (es : List Entry) → Follows es
  follows [] last past [] beyond h k is idle =
      subst (λ (xs : List ℕ). IsAt last (state_after z xs)) (sym (append-nil past)) h.at
  follows [] last past (x ∷ bytes) beyond h k is idle = absurd (let no : x ∷ (bytes ++ beyond) ≡ [] = is in cc)
  follows (e ∷ es) last past bytes beyond h k is idle =
      follows-by (nat_le (length e.text) (length bytes)) e es (follows es) last past bytes beyond refl h k is idle

  -- ---- what is judged

  sure-by : (e : Entry) (s : Shown) (unsure : Bool) → is_unsure z (shown_at rows cols e) ≡ unsure → knows (Some e)
      → IsSure (Some e) → ShowsUnless unsure (shown_at rows cols e) s
      → (s ≡ shown_at rows cols e) × (is_unsure z s ≡ false)
  sure-by e s true u k sure a = absurd (sure (k.1 u))
  sure-by e s false u k sure a = (a, ap (is_unsure z) a ∙ u)

  is-judged : (last : Option Entry) (s : State) → IsAt last s → IsSure last
      → (shown_of (terminal_of s) ≡ judged rows cols last) × (is_unsure z (shown_of (terminal_of s)) ≡ false)
  is-judged None s h sure = (h.agrees, ap (is_unsure z) h.agrees ∙ blank-sure z)
  is-judged (Some e) s h sure =
      sure-by e (shown_of (terminal_of s)) (is_unsure z (shown_at rows cols e)) refl h.known sure h.agrees

  pub record IsRight (last : Option Entry) (s : State) : Type 0 where
    pub size : grid_size s.shown ≡ z
    pub shows : shown_state s ≡ judged rows cols last
    pub sure : is_unsure z (shown_state s) ≡ false

  pub fed-right : (es : List Entry) (acts : List Act) (bytes left : List ℕ) → AreAnswered rows cols z None es
      → bytes ++ left ≡ texts es → AreFedFrom bytes acts → (made z.rows z.cols 0 acts).updating ≡ false
      → IsSure (last_whole None es (length (bytes_fed acts)))
      → IsRight (last_whole None es (length (bytes_fed acts))) (made z.rows z.cols 0 acts)
  fed-right es acts bytes left k joined f idle sure =
      let s = made z.rows z.cols 0 acts in
      let last = last_whole None es (length (bytes_fed acts)) in
      let is : s ≡ state_after z (bytes_fed acts) = fed-made z acts f.sized in
      let are : AreActs z.rows z.cols 0 acts = record {
        height = height;
        width = width;
        few = omega arith;
        each = All-from_recursion IsAct acts (fed-acts acts f.sized);
      } in
      let whole : bytes_fed acts ++ (f.beyond ++ left) ≡ texts es =
      sym (append_assoc (bytes_fed acts) f.beyond left) ∙ ap (λ xs. xs ++ left) f.fed ∙ joined in
      let at : IsAt last s = subst (IsAt last) (sym is)
      (follows es None [] (bytes_fed acts) (f.beyond ++ left) fed-nothing k whole
      (ap (λ (x : State). x.updating) (sym is) ∙ idle)) in
      let shown = terminal-shown s (makes-states z.rows z.cols 0 acts are)
      (makes-no_offset z.rows z.cols 0 acts are).shown in
      let right = is-judged last s at sure in
      record { size = at.size; shows = shown ∙ right.0; sure = ap (is_unsure z) shown ∙ right.1 }

-- ---- sessions

module _ (rows cols : ℕ) (calls : List Call) (replies : List Reply) (n : ℕ) (t : Story)
    (s : IsSession rows cols calls replies n t) where
  abbrev right_at : List Act → Type 0
  right_at acts =
      let h = sessions-reported rows cols calls replies n t s in
      IsRight rows cols (size_of_story t) h.height h.width (last_fed t acts) (screen_fed t acts)

  session-right : (acts : List Act) → AreFedFrom t.session.pumped acts → (screen_fed t acts).updating ≡ false
      → IsSure (last_fed t acts) → right_at acts
  session-right acts f idle sure =
      let h = sessions-reported rows cols calls replies n t s in
      fed-right rows cols (size_of_story t) h.height h.width t.entries acts t.session.pumped h.left h.entries h.prefix
      f idle sure

pub screens-right : EachFedScreenIsRight
screens-right rows cols calls replies n t acts s f idle sure =
    (session-right rows cols calls replies n t s acts f idle sure).shows

-- ---- hubs

first-kept : (h k : HubState as_reported) (calls : List Call) (replies : List Reply) → Runs h calls replies k
    → (k.parser.rows ≡ h.parser.rows) × (k.parser.cols ≡ h.parser.cols)
first-kept h k [] [] run = (λ i. (run i).parser.rows, λ i. (run i).parser.cols)
first-kept h k [] (reply ∷ replies) run = absurd run
first-kept h k (call ∷ calls) [] run = absurd run
first-kept h k (call ∷ calls) (reply ∷ replies) (g, is, serves, later) =
    let first = does-first h call reply g (serves-does h g call reply serves) in
    let rest = first-kept g k calls replies later in
    (rest.0 ∙ first.0, rest.1 ∙ first.1)

pub hubs-right : EachFedHubIsRight
hubs-right rows cols calls others replies answers n t hub s run f idle sure =
    let first = first-kept (fresh t.session.rows t.session.cols) hub others answers run in
    let acts = hub.parser.acts in
    let is : made hub.parser.rows hub.parser.cols 0 acts ≡ screen_fed t acts =
    (λ i. made (first.0 i) (first.1 i) 0 acts) in
    ap shown_state is
    ∙ screens-right rows cols calls replies n t acts s f (ap (λ (x : State). x.updating) (sym is) ∙ idle) sure

-- ---- trees

module _ (rows cols : ℕ) (calls others : List Call) (replies answers : List Reply) (n m : ℕ) (t u : Story)
    (s : IsSession rows cols calls replies n t) (v : IsSession t.session.rows t.session.cols others answers m u)
    (f : AreFedFrom t.session.pumped v.hub.parser.acts) where
  abbrev high : ℕ
  high = t.session.rows

  abbrev wide : ℕ
  wide = t.session.cols

  abbrev AtEach : Option Entry → Type 0
  AtEach last =
      IsSure (last_fed t (acts_at last))
      → IsSure last × (judged high wide last ≡ judged rows cols (last_fed t (acts_at last)))

  module _ (pieces : List (List ℕ)) where
    abbrev whole : List Entry
    whole = whole_read u pieces

    entry-right : (e : Entry) (from : Option Shown) → IsPrefix v.hub.parser.acts e.moment
        → IsAnswered high wide (size_of_story u) from e → is_frame e.answer ≡ true → AtEach (Some e)
    entry-right e from before k frame sure =
        let h = sessions-reported high wide others answers m u v in
        let z = size_of_story t in
        let idle = not-updating (state_at high wide e) from k.owed (ap is_frame (sym k.answer) ∙ frame) in
        let right = session-right rows cols calls replies n t s e.moment
        (fed-before t.session.pumped v.hub.parser.acts e.moment before f) idle sure in
        let known = entry-known high wide (size_of_story u) h.height h.width from e k frame in
        let size : z ≡ size_of_story u = sym right.size ∙ k.size in (
          λ unsure. absurd (let no : false ≡ true = sym right.sure
              ∙ ap (λ (y : Size). is_unsure y (shown_at high wide e)) size ∙ known.3 unsure in cc),
          right.shows,
        )

    blank-right : AtEach None
    blank-right sure =
        let h = sessions-reported rows cols calls replies n t s in
        let right = session-right rows cols calls replies n t s []
        (record { beyond = t.session.pumped; fed = refl; sized = refl }) refl sure in
        let f = fresh-blank high wide 0 h.height.0 h.height.1 h.width.0 h.width.1 in
        let acts : AreActs high wide 0 [] = record {
          height = h.height;
          width = h.width;
          few = omega arith;
          each = All-from_recursion IsAct [] tt;
        } in (
          tt,
          sym (terminal-shown (fresh_state high wide 0) (makes-states high wide 0 [] acts) refl ∙ ap shown_of f.1)
              ∙ right.shows,
        )

    each-right : (last : Option Entry) → last_read u pieces ≡ last → AtEach last
    each-right None is = blank-right
    each-right (Some e) is =
        let h = sessions-reported high wide others answers m u v in
        let z = size_of_story u in
        let are = answered-whole high wide z None u.entries (length (concat pieces)) h.entries in
        let shows = shows-all high wide z h.height h.width None None whole refl are in
        let here : Shows high wide z h.height h.width _ (Some e) =
        subst (Shows high wide z h.height h.width _) is shows in
        let before = last-has (λ x. IsPrefix v.hub.parser.acts x.moment) None whole e tt
        (all-whole _ u.entries (length (concat pieces))
        (these-before high wide others answers m m u u v v)) is in
        entry-right e here.1.0 before here.1.1 here.2

pub trees-shown : TreesAreShown
trees-shown rows cols calls others replies answers n m t u pieces parsed s v f r sure =
    let right = each-right rows cols calls others replies answers n m t u s v f pieces (last_read u pieces) refl sure in
    last-shown t.session.rows t.session.cols others answers m u pieces parsed v r right.0 ∙ right.1
