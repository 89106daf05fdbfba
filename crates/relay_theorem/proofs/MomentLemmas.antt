-- At one moment there is only one screen.
use Rattle.std.proofs.Common.{◌≡◌, ◌∙◌, ℕ, ◌-◌, nat_le, Bool, true, false, List, [], ◌∷◌, ◌++◌, length, Option, Some}
use Rattle.std.proofs.Common.{map, None, refl, sym, ap, subst, arith, append_assoc, append-nil, length-append, if◌then◌else◌}
use Rattle.std.specs.List.{AllByRecursion, list_any}
use Rattle.std.specs.Prelude.{IfSome}
use Rattle.terminal_model.proofs.FormTexts.{all-each}
use Rattle.screen_model.specs.State.{State, fresh_state}
use Rattle.screen_model.specs.Step.{resized_to}
use Rattle.screen_model.specs.Made.{Act, Fed, Resized, bytes_fed, played, events_added, made_on, made}
use Rattle.vt100.proofs.PlayLemmas.{feeds_nothing}
use Rattle.termrelay.specs.Answers.{ClientState, is_frame}
use Rattle.termrelay.specs.declared.answer.Answer.{Answer}
use Rattle.termrelay.specs.declared.runs.call.Reply.{Reply}
use Rattle.termrelay.specs.Hub.{HubState, clients_in}
use Rattle.termrelay.specs.Calls.{Call, Frame, Pump}
use Rattle.termrelay.specs.Log.{change_last, last_that, begun, ended, grown, branched, bytes_owed, bytes_taken}
use Rattle.relay_theorem.specs.History.{as_reported, fresh, Entry, Story, is_on, with_session, with_entries, entries_of}
use Rattle.relay_theorem.specs.History.{stories_after, RunsReported}
use Rattle.relay_theorem.specs.Judge.{frame_or, last_frame, whole_in}
use Rattle.relay_theorem.specs.Laws.{IsSession}
use Rattle.relay_theorem.specs.Headline.{resizes_made, AreAtOneMoment}
use Rattle.relay_theorem.proofs.StoryLemmas.{all-map, all-push, all-at, all-last}
use Rattle.relay_theorem.proofs.CallLemmas.{Does, refuses, feeds, fails, resizes, attaches, detaches, answers, declines}
use Rattle.relay_theorem.proofs.CallLemmas.{pumps, misses, forks, draws, serves-does}
use Rattle.relay_theorem.proofs.OneHistory.{history-is-one}

-- ---- prefixes of one list of acts

-- no byte and no resize makes anything else
nothing-made : (past : List ℕ) (s : State) (acts : List Act) → length (bytes_fed acts) ≡ 0 → resizes_made acts ≡ 0
    → made_on past s acts ≡ s
nothing-made past s [] b r = refl
nothing-made past s (Fed [] ∷ acts) b r = feeds_nothing past s acts ∙ nothing-made past s acts b r
nothing-made past s (Fed (x ∷ xs) ∷ acts) b r =
    absurd (omega (arith, b, length-append (x ∷ xs) (bytes_fed acts)))
nothing-made past s (Resized height width ∷ acts) b r = absurd (omega (arith, r))

same-made : (past : List ℕ) (s : State) (p q m n : List Act) → p ++ m ≡ q ++ n
    → length (bytes_fed p) ≡ length (bytes_fed q) → resizes_made p ≡ resizes_made q
    → made_on past s p ≡ made_on past s q
same-made past s [] q m n e b r = sym (nothing-made past s q (sym b) (sym r))
same-made past s (a ∷ p) [] m n e b r = nothing-made past s (a ∷ p) b r
same-made past s (Fed xs ∷ p) (Fed ys ∷ q) m n e b r =
    let whole : Fed xs ∷ (p ++ m) ≡ Fed ys ∷ (q ++ n) = e in
    let same : xs ≡ ys = cc in
    let rest : p ++ m ≡ q ++ n = cc in
    let fewer : length (bytes_fed p) ≡ length (bytes_fed q) =
    omega (arith, b, length-append xs (bytes_fed p), length-append ys (bytes_fed q), ap length same) in
    same-made (past ++ xs) (played (events_added past xs) s) p q m n rest fewer r
    ∙ ap (λ zs. made_on (past ++ zs) (played (events_added past zs) s) q) same
same-made past s (Resized height width ∷ p) (Resized rows cols ∷ q) m n e b r =
    let whole : Resized height width ∷ (p ++ m) ≡ Resized rows cols ∷ (q ++ n) = e in
    let high : height ≡ rows = cc in
    let wide : width ≡ cols = cc in
    let rest : p ++ m ≡ q ++ n = cc in
    same-made past (resized_to height width s).state p q m n rest b (omega (arith, r))
    ∙ (λ i. made_on past (resized_to (high i) (wide i) s).state q)
same-made past s (Fed xs ∷ p) (Resized rows cols ∷ q) m n e b r =
    absurd (let no : Fed xs ∷ (p ++ m) ≡ Resized rows cols ∷ (q ++ n) = e in cc)
same-made past s (Resized height width ∷ p) (Fed ys ∷ q) m n e b r =
    absurd (let no : Resized height width ∷ (p ++ m) ≡ Fed ys ∷ (q ++ n) = e in cc)

abbrev pub IsPrefix : List Act → List Act → Type 0
IsPrefix acts p = (more : List Act) × (p ++ more ≡ acts)

all-here : (acts : List Act) → IsPrefix acts acts
all-here acts = ([], append-nil acts)

grown-prefix : (acts p : List Act) (act : Act) → IsPrefix acts p → IsPrefix (acts ++ act ∷ []) p
grown-prefix acts p act h =
    (h.0 ++ act ∷ [], sym (append_assoc p h.0 (act ∷ [])) ∙ ap (λ xs. xs ++ act ∷ []) h.1)

-- ---- the moments of a run are such prefixes

abbrev HasPrefixes : List Act → Story → Type 0
HasPrefixes acts t = AllByRecursion (λ e. IsPrefix acts e.moment) t.entries

abbrev AllHavePrefixes : HubState as_reported → List Story → Type 0
AllHavePrefixes h ts = AllByRecursion (HasPrefixes h.parser.acts) ts

grown-prefixes : (acts : List Act) (act : Act) (t : Story) → HasPrefixes acts t → HasPrefixes (acts ++ act ∷ []) t
grown-prefixes acts act t h =
    all-each (λ e. IsPrefix acts e.moment) (λ e. IsPrefix (acts ++ act ∷ []) e.moment)
    (λ e f. grown-prefix acts e.moment act f) t.entries h

changed-by : {X : Type 0} (P : X → Type 0) (test : X → Bool) (f : X → X) (later here : Bool) (x : X) (xs : List X)
    → P x → P (f x) → AllByRecursion P xs → AllByRecursion P (change_last test f xs)
    → AllByRecursion P (if later then x ∷ change_last test f xs else if here then f x ∷ xs else x ∷ xs)
changed-by P test f true here x xs p q h k = (p, k)
changed-by P test f false true x xs p q h k = (q, h)
changed-by P test f false false x xs p q h k = (p, h)

all-changed : {X : Type 0} (P : X → Type 0) (test : X → Bool) (f : X → X) → ((x : X) → P x → P (f x)) → (xs : List X)
    → AllByRecursion P xs → AllByRecursion P (change_last test f xs)
all-changed P test f goes [] h = tt
all-changed P test f goes (x ∷ xs) h =
    changed-by P test f (list_any test xs) (test x) x xs h.0 (goes x h.0) h.1 (all-changed P test f goes xs h.1)

all-joined : {X : Type 0} (P : X → Type 0) (xs ys : List X) → AllByRecursion P xs → AllByRecursion P ys
    → AllByRecursion P (xs ++ ys)
all-joined P [] ys h k = k
all-joined P (x ∷ xs) ys h k = (h.0, all-joined P xs ys h.1 k)

entry-prefix : (h : HubState as_reported) (o : Option ClientState) (answer : Answer)
    → AllByRecursion (λ e. IsPrefix h.parser.acts e.moment) (entries_of h o answer)
entry-prefix h None answer = tt
entry-prefix h (Some c) answer = (all-here h.parser.acts, tt)

module _ (h : HubState as_reported) (ts : List Story) (k : AllHavePrefixes h ts) where
  does-prefixes : (call : Call) (reply : Reply) (g : HubState as_reported) → Does h call reply g
      → AllHavePrefixes g (stories_after h call reply ts)
  does-prefixes call reply g (refuses (Frame key) e never) = absurd never
  does-prefixes call reply g (refuses (Pump key takes) e never) = absurd never
  does-prefixes call reply g (refuses _ e idle) = k
  does-prefixes call reply g (feeds bytes) =
      let acts = h.parser.acts in
      all-each (HasPrefixes acts) (HasPrefixes (acts ++ Fed bytes ∷ [])) (grown-prefixes acts (Fed bytes)) ts k
  does-prefixes call reply g (fails bytes) = k
  does-prefixes call reply g (resizes rows cols) =
      let acts = h.parser.acts in
      all-map (HasPrefixes acts) (HasPrefixes (acts ++ Resized rows cols ∷ [])) (with_session ended)
      (grown-prefixes acts (Resized rows cols)) ts k
  does-prefixes call reply g (attaches key free) =
      all-push (HasPrefixes h.parser.acts) ts (record { session = begun h key; entries = [] }) k tt
  does-prefixes call reply g (detaches key c at) =
      all-changed (HasPrefixes h.parser.acts) (is_on key) (with_session ended) (λ t i. i) ts k
  does-prefixes call reply g (answers key c answer at due) =
      let new = entries_of h (clients_in h key) answer in
      all-changed (HasPrefixes h.parser.acts) (is_on key) (with_entries new)
      (λ t i. all-joined (λ e. IsPrefix h.parser.acts e.moment) t.entries new i
      (entry-prefix h (clients_in h key) answer)) ts k
  does-prefixes call reply g (declines key e can) = k
  does-prefixes call reply g (pumps key takes reply' c at can) =
      all-changed (HasPrefixes h.parser.acts) (is_on key) (with_session (grown (bytes_taken takes (clients_in h key))))
      (λ t i. i) ts k
  does-prefixes call reply g (misses key takes reply' free) =
      all-changed (HasPrefixes h.parser.acts) (is_on key) (with_session (grown (bytes_taken takes (clients_in h key))))
      (λ t i. i) ts k
  does-prefixes call reply g (forks old key c at free) =
      let P = HasPrefixes h.parser.acts in
      all-joined P ts (map (with_session (branched key (bytes_owed (h.clients old)))) (last_that (is_on old) ts)) k
      (all-map P P (with_session (branched key (bytes_owed (h.clients old)))) (λ t i. i) (last_that (is_on old) ts)
      (all-last (is_on old) P ts k))
  does-prefixes call reply g (draws key r f) = k

run-prefixes : (h k : HubState as_reported) (ts us : List Story) (calls : List Call) (replies : List Reply)
    → AllHavePrefixes h ts → RunsReported h ts calls replies k us → AllHavePrefixes k us
run-prefixes h k ts us [] [] a run =
    subst (AllHavePrefixes k) (sym run.1) (subst (λ x. AllHavePrefixes x ts) (sym run.0) a)
run-prefixes h k ts us [] (reply ∷ replies) a run = absurd run
run-prefixes h k ts us (call ∷ calls) [] a run = absurd run
run-prefixes h k ts us (call ∷ calls) (reply ∷ replies) a (g, is, serves, later) =
    run-prefixes g k (stories_after h call reply ts) us calls replies
    (does-prefixes h ts a call reply g (serves-does h g call reply serves)) later

-- ---- the last frame among some entries

frame-has : (P : Entry → Type 0) (frame : Bool) (last : Option Entry) (e : Entry) → IfSome last P → P e
    → IfSome (if frame then Some e else last) P
frame-has P true last e h p = p
frame-has P false last e h p = h

pub last-has : (P : Entry → Type 0) (last : Option Entry) (es : List Entry) (e : Entry) → IfSome last P
    → AllByRecursion P es → last_frame last es ≡ Some e → P e
last-has P last [] e h k is = let there : IfSome (Some e) P = subst (λ o. IfSome o P) is h in there
last-has P last (x ∷ es) e h k is =
    last-has P (frame_or last x) es e (frame-has P (is_frame x.answer) last x h k.0) k.1 is

whole-by : (P : Entry → Type 0) (here : Bool) (e : Entry) (es : List Entry) → P e → AllByRecursion P es
    → AllByRecursion P (if here then e ∷ es else [])
whole-by P true e es p h = (p, h)
whole-by P false e es p h = tt

pub all-whole : (P : Entry → Type 0) (es : List Entry) (n : ℕ) → AllByRecursion P es → AllByRecursion P (whole_in es n)
all-whole P [] n h = tt
all-whole P (e ∷ es) n h =
    let left = n - length e.text in
    whole-by P (nat_le (length e.text) n) e (whole_in es left) h.0 (all-whole P es left h.1)

pub all-first : (P : Entry → Type 0) (prefix back : List Entry) → AllByRecursion P (prefix ++ back)
    → AllByRecursion P prefix
all-first P [] back h = tt
all-first P (e ∷ prefix) back h = (h.0, all-first P prefix back h.1)

-- ---- two sessions of one run

module _ (rows cols : ℕ) (calls : List Call) (replies : List Reply) (n m : ℕ) (t u : Story)
    (s : IsSession rows cols calls replies n t) (z : IsSession rows cols calls replies m u) where
  abbrev pub FedBefore : Entry → Type 0
  FedBefore e = IsPrefix s.hub.parser.acts e.moment

  pub these-before : AllByRecursion FedBefore t.entries
  these-before =
      all-at (HasPrefixes s.hub.parser.acts) s.stories n t
      (run-prefixes (fresh rows cols) s.hub [] s.stories calls replies tt s.ran) s.is

  pub those-before : AllByRecursion FedBefore u.entries
  those-before =
      let same = history-is-one (fresh rows cols) s.hub z.hub [] s.stories z.stories calls replies s.ran z.ran in
      subst (λ (h : HubState as_reported). HasPrefixes h.parser.acts u) (sym same.0)
      (all-at (HasPrefixes z.hub.parser.acts) z.stories m u
      (run-prefixes (fresh rows cols) z.hub [] z.stories calls replies tt z.ran) z.is)

  -- what was made at the last frames of these entries, where they are of one moment
  pub one-made : (es fs : List Entry) (e f : Entry) → AllByRecursion FedBefore es → AllByRecursion FedBefore fs
      → last_frame None es ≡ Some e → last_frame None fs ≡ Some f → AreAtOneMoment e f
      → made rows cols 0 e.moment ≡ made rows cols 0 f.moment
  one-made es fs e f h k is are one =
      let p = last-has FedBefore None es e tt h is in
      let q = last-has FedBefore None fs f tt k are in
      same-made [] (fresh_state rows cols 0) e.moment f.moment p.0 q.0 (p.1 ∙ sym q.1) one.fed one.resized
