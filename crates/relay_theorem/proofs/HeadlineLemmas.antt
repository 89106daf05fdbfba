-- From a session's frames to what is shown.
use Rattle.std.proofs.Common.{◌≡◌, ◌≢◌, ◌∙◌, ℕ, suc, ◌+◌, ◌-◌, ◌<◌, ◌≤◌, nat_le, Bool, true, false, List, [], ◌∷◌}
use Rattle.std.proofs.Common.{◌++◌, length, map, Option, Some, None, refl, sym, ap, subst, arith, append_assoc}
use Rattle.std.proofs.Common.{append-nil, length-append, if◌then◌else◌, ◌&&◌, ◌*◌, ltb-false}
use Rattle.std.specs.Prelude.{nat_lt}
use Rattle.std.specs.List.{AllByRecursion, concat}
use Rattle.std.proofs.lemmas.Bool.{lt-leb}
use Rattle.std.proofs.lemmas.Bool.Decides.{nat_tests}
use Rattle.std.proofs.lemmas.List.Elements.{All-from_recursion}
use Rattle.vte_core.specs.Ground.{AtGround}
use Rattle.vte_core.proofs.GroundLemmas.{ground-nothing}
use Rattle.vte.specs.Hold.{limit}
use Rattle.vte.specs.Moves.{Move, Gives, given}
use Rattle.vte.specs.Frames.{IsFrame, IsPart, Drives}
use Rattle.terminal_model.specs.Term.{Size, Shown, shown_of}
use Rattle.terminal_model.proofs.FormTexts.{all-each}
use Rattle.vt100_core.specs.Picture.{grid_size}
use Rattle.screen_model.specs.State.{State}
use Rattle.screen_model.specs.Shown.{shown_state}
use Rattle.screen_model.specs.Made.{made}
use Rattle.screen_model.specs.Holds.{IsSide}
use Rattle.forms_read.specs.Terminals.{IsSmall}
use Rattle.termrelay.specs.Frame.{is_unsure, frame_text, ShowsUnless, Agrees}
use Rattle.termrelay.specs.Answers.{is_frame, same_shown, answer_for, due_from, is_too_long, longest_frame}
use Rattle.termrelay.specs.declared.answer.Answer.{Answer}
use Rattle.termrelay.specs.declared.answer.Answer.TheVariants.{Full, Difference, Unsure, Unchanged, Behind, Held}
use Rattle.termrelay.specs.declared.answer.Answer.TheVariants.{TooLong}
use Rattle.termview.specs.Seen.{seen}
use Rattle.termview.proofs.LawLemmas.{whole_shown, none_torn}
use Rattle.termrelay.specs.Calls.{Call}
use Rattle.termrelay.specs.declared.runs.call.Reply.{Reply}
use Rattle.relay_theorem.specs.History.{Entry, Story, size_of_story}
use Rattle.relay_theorem.specs.Judge.{state_at, size_at, shown_at, texts, frame_or, last_frame, whole_in, judged}
use Rattle.relay_theorem.specs.Judge.{IsSure, IsShownRight}
use Rattle.relay_theorem.specs.Laws.{base_then, IsAnswered, AreAnswered, IsReported, IsSession}
use Rattle.termrelay.specs.Hub.{clients_in}
use Rattle.relay_theorem.specs.Headline.{EachTextIsAFrame, WholeSessionsAreShown, LastWholeFrameIsShown}
use Rattle.relay_theorem.specs.Headline.{NoSessionIsTorn, ReadsFrames, ReadsPrefix, whole_read}
use Rattle.relay_theorem.specs.Headline.{OneMomentShowsTheSame, OneMomentShowsTheSameWhole}
use Rattle.relay_theorem.proofs.HistoryLemmas.{sessions-reported}
use Rattle.relay_theorem.proofs.MomentLemmas.{FedBefore, these-before, those-before, one-made, all-whole, all-first}
use Rattle.relay_theorem.proofs.ScreenLemmas.{IsShot, shot-made, IsShotBase}
use Rattle.relay_theorem.proofs.FrameSteps.{byte-base, text-frame, frame-read, frame-ends}
use Rattle.termrelay.specs.Frame.{IsShortFrame}
use Rattle.termrelay.proofs.FrameLengths.{frame-short}
use Rattle.termrelay.proofs.SameLemmas.{same-one}
use Rattle.termrelay.specs.Answers.{ClientState}

-- ---- the frames among the entries

abbrev frames_by : Bool → Entry → List (List ℕ) → List (List ℕ)
frames_by frame e rest = if frame then e.text ∷ rest else rest

abbrev pub frame_texts : List Entry → List (List ℕ)
frame_texts [] = []
frame_texts (e ∷ es) = frames_by (is_frame e.answer) e (frame_texts es)

joined-by : (frame : Bool) (e : Entry) (rest : List (List ℕ)) (more : List ℕ) → (frame ≡ false → e.text ≡ [])
    → concat rest ≡ more → concat (frames_by frame e rest) ≡ e.text ++ more
joined-by true e rest more none h = ap (λ xs. e.text ++ xs) h
joined-by false e rest more none h = h ∙ ap (λ xs. xs ++ more) (sym (none refl))

-- ---- why a client is answered so

-- it isn't put off
abbrev pub IsReady : Answer → Type 0
IsReady Behind = ⊥
IsReady Held = ⊥
IsReady TooLong = ⊥
IsReady a = Unit {0}

-- a client c that asks for a frame of this state, on a screen of this size
pub data IsDue (z : Size) (s : State) (c : ClientState) : Answer → Type 0 where
  behind : c.owed ≢ [] → IsDue z s c Behind
  held : s.updating ≡ true → IsDue z s c Held
  overlong : is_too_long z (shown_state s) c.base ≡ true → IsDue z s c TooLong
  unsure : is_unsure z (shown_state s) ≡ true → is_too_long z (shown_state s) c.base ≡ false → IsDue z s c Unsure
  full : is_unsure z (shown_state s) ≡ false → is_too_long z (shown_state s) c.base ≡ false → IsDue z s c Full
  difference : is_unsure z (shown_state s) ≡ false → is_too_long z (shown_state s) c.base ≡ false
      → IsDue z s c Difference
  unchanged : (base : Shown) → c.base ≡ Some base → same_shown z base (shown_state s) ≡ true → IsDue z s c Unchanged

module _ (z : Size) (s : State) where
  abbrev now : Shown
  now = shown_state s

  abbrev client : Option Shown → ClientState
  client base = record { owed = []; base = base }

  abbrev due_as : Bool → Answer → Answer
  due_as long a = if is_frame a && long then TooLong else a

  due-again : (b : Shown) (again same long : Bool) → same_shown z b now ≡ same → is_unsure z now ≡ false
      → is_too_long z now (Some b) ≡ long
      → IsDue z s (client (Some b)) (due_as long (if again then Full else if same then Unchanged else Difference))
  due-again b true same true e u l = overlong l
  due-again b true same false e u l = full u l
  due-again b false true long e u l = unchanged b refl e
  due-again b false false true e u l = overlong l
  due-again b false false false e u l = difference u l

  due-by : (base : Option Shown) (updating not_sure long : Bool) → s.updating ≡ updating → is_unsure z now ≡ not_sure
      → is_too_long z now base ≡ long
      → IsDue z s (client base)
      (if updating then Held else due_as long (if not_sure then Unsure else due_from z now base))
  due-by base true not_sure long o u l = held o
  due-by base false true true o u l = overlong l
  due-by base false true false o u l = unsure u l
  due-by None false false true o u l = overlong l
  due-by None false false false o u l = full u l
  due-by (Some b) false false long o u l = due-again b (is_unsure z b) (same_shown z b now) long refl u l

pub answer-due : (z : Size) (s : State) (base : Option Shown) (owed : List ℕ) → grid_size s.shown ≡ z
    → IsDue z s (record { owed = owed; base = base }) (answer_for s (record { owed = owed; base = base }))
answer-due z s base [] same =
    let k = grid_size s.shown in
    subst (λ y. IsDue y s (client z s base) (answer_for s (client z s base))) same
    (due-by k s base s.updating (is_unsure k (shown_state s)) (is_too_long k (shown_state s) base) refl refl refl)
answer-due z s base (x ∷ owed) same = behind (λ no. absurd (cc))

module _ (z : Size) (s : State) (c : ClientState) where
  -- a frame isn't too long, and one of an unsure screen is answered so
  pub due-frame : (a : Answer) → IsDue z s c a → is_frame a ≡ true
      → (is_too_long z (shown_state s) c.base ≡ false) × (is_unsure z (shown_state s) ≡ true → a ≡ Unsure)
  due-frame a (unsure u l) f = (l, λ v. refl)
  due-frame a (full u l) f = (l, λ v. absurd (let no : true ≡ false = sym v ∙ u in cc))
  due-frame a (difference u l) f = (l, λ v. absurd (let no : true ≡ false = sym v ∙ u in cc))
  due-frame a (behind o) f = absurd (let no : false ≡ true = f in cc)
  due-frame a (held o) f = absurd (let no : false ≡ true = f in cc)
  due-frame a (overlong l) f = absurd (let no : false ≡ true = f in cc)
  due-frame a (unchanged base is e) f = absurd (let no : false ≡ true = f in cc)

  due-unsure : IsDue z s c Unsure → is_unsure z (shown_state s) ≡ true
  due-unsure (unsure u l) = u

  due-overlong : IsDue z s c TooLong → is_too_long z (shown_state s) c.base ≡ true
  due-overlong (overlong l) = l

-- ---- lengths

pub below-limit : (text : List ℕ) → nat_lt longest_frame (length text) ≡ false → length text < limit
below-limit text h = omega (arith, ltb-false longest_frame (length text) h)

few-cells : (z : Size) (text : List ℕ) → z.rows * z.cols ≤ 2000 → IsShortFrame z text
    → nat_lt longest_frame (length text) ≡ false
few-cells z text few short = lt-leb (suc longest_frame) (length text) (omega (arith, few, short))

text-none : (z : Size) (base : Option Shown) (now : Shown) (frame : Bool) (text : List ℕ)
    → text ≡ (if frame then frame_text z base now else []) → frame ≡ false → text ≡ []
text-none z base now true text h e = absurd (let no : true ≡ false = e in cc)
text-none z base now false text h e = h

text-some : (z : Size) (base : Option Shown) (now : Shown) (frame : Bool) (text : List ℕ)
    → text ≡ (if frame then frame_text z base now else []) → frame ≡ true → text ≡ frame_text z base now
text-some z base now true text h e = h
text-some z base now false text h e = absurd (let no : false ≡ true = e in cc)

module _ (rows cols : ℕ) (z : Size) (height : IsSide z.rows) (width : IsSide z.cols) where
  pub small : IsSmall z
  small = (height.1, width.1)

  -- what was shown at the last frame
  abbrev pub base_of : Option Entry → Option Shown
  base_of None = None
  base_of (Some e) = Some (shown_at rows cols e)

  abbrev pub Known : Option Entry → Type 0
  Known None = Unit {0}
  Known (Some e) = IsShot z (shown_at rows cols e) × (is_unsure z (shown_at rows cols e) ≡ true → e.answer ≡ Unsure)
      × (size_at rows cols e ≡ z) × (e.answer ≡ Unsure → is_unsure z (shown_at rows cols e) ≡ true)

  pub known-base : (last : Option Entry) → Known last → IsShotBase z (base_of last)
  known-base None h = tt
  known-base (Some e) h = h.0

  abbrev pub frame_by : Bool → Option Entry → Entry → Option Entry
  frame_by frame last e = if frame then Some e else last

  base-by : (frame : Bool) (last : Option Entry) (e : Entry)
      → (if frame then Some (shown_at rows cols e) else base_of last) ≡ base_of (frame_by frame last e)
  base-by true last e = refl
  base-by false last e = refl

  pub later : (last : Option Entry) (e : Entry) (es : List Entry)
      → AreAnswered rows cols z (base_of last) (e ∷ es) → AreAnswered rows cols z (base_of (frame_or last e)) es
  later last e es h = subst (λ base. AreAnswered rows cols z base es) (base-by (is_frame e.answer) last e) h.1

  pub entry-none : (last : Option Entry) (e : Entry) → IsAnswered rows cols z (base_of last) e → is_frame e.answer ≡ false
      → e.text ≡ []
  entry-none last e h f =
      text-none z (base_of last) (shown_at rows cols e) (is_frame e.answer) e.text h.text f

  pub entry-some : (last : Option Entry) (e : Entry) → IsAnswered rows cols z (base_of last) e → is_frame e.answer ≡ true
      → e.text ≡ frame_text z (base_of last) (shown_at rows cols e)
  entry-some last e h f =
      text-some z (base_of last) (shown_at rows cols e) (is_frame e.answer) e.text h.text f

  pub entry-shot : (base : Option Shown) (e : Entry) → IsAnswered rows cols z base e → IsShot z (shown_at rows cols e)
  entry-shot base e h = shot-made rows cols e.moment z h.acts height width h.size

  abbrev pub client_of : (base : Option Shown) (e : Entry) → IsAnswered rows cols z base e → ClientState
  client_of base e h = record { owed = h.owed; base = base }

  pub entry-due : (base : Option Shown) (e : Entry) → (h : IsAnswered rows cols z base e)
      → IsDue z (state_at rows cols e) (client_of base e h) e.answer
  entry-due base e h =
      subst (IsDue z (state_at rows cols e) (client_of base e h)) (sym h.answer)
      (answer-due z (state_at rows cols e) base h.owed h.size)

  pub entry-known : (base : Option Shown) (e : Entry) → IsAnswered rows cols z base e → is_frame e.answer ≡ true
      → Known (Some e)
  entry-known base e h f =
      let s = state_at rows cols e in
      let c = client_of base e h in (
        entry-shot base e h,
        (due-frame z s c e.answer (entry-due base e h) f).1,
        h.size,
        λ u. due-unsure z s c (subst (IsDue z s c) u (entry-due base e h)),
      )

  known-by : (frame : Bool) (last : Option Entry) (e : Entry) → Known last → (frame ≡ true → Known (Some e))
      → Known (frame_by frame last e)
  known-by true last e h k = k refl
  known-by false last e h k = h

  known-next : (last : Option Entry) (e : Entry) → Known last → IsAnswered rows cols z (base_of last) e
      → Known (frame_or last e)
  known-next last e h k = known-by (is_frame e.answer) last e h (λ f. entry-known (base_of last) e k f)

  -- what is true of each entry, by what is known of the last frame before it
  pub entries-all : (P : Entry → Type 0)
      → ((last : Option Entry) (e : Entry) → Known last → IsAnswered rows cols z (base_of last) e → P e)
      → (last : Option Entry) (es : List Entry) → Known last → AreAnswered rows cols z (base_of last) es
      → AllByRecursion P es
  entries-all P each last [] h k = tt
  entries-all P each last (e ∷ es) h k =
      (each last e h k.0, entries-all P each (frame_or last e) es (known-next last e h k.0) (later last e es k))

  -- and of its text, which is a frame's or empty
  pub text-by : (P : List ℕ → Type 0) (frame : Bool) (last : Option Entry) (e : Entry)
      → IsAnswered rows cols z (base_of last) e → is_frame e.answer ≡ frame → P []
      → (is_frame e.answer ≡ true → P (frame_text z (base_of last) (shown_at rows cols e))) → P e.text
  text-by P true last e k f none some = subst P (sym (entry-some last e k f)) (some f)
  text-by P false last e k f none some = subst P (sym (entry-none last e k f)) none

  -- ---- the texts are frames

  pub entries-frames : (es : List Entry) → AreAnswered rows cols z None es
      → AllByRecursion (λ e. is_frame e.answer ≡ true → IsFrame e.text) es
  entries-frames es k =
      entries-all (λ e. is_frame e.answer ≡ true → IsFrame e.text)
      (λ last e h a f. subst IsFrame (sym (entry-some last e a f))
      (text-frame z (base_of last) (shown_at rows cols e) (known-base last h) (entry-shot (base_of last) e a)))
      None es tt k

  -- ---- and short

  frame-few : (last : Option Entry) (e : Entry) → Known last → IsAnswered rows cols z (base_of last) e
      → IsShortFrame z (frame_text z (base_of last) (shown_at rows cols e))
  frame-few last e h k =
      frame-short z (base_of last) (shown_at rows cols e) (byte-base z (base_of last) (known-base last h))
      (entry-shot (base_of last) e k).small

  pub entries-short : (es : List Entry) → AreAnswered rows cols z None es
      → AllByRecursion (λ e. IsShortFrame z e.text) es
  entries-short es k =
      entries-all (λ e. IsShortFrame z e.text)
      (λ last e h a. text-by (IsShortFrame z) (is_frame e.answer) last e a refl (omega arith)
      (λ f. frame-few last e h a)) None es tt k

  -- ---- below the hold's limit

  pub entries-fit : (es : List Entry) → AreAnswered rows cols z None es
      → AllByRecursion (λ e. length e.text < limit) es
  entries-fit es k =
      entries-all (λ e. length e.text < limit)
      (λ last e h a. text-by (λ (xs : List ℕ). length xs < limit) (is_frame e.answer) last e a refl (omega arith)
      (λ f. below-limit (frame_text z (base_of last) (shown_at rows cols e))
      (due-frame z (state_at rows cols e) (client_of (base_of last) e a) e.answer (entry-due (base_of last) e a) f).0))
      None es tt k

  -- a frame of few cells is made
  entry-made : z.rows * z.cols ≤ 2000 → (last : Option Entry) (e : Entry) → Known last
      → IsAnswered rows cols z (base_of last) e → e.answer ≡ TooLong → ⊥
  entry-made few last e h k is =
      let s = state_at rows cols e in
      let c = client_of (base_of last) e k in
      let long = due-overlong z s c (subst (IsDue z s c) is (entry-due (base_of last) e k)) in
      let fits = few-cells z (frame_text z (base_of last) (shown_at rows cols e)) few (frame-few last e h k) in
      let no : true ≡ false = sym long ∙ fits in absurd (cc)

  pub entries-made : z.rows * z.cols ≤ 2000 → (es : List Entry) → AreAnswered rows cols z None es
      → AllByRecursion (λ e. e.answer ≡ TooLong → ⊥) es
  entries-made few es k = entries-all (λ e. e.answer ≡ TooLong → ⊥) (entry-made few) None es tt k

  all-by : (P : List ℕ → Type 0) (frame : Bool) (e : Entry) (rest : List (List ℕ)) → (frame ≡ true → P e.text)
      → AllByRecursion P rest → AllByRecursion P (frames_by frame e rest)
  all-by P true e rest h k = (h refl, k)
  all-by P false e rest h k = k

  pub frames-all : (P : List ℕ → Type 0) (es : List Entry)
      → AllByRecursion (λ e. is_frame e.answer ≡ true → P e.text) es → AllByRecursion P (frame_texts es)
  frames-all P [] h = tt
  frames-all P (e ∷ es) h = all-by P (is_frame e.answer) e (frame_texts es) h.0 (frames-all P es h.1)

  pub frames-joined : (last : Option Entry) (es : List Entry) → AreAnswered rows cols z (base_of last) es
      → concat (frame_texts es) ≡ texts es
  frames-joined last [] h = refl
  frames-joined last (e ∷ es) h =
      joined-by (is_frame e.answer) e (frame_texts es) (texts es) (λ f. entry-none last e h.0 f)
      (frames-joined (frame_or last e) es (later last e es h))

  -- ---- what is shown

  -- after these bytes nothing is unfinished, and a view agrees with the last frame
  pub record HasRead (last : Option Entry) (past : List ℕ) : Type 0 where
    pub ground : AtGround 1024 past
    pub agrees : Agrees z (base_of last) (shown_of (seen z past))
    pub known : Known last

  pub read-nothing : HasRead None []
  read-nothing = record { ground = ground-nothing 1024; agrees = refl; known = tt }

  read-by : (frame : Bool) (last : Option Entry) (e : Entry) (past : List ℕ) → is_frame e.answer ≡ frame
      → HasRead last past → IsAnswered rows cols z (base_of last) e → HasRead (frame_by frame last e) (past ++ e.text)
  read-by true last e past f h k =
      let is = entry-some last e k f in
      let now = shown_at rows cols e in
      record {
        ground = subst (λ (xs : List ℕ). AtGround 1024 (past ++ xs)) (sym is) (frame-ends z past (base_of last) now);
        agrees = subst (λ (xs : List ℕ). Agrees z (Some now) (shown_of (seen z (past ++ xs)))) (sym is)
            (frame-read z past (base_of last) now small (known-base last h.known) (entry-shot (base_of last) e k)
            h.ground h.agrees);
        known = entry-known (base_of last) e k f;
      }
  read-by false last e past f h k =
      subst (λ (xs : List ℕ). HasRead last xs)
      (sym (append-nil past) ∙ ap (λ xs. past ++ xs) (sym (entry-none last e k f))) h

  read-entry : (last : Option Entry) (e : Entry) (past : List ℕ) → HasRead last past
      → IsAnswered rows cols z (base_of last) e → HasRead (frame_or last e) (past ++ e.text)
  read-entry last e past h k = read-by (is_frame e.answer) last e past refl h k

  pub read-all : (last : Option Entry) (es : List Entry) (past : List ℕ) → HasRead last past
      → AreAnswered rows cols z (base_of last) es → HasRead (last_frame last es) (past ++ texts es)
  read-all last [] past h k = subst (λ (xs : List ℕ). HasRead last xs) (sym (append-nil past)) h
  read-all last (e ∷ es) past h k =
      subst (λ (xs : List ℕ). HasRead (last_frame (frame_or last e) es) xs) (append_assoc past e.text (texts es))
      (read-all (frame_or last e) es (past ++ e.text) (read-entry last e past h k.0) (later last e es k))

  -- a sure frame's screen is what is shown
  judged-by : (e : Entry) (s : Shown) (unsure : Bool) → is_unsure z (shown_at rows cols e) ≡ unsure → Known (Some e)
      → IsSure (Some e) → ShowsUnless unsure (shown_at rows cols e) s → s ≡ shown_at rows cols e
  judged-by e s true u h sure a = absurd (sure (h.1 u))
  judged-by e s false u h sure a = a

  pub judged-shown : (last : Option Entry) (past : List ℕ) → HasRead last past → IsSure last
      → shown_of (seen z past) ≡ judged rows cols last
  judged-shown None past h sure = h.agrees
  judged-shown (Some e) past h sure =
      judged-by e (shown_of (seen z past)) (is_unsure z (shown_at rows cols e)) refl h.known sure h.agrees

  -- where just these entries' texts were read
  pub seen-judged : (es : List Entry) → AreAnswered rows cols z None es → IsSure (last_frame None es)
      → shown_of (seen z (texts es)) ≡ judged rows cols (last_frame None es)
  seen-judged es k sure = judged-shown (last_frame None es) (texts es) (read-all None es [] read-nothing k) sure

  pub last-size : (es : List Entry) (e : Entry) → AreAnswered rows cols z None es → last_frame None es ≡ Some e
      → size_at rows cols e ≡ z
  last-size es e k is = (subst Known is (read-all None es [] read-nothing k).known).2

  -- ---- the last answer

  abbrev IsShownAt : Entry → Option Entry → Type 0
  IsShownAt e last = IsSure last × (judged rows cols last ≡ shown_at rows cols e)

  ready-shown : (last : Option Entry) (e : Entry) (a : Answer) (c : ClientState) → c.base ≡ base_of last → Known last
      → IsShot z (shown_at rows cols e) → is_unsure z (shown_at rows cols e) ≡ false
      → IsDue z (state_at rows cols e) c a → IsReady a → e.answer ≡ a
      → IsShownAt e (if is_frame a then Some e else last)
  ready-shown last e a c base known shot sure (behind o) ready is = absurd ready
  ready-shown last e a c base known shot sure (held o) ready is = absurd ready
  ready-shown last e a c base known shot sure (overlong l) ready is = absurd ready
  ready-shown last e a c base known shot sure (unsure u l) ready is =
      absurd (let no : false ≡ true = sym sure ∙ u in cc)
  ready-shown last e a c base known shot sure (full u l) ready is = (λ v. let no = sym is ∙ v in cc, refl)
  ready-shown last e a c base known shot sure (difference u l) ready is = (λ v. let no = sym is ∙ v in cc, refl)
  ready-shown None e a c base known shot sure (unchanged b at same) ready is =
      absurd (let no : None ≡ Some b = sym base ∙ at in cc)
  ready-shown (Some d) e a c base known shot sure (unchanged b at same) ready is =
      let both : Some (shown_at rows cols d) ≡ Some b = sym base ∙ at in
      let first : b ≡ shown_at rows cols d = cc in
      let one = same-one z (shown_at rows cols d) (shown_at rows cols e) known.0.small.shown shot.small.shown
      (subst (λ x. same_shown z x (shown_at rows cols e) ≡ true) first same) in
      (λ v. let no : false ≡ true = sym sure ∙ ap (is_unsure z) (sym one) ∙ known.3 v in absurd (cc), one)

  last-push : (last : Option Entry) (es : List Entry) (e : Entry)
      → last_frame last (es ++ e ∷ []) ≡ frame_or (last_frame last es) e
  last-push last [] e = refl
  last-push last (x ∷ es) e = last-push (frame_or last x) es e

  answered-push : (last : Option Entry) (es : List Entry) (e : Entry)
      → AreAnswered rows cols z (base_of last) (es ++ e ∷ [])
      → AreAnswered rows cols z (base_of last) es × IsAnswered rows cols z (base_of (last_frame last es)) e
  answered-push last [] e h = (tt, h.0)
  answered-push last (x ∷ es) e h =
      let rest = answered-push (frame_or last x) es e (later last x (es ++ e ∷ []) h) in
      ((h.0, subst (λ base. AreAnswered rows cols z base es) (sym (base-by (is_frame x.answer) last x)) rest.0), rest.1)

  -- where the screen was sure then, it is what is judged
  pub last-judged : (es : List Entry) (e : Entry) → AreAnswered rows cols z None (es ++ e ∷ []) → IsReady e.answer
      → is_unsure z (shown_at rows cols e) ≡ false → IsShownAt e (last_frame None (es ++ e ∷ []))
  last-judged es e h ready sure =
      let parts = answered-push None es e h in
      let last = last_frame None es in
      subst (IsShownAt e) (sym (last-push None es e))
      (ready-shown last e e.answer (client_of (base_of last) e parts.1) refl
      (read-all None es [] read-nothing parts.0).known (entry-shot (base_of last) e parts.1) sure
      (entry-due (base_of last) e parts.1) ready refl)

  -- ---- a prefix of the frames' texts

  not-whole : (p text left : List ℕ) → text ≡ p ++ left → left ≢ [] → length p < length text
  not-whole p text [] e some = absurd (some refl)
  not-whole p text (x ∷ left) e some = omega (arith, ap length e, length-append p (x ∷ left))

  pub in-more : (e : Entry) (es : List Entry) (k more : ℕ) → k ≡ length e.text + more
      → whole_in (e ∷ es) k ≡ e ∷ whole_in es more
  in-more e es k more h =
      let t : nat_le (length e.text) k ≡ true = grind (arith, nat_tests) in
      let m : k - length e.text ≡ more = omega (arith, h) in
      rw (t, m) refl

  pub in-stops : (e : Entry) (es : List Entry) (k : ℕ) → k < length e.text → whole_in (e ∷ es) k ≡ []
  in-stops e es k h =
      let t : nat_le (length e.text) k ≡ false = grind (arith, nat_tests) in
      rw t refl

  -- the whole frames' texts are those of the entries that lie wholly in the bytes
  abbrev pub Covers : List Entry → Type 0
  Covers es = (last : Option Entry) (whole rest : List (List ℕ)) (p : List ℕ) → AreAnswered rows cols z (base_of last)
      es
      → frame_texts es ≡ whole ++ rest → IsPart p rest → texts (whole_in es (length (concat whole ++ p))) ≡ concat whole

  covers-by : (frame : Bool) (e : Entry) (es : List Entry) → Covers es → is_frame e.answer ≡ frame
      → (last : Option Entry) (whole rest : List (List ℕ)) (p : List ℕ)
      → AreAnswered rows cols z (base_of last) (e ∷ es) → frames_by frame e (frame_texts es) ≡ whole ++ rest
      → IsPart p rest → texts (whole_in (e ∷ es) (length (concat whole ++ p))) ≡ concat whole
  covers-by false e es go f last whole rest p k cut part =
      let none = entry-none last e k.0 f in
      let n = length (concat whole ++ p) in
      ap texts (in-more e es n n (omega (arith, ap length none)))
      ∙ ap (λ xs. xs ++ texts (whole_in es n)) none
      ∙ go (frame_or last e) whole rest p (later last e es k) cut part
  covers-by true e es go f last [] rest p k cut part =
      let begun : IsPart p (e.text ∷ frame_texts es) = subst (λ r. IsPart p r) (sym cut) part in
      ap texts (in-stops e es (length p) (not-whole p e.text begun.0 begun.1 begun.2))
  covers-by true e es go f last (w ∷ whole) rest p k cut part =
      let head : e.text ≡ w = cc in
      let tails : frame_texts es ≡ whole ++ rest = cc in
      let n = length (concat whole ++ p) in
      let count : length ((w ++ concat whole) ++ p) ≡ length e.text + n =
      omega (
        arith,
        ap length head,
        length-append (w ++ concat whole) p,
        length-append w (concat whole),
        length-append (concat whole) p,
      ) in
      ap texts (in-more e es (length ((w ++ concat whole) ++ p)) n count)
      ∙ ap (λ xs. e.text ++ xs) (go (frame_or last e) whole rest p (later last e es k) tails part)
      ∙ ap (λ xs. xs ++ concat whole) head

  pub covers : (es : List Entry) → Covers es
  covers [] last [] rest p k cut part = refl
  covers [] last (w ∷ whole) rest p k cut part = absurd (cc)
  covers (e ∷ es) last whole rest p k cut part =
      covers-by (is_frame e.answer) e es (covers es) refl last whole rest p k cut part

  -- ---- in pieces

  frames-are : (es : List Entry) → AreAnswered rows cols z None es → AllByRecursion IsFrame (frame_texts es)
  frames-are es k = frames-all IsFrame es (entries-frames es k)

  pub whole-shown : (es : List Entry) (moves : List Move) (parsed : List ℕ) (hold : Option (List ℕ))
      → AreAnswered rows cols z None es → given moves ≡ texts es → Drives moves [] None parsed hold
      → (hold ≡ None) × (IsSure (last_frame None es) → shown_of (seen z parsed) ≡ judged rows cols (last_frame None es))
  whole-shown es moves parsed hold k e leads =
      let joined = frames-joined None es k in
      let out = whole_shown z (frame_texts es) moves [] parsed hold (ground-nothing 1024)
      (All-from_recursion IsFrame (frame_texts es) (frames-are es k)) (e ∙ sym joined) leads in
      (out.1, λ sure. ap shown_of (out.0 ∙ ap (seen z) joined) ∙ seen-judged es k sure)

  -- the view shows just these entries' texts
  pub prefix-seen : (es : List Entry) (pieces : List (List ℕ)) (beyond parsed : List ℕ) (hold : Option (List ℕ))
      → AreAnswered rows cols z None es → concat pieces ++ beyond ≡ texts es
      → Drives (map Gives pieces) [] None parsed hold
      → seen z parsed ≡ seen z (texts (whole_in es (length (concat pieces))))
  prefix-seen es pieces beyond parsed hold k e leads =
      let joined = frames-joined None es k in
      let all-short = frames-all (λ text. length text < limit) es
      (all-each (λ e. length e.text < limit) (λ e. is_frame e.answer ≡ true → length e.text < limit) (λ e h _. h) es
      (entries-fit es k)) in
      let out = none_torn z (frame_texts es) pieces beyond [] parsed hold (ground-nothing 1024)
      (All-from_recursion IsFrame (frame_texts es) (frames-are es k))
      (All-from_recursion (λ text. length text < limit) (frame_texts es) all-short) (e ∙ sym joined) leads in
      let f = out.prefix in
      out.shows
      ∙ ap (seen z) (sym (covers es None f.whole f.rest f.part k f.frames_are f.is_part))
      ∙ ap (λ bytes. seen z (texts (whole_in es (length bytes)))) (sym f.bytes_are)

-- ---- sessions

pub answered-prefix : (rows cols : ℕ) (z : Size) (base : Option Shown) (prefix back : List Entry)
    → AreAnswered rows cols z base (prefix ++ back) → AreAnswered rows cols z base prefix
answered-prefix rows cols z base [] back h = tt
answered-prefix rows cols z base (e ∷ prefix) back h =
    (h.0, answered-prefix rows cols z (base_then rows cols base e) prefix back h.1)

prefix-by : (here : Bool) (rows cols : ℕ) (z : Size) (base : Option Shown) (e : Entry) (es : List Entry)
    → AreAnswered rows cols z base (e ∷ es) → AreAnswered rows cols z base (if here then e ∷ es else [])
prefix-by true rows cols z base e es h = h
prefix-by false rows cols z base e es h = tt

pub answered-whole : (rows cols : ℕ) (z : Size) (base : Option Shown) (es : List Entry) (n : ℕ)
    → AreAnswered rows cols z base es → AreAnswered rows cols z base (whole_in es n)
answered-whole rows cols z base [] n h = tt
answered-whole rows cols z base (e ∷ es) n h =
    let left = n - length e.text in
    prefix-by (nat_le (length e.text) n) rows cols z base e (whole_in es left)
    (h.0, answered-whole rows cols z (base_then rows cols base e) es left h.1)

pub texts-frames : EachTextIsAFrame
texts-frames rows cols calls replies n t s =
    let h = sessions-reported rows cols calls replies n t s in
    entries-frames rows cols (size_of_story t) h.height h.width t.entries h.entries

-- what the judge says of a session, and of the entries whose frames come whole
module _ (rows cols : ℕ) (calls : List Call) (replies : List Reply) (n : ℕ) (t : Story)
    (s : IsSession rows cols calls replies n t) where
  abbrev reported : IsReported rows cols (clients_in s.hub) t
  reported = sessions-reported rows cols calls replies n t s

  answered-first : (prefix : List Entry) (parsed : List ℕ) (hold : Option (List ℕ)) → ReadsFrames t prefix parsed hold
      → AreAnswered rows cols (size_of_story t) None prefix
  answered-first prefix parsed hold r =
      answered-prefix rows cols (size_of_story t) None prefix r.back
      (subst (AreAnswered rows cols (size_of_story t) None) r.parts reported.entries)

  answered-read : (pieces : List (List ℕ)) → AreAnswered rows cols (size_of_story t) None (whole_read t pieces)
  answered-read pieces =
      answered-whole rows cols (size_of_story t) None t.entries (length (concat pieces)) reported.entries

  size-of : (es : List Entry) (e : Entry) → AreAnswered rows cols (size_of_story t) None es
      → last_frame None es ≡ Some e → size_at rows cols e ≡ size_of_story t
  size-of es e are is = last-size rows cols (size_of_story t) reported.height reported.width es e are is

pub wholes-shown : WholeSessionsAreShown
wholes-shown rows cols calls replies n t prefix parsed hold s r =
    let h = reported rows cols calls replies n t s in
    whole-shown rows cols (size_of_story t) h.height h.width prefix r.moves parsed hold
    (answered-first rows cols calls replies n t s prefix parsed hold r) r.given r.leads

seen-then : (rows cols : ℕ) (calls : List Call) (replies : List Reply) (n : ℕ) (t : Story) (pieces : List (List ℕ))
    (parsed : List ℕ) → IsSession rows cols calls replies n t → ReadsPrefix t.session.pumped pieces parsed
    → seen (size_of_story t) parsed ≡ seen (size_of_story t) (texts (whole_read t pieces))
seen-then rows cols calls replies n t pieces parsed s r =
    let h = reported rows cols calls replies n t s in
    let all : concat pieces ++ (r.beyond ++ h.left) ≡ texts t.entries =
    sym (append_assoc (concat pieces) r.beyond h.left) ∙ ap (λ xs. xs ++ h.left) r.joined ∙ h.prefix in
    prefix-seen rows cols (size_of_story t) h.height h.width t.entries pieces (r.beyond ++ h.left) parsed r.hold
    h.entries all
    r.leads

pub last-shown : LastWholeFrameIsShown
last-shown rows cols calls replies n t pieces parsed s r sure =
    let h = reported rows cols calls replies n t s in
    ap shown_of (seen-then rows cols calls replies n t pieces parsed s r)
    ∙ seen-judged rows cols (size_of_story t) h.height h.width (whole_read t pieces)
    (answered-read rows cols calls replies n t s pieces) sure

pub none-torn : NoSessionIsTorn
none-torn rows cols calls replies n t pieces more parsed parsed' s r q same =
    ap shown_of (seen-then rows cols calls replies n t (pieces ++ more) parsed' s q
    ∙ ap (λ es. seen (size_of_story t) (texts es)) same
    ∙ sym (seen-then rows cols calls replies n t pieces parsed s r))

-- ---- one moment

-- what is shown of two frames that were taken at one moment
same-moment : (rows cols : ℕ) (e f : Entry) (z y : Size) (shown shown' : Shown) → size_at rows cols e ≡ z
    → size_at rows cols f ≡ y → shown ≡ shown_at rows cols e → shown' ≡ shown_at rows cols f
    → state_at rows cols e ≡ state_at rows cols f → (z ≡ y) × (shown ≡ shown')
same-moment rows cols e f z y shown shown' size size' is is' same = (
  sym size ∙ ap (λ (x : State). grid_size x.shown) same ∙ size',
  is ∙ ap shown_state same ∙ sym is',
)

-- what is shown right of a sure frame
shown-right : (rows cols : ℕ) (shown : Shown) (last : Option Entry) (e : Entry) → last ≡ Some e
    → (e.answer ≡ Unsure → ⊥) → IsShownRight rows cols shown last → shown ≡ shown_at rows cols e
shown-right rows cols shown last e is sure right = right (subst IsSure (sym is) sure) ∙ ap (judged rows cols) is

pub moments-same : OneMomentShowsTheSame
moments-same rows cols calls replies n m t u pieces others parsed parsed' e f s z r q is are same sure sure' =
    let first = answered-read rows cols calls replies n t s pieces in
    let other = answered-read rows cols calls replies m u z others in
    same-moment rows cols e f (size_of_story t) (size_of_story u) (shown_of (seen (size_of_story t) parsed))
    (shown_of (seen (size_of_story u) parsed'))
    (size-of rows cols calls replies n t s (whole_read t pieces) e first is)
    (size-of rows cols calls replies m u z (whole_read u others) f other are)
    (shown-right rows cols _ _ e is sure (last-shown rows cols calls replies n t pieces parsed s r))
    (shown-right rows cols _ _ f are sure' (last-shown rows cols calls replies m u others parsed' z q))
    (one-made rows cols calls replies n m t u s z (whole_read t pieces) (whole_read u others) e f
    (all-whole _ t.entries (length (concat pieces)) (these-before rows cols calls replies n m t u s z))
    (all-whole _ u.entries (length (concat others)) (those-before rows cols calls replies n m t u s z)) is are same)

pub moments-whole : OneMomentShowsTheSameWhole
moments-whole rows cols calls replies n m t u prefix others parsed parsed' hold hold' e f s z r q is are same sure k =
    let Before = FedBefore rows cols calls replies n m t u s z in
    let first = answered-first rows cols calls replies n t s prefix parsed hold r in
    let other = answered-first rows cols calls replies m u z others parsed' hold' q in
    same-moment rows cols e f (size_of_story t) (size_of_story u) (shown_of (seen (size_of_story t) parsed))
    (shown_of (seen (size_of_story u) parsed')) (size-of rows cols calls replies n t s prefix e first is)
    (size-of rows cols calls replies m u z others f other are)
    (shown-right rows cols _ _ e is sure (wholes-shown rows cols calls replies n t prefix parsed hold s r).1)
    (shown-right rows cols _ _ f are k (wholes-shown rows cols calls replies m u others parsed' hold' z q).1)
    (one-made rows cols calls replies n m t u s z prefix others e f (all-first Before prefix r.back
    (subst (AllByRecursion Before) r.parts (these-before rows cols calls replies n m t u s z)))
    (all-first Before others q.back
    (subst (AllByRecursion Before) q.parts (those-before rows cols calls replies n m t u s z))) is are same)
