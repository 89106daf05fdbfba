-- A screen that reads a frame, whole or in part.
use Rattle.std.proofs.Common.{◌≡◌, ◌≢◌, ◌∙◌, ℕ, ◌+◌, ◌<◌, ◌≤◌, ◌==◌, ◌&&◌, Bool, true, false, cond, List, [], ◌∷◌, ◌++◌, map}
use Rattle.std.proofs.Common.{length, take, Option, refl, sym, ap, subst, arith, append_assoc, append-nil}
use Rattle.std.proofs.Common.{length-append, inl, inr}
use Rattle.std.specs.List.{AllByRecursion}
use Rattle.std.proofs.lemmas.Bool.{cond_both, cases_lt, agree_below_at, eqb-true}
use Rattle.std.proofs.lemmas.List.{take_at, nil_from_length}
use Rattle.vte_core.specs.Event.{Event, Print}
use Rattle.vte_core.specs.Shapes.{events}
use Rattle.vte_core.specs.Added.{added}
use Rattle.vte_core.specs.Ground.{AtGround}
use Rattle.vte_core.proofs.AddedLemmas.{events-added, added-append, added-none, added-first}
use Rattle.vte_core.proofs.GroundLemmas.{ground-nothing, ground-added}
use Rattle.vte.specs.Marks.{start_mark, end_mark}
use Rattle.vte.proofs.FrameMarks.{ground_start, contrary}
use Rattle.vte.proofs.FrameLemmas.{cut_later}
use Rattle.vt100_forms.specs.declared.modes.MouseProtocolMode.{MouseProtocolMode}
use Rattle.vt100_forms.specs.declared.modes.MouseProtocolMode.TheVariants as mouse
use Rattle.vt100_forms.specs.declared.modes.MouseProtocolEncoding.{MouseProtocolEncoding}
use Rattle.vt100_forms.specs.declared.modes.MouseProtocolEncoding.TheVariants as encoding
use Rattle.vt100_forms.specs.declared.modes.CursorStyle.{CursorStyle}
use Rattle.vt100_forms.specs.declared.modes.CursorStyle.TheVariants as style
use Rattle.vt100_forms.specs.Form.{Form, Text, MoveTo, MoveRight, EraseChar, ClearScreen, Crlf, HideCursor, Keypad}
use Rattle.vt100_forms.specs.Form.{CursorKeys, Paste}
use Rattle.vt100_forms.specs.Form.{Mouse, Encoding, Style, Sgr, mouse_number, encoding_number, style_number, sgr_numbers}
use Rattle.vt100_forms.specs.Form.{bytes_of}
use Rattle.terminal_model.specs.Term.{Size, Shown, Term, shown_of, saved_of}
use Rattle.terminal_model.specs.Apply.{run}
use Rattle.terminal_model.specs.FormText.{IsSentForm}
use Rattle.forms_read.specs.Events.{counted_events, mode_events, set_event, reset_event, sgr_events, events_of}
use Rattle.forms_read.specs.Events.{events_of_all, sequence, bare}
use Rattle.forms_read.proofs.ReadForms.{list-read}
use Rattle.forms_read.proofs.SentTexts.{forms-readable}
use Rattle.screen_model.specs.State.{State, fresh_state}
use Rattle.screen_model.specs.Step.{with_updating, typed}
use Rattle.screen_model.specs.PrivateModes.{is_mouse, is_encoding, mouse_set, encoding_set}
use Rattle.screen_model.specs.Effect.{Effect, effect, is_unhandled, calling, steps}
use Rattle.screen_model.specs.Made.{Act, Fed, Resized, played, bytes_fed, made_on, made}
use Rattle.screen_view_laws.specs.Plain.{terminal_of, size_shown, IsPlainState}
use Rattle.screen_view_laws.proofs.Playing.{played-joined, list-played}
use Rattle.screen_view_laws.proofs.SentPlaying.{sent-list-played}
use Rattle.termview.specs.FormFrames.{framed}
use Rattle.termrelay.specs.Frame.{is_unsure, body_forms, ShowsUnless, Agrees}
use Rattle.termrelay.proofs.BodyForms.{body-forms}
use Rattle.termrelay.proofs.FrameLemmas.{frame-leads, frame-sets_modes}
use Rattle.relay_theorem.specs.Headline.{resizes_made}
use Rattle.relay_theorem.proofs.ScreenLemmas.{IsShot, shot-screen, IsShotBase, base-is}
use Rattle.relay_theorem.proofs.FrameSteps.{byte-base, shots-sent}

-- ---- the state after some bytes

abbrev pub state_after : Size → List ℕ → State
state_after z bytes = played (events 1024 bytes) (fresh_state z.rows z.cols 0)

played-added : (past : List ℕ) (s : State) (acts : List Act) → resizes_made acts ≡ 0
    → made_on past s acts ≡ played (added 1024 past (bytes_fed acts)) s
unfolding added
played-added past s [] r = ap (λ (es : List Event). played es s) (sym (added-none 1024 past))
played-added past s (Fed bs ∷ acts) r =
    let first = added 1024 past bs in
    let rest = added 1024 (past ++ bs) (bytes_fed acts) in
    played-added (past ++ bs) (played first s) acts r
    ∙ sym (played-joined first rest s)
    ∙ ap (λ (es : List Event). played es s) (sym (added-append 1024 past bs (bytes_fed acts)))
played-added past s (Resized rows cols ∷ acts) r = absurd (omega (arith, r))

pub fed-made : (z : Size) (acts : List Act) → resizes_made acts ≡ 0
    → made z.rows z.cols 0 acts ≡ state_after z (bytes_fed acts)
fed-made z acts r =
    played-added [] (fresh_state z.rows z.cols 0) acts r
    ∙ ap (λ (es : List Event). played es (fresh_state z.rows z.cols 0)) (added-first 1024 (bytes_fed acts))

-- bytes after others that end at ground
pub state-more : (z : Size) (past bytes : List ℕ) → AtGround 1024 past
    → state_after z (past ++ bytes) ≡ played (events 1024 bytes) (state_after z past)
state-more z past bytes g =
    let first = fresh_state z.rows z.cols 0 in
    ap (λ (es : List Event). played es first) (g bytes)
    ∙ played-joined (events 1024 past) (events 1024 bytes) first

-- ---- no form begins or ends an update

abbrev KeepsUpdates : Event → Type 0
KeepsUpdates e = (s : State) → (effect e s).state.updating ≡ s.updating

abbrev AllKeep : List Event → Type 0
AllKeep es = AllByRecursion KeepsUpdates es

keep-append : (es gs : List Event) → AllKeep es → AllKeep gs → AllKeep (es ++ gs)
keep-append [] gs h k = k
keep-append (e ∷ es) gs h k = (h.0, keep-append es gs h.1 k)

keep-first : (es gs : List Event) → AllKeep (es ++ gs) → AllKeep es
keep-first [] gs h = tt
keep-first (e ∷ es) gs h = (h.0, keep-first es gs h.1)

keep-text : (cs : List ℕ) → AllKeep (map Print cs)
keep-text [] = tt
keep-text (c ∷ cs) = (
  λ s. cond_both (is_unhandled c) (calling _ s) (steps (typed c s))
      (λ (x : Effect). x.state.updating ≡ s.updating) (λ _. refl) (λ _. refl),
  keep-text cs,
)

keep-counted : (n final : ℕ) → KeepsUpdates (bare final) → KeepsUpdates (sequence [] (n ∷ []) final)
    → AllKeep (counted_events n final)
keep-counted n final h k =
    cond_both (n == 0) _ _ AllKeep (λ _. tt) (λ _. cond_both (n == 1) _ _ AllKeep (λ _. (h, tt)) (λ _. (k, tt)))

keep-mode : (to from : ℕ) → KeepsUpdates (set_event to) → KeepsUpdates (reset_event from)
    → AllKeep (mode_events to from)
keep-mode to from h k =
    cond_both (to == from) _ _ AllKeep (λ _. tt) (λ _. cond_both (to == 0) _ _ AllKeep (λ _. (k, tt)) (λ _. (h, tt)))

updates-if : (b : Bool) (s t : State) → s.updating ≡ t.updating → (cond b s t).updating ≡ t.updating
updates-if true s t h = h
updates-if false s t h = refl

set-mouse : (m : MouseProtocolMode) → KeepsUpdates (set_event (mouse_number m))
set-mouse mouse.None s = refl
set-mouse m s = refl

reset-mouse : (m : MouseProtocolMode) → KeepsUpdates (reset_event (mouse_number m))
reset-mouse mouse.None s = refl
reset-mouse mouse.Press s = updates-if (is_mouse s.modes.mouse mouse.Press) (mouse_set mouse.None s) s refl
reset-mouse mouse.PressRelease s =
    updates-if (is_mouse s.modes.mouse mouse.PressRelease) (mouse_set mouse.None s) s refl
reset-mouse mouse.ButtonMotion s =
    updates-if (is_mouse s.modes.mouse mouse.ButtonMotion) (mouse_set mouse.None s) s refl
reset-mouse mouse.AnyMotion s = updates-if (is_mouse s.modes.mouse mouse.AnyMotion) (mouse_set mouse.None s) s refl

set-encoding : (e : MouseProtocolEncoding) → KeepsUpdates (set_event (encoding_number e))
set-encoding encoding.Default s = refl
set-encoding e s = refl

reset-encoding : (e : MouseProtocolEncoding) → KeepsUpdates (reset_event (encoding_number e))
reset-encoding encoding.Default s = refl
reset-encoding encoding.Utf8 s =
    updates-if (is_encoding s.modes.encoding encoding.Utf8) (encoding_set encoding.Default s) s refl
reset-encoding encoding.Sgr s =
    updates-if (is_encoding s.modes.encoding encoding.Sgr) (encoding_set encoding.Default s) s refl

keep-style : (x : CursorStyle) → KeepsUpdates (sequence (0x20 ∷ []) (style_number x ∷ []) 0x71)
keep-style style.Default s = refl
keep-style x s = refl

keep-sgr : (ns : List ℕ) → AllKeep (sgr_events ns)
keep-sgr [] = tt
keep-sgr (n ∷ ns) = (λ s. refl, tt)

keep-form : (f : Form) → AllKeep (events_of f)
keep-form (Text cs) = keep-text cs
keep-form (MoveTo r c) =
    cond_both ((r == 0) && (c == 0)) (bare 0x48 ∷ []) (sequence [] ((r + 1) ∷ (c + 1) ∷ []) 0x48 ∷ []) AllKeep
    (λ _. (λ s. refl, tt)) (λ _. (λ s. refl, tt))
keep-form (MoveRight n) = keep-counted n 0x43 (λ s. refl) (λ s. refl)
keep-form (EraseChar n) = keep-counted n 0x58 (λ s. refl) (λ s. refl)
keep-form (HideCursor true) = (λ s. refl, tt)
keep-form (HideCursor false) = (λ s. refl, tt)
keep-form (Keypad true) = (λ s. refl, tt)
keep-form (Keypad false) = (λ s. refl, tt)
keep-form (CursorKeys true) = (λ s. refl, tt)
keep-form (CursorKeys false) = (λ s. refl, tt)
keep-form (Paste true) = (λ s. refl, tt)
keep-form (Paste false) = (λ s. refl, tt)
keep-form (Mouse to from) = keep-mode (mouse_number to) (mouse_number from) (set-mouse to) (reset-mouse from)
keep-form (Encoding to from) =
    keep-mode (encoding_number to) (encoding_number from) (set-encoding to) (reset-encoding from)
keep-form (Style to from) =
    cond_both (style_number to == style_number from) _ _ AllKeep (λ _. tt) (λ _. (keep-style to, tt))
keep-form (Sgr c) = keep-sgr (sgr_numbers c)
keep-form ClearScreen = (λ s. refl, (λ s. refl, tt))
keep-form Crlf = (λ s. refl, (λ s. refl, tt))
keep-form _ = (λ s. refl, tt)

keep-forms : (fs : List Form) → AllKeep (events_of_all fs)
keep-forms [] = tt
keep-forms (f ∷ fs) = keep-append (events_of f) (events_of_all fs) (keep-form f) (keep-forms fs)

keep-played : (es : List Event) (s : State) → AllKeep es → (played es s).updating ≡ s.updating
keep-played [] s h = refl
keep-played (e ∷ es) s h = keep-played es (effect e s).state h.1 ∙ h.0 s

-- ---- the events of a frame

-- an end mark without its last byte
abbrev most_of_end : List ℕ
most_of_end = 27 ∷ 91 ∷ 63 ∷ 50 ∷ 48 ∷ 50 ∷ 54 ∷ []

body-read : (fs : List Form) → AllByRecursion IsSentForm fs
    → (events 1024 (bytes_of fs) ≡ events_of_all fs) × AtGround 1024 (bytes_of fs)
body-read fs k =
    let r = list-read 1024 [] fs (ground-nothing 1024) (forms-readable fs k) in
    (sym (ground-added 1024 [] (bytes_of fs) (ground-nothing 1024)) ∙ r.0, r.1)

started : (bytes : List ℕ) → events 1024 (start_mark ++ bytes) ≡ set_event 2026 ∷ events 1024 bytes
started bytes = ground_start [] bytes

body-events : (fs : List Form) (back : List ℕ) → AllByRecursion IsSentForm fs
    → events 1024 (bytes_of fs ++ back) ≡ events_of_all fs ++ events 1024 back
body-events fs back k =
    let r = body-read fs k in
    r.1 back ∙ ap (λ (es : List Event). es ++ events 1024 back) r.0

frame-events : (fs : List Form) → AllByRecursion IsSentForm fs
    → events 1024 (framed fs) ≡ set_event 2026 ∷ (events_of_all fs ++ reset_event 2026 ∷ [])
frame-events fs k =
    started (bytes_of fs ++ end_mark)
    ∙ ap (λ (es : List Event). set_event 2026 ∷ es) (body-events fs end_mark k)

pub frame-played : (fs : List Form) (s : State) → AllByRecursion IsSentForm fs
    → played (events 1024 (framed fs)) s
    ≡ with_updating false (played (events_of_all fs) (with_updating true s))
frame-played fs s k =
    ap (λ (es : List Event). played es s) (frame-events fs k)
    ∙ played-joined (events_of_all fs) (reset_event 2026 ∷ []) (with_updating true s)

-- ---- a whole frame

module _ (z : Size) (base : Option Shown) (now : Shown) (s : State) (b : IsShotBase z base) (h : IsShot z now)
    (large : size_shown s ≡ z) (at_start : IsPlainState s) (agrees : Agrees z base (shown_of (terminal_of s))) where
  abbrev fs : List Form
  fs = body_forms z base now

  abbrev during : State
  during = with_updating true s

  abbrev ended : State
  ended = played (events_of_all fs) during

  -- the state is plain, has its size, and shows the screen that the frame was made of
  pub record HasShown (u : State) : Type 0 where
    pub size : size_shown u ≡ z
    pub plain : IsPlainState u
    pub idle : u.updating ≡ false
    pub shows : ShowsUnless (is_unsure z now) now (shown_of (terminal_of u))

  shown-by : (unsure : Bool) → is_unsure z now ≡ unsure
      → (size_shown ended ≡ z) × IsPlainState ended × ShowsUnless unsure now (shown_of (terminal_of ended))
  shown-by true e =
      let m = sent-list-played during fs at_start (shots-sent z base now b h) in
      let t = run (size_shown s) fs (terminal_of s) in
      let modes = frame-sets_modes z base now (terminal_of s) agrees in
      let there : t ≡ run z fs (terminal_of s) = ap (λ (y : Size). run y fs (terminal_of s)) large in (
        m.size ∙ large,
        m.plain,
        (
          m.modes ∙ ap (λ (x : Term). x.modes) there ∙ modes.0,
          m.style ∙ ap (λ (x : Term). x.style) there ∙ modes.1,
        ),
      )
  shown-by false e =
      let l = list-played during fs at_start (body-forms z base now (byte-base z base b) h.small h.known e) in
      let g = at_start.1 in
      let saved_row : s.shown.saved_row < z.rows = subst (λ (y : Size). s.shown.saved_row < y.rows) large g.saved_row in
      let saved_col : s.shown.saved_col ≤ z.cols = subst (λ (y : Size). s.shown.saved_col ≤ y.cols) large g.saved_col in
      let there = ap (λ (y : Size). run y fs (terminal_of s)) large in (
        l.size ∙ large,
        l.plain,
        ap shown_of (l.shows ∙ there)
            ∙ frame-leads z base now (shown_of (terminal_of s)) (base-is z base b) (shot-screen z now h e) agrees
            (saved_of (terminal_of s)) (record { in_rows = saved_row; in_cols = saved_col }),
      )

  pub frame-shown : HasShown (played (events 1024 (framed fs)) s)
  frame-shown =
      let r = shown-by (is_unsure z now) refl in
      subst HasShown (sym (frame-played fs s (shots-sent z base now b h)))
      (record { size = r.0; plain = r.1; idle = refl; shows = r.2 })

-- ---- part of a frame

begun-events : (count : ℕ) → count < 8 → events 1024 (take count start_mark) ≡ []
begun-events count h = nil_from_length _ (eqb-true _ 0
    (agree_below_at (λ k. length (events 1024 (take k start_mark)) == 0) (λ k. true) 8 count refl h))

-- of a body and an end mark that aren't whole, each event is one of the body's
part-keeps : (fs : List Form) (part left : List ℕ) → AllByRecursion IsSentForm fs
    → part ++ left ≡ bytes_of fs ++ end_mark → left ≢ [] → AllKeep (events 1024 part)
part-keeps fs part [] k e some = absurd (some refl)
part-keeps fs part (x ∷ left) k e some =
    let most = bytes_of fs ++ most_of_end in
    let whole : part ++ (x ∷ left) ≡ most ++ (108 ∷ []) =
    e ∙ sym (append_assoc (bytes_of fs) most_of_end (108 ∷ [])) in
    let sizes : length part + length (x ∷ left) ≡ length most + 1 =
    sym (length-append part (x ∷ left)) ∙ ap length whole ∙ length-append most (108 ∷ []) in
    let cut = cut_later part (x ∷ left) most (108 ∷ []) whole (omega (arith, sizes)) in
    let all : events 1024 most ≡ events_of_all fs = body-events fs most_of_end k ∙ append-nil (events_of_all fs) in
    keep-first (events 1024 part) (added 1024 part cut.0)
    (subst AllKeep
    (sym all ∙ ap (events 1024) cut.1 ∙ events-added 1024 part cut.0) (keep-forms fs))

-- while a state isn't in an update, it has read less than the start mark, and is as before
pub part-shown : (fs : List Form) (part left : List ℕ) (s : State) → AllByRecursion IsSentForm fs
    → part ++ left ≡ framed fs → left ≢ [] → (played (events 1024 part) s).updating ≡ false
    → played (events 1024 part) s ≡ s
part-shown fs part left s k e some idle = elim (cases_lt (length part) 8) [
  | inl short ↦
      let cut = cut_later part left start_mark (bytes_of fs ++ end_mark) e (omega (arith, short)) in
      let is : take (length part) start_mark ≡ part =
      ap (take (length part)) cut.1 ∙ take_at part cut.0 (length part) refl in
      ap (λ (es : List Event). played es s) (ap (events 1024) (sym is) ∙ begun-events (length part) short)
  | inr long ↦
      let cut = cut_later start_mark (bytes_of fs ++ end_mark) part left (sym e) long in
      let inside : events 1024 part ≡ set_event 2026 ∷ events 1024 cut.0 =
      ap (events 1024) cut.1 ∙ started cut.0 in
      let keeps = part-keeps fs cut.0 left k (sym cut.2) some in
      let updates : (played (events 1024 part) s).updating ≡ true =
      ap (λ (es : List Event). (played es s).updating) inside
      ∙ keep-played (events 1024 cut.0) (with_updating true s) keeps in
      absurd (contrary _ updates idle)
]
