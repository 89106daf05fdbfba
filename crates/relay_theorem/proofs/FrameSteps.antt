-- A view that has read a frame shows the screen that the frame was made of.
use Rattle.std.proofs.Common.{◌≡◌, ◌∙◌, ℕ, ◌<◌, ◌≤◌, Bool, true, false, List, ◌++◌, Option, Some, None, refl, sym, ap}
use Rattle.std.proofs.Common.{subst}
use Rattle.vte_core.specs.Ground.{AtGround}
use Rattle.vte.specs.Frames.{IsFrame}
use Rattle.terminal_model.specs.Term.{Size, Shown, Term, saved_of, shown_of}
use Rattle.terminal_model.specs.Apply.{run}
use Rattle.terminal_model.specs.FormText.{AreSentForms}
use Rattle.forms_read.specs.Terminals.{IsSmall}
use Rattle.termrelay.specs.Frame.{is_unsure, body_forms, frame_text, ShowsUnless, Agrees, HasByteBase}
use Rattle.termrelay.proofs.BodyForms.{body-sent}
use Rattle.termrelay.proofs.FrameLemmas.{frame-leads, frame-sets_modes}
use Rattle.termview.specs.Seen.{seen}
use Rattle.termview.proofs.KeptTerms.{streams-show}
use Rattle.relay_theorem.proofs.ScreenLemmas.{IsShot, shot-screen, IsShotBase, base-is}
use Rattle.termview.specs.FormFrames.{framed}
use Rattle.termview.proofs.FramedForms.{forms-framed, frame-shows, frame-finishes}

-- ---- the forms of a frame can be sent

pub byte-base : (z : Size) (base : Option Shown) → IsShotBase z base → HasByteBase base
byte-base z None h = tt
byte-base z (Some base) h = h.small.attrs

pub shots-sent : (z : Size) (base : Option Shown) (now : Shown) → IsShotBase z base → IsShot z now
    → AreSentForms (body_forms z base now)
shots-sent z base now b h =
    body-sent z base now (byte-base z base b) h.small h.known

-- ---- so a frame is one

text-framed : (z : Size) (base : Option Shown) (now : Shown) → frame_text z base now ≡ framed (body_forms z base now)
text-framed z base now = refl

pub text-frame : (z : Size) (base : Option Shown) (now : Shown) → IsShotBase z base → IsShot z now
    → IsFrame (frame_text z base now)
text-frame z base now b h =
    subst IsFrame (sym (text-framed z base now)) (forms-framed (body_forms z base now) (shots-sent z base now b h))

-- ---- what is shown after it

shows-by : (z : Size) (base : Option Shown) (now : Shown) (t : Term) (unsure : Bool) → is_unsure z now ≡ unsure
    → IsShotBase z base → IsShot z now → (0 < z.rows) × (0 < z.cols) → t.saved_row < z.rows → t.saved_col ≤ z.cols
    → Agrees z base (shown_of t) → ShowsUnless unsure now (shown_of (run z (body_forms z base now) t))
shows-by z base now t true e b h some r k agrees = frame-sets_modes z base now t agrees
shows-by z base now t false e b h some r k agrees =
    frame-leads z base now (shown_of t) (base-is z base b) (shot-screen z now h e) agrees (saved_of t)
    (record { in_rows = r; in_cols = k })

pub frame-read : (z : Size) (past : List ℕ) (base : Option Shown) (now : Shown) → IsSmall z → IsShotBase z base
    → IsShot z now → AtGround 1024 past → Agrees z base (shown_of (seen z past))
    → Agrees z (Some now) (shown_of (seen z (past ++ frame_text z base now)))
frame-read z past base now small b h g agrees =
    let fs = body_forms z base now in
    let t = seen z past in
    let some_row = h.small.shown.some_row in
    let some_col = h.small.shown.some_col in
    let saved = streams-show z past some_row some_col in
    let is : seen z (past ++ frame_text z base now) ≡ run z fs t =
    ap (λ xs. seen z (past ++ xs)) (text-framed z base now)
    ∙ frame-shows z past fs some_row some_col small g (shots-sent z base now b h) in
    subst (λ u. ShowsUnless (is_unsure z now) now (shown_of u)) (sym is)
    (shows-by z base now t (is_unsure z now) refl b h (some_row, some_col) saved.saved_in_rows saved.saved_in_cols
    agrees)

pub frame-ends : (z : Size) (past : List ℕ) (base : Option Shown) (now : Shown)
    → AtGround 1024 (past ++ frame_text z base now)
frame-ends z past base now =
    subst (λ (xs : List ℕ). AtGround 1024 (past ++ xs)) (sym (text-framed z base now))
    (frame-finishes past (body_forms z base now))
