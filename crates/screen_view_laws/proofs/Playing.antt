-- The effect of forms, of lists of forms, and of their bytes on a plain state.
use Rattle.std.proofs.Common.{◌≡◌, true, List, [], ◌∷◌, ◌++◌, refl, sym, ap}
use Rattle.vte_core.specs.Event.{Event}
use Rattle.vte_core.specs.Added.{added}
use Rattle.vt100_forms.specs.Form.{Text, MoveTo, MoveRight, EraseChar, ClearRowForward, ClearScreen}
use Rattle.vt100_forms.specs.Form.{Crlf, Lf, Backspace, SaveCursor, RestoreCursor, HideCursor, Keypad, CursorKeys}
use Rattle.vt100_forms.specs.Form.{Paste, Mouse, Encoding, Style, Sgr, bytes_of}
use Rattle.terminal_model.specs.Apply.{apply, run}
use Rattle.terminal_model.proofs.FormTexts.{forms-sent}
use Rattle.forms_read.specs.Events.{events_of, events_of_all}
use Rattle.forms_read.proofs.ReadForms.{list-read}
use Rattle.forms_read.proofs.SentTexts.{forms-readable}
use Rattle.screen_model.specs.State.{State}
use Rattle.screen_model.specs.Effect.{effect}
use Rattle.screen_model.specs.Made.{played, events_added}
use Rattle.screen_view_laws.specs.Plain.{terminal_of, size_shown}
use Rattle.screen_view_laws.specs.StateLaws.{EachFormIsPlayed, EachListIsPlayed, EachWrittenFormIsMade}
use Rattle.screen_view_laws.proofs.PlainStates.{shows-at, shows-same, shows-then}
use Rattle.screen_view_laws.proofs.Cursors.{shows-MoveTo, shows-MoveRight, shows-Backspace, shows-SaveCursor}
use Rattle.screen_view_laws.proofs.Cursors.{shows-RestoreCursor}
use Rattle.screen_view_laws.proofs.Modes.{shows-Mouse, shows-Encoding, shows-Style}
use Rattle.screen_view_laws.proofs.Attributes.{shows-Sgr}
use Rattle.screen_view_laws.proofs.Erasures.{shows-EraseChar, shows-ClearRowForward, shows-ClearScreen}
use Rattle.screen_view_laws.proofs.Feeds.{shows-Lf, shows-Crlf}
use Rattle.screen_view_laws.proofs.Texts.{shows-Text}

pub form-played : EachFormIsPlayed
unfolding apply
form-played s (Text cs) h f = shows-Text s cs h f.0
form-played s (MoveTo r c) h f = shows-MoveTo s r c h
form-played s (MoveRight n) h f = shows-MoveRight s n h
form-played s (EraseChar n) h f = shows-EraseChar s n h
form-played s ClearRowForward h f = shows-ClearRowForward s h
form-played s ClearScreen h f = shows-ClearScreen s h
form-played s Crlf h f = shows-Crlf s h
form-played s Lf h f = shows-Lf s h
form-played s Backspace h f = shows-Backspace s h
form-played s SaveCursor h f = shows-SaveCursor s h
form-played s RestoreCursor h f = shows-RestoreCursor s h
form-played s (HideCursor true) h f = record { shows = refl; size = refl; plain = h }
form-played s (Keypad true) h f = record { shows = refl; size = refl; plain = h }
form-played s (CursorKeys true) h f = record { shows = refl; size = refl; plain = h }
form-played s (Paste true) h f = record { shows = refl; size = refl; plain = h }
form-played s (Mouse to from) h f = shows-Mouse s to from h
form-played s (Encoding to from) h f = shows-Encoding s to from h
form-played s (Style to from) h f = shows-Style s to from h
form-played s (Sgr c) h f = shows-Sgr s c h f.1.0 f.1.1
form-played s x h f = record { shows = refl; size = refl; plain = h }

pub played-joined : (es gs : List Event) (s : State) → played (es ++ gs) s ≡ played gs (played es s)
played-joined [] gs s = refl
played-joined (e ∷ es) gs s = played-joined es gs (effect e s).state

pub list-played : EachListIsPlayed
list-played s [] h f = shows-same s h
list-played s (x ∷ fs) h f =
    let u = played (events_of x) s in
    let one = form-played s x h f.0 in
    let v = played (events_of_all fs) u in
    let t = run (size_shown s) fs (apply (size_shown s) x (terminal_of s)) in
    let w = run (size_shown u) fs (terminal_of u) in
    shows-at s (played (events_of x ++ events_of_all fs) s) v t w (played-joined (events_of x) (events_of_all fs) s)
    (sym (λ i. run (one.size i) fs (one.shows i)))
    (shows-then s u v (apply (size_shown s) x (terminal_of s)) w one (list-played u fs one.plain f.1))

pub written_form-made : EachWrittenFormIsMade
unfolding added
written_form-made past s fs g h f =
    let r = list-read 1024 past fs g (forms-readable fs (forms-sent fs f)) in
    let t = run (size_shown s) fs (terminal_of s) in (
      shows-at s (played (events_added past (bytes_of fs)) s) (played (events_of_all fs) s) t t
          (ap (λ es. played es s) r.0) refl (list-played s fs h f),
      r.1,
    )
