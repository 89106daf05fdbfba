-- The length of frames, and of the pending bytes.
use Rattle.std.proofs.Common.{◌≡◌, ℕ, Bool, true, false, List, [], ◌∷◌, ◌++◌, length, Option, IfSome, sym, ap}
use Rattle.std.proofs.Common.{subst, arith, length-append}
use Rattle.std.specs.List.{AllByRecursion}
use Rattle.std.specs.Prelude.{if◌then◌else◌}
use Rattle.terminal_model.specs.Term.{Size}
use Rattle.termrelay.specs.Frame.{IsShortFrame}
use Rattle.termrelay.specs.Answers.{ClientState, is_frame}
use Rattle.termrelay.specs.Hub.{clients_in}
use Rattle.relay_theorem.specs.History.{Entry, Story, size_of_story}
use Rattle.relay_theorem.specs.Laws.{last_text, IsReported}
use Rattle.relay_theorem.specs.Bounds.{EachSessionIsBounded, EachFrameFitsTheHold, NoSmallFrameIsTooLong}
use Rattle.relay_theorem.proofs.HistoryLemmas.{sessions-reported}
use Rattle.relay_theorem.proofs.HeadlineLemmas.{entries-short, entries-fit, entries-made}

-- the pending bytes are a suffix of the last frame's text
text-short : (z : Size) (frame : Bool) (text : List ℕ) (e : Entry) → IsShortFrame z text → IsShortFrame z e.text
    → IsShortFrame z (if frame then e.text else text)
text-short z true text e h k = k
text-short z false text e h k = h

last-short : (z : Size) (text : List ℕ) (es : List Entry) → IsShortFrame z text
    → AllByRecursion (λ e. IsShortFrame z e.text) es → IsShortFrame z (last_text text es)
last-short z text [] h k = h
last-short z text (e ∷ es) h k =
    last-short z (if is_frame e.answer then e.text else text) es (text-short z (is_frame e.answer) text e h k.0) k.1

owed-short : (z : Size) (read owed last : List ℕ) → read ++ owed ≡ last → IsShortFrame z last → IsShortFrame z owed
owed-short z read owed last is h = omega (arith, length-append read owed, ap length is, h)

-- the bytes that wait for a session's client
client-short : (rows cols : ℕ) (clients : ℕ → Option ClientState) (t : Story) → IsReported rows cols clients t
    → AllByRecursion (λ e. IsShortFrame (size_of_story t) e.text) t.entries → t.session.ended ≡ false
    → IfSome (clients t.session.client) (λ c. IsShortFrame (size_of_story t) c.owed)
client-short rows cols clients t h short live =
    let z = size_of_story t in
    let served = h.served live in
    let c = served.0 in
    let last = last-short z [] t.entries (omega arith) short in
    subst (λ (o : Option ClientState). IfSome o (λ k. IsShortFrame z k.owed)) (sym served.1)
    (owed-short z served.2.read c.owed (last_text [] t.entries) served.2.owed last)

pub sessions-bounded : EachSessionIsBounded
sessions-bounded rows cols calls replies n t s =
    let h = sessions-reported rows cols calls replies n t s in
    let short = entries-short rows cols (size_of_story t) h.height h.width t.entries h.entries in
    (short, client-short rows cols (clients_in s.hub) t h short)

-- ---- the hold

pub frames-fit : EachFrameFitsTheHold
frames-fit rows cols calls replies n t s =
    let h = sessions-reported rows cols calls replies n t s in
    entries-fit rows cols (size_of_story t) h.height h.width t.entries h.entries

pub small-made : NoSmallFrameIsTooLong
small-made rows cols calls replies n t s few =
    let h = sessions-reported rows cols calls replies n t s in
    entries-made rows cols (size_of_story t) h.height h.width few t.entries h.entries
