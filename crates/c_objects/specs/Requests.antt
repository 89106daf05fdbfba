-- The queue of what a program asks of its terminal beyond drawing.
use Rattle.std.specs.Prelude.{◌≡◌, ◌⊎◌, ◌<◌, ◌≤◌, ◌+◌, ℕ, ℤ, pos, nat_le, Bool, true, false, List, [], ◌∷◌, ◌++◌}
use Rattle.std.specs.Prelude.{length, min, sum_by, codes, encode_utf8, Option, Some, None}
use Rattle.std.specs.Prelude.{if◌then◌else◌}
use Rattle.std.specs.List.{join_by}
use Rattle.vte_core.specs.ParamsText.{groups_text}
use Rattle.vt100_forms.specs.Attrs.{default_attrs}
use Rattle.vt100_rows.specs.Row.{RowView}
use Rattle.vt100_rows.specs.Basic.{basic_text}
use Rattle.screen_model.specs.Call.{Call, ScreenView, audible_bell, visual_bell, resize, set_window_icon_name}
use Rattle.screen_model.specs.Call.{set_window_title, copy_to_clipboard, paste_from_clipboard, unhandled_char}
use Rattle.screen_model.specs.Call.{unhandled_control, unhandled_escape, unhandled_csi, unhandled_osc}
use Rattle.c_objects.specs.Texts.{with_prefix}
use Rattle.c_objects.specs.declared.plain.CRequest.{CRequest}

-- A request: its kind; the rows and columns that are asked for; how many bytes of the text are letters of clipboards,
-- or intermediates; the text.
pub record RequestView : Type 0 where
  pub kind : ℕ
  pub rows : ℕ
  pub cols : ℕ
  pub letters : ℕ
  pub text : List ℕ

-- The waiting requests, the oldest first; how many requests weren't queued; whether what the screen doesn't know is
-- queued, and whether rows that leave it for good are queued.
pub record RequestsView : Type 0 where
  pub waiting : List RequestView
  pub dropped : ℕ
  pub tells_unknown : Bool
  pub tells_rows : Bool

abbrev pub no_requests : RequestsView
no_requests = record { waiting = []; dropped = 0; tells_unknown = false; tells_rows = false }

-- sets whether what the screen doesn't know is queued from now on, and whether rows that leave for good are
abbrev pub telling : Bool → Bool → RequestsView → RequestsView
telling unknown rows q = record q { tells_unknown = unknown; tells_rows = rows }

-- ---- what is queued

abbrev pub of_kind : ℕ → List ℕ → RequestView
of_kind kind text = record { kind = kind; rows = 0; cols = 0; letters = 0; text = text }

-- a text that follows letters of clipboards, or intermediates
abbrev pub behind : ℕ → List ℕ → List ℕ → RequestView
behind kind letters text = record (of_kind kind (letters ++ text)) { letters = length letters }

-- the first two intermediates of a sequence, as far as there are any
abbrev pub intermediates : Option ℕ → Option ℕ → List ℕ
intermediates None second = []
intermediates (Some i) None = i ∷ []
intermediates (Some i) (Some j) = i ∷ j ∷ []

-- a control sequence without its intermediates: its parameters, as written there, and its final byte
abbrev pub csi_text : List (List ℕ) → ℕ → List ℕ
csi_text groups final = groups_text groups ++ encode_utf8 final

-- an operating system command: its pieces, joined by `;`
abbrev pub osc_text : List (List ℕ) → List ℕ
osc_text pieces = join_by (λ (p : List ℕ). p) (codes ";") pieces

-- a row that leaves for good: its text with its attributes, and a newline where it doesn't go on in the next row
abbrev pub left_text : RowView → List ℕ
left_text row = basic_text row default_attrs ++ (if row.wrapped then [] else 10 ∷ [])

-- the request for a row that leaves the main screen, or the alternate one
abbrev pub row_request : RowView → Bool → RequestView
row_request row alternate = of_kind (if alternate then 14 else 13) (left_text row)

-- the request r fits into the queue q, and becomes the newest one
pub record Gets (q : RequestsView) (r : RequestView) (new : RequestsView) : Type 0 where
  pub room : length q.waiting < 256
  pub short : length r.text ≤ 1021
  pub new_is : new ≡ record q { waiting = q.waiting ++ r ∷ [] }

-- how many bytes the texts of requests have together
abbrev pub text_bytes : List RequestView → ℕ
text_bytes waiting = sum_by (λ (r : RequestView). length r.text) waiting

-- The room for 4,096 bytes of texts is allocated when the screen is created. This text and those that wait have more
-- bytes, so memory for this one may be refused.
abbrev pub MayWantMemory : List RequestView → List ℕ → Type 0
MayWantMemory waiting text = 4096 < text_bytes waiting + length text

-- a request with this text may find no place after those that wait: the queue is full, the text is too long, or
-- memory for it may be refused
abbrev pub HasNoPlace : List RequestView → List ℕ → Type 0
HasNoPlace waiting text = (256 ≤ length waiting) ⊎ (1021 < length text) ⊎ MayWantMemory waiting text

-- one more is counted as dropped; the count stops at the greatest number of 64 bits
abbrev pub one_dropped : RequestsView → RequestsView
one_dropped q = record q { dropped = min (q.dropped + 1) 18446744073709551615 }

-- the request is queued, or it finds no place and is counted as dropped
abbrev pub Queues : RequestsView → RequestView → RequestsView → Type 0
Queues q r new = Gets q r new ⊎ (HasNoPlace q.waiting r.text × (new ≡ one_dropped q))

-- a request about something that the screen doesn't know: it is queued or counted as dropped if the queue takes such
-- requests, and ignored otherwise
abbrev pub Told : Bool → RequestsView → RequestView → RequestsView → Type 0
Told true q r new = Queues q r new
Told false q r new = new ≡ q

-- a request for a row: if the queue takes rows it is queued, however many wait, or it is counted as dropped;
-- otherwise it is ignored
abbrev pub ToldRow : Bool → RequestsView → RequestView → RequestsView → Type 0
ToldRow true q r new = (new ≡ record q { waiting = q.waiting ++ r ∷ [] }) ⊎ (new ≡ one_dropped q)
ToldRow false q r new = new ≡ q

-- what a callback of the screen does to the queue
abbrev pub ReceivesCall : RequestsView → Call → RequestsView → Type 0
ReceivesCall q audible_bell new = Queues q (of_kind 1 []) new
ReceivesCall q visual_bell new = Queues q (of_kind 2 []) new
ReceivesCall q (resize rows cols) new = Queues q (record (of_kind 3 []) { rows = rows; cols = cols }) new
ReceivesCall q (set_window_icon_name text) new = Queues q (of_kind 4 text) new
ReceivesCall q (set_window_title text) new = Queues q (of_kind 5 text) new
ReceivesCall q (copy_to_clipboard letters base64) new = Queues q (behind 6 letters base64) new
ReceivesCall q (paste_from_clipboard letters) new = Queues q (behind 7 letters []) new
ReceivesCall q (unhandled_char c) new = Told q.tells_unknown q (of_kind 8 (encode_utf8 c)) new
ReceivesCall q (unhandled_control b) new = Told q.tells_unknown q (of_kind 9 (b ∷ [])) new
ReceivesCall q (unhandled_escape i j final) new =
    Told q.tells_unknown q (behind 10 (intermediates i j) (final ∷ [])) new
ReceivesCall q (unhandled_csi i j groups final) new =
    Told q.tells_unknown q (behind 11 (intermediates i j) (csi_text groups final)) new
ReceivesCall q (unhandled_osc pieces) new = Told q.tells_unknown q (of_kind 12 (osc_text pieces)) new

-- a callback changes the queue from q to `new`; the screen stays as it is
abbrev pub Receives : RequestsView → ScreenView → Call → RequestsView → ScreenView → Type 0
Receives q v call new w = (w ≡ v) × ReceivesCall q call new

-- a row that leaves for good changes the queue from q to `new`
abbrev pub Leaves : RequestsView → RowView → Bool → RequestsView → Type 0
Leaves q row alternate new = ToldRow q.tells_rows q (row_request row alternate) new

-- ---- what is taken out

-- a request as C reads it, with the number of requests that were dropped so far
abbrev pub reported_of : RequestView → ℕ → CRequest
reported_of r dropped = record {
  length = length r.text;
  letters = r.letters;
  dropped = dropped;
  rows = r.rows;
  cols = r.cols;
  kind = r.kind;
}

-- the oldest of these requests is copied
abbrev pub TellsFirst : List RequestView → List ℕ → List ℕ → CRequest → ℕ → ℤ → Type 0
TellsFirst [] old new reported dropped code =
    (code ≡ pos 0) × (reported ≡ reported_of (of_kind 0 []) dropped) × (new ≡ old)
TellsFirst (r ∷ rs) old new reported dropped code =
    (code ≡ pos r.kind) × (reported ≡ reported_of r dropped) × (new ≡ with_prefix r.text old)

-- the requests that still wait afterwards: the oldest is removed if its text fits
abbrev pub left_waiting : List RequestView → List ℕ → List RequestView
left_waiting [] old = []
left_waiting (r ∷ rs) old = if nat_le (length r.text) (length old) then rs else r ∷ rs

abbrev pub Takes : List ℕ → List ℕ → CRequest → RequestsView → ℤ → RequestsView → Type 0
Takes old new reported q code after =
    TellsFirst q.waiting old new reported q.dropped code × (after ≡ record q { waiting = left_waiting q.waiting old })
