-- What each call does to a screen, by the library's call, and the number that it returns.
use Rattle.std.specs.Prelude.{◌≡◌, ◌⊎◌, ℕ, ◌<◌, ◌*◌, ℤ, Bool, true, false, List, [], ◌∷◌, ◌++◌, length, min, Option}
use Rattle.std.specs.Prelude.{Some, None, Ok, Err, Result}
use Rattle.std.specs.Prelude.{String}
use Rattle.std.specs.Global.{Global}
use Rattle.std.specs.Prelude.{OnOk, IsOk, encode_utf8_all}
use Rattle.screen_drawing.specs.Screen as picture
use Rattle.vt100_core.specs.Grid.{IsShownWide}
use Rattle.screen_model.specs.Call.{ScreenView}
use Rattle.screen_model.specs.Holds.{AreActs}
use Rattle.screen_model.specs.Made.{Act, Fed, Resized, events_added}
use Rattle.screen_model.specs.Step.{kept_shown, resized_to}
use Rattle.vt100.specs.Goes.{GoesThrough}
use Rattle.vt100.specs.Memory.{some_may_allocate}
use Rattle.vt100.specs.Parsing.{ParserView, HasRead, ParserIsAfter}
use Rattle.vt100.specs.Texts.{text_between}
use Rattle.vt100.specs.Tries.{Tries, TriesAlone, TakesNone, SameBounds, Stops}
use Rattle.vt100.specs.Writers.{contents_formatted, state_formatted, state_diff}
use Rattle.vt100.specs.Written.{GivesRedraw, GivesDifference}
use Rattle.vt100.specs.declared.error.ScreenError.{ScreenError}
use Rattle.vt100.specs.declared.error.ScreenError.TheVariants.{Memory, Failed}
use Rattle.c_objects.specs.Codes.{ok, bad_size, memory, screen_code}
use Rattle.c_objects.specs.Hubs.{ShowsCell, ShowsRow, ShowsContents}
use Rattle.c_objects.specs.Looks.{screen_look}
use Rattle.c_objects.specs.Requests.{RequestsView, no_requests, telling, Receives, Leaves, Takes}
use Rattle.c_objects.specs.Texts.{CopiesText, Copies}
use Rattle.c_objects.specs.declared.plain.CCell.{CCell}
use Rattle.c_objects.specs.declared.plain.CLook.{CLook}
use Rattle.c_objects.specs.declared.plain.CRequest.{CRequest}
use Rattle.c_objects.specs.declared.object.Marked.{Marked}
use Rattle.c_objects.specs.declared.object.Object.{Object}
use Rattle.c_objects.specs.declared.object.Object.TheVariants.{Hub, View, Screen, Recording, Filter}

-- ---- new

-- a new screen: blank, without a mark and without requests
pub record IsNewScreen (rows cols capacity : ℕ) (m : Marked) : Type 0 where
  pub state_after : ParserIsAfter m.parser rows cols capacity []
  pub requests : m.parser.callbacks ≡ no_requests
  pub mark : m.mark ≡ None

abbrev pub IsNewScreenOf : ℕ → ℕ → ℕ → Object → Type 0
IsNewScreenOf rows cols capacity (Hub h) = ⊥
IsNewScreenOf rows cols capacity (View v) = ⊥
IsNewScreenOf rows cols capacity (Screen m) = IsNewScreen rows cols capacity m
IsNewScreenOf rows cols capacity (Recording r) = ⊥
IsNewScreenOf rows cols capacity (Filter f) = ⊥

-- ---- calls that change it

-- the parser reads bytes, with all that the library's call promises of it
pub record Reads (bytes : List ℕ) (p : ParserView RequestsView) (answer : Result (Unit {0}) ScreenError)
    (q : ParserView RequestsView) : Type 0 where
  pub alive : OnOk answer (q.screen.failed ≡ false)
  pub memory : answer ≡ Err Memory → (p.screen.failed ≡ false) × (q.screen.failed ≡ true)
  pub refused : answer ≡ Err Failed → p.screen.failed ≡ true
  pub dead : p.screen.failed ≡ true → (answer ≡ Err Failed) × (q ≡ p)
  pub reads : p.screen.failed ≡ false → (past : List ℕ) → HasRead p past → HasRead q (past ++ bytes)
  pub goes : p.screen.failed ≡ false → (past : List ℕ) → HasRead p past
      → GoesThrough Receives Leaves (events_added past bytes) p.callbacks p.screen q.callbacks q.screen
  pub made : (rows cols capacity : ℕ) (acts : List Act) → ParserIsAfter p rows cols capacity acts
      → OnOk answer (ParserIsAfter q rows cols capacity (acts ++ Fed bytes ∷ []))
  pub bounds : (rows cols capacity : ℕ) (acts : List Act) → AreActs rows cols capacity acts
      → ParserIsAfter p rows cols capacity acts → SameBounds p.screen.state q.screen.state
  pub takes : answer ≡ Err Memory → (past : List ℕ) → HasRead p past
      → some_may_allocate (events_added past bytes) p.screen.state ≡ true

abbrev pub Processes : List ℕ → Marked → ℤ → Marked → Type 0
Processes bytes m code n =
    (answer : Result (Unit {0}) ScreenError) × Reads bytes m.parser answer n.parser × (code ≡ screen_code answer)
    × (n.mark ≡ m.mark)

-- the parser's screen gets another size, with all that the library's call promises of it
pub record Resizes (rows cols : ℕ) (p : ParserView RequestsView) (answer : Result (Unit {0}) ScreenError)
    (q : ParserView RequestsView) : Type 0 where
  pub screen : Tries Leaves (resized_to rows cols) p.screen p.callbacks answer q.screen q.callbacks
  pub stops : answer ≡ Err Memory → Stops rows cols p.screen.state q.screen.state
  pub same : p.screen.failed ≡ false → rows ≡ p.screen.state.shown.height → cols ≡ p.screen.state.shown.width
      → IsOk answer
  pub smaller : p.screen.failed ≡ false → TakesNone rows cols p.screen.state → IsOk answer
  pub reader : q.reader ≡ p.reader
  pub made : (height width capacity : ℕ) (acts : List Act) → ParserIsAfter p height width capacity acts
      → OnOk answer (ParserIsAfter q height width capacity (acts ++ Resized rows cols ∷ []))

-- the mark is dropped if the resize succeeds
abbrev pub mark_after : Result (Unit {0}) ScreenError → Option ScreenView → Option ScreenView
mark_after (Ok u) mark = None
mark_after (Err e) mark = mark

abbrev pub ResizesTo : ℕ → ℕ → Marked → ℤ → Marked → Type 0
ResizesTo rows cols m code n =
    (answer : Result (Unit {0}) ScreenError) × Resizes rows cols m.parser answer n.parser × (code ≡ screen_code answer)
    × (n.mark ≡ mark_after answer m.mark)

-- a size of no cells is refused
abbrev pub ResizesMarked : ℕ → ℕ → Marked → ℤ → Marked → Type 0
ResizesMarked rows cols m code n =
    ((rows * cols ≡ 0) × (code ≡ bad_size) × (n ≡ m)) ⊎ ((0 < rows) × (0 < cols) × ResizesTo rows cols m code n)

-- some kept rows of the screen v are shown, which takes it to w, with all that the library's call promises of it
pub record Scrolls (rows : ℕ) (v : ScreenView) (answer : Result (Unit {0}) ScreenError) (w : ScreenView) : Type 0 where
  pub tries : TriesAlone (kept_shown rows) v answer w
  pub bounds : SameBounds v.state w.state
  pub hidden : v.failed ≡ false → rows ≡ 0 → IsOk answer
  pub wide : v.failed ≡ false
      → IsShownWide (record (v.state.shown.kept) { offset = min rows (length v.state.shown.kept.rows) })
      v.state.shown.height v.state.shown.width → IsOk answer

-- the object with this screen, and otherwise as it was
abbrev pub with_screen : Marked → ScreenView → Marked
with_screen m w = record m { parser = record (m.parser) { screen = w } }

abbrev pub ScrollsMarked : ℕ → Marked → ℤ → Marked → Type 0
ScrollsMarked rows m code n =
    (answer : Result (Unit {0}) ScreenError) × Scrolls rows m.parser.screen answer n.parser.screen
    × (code ≡ screen_code answer) × (n ≡ with_screen m n.parser.screen)

-- the screen is marked as it is now
abbrev pub Marks : Marked → ℤ → Marked → Type 0
Marks m code n =
    ((code ≡ ok) × (n ≡ record m { mark = Some (m.parser.screen) })) ⊎ ((code ≡ memory) × (n ≡ m))

-- the object with this queue, and otherwise as it was
abbrev pub with_requests : Marked → RequestsView → Marked
with_requests m q = record m { parser = record (m.parser) { callbacks = q } }

-- sets whether the queue gets what the screen doesn't know from now on, and whether it gets rows that leave for good
abbrev pub Tells : Bool → Bool → Marked → ℤ → Marked → Type 0
Tells unknown rows m code n = (code ≡ ok) × (n ≡ with_requests m (telling unknown rows m.parser.callbacks))

-- the oldest request is copied
abbrev pub TellsOldest : List ℕ → List ℕ → CRequest → Marked → ℤ → Marked → Type 0
TellsOldest old new reported m code n =
    Takes old new reported m.parser.callbacks code n.parser.callbacks × (n ≡ with_requests m n.parser.callbacks)

-- ---- calls that read it

abbrev pub Looks : CLook → Marked → ℤ → Type 0
Looks look m code = (code ≡ ok) × (look ≡ screen_look (m.parser.screen))

abbrev pub HasCell : ℕ → ℕ → CCell → Marked → ℤ → Type 0
HasCell row col cell m code = ShowsCell (m.parser.screen) row col cell code

abbrev pub HasRow : ℕ → List ℕ → List ℕ → ℕ → Marked → ℤ → Type 0
HasRow row old new count m code = ShowsRow (m.parser.screen) row old new count code

abbrev pub HasContents : List ℕ → List ℕ → ℕ → Marked → ℤ → Type 0
HasContents old new count m code = ShowsContents (m.parser.screen) old new count code

abbrev pub HasBetween : ℕ × ℕ → ℕ × ℕ → List ℕ → List ℕ → ℕ → Marked → ℤ → Type 0
HasBetween start end old new count m code =
    CopiesText (encode_utf8_all (text_between m.parser.screen.state.shown start.0 start.1 end.0 end.1)) old new count
    code

-- a text that the library's call gives is copied
abbrev pub CopiesGiven : (Result (String Global) ScreenError → Type 0) → List ℕ → List ℕ → ℕ → ℤ → Type 0
CopiesGiven Gives old new count code =
    (text : Result (String Global) ScreenError) × Gives text × Copies text old new count code

abbrev pub HasFormatted : List ℕ → List ℕ → ℕ → Marked → ℤ → Type 0
HasFormatted old new count m code =
    CopiesGiven (GivesRedraw contents_formatted picture.contents_formatted 512 (m.parser.screen.state)) old new count
    code

abbrev pub HasState : List ℕ → List ℕ → ℕ → Marked → ℤ → Type 0
HasState old new count m code =
    CopiesGiven (GivesRedraw state_formatted picture.state_formatted 1008 (m.parser.screen.state)) old new count code

-- the bytes take a terminal from what the mark shows; without a mark they are those of the whole state
abbrev pub DiffersFrom : Option ScreenView → List ℕ → List ℕ → ℕ → Marked → ℤ → Type 0
DiffersFrom None old new count m code = HasState old new count m code
DiffersFrom (Some mark) old new count m code =
    CopiesGiven (GivesDifference state_diff picture.state_diff 1008 (mark.state) (m.parser.screen.state)) old new count
    code

abbrev pub HasDifference : List ℕ → List ℕ → ℕ → Marked → ℤ → Type 0
HasDifference old new count m code = DiffersFrom (m.mark) old new count m code
