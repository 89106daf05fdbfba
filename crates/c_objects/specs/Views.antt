-- What each call does to a view, by the library's call, and the number that it returns.
use Rattle.std.specs.Prelude.{◌≡◌, ℕ, ◌≤◌, ℤ, List, [], ◌++◌, length, Option, None, MatchOption, encode_utf8_all}
use Rattle.vte.specs.Timeout.{IsExact}
use Rattle.vte.specs.Hold.{held_of}
use Rattle.termview.specs.Standing.{ViewIsAfter, HoldsAt, Advanced, Taken, Emptied, view_size, shown_by}
use Rattle.termview.specs.Seen.{cell_shown, text_shown}
use Rattle.termview.specs.Timeout.{until_cleared}
use Rattle.termview.specs.declared.until_cleared.UntilCleared.{UntilCleared}
use Rattle.termview.specs.declared.view.View as declared
use Rattle.c_objects.specs.Codes.{ok, no_cell}
use Rattle.c_objects.specs.Texts.{CopiesText}
use Rattle.c_objects.specs.Looks.{cell_of, view_look}
use Rattle.c_objects.specs.declared.plain.CCell.{CCell}
use Rattle.c_objects.specs.declared.plain.CLook.{CLook}
use Rattle.c_objects.specs.declared.object.Object.{Object}
use Rattle.c_objects.specs.declared.object.Object.TheVariants.{Hub, View, Screen, Recording, Filter}

abbrev pub ViewState : Type 0
ViewState = declared.View UntilCleared

-- ---- new

-- a fresh view, which holds nothing back
pub record IsNewView (rows cols : ℕ) (v : ViewState) : Type 0 where
  pub state_after : ViewIsAfter v [] []
  pub holds : HoldsAt until_cleared v [] None
  pub rows_are : (view_size v).rows ≡ rows
  pub cols_are : (view_size v).cols ≡ cols

abbrev pub IsNewViewOf : ℕ → ℕ → Object → Type 0
IsNewViewOf rows cols (Hub h) = ⊥
IsNewViewOf rows cols (View v) = IsNewView rows cols v
IsNewViewOf rows cols (Screen m) = ⊥
IsNewViewOf rows cols (Recording r) = ⊥
IsNewViewOf rows cols (Filter f) = ⊥

-- ---- calls that change it

-- the view reads a piece of the stream
pub record Advances (bytes : List ℕ) (v : ViewState) (code : ℤ) (w : ViewState) : Type 0 where
  pub code_is : code ≡ ok
  pub advanced : (parsed held : List ℕ) → ViewIsAfter v parsed held → Advanced until_cleared v parsed held bytes w
  pub exact : (parsed : List ℕ) (hold : Option (List ℕ)) → IsExact until_cleared → HoldsAt until_cleared v parsed hold
      → Taken until_cleared v parsed hold bytes w

-- the view parses the bytes that it holds back
pub record Stops (v : ViewState) (code : ℤ) (w : ViewState) : Type 0 where
  pub code_is : code ≡ ok
  pub emptied : (parsed held : List ℕ) → ViewIsAfter v parsed held → Emptied until_cleared v parsed held w
  pub exact : (parsed : List ℕ) (hold : Option (List ℕ)) → IsExact until_cleared → HoldsAt until_cleared v parsed hold
      → HoldsAt until_cleared w (parsed ++ held_of hold) None

-- ---- calls that read it

-- how many bytes the view holds back
pub record Holds (count : ℕ) (v : ViewState) (code : ℤ) : Type 0 where
  pub code_is : code ≡ ok
  pub count_is : (parsed held : List ℕ) → ViewIsAfter v parsed held → count ≡ length held
  pub most : count ≤ 2097150

abbrev pub Looks : CLook → ViewState → ℤ → Type 0
Looks look v code = (code ≡ ok) × (look ≡ view_look v)

abbrev pub HasCell : ℕ → ℕ → CCell → ViewState → ℤ → Type 0
HasCell row col cell v code =
    MatchOption (cell_shown (view_size v) (shown_by v) row col) (code ≡ no_cell)
    (λ x. (code ≡ ok) × (cell ≡ cell_of x))

abbrev pub HasRow : ℕ → List ℕ → List ℕ → ℕ → ViewState → ℤ → Type 0
HasRow row old new count v code =
    CopiesText (encode_utf8_all (text_shown (view_size v) (shown_by v) row)) old new count code
