-- What a state and a view show of the same bytes.
use Rattle.std.specs.Prelude.{ℕ, ◌≡◌, ◌<◌, ◌^◌, List, [], ◌∷◌, ◌++◌}
use Rattle.std.specs.List.{AllByRecursion}
use Rattle.vte_core.specs.Ground.{AtGround}
use Rattle.vt100_forms.specs.Form.{Form, bytes_of}
use Rattle.terminal_model.specs.Term.{Size}
use Rattle.terminal_model.specs.FormText.{IsForm, IsSentForm}
use Rattle.screen_model.specs.State.{State, fresh_state}
use Rattle.screen_model.specs.Made.{Act, Fed, bytes_fed, made_on, made}
use Rattle.screen_view_laws.specs.Plain.{terminal_of, size_shown, IsPlainState}
use Rattle.termview.specs.Seen.{seen}

-- the state is plain, and shows the same as a view of this size after the bytes `parsed`, the saved cursor and
-- attributes included
pub record ShowsAlike (z : Size) (s : State) (parsed : List ℕ) : Type 0 where
  pub size : size_shown s ≡ z
  pub plain : IsPlainState s
  pub shows : terminal_of s ≡ seen z parsed

-- the state is plain, and has the same size, modes and cursor style as the view
pub record AgreesInModes (z : Size) (s : State) (parsed : List ℕ) : Type 0 where
  pub size : size_shown s ≡ z
  pub plain : IsPlainState s
  pub modes : s.modes ≡ (seen z parsed).modes
  pub style : s.style ≡ (seen z parsed).style

-- a new state and a new view of the same size show the same
abbrev pub NewOnesAgree : Type 0
NewOnesAgree = (rows cols capacity : ℕ) → 0 < rows → rows < 2 ^ 16 → 0 < cols → cols < 2 ^ 16
    → ShowsAlike (record { rows = rows; cols = cols }) (fresh_state rows cols capacity) []

-- the state is at ground after `past`, and the view after `parsed`; both are there again after the forms
abbrev pub EachWrittenFormIsAgreedOn : Type 0
EachWrittenFormIsAgreedOn = (z : Size) (past : List ℕ) (s : State) (parsed : List ℕ) (fs : List Form)
    → AtGround 1024 past → AtGround 1024 parsed → ShowsAlike z s parsed → AllByRecursion IsForm fs
    → ShowsAlike z (made_on past s (Fed (bytes_of fs) ∷ [])) (parsed ++ bytes_of fs)
    × AtGround 1024 (past ++ bytes_of fs) × AtGround 1024 (parsed ++ bytes_of fs)

-- The same holds for the state after a parser's feeds and resizes, whose past is all the bytes that were fed.
abbrev pub EachFeedIsAgreedOn : Type 0
EachFeedIsAgreedOn = (z : Size) (rows cols capacity : ℕ) (acts : List Act) (parsed : List ℕ) (fs : List Form)
    → AtGround 1024 (bytes_fed acts) → AtGround 1024 parsed → ShowsAlike z (made rows cols capacity acts) parsed
    → AllByRecursion IsForm fs
    → ShowsAlike z (made rows cols capacity (acts ++ Fed (bytes_of fs) ∷ [])) (parsed ++ bytes_of fs)
    × AtGround 1024 (bytes_fed (acts ++ Fed (bytes_of fs) ∷ [])) × AtGround 1024 (parsed ++ bytes_of fs)

-- a state and a view that show the same have the same modes and style
abbrev pub AgreeingModes : Type 0
AgreeingModes = (z : Size) (s : State) (parsed : List ℕ) → ShowsAlike z s parsed → AgreesInModes z s parsed

-- a state and a view with the same modes and style keep the same ones after forms whose texts may have U+FE0F
abbrev pub EachSentWrittenFormIsAgreedOn : Type 0
EachSentWrittenFormIsAgreedOn = (z : Size) (past : List ℕ) (s : State) (parsed : List ℕ) (fs : List Form)
    → AtGround 1024 past → AtGround 1024 parsed → AgreesInModes z s parsed → AllByRecursion IsSentForm fs
    → AgreesInModes z (made_on past s (Fed (bytes_of fs) ∷ [])) (parsed ++ bytes_of fs)
    × AtGround 1024 (past ++ bytes_of fs) × AtGround 1024 (parsed ++ bytes_of fs)
