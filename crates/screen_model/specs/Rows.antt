-- Whole terminals, for worked examples.
use Rattle.std.specs.Prelude.{ℕ, List, [], ◌∷◌, ◌++◌, codes}
use Rattle.vte_core.specs.Event.{Event}
use Rattle.vte_core.specs.Shapes.{events}
use Rattle.vt100_cells.specs.Cell.{CellView}
use Rattle.vt100_cells.specs.Cells.{cell_at}
use Rattle.vt100_rows.specs.Text.{row_text}
use Rattle.vt100_core.specs.Grid.{visible_at}
use Rattle.screen_model.specs.State.{State, fresh_state}
use Rattle.screen_model.specs.Call.{Call}
use Rattle.screen_model.specs.Effect.{effect}
use Rattle.screen_model.specs.Made.{Act, Fed, Resized, made}

-- ESC, and what follows it
abbrev pub esc : List ℕ → List ℕ
esc cs = 0x1B ∷ cs

-- a new terminal that keeps no rows, after these bytes
abbrev pub shown_by : ℕ → ℕ → List ℕ → State
shown_by rows cols bytes = made rows cols 0 (Fed bytes ∷ [])

-- the cell at a place, and the text of a row
abbrev pub cell_shown : State → ℕ → ℕ → CellView
cell_shown s r c = cell_at (visible_at s.shown r).cells c

abbrev pub text_shown : State → ℕ → List ℕ
text_shown s r = row_text (visible_at s.shown r) 0 s.shown.width

-- the calls of events, if no callback changes the state
abbrev pub calls_made : List Event → State → List Call
calls_made [] s = []
calls_made (e ∷ es) s = (effect e s).calls ++ calls_made es (effect e s).state

abbrev pub calls_by : ℕ → ℕ → List ℕ → List Call
calls_by rows cols bytes = calls_made (events 1024 bytes) (fresh_state rows cols 0)

-- ---- what programs write

-- a letter on each of three lines
abbrev pub three_lines : List ℕ
three_lines = codes "a" ++ 13 ∷ 10 ∷ codes "b" ++ 13 ∷ 10 ∷ codes "c"

-- a red word after another character
abbrev pub red_word : List ℕ
red_word = codes "T" ++ esc (codes "[31mRED") ++ esc (codes "[m")

-- a red letter, with a resize in the middle of its sequence
abbrev pub cut_red : List Act
cut_red = Fed (esc (codes "[3")) ∷ Resized 1 4 ∷ Fed (codes "1mA") ∷ []

-- two letters, and one on the alternate screen
abbrev pub on_alternate : List ℕ
on_alternate = codes "ab" ++ esc (codes "[?1049h") ++ codes "c"
