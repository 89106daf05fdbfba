-- What `show` returns, reads and writes.
use Rattle.std.specs.Prelude.{◌≡◌, ℕ, List, [], ◌∷◌, ◌++◌, map, Option, None, Ok, Err, Result, encode_utf8_all}
use Rattle.std.specs.List.{concat, range_with_len}
use Rattle.std.specs.declared.io.Error.{Error}
use Rattle.vte.specs.Moves.{Gives}
use Rattle.vte.specs.Frames.{Drives}
use Rattle.vt100_cells.specs.Cell.{CellView}
use Rattle.vt100_rows.specs.Text.{line_text}
use Rattle.terminal_model.specs.Term.{Size}
use Rattle.termview.specs.Seen.{seen}
use Rattle.relay_streams.specs.declared.error.RelayError.{RelayError}
use Rattle.relay_streams.specs.declared.error.RelayError.TheVariants.{Write, Memory}
use Rattle.byte_streams.specs.Sent.{SendsText}
use Rattle.relay_streams.specs.Pieces.{piece_len, Drained}

abbrev pub sized : ℕ → ℕ → Size
sized rows cols = record { rows = rows; cols = cols }

-- the text of a row of these cells as UTF-8, without the empty columns at its end, and a newline
abbrev pub row_line : Size → (ℕ → ℕ → CellView) → ℕ → List ℕ
row_line z cell row = encode_utf8_all (line_text (cell row) 0 z.cols) ++ (0x0A ∷ [])

-- the same for n rows from `row` on
abbrev pub rows_text : Size → (ℕ → ℕ → CellView) → ℕ → ℕ → List ℕ
rows_text z cell row n = concat (map (row_line z cell) (range_with_len row n))

-- the text of a screen
abbrev pub screen_text : Size → (ℕ → ℕ → CellView) → List ℕ
screen_text z cell = rows_text z cell 0 z.rows

-- A fresh view of this size was given these pieces, one after another, and `text` is the text of what it shows. What
-- the view has parsed is shown, and not what it holds back.
pub record IsTextShown (z : Size) (pieces : List (List ℕ)) (text : List ℕ) : Type 0 where
  pub parsed : List ℕ
  pub hold : Option (List ℕ)
  pub leads : Drives (map Gives pieces) [] None parsed hold
  pub text_is : text ≡ screen_text z (seen z parsed).cell

-- `Prints takes flushes w text answer v`: a text was sent to the writer w, which was then flushed. The result is
-- `answer`, and the writer is then v.
pub data Prints {W : Type 0} (takes : W → List ℕ → Result ℕ Error → W → Type 0)
    (flushes : W → Result (Unit {0}) Error → W → Type 0) (w : W) (text : List ℕ) : Result (Unit {0}) RelayError → W
    → Type 0 where
  -- a write failed or took nothing
  stopped : {v : W} (e : Error) → SendsText takes w text (Err e) v → Prints takes flushes w text (Err Write) v
  -- all was written, and the flush failed
  unflushed : {v : W} (m : W) (e : Error) → SendsText takes w text (Ok tt) m → flushes m (Err e) v
      → Prints takes flushes w text (Err Write) v
  -- all went well
  printed : {v : W} (m : W) → SendsText takes w text (Ok tt) m → flushes m (Ok tt) v
      → Prints takes flushes w text (Ok tt) v

-- The result of `show`, and how it leaves the source and the writer.
pub data Shows {S W : Type 0} (gives : S → ℕ → Result (List ℕ) Error → S → Type 0)
    (takes : W → List ℕ → Result ℕ Error → W → Type 0) (flushes : W → Result (Unit {0}) Error → W → Type 0) (z : Size)
    (s : S) (w : W) : Result (Unit {0}) RelayError → S → W → Type 0 where
  -- there was no memory for the view: nothing is read or written
  refused : Shows gives takes flushes z s w (Err Memory) s w
  -- a read failed, or there were too many reads: nothing is written
  unread : {t : S} (pieces : List (List ℕ)) (e : RelayError) → Drained gives piece_len s pieces (Err e) t
      → Shows gives takes flushes z s w (Err e) t w
  -- the input was read to its end, and what a view shows of it was printed
  shown : {t : S} {v : W} {answer : Result (Unit {0}) RelayError} (pieces : List (List ℕ)) (text : List ℕ)
      → Drained gives piece_len s pieces (Ok tt) t → IsTextShown z pieces text → Prints takes flushes w text answer v
      → Shows gives takes flushes z s w answer t v
