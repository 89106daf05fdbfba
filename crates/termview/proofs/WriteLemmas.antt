-- The texts of columns, sent one after another.
use Rattle.std.proofs.Common.{◌≡◌, ◌≤◌, ◌<◌, ◌+◌, ◌-◌, ◌==◌, ℕ, zero, suc, List, [], ◌++◌, length}
use Rattle.std.proofs.Common.{sym, refl, ap, ◌∙◌, append_assoc, arith, Result}
use Rattle.std.proofs.lemmas.List.{append-nil}
use Rattle.std.specs.declared.io.Error.{Error}
use Rattle.vt100_cells.specs.Cell.{CellView, default_cell}
use Rattle.vt100_rows.specs.Row.{RowView}
use Rattle.vt100_rows.specs.Picture.{lines_of}
use Rattle.vt100_rows.proofs.PictureLemmas.{lines-past}
use Rattle.vt100_rows.specs.Text.{cell_text, column_text, columns_text, line_text}
use Rattle.std.specs.Prelude.{encode_utf8_all}
use Rattle.std.proofs.lemmas.Str.{encodes-append}
use Rattle.byte_streams.specs.Pump.{Pumps}
use Rattle.byte_streams.specs.Sent.{SendsText}
use Rattle.byte_streams.proofs.SendLemmas.{well, bad, text-more, text-pumped, text-failed, text-broken}

-- ---- columns

-- the text of further columns
pub columns-split : (f : ℕ → CellView) (m k : ℕ)
    → (rest : List ℕ) × (columns_text f 0 (m + k) ≡ columns_text f 0 m ++ rest)
columns-split f m zero =
    ([], ap (columns_text f 0) (let e : m + 0 ≡ m = omega arith in e) ∙ sym (append-nil (columns_text f 0 m)))
columns-split f m (suc k) =
    let before = columns-split f m k in
    let e : m + suc k ≡ suc (m + k) = omega arith in (
      before.0 ++ column_text f 0 (0 + (m + k)),
      ap (columns_text f 0) e ∙ ap (λ xs. xs ++ column_text f 0 (0 + (m + k))) before.1
          ∙ append_assoc (columns_text f 0 m) before.0 (column_text f 0 (0 + (m + k))),
    )

-- ---- no row

blank-text : (n : ℕ) → line_text (λ k. default_cell) 0 n ≡ []
blank-text zero = refl
blank-text (suc n) = blank-text n

-- past the last row no text is shown
pub text-past : (rows : List RowView) (r n : ℕ) → length rows ≤ r → [] ≡ line_text (lines_of rows r) 0 n
text-past rows r n h = sym (ap (λ f. line_text f 0 n) (lines-past rows r h) ∙ blank-text n)

-- ---- cells that are written one after another

columns-more : (f : ℕ → CellView) (n m : ℕ) → m ≡ n + 1
    → columns_text f 0 m ≡ columns_text f 0 n ++ cell_text (f n) (n == 0)
columns-more f n m e =
    let next : m ≡ suc n = omega arith in
    let at : 0 + n ≡ n = omega arith in
    ap (columns_text f 0) next ∙ ap (λ k. columns_text f 0 n ++ column_text f 0 k) at

module _ (W : Type 0) (takes : W → List ℕ → Result ℕ Error → W → Type 0) where
  -- a column more
  pub sent-more : (a b c : W) (f : ℕ → CellView) (n m k : ℕ) (text : List ℕ) → m ≡ n + 1
      → text ≡ encode_utf8_all (cell_text (f n) (n == 0))
      → SendsText takes a (encode_utf8_all (columns_text f 0 n)) well b → Pumps takes b text well k c
      → SendsText takes a (encode_utf8_all (columns_text f 0 m)) well c
  sent-more a b c f n m k text e et before more =
      let whole : encode_utf8_all (columns_text f 0 m) ≡ encode_utf8_all (columns_text f 0 n) ++ text =
      ap encode_utf8_all (columns-more f n m e) ∙ encodes-append (columns_text f 0 n) (cell_text (f n) (n == 0))
      ∙ ap (λ bs. encode_utf8_all (columns_text f 0 n) ++ bs) (sym et) in
      rw whole (text-more W takes a b c (encode_utf8_all (columns_text f 0 n)) text well well before refl
      (text-pumped W takes b c text k more))

  -- a column at which a write fails
  pub sent-broken : (a b c : W) (f : ℕ → CellView) (n len k : ℕ) (text whole : List ℕ) (e : Error) → n < len
      → text ≡ encode_utf8_all (cell_text (f n) (n == 0)) → columns_text f 0 len ≡ whole
      → SendsText takes a (encode_utf8_all (columns_text f 0 n)) well b → Pumps takes b text (bad e) k c
      → SendsText takes a (encode_utf8_all whole) (bad e) c
  sent-broken a b c f n len k text whole e h et ew before fails =
      let left = len - (n + 1) in
      let split = columns-split f (n + 1) left in
      let at : n + 1 + left ≡ len = omega arith in
      let all : encode_utf8_all whole
      ≡ encode_utf8_all (columns_text f 0 n) ++ (text ++ encode_utf8_all split.0) =
      ap encode_utf8_all (sym ew ∙ ap (columns_text f 0) (sym at) ∙ split.1)
      ∙ encodes-append (columns_text f 0 (n + 1)) split.0
      ∙ ap (λ xs. encode_utf8_all xs ++ encode_utf8_all split.0) (columns-more f n (n + 1) refl)
      ∙ ap (λ bs. bs ++ encode_utf8_all split.0) (encodes-append (columns_text f 0 n) (cell_text (f n) (n == 0)))
      ∙ append_assoc (encode_utf8_all (columns_text f 0 n)) (encode_utf8_all (cell_text (f n) (n == 0)))
      (encode_utf8_all split.0)
      ∙ ap (λ bs. encode_utf8_all (columns_text f 0 n) ++ (bs ++ encode_utf8_all split.0)) (sym et) in
      rw all (text-more W takes a b c (encode_utf8_all (columns_text f 0 n)) (text ++ encode_utf8_all split.0) well
      (bad e) before refl
      (text-broken W takes b c text (encode_utf8_all split.0) (bad e) e (text-failed W takes b c text e k fails) refl))
