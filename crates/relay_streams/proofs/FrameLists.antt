-- The frames of pieces after pieces.
use Rattle.std.proofs.Common.{◌≡◌, ◌∙◌, ℕ, true, false, ◌||◌, List, [], ◌∷◌, ◌++◌, map, Option, None, refl, sym, ap}
use Rattle.std.proofs.Common.{append_assoc, append-nil}
use Rattle.std.specs.List.{concat, list_any}
use Rattle.std.proofs.lemmas.Bool.{or_from}
use Rattle.std.proofs.lemmas.List.{map-append}
use Rattle.std.proofs.lemmas.List.Folds.{list_any-append}
use Rattle.std.proofs.Math.Bool.{or-true}
use Rattle.terminal_model.specs.Term.{Shown}
use Rattle.screen_model.specs.State.{State, fresh_state}
use Rattle.screen_model.specs.Made.{Fed, made, made_on, events_added, played}
use Rattle.vt100.proofs.PlayLemmas.{feeds_join, feeds_nothing}
use Rattle.termrelay.specs.declared.answer.Answer.{Answer}
use Rattle.termrelay.specs.declared.answer.Answer.TheVariants.{TooLong}
use Rattle.relay_theorem.specs.History.{Entry}
use Rattle.relay_streams.specs.Frames.{state_after, asked, answered, is_overlong}
use Rattle.relay_streams.specs.Pieces.{pieces_of}

-- the answer to a client that asks after these pieces, and then gets the bytes that wait for it
abbrev pub entry_at : ℕ → ℕ → List (List ℕ) → Option Shown → Entry
entry_at rows cols pieces base = record {
  moment = map Fed pieces;
  answer = answered rows cols (concat pieces) base;
  text = (asked rows cols (concat pieces) base).owed;
}

-- and its base afterwards
abbrev pub base_at : ℕ → ℕ → List (List ℕ) → Option Shown → Option Shown
base_at rows cols pieces base = (asked rows cols (concat pieces) base).base

-- it asks after each further piece
abbrev pub entries_from : ℕ → ℕ → List (List ℕ) → Option Shown → List (List ℕ) → List Entry
entries_from rows cols past base [] = []
entries_from rows cols past base (piece ∷ pieces) =
    entry_at rows cols (past ++ piece ∷ []) base
    ∷ entries_from rows cols (past ++ piece ∷ []) (base_at rows cols (past ++ piece ∷ []) base) pieces

abbrev pub base_from : ℕ → ℕ → List (List ℕ) → Option Shown → List (List ℕ) → Option Shown
base_from rows cols past base [] = base
base_from rows cols past base (piece ∷ pieces) =
    base_from rows cols (past ++ piece ∷ []) (base_at rows cols (past ++ piece ∷ []) base) pieces

abbrev pub frames_from : ℕ → ℕ → List (List ℕ) → Option Shown → List (List ℕ) → List (List ℕ)
frames_from rows cols past base pieces = map (λ e. e.text) (entries_from rows cols past base pieces)

abbrev pub answers_from : ℕ → ℕ → List (List ℕ) → Option Shown → List (List ℕ) → List Answer
answers_from rows cols past base pieces = map (λ e. e.answer) (entries_from rows cols past base pieces)

-- from a new screen and a new client on
abbrev pub entries_after : ℕ → ℕ → List (List ℕ) → List Entry
entries_after rows cols pieces = entries_from rows cols [] None pieces

abbrev pub frames_of : ℕ → ℕ → List (List ℕ) → List (List ℕ)
frames_of rows cols pieces = frames_from rows cols [] None pieces

abbrev pub answers_of : ℕ → ℕ → List (List ℕ) → List Answer
answers_of rows cols pieces = answers_from rows cols [] None pieces

abbrev pub base_of : ℕ → ℕ → List (List ℕ) → Option Shown
base_of rows cols pieces = base_from rows cols [] None pieces

-- the joined frames of an input that is fed in full pieces
abbrev pub relay_text : ℕ → ℕ → List ℕ → List ℕ
relay_text rows cols input = concat (frames_of rows cols (pieces_of input))

-- ---- whether one of the answers is that the frame would be too long

pub overlong-is : (a : Answer) → is_overlong a ≡ true → a ≡ TooLong
overlong-is TooLong h = refl
overlong-is _ h = absurd (let no : false ≡ true = h in cc)

none-more : (xs : List Answer) (a : Answer) → list_any is_overlong xs ≡ false → is_overlong a ≡ false
    → list_any is_overlong (xs ++ a ∷ []) ≡ false
none-more xs a h k =
    list_any-append is_overlong xs (a ∷ [])
    ∙ or_from (list_any is_overlong xs) (list_any is_overlong (a ∷ [])) h (or_from (is_overlong a) false k refl)

pub one-there : (prefix more : List Answer) → list_any is_overlong ((prefix ++ TooLong ∷ []) ++ more) ≡ true
one-there [] more = refl
one-there (x ∷ prefix) more = ap (λ b. is_overlong x || b) (one-there prefix more) ∙ or-true (is_overlong x)

-- ---- pieces

-- fed in pieces or at once
pieces-join : (past : List ℕ) (s : State) (pieces : List (List ℕ))
    → made_on past s (map Fed pieces) ≡ made_on past s (Fed (concat pieces) ∷ [])
pieces-join past s [] = sym (feeds_nothing past s [])
pieces-join past s (p ∷ ps) =
    pieces-join (past ++ p) (played (events_added past p) s) ps ∙ feeds_join past s p (concat ps) []

pub pieces-make : (rows cols : ℕ) (pieces : List (List ℕ))
    → made rows cols 0 (map Fed pieces) ≡ state_after rows cols (concat pieces)
pieces-make rows cols pieces = pieces-join [] (fresh_state rows cols 0) pieces

module _ (rows cols : ℕ) where
  -- more pieces have more answers
  pub entries-more : (past : List (List ℕ)) (base : Option Shown) (pieces more : List (List ℕ))
      → entries_from rows cols past base (pieces ++ more)
      ≡ entries_from rows cols past base pieces
      ++ entries_from rows cols (past ++ pieces) (base_from rows cols past base pieces) more
  entries-more past base [] more = ap (λ ps. entries_from rows cols ps base more) (sym (append-nil past))
  entries-more past base (p ∷ ps) more =
      let all = past ++ p ∷ [] in
      let next = base_at rows cols all base in
      ap (λ es. entry_at rows cols all base ∷ es)
      (entries-more all next ps more
      ∙ ap (λ qs. entries_from rows cols all next ps
      ++ entries_from rows cols qs (base_from rows cols all next ps) more) (append_assoc past (p ∷ []) ps))

  base-more : (past : List (List ℕ)) (base : Option Shown) (pieces more : List (List ℕ))
      → base_from rows cols past base (pieces ++ more)
      ≡ base_from rows cols (past ++ pieces) (base_from rows cols past base pieces) more
  base-more past base [] more = ap (λ ps. base_from rows cols ps base more) (sym (append-nil past))
  base-more past base (p ∷ ps) more =
      let all = past ++ p ∷ [] in
      let next = base_at rows cols all base in
      base-more all next ps more
      ∙ ap (λ qs. base_from rows cols qs (base_from rows cols all next ps) more) (append_assoc past (p ∷ []) ps)

  pub frames-more : (pieces more : List (List ℕ)) → frames_of rows cols (pieces ++ more)
      ≡ frames_of rows cols pieces ++ frames_from rows cols pieces (base_of rows cols pieces) more
  frames-more pieces more =
      ap (λ (es : List Entry). map (λ e. e.text) es) (entries-more [] None pieces more)
      ∙ map-append (λ (e : Entry). e.text) (entries_after rows cols pieces)
      (entries_from rows cols pieces (base_of rows cols pieces) more)

  pub answers-more : (pieces more : List (List ℕ)) → answers_of rows cols (pieces ++ more)
      ≡ answers_of rows cols pieces ++ answers_from rows cols pieces (base_of rows cols pieces) more
  answers-more pieces more =
      ap (λ (es : List Entry). map (λ e. e.answer) es) (entries-more [] None pieces more)
      ∙ map-append (λ (e : Entry). e.answer) (entries_after rows cols pieces)
      (entries_from rows cols pieces (base_of rows cols pieces) more)

  -- one more piece: where no frame is too long, and neither is its own
  pub fits-push : (pieces : List (List ℕ)) (piece : List ℕ) → list_any is_overlong (answers_of rows cols pieces) ≡ false
      → is_overlong (answered rows cols (concat (pieces ++ piece ∷ [])) (base_of rows cols pieces)) ≡ false
      → list_any is_overlong (answers_of rows cols (pieces ++ piece ∷ [])) ≡ false
  fits-push pieces piece fits last =
      ap (λ (xs : List Answer). list_any is_overlong xs) (answers-more pieces (piece ∷ []))
      ∙ none-more (answers_of rows cols pieces)
      (answered rows cols (concat (pieces ++ piece ∷ [])) (base_of rows cols pieces)) fits last

  pub base-push : (pieces : List (List ℕ)) (piece : List ℕ) → base_of rows cols (pieces ++ piece ∷ [])
      ≡ base_at rows cols (pieces ++ piece ∷ []) (base_of rows cols pieces)
  base-push pieces piece = base-more [] None pieces (piece ∷ [])
