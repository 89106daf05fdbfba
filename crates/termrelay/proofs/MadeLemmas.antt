-- Parsers in the state after some acts on a new one.
use Rattle.std.proofs.Common.{◌≡◌, ℕ, List, [], ◌∷◌, ◌++◌, append-nil, append_assoc, ap, sym, ◌∙◌, refl}
use Rattle.std.proofs.lemmas.List.Elements.{All-push}
use Rattle.vt100_core.specs.Picture.{grid_size}
use Rattle.screen_model.specs.Made.{Act, Fed, Resized, bytes_fed, made}
use Rattle.screen_model.specs.Holds.{IsSide, IsAct, AreActs, last_rows, last_cols}
use Rattle.screen_model.proofs.MadeLemmas.{makes-states, makes-last_size, makes-no_offset}
use Rattle.vt100.specs.Parsing.{ParserView}
use Rattle.vt100.specs.Tries.{alive}
use Rattle.vt100.specs.WriterLaws.{IsUnscrolled}
use Rattle.vt100.proofs.PlayLemmas.{acts_follow, feeds_nothing}
use Rattle.termrelay.specs.Hub.{GoesOn}
use Rattle.termrelay.specs.HubFields.{IsMade}

-- ---- acts

are-more : (rows cols capacity : ℕ) (acts : List Act) (act : Act) → IsAct act → AreActs rows cols capacity acts
    → AreActs rows cols capacity (acts ++ act ∷ [])
are-more rows cols capacity acts act is are = record {
  height = are.height;
  width = are.width;
  few = are.few;
  each = All-push IsAct acts act are.each is;
}

made-more : (p q : ParserView (Unit {0})) (act : Act) → IsAct act → IsMade p → GoesOn p act q → IsMade q
made-more p q act is m step = record {
  rows = m.rows;
  cols = m.cols;
  capacity = m.capacity;
  acts = m.acts ++ act ∷ [];
  are = are-more m.rows m.cols m.capacity m.acts act is m.are;
  state_after = step m.rows m.cols m.capacity m.acts m.state_after;
}

pub fed-made : (p q : ParserView (Unit {0})) (bytes : List ℕ) → IsMade p → GoesOn p (Fed bytes) q → IsMade q
fed-made p q bytes m step = made-more p q (Fed bytes) tt m step

pub resized-made : (p q : ParserView (Unit {0})) (rows cols : ℕ) → IsSide rows → IsSide cols → IsMade p
    → GoesOn p (Resized rows cols) q → IsMade q
resized-made p q rows cols h w m step = made-more p q (Resized rows cols) (h, w) m step

-- what has been fed after one more feed
pub bytes-more : (acts : List Act) (a : List ℕ) → bytes_fed (acts ++ Fed a ∷ []) ≡ bytes_fed acts ++ a
bytes-more [] a = append-nil a
bytes-more (Fed bs ∷ acts) a = rw (bytes-more acts a) (sym (append_assoc bs (bytes_fed acts) a))
bytes-more (Resized rows cols ∷ acts) a = bytes-more acts a

-- feeding nothing
pub nothing-fed : (p : ParserView (Unit {0})) (bytes : List ℕ) → bytes ≡ [] → GoesOn p (Fed bytes) p
nothing-fed p bytes none rows cols capacity acts at =
    let same : made rows cols capacity (acts ++ Fed [] ∷ []) ≡ made rows cols capacity acts =
    acts_follow rows cols capacity acts (Fed [] ∷ [])
    ∙ feeds_nothing (bytes_fed acts) (made rows cols capacity acts) [] in
    rw none (record {
      has_read = rw (bytes-more acts [], append-nil (bytes_fed acts)) at.has_read;
      screen = at.screen ∙ ap alive (sym same);
    })

-- ---- the screen

pub made-unscrolled : (p : ParserView (Unit {0})) → IsMade p → IsUnscrolled p.screen.state
made-unscrolled p m =
    rw m.state_after.screen (record {
      state = makes-states m.rows m.cols m.capacity m.acts m.are;
      offset = (makes-no_offset m.rows m.cols m.capacity m.acts m.are).shown;
    })

rows-fed : (rows : ℕ) (acts : List Act) (bytes : List ℕ) → last_rows rows (acts ++ Fed bytes ∷ []) ≡ last_rows rows acts
rows-fed rows [] bytes = refl
rows-fed rows (Fed bs ∷ acts) bytes = rows-fed rows acts bytes
rows-fed rows (Resized height width ∷ acts) bytes = rows-fed height acts bytes

cols-fed : (cols : ℕ) (acts : List Act) (bytes : List ℕ) → last_cols cols (acts ++ Fed bytes ∷ []) ≡ last_cols cols acts
cols-fed cols [] bytes = refl
cols-fed cols (Fed bs ∷ acts) bytes = cols-fed cols acts bytes
cols-fed cols (Resized height width ∷ acts) bytes = cols-fed width acts bytes

-- feeding keeps the size
pub fed-size : (p q : ParserView (Unit {0})) (bytes : List ℕ) → IsMade p → GoesOn p (Fed bytes) q
    → grid_size p.screen.state.shown ≡ grid_size q.screen.state.shown
fed-size p q bytes m step =
    let are = are-more m.rows m.cols m.capacity m.acts (Fed bytes) tt m.are in
    let at = step m.rows m.cols m.capacity m.acts m.state_after in
    let old = makes-last_size m.rows m.cols m.capacity m.acts m.are in
    let new = makes-last_size m.rows m.cols m.capacity (m.acts ++ Fed bytes ∷ []) are in
    let height = old.height ∙ sym (new.height ∙ rows-fed m.rows m.acts bytes) in
    let width = old.width ∙ sym (new.width ∙ cols-fed m.cols m.acts bytes) in
    rw (m.state_after.screen, at.screen) (λ i. record { rows = height i; cols = width i })
