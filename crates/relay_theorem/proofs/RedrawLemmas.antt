-- From a redraw and later frames to what is shown.
use Rattle.std.proofs.Common.{◌≡◌, ◌∙◌, ℕ, ◌-◌, nat_le, Bool, true, false, List, [], ◌∷◌, ◌++◌, length, map, Option}
use Rattle.std.proofs.Common.{Some, None, refl, sym, ap, subst, if◌then◌else◌}
use Rattle.std.specs.Prelude.{nat_lt}
use Rattle.std.specs.List.{concat}
use Rattle.vte.specs.Moves.{Gives}
use Rattle.vte.specs.Frames.{Drives}
use Rattle.terminal_model.specs.Term.{Size, Shown, shown_of}
use Rattle.screen_model.specs.State.{State}
use Rattle.screen_model.specs.Shown.{shown_state}
use Rattle.screen_model.specs.Holds.{IsSide}
use Rattle.termrelay.specs.Frame.{is_unsure, frame_text}
use Rattle.termrelay.specs.Redraw.{redraw_text, redraw_of}
use Rattle.termrelay.specs.Answers.{ClientState, is_frame, answer_to, answer_for, longest_frame, is_too_long}
use Rattle.termrelay.specs.declared.answer.Answer.{Answer}
use Rattle.termrelay.specs.declared.answer.Answer.TheVariants.{Full, Difference, Unsure, Held}
use Rattle.termrelay.specs.Hub.{new_client}
use Rattle.termview.specs.Seen.{seen}
use Rattle.relay_theorem.specs.History.{Entry}
use Rattle.relay_theorem.specs.Judge.{state_at, shown_at, texts, frame_or, last_frame, whole_in, last_whole, judged}
use Rattle.relay_theorem.specs.Judge.{IsSure}
use Rattle.relay_theorem.specs.Laws.{base_then, base_after, IsAnswered, AreAnswered}
use Rattle.relay_theorem.specs.Redraws.{redrawn}
use Rattle.relay_theorem.proofs.HeadlineLemmas.{IsDue, behind, held, overlong, unsure, full, difference, unchanged}
use Rattle.relay_theorem.proofs.HeadlineLemmas.{answer-due, due-frame, prefix-seen, seen-judged, answered-whole}

-- ---- a redraw that is made

-- it isn't too long, and is this text
made-by : (long : Bool) (text redraw : List ℕ) → (if long then None else Some text) ≡ Some redraw
    → (long ≡ false) × (redraw ≡ text)
made-by true text redraw e = absurd (let no : None ≡ Some redraw = e in cc)
made-by false text redraw e = (refl, let same : Some text ≡ Some redraw = e in cc)

updating-by : (b : Bool) (a : Answer) → is_frame (if b then Held else a) ≡ true → b ≡ false
updating-by true a h = absurd (let no : false ≡ true = h in cc)
updating-by false a h = refl

-- at a frame the program is in no update of its own
pub not-updating : (s : State) (base : Option Shown) (owed : List ℕ) → is_frame (answer_to s base owed) ≡ true
    → s.updating ≡ false
not-updating s base [] h = updating-by s.updating _ h
not-updating s base (x ∷ owed) h = absurd (let no : false ≡ true = h in cc)

text-when : (b : Bool) (text redraw : List ℕ) → b ≡ true → redraw ≡ text → redraw ≡ (if b then text else [])
text-when true text redraw e is = is
text-when false text redraw e is = absurd (let no : false ≡ true = e in cc)

-- a new client is answered by a frame, where one can be made
first-due : (z : Size) (s : State) (a : Answer) → IsDue z s new_client a → s.updating ≡ false
    → is_too_long z (shown_state s) None ≡ false
    → (is_frame a ≡ true) × (a ≡ Unsure → is_unsure z (shown_state s) ≡ true)
first-due z s a (behind o) u l = absurd (o refl)
first-due z s a (held e) u l = absurd (let no : true ≡ false = sym e ∙ u in cc)
first-due z s a (overlong e) u l = absurd (let no : true ≡ false = sym e ∙ l in cc)
first-due z s a (unsure e k) u l = (refl, λ v. e)
first-due z s a (full e k) u l = (refl, λ v. absurd (let no : Full ≡ Unsure = v in cc))
first-due z s a (difference e k) u l = (refl, λ v. absurd (let no : Difference ≡ Unsure = v in cc))
first-due z s a (unchanged b is e) u l = absurd (let no : None ≡ Some b = is in cc)

module _ (rows cols : ℕ) (z : Size) (height : IsSide z.rows) (width : IsSide z.cols) where
  -- ---- the last frame before it

  -- the base is what was shown at the last frame, if there was one
  abbrev pub Shows : Option Shown → Option Entry → Type 0
  Shows base None = base ≡ None
  Shows base (Some e) =
      (base ≡ Some (shown_at rows cols e)) × ((from : Option Shown) × IsAnswered rows cols z from e)
      × (is_frame e.answer ≡ true)

  shows-by : (frame : Bool) (base : Option Shown) (last : Option Entry) (e : Entry) → is_frame e.answer ≡ frame
      → Shows base last → IsAnswered rows cols z base e
      → Shows (if frame then Some (shown_at rows cols e) else base) (if frame then Some e else last)
  shows-by true base last e f h k = (refl, (base, k), f)
  shows-by false base last e f h k = h

  pub shows-all : (base : Option Shown) (last : Option Entry) (es : List Entry) → Shows base last
      → AreAnswered rows cols z base es → Shows (base_after rows cols base es) (last_frame last es)
  shows-all base last [] h k = h
  shows-all base last (e ∷ es) h k =
      shows-all (base_then rows cols base e) (frame_or last e) es
      (shows-by (is_frame e.answer) base last e refl h k.0) k.1

  pub answered-back : (base : Option Shown) (first later : List Entry) → AreAnswered rows cols z base (first ++ later)
      → AreAnswered rows cols z (base_after rows cols base first) later
  answered-back base [] later h = h
  answered-back base (e ∷ first) later h = answered-back (base_then rows cols base e) first later h.1

  -- ---- the redraw is the first frame of a client that is asked at the last frame's moment

  abbrev first_entry : List ℕ → Entry → Entry
  first_entry redraw e = record {
    moment = e.moment;
    answer = answer_for (state_at rows cols e) new_client;
    text = redraw;
  }

  record IsFirst (redraw : List ℕ) (e : Entry) : Type 0 where
    answered : IsAnswered rows cols z None (first_entry redraw e)
    frame : is_frame (answer_for (state_at rows cols e) new_client) ≡ true
    sure : answer_for (state_at rows cols e) new_client ≡ Unsure → e.answer ≡ Unsure

  redraw-first : (redraw : List ℕ) (e : Entry) (from : Option Shown) → IsAnswered rows cols z from e
      → is_frame e.answer ≡ true → redraw_of z (Some (shown_at rows cols e)) ≡ Some redraw → IsFirst redraw e
  redraw-first redraw e from k f made =
      let s = state_at rows cols e in
      let a = answer_for s new_client in
      let text = frame_text z None (shown_state s) in
      let m = made-by (is_too_long z (shown_state s) None) text redraw made in
      let idle = not-updating s from k.owed (ap is_frame (sym k.answer) ∙ f) in
      let d = first-due z s a (answer-due z s None [] k.size) idle m.0 in
      let c : ClientState = record { owed = k.owed; base = from } in
      let due : IsDue z s c e.answer = subst (IsDue z s c) (sym k.answer) (answer-due z s from k.owed k.size) in
      record {
        answered = record {
          acts = k.acts;
          size = k.size;
          owed = [];
          answer = refl;
          text = text-when (is_frame a) text redraw d.0 m.1;
        };
        frame = d.0;
        sure = λ v. (due-frame z s c e.answer due f).1 (d.1 v);
      }

  first-joined : (redraw : List ℕ) (e : Entry) (base : Option Shown) (later : List Entry) → IsFirst redraw e
      → base ≡ Some (shown_at rows cols e) → AreAnswered rows cols z base later
      → AreAnswered rows cols z None (first_entry redraw e ∷ later)
  first-joined redraw e base later first is k =
      let now = shown_at rows cols e in
      let framed : (if is_frame (answer_for (state_at rows cols e) new_client) then Some now else None) ≡ Some now =
      ap (λ b. if b then Some now else None) first.frame in
      (first.answered, subst (λ b. AreAnswered rows cols z b later) (is ∙ sym framed) k)

  -- ---- two entries of one moment and text

  abbrev Alike : Option Entry → Option Entry → Type 0
  Alike last last' = (IsSure last → IsSure last') × (judged rows cols last' ≡ judged rows cols last)

  alike-by : (frame : Bool) (last last' : Option Entry) (e : Entry) → Alike last last'
      → Alike (if frame then Some e else last) (if frame then Some e else last')
  alike-by true last last' e h = (λ s. s, refl)
  alike-by false last last' e h = h

  alike-all : (es : List Entry) (last last' : Option Entry) → Alike last last'
      → Alike (last_frame last es) (last_frame last' es)
  alike-all [] last last' h = h
  alike-all (e ∷ es) last last' h =
      alike-all es (frame_or last e) (frame_or last' e) (alike-by (is_frame e.answer) last last' e h)

  alike-whole : (whole : Bool) (d e : Entry) (es : List Entry) → is_frame d.answer ≡ true → is_frame e.answer ≡ true
      → Alike (Some d) (Some e)
      → Alike (last_frame None (if whole then d ∷ es else [])) (last_frame None (if whole then e ∷ es else []))
  alike-whole true d e es f g h =
      let one : frame_or None d ≡ Some d = ap (λ b. if b then Some d else None) f in
      let other : frame_or None e ≡ Some e = ap (λ b. if b then Some e else None) g in
      alike-all es (frame_or None d) (frame_or None e)
      (subst (λ l. Alike l (frame_or None e)) (sym one) (subst (λ l. Alike (Some d) l) (sym other) h))
  alike-whole false d e es f g h = (λ s. s, refl)

  texts-alike : (whole : Bool) (d e : Entry) (es : List Entry) → d.text ≡ e.text
      → texts (if whole then d ∷ es else []) ≡ texts (if whole then e ∷ es else [])
  texts-alike true d e es h = ap (λ xs. xs ++ texts es) h
  texts-alike false d e es h = refl

  -- ---- what is shown

  module _ (redraw : List ℕ) (base : Option Shown) (later : List Entry) (pieces : List (List ℕ)) (parsed beyond : List ℕ)
      (hold : Option (List ℕ)) (k : AreAnswered rows cols z base later) (made : redraw_of z base ≡ Some redraw)
      (joined : concat pieces ++ beyond ≡ redraw ++ texts later) (leads : Drives (map Gives pieces) [] None parsed hold)
    where
      abbrev count : ℕ
      count = length (concat pieces)

      none-made : base ≡ None → redraw ≡ []
      none-made is =
          (made-by (nat_lt longest_frame (length (redraw_text z None))) (redraw_text z None) redraw (subst (λ b. redraw_of z b ≡ Some redraw) is made)).1

      first-of : (e : Entry) → Shows base (Some e) → IsFirst redraw e
      first-of e h =
          redraw-first redraw e h.1.0 h.1.1 h.2 (subst (λ b. redraw_of z b ≡ Some redraw) h.0 made)

      pub redrawn-seen : (last : Option Entry) → Shows base last
          → seen z parsed ≡ seen z (texts (whole_in (redrawn redraw last ++ later) count))
      redrawn-seen None h =
          prefix-seen rows cols z height width later pieces beyond parsed hold
          (subst (λ b. AreAnswered rows cols z b later) h k)
          (joined ∙ ap (λ xs. xs ++ texts later) (none-made h)) leads
      redrawn-seen (Some e) h =
          let first = first-of e h in
          let x = first_entry redraw e in
          prefix-seen rows cols z height width (x ∷ later) pieces beyond parsed hold
          (first-joined redraw e base later first h.0 k) joined leads
          ∙ ap (seen z) (texts-alike (nat_le (length redraw) count) x (record e { text = redraw })
          (whole_in later (count - length redraw)) refl)

      pub redrawn-judged : (last : Option Entry) → Shows base last
          → IsSure (last_whole None (redrawn redraw last ++ later) count)
          → shown_of (seen z (texts (whole_in (redrawn redraw last ++ later) count)))
          ≡ judged rows cols (last_whole None (redrawn redraw last ++ later) count)
      redrawn-judged None h sure =
          seen-judged rows cols z height width (whole_in later count)
          (answered-whole rows cols z None later count (subst (λ b. AreAnswered rows cols z b later) h k)) sure
      redrawn-judged (Some e) h sure =
          let first = first-of e h in
          let x = first_entry redraw e in
          let d : Entry = record e { text = redraw } in
          let es = whole_in later (count - length redraw) in
          let whole = nat_le (length redraw) count in
          let alike = alike-whole whole d x es h.2 first.frame (λ s v. s (first.sure v), refl) in
          ap (λ xs. shown_of (seen z xs)) (texts-alike whole d x es refl)
          ∙ seen-judged rows cols z height width (whole_in (x ∷ later) count)
          (answered-whole rows cols z None (x ∷ later) count (first-joined redraw e base later first h.0 k)) (alike.0 sure)
          ∙ alike.1
