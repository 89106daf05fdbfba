-- From a whole frame and later frames to what is shown.
use Rattle.std.proofs.Common.{◌≡◌, ◌≢◌, ◌∙◌, ℕ, ◌+◌, ◌-◌, ◌<◌, ◌≤◌, Bool, true, false, List, [], ◌∷◌, ◌++◌}
use Rattle.std.proofs.Common.{length, map, Option, Some, None, refl, sym, ap, subst, arith, append_assoc}
use Rattle.std.proofs.Common.{length-append, if◌then◌else◌}
use Rattle.std.specs.Prelude.{nat_lt}
use Rattle.std.specs.List.{AllByRecursion, concat}
use Rattle.std.proofs.lemmas.List.Elements.{All-from_recursion}
use Rattle.vte_core.specs.Ground.{AtGround}
use Rattle.vte.specs.Hold.{limit}
use Rattle.vte.specs.Moves.{Gives}
use Rattle.vte.specs.Frames.{IsFrame, IsPart, Drives}
use Rattle.terminal_model.specs.Term.{Size, Shown, Term, shown_of, saved_of}
use Rattle.terminal_model.specs.Apply.{run}
use Rattle.screen_model.specs.Holds.{IsSide}
use Rattle.termrelay.specs.Frame.{is_unsure, frame_text, ShowsUnless}
use Rattle.termrelay.specs.Whole.{whole_forms, whole_text, whole_of}
use Rattle.termrelay.specs.Answers.{is_frame, longest_frame}
use Rattle.termrelay.proofs.WholeLemmas.{whole-leads, whole-sets_modes, whole-sent}
use Rattle.termrelay.specs.Calls.{Call}
use Rattle.termrelay.specs.declared.runs.call.Reply.{Reply}
use Rattle.termview.specs.Seen.{seen}
use Rattle.termview.specs.FormFrames.{framed}
use Rattle.termview.proofs.KeptTerms.{streams-show}
use Rattle.termview.proofs.LawLemmas.{none_torn}
use Rattle.termview.proofs.FramedForms.{forms-framed, frame-shows, frame-finishes}
use Rattle.relay_theorem.specs.History.{Entry, Story, size_of_story}
use Rattle.relay_theorem.specs.Judge.{state_at, shown_at, texts, frame_or, last_frame, whole_in, last_whole, judged}
use Rattle.relay_theorem.specs.Judge.{IsSure}
use Rattle.relay_theorem.specs.Laws.{base_after, AreAnswered, IsSession}
use Rattle.relay_theorem.specs.Redraws.{redrawn, redrawn_then}
use Rattle.relay_theorem.specs.Wholes.{ReadsWhole, WholeFramesLeadFromAnything, NoWholeFrameIsTorn}
use Rattle.relay_theorem.specs.Wholes.{EachFrameEndsAtGround}
use Rattle.relay_theorem.proofs.ScreenLemmas.{IsShot, shot-screen}
use Rattle.relay_theorem.proofs.RedrawLemmas.{Shows}
use Rattle.relay_theorem.proofs.HeadlineLemmas.{below-limit, frame_texts, small, base_of, Known, known-base, entry-some}
use Rattle.relay_theorem.proofs.HeadlineLemmas.{entry-known, entry-due, client_of, due-frame, entries-all}
use Rattle.relay_theorem.proofs.HeadlineLemmas.{frames-all, frames-joined, covers, in-more, in-stops, HasRead, read-all}
use Rattle.relay_theorem.proofs.HeadlineLemmas.{read-nothing, judged-shown, answered-whole, answered-prefix}
use Rattle.relay_theorem.proofs.HistoryLemmas.{sessions-reported}
use Rattle.relay_theorem.proofs.DrawnLemmas.{later-answered, first-shows}
use Rattle.relay_theorem.proofs.FrameSteps.{text-frame}

made-by : (long : Bool) (text whole : List ℕ) → (if long then None else Some text) ≡ Some whole
    → (long ≡ false) × (whole ≡ text)
made-by true text whole e = absurd (let no : None ≡ Some whole = e in cc)
made-by false text whole e = (refl, let same : Some text ≡ Some whole = e in cc)

-- a part isn't all
not-all : (part left : List ℕ) (n m : ℕ) → left ≢ [] → n ≡ length part + length left → m ≡ length part → m < n
not-all part [] n m some size e = absurd (some refl)
not-all part (x ∷ left) n m some size e = omega (arith, size, e)

-- ---- a whole frame that is read

shown-by : (z : Size) (now : Shown) (t : Term) (unsure : Bool) → is_unsure z now ≡ unsure → IsShot z now
    → t.saved_row < z.rows → t.saved_col ≤ z.cols → ShowsUnless unsure now (shown_of (run z (whole_forms z now) t))
shown-by z now t true e h r k = whole-sets_modes z now t
shown-by z now t false e h r k =
    whole-leads z now (shown_of t) (shot-screen z now h e) (saved_of t) (record { in_rows = r; in_cols = k })

module _ (rows cols : ℕ) (z : Size) (height : IsSide z.rows) (width : IsSide z.cols) where
  abbrev known : Option Entry → Type 0
  known last = Known rows cols z height width last

  abbrev has_read : Option Entry → List ℕ → Type 0
  has_read last past = HasRead rows cols z height width last past

  -- the whole frame of what was shown at a frame, in place of that one
  abbrev with_text : List ℕ → Entry → Entry
  with_text text e = record e { text = text }

  whole-frame : (now : Shown) → IsShot z now → IsFrame (whole_text z now)
  whole-frame now h = forms-framed (whole_forms z now) (whole-sent z now h.small h.known)

  whole-read : (past : List ℕ) (e : Entry) → AtGround 1024 past → known (Some e)
      → has_read (Some (with_text (whole_text z (shown_at rows cols e)) e)) (past ++ whole_text z (shown_at rows cols e))
  whole-read past e g k =
      let now = shown_at rows cols e in
      let fs = whole_forms z now in
      let t = seen z past in
      let shot = k.0 in
      let some_row = shot.small.shown.some_row in
      let some_col = shot.small.shown.some_col in
      let saved = streams-show z past some_row some_col in
      let is : seen z (past ++ framed fs) ≡ run z fs t =
      frame-shows z past fs some_row some_col (small rows cols z height width) g (whole-sent z now shot.small shot.known) in
      record {
        ground = frame-finishes past fs;
        agrees = subst (λ u. ShowsUnless (is_unsure z now) now (shown_of u)) (sym is)
            (shown-by z now t (is_unsure z now) refl shot saved.saved_in_rows saved.saved_in_cols);
        known = k;
      }

  -- ---- the frames after it

  later-frames : (last : Option Entry) (es : List Entry) → known last
      → AreAnswered rows cols z (base_of rows cols z height width last) es → AllByRecursion IsFrame (frame_texts es)
  later-frames last es h k =
      frames-all rows cols z height width IsFrame es
      (entries-all rows cols z height width (λ e. is_frame e.answer ≡ true → IsFrame e.text)
      (λ last e h a f. subst IsFrame (sym (entry-some rows cols z height width last e a f))
      (text-frame z (base_of rows cols z height width last) (shown_at rows cols e)
      (known-base rows cols z height width last h) (entry-known rows cols z height width _ e a f).0)) last es h k)

  later-short : (last : Option Entry) (es : List Entry) → known last
      → AreAnswered rows cols z (base_of rows cols z height width last) es
      → AllByRecursion (λ (text : List ℕ). length text < limit) (frame_texts es)
  later-short last es h k =
      frames-all rows cols z height width (λ (text : List ℕ). length text < limit) es
      (entries-all rows cols z height width (λ e. is_frame e.answer ≡ true → length e.text < limit)
      (λ last e h a f.
      let base = base_of rows cols z height width last in
      let s = state_at rows cols e in
      let c = client_of rows cols z height width base e a in
      subst (λ (xs : List ℕ). length xs < limit) (sym (entry-some rows cols z height width last e a f))
      (below-limit (frame_text z base (shown_at rows cols e))
      (due-frame z s c e.answer (entry-due rows cols z height width base e a) f).0)) last es h k)

  module _ (past : List ℕ) (whole : List ℕ) (e : Entry) (later : List Entry) (ground : AtGround 1024 past)
      (k : known (Some e)) (is : whole ≡ whole_text z (shown_at rows cols e))
      (fits : nat_lt longest_frame (length (whole_text z (shown_at rows cols e))) ≡ false)
      (frame : is_frame e.answer ≡ true) (answered : AreAnswered rows cols z (Some (shown_at rows cols e)) later) where
    abbrev first : Entry
    first = with_text whole e

    -- what a view has parsed shows just the whole frames
    abbrev IsSeen : List ℕ → ℕ → Type 0
    IsSeen parsed count = seen z parsed ≡ seen z (past ++ texts (whole_in (first ∷ later) count))

    seen-by : (ws rest : List (List ℕ)) (part bytes parsed : List ℕ) → whole ∷ frame_texts later ≡ ws ++ rest
        → IsPart part rest → bytes ≡ concat ws ++ part → seen z parsed ≡ seen z (past ++ concat ws)
        → IsSeen parsed (length bytes)
    seen-by [] rest part bytes parsed cut p all shows =
        let begun : IsPart part (whole ∷ frame_texts later) = subst (λ r. IsPart part r) (sym cut) p in
        let size : length whole ≡ length part + length begun.0 =
        ap length begun.1 ∙ length-append part begun.0 in
        let short : length bytes < length whole =
        not-all part begun.0 (length whole) (length bytes) begun.2 size (ap length all) in
        shows
        ∙ ap (λ es. seen z (past ++ texts es))
        (sym (in-stops rows cols z height width first later (length bytes) short))
    seen-by (w ∷ ws) rest part bytes parsed cut p all shows =
        let head : whole ≡ w = cc in
        let tails : frame_texts later ≡ ws ++ rest = cc in
        let n = length (concat ws ++ part) in
        let count : length bytes ≡ length whole + n =
        omega (
          arith,
          ap length all,
          ap length head,
          length-append (w ++ concat ws) part,
          length-append w (concat ws),
          length-append (concat ws) part,
        ) in
        let rest_are = covers rows cols z height width later (Some e) ws rest part answered tails p in
        shows
        ∙ ap (λ xs. seen z (past ++ xs))
        (ap (λ xs. xs ++ concat ws) (sym head) ∙ ap (λ xs. whole ++ xs) (sym rest_are)
        ∙ ap texts (sym (in-more rows cols z height width first later (length bytes) n count)))

    pub whole-seen : (pieces : List (List ℕ)) (beyond parsed : List ℕ) (hold : Option (List ℕ))
        → concat pieces ++ beyond ≡ whole ++ texts later → Drives (map Gives pieces) past None parsed hold
        → IsSeen parsed (length (concat pieces))
    whole-seen pieces beyond parsed hold joined leads =
        let now = shown_at rows cols e in
        let frames = whole ∷ frame_texts later in
        let are : AllByRecursion IsFrame frames =
        (subst IsFrame (sym is) (whole-frame now k.0), later-frames (Some e) later k answered) in
        let short : AllByRecursion (λ (text : List ℕ). length text < limit) frames = (
          subst (λ (xs : List ℕ). length xs < limit) (sym is) (below-limit (whole_text z now) fits),
          later-short (Some e) later k answered,
        ) in
        let out = none_torn z frames pieces beyond past parsed hold ground (All-from_recursion IsFrame frames are)
        (All-from_recursion (λ text. length text < limit) frames short)
        (joined ∙ ap (λ xs. whole ++ xs) (sym (frames-joined rows cols z height width (Some e) later answered))) leads in
        let f = out.prefix in
        seen-by f.whole f.rest f.part (concat pieces) parsed f.frames_are f.is_part f.bytes_are out.shows

    all-read : (count : ℕ) → length whole ≤ count
        → has_read (last_whole None (first ∷ later) count) (past ++ texts (whole_in (first ∷ later) count))
    all-read count long =
        let m = count - length whole in
        let es = whole_in later m in
        let parts : whole_in (first ∷ later) count ≡ first ∷ es =
        in-more rows cols z height width first later count m (omega (arith, long)) in
        let one : frame_or None first ≡ Some first = ap (λ b. if b then Some first else None) frame in
        let start : has_read (Some first) (past ++ whole) =
        subst (λ xs. has_read (Some (with_text xs e)) (past ++ xs)) (sym is) (whole-read past e ground k) in
        let r = read-all rows cols z height width (Some first) es (past ++ whole) start
        (answered-whole rows cols z (Some (shown_at rows cols e)) later m answered) in
        subst (λ xs. has_read (last_frame None xs) (past ++ texts xs)) (sym parts)
        (subst (λ l. has_read (last_frame l es) (past ++ (whole ++ texts es))) (sym one)
        (subst (λ (xs : List ℕ). has_read (last_frame (Some first) es) xs) (append_assoc past whole (texts es)) r))

    -- from the whole frame on, what is judged
    pub whole-judged : (count : ℕ) → length whole ≤ count → IsSure (last_whole None (first ∷ later) count)
        → shown_of (seen z (past ++ texts (whole_in (first ∷ later) count)))
        ≡ judged rows cols (last_whole None (first ∷ later) count)
    whole-judged count long sure =
        judged-shown rows cols z height width (last_whole None (first ∷ later) count)
        (past ++ texts (whole_in (first ∷ later) count)) (all-read count long) sure

  -- ---- the frame before it

  module _ (past : List ℕ) (whole : List ℕ) (base : Option Shown) (later : List Entry) (pieces : List (List ℕ))
      (parsed beyond : List ℕ) (hold : Option (List ℕ)) (ground : AtGround 1024 past)
      (answered : AreAnswered rows cols z base later) (made : whole_of z base ≡ Some whole)
      (joined : concat pieces ++ beyond ≡ whole ++ texts later) (leads : Drives (map Gives pieces) past None parsed hold)
    where
      abbrev shows : Option Entry → Type 0
      shows last = Shows rows cols z height width base last

      none-made : base ≡ None → ⊥
      none-made none = let no : None ≡ Some whole = sym (ap (whole_of z) none) ∙ made in absurd (cc)

      module _ (e : Entry) (h : shows (Some e)) where
        abbrev now : Shown
        now = shown_at rows cols e

        text-made : (nat_lt longest_frame (length (whole_text z now)) ≡ false) × (whole ≡ whole_text z now)
        text-made =
            made-by (nat_lt longest_frame (length (whole_text z now))) (whole_text z now) whole
            (sym (ap (whole_of z) h.0) ∙ made)

        known-now : known (Some e)
        known-now = entry-known rows cols z height width h.1.0 e h.1.1 h.2

        answered-now : AreAnswered rows cols z (Some now) later
        answered-now = subst (λ b. AreAnswered rows cols z b later) h.0 answered

      pub seen-from : (last : Option Entry) → shows last
          → seen z parsed ≡ seen z (past ++ texts (whole_in (redrawn whole last ++ later) (length (concat pieces))))
      seen-from None h = absurd (none-made h)
      seen-from (Some e) h =
          let t = text-made e h in
          whole-seen past whole e later ground (known-now e h) t.1 t.0 h.2 (answered-now e h) pieces beyond parsed hold
          joined leads

      pub judged-from : (last : Option Entry) → shows last → length whole ≤ length (concat pieces)
          → IsSure (last_whole None (redrawn whole last ++ later) (length (concat pieces)))
          → shown_of (seen z (past ++ texts (whole_in (redrawn whole last ++ later) (length (concat pieces)))))
          ≡ judged rows cols (last_whole None (redrawn whole last ++ later) (length (concat pieces)))
      judged-from None h long sure = absurd (none-made h)
      judged-from (Some e) h long sure =
          let t = text-made e h in
          whole-judged past whole e later ground (known-now e h) t.1 t.0 h.2 (answered-now e h)
          (length (concat pieces)) long sure

-- ---- sessions

module _ (rows cols : ℕ) (calls : List Call) (replies : List Reply) (n : ℕ) (past : List ℕ) (t : Story) (whole : List ℕ)
    (first later : List Entry) (pieces : List (List ℕ)) (parsed : List ℕ) (s : IsSession rows cols calls replies n t)
    (ground : AtGround 1024 past) (r : ReadsWhole rows cols past t whole first later pieces parsed) where
  session-seen : seen (size_of_story t) parsed
      ≡ seen (size_of_story t) (past ++ texts (whole_in (redrawn_then whole first later) (length (concat pieces))))
  session-seen =
      let h = sessions-reported rows cols calls replies n t s in
      seen-from rows cols (size_of_story t) h.height h.width past whole (base_after rows cols None first) later pieces
      parsed r.beyond r.hold ground (later-answered rows cols calls replies n t s first later r.parts) r.made r.joined r.leads
      (last_frame None first) (first-shows rows cols calls replies n t s first later r.parts)

  session-judged : length whole ≤ length (concat pieces)
      → IsSure (last_whole None (redrawn_then whole first later) (length (concat pieces)))
      → shown_of (seen (size_of_story t) parsed)
      ≡ judged rows cols (last_whole None (redrawn_then whole first later) (length (concat pieces)))
  session-judged long sure =
      let h = sessions-reported rows cols calls replies n t s in
      ap shown_of session-seen
      ∙ judged-from rows cols (size_of_story t) h.height h.width past whole (base_after rows cols None first) later pieces
      parsed r.beyond r.hold ground (later-answered rows cols calls replies n t s first later r.parts) r.made r.joined r.leads
      (last_frame None first) (first-shows rows cols calls replies n t s first later r.parts) long sure

pub wholes-lead : WholeFramesLeadFromAnything
wholes-lead rows cols calls replies n past t whole first later pieces parsed s ground r long sure =
    session-judged rows cols calls replies n past t whole first later pieces parsed s ground r long sure

pub wholes-untorn : NoWholeFrameIsTorn
wholes-untorn rows cols calls replies n past t whole first later pieces more parsed parsed' s ground r q same =
    ap shown_of (session-seen rows cols calls replies n past t whole first later (pieces ++ more) parsed' s ground q
    ∙ ap (λ es. seen (size_of_story t) (past ++ texts es)) same
    ∙ sym (session-seen rows cols calls replies n past t whole first later pieces parsed s ground r))

pub frames-end : EachFrameEndsAtGround
frames-end rows cols calls replies n t prefix back s parts =
    let h = sessions-reported rows cols calls replies n t s in
    let z = size_of_story t in
    (read-all rows cols z h.height h.width None prefix [] (read-nothing rows cols z h.height h.width)
    (answered-prefix rows cols z None prefix back (subst (AreAnswered rows cols z None) parts h.entries))).ground
