-- What is relayed is shown.
use Rattle.std.proofs.Common.{◌≡◌, ◌∙◌, ℕ, ◌/◌, true, false, List, [], ◌∷◌, ◌++◌, length, replicate, map, Option}
use Rattle.std.proofs.Common.{None, refl, sym, ap, subst, append-nil}
use Rattle.std.specs.List.{concat, list_any}
use Rattle.std.proofs.lemmas.Bool.{or_parts}
use Rattle.vte.specs.Moves.{Gives}
use Rattle.terminal_model.specs.Term.{Size, Shown, shown_of}
use Rattle.vt100_core.specs.Picture.{grid_size}
use Rattle.screen_model.specs.Shown.{shown_state}
use Rattle.termrelay.specs.Frame.{is_unsure}
use Rattle.termrelay.specs.declared.answer.Answer.{Answer}
use Rattle.termview.specs.Seen.{seen}
use Rattle.relay_streams.specs.Frames.{state_after, idle, answered, is_overlong}
use Rattle.relay_streams.specs.Pieces.{cut_by, piece_len, pieces_of}
use Rattle.relay_streams.specs.Shown.{screen_text, sized}
use Rattle.charset_filter.specs.Lines.{all_passed, passed}
use Rattle.charset_filter.proofs.LineLemmas.{concat-passed, passed-push}
use Rattle.relay_streams.specs.Laws.{LiveIsShown, RelayedIsShown}
use Rattle.relay_streams.proofs.FrameLists.{answers_of}
use Rattle.relay_streams.proofs.LawLemmas.{given-Gives}
use Rattle.relay_streams.proofs.PieceLemmas.{concat-pieces}
use Rattle.relay_streams.proofs.SessionLemmas.{overlong-of}
use Rattle.std.proofs.Common.{take, drop}
use Rattle.std.proofs.lemmas.List.Folds.{list_any-append}
use Rattle.screen_model.specs.State.{State}
use Rattle.termrelay.specs.Answers.{answer_for}
use Rattle.termrelay.specs.declared.runs.call.Reply.TheVariants.{Attached}
use Rattle.relay_theorem.specs.History.{Story, size_of_story}
use Rattle.relay_theorem.specs.Judge.{state_at, last_frame, judged, IsSure}
use Rattle.relay_theorem.specs.Laws.{AreAnswered}
use Rattle.relay_theorem.proofs.HistoryLemmas.{sessions-reported}
use Rattle.relay_theorem.proofs.HeadlineLemmas.{IsDue, behind, held, overlong, unsure, full, difference, unchanged}
use Rattle.relay_theorem.proofs.HeadlineLemmas.{answer-due, IsReady, last-judged, wholes-shown}
use Rattle.relay_streams.specs.Sessions.{relay_calls, IsRelayed, has_overlong}
use Rattle.relay_streams.proofs.FrameLists.{entry_at, entries_after, base_of, pieces-make, entries-more, answers-more}
use Rattle.relay_streams.proofs.SessionLemmas.{frames-of, relayed-by, relays-are-pumped}

-- an answer isn't put off where no bytes wait for the client, no update is open and no frame is too long
due-ready : (z : Size) (s : State) (base : Option Shown) (a : Answer) → IsDue z s (idle base) a → s.updating ≡ false
    → is_overlong a ≡ false → IsReady a
due-ready z s base a (behind owes) ended fits = absurd (owes refl)
due-ready z s base a (held opened) ended fits = absurd (let no : true ≡ false = sym opened ∙ ended in cc)
due-ready z s base a (overlong l) ended fits = absurd (let no : true ≡ false = fits in cc)
due-ready z s base a (unsure u l) ended fits = tt
due-ready z s base a (full u l) ended fits = tt
due-ready z s base a (difference u l) ended fits = tt
due-ready z s base a (unchanged b is same) ended fits = tt

answered-ready : (rows cols : ℕ) (bytes : List ℕ) (base : Option Shown) → (state_after rows cols bytes).updating ≡ false
    → is_overlong (answered rows cols bytes base) ≡ false → IsReady (answered rows cols bytes base)
unfolding answered
answered-ready rows cols bytes base ended fits =
    let s = state_after rows cols bytes in
    let z = grid_size s.shown in
    due-ready z s base (answer_for s (idle base)) (answer-due z s base [] refl) ended fits

-- the last piece
last-piece : (ns bytes : List ℕ) → (prefix : List (List ℕ)) × (p : List ℕ) × (cut_by ns bytes ≡ prefix ++ p ∷ [])
last-piece [] bytes = ([], bytes, refl)
last-piece (n ∷ ns) bytes =
    let rest = last-piece ns (drop n bytes) in
    (take n bytes ∷ rest.0, rest.1, ap (λ (ps : List (List ℕ)). take n bytes ∷ ps) rest.2)

-- the last one of some answers
fits-last : (rows cols : ℕ) (prefix : List (List ℕ)) (p : List ℕ)
    → list_any is_overlong (answers_of rows cols (prefix ++ p ∷ [])) ≡ false
    → is_overlong (answered rows cols (concat (prefix ++ p ∷ [])) (base_of rows cols prefix)) ≡ false
fits-last rows cols prefix p fits =
    let last = answered rows cols (concat (prefix ++ p ∷ [])) (base_of rows cols prefix) in
    let all = sym (list_any-append is_overlong (answers_of rows cols prefix) (last ∷ []))
    ∙ ap (λ (xs : List Answer). list_any is_overlong xs) (sym (answers-more rows cols prefix (p ∷ []))) ∙ fits in
    (or_parts (is_overlong last) false
    (or_parts (list_any is_overlong (answers_of rows cols prefix)) (list_any is_overlong (last ∷ [])) all).1).0

-- what is judged of all that is relayed is what the pieces make
pieces-judged : (rows cols key : ℕ) (prefix : List (List ℕ)) (p : List ℕ) (t : Story)
    → IsRelayed rows cols key (prefix ++ p ∷ []) t → has_overlong t ≡ false
    → is_unsure (sized rows cols) (shown_state (state_after rows cols (concat (prefix ++ p ∷ [])))) ≡ false
    → (state_after rows cols (concat (prefix ++ p ∷ []))).updating ≡ false
    → IsSure (last_frame None t.entries)
    × (judged rows cols (last_frame None t.entries) ≡ shown_state (state_after rows cols (concat (prefix ++ p ∷ []))))
pieces-judged rows cols key prefix p t r fits sure ended =
    let all : List (List ℕ) = prefix ++ p ∷ [] in
    let by = relayed-by rows cols key all t r in
    let reported = sessions-reported rows cols (relay_calls key all) (Attached key ∷ r.replies) 0 t r.session in
    let base = base_of rows cols prefix in
    let e = entry_at rows cols all base in
    let made : state_at rows cols e ≡ state_after rows cols (concat all) = pieces-make rows cols all in
    let entries : t.entries ≡ entries_after rows cols prefix ++ e ∷ [] =
    by.entries ∙ entries-more rows cols [] None prefix (p ∷ []) in
    let last = fits-last rows cols prefix p (sym (overlong-of rows cols key all t r) ∙ fits) in
    let ready = answered-ready rows cols (concat all) base ended last in
    let now = last-judged rows cols (size_of_story t) reported.height reported.width (entries_after rows cols prefix) e
    (subst (AreAnswered rows cols (size_of_story t) None) entries reported.entries) ready
    (ap (λ (s : State). is_unsure (size_of_story t) (shown_state s)) made
    ∙ ap (λ (z : Size). is_unsure z (shown_state (state_after rows cols (concat all)))) by.size ∙ sure) in
    subst (λ es. IsSure (last_frame None es)
    × (judged rows cols (last_frame None es) ≡ shown_state (state_after rows cols (concat all)))) (sym entries)
    (now.0, now.1 ∙ ap shown_state made)

-- and what an input makes that is fed in full pieces
abbrev Judged : ℕ → ℕ → Story → List ℕ → Type 0
Judged rows cols t bytes = IsSure (last_frame None t.entries)
    × (judged rows cols (last_frame None t.entries) ≡ shown_state (state_after rows cols bytes))

relayed-judged : (rows cols key : ℕ) (input : List ℕ) (t : Story) → IsRelayed rows cols key (pieces_of input) t
    → has_overlong t ≡ false → is_unsure (sized rows cols) (shown_state (state_after rows cols input)) ≡ false
    → (state_after rows cols input).updating ≡ false → Judged rows cols t input
relayed-judged rows cols key input t r fits sure ended =
    let cut = last-piece (replicate (length input / piece_len) piece_len) input in
    let whole : concat (cut.0 ++ cut.1 ∷ []) ≡ input = ap concat (sym cut.2) ∙ concat-pieces input in
    subst (Judged rows cols t) whole
    (pieces-judged rows cols key cut.0 cut.1 t
    (subst (λ (ps : List (List ℕ)). IsRelayed rows cols key ps t) cut.2 r) fits
    (ap (λ (xs : List ℕ). is_unsure (sized rows cols) (shown_state (state_after rows cols xs))) whole ∙ sure)
    (ap (λ (xs : List ℕ). (state_after rows cols xs).updating) whole ∙ ended))

pub relayed-shown : RelayedIsShown
relayed-shown rows cols input relayed text pieces is joined sure ended s =
    let t = is.story in
    let session = is.is.session in
    let judged = relayed-judged rows cols is.key input t is.is is.fits sure ended in
    let pumped = relays-are-pumped rows cols is.key (pieces_of input) t is.is in
    let shown = wholes-shown rows cols (relay_calls is.key (pieces_of input)) (Attached is.key ∷ is.is.replies) 0 t
    t.entries s.parsed s.hold session (record {
      back = [];
      parts = sym (append-nil t.entries);
      moves = map Gives pieces;
      given = given-Gives pieces ∙ joined ∙ sym is.pumped ∙ pumped.pumped;
      leads = s.leads;
    }) in
    s.text_is
    ∙ ap (λ (x : Shown). screen_text (sized rows cols) x.cell)
    (ap (λ (z : Size). shown_of (seen z s.parsed)) (sym pumped.size) ∙ shown.1 judged.0 ∙ judged.1)

pub live-shown : LiveIsShown
live-shown lines rows cols past piece parsed hold read sure ended =
    let are = read.relayed in
    let t = are.story in
    let pieces : List (List ℕ) = past ++ piece ∷ [] in
    let fed = all_passed lines pieces in
    let before = all_passed lines past in
    let here = passed lines (concat past) piece in
    let is : fed ≡ before ++ here ∷ [] = passed-push lines past piece in
    let whole : concat (before ++ here ∷ []) ≡ passed lines [] (concat pieces) =
    ap concat (sym is) ∙ concat-passed lines pieces in
    let judged = subst (Judged rows cols t) whole
    (pieces-judged rows cols are.key before here t
    (subst (λ (ps : List (List ℕ)). IsRelayed rows cols are.key ps t) is are.is) are.fits
    (ap (λ (xs : List ℕ). is_unsure (sized rows cols) (shown_state (state_after rows cols xs))) whole ∙ sure)
    (ap (λ (xs : List ℕ). (state_after rows cols xs).updating) whole ∙ ended)) in
    let pumped = relays-are-pumped rows cols are.key fed t are.is in
    let written : concat read.frames ≡ t.session.pumped =
    ap concat (frames-of rows cols fed read.frames are) ∙ sym (relayed-by rows cols are.key fed t are.is).pumped in
    let shown = wholes-shown rows cols (relay_calls are.key fed) (Attached are.key ∷ are.is.replies) 0 t t.entries
    parsed hold are.is.session (record {
      back = [];
      parts = sym (append-nil t.entries);
      moves = map Gives read.cuts;
      given = given-Gives read.cuts ∙ read.joined ∙ written ∙ pumped.pumped;
      leads = read.leads;
    }) in (
      shown.0,
      ap (λ (z : Size). shown_of (seen z parsed)) (sym pumped.size) ∙ shown.1 judged.0 ∙ judged.1,
    )
