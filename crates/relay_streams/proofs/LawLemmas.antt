-- What is shown of pieces.
use Rattle.std.proofs.Common.{◌≡◌, ℕ, ◌/◌, List, [], ◌∷◌, ◌++◌, length, replicate, map, refl, sym, ap, ◌∙◌}
use Rattle.std.specs.List.{concat}
use Rattle.vte_core.proofs.GroundLemmas.{ground-nothing}
use Rattle.vte.specs.Moves.{Gives, given}
use Rattle.terminal_model.specs.Term.{Term}
use Rattle.termview.specs.Seen.{seen}
use Rattle.termview.proofs.LawLemmas.{whole_shown}
use Rattle.relay_streams.specs.Pieces.{pieces_of, piece_len}
use Rattle.relay_streams.specs.Shown.{screen_text}
use Rattle.relay_streams.specs.Laws.{TextsAreOne, WholeFramesArePrinted}
use Rattle.relay_streams.proofs.PieceLemmas.{concat-cut_by}
use Rattle.relay_streams.proofs.TakesLemmas.{one_leading}

pub given-Gives : (pieces : List (List ℕ)) → given (map Gives pieces) ≡ concat pieces
given-Gives [] = refl
given-Gives (p ∷ ps) = ap (λ zs. p ++ zs) (given-Gives ps)

pub texts_are_one : TextsAreOne
texts_are_one z pieces a b s t =
    let same = one_leading (map Gives pieces) [] _ s.parsed t.parsed s.hold t.hold s.leads t.leads in
    s.text_is ∙ ap (λ bytes. screen_text z (seen z bytes).cell) same.0 ∙ sym t.text_is

pub frames_printed : WholeFramesArePrinted
frames_printed z frames text all s =
    let bytes = concat frames in
    let all_given : given (map Gives (pieces_of bytes)) ≡ concat frames =
    given-Gives (pieces_of bytes) ∙ concat-cut_by (replicate (length bytes / piece_len) piece_len) bytes in
    let shown = whole_shown z frames (map Gives (pieces_of bytes)) [] s.parsed s.hold (ground-nothing 1024) all
    all_given s.leads in
    s.text_is ∙ ap (λ (t : Term). screen_text z t.cell) shown.0
