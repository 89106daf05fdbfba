use Rattle.std.proofs.lemmas.Result.{err_from_is_err_and}
use Rattle.std.proofs.Common.{◌≡◌, ℕ, List, [], ◌∷◌, ◌++◌, take, length, arith, Err, ap, ◌∙◌}
use Rattle.relay_streams.specs.Each.{none, more, unread, refused, taken}
use Rattle.relay_streams.specs.Pieces.{piece_len}
use Rattle.relay_streams.proofs.PieceLemmas.{none_read, filled_most, filled_on, filled_last, filled_fault, filled_begun}
use Rattle.relay_streams.proofs.pieces.each_piece.Goals as goal

pub pieces-init : goal.pieces-init
pieces-init g c = record { most = omega arith; past = []; read = none_read; took = none }

pub returns-in_err-n : goal.returns-in_err-n
returns-in_err-n g c =
    let so_far = c.pieces.invariant in
    let whole : length c.pieces.piece ≡ piece_len = omega (arith, c.fill.auto.piece) in
    let fault = c.in_err-n.field-0.0 in
    let made = c.from_residual in
    let p = err_from_is_err_and made.result made.ensures.1 in
    let is : c.from_residual.result ≡ Err fault = p.1 ∙ ap Err p.2 in
    rw is (unread so_far.past _ fault
    (filled_fault c.fill.ensures whole so_far.most fault c.in_err-n.was so_far.read) so_far.took)

pub returns-in_err-take_piece : goal.returns-in_err-take_piece
returns-in_err-take_piece g c =
    let so_far = c.pieces.invariant in
    let whole : length c.pieces.piece ≡ piece_len = omega (arith, c.fill.auto.piece) in
    let n = c.in_ok-n.n in
    let piece : List ℕ = take n c.fill.new.piece in
    let fault = c.in_err-take_piece.field-0.0 in
    let made = c.from_residual-in_err-take_piece in
    let p = err_from_is_err_and made.result made.ensures.1 in
    let is : c.from_residual-in_err-take_piece.result ≡ Err fault = p.1 ∙ ap Err p.2 in
    rw is (refused c.pieces.consumer c.pieces.to so_far.past piece fault
    (filled_begun c.fill.ensures whole so_far.most n c.in_ok-n.was so_far.read) so_far.took
    c.in_err-take_piece.ensures.step)

pub returns-then-n-lt-PIECE_LEN : goal.returns-then-n-lt-PIECE_LEN
returns-then-n-lt-PIECE_LEN g c =
    let so_far = c.pieces.invariant in
    let whole : length c.pieces.piece ≡ piece_len = omega (arith, c.fill.auto.piece) in
    let n = c.in_ok-n.n in
    let piece : List ℕ = take n c.fill.new.piece in
    taken (so_far.past ++ piece ∷ [])
    (filled_last c.fill.ensures whole so_far.most n c.in_ok-n.was (omega arith) so_far.read)
    (more c.pieces.consumer c.pieces.to so_far.took c.in_ok-take_piece.ensures.step)

pub pieces-preserved : goal.pieces-preserved
pieces-preserved g c =
    let so_far = c.pieces.invariant in
    let whole : length c.pieces.piece ≡ piece_len = omega (arith, c.fill.auto.piece) in
    let n = c.in_ok-n.n in
    let piece : List ℕ = take n c.fill.new.piece in
    record {
      most = (filled_most c.fill.ensures whole so_far.most n c.in_ok-n.was).0;
      past = so_far.past ++ piece ∷ [];
      read = filled_on c.fill.ensures whole so_far.most n c.in_ok-n.was (omega arith) so_far.read;
      took = more c.pieces.consumer c.pieces.to so_far.took c.in_ok-take_piece.ensures.step;
    }

pub pieces-smaller : goal.pieces-smaller
pieces-smaller g c =
    let whole : length c.pieces.piece ≡ piece_len = omega (arith, c.fill.auto.piece) in
    let most = filled_most c.fill.ensures whole c.pieces.invariant.most c.in_ok-n.n c.in_ok-n.was in
    omega (arith, most.0, most.1)
