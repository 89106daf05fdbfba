use Rattle.std.proofs.Common.{◌≡◌, ◌∙◌, ◌+◌, ◌<◌, ◌++◌, ◌∷◌, [], List, ℕ, length, take, drop, map, ap, refl, sym}
use Rattle.std.proofs.Common.{arith, inl, inr, true}
use Rattle.std.proofs.lemmas.List.{take_all}
use Rattle.std.proofs.Math.ListN.{length-set}
use Rattle.vte_core.specs.Event.{Osc}
use Rattle.vte_core.specs.Store.{pieces_of}
use Rattle.vte_core.proofs.OscLemmas.{tell_step}
use Rattle.vte_core.proofs.StopLemmas.{whole_rest}
use Rattle.vte_core.proofs.Telling.{same_step}
use Rattle.vte_core.proofs.WholeCommand.{first_piece, only_piece, first_told}
use Rattle.vte_core.proofs.osc_data.report_whole.Goals as goal

pub returns-then-len-rest : goal.returns-then-len-rest
returns-then-len-rest g c =
    let rest = c.loop-rest.rest.now in
    let k = c.piece_len-len.result in
    let before_it = c.loop-rest.invariant in
    rw (← before_it.untold) (same_step g.P.Perform.step c.loop-rest.performer c.osc_dispatch.new.self _ _
    (ap (λ ps. Osc ps true) (sym (elim c.then-len-rest.either [
      | inl all ↦
          let one : pieces_of rest ≡ take k rest ∷ [] =
          only_piece rest (λ j low. c.piece_len-len.ensures.one j (omega (arith, all, low)))
          ∙ ap (λ (s : List ℕ). s ∷ []) (sym (take_all k rest (omega (arith, all)))) in
          first_told (λ p. p.now) c.loop-rest.pieces _ c.loop-rest.count (take k rest) [] _ before_it.room before_it.few
          refl (ap (λ y. map (λ p. p.now) (take c.loop-rest.count c.loop-rest.pieces) ++ y) (sym one)
          ∙ before_it.so_far) (inl refl)
      | inr cut ↦
          let less : k < length rest = omega (arith, c.piece_len-len.ensures.within, cut.0) in
          let next = first_piece rest k less c.piece_len-len.ensures.one (c.piece_len-len.ensures.ended less) in
          first_told (λ p. p.now) c.loop-rest.pieces _ c.loop-rest.count (take k rest) (pieces_of (drop (k + 1) rest)) _
          before_it.room before_it.few refl
          (ap (λ y. map (λ p. p.now) (take c.loop-rest.count c.loop-rest.pieces) ++ y) (sym next) ∙ before_it.so_far)
          (inr cut.1)
    ]))) c.osc_dispatch.ensures)

pub loop-rest-preserved : goal.loop-rest-preserved
loop-rest-preserved g c =
    let rest = c.loop-rest.rest.now in
    let k = c.piece_len-len.result in
    let before_it = c.loop-rest.invariant in
    let less : k < length rest = omega (arith, c.piece_len-len.ensures.within, c.if-len-rest.false) in
    let next = first_piece rest k less c.piece_len-len.ensures.one (c.piece_len-len.ensures.ended less) in
    record {
      untold = before_it.untold;
      few = omega (arith, before_it.few, c.if-count-eq16.false);
      shorter = omega (arith, before_it.shorter, less);
      room = length-set _ _ _ ∙ before_it.room;
      so_far = rw (whole_rest rest (k + 1)) (tell_step (λ p. p.now) c.loop-rest.pieces _ c.loop-rest.count _ _ _
          (omega (arith, before_it.few, before_it.room)) refl
          (ap (λ y. map (λ p. p.now) (take c.loop-rest.count c.loop-rest.pieces) ++ y) (sym next) ∙ before_it.so_far));
    }
