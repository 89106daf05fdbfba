use Rattle.std.proofs.Common.{◌≡◌, ◌<◌, ℕ, List, [], ◌∷◌, ◌++◌, ◌+◌, drop, length, get_or, sym, ap, ◌∙◌, append_assoc}
use Rattle.std.proofs.Common.{add-one, drop-cons, refl, subst}
use Rattle.std.proofs.lemmas.List.{drop_all}
use Rattle.relay_streams.specs.Led.{Led}
use Rattle.relay_streams.specs.Pieces.{cut_by}
use Rattle.relay_streams.proofs.PieceLemmas.{cut-one}
use Rattle.relay_streams.proofs.ViewLemmas.{not_led, led_on}
use Rattle.relay_streams.proofs.far.give_pieces.Goals as goal

pub loop-cut-init : goal.loop-cut-init
loop-cut-init c = record { past = []; led = not_led c.args.view.now; follows = refl }

pub loop-cut-preserved : goal.loop-cut-preserved
loop-cut-preserved c =
    let so_far = c.loop-cut.invariant in
    let left = c.loop-cut.left.now in
    let cuts = c.args.cuts.now in
    let i = c.loop-cut.cut-index in
    let m = c.min.result in
    let piece = c.split_at.result.0.now in
    let rest = c.split_at.result.1.now in
    let more : i < length cuts = c.loop-cut-test.true in
    let at : drop i cuts ≡ get_or cuts i 0 ∷ drop (i + 1) cuts = rw add-one (drop-cons cuts i 0 more) in
    let next : cut_by (drop i cuts) left ≡ piece ∷ cut_by (drop (i + 1) cuts) rest =
    cut-one cuts i (get_or cuts i 0) m left at c.min.ensures
    ∙ ap (λ (zs : List ℕ). zs ∷ cut_by (drop (i + 1) cuts) (drop m left)) (sym c.split_at.ensures.front)
    ∙ ap (λ (zs : List ℕ). piece ∷ cut_by (drop (i + 1) cuts) zs) (sym c.split_at.ensures.back) in
    record {
      past = so_far.past ++ piece ∷ [];
      led = led_on c.args.view.now c.loop-cut.view c.advance.new.self so_far.past piece so_far.led
          (λ parsed hold at. c.advance.ensures.exact parsed hold c.until_cleared_is_exact.ensures at);
      follows = so_far.follows ∙ ap (λ (ps : List (List ℕ)). so_far.past ++ ps) next
          ∙ sym (append_assoc so_far.past (piece ∷ []) (cut_by (drop (i + 1) cuts) rest));
    }

pub returns : goal.returns
returns c =
    let so_far = c.loop-cut.invariant in
    let left = c.loop-cut.left.now in
    let cuts = c.args.cuts.now in
    let none : drop c.loop-cut.cut-index cuts ≡ [] = drop_all c.loop-cut.cut-index cuts c.loop-cut-test.false in
    let whole : cut_by cuts c.args.bytes.now ≡ so_far.past ++ left ∷ [] =
    so_far.follows ∙ ap (λ (ks : List ℕ). so_far.past ++ cut_by ks left) none in
    subst (λ (ps : List (List ℕ)). Led c.args.view.now ps c.advance-2.new.self) (sym whole)
    (led_on c.args.view.now c.loop-cut.view c.advance-2.new.self so_far.past left so_far.led
    (λ parsed hold at. c.advance-2.ensures.exact parsed hold c.until_cleared_is_exact.ensures at))
