use Rattle.std.proofs.Common.{List, ℕ, ◌++◌, [], take, drop, map, codes, length, refl, ◌-◌, Bor, get_or}
use Rattle.std.specs.List.{flat_map}
use Rattle.c_objects.specs.Requests.{osc_text}
use Rattle.c_objects.proofs.Drafts.{drafted_first, drafted_next}
use Rattle.c_objects.proofs.told.push_osc.Goals as goal

abbrev left : List (Bor (List ℕ)) → List ℕ
left ps = flat_map (λ (y : List ℕ). codes ";" ++ y) (map (λ p. p.now) ps)

abbrev whole : List (Bor (List ℕ)) → List ℕ
whole ps = osc_text (map (λ p. p.now) ps)

abbrev none : Bor (List ℕ)
none = record { ref_ptr = (0, 0); now = [] }

pub loop-piece-init : goal.loop-piece-init
loop-piece-init c =
    drafted_first (λ p. p.now) left whole c.args.pieces.now none c.args.draft.now c.push.new.self
    c.in-len1-up.len_at_least (λ p ps. refl) c.push.ensures

pub loop-piece-preserved : goal.loop-piece-preserved
loop-piece-preserved c =
    let rest = take (length c.args.pieces.now - 1) (drop 1 c.args.pieces.now) in
    drafted_next left rest c.loop-piece.piece-index none (codes ";") (get_or rest c.loop-piece.piece-index none).now
    c.loop-piece.draft c.push-in-loop-piece.new.self c.push-in-loop-piece-2.new.self
    (c.args.draft.now ++ whole c.args.pieces.now) c.loop-piece-test.true refl
    c.push-in-loop-piece.ensures c.push-in-loop-piece-2.ensures c.loop-piece.invariant
