use Rattle.std.proofs.Common.{◌≡◌, ◌∙◌, ◌+◌, ◌-◌, ◌++◌, ◌∷◌, ap, arith, List, ℕ, [], true, false, map, take, drop}
use Rattle.std.proofs.Common.{get_or, length}
use Rattle.std.proofs.lemmas.Bool.Decides.{nat_tests}
use Rattle.std.proofs.lemmas.List.{take_more}
use Rattle.vte_core.specs.Bytes.{is_esc, is_c0}
use Rattle.vte_core.specs.Event.{Execute}
use Rattle.vte_core.proofs.Prefixes.{reads_alone}
use Rattle.vte_core.proofs.Runs.{read_more, within_more}
use Rattle.vte_core.proofs.Ground.{c0-run}
use Rattle.vte_core.proofs.text.Unfinished.read_at_boundary.Goals as goal

pub returns-then-bytes-lt32 : goal.returns-then-bytes-lt32
returns-then-bytes-lt32 g c =
    let bs = c.args.bytes.now in
    let b = get_or bs 0 0 in
    let k = c.execute_controls.result in
    let rest : List ℕ = take k (take (length bs - 1) (drop 1 bs)) in
    let one : take 1 bs ≡ b ∷ [] = take_more bs 0 0 c.requires.some in
    let prefix : take (1 + k) bs ≡ b ∷ rest = read_more bs 1 k ∙ ap (λ (xs : List ℕ). xs ++ rest) one in
    let esc : is_esc b ≡ false = c.requires.text in
    let is : is_c0 b ≡ true = grind (arith, nat_tests, c.if-bytes-lt32.true, esc) in
    let r = c0-run (b ∷ rest) (rw is c.execute_controls.ensures.all) in
    let within = within_more bs 1 k c.requires.some c.execute_controls.ensures.within in
    rw c.requires.none (reads_alone bs (b ∷ rest) (1 + k) (map Execute (b ∷ rest)) (omega arith) within prefix r
    (c.execute.new.self, c.execute.ensures, c.execute_controls.ensures.reported))
