use Rattle.std.proofs.Common.{◌≡◌, ◌∙◌, ◌+◌, ◌-◌, ◌++◌, ◌∷◌, [], ℕ, List, true, ap, sym, subst, arith}
use Rattle.std.proofs.Common.{take, drop, get_or, length, length-take, length-drop, append_assoc}
use Rattle.std.proofs.lemmas.List.{take_more, get_or-drop}
use Rattle.vte_core.specs.Bytes.{each, is_header, is_numeric}
use Rattle.vte_core.specs.Phases.{ReadsHeader}
use Rattle.vte_core.proofs.PhaseLemmas.{each-append, each-more, numeric-header}
use Rattle.vte_core.proofs.Runs.{read_more, within_more}
use Rattle.vte_core.proofs.StopLemmas.{whole_rest}
use Rattle.vte_core.proofs.header.Header.read.Goals as goal

pub loop-read-init : goal.loop-read-init
loop-read-init c = record {
  within = c.read_numbers-read.ensures.within;
  header = numeric-header (take c.read_numbers-read.result c.args.bytes.now) c.read_numbers-read.ensures.numeric;
  ended = c.read_numbers-read.ensures.ended;
  reads = c.read_numbers-read.ensures.reads;
}

pub loop-read-preserved : goal.loop-read-preserved
loop-read-preserved c =
    let bs = c.args.bytes.now in
    let i = c.loop-read.read in
    let b = get_or bs i 0 in
    let k = c.read_numbers-read-in-loop-read.result in
    let numbers = c.read_numbers-read-in-loop-read.ensures in
    let inv = c.loop-read.invariant in
    let piece : List ℕ = take k (take (length bs - (i + 1)) (drop (i + 1) bs)) in
    let one : take (i + 1) bs ≡ take i bs ++ b ∷ [] = take_more bs i 0 c.loop-read-test.true in
    let more : take (i + 1 + k) bs ≡ take (i + 1) bs ++ piece = read_more bs (i + 1) k in
    let is : is_header b ≡ true = sym c.is_header.ensures ∙ c.if-is_header.true in
    let after : List ℕ = take (length bs - (i + 1)) (drop (i + 1) bs) in
    let next : get_or after k 0 ≡ get_or bs (i + 1 + k) 0 =
    ap (λ (xs : List ℕ). get_or xs k 0) (whole_rest bs (i + 1)) ∙ get_or-drop (i + 1) bs k 0 in
    record {
      within = within_more bs (i + 1) k (omega (arith, c.loop-read-test.true)) numbers.within;
      header = ap (each is_header) more ∙ each-append is_header (take (i + 1) bs) piece
          (ap (each is_header) one ∙ each-more is_header (take i bs) b inv.header is)
          (numeric-header piece numbers.numeric);
      ended = λ less. ap is_numeric (sym next) ∙ numbers.ended (omega (
        arith,
        less,
        length-take (length bs - (i + 1)) (drop (i + 1) bs),
        length-drop (i + 1) bs,
      ));
      reads = λ h r. subst (λ (xs : List ℕ). ReadsHeader c.read_numbers-read-in-loop-read.new.self xs)
          (ap (λ (xs : List ℕ). xs ++ piece) (append_assoc h (take i bs) (b ∷ [])
          ∙ ap (λ (xs : List ℕ). h ++ xs) (sym one))
          ∙ (append_assoc h (take (i + 1) bs) piece ∙ ap (λ (xs : List ℕ). h ++ xs) (sym more)))
          (numbers.reads ((h ++ take i bs) ++ b ∷ []) (c.collect.ensures (h ++ take i bs) (inv.reads h r)));
    }
