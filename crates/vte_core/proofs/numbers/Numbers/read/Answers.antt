use Rattle.std.proofs.Common.{◌≡◌, ◌∙◌, ap, arith, sym, subst, true, ◌+◌, ◌++◌, ◌∷◌, [], ℕ, List, take, get_or}
use Rattle.std.proofs.Common.{append_assoc}
use Rattle.std.proofs.lemmas.List.{take_more}
use Rattle.vte_core.specs.Bytes.{each, is_numeric}
use Rattle.vte_core.specs.Reading.{ReadsUpTo}
use Rattle.vte_core.proofs.PhaseLemmas.{each-more}
use Rattle.vte_core.proofs.numbers.Numbers.read.Goals as goal

pub loop-read-preserved : goal.loop-read-preserved
loop-read-preserved c =
    let bs = c.args.bytes.now in
    let i = c.loop-read.read in
    let b = get_or bs i 0 in
    let more : take (i + 1) bs ≡ take i bs ++ b ∷ [] = take_more bs i 0 c.loop-read-test.true in
    let is : is_numeric b ≡ true = sym c.is_numeric.ensures ∙ c.if-is_numeric.true in
    record {
      within = omega arith;
      numeric = ap (each is_numeric) more ∙ each-more is_numeric (take i bs) b c.loop-read.invariant.numeric is;
      reads = λ m r. subst (λ (xs : List ℕ). ReadsUpTo c.after_byte-number.new.self c.after_byte-number.result xs)
          (append_assoc m (take i bs) (b ∷ []) ∙ ap (λ (xs : List ℕ). m ++ xs) (sym more))
          (c.after_byte-number.ensures (m ++ take i bs) (c.loop-read.invariant.reads m r));
    }

pub returns-clause-reads : goal.returns-clause-reads
returns-clause-reads c = λ m r.
    let (gs, g, a, h) = c.loop-read.invariant.reads m r in
    (gs, g, a, record { params = h.params; is_open = h.is_open; many = h.many })
