use Rattle.std.proofs.Common.{◌≡◌, ◌≤◌, ◌∙◌, ap, arith, true, List, ℕ, map, take, length, get_or, sym, subst}
use Rattle.std.proofs.lemmas.Bool.{eq-eqb}
use Rattle.std.proofs.lemmas.List.{length-take, take-take}
use Rattle.std.proofs.lemmas.Str.{chars-IsAscii}
use Rattle.std.specs.Prelude.{All}
use Rattle.std.specs.Str.{chars}
use Rattle.printable.specs.Printable.{IsPrintable}
use Rattle.printable.proofs.PrintableLemmas.{printable-ascii}
use Rattle.vte_core.specs.Bytes.{is_esc}
use Rattle.vte_core.specs.Event.{Print}
use Rattle.vte_core.proofs.Ground.{printable-run, text_end}
use Rattle.vte_core.proofs.Telling.{same_events}
use Rattle.vte_core.proofs.text.Unfinished.read_inline.Goals as goal

-- a number of the first eight bytes
few : (bs : List ℕ) (k : ℕ) → k ≤ length (take 8 bs) → k ≤ 8
few bs k within = omega (arith, within, length-take 8 bs)

of_eight : (bs : List ℕ) (k : ℕ) → k ≤ length (take 8 bs) → All IsPrintable (take k (take 8 bs))
    → All IsPrintable (take k bs)
of_eight bs k within printable =
    subst (λ (xs : List ℕ). All IsPrintable xs) (take-take k 8 bs (few bs k within)) printable

pub returns-clause-len : goal.returns-clause-len
returns-clause-len g c = λ some.
    let bs = c.args.bytes.now in
    let k = c.printable_len-len.result in
    let within = c.printable_len-len.ensures.within in
    let esc : is_esc (get_or bs k 0) ≡ true = eq-eqb (get_or bs k 0) 0x1B c.if-bytes-len-ne27.false in
    text_end bs k (omega (arith, few bs k within, c.requires.room))
    (printable-run (take k bs) (of_eight bs k within c.printable_len-len.ensures.printable)).2 (λ less. esc)

pub returns-clause-reported : goal.returns-clause-reported
returns-clause-reported g c =
    let bs = c.args.bytes.now in
    let k = c.printable_len-len.result in
    let prefix : List ℕ = take k bs in
    let printable = of_eight bs k c.printable_len-len.ensures.within c.printable_len-len.ensures.printable in
    let spelt : chars c.ascii_text.result.now ≡ prefix = ap chars c.ascii_text.ensures
    ∙ chars-IsAscii prefix (printable-ascii prefix printable) in
    same_events g.P.Perform.step c.args.performer.now c.print_ascii.new.self _ _
    (ap (map Print) spelt ∙ sym (printable-run prefix printable).0) c.print_ascii.ensures

pub returns-clause-rest : goal.returns-clause-rest
returns-clause-rest g c =
    let bs = c.args.bytes.now in
    let k = c.printable_len-len.result in
    (printable-run (take k bs)
    (of_eight bs k c.printable_len-len.ensures.within c.printable_len-len.ensures.printable)).1
