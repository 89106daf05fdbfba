use Rattle.std.proofs.Common.{◌≡◌, ◌∙◌, ◌<◌, sym, refl, arith, false, get_or, [], take, length-take}
use Rattle.std.proofs.lemmas.Bool.Decides.{nat_tests}
use Rattle.vte_core.specs.Bytes.{is_esc}
use Rattle.vte_core.specs.Text.{char_len}
use Rattle.vte_core.proofs.Prefixes.{reads_two, reads_three, reads_byte, reads_alone, of_three, of_four, kept_three}
use Rattle.vte_core.proofs.text.Unfinished.read_malformed.Goals as goal

pub returns-in-len3-up : goal.returns-in-len3-up
returns-in-len3-up g c =
    let bs = c.args.bytes.now in
    let esc : is_esc (get_or bs 2 0) ≡ false = grind (arith, nat_tests, c.if-third-ne27.true) in
    rw c.requires.none (reads_two bs (omega (arith, c.in-len3-up.len_at_least))
    (of_three (get_or bs 0 0) c.requires.begins.begun c.if-first-ge224.true)
    c.requires.begins.goes_on (sym c.is_tail.ensures ∙ c.if-not-is_tail.true) esc c.print.ensures)

pub returns-in-len4-up : goal.returns-in-len4-up
returns-in-len4-up g c =
    let bs = c.args.bytes.now in
    let esc : is_esc (get_or bs 3 0) ≡ false = grind (arith, nat_tests, c.if-fourth-ne27.true) in
    rw c.requires.none (reads_three bs (omega (arith, c.in-len4-up.len_at_least))
    (of_four (get_or bs 0 0) c.requires.begins.begun c.if-first-ge240.true)
    c.requires.begins.goes_on (sym c.is_tail-then-first-ge240.ensures ∙ c.if-is_tail.true)
    (sym c.is_tail-then-is_tail.ensures ∙ c.if-not-is_tail-2.true) esc c.print-in-len4-up.ensures)

pub returns-in_default : goal.returns-in_default
returns-in_default g c =
    let a = get_or c.args.bytes.now 0 0 in
    let long : 1 < char_len a = c.requires.begins.begun in
    let esc : is_esc a ≡ false = grind (arith, nat_tests, long) in
    reads_byte c.args.bytes.now (omega (arith, c.requires.begins.some)) esc c.read_byte.ensures.reported
    c.read_byte.ensures.rest

pub keep-requires : goal.keep-requires
keep-requires g c =
    let bs = c.args.bytes.now in
    let kept = kept_three bs (omega (arith, c.in-len4-up.len_at_least))
    (of_four (get_or bs 0 0) c.requires.begins.begun c.if-first-ge240-2.true) c.requires.begins.goes_on
    (sym c.is_tail-then-first-ge240-2.ensures ∙ c.if-is_tail-2.true) in
    record { begun = kept.0; few = omega (arith, length-take 3 bs) }

pub returns-in-27 : goal.returns-in-27
returns-in-27 g c =
    let bs = c.args.bytes.now in
    let kept = kept_three bs (omega (arith, c.in-len4-up.len_at_least))
    (of_four (get_or bs 0 0) c.requires.begins.begun c.if-first-ge240-2.true) c.requires.begins.goes_on
    (sym c.is_tail-then-first-ge240-2.ensures ∙ c.if-is_tail-2.true) in
    rw (c.requires.none, c.keep.ensures) (reads_alone bs (take 3 bs) 3 [] (omega arith)
    (omega (arith, c.in-len4-up.len_at_least)) refl (kept.1, kept.2, kept.3) refl)
