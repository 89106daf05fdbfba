use Rattle.std.proofs.Common.{◌∷◌, ap, arith, refl, [], take, ◌<◌, length, length-take}
use Rattle.vte_core.proofs.Prefixes.{reads_alone, c1-run, whole-reported}
use Rattle.vte_core.specs.Text.{char_event}
use Rattle.vte_core.proofs.Telling.{same_step}
use Rattle.vte_core.proofs.text.Unfinished.read_character.Goals as goal

pub returns-in-Some : goal.returns-in-Some
returns-in-Some g c =
    rw c.requires.none (reads_alone c.args.bytes.now (0xC2 ∷ c.in-Some.control ∷ []) 2 _ (omega arith)
    (omega (arith, c.requires.begins.some)) c.in-Some.ensures.1
    (c1-run c.in-Some.control c.in-Some.ensures.0) (c.execute.new.self, c.execute.ensures, refl))

pub returns-then-ends_text : goal.returns-then-ends_text
returns-then-ends_text g c =
    let bs = c.args.bytes.now in
    let k = c.begun_len-len.result in
    let long : 1 < length (take k bs) = omega (
      arith,
      c.begun_len-len.ensures.long (omega arith),
      c.begun_len-len.ensures.within,
      length-take k bs,
    ) in
    rw c.requires.none (reads_alone bs (take k bs) k _ (omega arith) c.begun_len-len.ensures.within refl
    (whole-reported (take k bs) (c.begun_len-len.ensures.whole (omega arith)) long) (
      c.report.new.performer,
      same_step g.P.Perform.step c.args.performer.now c.report.new.performer _ _
          (ap char_event c.character.ensures) c.report.ensures,
      refl,
    ))
