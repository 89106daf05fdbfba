use Rattle.std.proofs.Common.{◌∙◌, ℕ, List, sym, subst, arith}
use Rattle.termview.specs.Picture.{ShowsPrefix}
use Rattle.termview.proofs.RunSteps.{prefix-char}
use Rattle.termview.proofs.picture.Picture.input_first.Goals as goal
use Rattle.termview.proofs.picture.Picture.input_first.Goals.{in-Some, in_default}

pub returns-clause-shown : goal.returns-clause-shown
returns-clause-shown c =
    let p = c.args.self.now in
    elim c.match-next.branch [
      | in-Some w ↦
          let q = w.input.new.self in
          rw w.self-is (subst (λ (left : List ℕ). ShowsPrefix c.args.text.now left p q) (sym c.as_str.ensures)
          (prefix-char c.args.text.now c.next.new.self.rest.now w.in-Some.c p q c.utf8.text
          (sym c.chars-chars.ensures.rest ∙ w.in-Some.ensures.steps.0) w.input.ensures))
      | in_default w ↦ absurd (omega (arith, w.in_default.ensures.steps.0, c.chars-chars.ensures.len, c.requires))
    ]
