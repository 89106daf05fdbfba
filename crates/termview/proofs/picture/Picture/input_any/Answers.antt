use Rattle.std.proofs.Common.{arith, ◌∙◌, sym, ◌≡◌, None}
use Rattle.std.proofs.lemmas.Grind.{common_steps}
use Rattle.vt100_cells.specs.Cell.{drawn_columns}
use Rattle.termview.proofs.PictureSteps.{unread, read, drops-control}
use Rattle.termview.proofs.picture.Picture.input_any.Goals as goal

pub returns-then-c-eq-REPLACEMENT_CHARACTER : goal.returns-then-c-eq-REPLACEMENT_CHARACTER
returns-then-c-eq-REPLACEMENT_CHARACTER c =
    unread c.args.self.now c.args.c (grind (arith, common_steps, c.if-c-eq-REPLACEMENT_CHARACTER.true))

pub returns-in-None : goal.returns-in-None
returns-in-None c =
    let p = c.args.self.now in
    let none : drawn_columns c.args.c ≡ None = sym c.columns.ensures ∙ c.in-None.is in
    read p p c.args.c (λ e. grind (arith, common_steps, e, c.if-c-eq-REPLACEMENT_CHARACTER.false))
    (drops-control p c.args.c none)

pub returns-in-Some-eq0 : goal.returns-in-Some-eq0
returns-in-Some-eq0 c =
    let p = c.args.self.now in
    read p c.join.new.self c.args.c (λ e. grind (arith, common_steps, e, c.if-c-eq-REPLACEMENT_CHARACTER.false))
    c.join.ensures

pub returns-in-Some : goal.returns-in-Some
returns-in-Some c =
    let p = c.args.self.now in
    read p c.print.new.self c.args.c (λ e. grind (arith, common_steps, e, c.if-c-eq-REPLACEMENT_CHARACTER.false))
    c.print.ensures
