use Rattle.std.proofs.Common.{◌∙◌, ◌≤◌, ◌+◌, ◌*◌, inl, inr, refl, sym, subst, ℕ, List, length, true≢false}
use Rattle.charset_filter.specs.declared.lines.LineDrawing.TheVariants.{Drawn}
use Rattle.c_objects.proofs.Filters.{last-given}
use Rattle.c_objects.proofs.filter.pass_piece.Goals as goal

pub returns-in-Ok : goal.returns-in-Ok
returns-in-Ok c =
    let e = c.in-Ok.ensures in
    let f = c.pass.new.self in
    let bytes = c.args.bytes.now in
    inl (
      refl,
      record {
        passed = λ past has. (e.passed Drawn past has).0;
        gives = λ past has. let done = e.passed Drawn past has in last-given f bytes done.0.kind ∙ done.1;
        short = λ past has.
            let drawn = last-given f bytes (e.passed Drawn past has).0.kind in
            subst (λ (given : List ℕ). length given ≤ 8 * length bytes + 512) (sym drawn) (e.short Drawn past has);
        room = λ past has some. e.room past has some;
        keeps = e.keeps;
      },
    )

pub returns-in-Err : goal.returns-in-Err
returns-in-Err c =
    let e = c.in-Err.ensures in
    inr (
      refl,
      record {
        some = λ none. true≢false (sym (e.none none));
        full = λ past has. e.full Drawn past has;
        passed = λ past has. e.same Drawn past has;
        keeps = e.keeps;
      },
    )
