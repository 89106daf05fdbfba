use Rattle.std.proofs.Common.{◌∙◌, ap, map, refl}
use Rattle.std.specs.String.{string_bytes}
use Rattle.command_line.proofs.CallLemmas.{also_ok, also_err, returns_with}
use Rattle.command_line.proofs.args.with_words.Goals as goal

pub returns-clause-given : goal.returns-clause-given
returns-clause-given g c = also_ok c.args.args c.in_ok-words.ensures.words (λ all is.
    returns_with g.F.FnOnce c.args.act c.args.state.now _ _ _ _ _ refl
    (ap (map (λ w. w.now)) c.deref-2.ensures.value ∙ c.in_ok-lent.ensures.lent
    ∙ ap (map string_bytes) (c.deref.ensures.value ∙ is)) c.act.ensures)

pub returns-clause-not_text : goal.returns-clause-not_text
returns-clause-not_text g c = also_err c.args.args c.in_ok-words.ensures.not_text (λ e none is. (
  returns_with g.F.FnOnce c.args.act c.args.state.now _ _ _ _ _ refl
      (ap (map (λ w. w.now)) c.deref-2.ensures.value ∙ c.in_ok-lent.ensures.lent
      ∙ ap (map string_bytes) (c.deref.ensures.value ∙ (none is).0)) c.act.ensures,
  tt,
))
