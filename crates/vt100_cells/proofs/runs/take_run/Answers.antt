use Rattle.std.proofs.Common.{◌<◌, ◌≤◌, ◌+◌, rules, ◌≡◌, ◌∙◌, ◌++◌, ◌∷◌, [], ℕ, List, length, map, append_assoc}
use Rattle.std.proofs.Common.{length-append, ap, sym, subst}
use Rattle.std.proofs.Common.{arith}
use Rattle.std.specs.Prelude.{All}
use Rattle.std.specs.Str.{chars}
use Rattle.std.proofs.lemmas.List.{map-append}
use Rattle.std.proofs.lemmas.List.Elements.{All-push}
use Rattle.vt100_cells.specs.Runs.{IsShown}
use Rattle.vt100_cells.proofs.runs.take_run.Goals as goal

pub loop-rest-preserved : goal.loop-rest-preserved
loop-rest-preserved g c =
    let code = g.G.Glyph.code in
    let takes = g.G.Glyph.Takes g.row.COLUMNS in
    let xs = c.loop-rest.run.items in
    let x = c.in-Some.glyph in
    let left = c.in-Some.left.now in
    let pushed : c.push.new.self.items ≡ xs ++ x ∷ [] = search rules in
    let first : chars c.loop-rest.rest.now ≡ code x ∷ chars left = search rules in
    let drawn : takes x = search rules in
    let shown : IsShown (code x) = search rules in
    let codes : map code c.push.new.self.items ≡ map code xs ++ code x ∷ [] =
    ap (map code) pushed ∙ map-append code xs (x ∷ []) in
    let parts : chars c.args.text.now ≡ map code c.push.new.self.items ++ chars left =
    c.loop-rest.invariant.parts ∙ ap (λ (ys : List ℕ). map code xs ++ ys) first
    ∙ sym (append_assoc (map code xs) (code x ∷ []) (chars left)) ∙ ap (λ (ys : List ℕ). ys ++ chars left)
    (sym codes) in
    let count : length c.push.new.self.items ≡ length xs + 1 = ap length pushed ∙ length-append xs (x ∷ []) in
    let less : length left < length c.loop-rest.rest.now = search rules in
    let shorter : length left + length c.push.new.self.items ≤ length c.args.text.now =
    omega (arith, count, less, c.loop-rest.invariant.shorter) in
    record {
      text = search rules;
      parts = search rules;
      shorter = search rules;
      drawn = subst (All takes) (sym pushed) (All-push takes xs x c.loop-rest.invariant.drawn drawn);
      shown = subst (All IsShown) (sym codes)
          (All-push IsShown (map code xs) (code x) c.loop-rest.invariant.shown shown);
    }
