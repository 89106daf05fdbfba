use Rattle.std.proofs.Common.{◌≡◌, ◌∙◌, sym, rules}
use Rattle.row_pictures.proofs.StyleLemmas.{are_equal, one_style}
use Rattle.row_pictures.proofs.style.Style.is_same.Goals as goal

pub returns : goal.returns
returns c =
    let same : c.eq.result ≡ are_equal c.args.self c.args.other = search rules in
    λ equal. one_style c.args.self c.args.other (sym same ∙ equal)
