use Rattle.std.proofs.Common.{◌≡◌, ap, ◌∙◌, length}
use Rattle.std.proofs.lemmas.Iterator.{items_from_collect}
use Rattle.std.proofs.lemmas.Iterator.Adapters.{YieldsList-from_skip, YieldsList-from_vec}
use Rattle.std.specs.Iterator.Adapters.{skip_source}
use Rattle.std.specs.Vec.Iter.{into_iter_items, into_iter_len}
use Rattle.command_line.proofs.args.after_first.Goals as goal

pub returns : goal.returns
returns c =
    let from : skip_source c.skip.result ≡ c.args.args = c.skip.ensures.source in
    let len : into_iter_len (skip_source c.skip.result) ≡ length (into_iter_items c.args.args) =
    ap into_iter_len from ∙ c.args.args.rest.ok.0 in
    items_from_collect c.collect.result c.collect.ensures.ran
    (YieldsList-from_skip 1 (YieldsList-from_vec (into_iter_items c.args.args) (ap into_iter_items from) len)
    c.skip.ensures.count)
