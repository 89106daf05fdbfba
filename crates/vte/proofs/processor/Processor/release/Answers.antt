use Rattle.std.proofs.Common.{◌≡◌, ◌∙◌, ap, take, drop}
use Rattle.vte.proofs.HoldLemmas.{printed_after}
use Rattle.vte.proofs.MarkLemmas.{none_after}
use Rattle.vte.proofs.processor.Processor.release.Goals as goal

pub returns : goal.returns
returns g c parsed held reads printed items none =
    let n = c.args.n in
    let is : c.as_slice.result.now ≡ held = c.as_slice.ensures.value ∙ items in
    let run = rw is at (c.parse.ensures.performed parsed reads) in
    record {
      state_after = record {
        has_read = rw is at (c.parse.ensures.state_after parsed reads);
        printed = printed_after parsed (take n held) printed run.printed;
        holds = c.drop_prefix.ensures.items ∙ ap (drop n) items;
        no_end = none_after n held none;
      };
      ticked = run.ticked;
      goes = rw printed at run.calls;
    }
