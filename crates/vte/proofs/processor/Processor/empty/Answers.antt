use Rattle.std.proofs.Common.{◌≡◌, ◌∙◌, ◌∷◌, [], refl}
use Rattle.vte.specs.Timeout.{Clears}
use Rattle.vte.specs.Stretch.{ticks_from}
use Rattle.vte.proofs.RunLemmas.{Ticked-append}
use Rattle.vte.proofs.HoldLemmas.{printed_after, closed_calls}
use Rattle.vte.proofs.MarkLemmas.{none_in_empty}
use Rattle.vte.proofs.processor.Processor.empty.Goals as goal

pub returns : goal.returns
returns g c parsed held reads printed items =
    let is : c.as_slice.result.now ≡ held = c.as_slice.ensures.value ∙ items in
    let run = rw is at (c.parse.ensures.performed parsed reads) in
    record {
      state_after = record {
        has_read = rw is at (c.parse.ensures.state_after parsed reads);
        printed = printed_after parsed held printed run.printed;
        holds = c.clear.ensures.items;
        no_end = none_in_empty;
      };
      ticked = Ticked-append g.T.Timeout.ticking _ _ _ (ticks_from parsed held) (Clears
          ∷ []) run.ticked (c.clear_timeout.new.self, c.clear_timeout.ensures, refl);
      goes = closed_calls g.H.Handler.step _ _ _ parsed held (rw printed at run.calls) c.unset_private_mode.ensures;
    }
