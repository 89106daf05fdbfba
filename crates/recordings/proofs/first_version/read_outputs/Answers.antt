use Rattle.std.proofs.Common.{rules, ◌≡◌, ◌∙◌, ◌++◌, ◌∷◌, [], Some, ap, sym, arith}
use Rattle.serde_json.specs.View.{view}
use Rattle.recordings.specs.FirstVersion.{output_in}
use Rattle.recordings.specs.Recorded.{Row, writes}
use Rattle.recordings.specs.declared.timeline.Pace.TheVariants.{FromLast}
use Rattle.recordings.proofs.FirstLemmas.{outputs-more}
use Rattle.recordings.proofs.first_version.read_outputs.Goals as goal

pub loop-output-preserved : goal.loop-output-preserved
loop-output-preserved c =
    let (done, after, so) = c.loop-output.invariant in
    let row : Row = (c.in-Some.time, Some (writes c.in_ok-bytes.bytes.items)) in
    let same : c.in_ok-bytes.bytes.items ≡ c.in-Some.text.now = search rules in
    let is : output_in (view c.output-item.result) ≡ Some row =
    sym c.in-Some.ensures ∙ ap (λ bytes. Some (c.in-Some.time, Some (writes bytes))) (sym same) in (
      done ++ row ∷ [],
      c.in_ok-push.ensures FromLast done after,
      outputs-more c.args.outputs.now c.loop-output.output-index _ done row (omega arith)
          (ap (λ v. output_in (view v)) (sym c.output-item.is) ∙ is) so,
    )
