use Rattle.std.proofs.Common.{ℕ, ◌∷◌, ◌++◌, [], List, Some, None, refl, subst, rules}
use Rattle.recordings.specs.Recorded.{IsStateAfter, resizes, writes}
use Rattle.recordings.specs.declared.timeline.Pace.TheVariants.{FromLast}
use Rattle.recordings.proofs.TypescriptLemmas.{bytes_skipped, bytes_taken}
use Rattle.recordings.proofs.typescript.push_step.Goals as goal

pub returns-in_ok-push-in-Some : goal.returns-in_ok-push-in-Some
returns-in_ok-push-in-Some c =
    let same = c.in_ok-to_vec-in-Some.ensures.items_if_clones_equal (search rules) in (
      (c.in-Output.time, Some (writes c.in-Some.bytes.now)),
      rw c.in-Output.is (bytes_taken c.args.left.now c.in-Some.bytes.now c.in-Some.after.now c.in-Output.time
          c.in-Output.count
          (search rules) (search rules) (search rules)),
      λ rows h. subst (λ (bs : List ℕ). IsStateAfter FromLast (rows ++ (c.in-Output.time, Some (writes bs)) ∷ [])
          c.push.new.self)
          same (c.in_ok-push-in-Some.ensures FromLast rows h),
    )

pub returns-in_ok-push-in-Resize : goal.returns-in_ok-push-in-Resize
returns-in_ok-push-in-Resize c = (
  (c.in-Resize.time, Some (resizes c.in-Resize.size.rows.value c.in-Resize.size.cols.value)),
  rw c.in-Resize.is refl,
  λ rows h. c.in_ok-push-in-Resize.ensures FromLast rows h,
)

pub returns-in_ok-push-in-Other : goal.returns-in_ok-push-in-Other
returns-in_ok-push-in-Other c = (
  (c.in-Other.time, None),
  rw c.in-Other.is refl,
  λ rows h. c.in_ok-push-in-Other.ensures FromLast rows h,
)

pub returns-in_ok-push-in-Some-split_at_checked : goal.returns-in_ok-push-in-Some-split_at_checked
returns-in_ok-push-in-Some-split_at_checked c = (
  (c.in-Skip.time, None),
  rw c.in-Skip.is (bytes_skipped c.args.left.now c.in-Some-split_at_checked.after.now c.in-Skip.time c.in-Skip.count
      (search rules) (search rules)),
  λ rows h. c.in_ok-push-in-Some-split_at_checked.ensures FromLast rows h,
)
