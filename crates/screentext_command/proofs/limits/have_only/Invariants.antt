use Rattle.std.proofs.Common.{◌≡◌, drop}
use Rattle.std.specs.List.{list_all}
use Rattle.screentext_command.specs.Limits.{is_event_within}
use Rattle.screentext_command.proofs.limits.have_only.Given as goal

-- whether all are small depends on the events that are left
abbrev pub invariant-loop-event : goal.invariant-loop-event
invariant-loop-event l =
    list_all (is_event_within l.most) (drop l.event-index l.events) ≡ list_all (is_event_within l.most) l.fn.events
