use Rattle.std.proofs.Common.{◌≡◌, drop}
use Rattle.std.specs.List.{list_any}
use Rattle.relay_theorem.specs.Isolation.{is_out_of_memory}
use Rattle.relay_streams.proofs.far.ran_out_of_memory.Given as goal

-- whether there was one depends on the replies that are left
abbrev pub invariant-loop-reply : goal.invariant-loop-reply
invariant-loop-reply l = list_any is_out_of_memory (drop l.reply-index l.replies)
    ≡ list_any is_out_of_memory l.replies
