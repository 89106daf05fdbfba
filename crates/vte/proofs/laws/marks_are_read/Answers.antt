use Rattle.vte.proofs.FrameMarks.{start_opens_at, begun_calls, start_calls, end_none, end_calls, ground_start}
use Rattle.vte.proofs.FrameMarks.{ground_end}
use Rattle.vte.proofs.laws.marks_are_read.Goals as goal

pub returns-clause-opens : goal.returns-clause-opens
returns-clause-opens c = start_opens_at

pub returns-clause-start : goal.returns-clause-start
returns-clause-start c = λ past g. (λ count h. begun_calls past count g h, start_calls past g)

pub returns-clause-end : goal.returns-clause-end
returns-clause-end c = λ past. (end_none past, end_calls past)

pub returns-clause-whole : goal.returns-clause-whole
returns-clause-whole c = λ past. (ground_start past, ground_end past)
