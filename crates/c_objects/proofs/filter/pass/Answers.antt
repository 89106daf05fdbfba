use Rattle.c_objects.proofs.Did.{filter_did}
use Rattle.c_objects.specs.Filters.{Passes}
use Rattle.c_objects.proofs.filter.pass.Goals as goal

pub returns-in-Filter : goal.returns-in-Filter
returns-in-Filter c =
    filter_did (Passes c.args.bytes.now) _ _ _ _ c.pass_piece.type_inv c.in-Filter.is c.pass_piece.ensures
