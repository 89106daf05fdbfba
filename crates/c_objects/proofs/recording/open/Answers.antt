use Rattle.std.proofs.Common.{inl, refl}
use Rattle.recordings.specs.declared.error.RecordingError.TheVariants.{Memory}
use Rattle.c_objects.proofs.recording.open.Goals as goal

pub returns-clause-refused : goal.returns-clause-refused
returns-clause-refused c = (Memory, inl refl, refl)
