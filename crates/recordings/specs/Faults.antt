-- What is reported of a fault.
use Rattle.std.specs.Prelude.{List, ℕ, ◌++◌, codes}
use Rattle.std.specs.Fmt.{decimal}
use Rattle.recordings.specs.declared.error.RecordingError.{RecordingError}
use Rattle.recordings.specs.declared.error.RecordingError.TheVariants.{Byte, Header, Line, Memory, NoTiming, Packed}
use Rattle.recordings.specs.declared.error.RecordingError.TheVariants.{Step}
use Rattle.recordings.specs.declared.error.Packer.TheVariants.{Bzip2, Gzip, Xz, Zstd}

abbrev pub fault_text : RecordingError → List ℕ
fault_text Memory = codes "memory"
fault_text Header = codes "line 1: not a header of an asciicast"
fault_text (Line n) = codes "line " ++ (decimal n ++ codes ": not an event of asciicast")
fault_text (Byte n) = codes "byte " ++ (decimal n ++ codes ": not a frame of ttyrec")
fault_text (Step n) = codes "line " ++ (decimal n ++ codes " of the timing file: not a step of the typescript")
fault_text NoTiming = codes "a typescript needs its timing file: --timing FILE"
fault_text (Packed Gzip) = codes "compressed by gzip: use `zcat FILE |`"
fault_text (Packed Bzip2) = codes "compressed by bzip2: use `bzcat FILE |`"
fault_text (Packed Xz) = codes "compressed by xz: use `xzcat FILE |`"
fault_text (Packed Zstd) = codes "compressed by zstd: use `zstdcat FILE |`"
