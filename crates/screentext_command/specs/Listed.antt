-- What is printed of a recording that is described.
use Rattle.std.specs.Prelude.{ℕ, ◌-◌, ◌/◌, ◌%◌, List, [], ◌++◌, length, replicate, codes, encode_utf8, Option, None}
use Rattle.std.specs.Prelude.{Some, false, if◌then◌else◌}
use Rattle.std.specs.Char.{is_control}
use Rattle.std.specs.Fmt.{decimal, digits}
use Rattle.std.specs.List.{flat_map}
use Rattle.std.specs.Option.{option_map}
use Rattle.std.specs.Str.{chars}
use Rattle.recordings.specs.Recorded.{Deed, Moment, marks, resizes, said, size_said, writes}
use Rattle.recordings.specs.declared.recording.Kind.{Kind}
use Rattle.recordings.specs.declared.recording.Kind.TheVariants.{Asciicast, Raw, Script, Ttyrec}
use Rattle.recordings.specs.declared.recording.Recording.{Recording}

abbrev pub kind_name : Kind → List ℕ
kind_name Asciicast = codes "asciicast"
kind_name Script = codes "script"
kind_name Ttyrec = codes "ttyrec"
kind_name Raw = codes "raw"

-- six digits
abbrev pub six_digits : ℕ → List ℕ
six_digits n = replicate (6 - length (decimal n)) 48 ++ decimal n

-- microseconds as seconds
abbrev pub seconds_text : ℕ → List ℕ
seconds_text time = decimal (time / 1000000) ++ (codes "." ++ six_digits (time % 1000000))

-- a control character as `\u{7}`, so that none reaches a terminal or ends the line
abbrev pub name_character : ℕ → List ℕ
name_character c = if is_control c then codes "\\u{" ++ (digits 16 false c ++ codes "}") else encode_utf8 c

abbrev pub name_text : List ℕ → List ℕ
name_text cs = flat_map name_character cs

abbrev pub size_line : Option (ℕ × ℕ) → List ℕ
size_line None = []
size_line (Some size) = codes "size " ++ (decimal size.0 ++ (codes " " ++ (decimal size.1 ++ codes "\n")))

-- the line of a marker, and none of another event
abbrev pub deed_line : ℕ → Deed → List ℕ
deed_line time (writes bytes) = []
deed_line time (resizes rows cols) = []
deed_line time (marks name) =
    codes "marker " ++ (seconds_text time ++ (codes " " ++ (name_text (chars name) ++ codes "\n")))

abbrev pub marker_line : Moment → List ℕ
marker_line m = deed_line m.0 m.1

-- the kind, the size at first where there is one, the length, how many events there are, and the markers
abbrev pub list_text : Recording → List ℕ
list_text r =
    codes "kind " ++ (kind_name r.kind ++ (codes "\n" ++ (size_line (option_map size_said r.size)
    ++ (codes "length " ++ (seconds_text r.length ++ (codes "\nevents " ++ (decimal (length r.events.items)
    ++ (codes "\n" ++ flat_map marker_line (said r.events.items)))))))))
