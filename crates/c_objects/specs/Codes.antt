-- The numbers that calls return: 0 or more for success, less than 0 for a refusal.
use Rattle.std.specs.Prelude.{ℤ, pos, negsuc, Ok, Err, Result}
use Rattle.termrelay.specs.declared.answer.Answer.{Answer}
use Rattle.termrelay.specs.declared.answer.Answer.TheVariants.{Full, Difference, Unsure, Unchanged, Behind, Held}
use Rattle.termrelay.specs.declared.answer.Answer.TheVariants.{TooLong}
use Rattle.termrelay.specs.declared.error.HubError.{HubError}
use Rattle.termrelay.specs.declared.error.HubError.TheVariants.{Memory, Failed, UnknownClient, Write}
use Rattle.vt100.specs.declared.error.ScreenError.{ScreenError}
use Rattle.vt100.specs.declared.error.ScreenError.TheVariants as screen

-- 0, and -1 to -8
abbrev pub ok : ℤ
ok = pos 0

abbrev pub closed : ℤ
closed = negsuc 0

abbrev pub other_kind : ℤ
other_kind = negsuc 1

abbrev pub bad_size : ℤ
bad_size = negsuc 2

abbrev pub memory : ℤ
memory = negsuc 3

abbrev pub failed : ℤ
failed = negsuc 4

abbrev pub unknown_client : ℤ
unknown_client = negsuc 5

abbrev pub not_owed : ℤ
not_owed = negsuc 6

abbrev pub no_cell : ℤ
no_cell = negsuc 7

-- and -10 to -13
abbrev pub no_header : ℤ
no_header = negsuc 9

abbrev pub compressed : ℤ
compressed = negsuc 10

abbrev pub no_event : ℤ
no_event = negsuc 11

abbrev pub too_large : ℤ
too_large = negsuc 12

-- the number of a refusal is less than 0
abbrev pub IsRefusal : ℤ → Type 0
IsRefusal (pos n) = ⊥
IsRefusal (negsuc n) = Unit {0}

-- no call here uses a writer that can fail
abbrev pub refusal_code : HubError → ℤ
refusal_code Memory = memory
refusal_code Failed = failed
refusal_code UnknownClient = unknown_client
refusal_code (Write e) = negsuc 8

abbrev pub code_of : Result (Unit {0}) HubError → ℤ
code_of (Ok u) = ok
code_of (Err e) = refusal_code e

abbrev pub answer_code : Answer → ℤ
answer_code Unchanged = pos 0
answer_code Behind = pos 1
answer_code Held = pos 2
answer_code TooLong = pos 3
answer_code Full = pos 4
answer_code Difference = pos 5
answer_code Unsure = pos 6

abbrev pub frame_code : Result Answer HubError → ℤ
frame_code (Ok answer) = answer_code answer
frame_code (Err e) = refusal_code e

abbrev pub screen_refusal : ScreenError → ℤ
screen_refusal screen.Memory = memory
screen_refusal screen.Failed = failed

abbrev pub screen_code : Result (Unit {0}) ScreenError → ℤ
screen_code (Ok u) = ok
screen_code (Err e) = screen_refusal e
