-- The final value of a word whose object was lent.
use Rattle.std.specs.Prelude.{Option, Some}
use Rattle.std.specs.Borrow.{Lends, LendsIf, MutBor, Fml}
use Rattle.c_objects.specs.declared.object.Object.{Object}
use Rattle.c_objects.specs.contracts.object.Object.{the_row as object_row}
use Rattle.jeihpal_c.specs.declared.word.Word.{Word}
use Rattle.jeihpal_c.specs.contracts.word.Word.{the_row as word_row}

-- the word w, if it holds x
abbrev pub with_object : Word → Object → Word
with_object w x = record w { held = Some x }

-- the word finally holds the last value of the object that r borrows
abbrev pub LendsObject : MutBor Word → MutBor Object → Fml
LendsObject w r = Lends word_row object_row w r (with_object w.now)

-- the word finally holds the last value of the object that r borrows, or is as before if r is `None`
abbrev pub LendsIfHeld : MutBor Word → Option (MutBor Object) → Fml
LendsIfHeld w r = LendsIf word_row object_row w r (with_object w.now) w.now
