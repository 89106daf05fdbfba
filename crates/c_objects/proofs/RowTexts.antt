-- A row's text that is sent to a vector.
use Rattle.std.proofs.Common.{◌≡◌, ◌≢◌, ◌∙◌, ℕ, List, [], ◌++◌, length, Option, Some, Ok, Err, refl, ap, arith}
use Rattle.std.specs.Global.{Vec}
use Rattle.std.specs.declared.io.Error.{Error}
use Rattle.byte_streams.specs.Pump.{Writes}
use Rattle.byte_streams.specs.Sent.{SendsText}
use Rattle.byte_streams.proofs.SendLemmas.{text-appends, text-part}

abbrev held : Vec ℕ → Option (List ℕ)
held v = Some v.items

-- an empty vector then holds the text
pub row-text : (w v : Vec ℕ) (text : List ℕ) (u : Unit {0}) → SendsText (Writes held) w text (Ok u) v → w.items ≡ []
    → v.items ≡ text
row-text w v text u sends none =
    let grown : v.items ≡ w.items ++ text =
    text-appends (Vec ℕ) (Writes held) held (λ s bytes answer t reported. reported) w v text (Ok u) sends refl in
    grown ∙ ap (λ xs. xs ++ text) none

-- sending a text to a vector fails only if there is a byte of it
pub some-text : (w v : Vec ℕ) (text : List ℕ) (e : Error) → SendsText (Writes held) w text (Err e) v → text ≢ []
some-text w v text e sends none =
    let part = text-part (Vec ℕ) (Writes held) held (λ s bytes answer t reported. reported) w v text (Err e) e sends
    refl in
    omega (arith, part.1, ap length none)
