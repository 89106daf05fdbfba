use Rattle.std.proofs.Common.{◌≡◌, ◌++◌, Result, Ok, Err, OnOk}
use Rattle.std.specs.Prelude.{string_bytes}
use Rattle.std.proofs.lemmas.Fmt.{contents_after_writes}
use Rattle.vt100_capture.specs.Capture.{captured_row}
use Rattle.c_objects.proofs.told.append.Goals as goal

on-ok : {T E A B : Type 0} → (r : Result T E) → (A → B) → OnOk r A → OnOk r B
on-ok (Ok x) f h = f h
on-ok (Err e) f h = tt

pub returns-clause-text : goal.returns-clause-text
returns-clause-text c =
    on-ok c.write_formatted_basic.result
    (contents_after_writes (λ s bs t. string_bytes t ≡ string_bytes s ++ bs) string_bytes (λ w bs v h. h)
    c.args.text.now (captured_row c.args.state.now c.args.row.now) c.write_formatted_basic.new.writer)
    c.write_formatted_basic.ensures.text
