use Rattle.std.proofs.Common.{◌≡◌, ◌∙◌, ◌++◌, ap, append_assoc, codes, ℕ, List, [], Option, subst, sym}
use Rattle.std.specs.Fmt.{decimal}
use Rattle.std.specs.Option.{option_map_or}
use Rattle.byte_streams.specs.Sent.{SendsText}
use Rattle.screentext_command.proofs.reasons.tell_reason.Goals as goal

-- the parts of a line, one after another
joined : (before digits after end : List ℕ) → before ++ (digits ++ (after ++ (end ++ codes "\n")))
    ≡ (before ++ (digits ++ (after ++ end))) ++ codes "\n"
joined before digits after end =
    sym (append_assoc before (digits ++ (after ++ end)) (codes "\n") ∙ ap (λ xs. before ++ xs)
    (append_assoc digits (after ++ end) (codes "\n") ∙ ap (λ xs. digits ++ xs) (append_assoc after end (codes "\n"))))

pub returns-in-Some : goal.returns-in-Some
returns-in-Some g c =
    let r = c.args.reason in
    let line = joined r.before.now c.format-digits.result.now r.after.now r.end.now
    ∙ (ap (λ digits. (r.before.now ++ (digits ++ (r.after.now ++ r.end.now))) ++ codes "\n")
    c.format-digits.ensures.text
    ∙ ap (λ (o : Option ℕ). (r.before.now ++ (option_map_or decimal o [] ++ (r.after.now ++ r.end.now))) ++ codes "\n")
    (sym c.in-Some.is)) in
    let sent = c.tell.ensures in (
      sent.0,
      subst (λ (xs : List ℕ). SendsText g.V.ByteSink.takes c.args.errors.now (codes "screentext: " ++ xs) sent.0
          c.tell.new.errors) line sent.1,
    )

pub returns-in-None : goal.returns-in-None
returns-in-None g c =
    let r = c.args.reason in
    let line = joined r.before.now [] r.after.now r.end.now
    ∙ ap (λ (o : Option ℕ). (r.before.now ++ (option_map_or decimal o [] ++ (r.after.now ++ r.end.now))) ++ codes "\n")
    (sym c.in-None.is) in
    let sent = c.tell-in-None.ensures in (
      sent.0,
      subst (λ (xs : List ℕ). SendsText g.V.ByteSink.takes c.args.errors.now (codes "screentext: " ++ xs) sent.0
          c.tell-in-None.new.errors) line sent.1,
    )
