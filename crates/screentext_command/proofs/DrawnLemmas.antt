-- Events through a filter, one more after others.
use Rattle.std.proofs.Common.{◌≡◌, ◌∙◌, ℕ, List, [], ◌∷◌, ◌++◌, refl, sym, ap, append_assoc}
use Rattle.std.proofs.lemmas.List.{append-nil}
use Rattle.recordings.specs.Recorded.{Deed, Moment}
use Rattle.screentext_command.specs.Drawn.{drawn_after, drawn_deed, written}

-- the bytes that events write
abbrev pub outputs : List Moment → List ℕ
outputs [] = []
outputs (m ∷ ms) = written m.1 ++ outputs ms

pub outputs-append : (xs ys : List Moment) → outputs (xs ++ ys) ≡ outputs xs ++ outputs ys
outputs-append [] ys = refl
outputs-append (x ∷ xs) ys =
    ap (λ zs. written x.1 ++ zs) (outputs-append xs ys) ∙ sym (append_assoc (written x.1) (outputs xs) (outputs ys))

pub drawn_after-append : (past : List ℕ) (xs ys : List Moment)
    → drawn_after past (xs ++ ys) ≡ drawn_after past xs ++ drawn_after (past ++ outputs xs) ys
drawn_after-append past [] ys = ap (λ p. drawn_after p ys) (sym (append-nil past))
drawn_after-append past (x ∷ xs) ys =
    ap (λ zs. (x.0, drawn_deed past x.1) ∷ zs) (drawn_after-append (past ++ written x.1) xs ys
    ∙ ap (λ p. drawn_after (past ++ written x.1) xs ++ drawn_after p ys) (append_assoc past (written x.1) (outputs xs)))

-- one more event
pub outputs-more : (xs : List Moment) (time : ℕ) (deed : Deed)
    → outputs xs ++ written deed ≡ outputs (xs ++ (time, deed) ∷ [])
outputs-more xs time deed =
    ap (λ zs. outputs xs ++ zs) (sym (append-nil (written deed))) ∙ sym (outputs-append xs ((time, deed) ∷ []))

pub drawn_after-more : (xs : List Moment) (time : ℕ) (deed : Deed)
    → drawn_after [] (xs ++ (time, deed) ∷ []) ≡ drawn_after [] xs ++ (time, drawn_deed (outputs xs) deed) ∷ []
drawn_after-more xs time deed = drawn_after-append [] xs ((time, deed) ∷ [])
