-- What a sink has gone through.
use Rattle.std.proofs.Common.{◌≡◌, List, [], ◌∷◌, ◌++◌, ℕ, ◌+◌, ◌<◌, length, drop, get_or, refl, sym, ap, ◌∙◌, subst}
use Rattle.std.proofs.Common.{add-zero}
use Rattle.std.proofs.lemmas.List.{drop-drop, get_or-drop}
use Rattle.std.specs.Prelude.{Some}
use Rattle.vt100_rows.specs.Row.{RowView, blank_row}
use Rattle.vt100_rows.specs.Sink.{TakesAll}

pub TakesAll-append : {S : Type 0} (takes : S → RowView → S → Type 0) (s t u : S) (vs ws : List RowView)
    → TakesAll takes s vs t → TakesAll takes t ws u → TakesAll takes s (vs ++ ws) u
TakesAll-append {S} takes s t u [] ws e h = subst (λ (x : S). TakesAll takes x ws u) (sym e) h
TakesAll-append takes s t u (v ∷ vs) ws p h = (p.0, p.1, TakesAll-append takes p.0 t u vs ws p.2 h)

pub TakesAll-push : {S : Type 0} (takes : S → RowView → S → Type 0) (s t u : S) (vs : List RowView) (v : RowView)
    → TakesAll takes s vs t → takes t v u → TakesAll takes s (vs ++ v ∷ []) u
TakesAll-push takes s t u vs v p h = TakesAll-append takes s t u vs (v ∷ []) p (u, h, refl)

pub TakesAll-list : {S : Type 0} (takes : S → RowView → S → Type 0) (s t : S) (vs ws : List RowView) → vs ≡ ws
    → TakesAll takes s vs t → TakesAll takes s ws t
TakesAll-list takes s t vs ws e h = subst (λ (xs : List RowView). TakesAll takes s xs t) e h

-- ---- rows that are taken from the start

pub drop-more : (rows ys zs : List RowView) (i : ℕ) → ys ≡ drop i rows → zs ≡ drop 1 ys → zs ≡ drop (i + 1) rows
drop-more rows ys zs i e f = f ∙ ap (λ (xs : List RowView). drop 1 xs) e ∙ drop-drop 1 i rows

pub first-dropped : (rows ys : List RowView) (i : ℕ) (v : RowView) → i < length rows → ys ≡ drop i rows
    → Some v ≡ Some (get_or ys 0 (blank_row 0)) → v ≡ get_or rows i (blank_row 0)
first-dropped rows ys i v h e f =
    let same : v ≡ get_or ys 0 (blank_row 0) = cc in
    same ∙ ap (λ (xs : List RowView). get_or xs 0 (blank_row 0)) e ∙ get_or-drop i rows 0 (blank_row 0)
    ∙ ap (λ k. get_or rows k (blank_row 0)) (add-zero i)
