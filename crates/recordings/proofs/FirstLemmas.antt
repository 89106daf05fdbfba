-- The outputs of an asciicast of version 1, one after another.
use Rattle.std.proofs.Common.{◌≡◌, ◌∙◌, ◌<◌, ◌≤◌, ◌+◌, ℕ, suc, List, [], ◌∷◌, ◌++◌, length, drop, get_or, refl, sym, ap}
use Rattle.std.proofs.Common.{Option, Some, None, arith, add-one, drop-cons, append_assoc, append-nil}
use Rattle.std.specs.Prelude.{option_and_then}
use Rattle.std.specs.Option.{option_map}
use Rattle.std.proofs.lemmas.List.{drop_all}
use Rattle.serde_json.specs.View.{items_view, view}
use Rattle.serde_json.specs.declared.value.Value.{Value}
use Rattle.recordings.specs.FirstVersion.{output_in, output_of_items, rows_of_outputs}
use Rattle.recordings.specs.Recorded.{Row}

-- what these outputs say
abbrev pub outputs_of : List Value → Option (List Row)
outputs_of vs = rows_of_outputs (items_view vs)

-- some rows, and then others if there are any
abbrev pub followed : List Row → Option (List Row) → Option (List Row)
followed done more = option_map (λ rows. done ++ rows) more

pub none-done : (o : Option (List Row)) → o ≡ followed [] o
none-done None = refl
none-done (Some rows) = refl

push : (done : List Row) (row : Row) (o : Option (List Row))
    → followed done (option_map (λ rows. row ∷ rows) o) ≡ followed (done ++ row ∷ []) o
push done row None = refl
push done row (Some rows) = ap Some (sym (append_assoc done (row ∷ []) rows))

-- the first output, and the others
abbrev parted : Option Row → List Value → Option (List Row)
parted o vs = option_and_then (λ row. option_map (λ rows. row ∷ rows) (outputs_of vs)) o

pub outputs-more : (vs : List Value) (i : ℕ) (d : Value) (done : List Row) (row : Row) → i < length vs
    → output_in (view (get_or vs i d)) ≡ Some row → outputs_of vs ≡ followed done (outputs_of (drop i vs))
    → outputs_of vs ≡ followed (done ++ row ∷ []) (outputs_of (drop (i + 1) vs))
outputs-more vs i d done row l is so =
    so ∙ ap (λ xs. followed done (outputs_of xs)) (drop-cons vs i d l)
    ∙ ap (λ o. followed done (parted o (drop (suc i) vs))) is
    ∙ push done row (outputs_of (drop (suc i) vs))
    ∙ ap (λ k. followed (done ++ row ∷ []) (outputs_of (drop k vs))) (sym (add-one i))

pub outputs-fail : (vs : List Value) (i : ℕ) (d : Value) (done : List Row) → i < length vs
    → output_in (view (get_or vs i d)) ≡ None → outputs_of vs ≡ followed done (outputs_of (drop i vs))
    → outputs_of vs ≡ None
outputs-fail vs i d done l is so =
    so ∙ ap (λ xs. followed done (outputs_of xs)) (drop-cons vs i d l)
    ∙ ap (λ o. followed done (parted o (drop (suc i) vs))) is

pub outputs-end : (vs : List Value) (i : ℕ) (done : List Row) → length vs ≤ i
    → outputs_of vs ≡ followed done (outputs_of (drop i vs)) → outputs_of vs ≡ Some done
outputs-end vs i done l so =
    so ∙ ap (λ xs. followed done (outputs_of xs)) (drop_all i vs l) ∙ ap Some (append-nil done)

-- an output has two parts at least
pub too_few_parts : (vs : List Value) → length vs < 2 → output_of_items (items_view vs) ≡ None
too_few_parts [] h = refl
too_few_parts (a ∷ []) h = refl
too_few_parts (a ∷ b ∷ vs) h = absurd (omega (arith, h))
