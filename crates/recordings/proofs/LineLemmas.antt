-- Lines, one after another.
use Rattle.std.proofs.Common.{◌≡◌, ◌∙◌, ◌<◌, ◌≤◌, ◌+◌, ◌==◌, ℕ, suc, Bool, true, false, cond, ltb, List, [], ◌∷◌, ◌++◌}
use Rattle.std.proofs.Common.{map, length, take, drop, get_or, refl, sym, ap, subst, Option, Some, None, is_some}
use Rattle.std.proofs.Common.{Result, IfOk, arith}
use Rattle.std.specs.Borrow.{Bor}
use Rattle.std.specs.Prelude.{unwrap_or, Vec}
use Rattle.std.specs.Vec.{vec_items}
use Rattle.std.proofs.Math.Numerals.{add-one}
use Rattle.std.proofs.Math.Seq.{drop-cons, take-suc}
use Rattle.std.proofs.lemmas.Grind.{flat_map-append}
use Rattle.std.proofs.lemmas.List.{append-nil, get_or-map, length-map, length-take-le, take-append-drop, take_all}
use Rattle.std.proofs.lemmas.List.Elements.{All-push}
use Rattle.std.proofs.lemmas.List.Splits.{length-slice_split}
use Rattle.std.proofs.lemmas.Result.{IfOk-weaker}
use Rattle.recordings.specs.Asciicast.{AreEvents, AreRead, rows_in, rows_of}
use Rattle.recordings.specs.Lines.{lines_in}
use Rattle.recordings.specs.Recorded.{Row, IsStateAfter}
use Rattle.recordings.specs.declared.timeline.Pace.{Pace}
use Rattle.recordings.specs.declared.timeline.Timeline.{Timeline}

pub found : (b : Bool) (p i : ℕ) → Some i ≡ cond b (Some p) None → i ≡ p
found true p i e = ap (λ o. unwrap_or o 0) e
found false p i e = grind arith

pub not_found : (p n : ℕ) → None ≡ cond (ltb p n) (Some p) None → n ≤ p
not_found p n e = grind arith

abbrev pub texts : List (Bor (List ℕ)) → List (List ℕ)
texts lines = map {A = Bor (List ℕ)} {B = List ℕ} (λ x. x.now) lines

-- a text has a line at least
pub some_lines : {E Z : Type 0} (text : List ℕ) (r : Result (Vec (Bor (List ℕ)) Z) E)
    → IfOk r (λ v. map {A = Bor (List ℕ)} {B = List ℕ} (λ x. x.now) (vec_items v) ≡ lines_in text)
    → IfOk r (λ v. 0 < length (vec_items v))
some_lines text r h =
    IfOk-weaker r (λ v. map {A = Bor (List ℕ)} {B = List ℕ} (λ x. x.now) (vec_items v) ≡ lines_in text)
    (λ v. 0 < length (vec_items v))
    (λ v is. let n = sym (length-map (vec_items v) (λ (x : Bor (List ℕ)). x.now)) ∙ (ap length is
    ∙ length-slice_split (λ b. b == 10) text) in omega (arith, n)) h

pub taken_next : (lines : List (Bor (List ℕ))) (i : ℕ) (d : Bor (List ℕ)) → i < length lines
    → take (i + 1) (texts lines) ≡ take i (texts lines) ++ (get_or lines i d).now ∷ []
taken_next lines i d lt =
    let n = length-map lines (λ (x : Bor (List ℕ)). x.now) in
    ap (λ k. take k (texts lines)) (add-one i) ∙ (take-suc (texts lines) i [] (omega (arith, n))
    ∙ ap (λ x. take i (texts lines) ++ x ∷ []) (get_or-map (λ (x : Bor (List ℕ)). x.now) lines i d [] lt))

more_rows : (pace : Pace) (xs : List (List ℕ)) (x : List ℕ)
    → rows_of pace (xs ++ x ∷ []) ≡ rows_of pace xs ++ unwrap_or (rows_in pace x) []
more_rows pace xs x =
    flat_map-append (λ line. unwrap_or (rows_in pace line) []) xs (x ∷ [])
    ∙ ap (λ (rows : List Row). rows_of pace xs ++ rows) (append-nil (unwrap_or (rows_in pace x) []))

-- one more line
pub next_line : (pace : Pace) (lines : List (Bor (List ℕ))) (i : ℕ) (d : Bor (List ℕ)) (t : Timeline) → i < length lines
    → AreEvents pace (take i (texts lines)) → true ≡ is_some (rows_in pace (get_or lines i d).now)
    → IsStateAfter pace (rows_of pace (take i (texts lines)) ++ unwrap_or (rows_in pace (get_or lines i d).now) []) t
    → AreEvents pace (take (i + 1) (texts lines)) × IsStateAfter pace (rows_of pace (take (i + 1) (texts lines))) t
next_line pace lines i d t lt fine event state_after = (
  subst (AreEvents pace) (sym (taken_next lines i d lt))
      (All-push (λ line. is_some (rows_in pace line) ≡ true) (take i (texts lines)) (get_or lines i d).now fine (sym event)),
  subst (λ (rows : List Row). IsStateAfter pace rows t)
      (sym (ap (rows_of pace) (taken_next lines i d lt) ∙ more_rows pace (take i (texts lines)) (get_or lines i d).now))
      state_after,
)

pub parts_at : (lines : List (Bor (List ℕ))) (i : ℕ) (d : Bor (List ℕ)) → i < length lines
    → texts lines ≡ take i (texts lines) ++ (get_or lines i d).now ∷ drop (suc i) (texts lines)
parts_at lines i d lt =
    let n = length-map lines (λ (x : Bor (List ℕ)). x.now) in
    sym (take-append-drop i (texts lines))
    ∙ ap (λ xs. take i (texts lines) ++ xs) (drop-cons (texts lines) i [] (omega (arith, n))
    ∙ ap (λ x. x ∷ drop (suc i) (texts lines)) (get_or-map (λ (x : Bor (List ℕ)). x.now) lines i d [] lt))

no_rows : (o : Option (List Row)) → false ≡ is_some o → o ≡ None
no_rows None e = refl
no_rows (Some rows) e = grind arith

-- the first line that is no event
pub stopped : (pace : Pace) (lines : List (Bor (List ℕ))) (i n : ℕ) (d : Bor (List ℕ)) (t : Timeline)
    → i < length lines
    → AreEvents pace (take i (texts lines)) → n ≡ i + 2 → false ≡ is_some (rows_in pace (get_or lines i d).now)
    → IsStateAfter pace (rows_of pace (take i (texts lines)) ++ unwrap_or (rows_in pace (get_or lines i d).now) []) t
    → AreRead pace (texts lines) t (Some n)
stopped pace lines i n d t lt fine number event state_after =
    let m = length-map lines (λ (x : Bor (List ℕ)). x.now) in
    let k = length-take-le i (texts lines) (omega (arith, m)) in
    let ill = no_rows (rows_in pace (get_or lines i d).now) event in
    let before = rows_of pace (take i (texts lines)) in (
      record {
        before = take i (texts lines);
        line = (get_or lines i d).now;
        after = drop (suc i) (texts lines);
        parts = parts_at lines i d lt;
        number = omega (arith, k);
        fine = fine;
        ill = ill;
      },
      subst (λ (rows : List Row). IsStateAfter pace rows t)
          (ap (λ (o : Option (List Row)). before ++ unwrap_or o []) ill ∙ append-nil before) state_after,
    )

-- all lines are events
pub all_read : (pace : Pace) (lines : List (Bor (List ℕ))) (i : ℕ) (t : Timeline) → length lines ≤ i
    → AreEvents pace (take i (texts lines)) → IsStateAfter pace (rows_of pace (take i (texts lines))) t
    → AreRead pace (texts lines) t None
all_read pace lines i t end fine state_after =
    let n = length-map lines (λ (x : Bor (List ℕ)). x.now) in
    let all = take_all i (texts lines) (omega (arith, n)) in (
      subst (AreEvents pace) all fine,
      subst (λ (ls : List (List ℕ)). IsStateAfter pace (rows_of pace ls) t) all state_after,
    )
