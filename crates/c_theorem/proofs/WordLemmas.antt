-- What is done to a word is done to its object.
use Rattle.std.proofs.Common.{◌≡◌, ℕ, ℤ, List, [], ◌∷◌, Option, Some, refl, subst}
use Rattle.vte.specs.Moves.{Move, Gives, Stops}
use Rattle.termrelay.specs.Log.{SessionView}
use Rattle.c_objects.specs.Runs.{FromC}
use Rattle.c_objects.specs.declared.object.Object.{Object}
use Rattle.c_theorem.specs.Shown.{handed, HubRuns, ViewReads, ViewsFromCAreShown}
use Rattle.c_theorem.specs.Companions.{ViewMoves}
use Rattle.c_theorem.specs.Words.{WordRuns, WordReads, WordMoves, WordsAreObjects, ViewsInWordsAreShown}

word-runs : (x : Object) (ss ts : List SessionView) (made : List (FromC × ℤ)) (w : Option Object)
    → WordRuns (Some x) ss made w ts → (y : Object) × (w ≡ Some y) × HubRuns x ss made y ts
word-runs x ss ts [] w (same, kept) = (x, same, (refl, kept))
word-runs x ss ts ((call, code) ∷ made) w (z, fits, (u, did, is), later) =
    let rest : WordRuns (Some u) (handed x call code ss) made w ts =
    subst (λ (o : Option Object). WordRuns o (handed x call code ss) made w ts) is later in
    let found = word-runs u (handed x call code ss) ts made w rest in
    (found.0, found.1, (u, fits, did, found.2))

word-reads : (v : Object) (pieces : List (List ℕ)) (w : Option Object) → WordReads (Some v) pieces w
    → (y : Object) × (w ≡ Some y) × ViewReads v pieces y
word-reads v [] w same = (v, same, refl)
word-reads v (piece ∷ pieces) w (z, code, (u, did, is), later) =
    let rest : WordReads (Some u) pieces w = subst (λ (o : Option Object). WordReads o pieces w) is later in
    let found = word-reads u pieces w rest in
    (found.0, found.1, (u, code, did, found.2))

word-moves : (v : Object) (moves : List Move) (w : Option Object) → WordMoves (Some v) moves w
    → (y : Object) × (w ≡ Some y) × ViewMoves v moves y
word-moves v [] w same = (v, same, refl)
word-moves v (Gives piece ∷ moves) w (z, code, (u, did, is), later) =
    let rest : WordMoves (Some u) moves w = subst (λ (o : Option Object). WordMoves o moves w) is later in
    let found = word-moves u moves w rest in
    (found.0, found.1, (u, code, did, found.2))
word-moves v (Stops ∷ moves) w (z, code, (u, did, is), later) =
    let rest : WordMoves (Some u) moves w = subst (λ (o : Option Object). WordMoves o moves w) is later in
    let found = word-moves u moves w rest in
    (found.0, found.1, (u, code, did, found.2))

pub words-are-objects : WordsAreObjects
words-are-objects = record { runs = word-runs; reads = word-reads; moves = word-moves }

pub words-shown : ViewsFromCAreShown → ViewsInWordsAreShown
words-shown shown rows cols x v y w made ss n s pieces beyond height width new ran is fresh read joined =
    let run = word-runs x [] ss made y ran in
    let seen = word-reads v pieces w read in (
      seen.0,
      seen.1,
      shown rows cols x run.0 made ss n s v seen.0 pieces beyond height width new run.2 is fresh seen.2 joined,
    )
