-- Pieces make one parsed text and one hold.
use Rattle.std.proofs.Common.{◌≡◌, ℕ, ◌+◌, ◌<◌, Bool, true, false, ◌||◌, List, [], ◌++◌, Option, None, Some, take}
use Rattle.std.proofs.Common.{drop, refl, sym, ap, ◌∙◌, subst, inl, inr, arith, take-append-drop}
use Rattle.std.proofs.lemmas.Bool.{cases_lt}
use Rattle.vte_types.specs.Call.{Call}
use Rattle.vte.specs.Timeout.{Tick}
use Rattle.vte.specs.Marks.{start_mark, end_mark, is_found_at, NoneFrom, IsLast, IsFirstFrom}
use Rattle.vte.specs.Stretch.{opens_in, OpensAt}
use Rattle.vte.specs.Hold.{held_of, IsCut, Closes, Settles, keeps, replays, closes, Takes, parses, begins, settles}
use Rattle.vte.specs.Hold.{overflows}
use Rattle.vte.specs.Moves.{Move}
use Rattle.vte.specs.Frames.{Drives, ends, gives, stops}
use Rattle.vte.proofs.HoldLemmas.{opens_in-append}

false_true : (b : Bool) → b ≡ false → b ≡ true → ⊥
false_true b f t = let no : false ≡ true = sym f ∙ t in cc

-- two places of which neither comes before the other are one
one_place : (i j : ℕ) → (i < j → ⊥) → (j < i → ⊥) → i ≡ j
one_place i j a b =
    elim (cases_lt i j) [
      | inl lt ↦ absurd (a lt)
      | inr le ↦ elim (cases_lt j i) [ inl lt ↦ absurd (b lt) | inr ge ↦ omega (arith, le, ge) ]
    ]

not_later : (mark text : List ℕ) (i j : ℕ) → IsLast mark text i → IsLast mark text j → i < j → ⊥
not_later mark text i j a b lt = false_true (is_found_at mark text j) (a.2 j (omega (arith, lt)) b.0) b.1

one_last : (mark text : List ℕ) (i j : ℕ) → IsLast mark text i → IsLast mark text j → i ≡ j
one_last mark text i j a b = one_place i j (not_later mark text i j a b) (not_later mark text j i b a)

not_sooner : (mark text : List ℕ) (from i j : ℕ) → IsFirstFrom mark text from i → IsFirstFrom mark text from j → i < j
    → ⊥
not_sooner mark text from i j a b lt = false_true (is_found_at mark text i) (b.3 i a.0 lt) a.2

one_first : (mark text : List ℕ) (from i j : ℕ) → IsFirstFrom mark text from i → IsFirstFrom mark text from j → i ≡ j
one_first mark text from i j a b =
    one_place i j (not_sooner mark text from i j a b) (not_sooner mark text from j i b a)

none_last : (text : List ℕ) (e : ℕ) → NoneFrom end_mark text 0 → IsLast end_mark text e → ⊥
none_last text e none last = false_true (is_found_at end_mark text e) (none e (omega arith) last.0) last.1

-- a text that is cut at a start mark isn't closed
cut_open : (text : List ℕ) (n : ℕ) → IsCut text n → Closes text → ⊥
cut_open text n (e, last, first) (e', last', none) =
    let same : e ≡ e' = one_last end_mark text e e' last last' in
    false_true (is_found_at start_mark text n) (none n (omega (arith, same, first.0)) first.1) first.2

one_cut : (text : List ℕ) (n m : ℕ) → IsCut text n → IsCut text m → n ≡ m
one_cut text n m (e, last, first) (e', last', first') =
    let same : e ≡ e' = one_last end_mark text e e' last last' in
    one_first start_mark text (e + 1) n m first
    (subst (λ (k : ℕ). IsFirstFrom start_mark text (k + 1) m) (sym same) first')

-- an update is opened by one byte first, and then by the whole
opened_later : (past piece : List ℕ) (n : ℕ) → OpensAt past piece n → opens_in past piece ≡ false → ⊥
opened_later past piece n o none =
    let whole : opens_in past (take n piece ++ drop n piece) ≡ opens_in past piece =
    ap (opens_in past) (take-append-drop n piece) in
    let split = opens_in-append past (take n piece) (drop n piece) in
    let open_ : opens_in past (take n piece ++ drop n piece) ≡ true =
    split ∙ ap (λ b. b || opens_in (past ++ take n piece) (drop n piece)) o.opened in
    false_true (opens_in past piece) none (sym whole ∙ open_)

one_opening : (past piece : List ℕ) (n m : ℕ) → OpensAt past piece n → OpensAt past piece m → n ≡ m
one_opening past piece n m a b =
    one_place n m (λ lt. false_true _ (b.first n lt) a.opened) (λ lt. false_true _ (a.first m lt) b.opened)

one_settling : (parsed held piece p q : List ℕ) (h k : Option (List ℕ)) (cs ds : List Call) (ts us : List Tick)
    → Settles parsed held piece p h cs ts → Settles parsed held piece q k ds us → (p ≡ q) × (h ≡ k)
one_settling parsed held piece p q h k cs ds ts us (keeps _ _ _ _ _ none) (keeps _ _ _ _ _ none') = (refl, refl)
one_settling parsed held piece p q h k cs ds ts us (keeps _ _ _ _ _ none) (replays _ _ _ _ _ n cut) =
    absurd (none_last (held ++ piece) cut.0 none cut.1)
one_settling parsed held piece p q h k cs ds ts us (keeps _ _ _ _ _ none) (closes _ _ _ _ _ c) =
    absurd (none_last (held ++ piece) c.0 none c.1)
one_settling parsed held piece p q h k cs ds ts us (replays _ _ _ _ _ n cut) (keeps _ _ _ _ _ none) =
    absurd (none_last (held ++ piece) cut.0 none cut.1)
one_settling parsed held piece p q h k cs ds ts us (replays _ _ _ _ _ n cut) (replays _ _ _ _ _ m cut') =
    let same : n ≡ m = one_cut (held ++ piece) n m cut cut' in (
      ap (λ i. parsed ++ take i (held ++ piece)) same,
      ap (λ i. Some (drop i (held ++ piece))) same,
    )
one_settling parsed held piece p q h k cs ds ts us (replays _ _ _ _ _ n cut) (closes _ _ _ _ _ c) =
    absurd (cut_open (held ++ piece) n cut c)
one_settling parsed held piece p q h k cs ds ts us (closes _ _ _ _ _ c) (keeps _ _ _ _ _ none) =
    absurd (none_last (held ++ piece) c.0 none c.1)
one_settling parsed held piece p q h k cs ds ts us (closes _ _ _ _ _ c) (replays _ _ _ _ _ n cut) =
    absurd (cut_open (held ++ piece) n cut c)
one_settling parsed held piece p q h k cs ds ts us (closes _ _ _ _ _ c) (closes _ _ _ _ _ c') = (refl, refl)

one_taking : (parsed : List ℕ) (hold : Option (List ℕ)) (piece p q : List ℕ) (h k : Option (List ℕ))
    (cs ds : List Call) (ts us : List Tick)
    → Takes parsed hold piece p h cs ts → Takes parsed hold piece q k ds us → (p ≡ q) × (h ≡ k)
one_taking parsed hold piece p q h k cs ds ts us (parses _ _ none) (parses _ _ none') = (refl, refl)
one_taking parsed hold piece p q h k cs ds ts us (parses _ _ none) (begins _ _ n _ _ _ _ at t) =
    absurd (opened_later parsed piece n at none)
one_taking parsed hold piece p q h k cs ds ts us (begins _ _ n _ _ _ _ at t) (parses _ _ none) =
    absurd (opened_later parsed piece n at none)
one_taking parsed hold piece p q h k cs ds ts us (begins _ _ n _ _ cs' ts' at t) (begins _ _ m _ _ ds' us' at' t') =
    let same : m ≡ n = one_opening parsed piece m n at' at in
    one_taking (parsed ++ take n piece) (Some []) (drop n piece) p q h k cs' ds' ts' us' t
    (subst (λ (i : ℕ). Takes (parsed ++ take i piece) (Some []) (drop i piece) q k ds' us') same t')
one_taking parsed hold piece p q h k cs ds ts us (settles _ held _ _ _ _ _ fits s) (settles _ _ _ _ _ _ _ fits' s') =
    one_settling parsed held piece p q h k cs ds ts us s s'
one_taking parsed hold piece p q h k cs ds ts us (settles _ held _ _ _ _ _ fits s) (overflows _ _ _ _ _ _ _ over t) =
    absurd (omega (arith, fits, over))
one_taking parsed hold piece p q h k cs ds ts us (overflows _ held _ _ _ _ _ over t) (settles _ _ _ _ _ _ _ fits s) =
    absurd (omega (arith, fits, over))
one_taking parsed hold piece p q h k cs ds ts us (overflows _ held _ _ _ cs' ts' over t)
    (overflows _ _ _ _ _ ds' us' over' t') = one_taking (parsed ++ held) None piece p q h k cs' ds' ts' us' t t'

pub one_leading : (moves : List Move) (parsed : List ℕ) (hold : Option (List ℕ)) (p q : List ℕ)
    (h k : Option (List ℕ)) → Drives moves parsed hold p h → Drives moves parsed hold q k → (p ≡ q) × (h ≡ k)
one_leading moves parsed hold p q h k (ends _ _) (ends _ _) = (refl, refl)
one_leading moves parsed hold p q h k (gives piece rest _ _ m mh cs ts _ _ t l) (gives _ _ _ _ m' mh' cs' ts' _ _ t' l')
    =
    let same = one_taking parsed hold piece m' m mh' mh cs' cs ts' ts t' t in
    one_leading rest m mh p q h k l
    (subst (λ (y : Option (List ℕ)). Drives rest m y q k) same.1
    (subst (λ (x : List ℕ). Drives rest x mh' q k) same.0 l'))
one_leading moves parsed hold p q h k (stops rest _ _ _ _ l) (stops _ _ _ _ _ l') =
    one_leading rest (parsed ++ held_of hold) None p q h k l l'
