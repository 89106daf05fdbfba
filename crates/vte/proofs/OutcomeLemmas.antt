-- A piece has one outcome.
use Rattle.std.proofs.Common.{◌≡◌, ℕ, ◌+◌, ◌<◌, ◌≤◌, true, false, List, [], ◌∷◌, ◌++◌, Option, None, Some}
use Rattle.std.proofs.Common.{take, drop, length, nat_eq, refl, sym, ap, subst, inl, inr, arith}
use Rattle.std.specs.List.{starts_with}
use Rattle.std.proofs.lemmas.Bool.{cases_lt}
use Rattle.std.proofs.lemmas.List.{drop_all}
use Rattle.vte_types.specs.Call.{Call}
use Rattle.vte.specs.Marks.{start_mark, end_mark, is_found_at, NoneFrom, IsLast, IsFirstFrom}
use Rattle.vte.specs.Timeout.{Tick, Sets, Clears}
use Rattle.vte.specs.Stretch.{calls_from, ticks_from, opens_in, OpensAt}
use Rattle.vte.specs.Hold.{closing, limit, IsCut, Closes, unseen, Renews, again, quiet, Settles, keeps, replays, closes}
use Rattle.vte.specs.Hold.{Takes, parses, begins, settles, overflows}
use Rattle.vte.specs.Laws.{SameOutcome, TakesOneWay}
use Rattle.vte.proofs.FrameMarks.{contrary, opens_in-prefix}

-- a start mark is inside the text
inside : (text : List ℕ) (k : ℕ) → is_found_at start_mark text k ≡ true → k < length text
inside text k at = elim (cases_lt k (length text)) [
  | inl within ↦ within
  | inr past ↦
      let none : is_found_at start_mark text k ≡ false =
      ap (λ (rest : List ℕ). starts_with nat_eq rest start_mark) (drop_all k text past) in
      absurd (contrary _ at none)
]

again-only : {text : List ℕ} {from : ℕ} {ticks : List Tick} → Renews text from ticks → (k : ℕ) → from ≤ k
    → is_found_at start_mark text k ≡ true → Sets ∷ [] ≡ ticks
again-only (again j low at) k low' at' = refl
again-only {text} (quiet none) k low' at' = absurd (contrary _ at' (none k low' (inside text k at')))

quiet-only : {text : List ℕ} {from : ℕ} {ticks : List Tick} → Renews text from ticks → NoneFrom start_mark text from
    → [] ≡ ticks
quiet-only {text} (again j low at) none = absurd (contrary _ at (none j low (inside text j at)))
quiet-only (quiet none) other = refl

renews-one_way : {text : List ℕ} {from : ℕ} {a b : List Tick} → Renews text from a → Renews text from b → a ≡ b
renews-one_way (again k low at) y = again-only y k low at
renews-one_way (quiet none) y = quiet-only y none

-- the last mark is at one place only, and so are the first mark and the cut

last-one : (mark text : List ℕ) (e f : ℕ) → IsLast mark text e → IsLast mark text f → e ≡ f
last-one mark text e f x y = elim (cases_lt e f) [
  | inl sooner ↦ absurd (contrary _ y.1 (x.2 f (omega (arith, sooner)) y.0))
  | inr other ↦ elim (cases_lt f e) [
    | inl later ↦ absurd (contrary _ x.1 (y.2 e (omega (arith, later)) x.0))
    | inr same ↦ omega (arith, other, same)
  ]
]

first-one : (mark text : List ℕ) (from m n : ℕ) → IsFirstFrom mark text from m → IsFirstFrom mark text from n → m ≡ n
first-one mark text from m n x y = elim (cases_lt m n) [
  | inl sooner ↦ absurd (contrary _ x.2 (y.3 m x.0 sooner))
  | inr other ↦ elim (cases_lt n m) [
    | inl later ↦ absurd (contrary _ y.2 (x.3 n y.0 later))
    | inr same ↦ omega (arith, other, same)
  ]
]

cut-one : (text : List ℕ) (m n : ℕ) → IsCut text m → IsCut text n → m ≡ n
cut-one text m n x y =
    let same : x.0 ≡ y.0 = last-one end_mark text x.0 y.0 x.1 y.1 in
    first-one start_mark text (x.0 + 1) m n x.2
    (subst (λ (e : ℕ). IsFirstFrom start_mark text (e + 1) n) (sym same) y.2)

cut-no_close : (text : List ℕ) (n : ℕ) → IsCut text n → Closes text → ⊥
cut-no_close text n x y =
    let same : x.0 ≡ y.0 = last-one end_mark text x.0 y.0 x.1 y.1 in
    contrary _ x.2.2 (y.2 n (omega (arith, x.2.0, same)) x.2.1)

kept-no_end : (text : List ℕ) (e : ℕ) → NoneFrom end_mark text 0 → IsLast end_mark text e → ⊥
kept-no_end text e none last = contrary _ last.1 (none e (omega arith) last.0)

-- while an update is open

keeps-only : {parsed held piece q : List ℕ} {k : Option (List ℕ)} {d : List Call} {t : List Tick}
    → Settles parsed held piece q k d t → (s : List Tick) → Renews (held ++ piece) (unseen held) s
    → NoneFrom end_mark (held ++ piece) 0 → SameOutcome parsed (Some (held ++ piece)) [] s q k d t
keeps-only (keeps parsed held piece t r none) s renews no_end = (refl, refl, refl, renews-one_way renews r)
keeps-only (replays parsed held piece t r n cut) s renews no_end =
    absurd (kept-no_end (held ++ piece) cut.0 no_end cut.1)
keeps-only (closes parsed held piece t r c) s renews no_end = absurd (kept-no_end (held ++ piece) c.0 no_end c.1)

replays-only : {parsed held piece q : List ℕ} {k : Option (List ℕ)} {d : List Call} {t : List Tick}
    → Settles parsed held piece q k d t → (s : List Tick) → Renews (held ++ piece) (unseen held) s
    → (n : ℕ) → IsCut (held ++ piece) n → let prefix = take n (held ++ piece) in
    SameOutcome (parsed ++ prefix) (Some (drop n (held ++ piece))) (calls_from parsed prefix)
    (s ++ ticks_from parsed prefix) q k d t
replays-only (keeps parsed held piece t r none) s renews n cut =
    absurd (kept-no_end (held ++ piece) cut.0 none cut.1)
replays-only (replays parsed held piece t r m cut') s renews n cut =
    let text = held ++ piece in
    let same : n ≡ m = cut-one text n m cut cut' in
    let ticks : s ≡ t = renews-one_way renews r in
    rw (same, ticks) (refl, refl, refl, refl)
replays-only (closes parsed held piece t r c) s renews n cut = absurd (cut-no_close (held ++ piece) n cut c)

closes-only : {parsed held piece q : List ℕ} {k : Option (List ℕ)} {d : List Call} {t : List Tick}
    → Settles parsed held piece q k d t → (s : List Tick) → Renews (held ++ piece) (unseen held) s
    → Closes (held ++ piece)
    → SameOutcome (parsed ++ (held ++ piece)) None (calls_from parsed (held ++ piece) ++ closing)
    (s ++ (ticks_from parsed (held ++ piece) ++ Clears ∷ [])) q k d t
closes-only (keeps parsed held piece t r none) s renews c = absurd (kept-no_end (held ++ piece) c.0 none c.1)
closes-only (replays parsed held piece t r m cut) s renews c = absurd (cut-no_close (held ++ piece) m cut c)
closes-only (closes parsed held piece t r c') s renews c = rw (renews-one_way renews r) (refl, refl, refl, refl)

settles-one_way : {parsed held piece p q : List ℕ} {h k : Option (List ℕ)} {c d : List Call} {s t : List Tick}
    → Settles parsed held piece p h c s → Settles parsed held piece q k d t → SameOutcome p h c s q k d t
settles-one_way (keeps parsed held piece s r none) y = keeps-only y s r none
settles-one_way (replays parsed held piece s r n cut) y = replays-only y s r n cut
settles-one_way (closes parsed held piece s r c) y = closes-only y s r c

-- any piece

opening-one : (past piece : List ℕ) (m n : ℕ) → OpensAt past piece m → OpensAt past piece n → m ≡ n
opening-one past piece m n x y = elim (cases_lt m n) [
  | inl sooner ↦ absurd (contrary _ x.opened (y.first m sooner))
  | inr other ↦ elim (cases_lt n m) [
    | inl later ↦ absurd (contrary _ y.opened (x.first n later))
    | inr same ↦ omega (arith, other, same)
  ]
]

parses-only : {parsed : List ℕ} {hold : Option (List ℕ)} {piece q : List ℕ} {k : Option (List ℕ)} {d : List Call}
    {t : List Tick}
    → Takes parsed hold piece q k d t → hold ≡ None → opens_in parsed piece ≡ false
    → SameOutcome (parsed ++ piece) None (calls_from parsed piece) [] q k d t
parses-only (parses parsed piece none) e closed = (refl, refl, refl, refl)
parses-only (begins parsed piece n q k d t at y) e closed =
    absurd (contrary _ at.opened (opens_in-prefix parsed piece n closed))
parses-only (settles parsed held piece q k d t fits y) e closed = absurd (cc)
parses-only (overflows parsed held piece q k d t full y) e closed = absurd (cc)

-- the outcome of the rest of a piece, after a number of bytes
begins-only : {parsed : List ℕ} {hold : Option (List ℕ)} {piece q : List ℕ} {k : Option (List ℕ)} {d : List Call}
    {t : List Tick}
    → Takes parsed hold piece q k d t → hold ≡ None → (n : ℕ) → OpensAt parsed piece n → (p : List ℕ)
    (h : Option (List ℕ)) (c : List Call) (s : List Tick)
    → ((q : List ℕ) (k : Option (List ℕ)) (d : List Call) (t : List Tick)
    → Takes (parsed ++ take n piece) (Some []) (drop n piece) q k d t → SameOutcome p h c s q k d t)
    → SameOutcome p h (calls_from parsed (take n piece) ++ c) (ticks_from parsed (take n piece) ++ s) q k d t
begins-only (parses parsed piece none) e n at p h c s rest =
    absurd (contrary _ at.opened (opens_in-prefix parsed piece n none))
begins-only (begins parsed piece m q k d t at' y) e n at p h c s rest =
    let same : m ≡ n = opening-one parsed piece m n at' at in
    let more = rest q k d t (subst (λ (i : ℕ). Takes (parsed ++ take i piece) (Some [])
    (drop i piece) q k d t) same y) in (
      more.0,
      more.1,
      rw (same, more.2) refl,
      rw (same, more.3) refl,
    )
begins-only (settles parsed held piece q k d t fits y) e n at p h c s rest = absurd (cc)
begins-only (overflows parsed held piece q k d t full y) e n at p h c s rest = absurd (cc)

settles-only : {parsed : List ℕ} {hold : Option (List ℕ)} {piece q : List ℕ} {k : Option (List ℕ)} {d : List Call}
    {t : List Tick}
    → Takes parsed hold piece q k d t → (held : List ℕ) → hold ≡ Some held → length (held ++ piece) < limit
    → (p : List ℕ) (h : Option (List ℕ)) (c : List Call) (s : List Tick) → Settles parsed held piece p h c s
    → SameOutcome p h c s q k d t
settles-only (parses parsed piece none) held e fits p h c s x = absurd (cc)
settles-only (begins parsed piece n q k d t at y) held e fits p h c s x = absurd (cc)
settles-only (settles parsed held' piece q k d t fits' y) held e fits p h c s x =
    let same : held' ≡ held = cc in
    settles-one_way x (subst (λ (b : List ℕ). Settles parsed b piece q k d t) same y)
settles-only (overflows parsed held' piece q k d t full y) held e fits p h c s x =
    let same : held' ≡ held = cc in
    absurd (omega (arith, full, fits, ap (λ (b : List ℕ). length (b ++ piece)) same))

overflows-only : {parsed : List ℕ} {hold : Option (List ℕ)} {piece q : List ℕ} {k : Option (List ℕ)} {d : List Call}
    {t : List Tick}
    → Takes parsed hold piece q k d t → (held : List ℕ) → hold ≡ Some held → limit ≤ length (held ++ piece)
    → (p : List ℕ) (h : Option (List ℕ)) (c : List Call) (s : List Tick)
    → ((q : List ℕ) (k : Option (List ℕ)) (d : List Call) (t : List Tick)
    → Takes (parsed ++ held) None piece q k d t → SameOutcome p h c s q k d t)
    → SameOutcome p h ((calls_from parsed held ++ closing) ++ c) ((ticks_from parsed held ++ Clears ∷ []) ++ s) q k d t
overflows-only (parses parsed piece none) held e full p h c s rest = absurd (cc)
overflows-only (begins parsed piece n q k d t at y) held e full p h c s rest = absurd (cc)
overflows-only (settles parsed held' piece q k d t fits y) held e full p h c s rest =
    let same : held' ≡ held = cc in
    absurd (omega (arith, full, fits, ap (λ (b : List ℕ). length (b ++ piece)) same))
overflows-only (overflows parsed held' piece q k d t full' y) held e full p h c s rest =
    let same : held' ≡ held = cc in
    let more = rest q k d t (subst (λ (b : List ℕ). Takes (parsed ++ b) None piece q k d t) same y) in (
      more.0,
      more.1,
      rw (same, more.2) refl,
      rw (same, more.3) refl,
    )

one_way : {parsed : List ℕ} {hold : Option (List ℕ)} {piece p q : List ℕ} {h k : Option (List ℕ)} {c d : List Call}
    {s t : List Tick}
    → Takes parsed hold piece p h c s → Takes parsed hold piece q k d t → SameOutcome p h c s q k d t
one_way (parses parsed piece none) y = parses-only y refl none
one_way (begins parsed piece n p h c s at x) y = begins-only y refl n at p h c s (λ q k d t z. one_way x z)
one_way (settles parsed held piece p h c s fits x) y = settles-only y held refl fits p h c s x
one_way (overflows parsed held piece p h c s full x) y = overflows-only y held refl full p h c s
    (λ q k d t z. one_way x z)

pub takes-one_way : TakesOneWay
takes-one_way parsed hold piece p q h k c d s t x y = one_way x y
