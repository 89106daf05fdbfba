-- The last end of an update in a piece.
use Rattle.std.proofs.Common.{◌≡◌, ◌∙◌, ℕ, zero, suc, ◌+◌, ◌-◌, ◌<◌, ◌≤◌, Bool, true, false, ◌||◌, List, [], ◌∷◌, ◌++◌}
use Rattle.std.proofs.Common.{refl, sym, ap, subst, take, drop, length, map, arith, append_assoc, append-nil, zero-add}
use Rattle.std.proofs.Common.{if◌then◌else◌, length-take, take-append-drop}
use Rattle.std.proofs.Math.Bool.{or-true, or-false}
use Rattle.std.proofs.Math.Seq.{take-add, take-length}
use Rattle.std.proofs.lemmas.Bool.{or_parts, or_from}
use Rattle.std.proofs.lemmas.List.{length-drop, length-take-le, take-take}
use Rattle.std.proofs.lemmas.List.Elements.{All-head, All-tail}
use Rattle.std.proofs.lemmas.List.Folds.{concat-append, list_any-append}
use Rattle.std.specs.List.{All, concat, list_any}
use Rattle.vte_core.specs.Event.{Event, Print, Execute, Hook, Put, Unhook, Osc, Csi, Esc, Performs}
use Rattle.vte_core.specs.Added.{added}
use Rattle.vte_core.specs.Laws.{IsCharacter}
use Rattle.vte_core.specs.Standing.{IsAfter}
use Rattle.vte_core.specs.Stopping.{Stops, asks_after}
use Rattle.vte_core.specs.declared.parser.Parser.{Parser}
use Rattle.vte_core.proofs.AddedLemmas.{added-none, added-append}
use Rattle.vte_core.proofs.AskLemmas.{sequences-asked}
use Rattle.relay_streams.specs.Updates.{ends_update, ends_in, last_end, unless_empty, cut_piece, cut_after, cut_pieces}
use Rattle.relay_streams.specs.declared.updates.EndSeen.{EndSeen}

-- ---- what the performer has seen

abbrev pub SeenStep : EndSeen → Event → EndSeen → Type 0
SeenStep p e q = q.ended ≡ (p.ended || ends_update e)

abbrev pub seen_ended : EndSeen → Bool
seen_ended p = p.ended

or-assoc : (a b c : Bool) → ((a || b) || c) ≡ (a || (b || c))
or-assoc true b c = refl
or-assoc false b c = refl

pub seen-performed : (p q : EndSeen) (es : List Event) → Performs SeenStep p es q
    → q.ended ≡ (p.ended || list_any ends_update es)
seen-performed p q [] h = ap (λ (x : EndSeen). x.ended) h ∙ sym (or-false p.ended)
seen-performed p q (e ∷ es) h =
    seen-performed h.0 q es h.2 ∙ ap (λ (b : Bool). b || list_any ends_update es) h.1
    ∙ or-assoc p.ended (ends_update e) (list_any ends_update es)

-- characters leave it as it is
pub silent-performed : (p : EndSeen) (f : ℕ → Event) → ((c : ℕ) → ends_update (f c) ≡ false) → (cs : List ℕ)
    → Performs SeenStep p (map f cs) p
silent-performed p f silent [] = refl
silent-performed p f silent (c ∷ cs) =
    (p, sym (ap (λ (b : Bool). p.ended || b) (silent c) ∙ or-false p.ended), silent-performed p f silent cs)

character-silent : (e : Event) → IsCharacter e → ends_update e ≡ false
character-silent (Print c) h = refl
character-silent (Execute b) h = refl
character-silent (Hook gs ms many f) h = absurd h
character-silent (Put b) h = absurd h
character-silent Unhook h = absurd h
character-silent (Osc ps bell) h = absurd h
character-silent (Csi gs ms many f) h = absurd h
character-silent (Esc ms many b) h = absurd h

characters-silent : (es : List Event) → All IsCharacter es → list_any ends_update es ≡ false
characters-silent [] all = refl
characters-silent (e ∷ es) all =
    or_from (ends_update e) (list_any ends_update es) (character-silent e (All-head IsCharacter e es all))
    (characters-silent es (All-tail IsCharacter e es all))

-- ---- ends in bytes

pub ends-nothing : (past : List ℕ) → ends_in past [] ≡ false
ends-nothing past = ap (list_any ends_update) (added-none 1024 past)

pub ends-append : (past a b : List ℕ) → ends_in past (a ++ b) ≡ (ends_in past a || ends_in (past ++ a) b)
ends-append past a b =
    ap (list_any ends_update) (added-append 1024 past a b)
    ∙ list_any-append ends_update (added 1024 past a) (added 1024 (past ++ a) b)

-- where bytes follow in which an update ends, the last end is in these
pub join-ends : (past xs ys : List ℕ) → ends_in (past ++ xs) ys ≡ true
    → last_end past (xs ++ ys) ≡ length xs + last_end (past ++ xs) ys
join-ends past [] ys h =
    ap (λ (p : List ℕ). last_end p ys) (sym (append-nil past)) ∙ sym (zero-add (last_end (past ++ []) ys))
join-ends past (x ∷ xs) ys h =
    let whole : ends_in past (x ∷ (xs ++ ys)) ≡ true =
    ends-append past (x ∷ xs) ys ∙ ap (λ (b : Bool). ends_in past (x ∷ xs) || b) h ∙ or-true (ends_in past (x ∷ xs)) in
    let joined : (past ++ x ∷ []) ++ xs ≡ past ++ (x ∷ xs) = append_assoc past (x ∷ []) xs in
    let more = join-ends (past ++ x ∷ []) xs ys (ap (λ (p : List ℕ). ends_in p ys) joined ∙ h) in
    let sum : 1 + (length xs + last_end (past ++ (x ∷ xs)) ys) ≡ length (x ∷ xs) + last_end (past ++ (x ∷ xs)) ys =
    omega arith in
    ap (λ (b : Bool). if b then 1 + last_end (past ++ x ∷ []) (xs ++ ys) else 0) whole
    ∙ ap (λ (n : ℕ). 1 + n) more ∙ ap (λ (p : List ℕ). 1 + (length xs + last_end p ys)) joined ∙ sum

-- where some follow in which none ends, it stays
pub join-none : (past xs ys : List ℕ) → ends_in (past ++ xs) ys ≡ false → last_end past (xs ++ ys) ≡ last_end past xs
join-none past [] [] h = refl
join-none past [] (y ∷ ys) h =
    ap (λ (b : Bool). if b then 1 + last_end (past ++ y ∷ []) ys else 0)
    (ap (λ (p : List ℕ). ends_in p (y ∷ ys)) (sym (append-nil past)) ∙ h)
join-none past (x ∷ xs) ys h =
    let same : ends_in past (x ∷ (xs ++ ys)) ≡ ends_in past (x ∷ xs) =
    ends-append past (x ∷ xs) ys ∙ ap (λ (b : Bool). ends_in past (x ∷ xs) || b) h ∙ or-false (ends_in past (x ∷ xs)) in
    let joined : (past ++ x ∷ []) ++ xs ≡ past ++ (x ∷ xs) = append_assoc past (x ∷ []) xs in
    let more = join-none (past ++ x ∷ []) xs ys (ap (λ (p : List ℕ). ends_in p ys) joined ∙ h) in
    ap (λ (b : Bool). if b then 1 + last_end (past ++ x ∷ []) (xs ++ ys) else 0) same
    ∙ ap (λ (n : ℕ). if ends_in past (x ∷ xs) then 1 + n else 0) more

-- an update ends with the last of the bytes, and none before it
pub ends-last : (past ys : List ℕ) → ends_in past ys ≡ true
    → ((m : ℕ) → m < length ys → ends_in past (take m ys) ≡ false) → last_end past ys ≡ length ys
ends-last past [] h none = refl
ends-last past (y ∷ []) h none = ap (λ (b : Bool). if b then 1 + 0 else 0) h
ends-last past (y ∷ z ∷ zs) h none =
    let first : ends_in past (y ∷ []) ≡ false = none 1 (omega arith) in
    let rest : ends_in (past ++ y ∷ []) (z ∷ zs) ≡ true =
    sym (ap (λ (b : Bool). b || ends_in (past ++ y ∷ []) (z ∷ zs)) first)
    ∙ sym (ends-append past (y ∷ []) (z ∷ zs)) ∙ h in
    let before = λ (m : ℕ) (lt : m < length (z ∷ zs)).
    (or_parts (ends_in past (y ∷ [])) (ends_in (past ++ y ∷ []) (take m (z ∷ zs)))
    (sym (ends-append past (y ∷ []) (take m (z ∷ zs))) ∙ none (suc m) (omega (arith, lt)))).1 in
    let more = ends-last (past ++ y ∷ []) (z ∷ zs) rest before in
    ap (λ (b : Bool). if b then 1 + last_end (past ++ y ∷ []) (z ∷ zs) else 0) h
    ∙ ap (λ (n : ℕ). 1 + n) more ∙ omega arith

-- ---- pieces that are cut

-- one more piece
pub cut-push : (past : List ℕ) (pieces : List (List ℕ)) (piece : List ℕ) → cut_after past (pieces ++ piece ∷ [])
    ≡ cut_after past pieces ++ cut_piece (past ++ concat pieces) piece
cut-push past [] piece =
    append-nil (cut_piece past piece) ∙ ap (λ (xs : List ℕ). cut_piece xs piece) (sym (append-nil past))
cut-push past (p ∷ ps) piece =
    ap (λ (qs : List (List ℕ)). cut_piece past p ++ qs) (cut-push (past ++ p) ps piece
    ∙ ap (λ (xs : List ℕ). cut_after (past ++ p) ps ++ cut_piece xs piece) (append_assoc past p (concat ps)))
    ∙ sym (append_assoc (cut_piece past p) (cut_after (past ++ p) ps) (cut_piece (past ++ (p ++ concat ps)) piece))

concat-unless : (xs : List ℕ) → concat (unless_empty xs) ≡ xs
concat-unless [] = refl
concat-unless (x ∷ xs) = append-nil (x ∷ xs)

pub concat-unless_push : (pieces : List (List ℕ)) (xs : List ℕ)
    → concat (pieces ++ unless_empty xs) ≡ concat pieces ++ xs
concat-unless_push pieces xs =
    concat-append pieces (unless_empty xs) ∙ ap (λ (ys : List ℕ). concat pieces ++ ys) (concat-unless xs)

concat-cut_piece : (past piece : List ℕ) → concat (cut_piece past piece) ≡ piece
concat-cut_piece past piece =
    let k = last_end past piece in
    concat-append (unless_empty (take k piece)) (unless_empty (drop k piece))
    ∙ ap (λ (ys : List ℕ). ys ++ concat (unless_empty (drop k piece))) (concat-unless (take k piece))
    ∙ ap (λ (ys : List ℕ). take k piece ++ ys) (concat-unless (drop k piece)) ∙ take-append-drop k piece

-- cut or not, they join to the same
pub concat-cut : (past : List ℕ) (pieces : List (List ℕ)) → concat (cut_after past pieces) ≡ concat pieces
concat-cut past [] = refl
concat-cut past (piece ∷ pieces) =
    concat-append (cut_piece past piece) (cut_after (past ++ piece) pieces)
    ∙ ap (λ (ys : List ℕ). ys ++ concat (cut_after (past ++ piece) pieces)) (concat-cut_piece past piece)
    ∙ ap (λ (ys : List ℕ). piece ++ ys) (concat-cut (past ++ piece) pieces)

-- the two parts of one more piece
pub cut-parts : (pieces : List (List ℕ)) (piece : List ℕ) (k : ℕ) → k ≡ last_end (concat pieces) piece
    → (cut_pieces pieces ++ unless_empty (take k piece)) ++ unless_empty (drop k piece)
    ≡ cut_pieces (pieces ++ piece ∷ [])
cut-parts pieces piece k is =
    append_assoc (cut_pieces pieces) (unless_empty (take k piece)) (unless_empty (drop k piece))
    ∙ ap (λ (n : ℕ). cut_pieces pieces ++ (unless_empty (take n piece) ++ unless_empty (drop n piece))) is
    ∙ sym (cut-push [] pieces piece)

pub unless-some : (xs : List ℕ) → 0 < length xs → unless_empty xs ≡ xs ∷ []
unless-some [] some = absurd (omega (arith, some))
unless-some (x ∷ xs) some = refl

pub some-taken : (k : ℕ) (xs : List ℕ) → 0 < length (take k xs) → 0 < k
some-taken zero xs some = absurd (omega (arith, some))
some-taken (suc k) xs some = omega arith

-- ---- where the parser stops

-- the byte after the first m, and the rest
cut-byte : (m : ℕ) (bs : List ℕ) → m < length bs → (b : ℕ) × (rest : List ℕ)
    × (take (suc m) bs ≡ take m bs ++ b ∷ []) × (bs ≡ take m bs ++ b ∷ rest) × (length (take m bs) ≡ m)
cut-byte m [] lt = absurd (omega (arith, lt))
cut-byte zero (b ∷ bs) lt = (b, bs, refl, refl, refl)
cut-byte (suc m) (b ∷ bs) lt =
    let more = cut-byte m bs (omega (arith, lt)) in (
      more.0,
      more.1,
      ap (λ (zs : List ℕ). b ∷ zs) more.2,
      ap (λ (zs : List ℕ). b ∷ zs) more.3,
      ap suc more.4,
    )

module _ (past bytes : List ℕ) (old new : EndSeen) (k : ℕ) (fresh : old.ended ≡ false)
    (stops : Stops SeenStep seen_ended 1024 past bytes old k new)
  where
    seen-in : (m : ℕ) (q : EndSeen) → Performs SeenStep old (added 1024 past (take m bytes)) q
        → q.ended ≡ ends_in past (take m bytes)
    seen-in m q performed =
        seen-performed old q (added 1024 past (take m bytes)) performed
        ∙ ap (λ (b : Bool). b || ends_in past (take m bytes)) fresh

    pub seen-all : new.ended ≡ ends_in past (take k bytes)
    seen-all = seen-in k new stops.performed

    -- none ends before the last byte that is read
    next-none : (m b : ℕ) (rest : List ℕ) → suc m < k → take (suc m) bytes ≡ take m bytes ++ b ∷ []
        → bytes ≡ take m bytes ++ b ∷ rest → length (take m bytes) ≡ m → ends_in past (take m bytes) ≡ false
        → (v : Bool) → ends_in (past ++ take m bytes) (b ∷ []) ≡ v → ends_in past (take (suc m) bytes) ≡ false
    next-none m b rest lt one cut len before false is =
        ap (ends_in past) one ∙ ends-append past (take m bytes) (b ∷ [])
        ∙ or_from (ends_in past (take m bytes)) (ends_in (past ++ take m bytes) (b ∷ [])) before is
    next-none m b rest lt one cut len before true is =
        let asked : asks_after past (take m bytes ++ b ∷ rest) (length (take m bytes) + 1) ≡ true =
        sequences-asked 1024 past (take m bytes) b rest (λ all. absurd (let no : true ≡ false =
        sym is ∙ characters-silent (added 1024 (past ++ take m bytes) (b ∷ [])) all in cc)) in
        let place : length (take m bytes) + 1 ≡ suc m = omega (arith, len) in
        let here : asks_after past bytes (suc m) ≡ true =
        ap (λ (n : ℕ). asks_after past bytes n) (sym place)
        ∙ ap (λ (zs : List ℕ). asks_after past zs (length (take m bytes) + 1)) cut ∙ asked in
        let passed = stops.passed (suc m) lt here in
        let ends : ends_in past (take (suc m) bytes) ≡ true =
        ap (ends_in past) one ∙ ends-append past (take m bytes) (b ∷ [])
        ∙ ap (λ (x : Bool). ends_in past (take m bytes) || x) is ∙ or-true (ends_in past (take m bytes)) in
        absurd (let no : true ≡ false = sym ends ∙ sym (seen-in (suc m) passed.mid passed.before) ∙ passed.goes_on in cc)

    pub none-before : (m : ℕ) → m < k → ends_in past (take m bytes) ≡ false
    none-before zero lt = ends-nothing past
    none-before (suc m) lt =
        let within = stops.within in
        let cut = cut-byte m bytes (omega (arith, lt, within)) in
        next-none m cut.0 cut.1 lt cut.2 cut.3 cut.4 (none-before m (omega (arith, lt)))
        (ends_in (past ++ take m bytes) (cut.0 ∷ [])) refl

    -- where it stops at an end, that is the last one
    pub stops-last : new.ended ≡ true → last_end past (take k bytes) ≡ k
    stops-last ended =
        let within = stops.within in
        let len : length (take k bytes) ≡ k = omega (arith, within, length-take k bytes) in
        ends-last past (take k bytes) (sym seen-all ∙ ended) (λ m lt.
        let small : m < k = omega (arith, lt, len) in
        ap (ends_in past) (take-take m k bytes (omega (arith, small))) ∙ none-before m small) ∙ len

-- `read` bytes were read, and then k of the rest
module _ (past bytes : List ℕ) (read k : ℕ) where
  abbrev rest : List ℕ
  rest = take (length bytes - read) (drop read bytes)

  abbrev before : List ℕ
  before = past ++ take read bytes

  read-on : take (read + k) bytes ≡ take read bytes ++ take k rest
  read-on =
      take-add read k bytes
      ∙ ap (λ (xs : List ℕ). take read bytes ++ take k xs)
      (sym (ap (λ (n : ℕ). take n (drop read bytes)) (sym (length-drop read bytes)) ∙ take-length (drop read bytes)))

  pub reads-on : (p : Parser 1024) → IsAfter 1024 p (before ++ take k rest)
      → IsAfter 1024 p (past ++ take (read + k) bytes)
  reads-on p after = subst (λ (xs : List ℕ). IsAfter 1024 p xs)
      (append_assoc past (take read bytes) (take k rest) ∙ ap (λ (xs : List ℕ). past ++ xs) (sym read-on)) after

  module _ (old new : EndSeen) (fresh : old.ended ≡ false)
      (stops : Stops SeenStep seen_ended 1024 before rest old k new)
    where
      pub ends-on : new.ended ≡ true → read ≤ length bytes → read + k ≡ last_end past (take (read + k) bytes)
      ends-on ended within = sym (ap (last_end past) read-on
          ∙ join-ends past (take read bytes) (take k rest) (sym (seen-all before rest old new k fresh stops) ∙ ended)
          ∙ ap (λ (n : ℕ). length (take read bytes) + n) (stops-last before rest old new k fresh stops ended)
          ∙ ap (λ (n : ℕ). n + k) (length-take-le read bytes within))

      pub none-on : (end : ℕ) → new.ended ≡ false → end ≡ last_end past (take read bytes)
          → end ≡ last_end past (take (read + k) bytes)
      none-on end none is = is ∙ sym (ap (last_end past) read-on
          ∙ join-none past (take read bytes) (take k rest)
          (sym (seen-all before rest old new k fresh stops) ∙ none))
