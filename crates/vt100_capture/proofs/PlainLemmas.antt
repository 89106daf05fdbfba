-- The plain pieces of a text that is cut at a control sequence.
use Rattle.std.proofs.Common.{◌≡◌, ◌≢◌, ℕ, suc, ◌+◌, ◌-◌, ◌<◌, ◌==◌, true, false, not, cond, List, [], ◌∷◌}
use Rattle.std.proofs.Common.{◌++◌, length, get_or, refl, sym, ap, ◌∙◌, arith, append_assoc, append-nil, length-append}
use Rattle.std.proofs.lemmas.Bool.{ne_eqb}
use Rattle.vt100_capture.specs.Plain.{some_piece, pieces_from, plain_pieces}

-- c isn't among the bytes
abbrev pub Lacks : ℕ → List ℕ → Type 0
Lacks c bs = (i : ℕ) → i < length bs → get_or bs i 0 ≢ c

first : (c b : ℕ) (bs : List ℕ) → Lacks c (b ∷ bs) → (b == c) ≡ false
first c b bs h = ne_eqb b c (h 0 (omega arith))

others : (c b : ℕ) (bs : List ℕ) → Lacks c (b ∷ bs) → Lacks c bs
others c b bs h = λ i l. h (suc i) (omega (arith, l))

-- ---- outside a sequence

plain-all : (i : ℕ) (piece bs : List ℕ) → Lacks 27 bs → pieces_from false i piece bs ≡ some_piece i (piece ++ bs)
plain-all i piece [] h = ap (some_piece i) (sym (append-nil piece))
plain-all i piece (b ∷ bs) h =
    ap (λ t. cond t (some_piece i piece ++ pieces_from true (i + length piece + 1) [] bs)
    (pieces_from false i (piece ++ b ∷ []) bs)) (first 27 b bs h)
    ∙ plain-all i (piece ++ b ∷ []) bs (others 27 b bs h) ∙ ap (some_piece i) (append_assoc piece (b ∷ []) bs)

plain-to : (i : ℕ) (piece bs cs : List ℕ) → Lacks 27 bs → pieces_from false i piece (bs ++ 27 ∷ cs)
    ≡ some_piece i (piece ++ bs) ++ pieces_from true (i + length (piece ++ bs) + 1) [] cs
plain-to i piece [] cs h =
    ap (λ p. some_piece i p ++ pieces_from true (i + length p + 1) [] cs) (sym (append-nil piece))
plain-to i piece (b ∷ bs) cs h =
    ap (λ t. cond t (some_piece i piece ++ pieces_from true (i + length piece + 1) [] (bs ++ 27 ∷ cs))
    (pieces_from false i (piece ++ b ∷ []) (bs ++ 27 ∷ cs))) (first 27 b bs h)
    ∙ plain-to i (piece ++ b ∷ []) bs cs (others 27 b bs h)
    ∙ ap (λ p. some_piece i p ++ pieces_from true (i + length p + 1) [] cs) (append_assoc piece (b ∷ []) bs)

-- ---- in a sequence

inside-all : (i : ℕ) (bs : List ℕ) → Lacks 109 bs → pieces_from true i [] bs ≡ []
inside-all i [] h = refl
inside-all i (b ∷ bs) h = ap (λ t. pieces_from (not t) (i + 1) [] bs) (first 109 b bs h)
    ∙ inside-all (i + 1) bs (others 109 b bs h)

inside-to : (i : ℕ) (bs cs : List ℕ) → Lacks 109 bs
    → pieces_from true i [] (bs ++ 109 ∷ cs) ≡ plain_pieces (i + length bs + 1) cs
inside-to i [] cs h = ap (λ j. plain_pieces j cs) (omega arith)
inside-to i (b ∷ bs) cs h =
    ap (λ t. pieces_from (not t) (i + 1) [] (bs ++ 109 ∷ cs)) (first 109 b bs h)
    ∙ inside-to (i + 1) bs cs (others 109 b bs h) ∙ ap (λ j. plain_pieces j cs) (omega arith)

-- ---- a text up to its first sequence, and what follows that

pub pieces-whole : (i j : ℕ) (bs : List ℕ) → Lacks 27 bs → plain_pieces i bs ≡ some_piece i bs ++ plain_pieces j []
pieces-whole i j bs h = plain-all i [] bs h ∙ sym (append-nil (some_piece i bs))

pub pieces-open : (i j : ℕ) (all bs cs : List ℕ) → all ≡ bs ++ 27 ∷ cs → Lacks 27 bs → Lacks 109 cs
    → plain_pieces i all ≡ some_piece i bs ++ plain_pieces j []
pieces-open i j all bs cs e h l =
    ap (plain_pieces i) e ∙ plain-to i [] bs cs h
    ∙ ap (λ ps. some_piece i bs ++ ps) (inside-all (i + length bs + 1) cs l)

pub pieces-cut : (i : ℕ) (all bs cs body rest : List ℕ) → all ≡ bs ++ 27 ∷ cs → Lacks 27 bs
    → cs ≡ body ++ 109 ∷ rest → Lacks 109 body
    → plain_pieces i all ≡ some_piece i bs ++ plain_pieces (i + (length all - length rest)) rest
pieces-cut i all bs cs body rest e h ec l =
    let n : length all ≡ length bs + (length body + (length rest + 1) + 1) =
    ap length e ∙ length-append bs (27 ∷ cs)
    ∙ ap (λ (xs : List ℕ). length bs + suc (length xs)) ec
    ∙ ap (λ k. length bs + suc k) (length-append body (109 ∷ rest)) ∙ omega arith in
    ap (plain_pieces i) e ∙ plain-to i [] bs cs h
    ∙ ap (λ (xs : List ℕ). some_piece i bs ++ pieces_from true (i + length bs + 1) [] xs) ec
    ∙ ap (λ ps. some_piece i bs ++ ps) (inside-to (i + length bs + 1) body rest l
    ∙ ap (λ j. plain_pieces j rest) (omega (arith, n)))
