-- Texts of which only the first 1,022 bytes are kept. These show whether a text is too long for a request.
use Rattle.std.proofs.Common.{◌≡◌, ◌∙◌, ℕ, zero, suc, ◌+◌, ◌-◌, ◌<◌, ◌≤◌, List, ◌++◌, ◌∷◌, [], length, take, drop, get_or, min}
use Rattle.std.proofs.Common.{ap, sym, arith, refl, subst, drop-cons}
use Rattle.std.proofs.lemmas.List.{take_all, append_assoc}
use Rattle.std.proofs.lemmas.Grind.{common_steps}
use Rattle.std.proofs.Math.Seq.{take-append-add}
use Rattle.c_objects.specs.Queue.{drafted}

-- appending to the first n elements of a list, or to the whole list, gives the same first n elements
pub take-take-append : (n : ℕ) (xs ys : List ℕ) → take n (take n xs ++ ys) ≡ take n (xs ++ ys)
take-take-append zero xs ys = refl
take-take-append (suc n) [] ys = refl
take-take-append (suc n) (x ∷ xs) ys = ap (λ (zs : List ℕ). x ∷ zs) (take-take-append n xs ys)

-- where m is n or the list's length, the first m elements begin with the same n elements as the whole list
take-take : (n m : ℕ) (ys : List ℕ) → m ≡ min n (length ys) → take n (take m ys) ≡ take n ys
take-take n m ys e = grind (arith, common_steps)

-- appending only the bytes that fit gives the same first 1,022 bytes as appending all of them
pub pushed : (text bytes new : List ℕ) (n m : ℕ) → n ≡ 1022 → length text ≤ n
    → m ≡ min (n - length text) (length bytes) → new ≡ text ++ take m bytes → drafted new ≡ drafted (text ++ bytes)
pushed text bytes new n m is fits most e =
    let k : n ≡ length text + (n - length text) = omega (arith, fits) in
    let same : take n (text ++ take m bytes) ≡ take n (text ++ bytes) =
    ap (λ j. take j (text ++ take m bytes)) k ∙ take-append-add text (take m bytes) (n - length text)
    ∙ ap (λ (zs : List ℕ). text ++ zs) (take-take (n - length text) m bytes most)
    ∙ sym (take-append-add text bytes (n - length text)) ∙ sym (ap (λ j. take j (text ++ bytes)) k) in
    ap drafted e ∙ ap (λ j. take j (text ++ take m bytes)) (sym is) ∙ same ∙ ap (λ j. take j (text ++ bytes)) is

-- texts with the same first 1,022 bytes still have the same ones after `rest` is appended to each
pub drafted_behind : (old new text rest : List ℕ) → drafted new ≡ drafted (old ++ text)
    → drafted (new ++ rest) ≡ drafted (old ++ (text ++ rest))
drafted_behind old new text rest e =
    sym (take-take-append 1022 new rest) ∙ ap (λ (zs : List ℕ). take 1022 (zs ++ rest)) e
    ∙ take-take-append 1022 (old ++ text) rest ∙ ap (λ (zs : List ℕ). take 1022 zs) (append_assoc old text rest)

-- The first text has been appended. `whole` joins all texts, and `left` those that remain.
pub drafted_first : {X : Type 0} (first : X → List ℕ) (left whole : List X → List ℕ) (xs : List X) (d : X)
    (old new : List ℕ) → 1 ≤ length xs → ((x : X) (ys : List X) → whole (x ∷ ys) ≡ first x ++ left ys)
    → drafted new ≡ drafted (old ++ first (get_or xs 0 d))
    → drafted (new ++ left (take (length xs - 1) (drop 1 xs))) ≡ drafted (old ++ whole xs)
drafted_first first left whole [] d old new within joined e = grind (arith, within)
drafted_first first left whole (x ∷ xs) d old new within joined e =
    ap (λ ys. drafted (new ++ left ys)) (take_all (length (x ∷ xs) - 1) xs (omega arith))
    ∙ drafted_behind old new (first x) (left xs) e ∙ ap (λ (zs : List ℕ). drafted (old ++ zs)) (sym (joined x xs))

-- The next of the remaining texts has been appended after its separator. `left` joins those that remain.
pub drafted_next : {X : Type 0} (left : List X → List ℕ) (xs : List X) (i : ℕ) (d : X)
    (sep item old between new whole : List ℕ) → i < length xs
    → left (get_or xs i d ∷ drop (suc i) xs) ≡ (sep ++ item) ++ left (drop (suc i) xs)
    → drafted between ≡ drafted (old ++ sep) → drafted new ≡ drafted (between ++ item)
    → drafted (old ++ left (drop i xs)) ≡ drafted whole → drafted (new ++ left (drop (i + 1) xs)) ≡ drafted whole
drafted_next left xs i d sep item old between new whole within next e f was =
    let more : suc i ≡ i + 1 = omega arith in
    let now : drafted (new ++ left (drop (suc i) xs)) ≡ drafted whole =
    drafted_behind between new item (left (drop (suc i) xs)) f
    ∙ drafted_behind old between sep (item ++ left (drop (suc i) xs)) e
    ∙ ap (λ (zs : List ℕ). drafted (old ++ zs)) (sym (append_assoc sep item (left (drop (suc i) xs))))
    ∙ ap (λ (zs : List ℕ). drafted (old ++ zs)) (sym next)
    ∙ ap (λ zs. drafted (old ++ left zs)) (sym (drop-cons xs i d within)) ∙ was in
    subst (λ j. drafted (new ++ left (drop j xs)) ≡ drafted whole) more now

-- a text of at most 1,022 bytes is kept whole
pub drafted_whole : (text : List ℕ) → length text ≤ 1022 → drafted text ≡ text
drafted_whole text h = take_all 1022 text h

pub drafted_twice : (old between new text : List ℕ) → drafted between ≡ drafted old
    → drafted new ≡ drafted (between ++ text) → drafted new ≡ drafted (old ++ text)
drafted_twice old between new text e f =
    f ∙ sym (take-take-append 1022 between text) ∙ ap (λ (zs : List ℕ). take 1022 (zs ++ text)) e
    ∙ take-take-append 1022 old text
