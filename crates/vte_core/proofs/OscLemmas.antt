-- The data of an OSC.
use Rattle.std.proofs.Common.{◌≡◌, ℕ, zero, suc, ◌+◌, ◌-◌, ◌<◌, ◌≤◌, min, true, false, List, [], ◌∷◌, ◌++◌, map, length}
use Rattle.std.proofs.Common.{take, drop, set, get_or, ◌==◌, refl, sym, ◌∙◌, ap, arith, append_assoc, length-append}
use Rattle.std.proofs.Common.{slice_range, subst, inl, inr}
use Rattle.std.proofs.lemmas.Grind.{common_steps}
use Rattle.std.proofs.lemmas.List.{take-append-le, take-take, take_all, length-take, append-nil, map-append, drop_more}
use Rattle.std.proofs.Math.Seq.{take-nil, take-suc-set, take-append_seam}
use Rattle.std.proofs.lemmas.Bool.{cases_lt}
use Rattle.std.proofs.lemmas.Bool.Decides.{nat_tests}
use Rattle.std.specs.List.{concat}
use Rattle.vte_core.specs.Store.{total, cut_at, EndsRise, ends_from, pieces_of, ReadsOsc}
use Rattle.vte_core.specs.Shapes.{first_bytes, osc_pieces}
use Rattle.vte_core.proofs.Headers.{split-yes, split-no, onto_last, onto_last-last}

pub rise_in : (start : ℕ) (ends xs : List ℕ) → EndsRise start ends xs → start ≤ length xs
rise_in start [] xs h = h
rise_in start (end ∷ ends) xs h = omega (arith, h.0, rise_in end ends xs h.1)

pub rise-more : (start : ℕ) (ends xs ys : List ℕ) → length xs ≤ length ys → EndsRise start ends xs
    → EndsRise start ends ys
rise-more start [] xs ys k h = omega (arith, h)
rise-more start (end ∷ ends) xs ys k h = (h.0, rise-more end ends xs ys k h.1)

pub rise-last : (start : ℕ) (ends xs : List ℕ) → EndsRise start ends xs → EndsRise start (ends ++ length xs ∷ []) xs
rise-last start [] xs h = (h, omega arith)
rise-last start (end ∷ ends) xs h = (h.0, rise-last end ends xs h.1)

pub take-room : (m : ℕ) (xs : List ℕ) (y : ℕ) → length (take m xs) < m → take m (xs ++ y ∷ []) ≡ take m xs ++ y ∷ []
take-room zero xs y h = absurd (omega arith)
take-room (suc m) [] y h = grind (arith, common_steps)
take-room (suc m) (x ∷ xs) y h = ap (λ r. x ∷ r) (take-room m xs y (omega arith))

pub take-full : (m : ℕ) (xs : List ℕ) (y : ℕ) → m ≤ length (take m xs) → take m (xs ++ y ∷ []) ≡ take m xs
take-full zero xs y h = refl
take-full (suc m) [] y h = absurd (omega arith)
take-full (suc m) (x ∷ xs) y h = ap (λ r. x ∷ r) (take-full m xs y (omega arith))

concat-byte : (ps : List (List ℕ)) (p : List ℕ) (b : ℕ)
    → concat (ps ++ (p ++ b ∷ []) ∷ []) ≡ concat (ps ++ p ∷ []) ++ b ∷ []
concat-byte [] p b = append_assoc p (b ∷ []) [] ∙ (ap (λ r. p ++ r) refl ∙ sym (ap (λ r. r ++ b ∷ []) (append-nil p)))
concat-byte (q ∷ ps) p b = ap (λ r. q ++ r) (concat-byte ps p b) ∙ sym (append_assoc q (concat (ps ++ p ∷ [])) (b ∷ []))

concat-none : (ps : List (List ℕ)) → concat (ps ++ [] ∷ []) ≡ concat ps
concat-none [] = refl
concat-none (q ∷ ps) = ap (λ r. q ++ r) (concat-none ps)

ends_from-last : (n k : ℕ) (ps : List (List ℕ)) (p : List ℕ)
    → ends_from n k (ps ++ p ∷ []) ≡ ends_from n k ps ++ min n (k + total (ps ++ p ∷ [])) ∷ []
ends_from-last n k [] p = ap (λ j. min n (k + j) ∷ []) (omega (arith, length-append p []))
ends_from-last n k (q ∷ ps) p =
    ap (λ r. min n (k + length q) ∷ r) (ends_from-last n (k + length q) ps p
    ∙ ap (λ j. ends_from n (k + length q) ps ++ min n j ∷ []) (omega (arith, length-append q (concat (ps ++ p ∷ [])))))

-- no data
pub reads-nothing : (n : ℕ) (x : List ℕ × List ℕ) → x.0 ≡ [] → x.1 ≡ [] → ReadsOsc n x []
reads-nothing n x b e = record {
  parts = [];
  last = [];
  by_parts = refl;
  bytes = b ∙ sym (take-nil n);
  ends = e;
}

-- a data byte
pub osc-byte : (n : ℕ) (x : List ℕ × List ℕ) (s : List ℕ) (b : ℕ) (bytes : List ℕ) → (b == 0x3B) ≡ false
    → (r : ReadsOsc n x s)
    → bytes ≡ take n (concat (r.parts ++ r.last ∷ []) ++ b ∷ []) → ReadsOsc n (bytes, x.1) (s ++ b ∷ [])
osc-byte n x s b bytes e r h = record {
  parts = r.parts;
  last = r.last ++ b ∷ [];
  by_parts = split-no _ s b e ∙ (ap (onto_last b) r.by_parts ∙ onto_last-last b r.parts r.last);
  bytes = h ∙ ap (take n) (sym (concat-byte r.parts r.last b));
  ends = r.ends;
}

-- `;`
pub osc-semicolon : (n : ℕ) (x : List ℕ × List ℕ) (s : List ℕ) (b : ℕ) (ends : List ℕ) → (b == 0x3B) ≡ true
    → (r : ReadsOsc n x s)
    → ends ≡ take 16 (ends_from n 0 (pieces_of s)) → ReadsOsc n (x.0, ends) (s ++ b ∷ [])
osc-semicolon n x s b ends e r h = record {
  parts = r.parts ++ r.last ∷ [];
  last = [];
  by_parts = split-yes _ s b e ∙ ap (λ q. q ++ [] ∷ []) r.by_parts;
  bytes = r.bytes ∙ ap (take n) (sym (concat-none (r.parts ++ r.last ∷ [])));
  ends = h ∙ ap (λ ps. take 16 (ends_from n 0 ps)) r.by_parts;
}

-- one more end
pub end-room : (n : ℕ) (x : List ℕ × List ℕ) (s : List ℕ) (r : ReadsOsc n x s) → length x.1 < 16
    → x.1 ++ length x.0 ∷ [] ≡ take 16 (ends_from n 0 (pieces_of s))
end-room n x s r h =
    let all = r.parts ++ r.last ∷ [] in
    let size : length x.0 ≡ min n (0 + total all) = ap length r.bytes ∙ (length-take n (concat all) ∙ omega arith) in
    let few : length (take 16 (ends_from n 0 r.parts)) < 16 = omega (arith, ap length r.ends) in
    ap (λ y. y ++ length x.0 ∷ []) r.ends ∙ (ap (λ j. take 16 (ends_from n 0 r.parts) ++ j ∷ []) size
    ∙ (sym (take-room 16 (ends_from n 0 r.parts) (min n (0 + total all)) few)
    ∙ ap (take 16) (sym (ends_from-last n 0 r.parts r.last) ∙ ap (ends_from n 0) (sym r.by_parts))))

pub end-full : (n : ℕ) (x : List ℕ × List ℕ) (s : List ℕ) (r : ReadsOsc n x s) → 16 ≤ length x.1
    → x.1 ≡ take 16 (ends_from n 0 (pieces_of s))
end-full n x s r h =
    let all = r.parts ++ r.last ∷ [] in
    let many : 16 ≤ length (take 16 (ends_from n 0 r.parts)) = omega (arith, ap length r.ends) in
    r.ends ∙ (sym (take-full 16 (ends_from n 0 r.parts) (min n (0 + total all)) many)
    ∙ ap (take 16) (sym (ends_from-last n 0 r.parts r.last) ∙ ap (ends_from n 0) (sym r.by_parts)))

-- the pieces at the end
cut-take : (m start : ℕ) (ends xs : List ℕ) → cut_at start (take m ends) xs ≡ take m (cut_at start ends xs)
cut-take zero start ends xs = refl
cut-take (suc m) start [] xs = refl
cut-take (suc m) start (end ∷ ends) xs = ap (λ r. slice_range xs start end ∷ r) (cut-take m end ends xs)

drop_take : (n k : ℕ) (pre xs : List ℕ) → length pre ≡ k → k ≤ n → drop k (take n (pre ++ xs)) ≡ take (n - k) xs
drop_take n k [] xs h l = rw (sym h) (ap (λ j. take j xs) (omega arith))
drop_take n zero (x ∷ pre) xs h l = absurd (omega (arith, h))
drop_take zero (suc k) (x ∷ pre) xs h l = absurd (omega arith)
drop_take (suc n) (suc k) (x ∷ pre) xs h l = drop_take n k pre xs (omega (arith, h)) (omega arith)
    ∙ ap (λ j. take j xs) (omega arith)

range-piece : (n k : ℕ) (pre p rest : List ℕ) → length pre ≡ k
    → slice_range (take n (pre ++ (p ++ rest))) (min n k) (min n (k + length p)) ≡ take (n - k) p
range-piece n k pre p rest h =
    elim (cases_lt k n) [
      | inl e ↦
          let a : min n k ≡ k = omega (arith, e) in
          let d : drop k (take n (pre ++ (p ++ rest))) ≡ take (n - k) (p ++ rest) =
          drop_take n k pre (p ++ rest) h (omega (arith, e)) in
          rw (a, d) (elim (cases_lt (k + length p) n) [
            | inl f ↦
                let b : min n (k + length p) ≡ k + length p = omega (arith, f) in
                let c : k + length p - k ≡ length p = omega arith in
                rw (b, c) (take-take (length p) (n - k) (p ++ rest) (omega (arith, f))
                ∙ (take-append_seam p rest ∙ sym (take_all (n - k) p (omega (arith, f)))))
            | inr f ↦
                let b : min n (k + length p) ≡ n = omega (arith, f) in
                rw b (take-take (n - k) (n - k) (p ++ rest) (omega arith)
                ∙ take-append-le (n - k) p rest (omega (arith, f)))
          ])
      | inr e ↦
          let a : min n k ≡ n = omega (arith, e) in
          let b : min n (k + length p) ≡ n = omega (arith, e) in
          let c : n - k ≡ 0 = omega (arith, e) in
          let z : n - n ≡ 0 = omega arith in
          rw (a, b, c, z) refl
    ]

cut-first : (n k : ℕ) (ps : List (List ℕ)) (pre : List ℕ) → length pre ≡ k
    → cut_at (min n k) (ends_from n k ps) (take n (pre ++ concat ps)) ≡ first_bytes (n - k) ps
cut-first n k [] pre h = refl
cut-first n k (p ∷ ps) pre h =
    let len : length (pre ++ p) ≡ k + length p = length-append pre p ∙ ap (λ j. j + length p) h in
    let first = range-piece n k pre p (concat ps) h in
    let more : cut_at (min n (k + length p)) (ends_from n (k + length p) ps) (take n (pre ++ (p ++ concat ps)))
    ≡ first_bytes (n - k - length p) ps =
    ap (λ y. cut_at (min n (k + length p)) (ends_from n (k + length p) ps) (take n y))
    (sym (append_assoc pre p (concat ps)))
    ∙ (cut-first n (k + length p) ps (pre ++ p) len ∙ ap (λ j. first_bytes j ps) (omega arith)) in cc

pub cut-pieces : (n : ℕ) (x : List ℕ × List ℕ) (s ends : List ℕ) (r : ReadsOsc n x s)
    → ends ≡ take 16 (ends_from n 0 (pieces_of s)) → cut_at 0 ends x.0 ≡ osc_pieces n s
cut-pieces n x s ends r h =
    let all = pieces_of s in
    let bytes : x.0 ≡ take n (concat all) = r.bytes ∙ ap (λ ps. take n (concat ps)) (sym r.by_parts) in
    ap (λ y. cut_at 0 y x.0) h ∙ (ap (λ y. cut_at 0 (take 16 (ends_from n 0 all)) y) bytes
    ∙ (cut-take 16 0 (ends_from n 0 all) (take n (concat all))
    ∙ ap (take 16) (ap (λ j. cut_at j (ends_from n 0 all) (take n (concat all))) (omega arith)
    ∙ (cut-first n 0 all [] refl ∙ ap (λ j. first_bytes j all) (omega arith)))))

-- one more piece reported
pub tell_step : {X : Type 0} (f : X → List ℕ) (xs : List X) (x : X) (i : ℕ) (first : List ℕ)
    (rest all : List (List ℕ)) → i < length xs → f x ≡ first → map f (take i xs) ++ first ∷ rest ≡ all
    → map f (take (i + 1) (set xs i x)) ++ rest ≡ all
tell_step f xs x i first rest all h e k =
    let more : take (i + 1) (set xs i x) ≡ take i xs ++ x ∷ [] =
    (let m : i + 1 ≡ suc i = omega arith in ap (λ j. take j (set xs i x)) m) ∙ take-suc-set xs i x h in
    ap (λ y. map f y ++ rest) more
    ∙ (ap (λ y. y ++ rest) (map-append f (take i xs) (x ∷ []))
    ∙ (append_assoc (map f (take i xs)) (f x ∷ []) rest
    ∙ (ap (λ y. map f (take i xs) ++ y ∷ rest) e ∙ k)))

pub rise_at : (start : ℕ) (ends xs : List ℕ) (i : ℕ) → i < length ends → EndsRise start (drop i ends) xs
    → (start ≤ get_or ends i 0) × EndsRise (get_or ends i 0) (drop (i + 1) ends) xs
rise_at start ends xs i h k = rw (drop_more ends i 0 h) at k

pub cut_next : (start : ℕ) (ends xs : List ℕ) (i : ℕ) → i < length ends
    → cut_at start (drop i ends) xs ≡ slice_range xs start (get_or ends i 0)
    ∷ cut_at (get_or ends i 0) (drop (i + 1) ends) xs
cut_next start ends xs i h = ap (λ y. cut_at start y xs) (drop_more ends i 0 h)

pub not_full : (k m : ℕ) → false ≡ (k == m) → k ≤ m → k < m
not_full k m h l = grind (arith, nat_tests)

pub is_full : (k m j : ℕ) → true ≡ (k == m) → k ≡ j → m ≤ j
is_full k m j h e = grind (arith, nat_tests)

pub bytes-room : (n : ℕ) (x : List ℕ × List ℕ) (s : List ℕ) (b : ℕ) (r : ReadsOsc n x s) → length x.0 < n
    → x.0 ++ b ∷ [] ≡ take n (concat (r.parts ++ r.last ∷ []) ++ b ∷ [])
bytes-room n x s b r h = ap (λ y. y ++ b ∷ []) r.bytes
    ∙ sym (take-room n (concat (r.parts ++ r.last ∷ [])) b (omega (arith, ap length r.bytes)))

pub bytes-full : (n : ℕ) (x : List ℕ × List ℕ) (s : List ℕ) (b : ℕ) (r : ReadsOsc n x s) → n ≤ length x.0
    → x.0 ≡ take n (concat (r.parts ++ r.last ∷ []) ++ b ∷ [])
bytes-full n x s b r h = r.bytes ∙ sym (take-full n (concat (r.parts ++ r.last ∷ [])) b
    (omega (arith, ap length r.bytes)))

pub reads-by : (n : ℕ) (x y : List ℕ × List ℕ) (s : List ℕ) → x ≡ y → ReadsOsc n y s → ReadsOsc n x s
reads-by n x y s e r = subst (λ (z : List ℕ × List ℕ). ReadsOsc n z s) (sym e) r
