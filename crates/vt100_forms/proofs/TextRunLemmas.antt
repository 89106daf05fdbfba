-- A run of bytes after more bytes are appended.
use Rattle.std.proofs.Common.{◌≡◌, ℕ, zero, suc, ◌+◌, ◌<◌, ◌≤◌, List, [], ◌∷◌, ◌++◌, length, take, set, arith}
use Rattle.std.proofs.Common.{sym, ap, subst}
use Rattle.std.proofs.Common.{length-append, length-take, length-drop, length-take-le, take-take, take-add, take_at}
use Rattle.std.proofs.Common.{drop_at, ◌∙◌}
use Rattle.std.specs.Prelude.{IsUtf8}
use Rattle.std.specs.Str.{IsAscii}
use Rattle.std.proofs.lemmas.Str.{IsUtf8-had, IsUtf8-append, IsUtf8-from_ascii}
use Rattle.std.proofs.lemmas.Slice.{take-put_mid}
use Rattle.std.proofs.lemmas.List.{take_more_set, length-set}
use borrow.Rule.Slice.PartMut.{put_mid}
use Rattle.vt100_forms.specs.declared.text_run.TextRun.TheInside.{Inside}
use Rattle.vt100_forms.specs.TextRunFields.{IsRun, bytes_of}

len-is : (r : Inside) (xs : List ℕ) → IsRun r → bytes_of r ≡ xs → length xs ≡ r.len
len-is r xs h v = ap length (sym v) ∙ length-take-le r.len r.bytes (omega (arith, h.fits, h.whole))

-- k bytes were written at a, of which the first n count
take-put_some : (a k n : ℕ) (xs ys : List ℕ) → a ≤ length xs → length ys ≡ k → n ≤ k
    → take (a + n) (put_mid a k xs ys) ≡ take a xs ++ take n ys
take-put_some a k n xs ys h e l =
    let prefix = length-take-le a xs h in
    sym (take-take (a + n) (a + k) (put_mid a k xs ys) (omega arith))
    ∙ ap (take (a + n)) (take-put_mid a k xs ys (a + k) (omega arith) h)
    ∙ take-add a n (take a xs ++ ys)
    ∙ (λ i. take_at (take a xs) ys a prefix i ++ take n (drop_at (take a xs) ys a prefix i))

-- k bytes ys were written after the run, of which the first n count
pub bytes_of-push : (r : Inside) (xs : List ℕ) (k n : ℕ) (ys : List ℕ) → IsRun r → bytes_of r ≡ xs
    → length ys ≡ k → n ≤ k
    → bytes_of (record { bytes = put_mid r.len k r.bytes ys; len = r.len + n }) ≡ xs ++ take n ys
bytes_of-push r xs k n ys h v e l =
    take-put_some r.len k n r.bytes ys (omega (arith, h.fits, h.whole)) e l
    ∙ (λ i. v i ++ take n ys)

pub IsRun-push : (r : Inside) (xs : List ℕ) (k n : ℕ) (ys : List ℕ) → IsRun r → bytes_of r ≡ xs
    → length xs + k ≤ 192 → length ys ≡ k → n ≤ k → IsUtf8 (take n ys)
    → IsRun (record { bytes = put_mid r.len k r.bytes ys; len = r.len + n })
IsRun-push r xs k n ys h v room e l u =
    let size = len-is r xs h v in
    record {
      fits = omega arith;
      whole = simp (length-append, length-take, length-drop) (omega (arith, h.fits, h.whole));
      utf8 = rw (bytes_of-push r xs k n ys h v e l)
          (∣ IsUtf8-append xs (take n ys) (subst IsUtf8 v (IsUtf8-had (take r.len r.bytes) h.utf8)) u ∣₁);
    }

-- ---- an ASCII character

IsAscii-one : (c : ℕ) → c < 128 → IsAscii (c ∷ [])
IsAscii-one c h zero = h
IsAscii-one c h (suc i) = omega arith

pub IsRun-ascii : (r : Inside) (xs : List ℕ) (c : ℕ) → IsRun r → bytes_of r ≡ xs → length xs < 192 → c < 128
    → IsRun (record { bytes = set r.bytes r.len c; len = r.len + 1 })
IsRun-ascii r xs c h v room ascii =
    let size = len-is r xs h v in
    let all : take (r.len + 1) (set r.bytes r.len c) ≡ take r.len r.bytes ++ c ∷ [] =
    take_more_set r.bytes r.len c (omega (arith, h.whole, size)) in
    record {
      fits = omega arith;
      whole = length-set r.bytes r.len c ∙ h.whole;
      utf8 = rw all (∣ IsUtf8-append (take r.len r.bytes) (c ∷ []) (IsUtf8-had (take r.len r.bytes) h.utf8)
          (IsUtf8-from_ascii (c ∷ []) (IsAscii-one c ascii)) ∣₁);
    }
