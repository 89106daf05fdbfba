-- The marks of a frame occur only at its two ends.
use Rattle.std.proofs.Common.{◌≡◌, ℕ, false, ◌==◌, List, [], ◌∷◌, ◌++◌, length, refl, ap, sym, ◌∙◌, arith}
use Rattle.std.proofs.Common.{append_assoc, length-append}
use Rattle.std.specs.List.{AllByRecursion, list_any}
use Rattle.std.proofs.lemmas.Bool.{or_parts, eqb-false}
use Rattle.std.proofs.lemmas.List.{append_cancel_left}
use Rattle.vt100_forms.specs.Form.{Form, bytes_of}
use Rattle.vt100_forms.specs.Mark.{mark_head, HasPlainText}
use Rattle.vt100_forms.proofs.Marks.{marks_behind}
use Rattle.terminal_model.specs.Term.{Shown}
use Rattle.screen_drawing.proofs.Texts.{texts-plain}
use Rattle.termrelay.specs.Frame.{start_mark, end_mark, body_forms, EachFrameIsMarked}
use Rattle.termrelay.proofs.BodyForms.{body-all}

same-first : (x y : ℕ) (xs ys : List ℕ) → x ∷ xs ≡ y ∷ ys → x ≡ y
same-first x y xs ys e = cc

same-rest : (x y : ℕ) (xs ys : List ℕ) → x ∷ xs ≡ y ∷ ys → xs ≡ ys
same-rest x y xs ys e = cc

-- if bytes without an ESC come first, a mark begins only after them
behind-bytes : (bs : List ℕ) → list_any (λ b. b == 27) bs ≡ false → (r xs ys : List ℕ)
    → bs ++ r ≡ xs ++ (mark_head ++ ys) → (zs : List ℕ) × (xs ≡ bs ++ zs) × (r ≡ zs ++ (mark_head ++ ys))
behind-bytes [] h r xs ys e = (xs, refl, e)
behind-bytes (b ∷ bs) h r [] ys e = absurd (eqb-false b 27 (or_parts (b == 27) _ h).0 cc)
behind-bytes (b ∷ bs) h r (x ∷ xs) ys e =
    let rest = same-rest b x _ (xs ++ (mark_head ++ ys)) e in
    let (zs, is, left) = behind-bytes bs (or_parts (b == 27) _ h).1 r xs ys rest in (zs, cc, left)

-- what follows the ESC of a mark
start-tail : List ℕ
start-tail = 91 ∷ 63 ∷ 50 ∷ 48 ∷ 50 ∷ 54 ∷ 104 ∷ []

end-tail : List ℕ
end-tail = 91 ∷ 63 ∷ 50 ∷ 48 ∷ 50 ∷ 54 ∷ 108 ∷ []

-- no mark occurs in an empty list
none-in_nil : (zs ys : List ℕ) → [] ≡ zs ++ (mark_head ++ ys) → ⊥
none-in_nil zs ys e = omega (arith, ap length e, length-append zs (mark_head ++ ys), length-append mark_head ys)

-- no other mark occurs in an end mark
at-end : (zs ys : List ℕ) → end_mark ≡ zs ++ (mark_head ++ ys) → ys ≡ 108 ∷ []
unfolding end-tail
at-end [] ys e = sym (append_cancel_left mark_head (108 ∷ []) ys e)
at-end (z ∷ zs) ys e =
    let (ws, is, left) = behind-bytes end-tail refl [] zs ys
    (same-rest 27 z end-tail (zs ++ (mark_head ++ ys)) e) in
    absurd (none-in_nil ws ys left)

-- a mark after the first byte of a frame is the end mark
behind-first : (fs : List Form) → AllByRecursion HasPlainText fs → (x : ℕ) (xs ys : List ℕ)
    → start_mark ++ (bytes_of fs ++ end_mark) ≡ (x ∷ xs) ++ (mark_head ++ ys) → ys ≡ 108 ∷ []
unfolding start-tail
behind-first fs h x xs ys e =
    let r = bytes_of fs ++ end_mark in
    let (prefix, first, left) = behind-bytes start-tail refl r xs ys
    (same-rest 27 x (start-tail ++ r) (xs ++ (mark_head ++ ys)) e) in
    let (zs, is) = marks_behind fs h end_mark prefix ys left in
    at-end zs ys (append_cancel_left (bytes_of fs) end_mark (zs ++ (mark_head ++ ys))
    (left ∙ ap (λ ws. ws ++ (mark_head ++ ys)) is ∙ append_assoc (bytes_of fs) zs (mark_head ++ ys)))

starts-once : (fs : List Form) → AllByRecursion HasPlainText fs → (xs ys : List ℕ)
    → start_mark ++ (bytes_of fs ++ end_mark) ≡ xs ++ (start_mark ++ ys) → xs ≡ []
starts-once fs h [] ys e = refl
starts-once fs h (x ∷ xs) ys e =
    let other = same-first 104 108 ys [] (behind-first fs h x xs (104 ∷ ys) e) in absurd (omega (arith, other))

ends-once : (fs : List Form) → AllByRecursion HasPlainText fs → (xs ys : List ℕ)
    → start_mark ++ (bytes_of fs ++ end_mark) ≡ xs ++ (end_mark ++ ys) → ys ≡ []
ends-once fs h [] ys e =
    let other = same-first 104 108 _ ys (append_cancel_left mark_head _ (108 ∷ ys) e) in absurd (omega (arith, other))
ends-once fs h (x ∷ xs) ys e = same-rest 108 108 ys [] (behind-first fs h x xs (108 ∷ ys) e)

pub frame-marked : EachFrameIsMarked
frame-marked z base now h =
    let fs = body_forms z base now in
    let each = λ (old : Shown). texts-plain z old now h in
    let plain = body-all HasPlainText _ z base now (each now).state_formatted (λ old _. each old) in
    record {
      body = bytes_of fs;
      parts = refl;
      starts = starts-once fs plain;
      ends = ends-once fs plain;
    }
