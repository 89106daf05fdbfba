-- Writing one text after another, and what a cell writes.
use Rattle.std.proofs.Common.{◌≡◌, ◌<◌, ◌==◌, ℕ, zero, suc, List, [], ◌∷◌, ◌++◌, append-nil, refl, sym, ap, subst, ◌∙◌}
use Rattle.std.proofs.Common.{Bool, true, false, cond, not, arith, length, inl, inr}
use Rattle.std.specs.Prelude.{encode_utf8_all, encode_utf8, Result, Ok, Err, OnOk, IsOk}
use Rattle.std.specs.List.{FoldsTo, concat}
use Rattle.std.specs.Fmt.{WritesInCalls}
use Rattle.std.proofs.lemmas.List.Folds.{concat-append}
use Rattle.std.proofs.lemmas.Str.{encode_ascii, length-le-encodes}
use Rattle.std.proofs.lemmas.Bool.{cases_Bool, cases_lt}
use Rattle.std.proofs.lemmas.Bool.Decides.{nat_tests}
use Rattle.vt100_forms.specs.declared.attrs.Attrs.{Attrs}
use Rattle.vt100_forms.specs.Form.{bytes_of, change}
use Rattle.vt100_forms.specs.Writer.{HandsOver}
use Rattle.vt100_cells.specs.Cell.{CellView, has_text, is_default}
use Rattle.vt100_rows.specs.Basic.{basic_cell, attrs_after, basic_attrs, basic_columns}

module _ {W : Type 0} (gives : W → List ℕ → W → Type 0) where
  folds-append : (w : W) (xs : List (List ℕ)) (v : W) (ys : List (List ℕ)) (u : W) → FoldsTo gives w xs v
      → FoldsTo gives v ys u → FoldsTo gives w (xs ++ ys) u
  folds-append w [] v ys u p q = subst (λ (x : W). FoldsTo gives x ys u) (sym p) q
  folds-append w (x ∷ xs) v ys u p q = (p.0, p.1, folds-append p.0 xs v ys u p.2 q)

  pub writes-nothing : (w v : W) → v ≡ w → WritesInCalls gives w [] v
  writes-nothing w v e = record { parts = []; calls = sym e; whole = refl }

  pub writes-one : (w v : W) (bs : List ℕ) → gives w bs v → WritesInCalls gives w bs v
  writes-one w v bs h = record { parts = bs ∷ []; calls = (v, h, refl); whole = append-nil bs }

  pub writes-append : (w v u : W) (xs ys : List ℕ) → WritesInCalls gives w xs v → WritesInCalls gives v ys u
      → WritesInCalls gives w (xs ++ ys) u
  writes-append w v u xs ys p q = record {
    parts = p.parts ++ q.parts;
    calls = folds-append w p.parts v q.parts u p.calls q.calls;
    whole = concat-append p.parts q.parts ∙ ap (λ (l : List ℕ). l ++ concat q.parts) p.whole
        ∙ ap (λ (l : List ℕ). xs ++ l) q.whole;
  }

  pub writes-handed : (w v : W) (bs : List ℕ) → HandsOver gives w bs v → WritesInCalls gives w bs v
  writes-handed w v [] h = writes-nothing w v h
  writes-handed w v (b ∷ bs) h = writes-one w v (b ∷ bs) h

-- ---- a cell

pub on-ok : {T E P Q : Type 0} (r : Result T E) → (P → Q) → OnOk r P → OnOk r Q
on-ok (Ok x) f p = f p
on-ok (Err e) f p = tt

pub from-ok : {T E P : Type 0} (r : Result T E) → (IsOk r → P) → OnOk r P
from-ok (Ok x) f = f refl
from-ok (Err e) f = tt

pub basic_cell-default : (a : Attrs) (x : CellView) → x.continuation ≡ false → is_default x ≡ true
    → basic_cell a x ≡ 32 ∷ []
basic_cell-default a x h d =
    let shown = bytes_of (change a x.attrs) ++ encode_utf8_all (cond (has_text x) x.text (32 ∷ [])) in
    ap (λ q. cond q [] (cond (is_default x) (32 ∷ []) shown)) h ∙ ap (λ q. cond q (32 ∷ []) shown) d

pub basic_cell-own : (a : Attrs) (x : CellView) (b : Bool) → x.continuation ≡ false → is_default x ≡ false
    → has_text x ≡ b → basic_cell a x ≡ bytes_of (change a x.attrs) ++ encode_utf8_all (cond b x.text (32 ∷ []))
basic_cell-own a x b h d t =
    let shown = λ (q : Bool). bytes_of (change a x.attrs) ++ encode_utf8_all (cond q x.text (32 ∷ [])) in
    ap (λ q. cond q [] (cond (is_default x) (32 ∷ []) (shown (has_text x)))) h
    ∙ ap (λ q. cond q (32 ∷ []) (shown (has_text x))) d ∙ ap shown t

-- the parts of an empty list are empty
pub nil-left : (xs ys : List ℕ) → xs ++ ys ≡ [] → xs ≡ []
nil-left [] ys e = refl
nil-left (x ∷ xs) ys e = cc

pub nil-right : (xs ys : List ℕ) → xs ++ ys ≡ [] → ys ≡ []
nil-right [] ys e = e
nil-right (x ∷ xs) ys e = cc

some-text : (b : Bool) (xs : List ℕ) → not (length xs == 0) ≡ b → 0 < length (cond b xs (32 ∷ []))
some-text true xs e = grind (arith, nat_tests)
some-text false xs e = omega arith

-- a cell that isn't the second half of a wide character writes something
pub basic_cell-some : (a : Attrs) (x : CellView) → x.continuation ≡ false → basic_cell a x ≡ [] → ⊥
basic_cell-some a x h e =
    elim (cases_Bool (is_default x)) [
      | inl d ↦
          let none : 1 ≡ 0 = ap length (sym (basic_cell-default a x h d) ∙ e) in
          omega (arith, none)
      | inr d ↦
          let text = cond (has_text x) x.text (32 ∷ []) in
          let shown = encode_utf8_all text in
          let none : length shown ≡ 0 = ap length (nil-right (bytes_of (change a x.attrs)) shown
          (sym (basic_cell-own a x (has_text x) h d refl) ∙ e)) in
          omega (arith, none, length-le-encodes text, some-text (has_text x) x.text refl)
    ]

module _ {W : Type 0} (gives : W → List ℕ → W → Type 0) (w : W) (a : Attrs) (x : CellView)
    (whole : x.continuation ≡ false) where
  pub writes-default : (v : W) → is_default x ≡ true → gives w (encode_utf8 32) v
      → WritesInCalls gives w (basic_cell a x) v
  writes-default v d g = subst (λ bs. WritesInCalls gives w bs v)
      (encode_ascii 32 (omega arith) ∙ sym (basic_cell-default a x whole d)) (writes-one gives w v (encode_utf8 32) g)

  pub writes-own : (b : Bool) (c : Attrs) (u v : W) (bs : List ℕ) → is_default x ≡ false → has_text x ≡ b
      → c ≡ x.attrs → HandsOver gives w (bytes_of (change a c)) u → bs ≡ encode_utf8_all (cond b x.text (32 ∷ []))
      → gives u bs v → WritesInCalls gives w (basic_cell a x) v
  writes-own b c u v bs d t ec given e text =
      let ask = bytes_of (change a x.attrs) in
      let form = subst (λ y. HandsOver gives w (bytes_of (change a y)) u) ec given in
      subst (λ cs. WritesInCalls gives w cs v) (ap (λ cs. ask ++ cs) e ∙ sym (basic_cell-own a x b whole d t))
      (writes-append gives w u v ask bs (writes-handed gives w u ask form) (writes-one gives u v bs text))

-- ---- the loop over the columns

-- n columns are written
pub record IsBasic {W : Type 0} (gives : W → List ℕ → W → Type 0) (f : ℕ → CellView) (a : Attrs) (n : ℕ) (w v : W)
    (b : Attrs) : Type 0 where
  pub text : WritesInCalls gives w (basic_columns f a n) v
  pub attrs : b ≡ basic_attrs f a n

module _ {W : Type 0} (gives : W → List ℕ → W → Type 0) (f : ℕ → CellView) (a : Attrs) (w : W) where
  pub IsBasic-start : IsBasic gives f a 0 w w a
  IsBasic-start = record { text = writes-nothing gives w w refl; attrs = refl }

  pub IsBasic-next : (n m : ℕ) (x : CellView) (u v : W) (b c : Attrs) → m ≡ suc n → x ≡ f n
      → IsBasic gives f a n w u b → WritesInCalls gives u (basic_cell b x) v → c ≡ attrs_after b x
      → IsBasic gives f a m w v c
  IsBasic-next n m x u v b c e ex h t ec = rw e (record {
    text = writes-append gives w u v (basic_columns f a n) (basic_cell (basic_attrs f a n) (f n)) h.text
        (subst (λ bs. WritesInCalls gives u bs v) (ap (λ y. basic_cell y x) h.attrs
        ∙ ap (basic_cell (basic_attrs f a n)) ex) t);
    attrs = ec ∙ ap (λ y. attrs_after y x) h.attrs ∙ ap (attrs_after (basic_attrs f a n)) ex;
  })

-- where the first columns write nothing, none of them does
columns-none : (f : ℕ → CellView) (a : Attrs) (i n : ℕ) → i < n → basic_columns f a n ≡ []
    → basic_cell (basic_attrs f a i) (f i) ≡ []
columns-none f a i zero h e = absurd (omega (arith, h))
columns-none f a i (suc n) h e =
    let last = basic_cell (basic_attrs f a n) (f n) in
    elim (cases_lt i n) [
      | inl l ↦ columns-none f a i n l (nil-left (basic_columns f a n) last e)
      | inr l ↦ (let is : i ≡ n = omega arith in rw is (nil-right (basic_columns f a n) last e))
    ]

pub no-column : (f : ℕ → CellView) (a : Attrs) (i n : ℕ) (x : CellView) (b : Attrs) → i < n → x ≡ f i
    → b ≡ basic_attrs f a i → basic_columns f a n ≡ [] → basic_cell b x ≡ []
no-column f a i n x b h ex eb e =
    ap (λ y. basic_cell y x) eb ∙ ap (basic_cell (basic_attrs f a i)) ex ∙ columns-none f a i n h e
