-- What is seen of bytes that are appended.
use Rattle.std.proofs.Common.{◌≡◌, ◌≢◌, ◌<◌, ◌≤◌, ◌+◌, ◌%◌, ◌/◌, ℕ, zero, suc, Bool, true, false, not, ◌&&◌, List, []}
use Rattle.std.proofs.Common.{◌∷◌, ◌++◌, refl, sym, ap, ap₂, ◌∙◌, append_assoc, append-nil, subst, arith, cond, nat_eq}
use Rattle.std.proofs.Common.{decimal, Result, OnOk}
use Rattle.std.specs.Fmt.{digits, digit_glyph, digits_onto}
use Rattle.std.specs.Prelude.{if◌then◌else◌, nat_lt, ◌==◌}
use Rattle.std.proofs.lemmas.Bool.{leb-true, ne_eqb}
use Rattle.std.proofs.lemmas.Result.{on_ok_weaker}
use Rattle.picture_page.specs.Bytes.{color_bytes, hexadecimal, numbers_bytes}
use Rattle.picture_page.specs.Page.{digit_byte, escaped}
use Rattle.picture_page.specs.Seen.{Draws, ends_outside, is_plain, seen, seen_from}
use Rattle.picture_page.specs.Tags.{tag_bytes}
use Rattle.picture_page.specs.declared.page.Rgb.{Rgb}
use Rattle.picture_page.specs.declared.tag.Tag.{Tag}
use Rattle.picture_page.proofs.PageLemmas.{escaped-append}
use Rattle.picture_page.proofs.SafeLemmas.{is_harmless, both, escaped_text, digit_alone}

-- ---- one after another

ends-append : (o : Bool) (a b : List ℕ) → ends_outside o (a ++ b) ≡ ends_outside (ends_outside o a) b
ends-append o [] b = refl
ends-append true (x ∷ a) b = ends-append (not (nat_eq x 60)) a b
ends-append false (x ∷ a) b = ends-append (nat_eq x 62) a b

seen_one : (v : Bool) (x : ℕ) (a b : List ℕ)
    → seen_from false (a ++ b) ≡ seen_from false a ++ seen_from (ends_outside false a) b
    → seen_from true (a ++ b) ≡ seen_from true a ++ seen_from (ends_outside true a) b
    → cond v (seen_from false (a ++ b)) (x ∷ seen_from true (a ++ b))
    ≡ cond v (seen_from false a) (x ∷ seen_from true a) ++ seen_from (ends_outside (not v) a) b
seen_one true x a b within out = within
seen_one false x a b within out = ap (λ xs. x ∷ xs) out

seen-append : (o : Bool) (a b : List ℕ) → seen_from o (a ++ b) ≡ seen_from o a ++ seen_from (ends_outside o a) b
seen-append o [] b = refl
seen-append true (x ∷ a) b = seen_one (nat_eq x 60) x a b (seen-append false a b) (seen-append true a b)
seen-append false (x ∷ a) b = seen-append (nat_eq x 62) a b

pub draws_none : (old : List ℕ) (o : Bool) → Draws old old o o []
draws_none old o = record { more = []; joined = sym (append-nil old); ends_so = refl; seen_is = refl }

pub draws_bytes : (old new more : List ℕ) (o : Bool) → new ≡ old ++ more
    → Draws old new o (ends_outside o more) (seen_from o more)
draws_bytes old new more o joined = record { more = more; joined = joined; ends_so = refl; seen_is = refl }

pub draws_both : (a b c : List ℕ) (o p q : Bool) (s t : List ℕ) → Draws a b o p s → Draws b c p q t
    → Draws a c o q (s ++ t)
draws_both a b c o p q s t first second = record {
  more = first.more ++ second.more;
  joined = second.joined ∙ ap (λ xs. xs ++ second.more) first.joined ∙ append_assoc a first.more second.more;
  ends_so = ends-append o first.more second.more ∙ ap (λ v. ends_outside v second.more) first.ends_so
      ∙ second.ends_so;
  seen_is = seen-append o first.more second.more
      ∙ ap₂ (λ xs ys. xs ++ ys) first.seen_is (ap (λ v. seen_from v second.more) first.ends_so ∙ second.seen_is);
}

-- nothing that is seen, and then more
pub draws_after : (a b c : List ℕ) (o p q : Bool) (t : List ℕ) → Draws a b o p [] → Draws b c p q t → Draws a c o q t
draws_after a b c o p q t first second = draws_both a b c o p q [] t first second

-- nothing more that is seen
pub draws_before : (a b c : List ℕ) (o p q : Bool) (s : List ℕ) → Draws a b o p s → Draws b c p q [] → Draws a c o q s
draws_before a b c o p q s first second =
    subst (λ t. Draws a c o q t) (append-nil s) (draws_both a b c o p q s [] first second)

pub if_drawn : {T E : Type 0} (r : Result T E) (a b c : List ℕ) (o p q : Bool) (s t : List ℕ) → Draws a b o p s
    → OnOk r (Draws b c p q t) → OnOk r (Draws a c o q (s ++ t))
if_drawn r a b c o p q s t first = on_ok_weaker r (draws_both a b c o p q s t first)

pub if_drawn_after : {T E : Type 0} (r : Result T E) (a b c : List ℕ) (o p q : Bool) (t : List ℕ) → Draws a b o p []
    → OnOk r (Draws b c p q t) → OnOk r (Draws a c o q t)
if_drawn_after r a b c o p q t first = on_ok_weaker r (draws_after a b c o p q t first)

pub if_drawn_before : {T E : Type 0} (r : Result T E) (a b c : List ℕ) (o p q : Bool) (s : List ℕ) → Draws a b o p s
    → OnOk r (Draws b c p q []) → OnOk r (Draws a c o q s)
if_drawn_before r a b c o p q s first = on_ok_weaker r (draws_before a b c o p q s first)

pub if_bytes : {T E : Type 0} (r : Result T E) (old new more : List ℕ) (o : Bool) → OnOk r (new ≡ old ++ more)
    → OnOk r (Draws old new o (ends_outside o more) (seen_from o more))
if_bytes r old new more o = on_ok_weaker r (draws_bytes old new more o)

-- ---- bytes without < and >

plain-append : (a b : List ℕ) → is_plain a ≡ true → is_plain b ≡ true → is_plain (a ++ b) ≡ true
plain-append [] b first second = second
plain-append (x ∷ a) b first second =
    let one = both (not (nat_eq x 60)) (not (nat_eq x 62) && is_plain a) first in
    let two = both (not (nat_eq x 62)) (is_plain a) one.1 in rw (one.0, two.0) (plain-append a b two.1 second)

not_true : (v : Bool) → not v ≡ true → v ≡ false
not_true true h = sym h
not_true false h = refl

plain_ends : (o : Bool) (bs : List ℕ) → is_plain bs ≡ true → ends_outside o bs ≡ o
plain_ends o [] h = refl
plain_ends true (x ∷ bs) h =
    let one = both (not (nat_eq x 60)) (not (nat_eq x 62) && is_plain bs) h in
    let two = both (not (nat_eq x 62)) (is_plain bs) one.1 in
    ap (λ v. ends_outside v bs) one.0 ∙ plain_ends true bs two.1
plain_ends false (x ∷ bs) h =
    let one = both (not (nat_eq x 60)) (not (nat_eq x 62) && is_plain bs) h in
    let two = both (not (nat_eq x 62)) (is_plain bs) one.1 in
    ap (λ v. ends_outside v bs) (not_true (nat_eq x 62) two.0) ∙ plain_ends false bs two.1

plain_seen : (bs : List ℕ) → is_plain bs ≡ true → seen_from true bs ≡ bs
plain_seen [] h = refl
plain_seen (x ∷ bs) h =
    let one = both (not (nat_eq x 60)) (not (nat_eq x 62) && is_plain bs) h in
    let two = both (not (nat_eq x 62)) (is_plain bs) one.1 in
    ap (λ v. cond v (seen_from false bs) (x ∷ seen_from true bs)) (not_true (nat_eq x 60) one.0)
    ∙ ap (λ xs. x ∷ xs) (plain_seen bs two.1)

plain_unseen : (bs : List ℕ) → is_plain bs ≡ true → seen_from false bs ≡ []
plain_unseen [] h = refl
plain_unseen (x ∷ bs) h =
    let one = both (not (nat_eq x 60)) (not (nat_eq x 62) && is_plain bs) h in
    let two = both (not (nat_eq x 62)) (is_plain bs) one.1 in
    ap (λ v. seen_from v bs) (not_true (nat_eq x 62) two.0) ∙ plain_unseen bs two.1

harmless_plain : (bs : List ℕ) → is_harmless bs ≡ true → is_plain bs ≡ true
harmless_plain [] h = refl
harmless_plain (x ∷ bs) h =
    let one = both (not (nat_eq x 60)) _ h in
    let two = both (not (nat_eq x 62)) _ one.1 in
    let three = both (not (nat_eq x 34)) _ two.1 in
    let four = both (not (nat_eq x 39)) _ three.1 in
    let five = both _ (is_harmless bs) four.1 in rw (one.0, two.0) (harmless_plain bs five.1)

escaped_plain : (t : List ℕ) → is_plain (escaped t) ≡ true
escaped_plain t = harmless_plain (escaped t) (escaped_text t)

glyph_plain : (d : ℕ) (bs : List ℕ) → is_plain bs ≡ true → is_plain (digit_glyph false d ∷ bs) ≡ true
glyph_plain d bs h = go (nat_lt d 10) refl
  where
    go : (v : Bool) → nat_lt d 10 ≡ v → is_plain (cond v (48 + d) (87 + d) ∷ bs) ≡ true
    go true e =
        let small : d < 10 = leb-true (suc d) 10 e in
        rw (ne_eqb (48 + d) 60 (λ x. absurd (omega arith)), ne_eqb (48 + d) 62 (λ x. absurd (omega arith))) h
    go false e =
        rw (ne_eqb (87 + d) 60 (λ x. absurd (omega arith)), ne_eqb (87 + d) 62 (λ x. absurd (omega arith))) h

onto_one : (v : Bool) (xs ys : List ℕ) → is_plain xs ≡ true → is_plain ys ≡ true → is_plain (cond v xs ys) ≡ true
onto_one true xs ys first second = first
onto_one false xs ys first second = second

onto_plain : (k n : ℕ) (acc : List ℕ) → is_plain acc ≡ true → is_plain (digits_onto k 10 false n acc) ≡ true
onto_plain zero n acc h = h
onto_plain (suc k) n acc h =
    onto_one (n / 10 == 0) (digit_glyph false (n % 10) ∷ acc) (digits_onto k 10 false (n / 10)
    (digit_glyph false (n % 10) ∷ acc)) (glyph_plain (n % 10) acc h) (onto_plain k (n / 10)
    (digit_glyph false (n % 10) ∷ acc) (glyph_plain (n % 10) acc h))

decimal_plain : (n : ℕ) → is_plain (decimal n) ≡ true
unfolding digits
decimal_plain n = onto_plain 64 n [] refl

digit_plain : (d : ℕ) → is_plain (digit_byte d ∷ []) ≡ true
digit_plain d = harmless_plain (digit_byte d ∷ []) (digit_alone d)

hexadecimal_plain : (v : ℕ) → is_plain (hexadecimal v) ≡ true
hexadecimal_plain v =
    plain-append (digit_byte (v / 16) ∷ []) (digit_byte (v % 16) ∷ []) (digit_plain (v / 16)) (digit_plain (v % 16))

color_plain : (c : Rgb) → is_plain (color_bytes c) ≡ true
color_plain c =
    plain-append (hexadecimal c.red) (hexadecimal c.green ++ hexadecimal c.blue) (hexadecimal_plain c.red)
    (plain-append (hexadecimal c.green) (hexadecimal c.blue) (hexadecimal_plain c.green) (hexadecimal_plain c.blue))

-- ---- what is seen of them

-- they are seen outside of tags
pub draws_plain : (old new more : List ℕ) → is_plain more ≡ true → new ≡ old ++ more → Draws old new true true more
draws_plain old new more h joined =
    record { more = more; joined = joined; ends_so = plain_ends true more h; seen_is = plain_seen more h }

-- and not within a tag
pub draws_unseen : (old new more : List ℕ) → is_plain more ≡ true → new ≡ old ++ more → Draws old new false false []
draws_unseen old new more h joined =
    record { more = more; joined = joined; ends_so = plain_ends false more h; seen_is = plain_unseen more h }

pub draws_text : (old new t : List ℕ) → new ≡ old ++ escaped t → Draws old new true true (escaped t)
draws_text old new t = draws_plain old new (escaped t) (escaped_plain t)

pub hides_text : (old new t : List ℕ) → new ≡ old ++ escaped t → Draws old new false false []
hides_text old new t = draws_unseen old new (escaped t) (escaped_plain t)

-- markup that leaves a tag open, and then bytes without < and >
draws_opened : (old new : List ℕ) (o : Bool) (t : Tag) (more : List ℕ) → ends_outside o (tag_bytes t) ≡ false
    → is_plain more ≡ true → new ≡ old ++ (tag_bytes t ++ more)
    → Draws old new o false (seen_from o (tag_bytes t))
draws_opened old new o t more opens h joined =
    draws_before old (old ++ tag_bytes t) new o false false (seen_from o (tag_bytes t))
    (subst (λ v. Draws old (old ++ tag_bytes t) o v (seen_from o (tag_bytes t))) opens
    (draws_bytes old (old ++ tag_bytes t) (tag_bytes t) o refl))
    (draws_unseen (old ++ tag_bytes t) new more h (joined ∙ sym (append_assoc old (tag_bytes t) more)))

-- a colour
pub draws_color : (old new : List ℕ) (o : Bool) (t : Tag) (c : Rgb) → ends_outside o (tag_bytes t) ≡ false
    → new ≡ old ++ (tag_bytes t ++ color_bytes c) → Draws old new o false (seen_from o (tag_bytes t))
draws_color old new o t c opens = draws_opened old new o t (color_bytes c) opens (color_plain c)

-- whether none of these pieces of markup has < or >
abbrev pub are_plain : List (Tag × ℕ) → Bool
are_plain [] = true
are_plain (p ∷ ps) = is_plain (tag_bytes p.0) && are_plain ps

numbers_plain : (ps : List (Tag × ℕ)) → are_plain ps ≡ true → is_plain (numbers_bytes ps) ≡ true
numbers_plain [] h = refl
numbers_plain (p ∷ ps) h =
    let all = both (is_plain (tag_bytes p.0)) (are_plain ps) h in
    plain-append (tag_bytes p.0 ++ decimal p.1) (numbers_bytes ps)
    (plain-append (tag_bytes p.0) (decimal p.1) all.0 (decimal_plain p.1)) (numbers_plain ps all.1)

-- numbers, each after its piece of markup
pub draws_numbers : (old new : List ℕ) (o : Bool) (p : Tag × ℕ) (ps : List (Tag × ℕ))
    → ends_outside o (tag_bytes p.0) ≡ false → are_plain ps ≡ true → new ≡ old ++ numbers_bytes (p ∷ ps)
    → Draws old new o false (seen_from o (tag_bytes p.0))
draws_numbers old new o p ps opens h joined =
    draws_opened old new o p.0 (decimal p.1 ++ numbers_bytes ps) opens
    (plain-append (decimal p.1) (numbers_bytes ps) (decimal_plain p.1) (numbers_plain ps h))
    (joined ∙ ap (λ xs. old ++ xs) (append_assoc (tag_bytes p.0) (decimal p.1) (numbers_bytes ps)))

-- one text more of a picture
pub draws_more_text : (a b c s t : List ℕ) → Draws a b true true (escaped s) → Draws b c true true (escaped t)
    → Draws a c true true (escaped (s ++ t))
draws_more_text a b c s t first second =
    subst (λ xs. Draws a c true true xs) (sym (escaped-append s t))
    (draws_both a b c true true true (escaped s) (escaped t) first second)

-- ---- markup

pub draws_tag : (old new : List ℕ) (t : Tag) (o p : Bool) (s : List ℕ) → ends_outside o (tag_bytes t) ≡ p
    → seen_from o (tag_bytes t) ≡ s → new ≡ old ++ tag_bytes t → Draws old new o p s
draws_tag old new t o p s ends sees joined =
    record { more = tag_bytes t; joined = joined; ends_so = ends; seen_is = sees }

pub if_tag : {T E : Type 0} (r : Result T E) (old new : List ℕ) (t : Tag) (o p : Bool) (s : List ℕ)
    → ends_outside o (tag_bytes t) ≡ p → seen_from o (tag_bytes t) ≡ s → OnOk r (new ≡ old ++ tag_bytes t)
    → OnOk r (Draws old new o p s)
if_tag r old new t o p s ends sees = on_ok_weaker r (draws_tag old new t o p s ends sees)

-- markup without < and >, within a tag, where it is appended on a condition
pub draws_wanted : (old new : List ℕ) (on : Bool) (t : Tag) → is_plain (tag_bytes t) ≡ true
    → new ≡ old ++ (if on then tag_bytes t else []) → Draws old new false false []
draws_wanted old new true t h joined = draws_unseen old new (tag_bytes t) h joined
draws_wanted old new false t h joined = draws_unseen old new [] refl joined

pub if_wanted : {T E : Type 0} (r : Result T E) (old new : List ℕ) (on : Bool) (t : Tag)
    → is_plain (tag_bytes t) ≡ true → OnOk r (new ≡ old ++ (if on then tag_bytes t else []))
    → OnOk r (Draws old new false false [])
if_wanted r old new on t h = on_ok_weaker r (draws_wanted old new on t h)

pub if_color : {T E : Type 0} (r : Result T E) (old new : List ℕ) (o : Bool) (t : Tag) (c : Rgb)
    → ends_outside o (tag_bytes t) ≡ false → OnOk r (new ≡ old ++ (tag_bytes t ++ color_bytes c))
    → OnOk r (Draws old new o false (seen_from o (tag_bytes t)))
if_color r old new o t c opens = on_ok_weaker r (draws_color old new o t c opens)

pub if_numbers : {T E : Type 0} (r : Result T E) (old new : List ℕ) (o : Bool) (p : Tag × ℕ) (ps : List (Tag × ℕ))
    → ends_outside o (tag_bytes p.0) ≡ false → are_plain ps ≡ true → OnOk r (new ≡ old ++ numbers_bytes (p ∷ ps))
    → OnOk r (Draws old new o false (seen_from o (tag_bytes p.0)))
if_numbers r old new o p ps opens h = on_ok_weaker r (draws_numbers old new o p ps opens h)

-- a text that may be seen
pub if_text : {T E : Type 0} (r : Result T E) (old new t : List ℕ) → OnOk r (new ≡ old ++ escaped t)
    → OnOk r (Draws old new true true (escaped t))
if_text r old new t = on_ok_weaker r (draws_text old new t)

-- one text more that may be seen
pub if_more_text : {T E : Type 0} (r : Result T E) (a b c s t : List ℕ) → Draws a b true true (escaped s)
    → OnOk r (c ≡ b ++ escaped t) → OnOk r (Draws a c true true (escaped (s ++ t)))
if_more_text r a b c s t first = on_ok_weaker r (λ second. draws_more_text a b c s t first (draws_text b c t second))

pub if_unseen : {T E : Type 0} (r : Result T E) (old new more : List ℕ) → is_plain more ≡ true
    → OnOk r (new ≡ old ++ more) → OnOk r (Draws old new false false [])
if_unseen r old new more h = on_ok_weaker r (draws_unseen old new more h)

-- what is seen of a page that was empty at first
pub seen_page : (empty page bytes : List ℕ) (o : Bool) (text : List ℕ) → empty ≡ [] → bytes ≡ page
    → Draws empty page true o text → seen bytes ≡ text
seen_page empty page bytes o text none is draws =
    ap seen (is ∙ draws.joined ∙ ap (λ xs. xs ++ draws.more) none) ∙ draws.seen_is
