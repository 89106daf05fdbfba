-- A picture to which a part is added.
use Rattle.std.proofs.Common.{◌≡◌, ℕ, List, [], ◌∷◌, ◌++◌, Option, Some, None, refl, sym, ap, ap₂, ◌∙◌, append_assoc}
use Rattle.std.proofs.Common.{subst, take, ◌+◌}
use Rattle.std.proofs.Common.{◌<◌, ◌%◌, ◌^◌, append-nil, arith, cond, decimal, unwrap_or, Result, OnOk}
use Rattle.std.proofs.lemmas.Bool.{le-leb}
use Rattle.std.proofs.lemmas.Fmt.{decimal_by_steps}
use Rattle.std.proofs.lemmas.Grind.{flat_map-append}
use Rattle.std.proofs.lemmas.Result.{on_ok_weaker}
use Rattle.std.specs.Prelude.{encode_utf8}
use Rattle.picture_page.specs.Bytes.{numbers_bytes}
use Rattle.picture_page.specs.Page.{Adds, Part, Digit, Name, Text, Shows, escaped, part_bytes, part_text, parts_bytes}
use Rattle.picture_page.specs.Page.{parts_text, IsPage, reference}
use Rattle.picture_page.specs.Tags.{tag_bytes}
use Rattle.picture_page.specs.Titles.{title_character, title_characters}
use Rattle.picture_page.specs.declared.tag.Tag.{Tag}

pub parts_bytes-append : (ps : List Part) (p : Part) → parts_bytes (ps ++ p ∷ []) ≡ parts_bytes ps ++ part_bytes p
parts_bytes-append [] p = append-nil (part_bytes p)
parts_bytes-append (q ∷ ps) p =
    ap (λ xs. part_bytes q ++ xs) (parts_bytes-append ps p)
    ∙ sym (append_assoc (part_bytes q) (parts_bytes ps) (part_bytes p))

pub grown : (bytes more : List ℕ) (p : Part) → IsPage bytes → more ≡ part_bytes p → IsPage (bytes ++ more)
grown bytes more p page is = record {
  parts = page.parts ++ p ∷ [];
  joined = ap (λ xs. xs ++ more) page.joined ∙ ap (λ xs. parts_bytes page.parts ++ xs) is
      ∙ sym (parts_bytes-append page.parts p);
}

-- by the reference of a byte
pub grown_by_reference : (bytes more : List ℕ) (b : ℕ) → IsPage bytes → Some more ≡ reference b → IsPage (bytes ++ more)
grown_by_reference bytes more b page is =
    grown bytes more (Text (b ∷ [])) page
    (ap (λ o. unwrap_or o (b ∷ [])) is ∙ sym (append-nil (unwrap_or (reference b) (b ∷ []))))

-- by a byte that has none
pub grown_by_byte : (bytes : List ℕ) (b : ℕ) → IsPage bytes → None ≡ reference b → IsPage (bytes ++ b ∷ [])
grown_by_byte bytes b page is =
    grown bytes (b ∷ []) (Text (b ∷ [])) page
    (ap (λ o. unwrap_or o (b ∷ [])) is ∙ sym (append-nil (unwrap_or (reference b) (b ∷ []))))

-- ---- parts that are added, and the text in them

pub joined_bytes : (ps qs : List Part) → parts_bytes (ps ++ qs) ≡ parts_bytes ps ++ parts_bytes qs
joined_bytes [] qs = refl
joined_bytes (p ∷ ps) qs =
    ap (λ xs. part_bytes p ++ xs) (joined_bytes ps qs) ∙ sym (append_assoc (part_bytes p) (parts_bytes ps)
    (parts_bytes qs))

pub joined_text : (ps qs : List Part) → parts_text (ps ++ qs) ≡ parts_text ps ++ parts_text qs
joined_text [] qs = refl
joined_text (p ∷ ps) qs =
    ap (λ xs. part_text p ++ xs) (joined_text ps qs) ∙ sym (append_assoc (part_text p) (parts_text ps) (parts_text qs))

-- nothing is added
pub adds_none : (bytes : List ℕ) → Adds bytes bytes []
adds_none bytes = record { parts = []; joined = sym (append-nil bytes); text_is = refl }

-- one part is added
pub adds_part : (old more : List ℕ) (p : Part) → more ≡ part_bytes p → Adds old (old ++ more) (part_text p)
adds_part old more p bytes = record {
  parts = p ∷ [];
  joined = ap (λ xs. old ++ xs) (bytes ∙ sym (append-nil (part_bytes p)));
  text_is = append-nil (part_text p);
}

-- some parts, and then more
pub adds_both : (a b c s t : List ℕ) → Adds a b s → Adds b c t → Adds a c (s ++ t)
adds_both a b c s t first second = record {
  parts = first.parts ++ second.parts;
  joined = second.joined ∙ ap (λ xs. xs ++ parts_bytes second.parts) first.joined
      ∙ append_assoc a (parts_bytes first.parts) (parts_bytes second.parts)
      ∙ ap (λ xs. a ++ xs) (sym (joined_bytes first.parts second.parts));
  text_is = joined_text first.parts second.parts ∙ ap₂ (λ xs ys. xs ++ ys) first.text_is second.text_is;
}

-- markup, and then parts
pub after_markup : (a b c t : List ℕ) → Adds a b [] → Adds b c t → Adds a c t
after_markup a b c t first second = adds_both a b c [] t first second

-- parts, and then markup
pub before_markup : (a b c s : List ℕ) → Adds a b s → Adds b c [] → Adds a c s
before_markup a b c s first second = let all = adds_both a b c s [] first second in
    record { parts = all.parts; joined = all.joined; text_is = all.text_is ∙ append-nil s }

-- parts that are added to nothing are a page
pub shows_added : (bytes text : List ℕ) → Adds [] bytes text → Shows bytes text
shows_added bytes text adds = record { parts = adds.parts; joined = adds.joined; text_is = adds.text_is }

-- the escaped byte
pub escaped_one : (b : ℕ) (o : Option (List ℕ)) → o ≡ reference b → unwrap_or o (b ∷ []) ≡ escaped (b ∷ [])
escaped_one b o is = ap (λ x. unwrap_or x (b ∷ [])) is ∙ sym (append-nil (unwrap_or (reference b) (b ∷ [])))

pub adds_reference : (old more : List ℕ) (b : ℕ) → Some more ≡ reference b → Adds old (old ++ more) (b ∷ [])
adds_reference old more b r = adds_part old more (Text (b ∷ [])) (escaped_one b (Some more) r)

pub adds_byte : (old : List ℕ) (b : ℕ) → None ≡ reference b → Adds old (old ++ b ∷ []) (b ∷ [])
adds_byte old b r = adds_part old (b ∷ []) (Text (b ∷ [])) (escaped_one b None r)

pub names_reference : (old more : List ℕ) (b : ℕ) → Some more ≡ reference b → Adds old (old ++ more) []
names_reference old more b r = adds_part old more (Name (b ∷ [])) (escaped_one b (Some more) r)

pub names_byte : (old : List ℕ) (b : ℕ) → None ≡ reference b → Adds old (old ++ b ∷ []) []
names_byte old b r = adds_part old (b ∷ []) (Name (b ∷ [])) (escaped_one b None r)

-- one byte more of a text that is taken from the left
pub adds_more : (a b c text : List ℕ) (i x : ℕ) → take (i + 1) text ≡ take i text ++ x ∷ [] → Adds a b (take i text)
    → Adds b c (x ∷ []) → Adds a c (take (i + 1) text)
adds_more a b c text i x more first second = subst (λ t. Adds a c t) (sym more) (adds_both a b c (take i text) (x ∷ [])
    first second)

-- markup, and then what a call may add
pub if_added : {T E : Type 0} (r : Result T E) (a b c t : List ℕ) → Adds a b [] → OnOk r (Adds b c t)
    → OnOk r (Adds a c t)
if_added r a b c t first = on_ok_weaker r (after_markup a b c t first)

-- what a call may add after parts, if that is markup
pub if_ended : {T E : Type 0} (r : Result T E) (a b c s : List ℕ) → Adds a b s → OnOk r (Adds b c [])
    → OnOk r (Adds a c s)
if_ended r a b c s first = on_ok_weaker r (before_markup a b c s first)

-- two pages, one after the other
pub pages_joined : (a b : List ℕ) → IsPage a → IsPage b → IsPage (a ++ b)
pages_joined a b first second = record {
  parts = first.parts ++ second.parts;
  joined = ap₂ (λ xs ys. xs ++ ys) first.joined second.joined ∙ sym (joined_bytes first.parts second.parts);
}

-- what a call may add after parts
pub if_both : {T E : Type 0} (r : Result T E) (a b c s t : List ℕ) → Adds a b s → OnOk r (Adds b c t)
    → OnOk r (Adds a c (s ++ t))
if_both r a b c s t first = on_ok_weaker r (adds_both a b c s t first)

-- the bytes of a page that was empty at first
pub shows_page : (empty page bytes text : List ℕ) → empty ≡ [] → bytes ≡ page → Adds empty page text → Shows bytes text
shows_page empty page bytes text none is adds =
    shows_added bytes text (subst (λ xs. Adds [] xs text) (sym is) (subst (λ xs. Adds xs page text) none adds))

-- ---- the digits of a number

-- these bytes are digits
record AreDigits (bytes : List ℕ) : Type 0 where
  parts : List Part
  joined : bytes ≡ parts_bytes parts
  text_is : parts_text parts ≡ []

digit_alone : (d : ℕ) → d < 10 → part_bytes (Digit d) ≡ (48 + d) ∷ []
digit_alone d lt = ap (λ v. cond v (48 + d) (87 + d) ∷ []) (le-leb d 9 (omega arith))

one_digit : (d : ℕ) → d < 10 → AreDigits ((48 + d) ∷ [])
one_digit d lt = record { parts = Digit d ∷ []; joined = sym (digit_alone d lt); text_is = refl }

more_digits : (bytes : List ℕ) (d : ℕ) → d < 10 → AreDigits bytes → AreDigits (bytes ++ (48 + d) ∷ [])
more_digits bytes d lt digits = record {
  parts = digits.parts ++ Digit d ∷ [];
  joined = ap₂ (λ xs ys. xs ++ ys) digits.joined (sym (digit_alone d lt)) ∙ sym (parts_bytes-append digits.parts
      (Digit d));
  text_is = joined_text digits.parts (Digit d ∷ []) ∙ ap (λ xs. xs ++ []) digits.text_is;
}

digits_of : (n : ℕ) → n < 2 ^ 64 → AreDigits (decimal n)
digits_of n lt =
    decimal_by_steps (λ m ds. AreDigits ds) (λ m small. one_digit m small)
    (λ m ds big digits. more_digits ds (m % 10) (omega arith) digits) n lt

pub grown_by_number : (bytes : List ℕ) (n : ℕ) → n < 2 ^ 64 → IsPage bytes → IsPage (bytes ++ decimal n)
grown_by_number bytes n lt page = let digits = digits_of n lt in record {
  parts = page.parts ++ digits.parts;
  joined = ap₂ (λ xs ys. xs ++ ys) page.joined digits.joined ∙ sym (joined_bytes page.parts digits.parts);
}

pub adds_number : (old : List ℕ) (n : ℕ) → n < 2 ^ 64 → Adds old (old ++ decimal n) []
adds_number old n lt = let digits = digits_of n lt in
    record { parts = digits.parts; joined = ap (λ xs. old ++ xs) digits.joined; text_is = digits.text_is }

-- ---- exactly these bytes are added

pub escaped-append : (a b : List ℕ) → escaped (a ++ b) ≡ escaped a ++ escaped b
escaped-append [] b = refl
escaped-append (x ∷ a) b =
    ap (λ xs. unwrap_or (reference x) (x ∷ []) ++ xs) (escaped-append a b)
    ∙ sym (append_assoc (unwrap_or (reference x) (x ∷ [])) (escaped a) (escaped b))

pub numbers_bytes-append : (a b : List (Tag × ℕ)) → numbers_bytes (a ++ b) ≡ numbers_bytes a ++ numbers_bytes b
numbers_bytes-append [] b = refl
numbers_bytes-append (x ∷ a) b =
    ap (λ xs. (tag_bytes x.0 ++ decimal x.1) ++ xs) (numbers_bytes-append a b)
    ∙ sym (append_assoc (tag_bytes x.0 ++ decimal x.1) (numbers_bytes a) (numbers_bytes b))

-- bytes, and then more
pub joined_more : (a b c x y : List ℕ) → b ≡ a ++ x → c ≡ b ++ y → c ≡ a ++ (x ++ y)
joined_more a b c x y first second = second ∙ ap (λ xs. xs ++ y) first ∙ append_assoc a x y

pub if_joined : {T E : Type 0} (r : Result T E) (a b c x y : List ℕ) → b ≡ a ++ x → OnOk r (c ≡ b ++ y)
    → OnOk r (c ≡ a ++ (x ++ y))
if_joined r a b c x y first = on_ok_weaker r (joined_more a b c x y first)

-- one byte more, escaped, of a text that is taken from the left
pub escaped_more : (a b c text : List ℕ) (i x : ℕ) → take (i + 1) text ≡ take i text ++ x ∷ []
    → b ≡ a ++ escaped (take i text) → c ≡ b ++ escaped (x ∷ []) → c ≡ a ++ escaped (take (i + 1) text)
escaped_more a b c text i x more first second =
    joined_more a b c (escaped (take i text)) (escaped (x ∷ [])) first second
    ∙ ap (λ xs. a ++ xs) (sym (ap escaped more ∙ escaped-append (take i text) (x ∷ [])))

pub escaped_as_reference : (old more : List ℕ) (b : ℕ) → Some more ≡ reference b → old ++ more ≡ old
    ++ escaped (b ∷ [])
escaped_as_reference old more b r = ap (λ xs. old ++ xs) (escaped_one b (Some more) r)

pub escaped_as_byte : (old : List ℕ) (b : ℕ) → None ≡ reference b → old ++ b ∷ [] ≡ old ++ escaped (b ∷ [])
escaped_as_byte old b r = ap (λ xs. old ++ xs) (escaped_one b None r)

-- one character more of a title, escaped
pub titled_more : (a b c cs : List ℕ) (x : ℕ) → b ≡ a ++ escaped (title_characters cs)
    → c ≡ b ++ escaped (encode_utf8 (title_character x)) → c ≡ a ++ escaped (title_characters (cs ++ x ∷ []))
titled_more a b c cs x first second =
    let y = encode_utf8 (title_character x) in
    let more : title_characters (cs ++ x ∷ []) ≡ title_characters cs ++ y =
    flat_map-append (λ i. encode_utf8 (title_character i)) cs (x ∷ []) ∙ ap (λ xs. title_characters cs ++ xs)
    (append-nil y) in
    joined_more a b c (escaped (title_characters cs)) (escaped y) first second
    ∙ ap (λ xs. a ++ xs) (sym (ap escaped more ∙ escaped-append (title_characters cs) y))

-- one number more of those that are taken from the left
pub numbers_more : (a b c : List ℕ) (ns : List (Tag × ℕ)) (i : ℕ) (x : Tag × ℕ) → take (i + 1) ns ≡ take i ns ++ x ∷ []
    → b ≡ a ++ numbers_bytes (take i ns) → c ≡ b ++ (tag_bytes x.0 ++ decimal x.1)
    → c ≡ a ++ numbers_bytes (take (i + 1) ns)
numbers_more a b c ns i x more first second =
    joined_more a b c (numbers_bytes (take i ns)) (tag_bytes x.0 ++ decimal x.1) first second
    ∙ ap (λ xs. a ++ xs) (sym (ap numbers_bytes more ∙ numbers_bytes-append (take i ns) (x ∷ [])
    ∙ ap (λ xs. numbers_bytes (take i ns) ++ xs) (append-nil (tag_bytes x.0 ++ decimal x.1))))
