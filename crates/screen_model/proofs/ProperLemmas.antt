-- SGR keeps attributes proper.
use Rattle.std.proofs.Common.{◌≡◌, ℕ, zero, suc, ◌-◌, ◌^◌, ◌<◌, ◌≤◌, Bool, true, false, List, [], ◌∷◌, get_or}
use Rattle.std.proofs.Common.{Option, Some, None, arith, nat_eq, nat_lt, if◌then◌else◌}
use Rattle.std.specs.Prelude.{option_map}
use Rattle.std.specs.Int.{is_in_range}
use Rattle.std.proofs.lemmas.Bool.{cond_both, ltb-true}
use Rattle.std.proofs.lemmas.Bool.Decides.{nat_tests}
use Rattle.vt100_forms.specs.Attrs.{IsByteColor, IsProper}
use Rattle.vt100_forms.specs.declared.attrs.Attrs.{Attrs}
use Rattle.vt100_forms.specs.declared.attrs.Color.{Color}
use Rattle.vt100_forms.specs.declared.attrs.Color.TheVariants.{Default, Idx}
use Rattle.vt100_forms.proofs.AttrsLemmas.{default-proper, setters_keep_proper}
use Rattle.screen_model.specs.Sgr.{colored, flag_rows, code_row, value, alone, value_at, rgb, Asks, change, passed_over}
use Rattle.screen_model.specs.Sgr.{color_change, separate_color, group_color, row_asks, asks, Read, read_on}
use Rattle.screen_model.specs.Sgr.{read_groups, sgr_read}
use Rattle.screen_model.proofs.Tables.{Each, ◌&◌, Where, looked-up}

-- ---- the rows of the tables

abbrev pub Keeps : (Attrs → Attrs) → Type 0
Keeps f = (a : Attrs) → IsProper a → IsProper (f a)

colored-proper : (t : Bool) (x : Color) (a : Attrs) → IsByteColor x → IsProper a → IsProper (colored t x a)
colored-proper true x a k h = record { small = h.small; one = h.one; colors = (k, h.colors.1) }
colored-proper false x a k h = record { small = h.small; one = h.one; colors = (h.colors.0, k) }

flags-keep : Each Keeps flag_rows
flags-keep =
    (λ a h. default-proper) & (λ a h. (setters_keep_proper a h).bold) & (λ a h. (setters_keep_proper a h).dim)
    & (λ a h. (setters_keep_proper a h).italic true) & (λ a h. (setters_keep_proper a h).underline true)
    & (λ a h. (setters_keep_proper a h).inverse true) & (λ a h. (setters_keep_proper a h).normal)
    & (λ a h. (setters_keep_proper a h).italic false) & (λ a h. (setters_keep_proper a h).underline false)
    & (λ a h. (setters_keep_proper a h).inverse false) & (λ a. colored-proper true Default a tt)
    & (λ a. colored-proper false Default a tt) & tt

within : (low high n : ℕ) → is_in_range low high n ≡ true → n ≤ high
within low high n h = grind (arith, nat_tests)

indexed-keeps : (t : Bool) (low high less n : ℕ) → high < 2 ^ 8 → is_in_range low high n ≡ true
    → Keeps (colored t (Idx (n - less)))
indexed-keeps t low high less n l h a k =
    colored-proper t (Idx (n - less)) a (omega (arith, l, within low high n h)) k

code-keeps : (n : ℕ) → Where Keeps (code_row n)
code-keeps n =
    cond_both (is_in_range 30 37 n) _ _ (λ o. Where Keeps o) (indexed-keeps true 30 37 30 n (omega arith))
    (λ _. cond_both (is_in_range 40 47 n) _ _ (λ o. Where Keeps o) (indexed-keeps false 40 47 40 n (omega arith))
    (λ _. cond_both (is_in_range 90 97 n) _ _ (λ o. Where Keeps o) (indexed-keeps true 90 97 82 n (omega arith))
    (λ _. cond_both (is_in_range 100 107 n) _ _ (λ o. Where Keeps o) (indexed-keeps false 100 107 92 n (omega arith))
    (λ _. looked-up Keeps n flag_rows flags-keep))))

-- ---- colours

abbrev AreBytes : Option ℕ → Type 0
AreBytes o = Where (λ n. n < 2 ^ 8) o

abbrev AreByteColors : Option Color → Type 0
AreByteColors o = Where IsByteColor o

value-byte : (n : ℕ) → AreBytes (value n)
value-byte n = cond_both (nat_lt n 256) (Some n) None AreBytes (ltb-true n 256) (λ _. tt)

alone-byte : (g : List ℕ) → AreBytes (alone g)
alone-byte (n ∷ []) = value-byte n
alone-byte ns = tt

rgb-bytes : (r g b : Option ℕ) → AreBytes r → AreBytes g → AreBytes b → AreByteColors (rgb r g b)
rgb-bytes (Some r) (Some g) (Some b) h k l = (h, k, l)
rgb-bytes r g b h k l = tt

index-byte : (i : Option ℕ) → AreBytes i → AreByteColors (option_map Idx i)
index-byte None h = tt
index-byte (Some i) h = h

-- ---- groups

abbrev AskProper : Asks → Type 0
AskProper (change f k) = Keeps f
AskProper x = Unit {0}

proper-if : (b : Bool) (x y : Asks) → AskProper x → AskProper y → AskProper (if b then x else y)
proper-if b x y h k = cond_both b x y AskProper (λ _. h) (λ _. k)

change-proper : (t : Bool) (o : Option Color) (k : ℕ) → AreByteColors o → AskProper (color_change t o k)
change-proper t None k h = tt
change-proper t (Some x) k h = λ a. colored-proper t x a h

separate-proper : (t : Bool) (gs : List (List ℕ)) → AskProper (separate_color t gs)
separate-proper t ((n ∷ []) ∷ gs) =
    let byte : (k : ℕ) → AreBytes (value_at gs k) = λ k. alone-byte (get_or gs k []) in
    proper-if (nat_eq n 2) _ _ (change-proper t _ 4 (rgb-bytes _ _ _ (byte 0) (byte 1) (byte 2)))
    (proper-if (nat_eq n 5) _ _ (change-proper t _ 2 (index-byte _ (byte 0))) tt)
separate-proper t gs = tt

group-proper : (t : Bool) (ns : List ℕ) → AskProper (group_color t ns)
group-proper t (n ∷ i ∷ []) = proper-if (nat_eq n 5) _ _ (change-proper t _ 0 (index-byte _ (value-byte i))) tt
group-proper t (n ∷ r ∷ g ∷ b ∷ []) =
    proper-if (nat_eq n 2) _ _
    (change-proper t _ 0 (rgb-bytes _ _ _ (value-byte r) (value-byte g) (value-byte b))) tt
group-proper t ns = tt

row-proper : (o : Option (Attrs → Attrs)) → Where Keeps o → AskProper (row_asks o)
row-proper None h = tt
row-proper (Some f) h = h

asks-proper : (g : List ℕ) (gs : List (List ℕ)) → AskProper (asks g gs)
asks-proper [] gs = tt
asks-proper (n ∷ []) gs =
    proper-if (nat_eq n 38) _ _ (separate-proper true gs)
    (proper-if (nat_eq n 48) _ _ (separate-proper false gs) (row-proper (code_row n) (code-keeps n)))
asks-proper (n ∷ m ∷ ns) gs =
    proper-if (nat_eq n 38) _ _ (group-proper true (m ∷ ns))
    (proper-if (nat_eq n 48) _ _ (group-proper false (m ∷ ns)) tt)

read_on-proper : (rest : ℕ → Attrs → Read) → ((k : ℕ) → Keeps (λ a. (rest k a).attrs))
    → (x : Asks) → AskProper x → Keeps (λ a. (read_on rest a x).attrs)
read_on-proper rest k (change f n) p a h = k n (f a) (p a h)
read_on-proper rest k passed_over p a h = k 0 a h
read_on-proper rest k x p a h = h

pub read_groups-proper : (gs : List (List ℕ)) (k : ℕ) → Keeps (λ a. (read_groups gs k a).attrs)
read_groups-proper [] k a h = h
read_groups-proper (g ∷ gs) (suc k) a h = read_groups-proper gs k a h
read_groups-proper (g ∷ gs) zero a h =
    read_on-proper (read_groups gs) (read_groups-proper gs) (asks g gs) (asks-proper g gs) a h

pub sgr_read-proper : (gs : List (List ℕ)) → Keeps (λ a. (sgr_read gs a).attrs)
sgr_read-proper [] a h = default-proper
sgr_read-proper (g ∷ gs) a h = read_groups-proper (g ∷ gs) 0 a h
