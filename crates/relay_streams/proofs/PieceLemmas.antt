-- Pieces that were read one after another.
use Rattle.std.proofs.Common.{◌≡◌, ◌≢◌, ℕ, suc, ◌+◌, ◌-◌, ◌*◌, ◌/◌, ◌<◌, ◌≤◌, List, [], ◌∷◌, ◌++◌, Option, None, Some}
use Rattle.std.proofs.Common.{Ok, Err, Result, length, take, drop, replicate, refl, sym, ap, ◌∙◌, arith, append_assoc}
use Rattle.std.proofs.Common.{append-nil, length-append, take-append-drop, add_assoc, zero-add, subst, min}
use Rattle.std.proofs.lemmas.List.{take_at, drop_at, take_min, drop_min}
use Rattle.std.proofs.lemmas.List.Folds.{concat-append}
use Rattle.std.proofs.lemmas.Nat.{div-mul-add}
use Rattle.std.specs.List.{concat}
use Rattle.std.specs.Io.KnownBytes.{Consumes, IsAtEnd, Keeps}
use Rattle.std.specs.declared.io.Error.{Error}
use Rattle.relay_streams.specs.declared.error.RelayError.{RelayError}
use Rattle.relay_streams.specs.Fill.{FillEnd, Full, Ended, Failed, TooMany, Fills, full, stopped, ended, failed}
use Rattle.byte_streams.specs.Source.{IsReadBy}
use Rattle.relay_streams.specs.Fill.{again, more, CountsTo, end_answer, max_reads, Filled}
use Rattle.relay_streams.specs.Pieces.{cut_by, piece_len, pieces_of, Drains, last, next, outcome_of, Drained, Begun}
use Rattle.std.proofs.Math.Nat.{add-div_left}

pub Consumes-more : (a b c : Option (List ℕ)) (xs ys : List ℕ) → Consumes a b xs → Consumes b c ys
    → Consumes a c (xs ++ ys)
Consumes-more None b c xs ys h k = tt
Consumes-more (Some a) None c xs ys h k = absurd h
Consumes-more (Some a) (Some b) None xs ys h k = absurd k
Consumes-more (Some a) (Some b) (Some c) xs ys h k = h ∙ ap (λ zs. xs ++ zs) k ∙ sym (append_assoc xs ys c)

pub concat-cut_by : (ns bytes : List ℕ) → concat (cut_by ns bytes) ≡ bytes
concat-cut_by [] bytes = append-nil bytes
concat-cut_by (n ∷ ns) bytes =
    ap (λ zs. take n bytes ++ zs) (concat-cut_by ns (drop n bytes)) ∙ take-append-drop n bytes

pub concat-pieces : (bytes : List ℕ) → concat (pieces_of bytes) ≡ bytes
concat-pieces bytes = concat-cut_by (replicate (length bytes / piece_len) piece_len) bytes

-- one more piece of those that are cut
pub cut-one : (ns : List ℕ) (i n m : ℕ) (bytes : List ℕ) → drop i ns ≡ n ∷ drop (i + 1) ns → m ≡ min n (length bytes)
    → cut_by (drop i ns) bytes ≡ take m bytes ∷ cut_by (drop (i + 1) ns) (drop m bytes)
cut-one ns i n m bytes at least =
    ap (λ (ks : List ℕ). cut_by ks bytes) at
    ∙ ap (λ (zs : List ℕ). zs ∷ cut_by (drop (i + 1) ns) (drop n bytes))
    (sym (take_min n bytes) ∙ ap (λ k. take k bytes) (sym least))
    ∙ ap (λ (zs : List ℕ). take m bytes ∷ cut_by (drop (i + 1) ns) zs)
    (sym (drop_min n bytes) ∙ ap (λ k. drop k bytes) (sym least))

-- pieces that follow a full one
cut-next : (k room : ℕ) (bytes rest : List ℕ) → length bytes ≡ room
    → cut_by (replicate (suc k) room) (bytes ++ rest) ≡ bytes ∷ cut_by (replicate k room) rest
cut-next k room bytes rest is =
    ap (λ (zs : List ℕ). zs ∷ cut_by (replicate k room) (drop room (bytes ++ rest))) (take_at bytes rest room is)
    ∙ ap (λ (zs : List ℕ). bytes ∷ cut_by (replicate k room) zs) (drop_at bytes rest room is)

pieces-more : (bytes rest : List ℕ) → length bytes ≡ piece_len → pieces_of (bytes ++ rest) ≡ bytes ∷ pieces_of rest
pieces-more bytes rest is =
    let count : length (bytes ++ rest) / piece_len ≡ suc (length rest / piece_len) =
    ap (λ (k : ℕ). k / piece_len) (length-append bytes rest ∙ ap (λ (k : ℕ). k + length rest) is)
    ∙ add-div_left (length rest) (omega arith) ∙ omega arith in
    ap (λ (k : ℕ). cut_by (replicate k piece_len) (bytes ++ rest)) count
    ∙ cut-next (length rest / piece_len) piece_len bytes rest is

pub Consumes-none : (a : Option (List ℕ)) → Consumes a a []
Consumes-none None = tt
Consumes-none (Some a) = refl

pub kept-Consumes : (a b c : Option (List ℕ)) (xs : List ℕ) → Keeps a b → Consumes b c xs → Consumes a c xs
kept-Consumes None b c xs h k = tt
kept-Consumes (Some a) None c xs h k = absurd h
kept-Consumes (Some a) (Some b) None xs h k = absurd k
kept-Consumes (Some a) (Some b) (Some c) xs h k = sym h ∙ k

-- what is known after some bytes were taken
pub left-known : (a b : Option (List ℕ)) (xs ys : List ℕ) → a ≡ Some xs → Consumes a b ys
    → (rest : List ℕ) × (b ≡ Some rest) × (xs ≡ ys ++ rest)
left-known None b xs ys e h = absurd (cc)
left-known (Some a) None xs ys e h = absurd h
left-known (Some a) (Some b) xs ys e h = (b, refl, let same : a ≡ xs = cc in sym same ∙ h)

-- all that was known was taken
pub all-taken : (a b : Option (List ℕ)) (xs ys : List ℕ) → a ≡ Some xs → Consumes a b ys → IsAtEnd b → ys ≡ xs
all-taken None b xs ys e h at = absurd (cc)
all-taken (Some a) None xs ys e h at = absurd h
all-taken (Some a) (Some b) xs ys e h at =
    let whole : a ≡ ys = h ∙ ap (λ zs. ys ++ zs) at ∙ append-nil ys in cc

abbrev done : Result (Unit {0}) RelayError
done = Ok tt

abbrev stop : RelayError → Result (Unit {0}) RelayError
stop e = Err e

ok_end : (end : FillEnd) → done ≡ outcome_of end → end ≢ Full → end ≡ Ended
ok_end Full is short = absurd (short refl)
ok_end Ended is short = refl
ok_end Failed is short = absurd (cc)
ok_end TooMany is short = absurd (cc)

not-one : (bytes p : List ℕ) (ps : List (List ℕ)) (rest : List ℕ) → bytes ∷ [] ≡ p ∷ (ps ++ rest ∷ []) → ⊥
not-one bytes p [] rest e = cc
not-one bytes p (q ∷ ps) rest e = cc

-- full pieces, and then a shorter one
record Cut (room : ℕ) (pieces : List (List ℕ)) : Type 0 where
  count : ℕ
  rest : ℕ
  short : rest < room
  length_is : length (concat pieces) ≡ count * room + rest
  pieces_are : pieces ≡ cut_by (replicate count room) (concat pieces)

cut-last : (room : ℕ) (bytes : List ℕ) → length bytes < room → Cut room (bytes ∷ [])
cut-last room bytes short = record {
  count = 0;
  rest = length bytes;
  short = short;
  length_is = ap length (append-nil bytes) ∙ omega arith;
  pieces_are = ap (λ (zs : List ℕ). zs ∷ []) (sym (append-nil bytes));
}

cut-more : (room : ℕ) (bytes : List ℕ) (pieces : List (List ℕ)) → length bytes ≡ room → Cut room pieces
    → Cut room (bytes ∷ pieces)
cut-more room bytes pieces whole c = record {
  count = suc c.count;
  rest = c.rest;
  short = c.short;
  length_is = length-append bytes (concat pieces) ∙ omega (arith, whole, c.length_is);
  pieces_are = ap (λ (ps : List (List ℕ)). bytes ∷ ps) c.pieces_are
      ∙ sym (cut-next c.count room bytes (concat pieces) whole);
}

module _ (S : Type 0) (step : S → ℕ → Result (List ℕ) Error → S → Type 0) where
  pub fills-full : (s : S) (room n : ℕ) (bytes : List ℕ) (end : FillEnd) (t : S) → Fills step s room n bytes end t
      → end ≡ Full → length bytes ≡ room
  fills-full s room n bytes end t full e = refl
  fills-full s room n bytes end t (again m fault some broke is rest) e = fills-full m _ _ _ _ t rest e
  fills-full s room n bytes end t (more {bytes = others} m some is fits gave rest) e =
      omega (arith, length-append some others, fits, fills-full m (room - length some) _ others end t rest e)
  fills-full s room n bytes end t _ e = absurd (cc)

  pub fills-short : (s : S) (room n : ℕ) (bytes : List ℕ) (end : FillEnd) (t : S) → Fills step s room n bytes end t
      → end ≢ Full → length bytes < room
  fills-short s room n bytes end t full e = absurd (e refl)
  fills-short s room n bytes end t (stopped some) e = some
  fills-short s room n bytes end t (ended some gave) e = some
  fills-short s room n bytes end t (failed some fault other) e = some
  fills-short s room n bytes end t (again m fault some broke is rest) e = fills-short m _ _ _ _ t rest e
  fills-short s room n bytes end t (more {bytes = others} m some is fits gave rest) e =
      omega (arith, length-append some others, fits, fills-short m (room - length some) _ others end t rest e)

  -- a piece that isn't refused for the number of reads takes at least one
  pub fills-made : (s : S) (room n : ℕ) (bytes : List ℕ) (end : FillEnd) (t : S) → Fills step s room n bytes end t
      → 0 < room → end ≢ TooMany → 0 < n
  fills-made s room n bytes end t full some e = absurd (omega (arith, some))
  fills-made s room n bytes end t (stopped _) some e = absurd (e refl)
  fills-made s room n bytes end t (ended _ gave) some e = omega arith
  fills-made s room n bytes end t (failed _ fault other) some e = omega arith
  fills-made s room n bytes end t (again m fault _ broke is rest) some e = omega arith
  fills-made s room n bytes end t (more m got is fits gave rest) some e = omega arith

  module _ (left : S → Option (List ℕ)) (tells : (s : S) (room : ℕ) (answer : Result (List ℕ) Error) (t : S)
      → step s room answer t → IsReadBy left s room answer t) where
    fills-taken : (s : S) (room n : ℕ) (bytes : List ℕ) (end : FillEnd) (t : S) → Fills step s room n bytes end t
        → Consumes (left s) (left t) bytes
    fills-taken s room n bytes end t full = Consumes-none (left s)
    fills-taken s room n bytes end t (stopped some) = Consumes-none (left s)
    fills-taken s room n bytes end t (ended some gave) = (tells s room (Ok []) t gave).0
    fills-taken s room n bytes end t (failed some fault other) =
        kept-Consumes (left s) (left t) (left t) [] (tells s room (Err _) t fault) (Consumes-none (left t))
    fills-taken s room n bytes end t (again m fault some broke is rest) =
        kept-Consumes (left s) (left m) (left t) bytes (tells s room (Err fault) m broke)
        (fills-taken m _ _ _ _ t rest)
    fills-taken s room n bytes end t (more m some is fits gave rest) =
        Consumes-more (left s) (left m) (left t) some _ (tells s room (Ok some) m gave).0
        (fills-taken m _ _ _ _ t rest)

    fills-ended : (s : S) (room n : ℕ) (bytes : List ℕ) (end : FillEnd) (t : S) → Fills step s room n bytes end t
        → end ≡ Ended → IsAtEnd (left t)
    fills-ended s room n bytes end t (ended some gave) e = (tells s room (Ok []) t gave).1 refl some
    fills-ended s room n bytes end t (again m fault some broke is rest) e = fills-ended m _ _ _ _ t rest e
    fills-ended s room n bytes end t (more m some is fits gave rest) e = fills-ended m _ _ _ _ t rest e
    fills-ended s room n bytes end t _ e = absurd (cc)

    drains-taken : (room : ℕ) (s : S) (n : ℕ) (pieces : List (List ℕ)) (end : FillEnd) (t : S)
        → Drains step room s n pieces end t → Consumes (left s) (left t) (concat pieces)
    drains-taken room s n pieces end t (last {bytes = bytes} fills) =
        rw (append-nil bytes) (fills-taken s room n bytes end t fills)
    drains-taken room s n pieces end t (next {bytes = bytes} m fills rest) =
        Consumes-more (left s) (left m) (left t) bytes _ (fills-taken s room _ bytes Full m fills)
        (drains-taken room m _ _ end t rest)

    drains-ended : (room : ℕ) (s : S) (n : ℕ) (pieces : List (List ℕ)) (end : FillEnd) (t : S)
        → Drains step room s n pieces end t → end ≡ Ended → IsAtEnd (left t)
    drains-ended room s n pieces end t (last {bytes = bytes} fills) e = fills-ended s room n bytes end t fills e
    drains-ended room s n pieces end t (next m fills rest) e = drains-ended room m _ _ end t rest e

    drains-cut : (room : ℕ) (s : S) (n : ℕ) (pieces : List (List ℕ)) (end : FillEnd) (t : S)
        → Drains step room s n pieces end t → end ≢ Full → Cut room pieces
    drains-cut room s n pieces end t (last {bytes = bytes} fills) short =
        cut-last room bytes (fills-short s room n bytes end t fills short)
    drains-cut room s n pieces end t (next {bytes = bytes} {pieces = rest} m fills drains) short =
        cut-more room bytes rest (fills-full s room _ bytes Full m fills refl)
        (drains-cut room m _ rest end t drains short)

    drains-pieces : (s : S) (n : ℕ) (pieces : List (List ℕ)) (t : S) (input : List ℕ)
        → Drains step piece_len s n pieces Ended t → left s ≡ Some input → pieces ≡ pieces_of input
    drains-pieces s n pieces t input d is =
        let whole : concat pieces ≡ input = all-taken (left s) (left t) input (concat pieces) is
        (drains-taken piece_len s n pieces Ended t d) (drains-ended piece_len s n pieces Ended t d refl) in
        let cut = drains-cut piece_len s n pieces Ended t d (λ no. absurd (cc)) in
        let count : length (concat pieces) / piece_len ≡ cut.count =
        ap (λ (k : ℕ). k / piece_len) cut.length_is ∙ div-mul-add cut.count piece_len cut.rest cut.short in
        cut.pieces_are ∙ ap (λ (k : ℕ). cut_by (replicate k piece_len) (concat pieces)) (sym count)
        ∙ ap pieces_of whole

    -- where the input was read to its end, the pieces that were read are those of the input
    pub drained-pieces : (s : S) (pieces : List (List ℕ)) (t : S) (input : List ℕ)
        → Drained step piece_len s pieces (Ok tt) t → left s ≡ Some input → pieces ≡ pieces_of input
    drained-pieces s pieces t input d is =
        let end = ok_end d.end d.answered d.short in
        drains-pieces s d.made pieces t input
        (subst (λ (e : FillEnd). Drains step piece_len s d.made pieces e t) end d.drains) is

    -- the pieces before the last one are the first ones of the input
    drains-prefix : (s : S) (n : ℕ) (all : List (List ℕ)) (end : FillEnd) (t : S) (input : List ℕ)
        → Drains step piece_len s n all end t → left s ≡ Some input → (pieces : List (List ℕ)) (rest : List ℕ)
        → all ≡ pieces ++ rest ∷ [] → (more : List (List ℕ)) × (pieces_of input ≡ pieces ++ more)
    drains-prefix s n all end t input d is [] rest e = (pieces_of input, refl)
    drains-prefix s n all end t input (last {bytes = bytes} fills) is (p ∷ ps) rest e =
        absurd (not-one bytes p ps rest e)
    drains-prefix s n all end t input (next {bytes = bytes} {pieces = others} m fills drains) is (p ∷ ps) rest e =
        let known = left-known (left s) (left m) input bytes is (fills-taken s piece_len _ bytes Full m fills) in
        let same : bytes ≡ p = cc in
        let tail : others ≡ ps ++ rest ∷ [] = cc in
        let later = drains-prefix m _ others end t known.0 drains known.1 ps rest tail in (
          later.0,
          ap pieces_of known.2
              ∙ pieces-more bytes known.0 (fills-full s piece_len _ bytes Full m fills refl)
              ∙ ap (λ (zs : List (List ℕ)). bytes ∷ zs) later.1
              ∙ ap (λ (x : List ℕ). x ∷ (ps ++ later.0)) same,
        )

    pub drained-prefix : (s : S) (pieces : List (List ℕ)) (rest : List ℕ) (answer : Result (Unit {0}) RelayError)
        (t : S)
        (input : List ℕ) → Drained step piece_len s (pieces ++ rest ∷ []) answer t → left s ≡ Some input
        → (more : List (List ℕ)) × (pieces_of input ≡ pieces ++ more)
    drained-prefix s pieces rest answer t input d is =
        drains-prefix s d.made (pieces ++ rest ∷ []) d.end t input d.drains is pieces rest refl

    pub begun-prefix : (s : S) (pieces : List (List ℕ)) (piece : List ℕ) (t : S) (input : List ℕ)
        → Begun step piece_len s (pieces ++ piece ∷ []) t → left s ≡ Some input
        → (more : List (List ℕ)) × (pieces_of input ≡ pieces ++ more)
    begun-prefix s pieces piece t input b is =
        drains-prefix s b.made (pieces ++ piece ∷ []) b.end t input b.drains is pieces piece refl

    -- where no read failed, so is the last one
    last-well : (s : S) (n : ℕ) (bytes : List ℕ) (end : FillEnd) (t : S) (input : List ℕ)
        → Fills step s piece_len n bytes end t → left s ≡ Some input → outcome_of end ≡ done
        → (more : List (List ℕ)) × (pieces_of input ≡ bytes ∷ more)
    last-well s n bytes Full t input fills is well =
        let known = left-known (left s) (left t) input bytes is (fills-taken s piece_len n bytes Full t fills) in (
          pieces_of known.0,
          ap pieces_of known.2 ∙ pieces-more bytes known.0 (fills-full s piece_len n bytes Full t fills refl),
        )
    last-well s n bytes Ended t input fills is well =
        ([], sym (drains-pieces s n (bytes ∷ []) t input (last fills) is))
    last-well s n bytes Failed t input fills is well = absurd (cc)
    last-well s n bytes TooMany t input fills is well = absurd (cc)

    drains-well : (s : S) (n : ℕ) (pieces : List (List ℕ)) (end : FillEnd) (t : S) (input : List ℕ)
        → Drains step piece_len s n pieces end t → left s ≡ Some input → outcome_of end ≡ done
        → (more : List (List ℕ)) × (pieces_of input ≡ pieces ++ more)
    drains-well s n pieces end t input (last {bytes = bytes} fills) is well =
        last-well s n bytes end t input fills is well
    drains-well s n pieces end t input (next {bytes = bytes} {pieces = others} m fills drains) is well =
        let known = left-known (left s) (left m) input bytes is (fills-taken s piece_len _ bytes Full m fills) in
        let later = drains-well m _ others end t known.0 drains known.1 well in (
          later.0,
          ap pieces_of known.2
              ∙ pieces-more bytes known.0 (fills-full s piece_len _ bytes Full m fills refl)
              ∙ ap (λ (zs : List (List ℕ)). bytes ∷ zs) later.1,
        )

    pub begun-well : (s : S) (pieces : List (List ℕ)) (t : S) (input : List ℕ) → Begun step piece_len s pieces t
        → left s ≡ Some input → (more : List (List ℕ)) × (pieces_of input ≡ pieces ++ more)
    begun-well s pieces t input b is = drains-well s b.made pieces b.end t input b.drains is b.well

-- some pieces were read in full: whatever the others are completes the whole
pub record DrainsOn {S : Type 0} (step : S → ℕ → Result (List ℕ) Error → S → Type 0) (room : ℕ) (old now : S) (made : ℕ)
    (pieces : List (List ℕ)) : Type 0 where
  pub further : (n : ℕ) (others : List (List ℕ)) (end : FillEnd) (t : S) → Drains step room now n others end t
      → Drains step room old (made + n) (pieces ++ others) end t

pub none_read : {S : Type 0} {step : S → ℕ → Result (List ℕ) Error → S → Type 0} {room : ℕ} {old : S}
    → DrainsOn step room old old 0 []
none_read = record { further = λ n others end t d. rw zero-add d }

module _ (S : Type 0) (step : S → ℕ → Result (List ℕ) Error → S → Type 0) (room : ℕ) (old : S) where
  one_more : (now new : S) (made n : ℕ) (pieces : List (List ℕ)) (bytes : List ℕ)
      → DrainsOn step room old now made pieces → Fills step now room n bytes Full new
      → DrainsOn step room old new (made + n) (pieces ++ bytes ∷ [])
  one_more now new made n pieces bytes d fills = record {
    further = λ k others end t rest.
        rw (add_assoc made n k, append_assoc pieces (bytes ∷ []) others)
        (d.further (n + k) (bytes ∷ others) end t (next new fills rest));
  }

  drained : (now new : S) (made n : ℕ) (pieces : List (List ℕ)) (bytes : List ℕ) (end : FillEnd)
      (answer : Result (Unit {0}) RelayError) → DrainsOn step room old now made pieces
      → Fills step now room n bytes end new
      → end ≢ Full → CountsTo end (made + n) → answer ≡ outcome_of end
      → Drained step room old (pieces ++ bytes ∷ []) answer new
  drained now new made n pieces bytes end answer d fills short most is = record {
    made = made + n;
    end = end;
    drains = d.further n (bytes ∷ []) end new (last fills);
    short = short;
    most = most;
    answered = is;
  }

-- how a piece that was filled ended, by its answer
full_end : (end : FillEnd) (answer : Result ℕ RelayError) (len n room : ℕ) → answer ≡ end_answer end len → answer ≡ Ok n
    → (end ≢ Full → len < room) → room ≤ n → (end ≡ Full) × (n ≡ len)
full_end Full answer len n room is ok short long = (refl, let e = sym is ∙ ok in cc)
full_end Ended answer len n room is ok short long =
    let e = sym is ∙ ok in
    let same : len ≡ n = cc in
    absurd (omega (arith, same, short (λ no. absurd (cc)), long))
full_end _ answer len n room is ok short long = absurd (let e = sym is ∙ ok in cc)

short_end : (end : FillEnd) (answer : Result ℕ RelayError) (len n room : ℕ) → answer ≡ end_answer end len → answer
    ≡ Ok n
    → (end ≡ Full → len ≡ room) → n < room → (end ≡ Ended) × (n ≡ len)
short_end Full answer len n room is ok all low =
    let e = sym is ∙ ok in
    let same : len ≡ n = cc in
    absurd (omega (arith, same, all refl, low))
short_end Ended answer len n room is ok all low =
    (refl, let e = sym is ∙ ok in cc)
short_end _ answer len n room is ok all low = absurd (let e = sym is ∙ ok in cc)

well_end : (end : FillEnd) (answer : Result ℕ RelayError) (len n : ℕ) → answer ≡ end_answer end len → answer ≡ Ok n
    → (outcome_of end ≡ done) × (n ≡ len)
well_end Full answer len n is ok = (refl, let e = sym is ∙ ok in cc)
well_end Ended answer len n is ok = (refl, let e = sym is ∙ ok in cc)
well_end _ answer len n is ok = absurd (let e = sym is ∙ ok in cc)

fault_end : (end : FillEnd) (answer : Result ℕ RelayError) (len : ℕ) (fault : RelayError) → answer ≡ end_answer end len
    → answer ≡ Err fault → (end ≢ Full) × (stop fault ≡ outcome_of end)
fault_end Full answer len fault is err = absurd (let e = sym is ∙ err in cc)
fault_end Ended answer len fault is err = absurd (let e = sym is ∙ err in cc)
fault_end _ answer len fault is err =
    (λ no. absurd (cc), let e = sym err ∙ is in cc)

counted_end : (end : FillEnd) (answer : Result ℕ RelayError) (len n count : ℕ) → answer ≡ end_answer end len
    → answer ≡ Ok n → CountsTo end count → (end ≢ TooMany) × (count ≤ max_reads)
counted_end Full answer len n count is ok most = (λ no. absurd (cc), most)
counted_end Ended answer len n count is ok most = (λ no. absurd (cc), most)
counted_end _ answer len n count is ok most = absurd (let e = sym is ∙ ok in cc)

-- of the room of a full piece
module _ {S : Type 0} {step : S → ℕ → Result (List ℕ) Error → S → Type 0} {room : ℕ} {now new : S} {before after : ℕ}
    {piece : List ℕ} {answer : Result ℕ RelayError} (given : Filled step now room before answer new piece after)
    (whole : room ≡ piece_len) (few : before ≤ max_reads) where
  pub filled : Filled step now piece_len before answer new piece after
  filled = subst (λ (r : ℕ). Filled step now r before answer new piece after) whole given

  -- reads were made, and there may be more
  pub filled_most : (n : ℕ) → answer ≡ Ok n → (after ≤ max_reads) × (before < after)
  filled_most n ok =
      let most = counted_end filled.end answer (length filled.bytes) n after filled.answered ok (filled.most few) in
      let made = fills-made S step now piece_len filled.made filled.bytes filled.end new filled.fills (omega arith)
      most.0 in
      (most.1, omega (arith, filled.counted, made))

  -- its bytes, as they are in the buffer
  filled_as : (n : ℕ) (end : FillEnd) → filled.end ≡ end → n ≡ length filled.bytes
      → Fills step now piece_len filled.made (take n piece) end new
  filled_as n end is e =
      subst (λ (k : FillEnd). Fills step now piece_len filled.made (take n piece) k new) is
      (subst (λ (bytes : List ℕ). Fills step now piece_len filled.made bytes filled.end new)
      (sym filled.prefix ∙ ap (λ (k : ℕ). take k piece) (sym e)) filled.fills)

  -- a full piece
  pub filled_on : {old : S} {past : List (List ℕ)} (n : ℕ) → answer ≡ Ok n → piece_len ≤ n
      → DrainsOn step piece_len old now before past → DrainsOn step piece_len old new after (past ++ take n piece ∷ [])
  filled_on {old} {past} n ok long d =
      let end = full_end filled.end answer (length filled.bytes) n piece_len filled.answered ok
      (fills-short S step now piece_len filled.made filled.bytes filled.end new filled.fills) long in
      subst (λ (k : ℕ). DrainsOn step piece_len old new k (past ++ take n piece ∷ [])) (sym filled.counted)
      (one_more S step piece_len old now new before filled.made past (take n piece) d (filled_as n Full end.0 end.1))

  -- the last one
  pub filled_last : {old : S} {past : List (List ℕ)} (n : ℕ) → answer ≡ Ok n → n < piece_len
      → DrainsOn step piece_len old now before past → Drained step piece_len old (past ++ take n piece ∷ []) (Ok tt) new
  filled_last {old} {past} n ok low d =
      let end = short_end filled.end answer (length filled.bytes) n piece_len filled.answered ok
      (fills-full S step now piece_len filled.made filled.bytes filled.end new filled.fills) low in
      let most = counted_end filled.end answer (length filled.bytes) n after filled.answered ok (filled.most few) in
      drained S step piece_len old now new before filled.made past (take n piece) Ended (Ok tt) d
      (filled_as n Ended end.0 end.1) (λ no. absurd (cc)) (omega (arith, most.1, filled.counted)) refl

  -- one that was read well, full or not
  pub filled_begun : {old : S} {past : List (List ℕ)} (n : ℕ) → answer ≡ Ok n
      → DrainsOn step piece_len old now before past → Begun step piece_len old (past ++ take n piece ∷ []) new
  filled_begun {old} {past} n ok d =
      let end = well_end filled.end answer (length filled.bytes) n filled.answered ok in
      record {
        made = before + filled.made;
        end = filled.end;
        drains = d.further filled.made (take n piece ∷ []) filled.end new (last (filled_as n filled.end refl end.1));
        most = subst (λ (k : ℕ). CountsTo filled.end k) filled.counted (filled.most few);
        well = end.0;
      }

  -- one at which the reading stopped
  pub filled_fault : {old : S} {past : List (List ℕ)} (fault : RelayError) → answer ≡ Err fault
      → DrainsOn step piece_len old now before past
      → Drained step piece_len old (past ++ filled.bytes ∷ []) (Err fault) new
  filled_fault {old} {past} fault err d =
      let end = fault_end filled.end answer (length filled.bytes) fault filled.answered err in
      drained S step piece_len old now new before filled.made past filled.bytes filled.end (Err fault) d filled.fills
      end.0 (subst (λ (k : ℕ). CountsTo filled.end k) filled.counted (filled.most few)) end.1

-- the bytes of one more piece
pub concat-push : (pieces : List (List ℕ)) (piece : List ℕ) → concat (pieces ++ piece ∷ []) ≡ concat pieces ++ piece
concat-push pieces piece = concat-append pieces (piece ∷ []) ∙ ap (λ zs. concat pieces ++ zs) (append-nil piece)
