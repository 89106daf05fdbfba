-- Frames one after another, cut into any pieces.
use Rattle.std.proofs.Common.{◌≡◌, ◌≢◌, ◌⊎◌, ℕ, ◌+◌, ◌-◌, ◌<◌, ◌≤◌, false, List, [], ◌∷◌, ◌++◌, Option, None}
use Rattle.std.proofs.Common.{Some, length, take, drop, refl, sym, ◌∙◌, ap, subst, inl, inr, arith, append_assoc}
use Rattle.std.proofs.Common.{append-nil, length-append}
use Rattle.std.specs.List.{AllByRecursion, concat, list_any}
use Rattle.std.proofs.lemmas.Bool.{cases_Bool, cases_lt}
use Rattle.std.proofs.lemmas.List.{append_cancel_left, take-append-le, drop_at, take_at, nil_from_length}
use Rattle.std.proofs.Math.Seq.{take-append-add, drop-append-add}
use Rattle.vte_core.proofs.GroundLemmas.{ground-added}
use Rattle.vte_types.specs.Call.{Call}
use Rattle.vte.specs.Table.{opens}
use Rattle.vte.specs.Timeout.{Tick}
use Rattle.vte.specs.Marks.{start_mark, end_mark, is_found_at, NoneFrom, IsFirstFrom}
use Rattle.vte.specs.Stretch.{opens_in, OpensAt}
use Rattle.vte.specs.Hold.{limit, IsCut, Closes, Settles, keeps, replays, closes, Takes, parses, begins, settles}
use Rattle.vte.specs.Hold.{overflows}
use Rattle.vte.specs.Frames.{IsFrame, IsPart}
use Rattle.vte.proofs.FrameMarks.{opens_in-parts, opens_in-later, opens_in-sooner, opens_in-prefix}
use Rattle.vte.proofs.HoldLemmas.{opens_in-none}
use Rattle.vte.proofs.LawLemmas.{contradiction}
use Rattle.vte.proofs.MarkLemmas.{none_in_empty}
use Rattle.vte.proofs.FrameMarks.{begun_none, prefix_none as begun_prefix, start_opens, end_none, ground_start}
use Rattle.vte.proofs.FrameMarks.{at_later, at_cuts, contrary, end_state_after, start_inside, last_is, first_is}
use Rattle.vte.proofs.FrameMarks.{no_first, start_state_after}

-- ---- one step of the hold

-- a piece takes parsed and held bytes to these, whatever calls it makes
abbrev pub Taking : List ℕ → Option (List ℕ) → List ℕ → List ℕ → Option (List ℕ) → Type 0
Taking parsed hold piece parsed' hold' = (calls : List Call) × (ticks : List Tick)
    × Takes parsed hold piece parsed' hold' calls ticks

-- with no update open
abbrev pub Unheld : List ℕ → List ℕ → List ℕ → Option (List ℕ) → Type 0
Unheld parsed piece parsed' hold' =
    ((opens_in parsed piece ≡ false) × (parsed' ≡ parsed ++ piece) × (hold' ≡ None))
    ⊎ ((n : ℕ) × OpensAt parsed piece n × Taking (parsed ++ take n piece) (Some []) (drop n piece) parsed' hold')

unheld : {parsed piece parsed' : List ℕ} {hold' : Option (List ℕ)} {calls : List Call} {ticks : List Tick}
    → Takes parsed None piece parsed' hold' calls ticks → Unheld parsed piece parsed' hold'
unheld (parses _ _ none) = inl (none, refl, refl)
unheld (begins _ _ n _ _ cs ts at t) = inr (n, at, (cs, ts, t))

-- an update is open, and the held bytes and the piece together stay below the limit
data Settled (parsed all parsed' : List ℕ) (hold' : Option (List ℕ)) : Type 0 where
  stays : NoneFrom end_mark all 0 → parsed' ≡ parsed → hold' ≡ Some all → Settled parsed all parsed' hold'
  cut : (n : ℕ) → IsCut all n → parsed' ≡ parsed ++ take n all → hold' ≡ Some (drop n all)
      → Settled parsed all parsed' hold'
  emptied : Closes all → parsed' ≡ parsed ++ all → hold' ≡ None → Settled parsed all parsed' hold'

settled : {parsed held piece parsed' : List ℕ} {hold' : Option (List ℕ)} {calls : List Call} {ticks : List Tick}
    → Settles parsed held piece parsed' hold' calls ticks → Settled parsed (held ++ piece) parsed' hold'
settled (keeps _ _ _ _ r none) = stays none refl refl
settled (replays _ _ _ _ r n is) = cut n is refl refl
settled (closes _ _ _ _ r c) = emptied c refl refl

abbrev Open : List ℕ → List ℕ → List ℕ → List ℕ → Option (List ℕ) → Type 0
Open parsed held piece parsed' hold' =
    ((length (held ++ piece) < limit) × Settled parsed (held ++ piece) parsed' hold')
    ⊎ ((limit ≤ length (held ++ piece)) × Unheld (parsed ++ held) piece parsed' hold')

opened : {parsed held piece parsed' : List ℕ} {hold' : Option (List ℕ)} {calls : List Call} {ticks : List Tick}
    → Takes parsed (Some held) piece parsed' hold' calls ticks → Open parsed held piece parsed' hold'
opened (settles _ _ _ _ _ _ _ fits s) = inl (fits, settled s)
opened (overflows _ _ _ _ _ cs ts full t) = inr (full, unheld t)

-- ---- no update open

-- a piece that opens nothing is parsed
unheld_none : (q piece q' : List ℕ) (h' : Option (List ℕ)) → opens_in q piece ≡ false → Unheld q piece q' h'
    → (q' ≡ q ++ piece) × (h' ≡ None)
unheld_none q piece q' h' none (inl u) = (u.1, u.2)
unheld_none q piece q' h' none (inr o) = absurd (contrary _ o.1.opened (opens_in-prefix q piece o.0 none))

prefix_none : (q a b : List ℕ) (n : ℕ) → opens_in q a ≡ false → n ≤ length a → opens_in q (take n (a ++ b)) ≡ false
prefix_none q a b n none short = ap (opens_in q) (take-append-le n a b short) ∙ opens_in-prefix q a n none

part_opens : (q a b : List ℕ) (k : ℕ) → opens_in q a ≡ false
    → opens_in q (take (length a + k) (a ++ b)) ≡ opens_in (q ++ a) (take k b)
part_opens q a b k none = ap (opens_in q) (take-append-add a b k) ∙ opens_in-later q a (take k b) none

opens_later : (q a b : List ℕ) (n : ℕ) → opens_in q a ≡ false → OpensAt q (a ++ b) n
    → (m : ℕ) × (n ≡ length a + m) × OpensAt (q ++ a) b m
opens_later q a b n none o =
    elim (cases_lt (length a) n) [
      | inr short ↦ absurd (contrary _ o.opened (prefix_none q a b n none short))
      | inl long ↦
          let m = n - length a in
          let is : n ≡ length a + m = omega (arith, long) in (
            m,
            is,
            record {
              within = omega (arith, o.within, length-append a b, long);
              opened = sym (part_opens q a b m none) ∙ (ap (λ k. opens_in q (take k (a ++ b))) (sym is) ∙ o.opened);
              first = λ k low. sym (part_opens q a b k none) ∙ o.first (length a + k) (omega (arith, is, low));
            },
          )
    ]

opens_sooner : (q a b : List ℕ) (m : ℕ) → opens_in q a ≡ false → OpensAt (q ++ a) b m
    → OpensAt q (a ++ b) (length a + m)
opens_sooner q a b m none o = record {
  within = omega (arith, o.within, length-append a b);
  opened = part_opens q a b m none ∙ o.opened;
  first = λ k low. elim (cases_lt (length a) k) [
    | inr short ↦ prefix_none q a b k none short
    | inl long ↦ ap (λ j. opens_in q (take j (a ++ b))) (omega (arith, long))
        ∙ (part_opens q a b (k - length a) none ∙ o.first (k - length a) (omega (arith, low, long)))
  ];
}

prefix_is : (q a b : List ℕ) (m : ℕ) → q ++ take (length a + m) (a ++ b) ≡ (q ++ a) ++ take m b
prefix_is q a b m = ap (λ xs. q ++ xs) (take-append-add a b m) ∙ sym (append_assoc q a (take m b))

-- bytes that open nothing may be in the piece, or be parsed before it
skip : (q a b q' : List ℕ) (h' : Option (List ℕ)) → opens_in q a ≡ false → Unheld q (a ++ b) q' h'
    → Unheld (q ++ a) b q' h'
skip q a b q' h' none (inl u) = inl ((opens_in-parts q a b u.0).1, u.1 ∙ sym (append_assoc q a b), u.2)
skip q a b q' h' none (inr o) =
    let (m, is, at) = opens_later q a b o.0 none o.1 in
    inr (m, at, rw (is, prefix_is q a b m, drop-append-add a b m) at o.2)

unskip : (q a b q' : List ℕ) (h' : Option (List ℕ)) → opens_in q a ≡ false → Unheld (q ++ a) b q' h'
    → Unheld q (a ++ b) q' h'
unskip q a b q' h' none (inl u) = inl (opens_in-later q a b none ∙ u.0, u.1 ∙ append_assoc q a b, u.2)
unskip q a b q' h' none (inr o) = inr (
  length a + o.0,
  opens_sooner q a b o.0 none o.1,
  rw (prefix_is q a b o.0, drop-append-add a b o.0) o.2,
)

-- a start mark opens an update
start : (q rest q' : List ℕ) (h' : Option (List ℕ)) → Unheld q (start_mark ++ rest) q' h'
    → Taking (q ++ start_mark) (Some []) rest q' h'
start q rest q' h' (inl u) = absurd (contrary _ (opens_in-sooner q start_mark rest (start_opens q)) u.0)
start q rest q' h' (inr o) =
    elim (cases_lt o.0 8) [
      | inl sooner ↦
          let short = ap (opens_in q) (take-append-le o.0 start_mark rest (omega (arith, sooner))) in
          absurd (contrary _ o.1.opened (short ∙ begun_none q o.0 sooner))
      | inr late ↦ elim (cases_lt 8 o.0) [
        | inl later ↦ absurd (contrary _ (start_opens q) (o.1.first 8 later))
        | inr same ↦
            let eight : o.0 ≡ 8 = omega (arith, late, same) in
            rw eight at o.2
      ]
    ]

-- ---- an update open

settled_none : (q all q' : List ℕ) (h' : Option (List ℕ)) → NoneFrom end_mark all 0 → Settled q all q' h' → (q' ≡ q)
    × (h' ≡ Some all)
settled_none q all q' h' none (stays _ e f) = (e, f)
settled_none q all q' h' none (cut n is e f) = absurd (contradiction all is.0 is.1 none)
settled_none q all q' h' none (emptied c e f) = absurd (contradiction all c.0 c.1 none)

some_end : (prefix back : List ℕ) → NoneFrom end_mark (prefix ++ (end_mark ++ back)) 0 → ⊥
some_end prefix back none =
    let here = at_later end_mark prefix (end_mark ++ back) 0 in
    contrary _ here (none (length prefix + 0) (omega arith) (omega (arith, length-append prefix (end_mark ++ back))))

-- a start mark right after the last end mark stays held
settled_cut : (q prefix back q' : List ℕ) (h' : Option (List ℕ)) → NoneFrom end_mark (start_mark ++ back) 0
    → Settled q (prefix ++ (end_mark ++ (start_mark ++ back))) q' h'
    → (q' ≡ q ++ (prefix ++ end_mark)) × (h' ≡ Some (start_mark ++ back))
settled_cut q prefix back q' h' none (stays absent e f) = absurd (some_end prefix (start_mark ++ back) absent)
settled_cut q prefix back q' h' none (cut n is e f) =
    let text = prefix ++ (end_mark ++ (start_mark ++ back)) in
    let last = last_is prefix (start_mark ++ back) is.0 is.1 none in
    let n_is : n ≡ length (prefix ++ end_mark) = first_is prefix back n
    (subst (λ (k : ℕ). IsFirstFrom start_mark text (k + 1) n) last is.2) in
    let split : (prefix ++ end_mark) ++ (start_mark ++ back)
    ≡ text = append_assoc prefix end_mark (start_mark ++ back) in
    let taken = ap (take n) (sym split) ∙ take_at (prefix ++ end_mark) (start_mark ++ back) n (sym n_is) in
    let left = ap (drop n) (sym split) ∙ drop_at (prefix ++ end_mark) (start_mark ++ back) n (sym n_is) in
    (e ∙ ap (λ xs. q ++ xs) taken, f ∙ ap Some left)
settled_cut q prefix back q' h' none (emptied c e f) =
    let text = prefix ++ (end_mark ++ (start_mark ++ back)) in
    let last = last_is prefix (start_mark ++ back) c.0 c.1 none in
    absurd (start_state_after prefix back (subst (λ (k : ℕ). NoneFrom start_mark text (k + 1)) last c.2))

-- if too little follows the last end mark, all is parsed
settled_all : (q prefix back q' : List ℕ) (h' : Option (List ℕ)) → NoneFrom end_mark back 0 → length back < 8
    → Settled q (prefix ++ (end_mark ++ back)) q' h'
    → (q' ≡ q ++ (prefix ++ (end_mark ++ back))) × (h' ≡ None)
settled_all q prefix back q' h' none short (stays absent e f) = absurd (some_end prefix back absent)
settled_all q prefix back q' h' none short (cut n is e f) =
    let last = last_is prefix back is.0 is.1 none in
    absurd (no_first prefix back n (subst (λ (k : ℕ). IsFirstFrom start_mark (prefix ++ (end_mark ++ back)) (k + 1) n)
    last is.2) short)
settled_all q prefix back q' h' none short (emptied c e f) = (e, f)

-- ---- frames

-- of two ways to cut a list, the longer prefix continues the shorter
pub cut_later : (a b xs ys : List ℕ) → a ++ b ≡ xs ++ ys → length a ≤ length xs → (c : List ℕ) × (xs ≡ a ++ c)
    × (b ≡ c ++ ys)
cut_later [] b xs ys e h = (xs, refl, e)
cut_later (x ∷ a) b [] ys e h = absurd (omega arith)
cut_later (x ∷ a) b (y ∷ xs) ys e h =
    let heads : x ≡ y = cc in
    let later = cut_later a b xs ys (cc) (omega arith) in
    (later.0, ap (λ z. z ∷ xs) (sym heads) ∙ ap (λ zs. x ∷ zs) later.1, later.2)

-- a frame; T is true if it is too long to be held
pub record Sized (T : Type 0) (f : List ℕ) : Type 0 where
  pub frame : IsFrame f
  pub large : limit ≤ length f → T

abbrev pub Frames : Type 0 → List (List ℕ) → Type 0
Frames T fs = AllByRecursion (Sized T) fs

pub frames_prefix : (T : Type 0) (fs gs : List (List ℕ)) → Frames T (fs ++ gs) → Frames T fs
frames_prefix T [] gs h = tt
frames_prefix T (f ∷ fs) gs h = (h.0, frames_prefix T fs gs h.1)

pub frames_back : (T : Type 0) (fs gs : List (List ℕ)) → Frames T (fs ++ gs) → Frames T gs
frames_back T [] gs h = h
frames_back T (f ∷ fs) gs h = frames_back T fs gs h.1

-- nothing follows an end mark in a frame
ends_once : (f before after : List ℕ) → IsFrame f → f ≡ before ++ (end_mark ++ after) → after ≡ []
ends_once f before after frame e =
    let same : start_mark ++ (frame.body ++ end_mark) ≡ before ++ (end_mark ++ after) = sym frame.is ∙ e in
    elim (cases_lt (length before) 8) [
      | inl short ↦
          let here = ap (λ xs. is_found_at end_mark xs (length before)) same ∙ end_state_after before after in
          absurd (contrary _ here (start_inside (frame.body ++ end_mark) (length before) short))
      | inr long ↦
          let cut = cut_later start_mark (frame.body ++ end_mark) before (end_mark ++ after) same long in
          frame.ends_once cut.0 after cut.2
    ]

-- less than a frame has no whole end mark
prefix_has_none : (f p left : List ℕ) → IsFrame f → f ≡ p ++ left → left ≢ [] → NoneFrom end_mark p 0
prefix_has_none f p left frame e some = λ k low below.
    elim (cases_Bool (is_found_at end_mark p k)) [
      | inr absent ↦ absent
      | inl found ↦
          let rest = drop 8 (drop k p) in
          let is = e ∙ (ap (λ xs. xs ++ left) (at_cuts end_mark p k found)
          ∙ (append_assoc (take k p) (end_mark ++ rest) left
          ∙ ap (λ xs. take k p ++ xs) (append_assoc end_mark rest left))) in
          absurd (some (nil_from_length left
          (omega (arith, ap length (ends_once f (take k p) (rest ++ left) frame is), length-append rest left))))
    ]

part_has_none : (T : Type 0) (p : List ℕ) (rest : List (List ℕ)) → Frames T rest → IsPart p rest → NoneFrom end_mark p 0
part_has_none T p [] h e = subst (λ (xs : List ℕ). NoneFrom end_mark xs 0) (sym e) none_in_empty
part_has_none T p (f ∷ fs) h e = prefix_has_none f p e.0 h.0.frame e.1 e.2

none_behind : (all : List ℕ) → NoneFrom end_mark (start_mark ++ all) 0 → NoneFrom end_mark all 0
none_behind all none = λ k low below. sym (at_later end_mark start_mark all k)
    ∙ none (8 + k) (omega arith) (omega (arith, below, length-append start_mark all))

-- eight bytes or more of a frame begin with the start mark
prefix_starts : (f p left : List ℕ) (frame : IsFrame f) → f ≡ p ++ left → 8 ≤ length p → (r : List ℕ)
    × (p ≡ start_mark ++ r) × (frame.body ++ end_mark ≡ r ++ left)
prefix_starts f p left frame e long = cut_later start_mark (frame.body ++ end_mark) p left (sym frame.is ∙ e) long

mark_begins : (f : List ℕ) (fs : List (List ℕ)) → IsFrame f → IsPart start_mark (f ∷ fs)
mark_begins f fs frame = (
  frame.body ++ end_mark,
  frame.is,
  λ none. absurd (omega (arith, ap length none, length-append frame.body end_mark)),
)

part_starts : (T : Type 0) (p : List ℕ) (rest : List (List ℕ)) → Frames T rest → IsPart p rest → 8 ≤ length p
    → (r : List ℕ) × (p ≡ start_mark ++ r) × IsPart start_mark rest
part_starts T p [] h e long = absurd (omega (arith, ap length e, long))
part_starts T p (f ∷ fs) h e long = let at = prefix_starts f p e.0 h.0.frame e.1 long
    in (at.0, at.1, mark_begins f fs h.0.frame)

-- fewer bytes of a frame are a prefix of the start mark
pub prefix_short : (f p left : List ℕ) → IsFrame f → f ≡ p ++ left → length p < 8 → (r : List ℕ) × (start_mark ≡ p ++ r)
prefix_short f p left frame e short =
    let later = cut_later p left start_mark (frame.body ++ end_mark) (sym e ∙ frame.is) (omega (arith, short)) in
    (later.0, later.1)

part_opens_none : (T : Type 0) (q p : List ℕ) (rest : List (List ℕ)) → Frames T rest → IsPart p rest → length p < 8
    → opens_in q p ≡ false
part_opens_none T q p [] h e short = ap (opens_in q) e ∙ opens_in-none q
part_opens_none T q p (f ∷ fs) h e short = let at = prefix_short f p e.0 h.0.frame e.1 short
    in begun_prefix q p at.0 at.1 short

-- after its start mark a frame opens nothing
body_none : (f : List ℕ) (frame : IsFrame f) (q : List ℕ) → opens_in (q ++ start_mark) (frame.body ++ end_mark) ≡ false
body_none f frame q =
    let body : opens_in (q ++ start_mark) frame.body ≡ false =
    ap (list_any opens) (ground-added 1024 (q ++ start_mark) frame.body (ground_start q)) ∙ frame.opens_nothing
    in
    opens_in-later (q ++ start_mark) frame.body end_mark body ∙ end_none ((q ++ start_mark) ++ frame.body)

left_none : (f p left : List ℕ) → IsFrame f → f ≡ p ++ left → 8 ≤ length p → (q : List ℕ)
    → opens_in (q ++ p) left ≡ false
left_none f p left frame e long q =
    let at = prefix_starts f p left frame e long in
    let behind = opens_in-parts (q ++ start_mark) at.0 left (ap (opens_in (q ++ start_mark)) (sym at.2)
    ∙ body_none f frame q) in
    let same : q ++ p ≡ (q ++ start_mark) ++ at.0 = ap (λ xs. q ++ xs) at.1 ∙ sym (append_assoc q start_mark at.0) in
    ap (λ xs. opens_in xs left) same ∙ behind.1

-- frames joined begin with a start mark and end with an end mark
joined_ends : (T : Type 0) (f : List ℕ) (fs : List (List ℕ)) → Frames T (f ∷ fs) → (y : List ℕ)
    × (concat (f ∷ fs) ≡ start_mark ++ (y ++ end_mark))
joined_ends T f [] h = (h.0.frame.body, append-nil f ∙ h.0.frame.is)
joined_ends T f (g ∷ gs) h =
    let next = joined_ends T g gs h.1 in
    let tail = start_mark ++ next.0 in
    let body = h.0.frame.body in (
      (body ++ end_mark) ++ tail,
      ap (λ xs. f ++ xs) next.1 ∙ (ap (λ xs. xs ++ (start_mark ++ (next.0 ++ end_mark))) h.0.frame.is
          ∙ ap (λ xs. start_mark ++ xs) (sym (append_assoc (body ++ end_mark) tail end_mark))),
    )

-- ---- where pieces of frames leave off

-- what is parsed and held after whole bytes and a part of a frame; T says why more than a part of its start mark may be
-- parsed
pub data RestsBy (T : Type 0) (whole part parsed : List ℕ) (hold : Option (List ℕ)) : Type 0 where
  outside : (length part < 8) ⊎ T → parsed ≡ whole ++ part → hold ≡ None → RestsBy T whole part parsed hold
  inside : (held : List ℕ) → part ≡ start_mark ++ held → parsed ≡ whole ++ start_mark → hold ≡ Some held
      → RestsBy T whole part parsed hold
  before : 8 ≤ length part → parsed ≡ whole → hold ≡ Some part → RestsBy T whole part parsed hold

-- a piece from inside a frame, after its start mark, to further inside it opens nothing
inner : (T : Type 0) (q part piece p : List ℕ) (rest : List (List ℕ)) → Frames T rest → IsPart part rest → IsPart p rest
    → 8 ≤ length part → part ++ piece ≡ p → (limit ≤ length (part ++ piece)) ⊎ T
    → T × (opens_in (q ++ part) piece ≡ false)
inner T q part piece p [] h is_part last long e why = absurd (omega (arith, ap length is_part, long))
inner T q part piece p (g ∷ rest) h is_part last long e why =
    let left_is = append_cancel_left part is_part.0 (piece ++ last.0) (sym is_part.1
    ∙ (last.1 ∙ (ap (λ xs. xs ++ last.0) (sym e) ∙ append_assoc part piece last.0))) in
    let left = left_none g part is_part.0 h.0.frame is_part.1 long q in (
      elim why [
        | inl big ↦ h.0.large (omega (arith, big, ap length e, ap length last.1, length-append p last.0))
        | inr t ↦ t
      ],
      (opens_in-parts (q ++ part) piece last.0 (ap (opens_in (q ++ part)) (sym left_is) ∙ left)).0,
    )

-- a piece that ends with part of a frame
module _ (T : Type 0) (p q' : List ℕ) (h' : Option (List ℕ)) (rest : List (List ℕ)) (hr : Frames T rest)
    (last : IsPart p rest) where
  none_in_part : NoneFrom end_mark p 0
  none_in_part = part_has_none T p rest hr last

  -- the bytes of an open update end a frame, and part of the next follows
  settle_ends : (q s prefix all w : List ℕ) → w ≡ s ++ (prefix ++ end_mark) → s ++ all ≡ w ++ p
      → Settled (q ++ s) all q' h' → RestsBy T (q ++ w) p q' h'
  settle_ends q s prefix all w w_is e st =
      let is = append_assoc q s (prefix ++ end_mark) ∙ ap (λ xs. q ++ xs) (sym w_is) in
      let all_is = append_cancel_left s all (prefix ++ (end_mark ++ p)) (e ∙ (ap (λ xs. xs ++ p) w_is
      ∙ (append_assoc s (prefix ++ end_mark) p ∙ ap (λ xs. s ++ xs) (append_assoc prefix end_mark p)))) in
      let ends = subst (λ (xs : List ℕ). Settled (q ++ s) xs q' h') all_is st in
      elim (cases_lt (length p) 8) [
        | inl short ↦
            let now = settled_all (q ++ s) prefix p q' h' none_in_part short ends in
            outside (inl short) (now.0 ∙ (ap (λ xs. (q ++ s) ++ xs) (sym (append_assoc prefix end_mark p))
            ∙ (sym (append_assoc (q ++ s) (prefix ++ end_mark) p) ∙ ap (λ xs. xs ++ p) is))) now.1
        | inr long ↦
            let starts = part_starts T p rest hr last long in
            let now = settled_cut (q ++ s) prefix starts.0 q' h'
            (subst (λ (xs : List ℕ). NoneFrom end_mark xs 0) starts.1 none_in_part)
            (subst (λ (xs : List ℕ). Settled (q ++ s) (prefix ++ (end_mark ++ xs)) q' h') starts.1 ends) in
            before long (now.0 ∙ is) (now.1 ∙ ap Some (sym starts.1))
      ]

  -- an open update of which the start mark is parsed
  settle_after_start : (q all : List ℕ) (frames : List (List ℕ)) → Frames T (frames ++ rest)
      → start_mark ++ all ≡ concat frames ++ p → Settled (q ++ start_mark) all q' h'
      → RestsBy T (q ++ concat frames) p q' h'
  settle_after_start q all [] h e st =
      let none = none_behind all (subst (λ (xs : List ℕ). NoneFrom end_mark xs 0) (sym e) none_in_part) in
      let s = settled_none (q ++ start_mark) all q' h' none st in
      inside all (sym e) (s.0 ∙ ap (λ xs. xs ++ start_mark) (sym (append-nil q))) s.1
  settle_after_start q all (f ∷ fs) h e st =
      let ends = joined_ends T f fs (frames_prefix T (f ∷ fs) rest h) in
      settle_ends q start_mark ends.0 all (concat (f ∷ fs)) ends.1 e st

  -- an update settles also where its start mark is held
  settle_from_start : (q all : List ℕ) (frames : List (List ℕ)) → Frames T (frames ++ rest)
      → all ≡ concat frames ++ p → 8 ≤ length all → Settled q all q' h' → RestsBy T (q ++ concat frames) p q' h'
  settle_from_start q all [] h e long st =
      let s = settled_none q all q' h' (subst (λ (xs : List ℕ). NoneFrom end_mark xs 0) (sym e) none_in_part) st in
      before (omega (arith, long, ap length e)) (s.0 ∙ sym (append-nil q)) (s.1 ∙ ap Some e)
  settle_from_start q all (f ∷ fs) h e long st =
      let ends = joined_ends T f fs (frames_prefix T (f ∷ fs) rest h) in
      settle_ends q [] (start_mark ++ ends.0) all (concat (f ∷ fs)) ends.1 e
      (subst (λ (xs : List ℕ). Settled xs all q' h') (sym (append-nil q)) st)

  -- no update is open, after the first of the frames
  abbrev Goes : List ℕ → List (List ℕ) → Type 0
  Goes q [] = Unit {0}
  Goes q (f ∷ frames) = Unheld (q ++ f) (concat frames ++ p) q' h' → RestsBy T ((q ++ f) ++ concat frames) p q' h'

  -- from inside a frame
  unheld_past : (q part piece : List ℕ) (frames : List (List ℕ)) → Frames T (frames ++ rest)
      → IsPart part (frames ++ rest) → 8 ≤ length part
      → part ++ piece ≡ concat frames ++ p → (limit ≤ length (part ++ piece)) ⊎ T
      → Goes q frames → Unheld (q ++ part) piece q' h' → RestsBy T (q ++ concat frames) p q' h'
  unheld_past q part piece [] h is_part long e why next pl =
      let (t, none) = inner T q part piece p rest hr is_part last long e why in
      let s = unheld_none (q ++ part) piece q' h' none pl in
      let all = append_assoc q part piece ∙ (ap (λ xs. q ++ xs) e ∙ ap (λ xs. xs ++ p) (sym (append-nil q))) in
      outside (inr t) (s.0 ∙ all) s.1
  unheld_past q part piece (f ∷ frames) h is_part long e why next pl =
      let left = is_part.0 in
      let more = concat frames ++ p in
      let piece_is = append_cancel_left part piece (left ++ more) (e
      ∙ (append_assoc f (concat frames) p ∙ (ap (λ xs. xs ++ more) is_part.1 ∙ append_assoc part left more))) in
      let none = left_none f part left h.0.frame is_part.1 long q in
      let past = skip (q ++ part) left more q' h' none (rw piece_is at pl) in
      let whole = append_assoc q part left ∙ ap (λ xs. q ++ xs) (sym is_part.1) in
      subst (λ (w : List ℕ). RestsBy T w p q' h') (append_assoc q f (concat frames))
      (next (rw whole at past))

  -- from a frame's start
  unheld_started : (q all : List ℕ) (frames : List (List ℕ)) → Frames T (frames ++ rest)
      → IsPart start_mark (frames ++ rest) → start_mark ++ all ≡ concat frames ++ p
      → Goes q frames → Unheld q (concat frames ++ p) q' h' → RestsBy T (q ++ concat frames) p q' h'
  unheld_started q all frames h begun e next pl =
      let t = start q all q' h' (rw e pl) in
      elim (opened t.2) [
        | inl fits ↦ settle_after_start q all frames h e fits.1
        | inr full ↦ unheld_past q start_mark all frames h begun (omega arith) e (inl (omega (arith, full.0))) next
            (rw (append-nil (q ++ start_mark)) at full.1)
      ]

  unheld_frames : (q : List ℕ) (frames : List (List ℕ)) → Frames T (frames ++ rest)
      → Unheld q (concat frames ++ p) q' h' → RestsBy T (q ++ concat frames) p q' h'
  unheld_frames q [] h pl =
      elim (cases_lt (length p) 8) [
        | inl short ↦
            let s = unheld_none q p q' h' (part_opens_none T q p rest h last short) pl in
            outside (inl short) (s.0 ∙ ap (λ xs. xs ++ p) (sym (append-nil q))) s.1
        | inr long ↦
            let at = part_starts T p rest h last long in unheld_started q at.0 [] h at.2 (sym at.1) tt pl
      ]
  unheld_frames q (f ∷ frames) h pl =
      let tail = h.0.frame.body ++ end_mark in
      let more = concat frames ++ p in
      let all_is = append_assoc f (concat frames) p
      ∙ (ap (λ xs. xs ++ more) h.0.frame.is ∙ append_assoc start_mark tail more) in
      unheld_started q (tail ++ more) (f ∷ frames) h (mark_begins f (frames ++ rest) h.0.frame) (sym all_is)
      (unheld_frames (q ++ f) frames h.1) pl

  unheld_next : (q : List ℕ) (frames : List (List ℕ)) → Frames T (frames ++ rest) → Goes q frames
  unheld_next q [] h = tt
  unheld_next q (f ∷ frames) h = unheld_frames (q ++ f) frames h.1

  -- from inside a start mark, or from after it if T is true or the hold was full
  unheld_on : (q part piece : List ℕ) (frames : List (List ℕ)) → Frames T (frames ++ rest)
      → IsPart part (frames ++ rest) → part ++ piece ≡ concat frames ++ p
      → (length part < 8) ⊎ ((limit ≤ length (part ++ piece)) ⊎ T) → Unheld (q ++ part) piece q' h'
      → RestsBy T (q ++ concat frames) p q' h'
  unheld_on q part piece frames h is_part e why pl =
      elim (cases_lt (length part) 8) [
        | inl short ↦ unheld_frames q frames h (rw e at (unskip q part piece q' h'
            (part_opens_none T q part (frames ++ rest) h is_part short) pl))
        | inr long ↦ unheld_past q part piece frames h is_part long e
            (elim why [ inl short ↦ absurd (omega (arith, short, long)) | inr other ↦ other ])
            (unheld_next q frames h) pl
      ]

hold_is : {q r piece q' : List ℕ} {h h' k : Option (List ℕ)} {calls : List Call} {ticks : List Tick} → q ≡ r → h ≡ k
    → Takes q h piece q' h' calls ticks → Takes r k piece q' h' calls ticks
hold_is e f t = rw (← e, ← f) t

-- one more piece
pub piece_rests : (T : Type 0) (q part p piece parsed parsed' : List ℕ) {hold hold' : Option (List ℕ)}
    {calls : List Call} {ticks : List Tick} (frames rest : List (List ℕ)) → RestsBy T q part parsed hold
    → Frames T (frames ++ rest) → IsPart part (frames ++ rest) → part ++ piece ≡ concat frames ++ p → IsPart p rest
    → Takes parsed hold piece parsed' hold' calls ticks → RestsBy T (q ++ concat frames) p parsed' hold'
piece_rests T q part p piece parsed parsed' {hold' = h'} frames rest (outside why at shut) h is_part e last t =
    unheld_on T p parsed' h' rest (frames_back T frames rest h) last q part piece frames h is_part e
    (elim why [ inl short ↦ inl short | inr t' ↦ inr (inr t') ]) (unheld (hold_is at shut t))
piece_rests T q part p piece parsed parsed' {hold' = h'} frames rest (inside held starts at is) h is_part e last t =
    let hr = frames_back T frames rest h in
    let all_is = sym (append_assoc start_mark held piece) ∙ (ap (λ xs. xs ++ piece) (sym starts) ∙ e) in
    let whole = append_assoc q start_mark held ∙ ap (λ xs. q ++ xs) (sym starts) in
    elim (opened (hold_is at is t)) [
      | inl fits ↦ settle_after_start T p parsed' h' rest hr last q (held ++ piece) frames h all_is fits.1
      | inr full ↦
          let big : limit ≤ length (part ++ piece) =
          omega (arith, full.0, ap length starts, length-append held piece, length-append part piece) in
          unheld_on T p parsed' h' rest hr last q part piece frames h is_part e (inr (inl big))
          (rw whole at full.1)
    ]
piece_rests T q part p piece parsed parsed' {hold' = h'} frames rest (before long at is) h is_part e last t =
    let hr = frames_back T frames rest h in
    elim (opened (hold_is at is t)) [
      | inl fits ↦ settle_from_start T p parsed' h' rest hr last q (part ++ piece) frames h e
          (omega (arith, long, length-append part piece)) fits.1
      | inr full ↦ unheld_on T p parsed' h' rest hr last q part piece frames h is_part e (inr (inl full.0)) full.1
    ]
