-- Lists of moves over joined frames.
use Rattle.std.proofs.Common.{◌≡◌, ℕ, ◌+◌, ◌<◌, ◌≤◌, List, [], ◌∷◌, ◌++◌, Option, None, map, length, take, refl, sym}
use Rattle.std.proofs.Common.{◌∙◌, ap, subst, inl, inr, arith, append_assoc, append-nil, length-append}
use Rattle.std.specs.List.{All, AllByRecursion, concat}
use Rattle.std.proofs.lemmas.Bool.{cases_lt}
use Rattle.std.proofs.lemmas.List.{append_cancel_left, take_at, nil_from_length}
use Rattle.std.proofs.lemmas.List.Folds.{concat-append}
use Rattle.std.proofs.lemmas.List.Elements.{recursion_from_All}
use Rattle.vte_core.specs.Ground.{AtGround}
use Rattle.vte_types.specs.Call.{Call}
use Rattle.vte.specs.Timeout.{Tick}
use Rattle.vte.specs.Marks.{start_mark, end_mark}
use Rattle.vte.specs.Hold.{limit, held_of, Takes}
use Rattle.vte.specs.Moves.{Move, Gives, Stops, given}
use Rattle.vte.specs.Frames.{IsFrame, IsPart, IsPrefix, Drives, ends, gives, stops, Rests, closed, opened, kept}
use Rattle.vte.specs.Frames.{IsUntorn}
use Rattle.vte.proofs.FrameMarks.{ground_end}
use Rattle.vte.proofs.FrameLemmas.{cut_later, Frames, frames_back, prefix_short, RestsBy, outside, inside}
use Rattle.vte.proofs.FrameLemmas.{before, piece_rests}

-- a prefix of frames is whole frames and part of the next
cut_frames : (frames : List (List ℕ)) (xs beyond : List ℕ) → xs ++ beyond ≡ concat frames
    → (whole : List (List ℕ)) × (rest : List (List ℕ)) × (p : List ℕ) × (frames ≡ whole ++ rest)
    × (xs ≡ concat whole ++ p) × IsPart p rest
cut_frames [] [] beyond e = ([], [], [], refl, refl, refl)
cut_frames [] (x ∷ xs) beyond e = absurd (omega (arith, ap length e))
cut_frames (f ∷ fs) xs beyond e =
    elim (cases_lt (length xs) (length f)) [
      | inl short ↦
          let cut = cut_later xs beyond f (concat fs) e (omega (arith, short)) in (
            [],
            f ∷ fs,
            xs,
            refl,
            refl,
            (
              cut.0,
              cut.1,
              λ none. absurd (omega (arith, short, ap length cut.1, ap length none, length-append xs cut.0)),
            ),
          )
      | inr long ↦
          let cut = cut_later f (concat fs) xs beyond (sym e) long in
          let later = cut_frames fs cut.0 beyond (sym cut.2) in (
            f ∷ later.0,
            later.1,
            later.2,
            ap (λ gs. f ∷ gs) later.3,
            cut.1 ∙ (ap (λ zs. f ++ zs) later.4 ∙ sym (append_assoc f (concat later.0) later.2)),
            later.5,
          )
    ]

-- the parsed and held bytes after bytes of frames
record Untorn (T : Type 0) (frames : List (List ℕ)) (past bytes parsed : List ℕ) (hold : Option (List ℕ)) : Type 0 where
  prefix : IsPrefix frames bytes
  rests : RestsBy T (past ++ concat prefix.whole) prefix.part parsed hold

-- one more piece
more : {T : Type 0} {frames : List (List ℕ)} {past bytes piece parsed parsed' : List ℕ} {hold hold' : Option (List ℕ)}
    {calls : List Call} {ticks : List Tick} (beyond : List ℕ)
    → Frames T frames → (bytes ++ piece) ++ beyond ≡ concat frames → Untorn T frames past bytes parsed hold
    → Takes parsed hold piece parsed' hold' calls ticks → Untorn T frames past (bytes ++ piece) parsed' hold'
more {T} {frames} {past} {bytes} {piece} {parsed} {parsed'} {hold} {hold'} beyond fs e r t =
    let at = ap (λ zs. zs ++ piece) r.prefix.bytes_are ∙ append_assoc (concat r.prefix.whole) r.prefix.part piece in
    let all = sym (append_assoc (concat r.prefix.whole) (r.prefix.part ++ piece) beyond)
    ∙ (ap (λ zs. zs ++ beyond) (sym at) ∙ (e ∙
    (ap concat r.prefix.frames_are ∙ concat-append r.prefix.whole r.prefix.rest))) in
    let (prefix, rest, part, are, is, is_part) = cut_frames r.prefix.rest (r.prefix.part ++ piece) beyond
    (append_cancel_left (concat r.prefix.whole) ((r.prefix.part ++ piece) ++ beyond) (concat r.prefix.rest) all) in
    let here : Frames T r.prefix.rest = frames_back T r.prefix.whole r.prefix.rest
    (subst (λ (gs : List (List ℕ)). Frames T gs) r.prefix.frames_are fs) in
    let next = piece_rests T (past ++ concat r.prefix.whole) r.prefix.part part piece parsed parsed' prefix rest r.rests
    (subst (λ (gs : List (List ℕ)). Frames T gs) are here)
    (subst (λ (gs : List (List ℕ)). IsPart r.prefix.part gs) are r.prefix.is_part) is is_part t in
    let whole : concat (r.prefix.whole ++ prefix) ≡ concat r.prefix.whole
    ++ concat prefix = concat-append r.prefix.whole prefix in
    record {
      prefix = record {
        whole = r.prefix.whole ++ prefix;
        rest = rest;
        part = part;
        frames_are = r.prefix.frames_are ∙ (ap (λ zs. r.prefix.whole ++ zs) are
            ∙ sym (append_assoc r.prefix.whole prefix rest));
        bytes_are = at ∙ (ap (λ zs. concat r.prefix.whole ++ zs) is
            ∙ (sym (append_assoc (concat r.prefix.whole) (concat prefix) part) ∙ ap (λ zs. zs ++ part) (sym whole)));
        is_part = is_part;
      };
      rests = subst (λ (w : List ℕ). RestsBy T w part parsed' hold')
          (append_assoc past (concat r.prefix.whole) (concat prefix) ∙ ap (λ zs. past ++ zs) (sym whole)) next;
    }

-- the update is stopped
stopped_rests : {T : Type 0} {whole part parsed : List ℕ} {hold : Option (List ℕ)} → T
    → RestsBy T whole part parsed hold → RestsBy T whole part (parsed ++ held_of hold) None
stopped_rests {parsed = parsed} t (outside why at is) =
    outside why (ap (λ o. parsed ++ held_of o) is ∙ (append-nil parsed ∙ at)) refl
stopped_rests {whole = whole} {parsed = parsed} t (inside held starts at is) =
    outside (inr t) (ap (λ o. parsed ++ held_of o) is
    ∙ (ap (λ xs. xs ++ held) at ∙ (append_assoc whole start_mark held ∙ ap (λ xs. whole ++ xs) (sym starts)))) refl
stopped_rests {part = part} {parsed = parsed} t (before long at is) =
    outside (inr t) (ap (λ o. parsed ++ held_of o) is ∙ ap (λ xs. xs ++ part) at) refl

stopped : {T : Type 0} {frames : List (List ℕ)} {past bytes parsed : List ℕ} {hold : Option (List ℕ)} → T
    → Untorn T frames past bytes parsed hold → Untorn T frames past bytes (parsed ++ held_of hold) None
stopped t r = record { prefix = r.prefix; rests = stopped_rests t r.rests }

-- the moves stop an update only if T is true
abbrev pub StopsBy : Type 0 → List Move → Type 0
StopsBy T [] = Unit {0}
StopsBy T (Gives piece ∷ moves) = StopsBy T moves
StopsBy T (Stops ∷ moves) = T × StopsBy T moves

follow : {T : Type 0} {frames : List (List ℕ)} {past bytes : List ℕ} {moves : List Move} {parsed : List ℕ}
    {hold : Option (List ℕ)} {parsed' : List ℕ} {hold' : Option (List ℕ)} (beyond : List ℕ)
    → Frames T frames → StopsBy T moves → (bytes ++ given moves) ++ beyond ≡ concat frames
    → Untorn T frames past bytes parsed hold
    → Drives moves parsed hold parsed' hold' → Untorn T frames past (bytes ++ given moves) parsed' hold'
follow {T} {frames} {past} {bytes} beyond fs why e r (ends parsed hold) =
    subst (λ (xs : List ℕ). Untorn T frames past xs parsed hold) (sym (append-nil bytes)) r
follow {T} {frames} {past} {bytes} beyond fs why e r (gives piece rest _ _ mid _ calls ticks parsed' hold' t l) =
    let same : (bytes ++ piece) ++ given rest ≡ bytes
    ++ (piece ++ given rest) = append_assoc bytes piece (given rest) in
    let all : ((bytes ++ piece) ++ given rest) ++ beyond ≡ concat frames = ap (λ xs. xs ++ beyond) same ∙ e in
    let next = more (given rest ++ beyond) fs (sym (append_assoc (bytes ++ piece) (given rest) beyond) ∙ all) r t in
    subst (λ (xs : List ℕ). Untorn T frames past xs parsed' hold') same (follow beyond fs why all next l)
follow beyond fs why e r (stops rest _ _ _ _ l) = follow beyond fs why.1 e (stopped why.0 r) l

none_part : (T : Type 0) (frames : List (List ℕ)) → Frames T frames → IsPart [] frames
none_part T [] fs = refl
none_part T (f ∷ frames) fs = (f, refl, λ none. absurd (omega (arith, ap length none, ap length fs.0.frame.is)))

-- before the first frame
at_first : (T : Type 0) (frames : List (List ℕ)) (past : List ℕ) → Frames T frames → Untorn T frames past [] past None
at_first T frames past fs = record {
  prefix = record {
    whole = [];
    rest = frames;
    part = [];
    frames_are = refl;
    bytes_are = refl;
    is_part = none_part T frames fs;
  };
  rests = outside (inl (omega arith)) (sym (append-nil (past ++ []) ∙ append-nil past)) refl;
}

-- ---- the laws

pub moves_follow : (moves further : List Move) (parsed : List ℕ) (hold : Option (List ℕ)) (mid : List ℕ)
    (mid_hold : Option (List ℕ)) (parsed' : List ℕ) (hold' : Option (List ℕ))
    → Drives moves parsed hold mid mid_hold → Drives further mid mid_hold parsed' hold'
    → Drives (moves ++ further) parsed hold parsed' hold'
moves_follow moves further parsed hold mid mid_hold parsed' hold' (ends _ _) k = k
moves_follow moves further parsed hold mid mid_hold parsed' hold' (gives piece rest _ _ m h calls ticks _ _ t l) k =
    gives piece (rest ++ further) parsed hold m h calls ticks parsed' hold' t
    (moves_follow rest further m h mid mid_hold parsed' hold' l k)
moves_follow moves further parsed hold mid mid_hold parsed' hold' (stops rest _ _ _ _ l) k =
    stops (rest ++ further) parsed hold parsed' hold'
    (moves_follow rest further (parsed ++ held_of hold) None mid mid_hold parsed' hold' l k)

loose : (frames : List (List ℕ)) → AllByRecursion IsFrame frames → Frames (Unit {0}) frames
loose [] h = tt
loose (f ∷ frames) h = (record { frame = h.0; large = λ big. tt }, loose frames h.1)

any_stops : (moves : List Move) → StopsBy (Unit {0}) moves
any_stops [] = tt
any_stops (Gives piece ∷ moves) = any_stops moves
any_stops (Stops ∷ moves) = (tt, any_stops moves)

-- if no part of a frame is left over, no byte is held
whole_rests : {T : Type 0} {whole part parsed : List ℕ} {hold : Option (List ℕ)} → part ≡ []
    → RestsBy T whole part parsed hold → (parsed ≡ whole) × (hold ≡ None)
whole_rests {whole = whole} e (outside why at is) = (at ∙ (ap (λ xs. whole ++ xs) e ∙ append-nil whole), is)
whole_rests e (inside held starts at is) = absurd (omega (arith, ap length starts, ap length e))
whole_rests e (before long at is) = absurd (omega (arith, ap length e, long))

-- no part of a frame is left over if all frames were given
nothing_left : (T : Type 0) (whole rest : List (List ℕ)) (part : List ℕ) → Frames T rest → IsPart part rest
    → concat (whole ++ rest) ≡ concat whole ++ part → (rest ≡ []) × (part ≡ [])
nothing_left T whole [] part fs is e = (refl, is)
nothing_left T whole (f ∷ rest) part fs is e =
    let same : concat (f ∷ rest) ≡ part = append_cancel_left (concat whole) (concat (f ∷ rest)) part
    (sym (concat-append whole (f ∷ rest)) ∙ e) in
    let long : length (f ++ concat rest) ≡ length f + length (concat rest) = length-append f (concat rest) in
    let size : length f ≡ length part + length is.0 = ap length is.1 ∙ length-append part is.0 in
    let none : is.0 ≡ [] = nil_from_length is.0 (omega (arith, long, size, ap length same)) in
    absurd (is.2 none)

pub whole_are_parsed : (frames : List (List ℕ)) (moves : List Move) (past parsed : List ℕ) (hold : Option (List ℕ))
    → All IsFrame frames → given moves ≡ concat frames → Drives moves past None parsed hold
    → (parsed ≡ past ++ concat frames) × (hold ≡ None)
whole_are_parsed frames moves past parsed hold all e l =
    let fs = loose frames (recursion_from_All IsFrame frames all) in
    let r = follow [] fs (any_stops moves) (append-nil (given moves) ∙ e) (at_first (Unit {0}) frames past fs) l in
    let here : Frames (Unit {0}) r.prefix.rest = frames_back (Unit {0}) r.prefix.whole r.prefix.rest
    (subst (λ (gs : List (List ℕ)). Frames (Unit {0}) gs) r.prefix.frames_are fs) in
    let left = nothing_left (Unit {0}) r.prefix.whole r.prefix.rest r.prefix.part here r.prefix.is_part
    (ap concat (sym r.prefix.frames_are)
    ∙ (sym e ∙ r.prefix.bytes_are)) in
    let s = whole_rests left.1 r.rests in
    let whole : r.prefix.whole ≡ frames = sym (append-nil r.prefix.whole)
    ∙ (ap (λ gs. r.prefix.whole ++ gs) (sym left.0) ∙ sym r.prefix.frames_are) in
    (s.0 ∙ ap (λ gs. past ++ concat gs) whole, s.1)

tight : (frames : List (List ℕ)) → AllByRecursion IsFrame frames → AllByRecursion (λ f. length f < limit) frames
    → Frames ⊥ frames
tight [] h k = tt
tight (f ∷ frames) h k = (record { frame = h.0; large = λ big. omega (arith, big, k.0) }, tight frames h.1 k.1)

no_stops : (pieces : List (List ℕ)) → StopsBy ⊥ (map Gives pieces)
no_stops [] = tt
no_stops (piece ∷ pieces) = no_stops pieces

given_pieces : (pieces : List (List ℕ)) → given (map Gives pieces) ≡ concat pieces
given_pieces [] = refl
given_pieces (piece ∷ pieces) = ap (λ xs. piece ++ xs) (given_pieces pieces)

rests_so : {whole part parsed : List ℕ} {hold : Option (List ℕ)} → RestsBy ⊥ whole part parsed hold
    → Rests whole part parsed hold
rests_so (outside (inl short) at is) = closed short at is
rests_so (outside (inr t) at is) = absurd t
rests_so (inside held starts at is) = opened held starts at is
rests_so (before long at is) = kept long at is

pub never_torn : (frames pieces : List (List ℕ)) (beyond past parsed : List ℕ) (hold : Option (List ℕ))
    → All IsFrame frames → All (λ f. length f < limit) frames → concat pieces ++ beyond ≡ concat frames
    → Drives (map Gives pieces) past None parsed hold → IsUntorn frames past (concat pieces) parsed hold
never_torn frames pieces beyond past parsed hold all small e l =
    let fs = tight frames (recursion_from_All IsFrame frames all)
    (recursion_from_All (λ f. length f < limit) frames small) in
    let moves = map Gives pieces in
    let all_given : given moves ++ beyond ≡ concat frames = ap (λ xs. xs ++ beyond) (given_pieces pieces) ∙ e in
    let r = follow beyond fs (no_stops pieces) all_given (at_first ⊥ frames past fs) l in
    record {
      prefix = record {
        whole = r.prefix.whole;
        rest = r.prefix.rest;
        part = r.prefix.part;
        frames_are = r.prefix.frames_are;
        bytes_are = sym (given_pieces pieces) ∙ r.prefix.bytes_are;
        is_part = r.prefix.is_part;
      };
      rests = rests_so r.rests;
    }

part_of_start : (part : List ℕ) (rest : List (List ℕ)) → AllByRecursion IsFrame rest → IsPart part rest
    → length part < 8 → take (length part) start_mark ≡ part
part_of_start part [] h e short = ap (λ xs. take (length xs) start_mark) e ∙ sym e
part_of_start part (f ∷ rest) h e short =
    let at = prefix_short f part e.0 h.0 e.1 short in
    ap (take (length part)) at.1 ∙ take_at part at.0 (length part) refl

pub mark_begun : (whole part parsed : List ℕ) (hold : Option (List ℕ)) (rest : List (List ℕ))
    → AllByRecursion IsFrame rest → IsPart part rest
    → Rests whole part parsed hold → (count : ℕ) × (count ≤ 8) × (parsed ≡ whole ++ take count start_mark)
mark_begun whole part parsed hold rest h e (closed short at is) =
    (length part, omega (arith, short), at ∙ ap (λ xs. whole ++ xs) (sym (part_of_start part rest h e short)))
mark_begun whole part parsed hold rest h e (opened held starts at is) = (8, omega arith, at)
mark_begun whole part parsed hold rest h e (kept long at is) = (0, omega arith, at ∙ sym (append-nil whole))

pub frames_ground : (frames : List (List ℕ)) (past : List ℕ) → AllByRecursion IsFrame frames → AtGround 1024 past
    → AtGround 1024 (past ++ concat frames)
frames_ground [] past h g = subst (λ (xs : List ℕ). AtGround 1024 xs) (sym (append-nil past)) g
frames_ground (f ∷ frames) past h g =
    let prefix = past ++ (start_mark ++ h.0.body) in
    let is : prefix ++ end_mark ≡ past ++ f = append_assoc past (start_mark ++ h.0.body) end_mark
    ∙ ap (λ xs. past ++ xs) (append_assoc start_mark h.0.body end_mark ∙ sym h.0.is) in
    let here : AtGround 1024 (past ++ f) = subst (λ (xs : List ℕ). AtGround 1024 xs) is (ground_end prefix) in
    subst (λ (xs : List ℕ). AtGround 1024 xs) (append_assoc past f (concat frames))
    (frames_ground frames (past ++ f) h.1 here)
