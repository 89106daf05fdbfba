-- Printed text, passed to a handler, with the last character stored once, after it.
use Rattle.std.proofs.Common.{◌≡◌, ◌≤◌, ◌<◌, ◌∙◌, sym, ap, refl, ℕ, List, [], ◌∷◌, ◌++◌, Option, Some}
use Rattle.std.proofs.Common.{◌+◌, ◌-◌, map, subst, take, length, append-nil, arith, get_or}
use Rattle.std.specs.Prelude.{All}
use Rattle.std.specs.Char.{IsScalar}
use Rattle.std.specs.Str.{IsUtf8, chars}
use Rattle.std.proofs.Math.Seq.{take-append_seam}
use Rattle.std.specs.Prelude.{encode_utf8}
use Rattle.std.proofs.lemmas.List.{take_all, take_more}
use Rattle.std.proofs.lemmas.Str.{IsUtf8-encode, IsUtf8-take, IsCharBoundary-at_seam, chars-append, chars_past_char}
use Rattle.std.proofs.lemmas.Str.{chars-nil, chars-IsAscii}
use Rattle.std.proofs.Math.Bool.{or-false}
use Rattle.vte_core.specs.Event.{Event, Print, Performs}
use Rattle.printable.specs.Printable.{IsPrintable}
use Rattle.printable.proofs.PrintableLemmas.{printable-ascii}
use Rattle.vte_types.specs.Call.{Call, Calls, input}
use Rattle.vte.specs.Timeout.{Ticking}
use Rattle.vte.specs.Performed.{Performed, last_after_all}
use Rattle.vte.specs.declared.performer.Performer.{Performer}

-- what an event does to a performer
abbrev pub Steps : {H T : Type 0} → (H → Call → H → Type 0) → Ticking T → Performer H T
    → Event → Performer H T → Type 0
Steps step ticking p e q = Performed step ticking e p.handler.now p.state.now p.terminated q.handler.now
    q.state.now q.terminated
    × (q.handler.ghost_name ≡ p.handler.ghost_name) × (q.state.ghost_name ≡ p.state.ghost_name)

-- a performer whose handler received characters, of which this is the last
abbrev pub printed : {H T : Type 0} → Performer H T → H → Option ℕ → Performer H T
printed p h last = record p {
  handler = record p.handler { now = h };
  state = record p.state { now = record p.state.now { preceding_char = last } };
}

-- a handler that received characters, with the last of them: as events
pub printed-all : {H T : Type 0} (step : H → Call → H → Type 0) (ticking : Ticking T)
    (p : Performer H T) (cs : List ℕ) (h : H) (last : Option ℕ) → Calls step p.handler.now (map input cs) h
    → last ≡ last_after_all p.state.now.preceding_char (map Print cs)
    → Performs (Steps step ticking) p (map Print cs) (printed p h last)
printed-all step ticking p [] h last calls is =
    ap (λ x. printed p x last) calls ∙ ap (λ l. printed p p.handler.now l) is
printed-all step ticking p (c ∷ cs) h last calls is = (
  printed p calls.0 (Some c),
  (
    record {
      calls = λ fits. (calls.0, calls.1, refl);
      printed = refl;
      ticked = refl;
      ends = sym (or-false p.terminated);
    },
    refl,
    refl,
  ),
  printed-all step ticking (printed p calls.0 (Some c)) cs h last calls.2 is,
)

last-more : (before : Option ℕ) (cs : List ℕ) (c : ℕ) → Some c ≡ last_after_all before (map Print (cs ++ c ∷ []))
last-more before [] c = refl
last-more before (x ∷ cs) c = last-more (Some x) cs c

-- it is the last one
pub last-is : (before : Option ℕ) (cs : List ℕ) (c : ℕ) (ds : List ℕ) → ds ≡ cs ++ c ∷ []
    → Some c ≡ last_after_all before (map Print ds)
last-is before cs c ds is = last-more before cs c ∙ ap (λ xs. last_after_all before (map Print xs)) (sym is)

-- the last character of a text that ends with one
pub last-read : (before : Option ℕ) (bs prefix : List ℕ) (c : ℕ) → IsUtf8 bs → IsScalar c → bs ≡ prefix ++ encode_utf8 c
    → Some c ≡ last_after_all before (map Print (chars bs))
last-read before bs prefix c utf8 scalar e =
    let one = IsUtf8-encode c scalar in
    let whole = subst IsUtf8 (ap (take (length prefix)) e ∙ take-append_seam prefix (encode_utf8 c))
    (IsUtf8-take bs (length prefix) utf8 (IsCharBoundary-at_seam bs prefix (encode_utf8 c) e one)) in
    last-is before (chars prefix) c (chars bs) (ap chars e ∙ chars-append prefix (encode_utf8 c) whole
    ∙ ap (λ xs. chars prefix ++ xs) (chars_past_char (encode_utf8 c) [] c one (sym (append-nil (encode_utf8 c)))
    ∙ ap (λ xs. c ∷ xs) chars-nil))

-- ---- printable ASCII

-- its characters are its bytes
pub chars-printable : (xs : List ℕ) → All IsPrintable xs → chars xs ≡ xs
chars-printable xs h = chars-IsAscii xs (printable-ascii xs h)

pub last-byte : (before : Option ℕ) (bs text : List ℕ) (d : ℕ) → bs ≡ text → All IsPrintable text
    → 0 < length bs → Some (get_or bs (length bs - 1) d) ≡ last_after_all before (map Print (chars text))
last-byte before bs text d e h some =
    let n = length bs - 1 in
    let all : take (n + 1) bs ≡ bs = take_all (n + 1) bs (omega (arith, some)) in
    last-is before (take n bs) (get_or bs n d) (chars text)
    (chars-printable text h ∙ sym e ∙ sym all ∙ take_more bs n d (omega (arith, some)))
