use Rattle.std.proofs.Common.{◌≡◌, ◌<◌, ◌≤◌, ◌+◌, ◌-◌, ℕ, List, false, inl, inr, length, take, drop, arith}
use Rattle.std.proofs.Common.{length-drop, length-take, slice_index}
use Rattle.std.proofs.lemmas.Bool.{cases_lt}
use Rattle.memchr.specs.Find.{Nowhere, Passes, is_byte}
use Rattle.vte.specs.Marks.{is_found_at}
use Rattle.vte.proofs.MarkLemmas.{none_in_part, none_at_end, part_in}
use Rattle.vte.proofs.marks.first_mark.Goals as goal

-- no mark has its third byte before a place, and that byte is nowhere in a number of bytes from there on
none_before : (mark text : List ℕ) (from next at : ℕ) → 2 < length mark → next + at ≤ length text
    → ((k : ℕ) → from ≤ k → k + 2 < next → is_found_at mark text k ≡ false)
    → Nowhere (Passes (is_byte (slice_index mark 2)) (take (length text - next) (drop next text))) 0 at
    → (k : ℕ) → from ≤ k → k + 2 < next + at → is_found_at mark text k ≡ false
none_before mark text from next at some inside before nowhere k low below = elim (cases_lt (k + 2) next) [
  | inl sooner ↦ before k low sooner
  | inr later ↦ none_in_part mark text next (length text - next) 0 at some (omega (arith, inside))
      (omega (arith, inside)) nowhere k (omega (arith, later)) below
]

pub returns-in-Some-mark_around : goal.returns-in-Some-mark_around
returns-in-Some-mark_around c =
    let text = c.args.text.now in
    let found = c.in-Some.ensures.0 in
    let inside = (part_in text c.loop-at.next _ c.in-Some.at found.high).1 in
    let here = c.in-Some-mark_around.ensures in (
      here.0,
      omega (arith, inside, here.1),
      here.2,
      λ k low below. none_before c.args.mark.now text c.args.from c.loop-at.next c.in-Some.at
          (omega (arith, c.told-mark))
          (omega (arith, inside)) c.loop-at.invariant.none found.before k low (omega (arith, below, here.1)),
    )

pub loop-at-preserved : goal.loop-at-preserved
loop-at-preserved c =
    let text = c.args.text.now in
    let found = c.in-Some.ensures.0 in
    let inside = (part_in text c.loop-at.next _ c.in-Some.at found.high).1 in
    record {
      within = omega (arith, inside);
      above = omega (arith, c.loop-at.invariant.above);
      none = λ k low below. elim (cases_lt (k + 2) (c.loop-at.next + c.in-Some.at)) [
        | inl before ↦ none_before c.args.mark.now text c.args.from c.loop-at.next c.in-Some.at
            (omega (arith, c.told-mark)) (omega (arith, inside)) c.loop-at.invariant.none found.before k low before
        | inr from ↦ c.in_default-mark_around.ensures k low (omega (arith, below, from))
      ];
    }

pub returns : goal.returns
returns c k low below =
    let text = c.args.text.now in
    let next = c.loop-at.next in
    let rest : length (take (length text - next) (drop next text)) ≡ length text - next =
    omega (arith, length-take (length text - next) (drop next text), length-drop next text) in
    elim (cases_lt (k + 2) (length text)) [
      | inl inside ↦ none_before c.args.mark.now text c.args.from next (length text - next) (omega (arith, c.told-mark))
          (omega (arith, c.loop-at.invariant.within)) c.loop-at.invariant.none (rw rest at c.in_default.ensures) k low
          (omega (arith, c.loop-at.invariant.within, inside))
      | inr late ↦ none_at_end c.args.mark.now text k (omega (arith, c.told-mark)) late
    ]
