use Rattle.std.proofs.Common.{◌≡◌, ◌<◌, ◌≤◌, ◌+◌, ◌-◌, ℕ, List, false, inl, inr, length, take, drop, arith}
use Rattle.std.proofs.Common.{length-drop, length-take, slice_index}
use Rattle.std.proofs.lemmas.Bool.{cases_lt}
use Rattle.memchr.specs.Find.{Nowhere, Passes, is_byte}
use Rattle.vte.specs.Marks.{is_found_at}
use Rattle.vte.proofs.MarkLemmas.{none_in_part, none_at_end, part_in}
use Rattle.vte.proofs.marks.last_mark.Goals as goal

-- no mark has its third byte at a place or later, and that byte is nowhere from the i-th byte on of the part before
-- that place
none_behind : (mark text : List ℕ) (from end i : ℕ) → 2 < length mark → from ≤ end → end ≤ length text
    → ((k : ℕ) → from ≤ k → end ≤ k + 2 → is_found_at mark text k ≡ false)
    → (let part = take (end - from) (drop from text) in Nowhere (Passes (is_byte (slice_index mark 2)) part) i
    (length part))
    → (k : ℕ) → from ≤ k → from + i ≤ k + 2 → is_found_at mark text k ≡ false
none_behind mark text from end i some above within behind nowhere k low after =
    let part : length (take (end - from) (drop from text)) ≡ end - from =
    omega (arith, length-take (end - from) (drop from text), length-drop from text, within) in
    elim (cases_lt (k + 2) end) [
      | inl sooner ↦ none_in_part mark text from (end - from) i (end - from) some (omega (arith, within, above))
          (omega arith) (rw part at nowhere) k after (omega (arith, sooner, above))
      | inr later ↦ behind k low later
    ]

pub loop-at-init : goal.loop-at-init
loop-at-init c = record {
  within = omega arith;
  above = omega (arith, c.requires);
  none = λ k low late. none_at_end c.args.mark.now c.args.text.now k (omega (arith, c.told-mark)) late;
}

pub returns-in-Some-mark_around : goal.returns-in-Some-mark_around
returns-in-Some-mark_around c =
    let text = c.args.text.now in
    let now = c.loop-at.invariant in
    let inside = part_in text c.args.from _ c.in-Some.at c.in-Some.ensures.0.high in
    let here = c.in-Some-mark_around.ensures in (
      here.0,
      (
        omega (arith, inside.1, here.1),
        here.2,
        λ k low below. none_behind c.args.mark.now text c.args.from c.loop-at.end (c.in-Some.at + 1)
            (omega (arith, c.told-mark)) now.above now.within now.none c.in-Some.ensures.0.after k
            (omega (arith, low, here.0)) (omega (arith, low, here.1)),
      ),
    )

pub loop-at-preserved : goal.loop-at-preserved
loop-at-preserved c =
    let text = c.args.text.now in
    let now = c.loop-at.invariant in
    let place = c.args.from + c.in-Some.at in
    let inside = part_in text c.args.from _ c.in-Some.at c.in-Some.ensures.0.high in
    record {
      within = omega (arith, inside.1);
      above = omega arith;
      none = λ k low late. elim (cases_lt place (k + 2)) [
        | inl after ↦ none_behind c.args.mark.now text c.args.from c.loop-at.end (c.in-Some.at + 1)
            (omega (arith, c.told-mark)) now.above now.within now.none c.in-Some.ensures.0.after k low
            (omega (arith, after))
        | inr here ↦ c.in_default-mark_around.ensures k low (omega (arith, late, here))
      ];
    }

pub returns : goal.returns
returns c k low below =
    let now = c.loop-at.invariant in
    none_behind c.args.mark.now c.args.text.now c.args.from c.loop-at.end 0 (omega (arith, c.told-mark)) now.above
    now.within now.none c.in_default.ensures k low (omega (arith, low))
