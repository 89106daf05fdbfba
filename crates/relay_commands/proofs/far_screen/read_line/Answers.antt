use Rattle.std.proofs.Common.{◌≡◌, ℕ, List, [], ◌∷◌, ◌++◌, length, refl, sym, ap, ◌∙◌, append_assoc, append-nil, arith}
use Rattle.std.specs.List.{concat}
use Rattle.std.specs.declared.slice.Chunks.{Chunks}
use Rattle.relay_streams.proofs.ViewLemmas.{not_led, led_on}
use Rattle.relay_streams.proofs.PieceLemmas.{concat-push}
use Rattle.relay_commands.proofs.far_screen.read_line.Goals as goal

pub loop-bytes-init : goal.loop-bytes-init
loop-bytes-init c = record {
  past = [];
  led = not_led c.args.view.now;
  follows = sym (ap (λ (i : Chunks ℕ). i.rest.now) c.into_iter-bytes-iterator.ensures.into_iter_gives
      ∙ c.chunks-bytes-items.ensures.rest);
}

pub loop-bytes-preserved : goal.loop-bytes-preserved
loop-bytes-preserved c =
    let so_far = c.loop-bytes.invariant in
    let piece = c.in-Some.bytes.now in
    let rest = c.next.new.self.rest.now in
    record {
      past = so_far.past ++ piece ∷ [];
      led = led_on c.args.view.now c.loop-bytes.view c.advance.new.self so_far.past piece so_far.led
          (λ parsed hold at. c.advance.ensures.exact parsed hold c.until_cleared_is_exact.ensures at);
      follows = so_far.follows ∙ ap (λ xs. concat so_far.past ++ xs) (c.in-Some.ensures.steps.1.0)
          ∙ sym (append_assoc (concat so_far.past) piece rest)
          ∙ ap (λ xs. xs ++ rest) (sym (concat-push so_far.past piece));
    }

no-more : (xs : List ℕ) → length xs ≡ 0 → xs ≡ []
no-more [] h = refl
no-more (x ∷ xs) h = absurd (omega (arith, h))

pub returns : goal.returns
returns c =
    let so_far = c.loop-bytes.invariant in
    let none = no-more c.loop-bytes.bytes-iterator.rest.now c.in-None.ensures.steps.1.0 in
    record {
      pieces = so_far.past;
      joined = sym (so_far.follows ∙ ap (λ xs. concat so_far.past ++ xs) none ∙ append-nil (concat so_far.past));
      led = so_far.led;
    }
