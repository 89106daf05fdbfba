-- The data of a device string.
use Rattle.std.proofs.Common.{◌≡◌, ℕ, true, false, List, [], ◌∷◌, map, take, refl, sym, ap, arith}
use Rattle.std.proofs.lemmas.Bool.Decides.{nat_tests}
use Rattle.vte_core.specs.Event.{Event, Put}
use Rattle.vte_core.specs.Reads.{Reads}
use Rattle.vte_core.specs.Runs.{TellsEach}
use Rattle.vte_core.specs.Bytes.{each, is_esc, is_device_data, ends_device, is_put}
use Rattle.vte_core.specs.Pending.{Pending, InDevice, events_from, after_bytes}
use Rattle.vte_core.specs.Standing.{IsAt}
use Rattle.vte_core.specs.declared.parser.Parser.{Parser}
use Rattle.vte_core.specs.declared.parser.State.TheVariants.{DcsPassthrough}
use Rattle.vte_core.proofs.PhaseLemmas.{each-first}
use Rattle.vte_core.proofs.Quiet.{by_state}

-- it is put, byte by byte
put_on : (n : ℕ) (xs : List ℕ) → each is_device_data xs ≡ true → (events_from n InDevice xs ≡ map Put xs)
    × (after_bytes InDevice xs ≡ InDevice)
put_on n [] h = (refl, refl)
put_on n (b ∷ xs) h =
    let g = each-first is_device_data b xs h in
    let esc : is_esc b ≡ false = grind (arith, nat_tests) in
    let ends : ends_device b ≡ false = grind (arith, nat_tests) in
    let put : is_put b ≡ true = grind (arith, nat_tests) in
    let more = put_on n xs g.1 in
    (rw (esc, ends, put) (ap (λ (es : List Event). Put b ∷ es) more.0), rw (esc, ends) more.1)

pub device-at : (n : ℕ) (p : Parser n) (q : Pending) (xs : List ℕ) → p.state ≡ DcsPassthrough
    → each is_device_data xs ≡ true → IsAt n p q
    → (events_from n q xs ≡ map Put xs) × IsAt n p (after_bytes q xs)
device-at n p q xs s e at =
    let is = by_state n p DcsPassthrough q s at in
    let here = rw is at at in
    let m = put_on n xs e in
    rw is (m.0, rw m.1 here)

-- some of it, read at once
pub device-read : {S : Type 0} {step : S → Event → S → Type 0} {n : ℕ} {p : Parser n} {old new : S} (bs : List ℕ)
    (k : ℕ)
    → p.state ≡ DcsPassthrough → TellsEach step is_device_data Put old bs k new → Reads step n p old bs k p new
device-read {S} {step} {n} {p} bs k state put = record {
  within = put.within;
  state_after = λ q h. (device-at n p q (take k bs) state put.all h).1;
  reported = record {
    reported = map Put (take k bs);
    performed = put.reported;
    added = λ q h. sym (device-at n p q (take k bs) state put.all h).0;
  };
}
