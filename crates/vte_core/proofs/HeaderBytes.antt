-- A byte of an escape, or of the header of a control sequence or a device string.
use Rattle.std.proofs.Common.{◌≡◌, ◌∙◌, ℕ, true, false, List, [], ◌∷◌, ◌++◌, refl, sym, arith}
use Rattle.std.proofs.lemmas.Bool.Decides.{nat_tests}
use Rattle.std.specs.Int.{is_in_range}
use Rattle.vte_core.specs.Byte.{ReadsOther}
use Rattle.vte_core.specs.Bytes.{is_abort, is_control, is_header, ends_header}
use Rattle.vte_core.specs.Event.{Event, Performs}
use Rattle.vte_core.specs.StepEvents.{byte_events}
use Rattle.vte_core.specs.Pending.{Pending, InEscape, InCsi, InHook, byte_rest, byte_reported}
use Rattle.vte_core.specs.Standing.{IsAt}
use Rattle.vte_core.specs.declared.parser.Parser.{Parser}
use Rattle.vte_core.specs.declared.parser.State.{State}
use Rattle.vte_core.specs.declared.parser.State.TheVariants.{Escape, Csi, DcsHeader}
use Rattle.vte_core.proofs.Quiet.{IsOf, by_state}

pub final-ends : (b : ℕ) → is_in_range 0x40 0x7E b ≡ true → (ends_header b ≡ true) × (is_abort b ≡ false)
final-ends b e = (grind (arith, nat_tests), grind (arith, nat_tests))

module _ {S : Type 0} {step : S → Event → S → Type 0} {n : ℕ} {p r : Parser n} {b : ℕ} {old new : S} (es : List Event)
    (done : Performs step old es new) where
  -- a byte whose events are es
  pub reads_by : (s : State) (f : List ℕ → Pending) → ((q : Pending) → IsOf s q → (h : List ℕ) × (q ≡ f h))
      → p.state ≡ s → byte_events n s p r b ≡ es
      → ((h : List ℕ) → IsAt n p (f h) → (byte_reported n (f h) b ≡ es) × IsAt n r (byte_rest (f h) b))
      → ReadsOther step n s p old b r new
  reads_by s f of is step_events one = record {
    state_after = λ q at. let (h, e) = of q (by_state n p s q is at) in rw e (one h (rw e at at)).1;
    reported = rw step_events done;
    is_reported = λ q at. let (h, e) = of q (by_state n p s q is at) in rw e (step_events ∙ sym (one h (rw e at at)).0);
  }

  pub reads_escape : p.state ≡ Escape → byte_events n Escape p r b ≡ es
      → ((is : List ℕ) → IsAt n p (InEscape is) → (byte_reported n (InEscape is) b ≡ es)
      × IsAt n r (byte_rest (InEscape is) b))
      → ReadsOther step n Escape p old b r new
  reads_escape = reads_by Escape InEscape (λ q is. is)

  pub reads_csi : p.state ≡ Csi → byte_events n Csi p r b ≡ es
      → ((h : List ℕ) → IsAt n p (InCsi h) → (byte_reported n (InCsi h) b ≡ es) × IsAt n r (byte_rest (InCsi h) b))
      → ReadsOther step n Csi p old b r new
  reads_csi = reads_by Csi InCsi (λ q is. is)

  pub reads_hook : p.state ≡ DcsHeader → byte_events n DcsHeader p r b ≡ es
      → ((h : List ℕ) → IsAt n p (InHook h) → (byte_reported n (InHook h) b ≡ es) × IsAt n r (byte_rest (InHook h) b))
      → ReadsOther step n DcsHeader p old b r new
  reads_hook = reads_by DcsHeader InHook (λ q is. is)

-- a byte that goes on with the header
module _ {S : Type 0} {step : S → Event → S → Type 0} {n : ℕ} {p r : Parser n} {b : ℕ} {old : S}
    (header : is_header b ≡ true) where
  pub csi_longer : p.state ≡ Csi
      → ((h : List ℕ) → IsAt n p (InCsi h) → IsAt n r (InCsi (h ++ b ∷ []))) → ReadsOther step n Csi p old b r old
  csi_longer is at =
      let on : ends_header b ≡ false = grind (arith, nat_tests) in
      let quiet : is_control b ≡ false = grind (arith, nat_tests) in
      reads_csi [] refl is (rw (on, quiet) refl) (λ h now. rw (on, quiet, header) (refl, at h now))

  pub hook_longer : p.state ≡ DcsHeader
      → ((h : List ℕ) → IsAt n p (InHook h) → IsAt n r (InHook (h ++ b ∷ [])))
      → ReadsOther step n DcsHeader p old b r old
  hook_longer is at =
      let on : ends_header b ≡ false = grind (arith, nat_tests) in
      reads_hook [] refl is (rw on refl) (λ h now. rw (on, header) (refl, at h now))
