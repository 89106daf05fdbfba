-- Where `advance_until_terminated` stops.
use Rattle.std.proofs.Common.{◌≡◌, ℕ, zero, suc, ◌-◌, ◌<◌, ◌≤◌, Bool, true, false, not, ◌&&◌, ◌||◌, ◌==◌, List, []}
use Rattle.std.proofs.Common.{◌∷◌, ◌++◌, append_assoc, length, take, drop, get_or, refl, sym, ◌∙◌, ap, subst, arith}
use Rattle.std.proofs.Common.{inl, inr}
use Rattle.std.proofs.lemmas.Grind.{common_steps}
use Rattle.std.proofs.lemmas.Bool.Decides.{nat_tests}
use Rattle.std.proofs.lemmas.Bool.{and_parts}
use Rattle.std.proofs.lemmas.List.{drop_more, drop_all}
use Rattle.std.proofs.Math.Bool.{or-true}
use Rattle.std.proofs.Math.Seq.{take-suc, take-nil}
use Rattle.vte_core.specs.Event.{Event, Performs}
use Rattle.vte_core.specs.Pending.{Pending, InText, InEscape, InCsi, InOsc, InHook, InDevice, InSwallowed}
use Rattle.vte_core.specs.Pending.{events_of_byte, after_byte, after_bytes, events_from, pending}
use Rattle.vte_core.proofs.Characters.{bool_cases}
use Rattle.vte_core.proofs.Telling.{performs-append, same_events}
use Rattle.vte_core.proofs.Machine.{after_bytes-append}
use Rattle.vte_core.proofs.AddedLemmas.{added-from}
use Rattle.vte_core.proofs.GroundTextLemmas.{ends_in_text-last}
use Rattle.vte_core.specs.Bytes.{is_esc}
use Rattle.vte_core.specs.Added.{added}
use Rattle.vte_core.specs.GroundText.{ends_in_text}
use Rattle.vte_core.specs.Stopping.{StopsAt, Stops, is_text, runs_on, ends_run, asks_at, asks_after, PassedBy}
use Rattle.vte_core.specs.Standing.{IsAt, state_is_text}
use Rattle.vte_core.specs.declared.parser.Parser.{Parser}

pub is_text-at : (n : ℕ) (p : Parser n) (q : Pending) → IsAt n p q → is_text q ≡ state_is_text p.state
is_text-at n p (InText u) h = rw h.0 refl
is_text-at n p (InEscape is) h = rw h.0 refl
is_text-at n p (InCsi x) h = rw h.0 refl
is_text-at n p (InOsc s) h = rw h.0 refl
is_text-at n p (InHook x) h = rw h.0 refl
is_text-at n p InDevice h = rw h.0 refl
is_text-at n p InSwallowed h = rw h.0 refl

pub whole_rest : (bs : List ℕ) (j : ℕ) → take (length bs - j) (drop j bs) ≡ drop j bs
whole_rest bs j = grind (arith, common_steps)

module _ {S : Type 0} (step : S → Event → S → Type 0) (terminated : S → Bool) (n : ℕ) where
  pub stop_now : (q : Pending) (asked : Bool) (bs : List ℕ) (i : ℕ) (old : S)
      → i < length bs → (asked && terminated old) ≡ true → StopsAt step terminated n q asked (drop i bs) old 0 old
  stop_now q asked bs i old h e =
      subst (λ xs. StopsAt step terminated n q asked xs old 0 old) (sym (drop_more bs i 0 h)) (rw e (refl, refl))

  pub stop_end : (q : Pending) (asked : Bool) (bs : List ℕ) (i : ℕ) (old : S)
      → length bs ≤ i → StopsAt step terminated n q asked (drop i bs) old 0 old
  stop_end q asked bs i old h =
      subst (λ xs. StopsAt step terminated n q asked xs old 0 old) (sym (drop_all i bs h)) (refl, refl)

  -- up to where it stops, the performer has gone through the events of the bytes read
  pub stops-performs : (q : Pending) (asked : Bool) (bs : List ℕ) (old : S) (k : ℕ) (new : S)
      → StopsAt step terminated n q asked bs old k new → Performs step old (events_from n q (take k bs)) new
  stops-performs q asked [] old k new h = rw (take-nil k) h.1
  stops-performs q asked (b ∷ bs) old k new h =
      elim (bool_cases (asked && terminated old)) [
        | inl e ↦ let g = rw e at h in rw g.0 g.1
        | inr e ↦
            let (mid, j, i, p, r) = rw e at h in
            rw i (performs-append step old mid new (events_of_byte n q b) (events_from n (after_byte q b) (take j bs)) p
            (stops-performs (after_byte q b) (not (runs_on q b bs)) bs mid j new r))
      ]

  -- where it stops before the last byte, the performer has asked for it
  pub stops-asked : (q : Pending) (asked : Bool) (bs : List ℕ) (old : S) (k : ℕ) (new : S)
      → StopsAt step terminated n q asked bs old k new → k < length bs → (asks_at q asked bs k ≡ true)
      × (terminated new ≡ true)
  stops-asked q asked [] old k new h lt = absurd (omega (arith, lt))
  stops-asked q asked (b ∷ bs) old k new h lt =
      elim (bool_cases (asked && terminated old)) [
        | inl e ↦
            let g = rw e at h in
            let both = and_parts asked (terminated old) e in
            rw (g.0, g.1) both
        | inr e ↦
            let (mid, j, i, p, r) = rw e at h in
            rw i (stops-asked (after_byte q b) (not (runs_on q b bs)) bs mid j new r
            (omega (arith, lt, i)))
      ]

  -- a point at which it asked before it stopped
  pub stops-passed : (q : Pending) (asked : Bool) (bs : List ℕ) (old : S) (k : ℕ) (new : S) (m : ℕ)
      → StopsAt step terminated n q asked bs old k new → m < k → asks_at q asked bs m ≡ true
      → PassedBy step terminated n q bs m old k new
  stops-passed q asked [] old k new m h lt a = absurd (omega (arith, lt, h.0))
  stops-passed q asked (b ∷ bs) old k new zero h lt a =
      elim (bool_cases (asked && terminated old)) [
        | inl e ↦ let g = rw e at h in absurd (omega (arith, lt, g.0))
        | inr e ↦ record {
          mid = old;
          before = refl;
          goes_on = let was : asked ≡ true = a in rw was at e;
          after = stops-performs q asked (b ∷ bs) old k new h;
        }
      ]
  stops-passed q asked (b ∷ bs) old k new (suc m) h lt a =
      elim (bool_cases (asked && terminated old)) [
        | inl e ↦ let g = rw e at h in absurd (omega (arith, lt, g.0))
        | inr e ↦
            let (mid, j, i, p, r) = rw e at h in
            let rest = stops-passed (after_byte q b) (not (runs_on q b bs)) bs mid j new m r
            (omega (arith, lt, i)) a in
            rw i (record {
              mid = rest.mid;
              before = performs-append step old mid rest.mid (events_of_byte n q b)
                  (events_from n (after_byte q b) (take m bs)) p rest.before;
              goes_on = rest.goes_on;
              after = rest.after;
            })
      ]

  stops-within : (q : Pending) (asked : Bool) (bs : List ℕ) (old : S) (k : ℕ) (new : S)
      → StopsAt step terminated n q asked bs old k new → k ≤ length bs
  stops-within q asked [] old k new h = omega (arith, h.0)
  stops-within q asked (b ∷ bs) old k new h =
      elim (bool_cases (asked && terminated old)) [
        | inl e ↦ let g = rw e at h in omega (arith, g.0)
        | inr e ↦
            let (mid, j, i, p, r) = rw e at h in
            let more = stops-within (after_byte q b) (not (runs_on q b bs)) bs mid j new r in
            omega (arith, i, more)
      ]

-- in the words of the whole texts

asks-next : (q : Pending) (asked : Bool) (bs : List ℕ) (m : ℕ) → m < length bs
    → asks_at q asked bs (suc m) ≡ not (runs_on (after_bytes q (take m bs)) (get_or bs m 0) (drop (suc m) bs))
asks-next q asked [] m lt = absurd (omega (arith, lt))
asks-next q asked (b ∷ bs) zero lt = refl
asks-next q asked (b ∷ bs) (suc m) lt = asks-next (after_byte q b) (not (runs_on q b bs)) bs m (omega (arith, lt))

pub pending-more : (past bs : List ℕ) → pending (past ++ bs) ≡ after_bytes (pending past) bs
pending-more past bs = after_bytes-append (InText []) past bs

-- the last of some bytes is ground text where text was pending before it, and it isn't ESC
ends-next : (past bs : List ℕ) (m : ℕ) → m < length bs
    → ends_in_text (past ++ take (suc m) bs) ≡ (is_text (after_bytes (pending past) (take m bs))
    && not (is_esc (get_or bs m 0)))
ends-next past bs m lt =
    let b = get_or bs m 0 in
    let split : past ++ take (suc m) bs ≡ (past ++ take m bs) ++ b ∷ [] =
    ap (λ xs. past ++ xs) (take-suc bs m 0 lt) ∙ sym (append_assoc past (take m bs) (b ∷ [])) in
    ap ends_in_text split ∙ (ends_in_text-last (past ++ take m bs) b
    ∙ ap (λ q. is_text q && not (is_esc b)) (pending-more past (take m bs)))

not_both : (v w : Bool) → not (v && not w) ≡ (not v || w)
not_both true true = refl
not_both true false = refl
not_both false w = refl

runs-said : (q : Pending) (b : ℕ) (rest : List ℕ)
    → not (runs_on q b rest) ≡ (not (is_text q && not (is_esc b)) || ends_run rest)
runs-said q b [] = sym (or-true (not (is_text q && not (is_esc b))))
runs-said q b (c ∷ rest) = not_both (is_text q && not (is_esc b)) (is_esc c)

-- the points at which the performer is asked, byte by byte and in the words of the whole texts
asks-said : (past piece : List ℕ) (m : ℕ) → m ≤ length piece
    → asks_at (pending past) true piece m ≡ asks_after past piece m
asks-said past piece zero within = refl
asks-said past piece (suc m) within =
    let q = after_bytes (pending past) (take m piece) in
    let rest = drop (suc m) piece in
    let some : (suc m == 0) ≡ false = grind (arith, nat_tests) in
    let lt : m < length piece = omega (arith, within) in
    rw some (asks-next (pending past) true piece m lt ∙ (runs-said q (get_or piece m 0) rest
    ∙ ap (λ v. not v || ends_run rest) (sym (ends-next past piece m lt))))

pub stops-said : {S : Type 0} (step : S → Event → S → Type 0) (terminated : S
    → Bool) (n : ℕ) (past piece : List ℕ) (old : S) (k : ℕ) (new : S)
    → StopsAt step terminated n (pending past) true piece old k new → Stops step terminated n past piece old k new
stops-said {S} step terminated n past piece old k new h =
    let q = pending past in
    let within = stops-within step terminated n q true piece old k new h in
    record {
      within = within;
      performed = same_events step old new _ _ (sym (added-from n past (take k piece)))
          (stops-performs step terminated n q true piece old k new h);
      asked = λ lt. let at = stops-asked step terminated n q true piece old k new h lt
          in (sym (asks-said past piece k within) ∙ at.0, at.1);
      passed = λ m lt asks.
          let by = stops-passed step terminated n q true piece old k new m h lt
          (asks-said past piece m (omega (arith, lt, within)) ∙ asks) in
          let on : added n (past ++ take m piece) (drop m (take k piece))
          ≡ events_from n (after_bytes q (take m piece)) (drop m (take k piece)) =
          added-from n (past ++ take m piece) (drop m (take k piece))
          ∙ ap (λ (p : Pending). events_from n p (drop m (take k piece))) (pending-more past (take m piece)) in
          record {
            mid = by.mid;
            before = same_events step old by.mid _ _ (sym (added-from n past (take m piece))) by.before;
            goes_on = by.goes_on;
            after = same_events step by.mid new _ _ (sym on) by.after;
          };
    }
