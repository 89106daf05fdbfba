-- What a processor does under a timeout that is pending exactly from setting to clearing.
use Rattle.std.proofs.Common.{◌≡◌, ℕ, Bool, true, false, List, [], ◌∷◌, ◌++◌, Option, None, Some, is_some, refl, ap}
use Rattle.std.proofs.Common.{sym, ◌∙◌, subst, take, length, append_assoc, append-nil, arith}
use Rattle.vte_types.specs.Call.{Call}
use Rattle.vte.specs.declared.processor.Processor.{Processor}
use Rattle.vte.specs.Timeout.{Ticking, Tick, Clears, Ticked, Awaits, IsExact}
use Rattle.vte.specs.Performed.{openers_of_all}
use Rattle.vte.specs.Stretch.{added, calls_from, ticks_from}
use Rattle.vte.specs.Closings.{clearings}
use Rattle.vte.specs.Hold as hold
use Rattle.vte.specs.Hold.{closing, held_of, Settles, keeps, replays, closes, Takes}
use Rattle.vte.specs.Advances.{IsIdle, Advances, parses, begins, settles, empties}
use Rattle.vte.specs.Standing.{IsStateAfter, HoldsAt, Advanced, Taken}
use Rattle.vte.proofs.RunLemmas.{Ticked-append}
use Rattle.vte.proofs.SetLemmas.{from_clears_none, renewed, sets_some, any_openers, sets_keep, some_set, cleared_last}

module _ {T : Type 0} (ticking : Ticking T) (exact : IsExact ticking) where
  settled_awaits : (t t' : T) {parsed held piece parsed' : List ℕ} {hold' : Option (List ℕ)} {calls : List Call}
      {ticks : List Tick}
      → Settles parsed held piece parsed' hold' calls ticks → Ticked ticking t ticks t' → Awaits ticking t true
      → Awaits ticking t' (is_some hold')
  settled_awaits t t' (keeps _ _ _ first r none) y a =
      sets_keep ticking exact t first t' (sym (renewed _ _ first [] r ∙ ap clearings (append-nil first))) y a
  settled_awaits t t' (replays parsed held piece first r n cut) y a =
      let from = ticks_from parsed (take n (held ++ piece)) in
      sets_keep ticking exact t (first ++ from) t' (sym (renewed _ _ first from r) ∙ from_clears_none parsed _) y a
  settled_awaits t t' (closes parsed held piece first r c) y a =
      let from = ticks_from parsed (held ++ piece) in
      cleared_last ticking exact t (first ++ from) t'
      (subst (λ (ts : List Tick). Ticked ticking t ts t') (sym (append_assoc first from (Clears ∷ []))) y)

  -- a piece is parsed without the hold only if no update is open
  never_idle : (closed : Bool) (t : T) (k : List ℕ) → IsIdle ticking closed t → Awaits ticking t true
      → (closed ≡ true → Some k ≡ None) → ⊥
  never_idle true t k free a c = let no : Some k ≡ None = c refl in cc
  never_idle false t k free a c = let no : false ≡ true = a false free in cc

  record Exactly (t : T) (parsed : List ℕ) (hold : Option (List ℕ)) (piece : List ℕ) (t' : T) (parsed' held' : List ℕ)
      (calls : List Call) : Type 0 where
    hold' : Option (List ℕ)
    ticks : List Tick
    takes : Takes parsed hold piece parsed' hold' calls ticks
    ticked : Ticked ticking t ticks t'
    held_is : held' ≡ held_of hold'
    awaits : Awaits ticking t' (is_some hold')

  exactly : {closed : Bool} {t : T} {parsed held piece : List ℕ} {t' : T} {parsed' held' : List ℕ} {calls : List Call}
      → Advances ticking closed t parsed held piece t' parsed' held' calls
      → (hold : Option (List ℕ)) → held ≡ held_of hold → Awaits ticking t (is_some hold)
      → (closed ≡ true → hold ≡ None) → Exactly t parsed hold piece t' parsed' held' calls
  exactly (parses closed t parsed piece free none) None e a c =
      record { hold' = None; ticks = []; takes = hold.parses parsed piece none; ticked = refl; held_is = e; awaits = a }
  exactly (parses closed t parsed piece free none) (Some k) e a c = absurd (never_idle closed t k free a c)
  exactly (begins closed t parsed piece n u t' parsed' held' more free at y f) None e a c =
      let new = added parsed (take n piece) in
      let some = some_set ticking exact t (ticks_from parsed (take n piece)) u
      (sets_some (openers_of_all new) (any_openers new ∙ at.opened)) (from_clears_none parsed _) y in
      let r = exactly f (Some []) refl some (λ no. absurd (let b : false ≡ true = no in cc)) in
      record {
        hold' = r.hold';
        ticks = ticks_from parsed (take n piece) ++ r.ticks;
        takes = hold.begins parsed piece n parsed' r.hold' more r.ticks at r.takes;
        ticked = Ticked-append ticking t u t' (ticks_from parsed (take n piece)) r.ticks y r.ticked;
        held_is = r.held_is;
        awaits = r.awaits;
      }
  exactly (begins closed t parsed piece n u t' parsed' held' more free at y f) (Some k) e a c =
      absurd (never_idle closed t k free a c)
  exactly (settles t parsed held piece t' parsed' hold' calls ticks open_ fits s y) None e a c =
      absurd (let no : true ≡ false = a true open_ in cc)
  exactly (settles t parsed held piece t' parsed' hold' calls ticks open_ fits s y) (Some k) e a c = record {
    hold' = hold';
    ticks = ticks;
    takes = subst (λ (x : List ℕ). Takes parsed (Some x) piece parsed' hold' calls ticks) e
        (hold.settles parsed held piece parsed' hold' calls ticks fits s);
    ticked = y;
    held_is = refl;
    awaits = settled_awaits t t' s y a;
  }
  exactly (empties t parsed held piece true u t' parsed' held' more asked full y f) None e a c =
      absurd (let no : true ≡ false = a true asked in cc)
  exactly (empties t parsed held piece false u t' parsed' held' more asked some y f) None e a c =
      absurd (omega (arith, some, ap length e))
  exactly (empties t parsed held piece false u t' parsed' held' more asked some y f) (Some k) e a c =
      absurd (let no : false ≡ true = a false asked in cc)
  exactly (empties t parsed held piece true u t' parsed' held' more asked full y f) (Some k) e a c =
      let ticks = ticks_from parsed held ++ Clears ∷ [] in
      let none = cleared_last ticking exact t (ticks_from parsed held) u y in
      let r = exactly f None refl none (λ _. refl) in
      record {
        hold' = r.hold';
        ticks = ticks ++ r.ticks;
        takes = subst (λ (x : List ℕ). Takes parsed (Some x) piece parsed' r.hold' ((calls_from parsed held
            ++ closing) ++ more) (ticks ++ r.ticks)) e
            (hold.overflows parsed held piece parsed' r.hold' more r.ticks full r.takes);
        ticked = Ticked-append ticking t u t' ticks r.ticks y r.ticked;
        held_is = r.held_is;
        awaits = r.awaits;
      }

  pub taken : {A H : Type 0} (step : H → Call → H
      → Type 0) (old : Processor T A) (parsed : List ℕ) (hold : Option (List ℕ)) (piece : List ℕ) (h : H)
      (new : Processor T A) (h' : H)
      → HoldsAt ticking old parsed hold → Advanced ticking step false old parsed (held_of hold) piece h new
      h' → Taken ticking step old parsed hold piece h new h'
  taken {A} {H} step old parsed hold piece h new h' at a =
      let r = exactly a.advances hold refl at.awaits (λ no. absurd (let b : false ≡ true = no in cc)) in
      record {
        leads = record {
          parsed' = a.parsed';
          hold' = r.hold';
          calls = a.calls;
          ticks = r.ticks;
          takes = r.takes;
          ticked = r.ticked;
        };
        state_after = record {
          state_after = subst (λ (x : List ℕ). IsStateAfter new a.parsed' x) r.held_is a.state_after;
          awaits = r.awaits;
        };
        goes = a.goes;
      }
