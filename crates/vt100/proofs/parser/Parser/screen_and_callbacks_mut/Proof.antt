-- The screen and the callbacks are lent together. The borrow checker covers one field alone, so this walks the code.
use base.Fml.{GName, Lft, Share, ftrue, flft}
use base.Logic.{SProp, emp, ent}
use contract.BorrowLft.{◌⊑◌}
use contract.Lifetimes.{AllOutlive}
use contract.Monad.{Fun, fact_i}
use contract.Running.{tables, tables_of}
use denote.Builtin.{RefMutOf}
use denote.Exit.{no}
use denote.Follow.{follows_both}
use denote.Param.{bounded}
use denote.Param.Laws.{Laws}
use denote.RattleType.{RattleType, Valss, owns}
use denote.Ref.{MutBor, MutRef, mut_vals, mut_Tells}
use denote.Signature.{plain}
use denote.Steps.{nothing}
use denote.Struct.Declared.{shape}
use denote.Struct.Struct.{within}
use denote.Struct.Tuple.{tuple_type}
use denote.Triple.Clauses.{Clauses, Ended, closing}
use denote.Triple.Entry.{on_entry}
use denote.Triple.Spec.{Meets, triple_of}
use denote.Triple.Table.{entered}
use denote.Triple.Walked.{says, Stays, stay_dropped, walk_of, ends_at, walked, Goes-spent_ref, walk_Meets}
use mathlib.Core.List.{List, [], ◌∷◌}
use mathlib.Core.Path.{refl}
use mir.MapTy.{inst_fn}
use mir.Syntax.{Args, Dict, Fn, a_type, dcons, dnil, named}
use mir.Val.{Val, vcons, vnil, vptr, vstruct}
use Prim.Native.Nat.{ℕ}
use prog.Memory.{Memory}
use prog.Routine.{Routine}
use prog.Wp.{Calls, Loops, WpFn, Tables}
use seplogic.Ra.Ura.{Ura}
use sound.WpLaws.{WpFn-mono}
use types.ByLocal.{alloc_all, pass_all, free_all, look_at, get, through, sets}
use types.Kit.{‵, ◌⊛◌, raw, given, some, later, ◌$◌, ◌∵◌, !, qed, by, move, keep, drop, split, split3, join, fsplit}
use types.Kit.{fsplit3, fjoin, fpack, feq_i, use3, await, pick, suffices, frame}
use types.Logic.{Logic}
use types.Part.{agg}
use types.Run.{addr, and_then, enter, fld, no_more, returns, stop}
use Rattle.screen_model.specs.Call.{ScreenView}
use Rattle.vt100.specs.Parsing.{ParserView}
use Rattle.vt100.specs.declared.callbacks.Callbacks.{Ghosts}
use Rattle.vt100.specs.contracts.parser.Parser.screen_and_callbacks_mut as both
use Rattle.vt100.specs.contracts.parser.Parser.screen_and_callbacks_mut.Key.{name as #self}
use Rattle.vt100.proofs.LendTwo.{lends}
use Rattle.vt100.proofs.ParserParts.{parser_row, screen_row, callbacks_row, at_screen, at_callbacks, Left, cut, back}
use Rattle.vt100.proofs.parser.Parser.screen_and_callbacks_mut.Statement as stated
use Rattle.vt100.proofs.parser.Parser.screen_and_callbacks_mut.Code as code

module _ (C : RattleType) (G : Ghosts C.Denot) (d : Dict) where
  abbrev args : Args
  args = bounded (a_type ∷ []) (C, tt) (dcons d dnil)

  abbrev function : Fn
  function = inst_fn args code.function

  abbrev ended : Ended
  ended = both.ended C G d

  abbrev stayed : Stays ended.signature.params ended.kept
  stayed = (stay_dropped (RefMutOf (0 ∷ []) tt (plain (λ _. parser_row C)) (λ _. tt)) no, tt)

  module _ (L : Laws C) {M : Type 1} {𝓤 : Ura M} (𝓛 : Logic 𝓤) (at_mem : Memory → SProp 𝓤) (run : Routine → Fun 𝓤) where
    open 𝓛 use {H}

    abbrev clauses : Clauses 𝓤 ended
    clauses = both.clauses C G d 𝓛 at_mem run

    module _ (Cs : Calls 𝓤 H) (Λ : Loops 𝓤 H) (κ κC : Lft) (q qC : Share)
        (bd : AllOutlive 2 ended.signature.outlives (κ, (κC, tt))) (b o : ℕ) (γ : GName) (x : ParserView C.Denot) where
      abbrev self : MutBor (ParserView C.Denot)
      self = record { ref_ptr = (b, o); ghost_name = γ; now = x }

      abbrev bound : (walk_of 𝓛 ended stayed clauses).Ghost
      bound = (((κ, (κC, tt)), (q, (qC, tt)), bd, (self, tt), (mut_vals self, tt)), tt)

      abbrev lent : List RattleType
      lent = MutRef (named 0) κ (screen_row C) ∷ MutRef (named 0) κ (callbacks_row C) ∷ []

      abbrev put : ScreenView → C.Denot → ParserView C.Denot
      put w v = record x { screen = w; callbacks = v }

      walk : ent 𝓤 (on_entry 𝓛 ended.signature (κ, (κC, tt)) (q, (qC, tt)) (self, tt) (mut_vals self, tt))
          (WpFn 𝓤 H Cs Λ function (vptr b o ∷ []) ((walk_of 𝓛 ended stayed clauses).post bound))
      walk =
          let p₁ : ℕ = at_screen C o in
          let p₂ : ℕ = at_callbacks C o in
          let one : GName × GName → MutBor ScreenView =
          λ γs. record { ref_ptr = (b, p₁); ghost_name = γs.0; now = x.screen } in
          let two : GName × GName → MutBor C.Denot =
          λ γs. record { ref_ptr = (b, p₂); ghost_name = γs.1; now = x.callbacks } in
          let v : Val = vstruct (vcons (vptr b p₁) (vcons (vptr b p₂) vnil)) in
          qed 𝓛 ((‵ (flft κ q) ⊛ ‵ (flft κC qC) ⊛ ‵ ftrue)
          ∷ ‵ (owns (MutRef (named 0) κ (parser_row C) ∷ []) (self, tt) (mut_vals self, tt)) ∷ []) ∵
          enter ! Cs Λ function (vptr b o ∷ []) _ $
          alloc_all ! (λ l. pass_all ! refl ((tt, tt), tt) $
          sets ! (addr ! (through ! refl (fld ! refl (stop !)))) refl (tt, tt) $
          sets ! (addr ! (through ! refl (fld ! refl (stop !)))) refl (tt, tt) $
          sets ! (addr ! (through ! refl (fld ! refl (stop !)))) refl (tt, tt) $
          sets ! (addr ! (through ! refl (stop !))) refl (tt, tt) $
          sets ! (addr ! (through ! refl (stop !))) refl (tt, tt) $
          sets ! (agg ! (and_then ! (get ! refl) (and_then ! (get ! refl) (no_more !)))) refl (tt, (tt, (tt, tt))) $
          split ! $ move ! (2 ∷ []) $ fsplit ! $ fsplit3 ! $ drop ! $ move ! (0 ∷ 1 ∷ 3 ∷ []) $
          use3 𝓛 (later (some (λ (γs : GName × GName).
          ‵ ((MutRef (named 0) κ (screen_row C)).own_val (one γs) (vptr b p₁ ∷ []))
          ⊛ ‵ ((MutRef (named 0) κ (callbacks_row C)).own_val (two γs) (vptr b p₂ ∷ []))
          ⊛ ‵ (flft κ q) ⊛ ‵ (follows_both (parser_row C) (screen_row C) (callbacks_row C) γ γs.0 γs.1 put))))
          (lends 𝓛 (parser_row C) (screen_row C) (callbacks_row C) put (named 0) κ q b o p₁ p₂ γ x x.screen x.callbacks
          (Left C L 𝓛 x b o) (cut C L 𝓛 x b o) (λ w u. back C L 𝓛 x w u b o)) $
          await ! tt $ pick ! (λ γs. split3 ! $
          nothing ! $ move ! (2 ∷ 0 ∷ []) $ fjoin ! $ move ! (1 ∷ 0 ∷ []) $ fjoin ! $
          feq_i ! (List Val) (v ∷ []) (v ∷ []) refl $ fjoin ! $
          fpack ! (Valss lent) (within (shape (tuple_type lent)) (one γs, (two γs, tt)) (v ∷ []))
          (vptr b p₁ ∷ [], (vptr b p₂ ∷ [], tt)) $ move ! (1 ∷ []) $ split ! $ move ! (2 ∷ 0 ∷ 1 ∷ []) $
          -- [the result; the token; what the parser ends as; nothing; the other token]
          returns ! (look_at ! 0 refl) $ free_all ! refl $ keep ! (0 ∷ 1 ∷ 2 ∷ 4 ∷ []) $
          suffices ! _ (ends_at 𝓛 ended stayed clauses bound v (one γs, two γs) (tt, tt) (tt, tt)) $
          nothing ! $ nothing ! $ fjoin ! $ join ! $ move ! (1 ∷ 3 ∷ []) $ join ! $ join ! $ frame ! $ frame ! $
          says ! refl $ by ! (fact_i 𝓤 _ (emp 𝓤) refl)))

    meets : (𝓣 : Tables 𝓤 H)
        → Meets 𝓛 ended.signature (WpFn 𝓤 H 𝓣.C 𝓣.Λ function) (closing 𝓛 ended clauses)
    meets 𝓣 =
        walk_Meets 𝓛 ended stayed (Goes-spent_ref 𝓛 2 (0 ∷ []) tt (plain (λ _. parser_row C)), tt) clauses
        (WpFn 𝓤 H 𝓣.C 𝓣.Λ function) (WpFn-mono 𝓤 H 𝓛.laws 𝓣 function)
        (walked 𝓛 ended stayed clauses (WpFn 𝓤 H 𝓣.C 𝓣.Λ function) (λ κs. (mut_vals, tt))
        (λ κs. (mut_Tells (named 0) κs.0 (parser_row C), tt)) (λ κs qs bounds a g are.
        qed 𝓛 (raw (on_entry 𝓛 ended.signature κs qs a (mut_vals a.0, tt)) ∷ given (κs.1.0 ⊑ C.lives) (‵ ftrue)
        ∷ ‵ ftrue ∷ []) ∵ keep ! (0 ∷ []) $
        by ! (walk 𝓣.C 𝓣.Λ κs.0 κs.1.0 qs.0 qs.1.0 bounds a.0.ref_ptr.0 a.0.ref_ptr.1 a.0.ghost_name a.0.now)))

pub screen_and_callbacks_mut_spec : {M : Type 1} → stated.statement M
unfolding tables_of
screen_and_callbacks_mut_spec 𝓤 𝓛 𝓜 𝓡 wired C L G d _ =
    let 𝓣 : Tables 𝓤 𝓛.H = tables_of 𝓤 𝓛.H 𝓜 (tables 𝓤 𝓛.H 𝓜 𝓡 𝓡.env) in
    entered 𝓤 𝓛.H (triple_of 𝓛 (ended C G d).signature (both.spec C G d 𝓛 𝓜.mem 𝓡.returns)) 𝓣.C 𝓣.Λ
    (#self (args C G d)) (function C G d) (code.unfolded 𝓤 𝓛.H 𝓜 𝓡 wired (C, tt) d)
    (meets C G d L 𝓛 𝓜.mem 𝓡.returns 𝓣)
