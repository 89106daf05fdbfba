-- `object_mut` lends the object, and the word follows it.
use mathlib.Core.Path.{◌≡◌, refl, sym, ap, ◌∙◌}
use mathlib.Core.List.{List, [], ◌∷◌}
use Prim.Native.Nat.{ℕ}
use seplogic.Ra.Ura.{Ura}
use mir.Raw.{raw as bare}
use mir.Syntax.{Body, named, seq, assign, place, rv_opd, copy, return}
use mir.Val.{Val, vptr}
use base.Fraction.{full_share}
use base.Logic.{SProp, ent, sep, id⊢, never}
use base.Fml.{GName, Fml, ftrue, fsep, flft}
use prog.Memory.{Memory}
use prog.Routine.{Routine}
use types.Logic.{Logic, sem}
use types.Kit.{‵, raw, ◌⊛◌, some, later, at_ret, ◌$◌, ◌∵◌, !, qed, by, move, keep, drop, split, join, pick, group}
use types.Kit.{fsplit, fsplit3, fjoin, fpack, use0, use1, await, rewrite, frame, suffices, done}
use types.Run.{stop, fld, load, addr, of_opd, first, blocks, exec, returns, enter}
use types.ByLocal.{alloc_all, pass_all, free_all, look_at, get, through, sets, sets_last, env}
use types.Part.{sub, whole, look_in}
use contract.Running.{tables}
use contract.Monad.{Fun, fact}
use denote.Exit.{no}
use denote.Follow.{follows, Part, lends_Part}
use denote.Laws.{Is, shows}
use denote.Memory.{cell_at, part_at, part_of, mem, lone}
use denote.RattleType.{owns}
use denote.RawPtr.{Ptr, block_ptr, in_a_block}
use denote.Ref.{MutBor, MutRef, mut_vals, mut_Tells}
use denote.Signature.{types_at, plain, mut_ref_to}
use denote.Steps.{nothing, heard, peeks, opens}
use denote.Triple.Walked.{says, Stays, stay_dropped, walk_of, ends_at, Goes-spent_ref}
use Rattle.std.specs.Prelude.{Option, Some}
use Rattle.std.specs.Option.{IsSome}
use Rattle.std.proofs.raw_atomic.Walks.{proved}
use Rattle.jeihpal_c.specs.Held.{owns_held, may_free}
use Rattle.jeihpal_c.specs.Lending.{with_object}
use Rattle.jeihpal_c.specs.contracts.word.Word.{the_row as Row}
use Rattle.jeihpal_c.proofs.AsBox.{E}
use Rattle.jeihpal_c.proofs.WordFields.{one, Data, told, made, some_of}
use Rattle.jeihpal_c.specs.contracts.word.Word.object_mut as F
use Rattle.jeihpal_c.specs.contracts.word.Word.object_mut.Key.{name as #self}
use Rattle.jeihpal_c.proofs.word.Word.object_mut.Statement.{statement}
use Rattle.jeihpal_c.proofs.word.Word.object_mut.Code as code

abbrev stayed : Stays (F.ended).signature.params (F.ended).kept
stayed = (stay_dropped (mut_ref_to (0 ∷ []) tt (plain (λ _. Row))) no, tt)

-- the code after the `unsafe` block: its value is the result
abbrev rest : Body
rest = seq (assign (place 0 []) (rv_opd (copy (place 2 [])))) return

-- all of the word but its object
abbrev Rest : Ptr → (pb po b o : ℕ) → Fml
Rest p pb po b o =
    fsep (may_free (bare (lone (E.row).mir)) (block_ptr pb po)) (cell_at full_share Row.mir (one p ∷ []) b o)

module _ {M : Type 1} {𝓤 : Ura M} (𝓛 : Logic 𝓤) where
  back : (d : Row.Denot) (pb po b o : ℕ) → d.at ≡ block_ptr pb po → (w : (E.row).Denot)
      → ent 𝓤 (sep 𝓤 (sem 𝓛 ((mem (E.row)).own_at w pb po)) (sem 𝓛 (Rest d.at pb po b o)))
      (sem 𝓛 ((mem Row).own_at (with_object d w) b o))
  unfolding part_of
  back d pb po b o e w =
      qed 𝓛 (‵ (part_at (E.row) full_share w pb po) ∷ ‵ (Rest d.at pb po b o) ∷ []) ∵
      move ! (1 ∷ []) $ fsplit ! $ move ! (2 ∷ 0 ∷ []) $ fjoin ! $
      rewrite ! 0 (λ (p : Ptr). ‵ (owns_held (E.row) p (Some w))) (sym e) refl $
      use0 𝓛 (‵ (Data.own_val (d.at, tt) (one d.at ∷ []))) (made 𝓛 d.at) $ fjoin ! $ move ! (1 ∷ 0 ∷ []) $ fjoin ! $
      fpack ! (List Val) (λ us. fsep (cell_at full_share Row.mir us b o) (Row.own_val (with_object d w) us))
      (one d.at ∷ []) $ done !

  module _ (at_mem : Memory → SProp 𝓤) (run : Routine → Fun 𝓤)
      (y : (walk_of 𝓛 F.ended stayed (F.clauses 𝓛 at_mem run)).Ghost) where
    open 𝓛 use {A}

    abbrev s : MutBor Row.Denot
    s = y.0.3.0

    abbrev Lent : MutBor (E.row).Denot → (pb po : ℕ) → Fml
    Lent r pb po = (MutRef (named 0) y.0.0.0 (E.row)).own_val r (vptr pb po ∷ [])

    abbrev Follows : GName → Fml
    Follows γ' = follows Row (E.row) s.ghost_name γ' (with_object s.now)

    exits : (pb po : ℕ) (γ' : GName) (x : (E.row).Denot) → s.now.held ≡ Some x
        → ent 𝓤 (sep 𝓤 (sem 𝓛 (Lent (record { ref_ptr = (pb, po); ghost_name = γ'; now = x }) pb po))
        (sep 𝓤 (A.lft y.0.0.0 y.0.1.0) (sem 𝓛 (Follows γ'))))
        ((walk_of 𝓛 F.ended stayed (F.clauses 𝓛 at_mem run)).post y (vptr pb po))
    exits pb po γ' x e =
        let r : MutBor (E.row).Denot = record { ref_ptr = (pb, po); ghost_name = γ'; now = x } in
        qed 𝓛 (‵ (Lent r pb po) ∷ ‵ (flft y.0.0.0 y.0.1.0) ∷ ‵ (Follows γ') ∷ []) ∵
        suffices ! _ (ends_at 𝓛 F.ended stayed (F.clauses 𝓛 at_mem run) y (vptr pb po) r (tt, tt) (tt, tt)) $
        nothing ! $ nothing ! $ fjoin ! $ join ! $ nothing ! $ move ! (2 ∷ 0 ∷ []) $ join ! $ join ! $ frame ! $
        says ! e $ done !

pub object_mut_spec : {M : Type 1} → statement M
object_mut_spec 𝓤 𝓛 𝓜 𝓡 wired =
    let H = 𝓛.H in let 𝓣 = tables 𝓤 H 𝓜 𝓡 𝓡.env in
    let c = F.clauses 𝓛 𝓜.mem 𝓡.returns in let fn = code.function in
    proved 𝓛 F.ended stayed c 𝓜 𝓡 (Goes-spent_ref 𝓛 1 (0 ∷ []) tt (plain (λ _. Row)), tt) #self fn
    (code.unfolded 𝓤 H 𝓜 𝓡 wired) (λ κs. (mut_vals, tt)) (λ κs. (mut_Tells (named 0) κs.0 Row, tt))
    (λ κs qs bounds a g are.
    let b : ℕ = a.0.ref_ptr.0 in let o : ℕ = a.0.ref_ptr.1 in let d : Row.Denot = a.0.now in
    let p : Ptr = d.at in let γ = a.0.ghost_name in let new = with_object d in let was = Row.coded.code d in
    let y : (walk_of 𝓛 F.ended stayed c).Ghost = ((κs, qs, bounds, a, (vptr b o ∷ [], tt)), g) in
    let Post : Val → SProp 𝓤 = (walk_of 𝓛 F.ended stayed c).post y in
    qed 𝓛 (((‵ (flft κs.0 qs.0) ⊛ ‵ ftrue) ⊛ ‵ (owns (types_at (F.ended).signature.params κs) a y.0.4))
    ∷ raw (fact 𝓤 (IsSome d.held)) ∷ []) ∵ move ! (1 ∷ []) $ heard ! (IsSome d.held) (λ is.
    let x : (E.row).Denot = (some_of d.held is).0 in let ek : d.held ≡ Some x = (some_of d.held is).1 in
    split ! $ split ! $ move ! (2 ∷ []) $ fsplit ! $ fsplit3 ! $ keep ! (1 ∷ 2 ∷ 4 ∷ []) $
    enter ! 𝓣.C 𝓣.Λ fn (vptr b o ∷ []) Post $ alloc_all ! (λ l. pass_all ! refl ((tt, tt), tt) $
    let En = env fn.locals l in opens ! tt Row {h = d} b o (λ vs.
    move ! (1 ∷ []) $ fsplit ! $ peeks ! Data (Is Data) (shows 𝓛 Data) (p, tt) vs (λ so.
    let ev : vs ≡ one p ∷ [] = told p vs so in drop ! $
    rewrite ! 0 (λ (k : Option (E.row).Denot). ‵ (owns_held (E.row) p k)) ek refl $
    in_a_block ! p (λ s. owns_held (E.row) s (Some x)) (id⊢ 𝓤 (never 𝓤)) (λ pb po e. fsplit ! $
    -- [the object; the right to free it; the word's cell; the open borrow; the names]
    let at_block : one p ∷ [] ≡ one (block_ptr pb po) ∷ [] = ap (λ (s : Ptr). one s ∷ []) e in
    let Kept = Rest p pb po b o in
    rewrite ! 2 (λ (ws : List Val). ‵ (cell_at full_share Row.mir ws b o)) (ev ∙ at_block) refl $ first ! $ blocks ! $
    sets ! (of_opd ! (load ! (through ! refl (fld ! refl (stop !))) (look_in ! 2 (sub ! 0 refl (whole !)))))
    refl (tt, tt) $ sets ! (of_opd ! (get ! refl)) refl (tt, tt) $
    sets_last ! (addr ! (through ! refl (stop !))) refl (tt, tt) $
    exec ! 𝓣.C 𝓣.Λ En rest (at_ret En Post) $ sets ! (of_opd ! (get ! refl)) refl (tt, tt) $
    rewrite ! 2 (λ (ws : List Val). ‵ (cell_at full_share Row.mir ws b o)) (sym at_block) refl $
    move ! (1 ∷ 2 ∷ []) $ fjoin ! $ move ! (2 ∷ 3 ∷ 4 ∷ 1 ∷ 0 ∷ []) $ group ! 5 $
    let lent = back 𝓛 d pb po b o e in
    use1 𝓛 (later (some (λ (γ' : GName).
    raw (Part 𝓛 Row (E.row) new (named 0) κs.0 qs.0 b o pb po γ (sem 𝓛 Kept) lent x γ'))))
    (lends_Part 𝓛 Row (E.row) new (named 0) κs.0 qs.0 b o pb po γ (sem 𝓛 Kept) lent was was x) $
    await ! tt $ pick ! (λ γ'. returns ! (look_at ! 0 refl) $ free_all ! refl $ keep ! (0 ∷ []) $
    by ! (exits 𝓛 𝓜.mem 𝓡.returns y pb po γ' x ek))))))))
