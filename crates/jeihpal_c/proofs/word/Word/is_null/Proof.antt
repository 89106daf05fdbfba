-- `is_null` compares the pointer with null, and leaves it.
use mathlib.Core.Path.{◌≡◌, refl, sym}
use mathlib.Core.List.{List, [], ◌∷◌}
use Prim.Native.Nat.{ℕ}
use mir.Syntax.{named}
use mir.Val.{Val, vbool, vptr}
use base.Fraction.{full_share}
use base.Logic.{SProp, emp, guard_i}
use base.Fml.{ftrue, flft}
use types.Logic.{sem}
use types.Kit.{‵, raw, ◌⊛◌, given, ◌$◌, ◌∵◌, !, qed, by, move, keep, split, join, fsplit, fsplit3}
use types.Kit.{fjoin, fjoin3, learn, use0, use1, rewrite, feq_i}
use types.Run.{stop, fld, load, of_opd, bin, lit, returns, enter}
use types.ByLocal.{alloc_all, pass_all, free_all, look_at, get, through, sets, is}
use types.Part.{sub, whole, look_in}
use contract.Running.{tables}
use contract.Monad.{fact, fact_i, fact_use}
use denote.Laws.{Is, shows}
use denote.Memory.{cell_at}
use denote.RattleType.{owns}
use denote.RawPtr.{Ptr, tests_null}
use denote.Ref.{mut_vals, mut_Tells}
use denote.Signature.{types_at, plain}
use denote.Steps.{nothing, peeks, opens, closes}
use denote.Triple.Walked.{Stays, stay_ref, walk_of, Goes-ref}
use Rattle.std.specs.Prelude.{Option}
use Rattle.std.specs.Option.{is_none}
use Rattle.std.proofs.raw_atomic.Walks.{proved, leaves}
use Rattle.jeihpal_c.specs.Held.{owns_held}
use Rattle.jeihpal_c.specs.contracts.word.Word.{the_row as Row}
use Rattle.jeihpal_c.proofs.AsBox.{E}
use Rattle.jeihpal_c.proofs.WordFields.{one, Data, told, typed, Tested, tested}
use Rattle.jeihpal_c.specs.contracts.word.Word.is_null as F
use Rattle.jeihpal_c.specs.contracts.word.Word.is_null.Key.{name as #self}
use Rattle.jeihpal_c.proofs.word.Word.is_null.Statement.{statement}
use Rattle.jeihpal_c.proofs.word.Word.is_null.Code as code

abbrev stayed : Stays (F.ended).signature.params (F.ended).kept
stayed = (stay_ref (0 ∷ []) tt (plain (λ _. Row)), tt)

pub is_null_spec : {M : Type 1} → statement M
is_null_spec 𝓤 𝓛 𝓜 𝓡 wired =
    let H = 𝓛.H in let 𝓣 = tables 𝓤 H 𝓜 𝓡 𝓡.env in
    let c = F.clauses 𝓛 𝓜.mem 𝓡.returns in let fn = code.function in
    proved 𝓛 F.ended stayed c 𝓜 𝓡 (Goes-ref 𝓛 1 0 tt (plain (λ _. Row)), tt) #self fn
    (code.unfolded 𝓤 H 𝓜 𝓡 wired) (λ κs. (mut_vals, tt)) (λ κs. (mut_Tells (named 0) κs.0 Row, tt))
    (λ κs qs bounds a g are.
    let b : ℕ = a.0.ref_ptr.0 in let o : ℕ = a.0.ref_ptr.1 in let d : Row.Denot = a.0.now in
    let p : Ptr = d.at in let k : Option (E.row).Denot = d.held in
    let y : (walk_of 𝓛 F.ended stayed c).Ghost = ((κs, qs, bounds, a, (vptr b o ∷ [], tt)), g) in
    let Post : Val → SProp 𝓤 = (walk_of 𝓛 F.ended stayed c).post y in
    let Says : Type 0 = (is_none k ≡ is_none k) × (d ≡ d) in
    qed 𝓛 (((‵ (flft κs.0 qs.0) ⊛ ‵ ftrue) ⊛ ‵ (owns (types_at (F.ended).signature.params κs) a y.0.4))
    ∷ raw ((c κs a).requires g) ∷ []) ∵
    keep ! (0 ∷ []) $ split ! $ split ! $ move ! (2 ∷ []) $ fsplit ! $ fsplit3 ! $
    keep ! (1 ∷ 2 ∷ 4 ∷ 5 ∷ []) $ enter ! 𝓣.C 𝓣.Λ fn (vptr b o ∷ []) Post $
    alloc_all ! (λ l. pass_all ! refl ((tt, tt), tt) $ opens ! tt Row {h = d} b o (λ vs.
    move ! (1 ∷ []) $ fsplit ! $ peeks ! Data (Is Data) (shows 𝓛 Data) (p, tt) vs (λ so.
    let ev : vs ≡ one p ∷ [] = told p vs so in let Owned = owns_held (E.row) p k in
    move ! (1 ∷ []) $ use1 𝓛 (given (Tested p k) (‵ Owned))
    (fact_use 𝓤 (Tested p k) (tested 𝓛 p k) (guard_i 𝓤 (Tested p k) (sem 𝓛 Owned))) $ learn ! (λ t.
    -- [the word's value; its cell; the open borrow; the names]
    move ! (1 ∷ 0 ∷ []) $ fjoin ! $
    rewrite ! 1 (λ (ws : List Val). ‵ (cell_at full_share Row.mir ws b o)) ev refl $
    sets ! (of_opd ! (load ! (through ! refl (fld ! refl (stop !))) (look_in ! 1 (sub ! 0 refl (whole !)))))
    refl (typed p) $
    sets ! (is ! (bin ! (get ! refl) (lit ! tt) (tests_null p t.0)) t.1) refl (tt, tt) $
    rewrite ! 1 (λ (ws : List Val). ‵ (cell_at full_share Row.mir ws b o)) (sym ev) refl $
    move ! (1 ∷ 0 ∷ []) $ closes ! tt Row d vs b o $
    feq_i ! (List Val) (vptr b o ∷ []) (vptr b o ∷ []) refl $ fjoin3 ! $ nothing ! $
    move ! (1 ∷ 0 ∷ []) $ fjoin ! $ move ! (1 ∷ 2 ∷ []) $ join ! $
    feq_i ! (List Val) (vbool (is_none k) ∷ []) (vbool (is_none k) ∷ []) refl $
    use0 𝓛 (raw (fact 𝓤 Says)) (fact_i 𝓤 Says (emp 𝓤) (refl, refl)) $
    returns ! (look_at ! 0 refl) $ free_all ! refl $ keep ! (2 ∷ 3 ∷ 1 ∷ 0 ∷ []) $
    by ! (leaves 𝓛 F.ended stayed c y (vbool (is_none k)) (is_none k) (d, tt) (tt, tt)))))))
