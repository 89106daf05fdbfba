-- The pointer of a word, and what the word owns.
use mathlib.Core.Path.{◌≡◌, refl, ap, subst, ◌∙◌}
use mathlib.Core.Bool.{Bool, true, false}
use mathlib.Core.List.{List, [], ◌∷◌, ◌++◌}
use lib.Dec.{T, lit<}
use seplogic.Ra.Ura.{Ura}
use mir.Raw.{raw as bare}
use mir.Syntax.{ty_ptr, ptr_eq}
use mir.Val.{Val, vstruct, vcons, vnil, of_list, vbool, vnull, op2_val, has_ty, WT}
use base.Fraction.{full_share}
use base.Logic.{SProp, ent, emp, via, snd∗, never_e}
use contract.Monad.{fact, fact_i, fact_mono}
use types.Logic.{Logic, sem}
use denote.Laws.{Is}
use denote.Memory.{lone}
use denote.RattleType.{RattleType}
use denote.RawPtr.{Ptr, block_ptr, null_ptr, ptr_val, lies_at, Testable}
use denote.Shadow.{makes_shadow}
use denote.Struct.Struct.{Struct}
use denote.Struct.Owning.{shape}
use Rattle.std.specs.Prelude.{Option, Some, None}
use Rattle.std.specs.Option.{is_none, IsSome}
use Rattle.std.proofs.GlobalToken.{dealloc_token-Testable}
use Rattle.jeihpal_c.specs.Held.{owns_held, may_free}
use Rattle.jeihpal_c.specs.contracts.word.Word.{the_type}
use Rattle.jeihpal_c.proofs.AsBox.{E}

-- the machine value of a word with this pointer
abbrev pub one : Ptr → Val
one p = vstruct (vcons (ptr_val p) vnil)

abbrev pub Data : RattleType
Data = Struct (shape the_type)

pub told : (p : Ptr) (vs : List Val) → Is Data (p, tt) vs → vs ≡ one p ∷ []
told p vs is = is.1.0 ∙ ap (λ (ws : List Val). vstruct (of_list (ws ++ [])) ∷ []) is.1.1.0

pub made : {M : Type 1} {𝓤 : Ura M} (𝓛 : Logic 𝓤) (p : Ptr)
    → ent 𝓤 (emp 𝓤) (sem 𝓛 (Data.own_val (p, tt) (one p ∷ [])))
made 𝓛 p =
    makes_shadow 𝓛 (Data.own_val (p, tt) (one p ∷ [])) (λ vss. (tt, (tt, tt)))
    ((ptr_val p ∷ [], tt), (refl, (refl, tt)))

pub typed : (p : Ptr) → T (has_ty ty_ptr (ptr_val p)) × WT (ptr_val p)
typed (block_ptr b o) = (tt, tt)
typed null_ptr = (tt, record { fits = lit< tt })

-- the pointer may be compared with null, and is null where the word holds nothing
abbrev pub Tested : Ptr → Option (E.row).Denot → Type 0
Tested p k = Testable p × (op2_val ptr_eq (ptr_val p) vnull ≡ vbool (is_none k))

pub tested : {M : Type 1} {𝓤 : Ura M} (𝓛 : Logic 𝓤) (p : Ptr) (k : Option (E.row).Denot)
    → ent 𝓤 (sem 𝓛 (owns_held (E.row) p k)) (fact 𝓤 (Tested p k))
tested {𝓤 = 𝓤} 𝓛 null_ptr None = fact_i 𝓤 (Tested null_ptr None) _ (lit< tt, refl)
tested {𝓤 = 𝓤} 𝓛 null_ptr (Some x) = never_e 𝓤 _
tested {𝓤 = 𝓤} 𝓛 (block_ptr b o) None = never_e 𝓤 _
tested {𝓤 = 𝓤} 𝓛 (block_ptr b o) (Some x) =
    let p : Ptr = block_ptr b o in
    let frees : SProp 𝓤 = sem 𝓛 (may_free (bare (lone (E.row).mir)) p) in
    via 𝓤 (fact 𝓤 (Testable p))
    (via 𝓤 frees (snd∗ 𝓤 (sem 𝓛 (lies_at (E.row) full_share p x)) frees)
    (dealloc_token-Testable 𝓛 _ (bare (lone (E.row).mir)) p))
    (fact_mono 𝓤 (Testable p) (Tested p (Some x)) (λ t. (t, refl)))

abbrev Off : Bool → Type 0
Off true = ⊥
Off false = Unit {0}

pub some_of : (k : Option (E.row).Denot) → IsSome k → (x : (E.row).Denot) × (k ≡ Some x)
some_of None e = absurd (subst Off e tt)
some_of (Some x) e = (x, refl)
