-- Two parts of what a `&mut` points at leave a function, and the whole's last value follows theirs.
use base.Fml.{GName, Lft, Share, fbor, flft, fobs}
use base.Fraction.{full_share}
use base.Logic.{SProp, ent, ex, sep}
use denote.Follow.{both_by, follows_both}
use denote.Memory.{mem, part_at}
use denote.RattleType.{RattleType}
use denote.Ref.{MutBor, MutRef}
use mathlib.Core.List.{List, [], ◌∷◌}
use mathlib.Core.Path.{refl}
use mir.Syntax.{Lifetime}
use mir.Val.{Val, vptr}
use Prim.Native.Nat.{ℕ}
use seplogic.Ra.Ura.{Ura}
use types.Follow.{after₂, takes_two}
use types.Kit.{‵, ◌⊛◌, raw, some, later, ◌$◌, ◌∵◌, !, qed, move, split, split3, fjoin3, use1, await, pick, done}
use types.Kit.{updating, group, now, show, feq_i}
use types.Logic.{Logic, sem}
use types.Mut.{open_ref}
use types.SemTy.{Body}

module _ {M : Type 1} {𝓤 : Ura M} (𝓛 : Logic 𝓤) (R T U : RattleType) (F : T.Denot → U.Denot → R.Denot)
    (ℓ : Lifetime) (κ : Lft) (q : Share) (b o o₁ o₂ : ℕ) (γ : GName) (x : R.Denot) (y : T.Denot) (z : U.Denot)
    (Rest : SProp 𝓤)
    (cut : ent 𝓤 (sem 𝓛 (part_at R full_share x b o))
    (sep 𝓤 (sem 𝓛 (part_at T full_share y b o₁)) (sep 𝓤 (sem 𝓛 (part_at U full_share z b o₂)) Rest)))
    (back : (w : T.Denot) (v : U.Denot) → ent 𝓤 (sep 𝓤 (sem 𝓛 (part_at T full_share w b o₁))
    (sep 𝓤 (sem 𝓛 (part_at U full_share v b o₂)) Rest)) (sem 𝓛 (part_at R full_share (F w v) b o))) where
  open 𝓛 use {H, A}

  abbrev first : GName × GName → MutBor T.Denot
  first γs = record { ref_ptr = (b, o₁); ghost_name = γs.0; now = y }

  abbrev second : GName × GName → MutBor U.Denot
  second γs = record { ref_ptr = (b, o₂); ghost_name = γs.1; now = z }

  abbrev Lent : GName × GName → SProp 𝓤
  Lent γs = sep 𝓤 (sem 𝓛 ((MutRef ℓ κ T).own_val (first γs) (vptr b o₁ ∷ [])))
      (sep 𝓤 (sem 𝓛 ((MutRef ℓ κ U).own_val (second γs) (vptr b o₂ ∷ [])))
      (sep 𝓤 (A.lft κ q) (sem 𝓛 (follows_both R T U γ γs.0 γs.1 F))))

  pub lends : ent 𝓤 (sep 𝓤 (A.obs γ (R.coded.code x)) (sep 𝓤 (A.bor κ (Body (mem R) b o γ)) (A.lft κ q)))
      (H.⇛ (ex 𝓤 Lent))
  unfolding both_by
  lends =
      qed 𝓛 (‵ (fobs γ (R.coded.code x)) ∷ ‵ (fbor κ (Body (mem R) b o γ)) ∷ ‵ (flft κ q) ∷ []) ∵ updating ! $
      open_ref ! tt (mem R) {b = b} {o = o} $
      use1 𝓛 (‵ (part_at T full_share y b o₁) ⊛ ‵ (part_at U full_share z b o₂) ⊛ raw Rest) cut $ split3 ! $
      move ! (3 ∷ 4 ∷ 5 ∷ []) $ group ! 6 $
      use1 𝓛 (later (some (λ (γs : GName × GName).
      (‵ (fobs γs.0 (T.coded.code y)) ⊛ ‵ (fbor κ (Body (mem T) b o₁ γs.0)))
      ⊛ (‵ (fobs γs.1 (U.coded.code z)) ⊛ ‵ (fbor κ (Body (mem U) b o₂ γs.1)))
      ⊛ ‵ (flft κ q) ⊛ ‵ (after₂ (mem R) (mem T) (mem U) γ γs.0 γs.1 F))))
      (takes_two 𝓛 (mem R) (mem T) (mem U) F κ q b o b o₁ b o₂ γ Rest back (R.coded.code x) (R.coded.code x) y z) $
      await ! tt $ pick ! (λ γs. split3 ! $ split ! $
      feq_i ! (List Val) (vptr b o₁ ∷ []) (vptr b o₁ ∷ []) refl $ fjoin3 ! $ move ! (1 ∷ []) $ split ! $
      feq_i ! (List Val) (vptr b o₂ ∷ []) (vptr b o₂ ∷ []) refl $ fjoin3 ! $ move ! (1 ∷ 0 ∷ []) $
      now ! $ show ! Lent γs $ done !)
