-- What the proofs of the handle share, which go along the code statement by statement. Assumes `Logic`.
--     E, Z, Boxed, Handle     the kept policy with its allocator, for the steps on boxes; as rows the allocator, a box as
--                             its pointer, and the handle of C
--     both, null_good         the machine value of a handle, and that it is of its type at null
--     handle_out, handle_in   a handle by value is [what it keeps; the allocator's handle]
--     either_kept             it keeps nothing and points nowhere, or it keeps a box
--     tested                  the pointer to a box may be compared with null
--     spelled                 a run at a parameter's machine values, from the run at the one that they are
use Rattle.std.proofs.Common.{◌≡◌, ℕ, List, [], ◌∷◌, ◌++◌, refl, sym, subst}
use mathlib.Core.Bool.{true, ◌&&◌}
use lib.Dec.{T}
use seplogic.Ra.Ura.{Ura}
use mir.Syntax.{impl, tnil, dnil}
use mir.Raw.{raw as bare}
use mir.Val.{Val, vnull, vstruct, vcons, vnil, of_list, has_ty, WT}
use base.Fraction.{full_share}
use base.Fml.{Fml}
use base.Logic.{SProp, ent, id⊢, guard, guard_i, via, snd∗}
use types.Logic.{Logic, sem}
use types.Kit.{Item, Goal, Seq, Step, step, ‵, ◌$◌, move, drop, fsplit, fjoin, fpick, fpack, feq_i, feq_l}
use contract.Monad.{fact_use}
use denote.RattleType.{RattleType, Valss}
use denote.Memory.{lone}
use denote.RawPtr.{Ptr, null_ptr, ptr_val, lies_at, Testable}
use denote.Steps.{nothing}
use denote.Struct.Struct.{within}
use denote.Struct.Owning.{fields, shape, to}
use Rattle.std.specs.Prelude.{Option, None, Some}
use Rattle.std.specs.Box.Ownership.{box_owns}
use Rattle.std.specs.declared.alloc.Global.{Global}
use Rattle.std.specs.contracts.alloc.Global as heap
use Rattle.std.specs.contracts.impls.GlobalAllocator.TheImpl.{ghosts, dict}
use Rattle.std.proofs.alloc.Global.TheLaws as heap_laws
use Rattle.std.proofs.alloc.Calls.{α, Fits, handle_tells}
use Rattle.std.proofs.BoxSteps.Form.{Bx}
use Rattle.std.proofs.GlobalToken.{dealloc_token-Testable}
use Rattle.std.proofs.ResultValues.{and_tt}
use Rattle.std.proofs.RcSteps.{Ptr-Good}
use Rattle.opc_embedded.specs.contracts.kept.KeptPolicyText as kept
use Rattle.opc_embedded.proofs.kept.KeptPolicyText.TheLaws as kept_laws
use Rattle.opc_kept.specs.Keeping.{keeps}
use Rattle.opc_kept.specs.contracts.loose.Loose as loose
use Rattle.opc_kept.specs.contracts.PolicyHandle as handle

abbrev pub Z : RattleType
Z = heap.the_row

abbrev pub E : Bx
E = record {
  row = kept.the_row;
  laws = kept_laws.the_row_laws;
  al = record { row = Z; laws = heap_laws.the_row_laws; g = ghosts; d = dict; drops = impl [] tnil dnil };
}

abbrev pub Boxed : RattleType
Boxed = loose.the_row kept.the_row Z ghosts

abbrev pub Handle : RattleType
Handle = handle.the_row

abbrev pub boxed : Global → Ptr → List ℕ → Fml
boxed a = box_owns (ghosts.dealloc_token a) kept.the_row

abbrev pub both : Val → Val → Val
both v w = vstruct (vcons v (vcons w vnil))

pub null_good : (h : Val) → Fits E.al h → T (has_ty (α E.al) h && true) × WT (both vnull h)
null_good h fits = (and_tt (has_ty (α E.al) h) fits.0, ((Ptr-Good null_ptr).1, (fits.1, tt)))

pub spelled : {M : Type 1} (𝓤 : Ura M) (Run : List Val → SProp 𝓤) (w : Val) (vs : List Val) → vs ≡ w ∷ [] → ent 𝓤 (Run (w ∷ [])) (Run (vs ++ []))
spelled 𝓤 Run w vs e = subst (λ (us : List Val). ent 𝓤 (Run (w ∷ [])) (Run (us ++ []))) (sym e) (id⊢ 𝓤 (Run (w ∷ [])))

pub tested : {M : Type 1} {𝓤 : Ura M} (𝓛 : Logic 𝓤) (a : Global) (p : Ptr) (x : List ℕ)
    → ent 𝓤 (sem 𝓛 (boxed a p x)) (guard 𝓤 (Testable p) (sem 𝓛 (boxed a p x)))
tested {𝓤 = 𝓤} 𝓛 a p x = let owned = sem 𝓛 (boxed a p x) in
    let τ = bare (lone kept.the_row.mir) in
    fact_use 𝓤 (Testable p) (via 𝓤 _ (snd∗ 𝓤 (sem 𝓛 (lies_at kept.the_row full_share p x)) (sem 𝓛 (ghosts.dealloc_token a τ p)))
    (dealloc_token-Testable 𝓛 a τ p)) (guard_i 𝓤 (Testable p) owned)

module _ {M : Type 1} {𝓤 : Ura M} {𝓛 : Logic 𝓤} {K : Type 0} {Γ : List (Item 𝓤)} {G : Goal 𝓤 𝓛.H} where
  pub handle_out : K → (d : Handle.Denot) (vs : List Val)
      → ((h : Val) → vs ≡ both (ptr_val d.at) h ∷ [] → Fits E.al h → Seq K 𝓛 (‵ (keeps d.alloc d.at d.text) ∷ ‵ (Z.own_val d.alloc (h ∷ [])) ∷ Γ) G)
      → Seq K 𝓛 (‵ (Handle.own_val d vs) ∷ Γ) G
  handle_out t d vs k =
      fsplit t $ fpick t (λ vss. fsplit t $ feq_l t (λ ev. fsplit t $ feq_l t (λ ep. fsplit t $ handle_tells E.al t d.alloc vss.1.0 (λ h ea fits.
      move t (1 ∷ []) $ drop t $ move t (1 ∷ []) $
      k h (subst (λ (ws : List Val). vs ≡ vstruct (of_list (ptr_val d.at ∷ (ws ++ []))) ∷ []) ea
      (subst (λ (ps : List Val). vs ≡ vstruct (of_list (ps ++ (vss.1.0 ++ []))) ∷ []) ep ev)) fits))))

  pub handle_in : K → (p : Ptr) (h : Val) (a : Global) (k : Option (List ℕ))
      → Step K 𝓛 (‵ (Handle.own_val (record { at = p; alloc = a; text = k }) (both (ptr_val p) h ∷ [])) ∷ Γ) G
      (‵ (keeps a p k) ∷ ‵ (Z.own_val a (h ∷ [])) ∷ Γ) G
  handle_in t p h a k = step (λ s. let v : Val = both (ptr_val p) h in let d : Handle.Denot = record { at = p; alloc = a; text = k } in
      nothing t $ move t (2 ∷ 0 ∷ []) $ fjoin t $ feq_i t (List Val) (ptr_val p ∷ []) (ptr_val p ∷ []) refl $ fjoin t $
      feq_i t (List Val) (v ∷ []) (v ∷ []) refl $ fjoin t $
      fpack t (Valss (fields handle.the_type)) (within (shape handle.the_type) (to handle.the_type d) (v ∷ [])) (ptr_val p ∷ [], (h ∷ [], tt)) $
      fjoin t $ s)

  pub either_kept : K → (a : Global) (p : Ptr) (k : Option (List ℕ)) → (k ≡ None → p ≡ null_ptr → Seq K 𝓛 Γ G)
      → ((x : List ℕ) → k ≡ Some x → Seq K 𝓛 (‵ (boxed a p x) ∷ Γ) G) → Seq K 𝓛 (‵ (keeps a p k) ∷ Γ) G
  either_kept t a p None none one = fpick t (λ e. drop t $ none refl e)
  either_kept t a p (Some x) none one = one x refl
