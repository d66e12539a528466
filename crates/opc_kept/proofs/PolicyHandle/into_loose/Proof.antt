-- `into_loose` tests the pointer: at null nothing is kept, and else the two fields move, with what they own.
use Rattle.std.proofs.Common.{◌≡◌, List, [], ◌∷◌, refl, sym, ap, ◌∙◌, subst, lit<}
use mir.Raw.{raw as bare}
use mir.Val.{Val, vnull, vcons, vnil}
use base.Logic.{SProp, emp, id⊢, never, fst∗}
use base.Fml.{ftrue, fsep}
use prog.Wp.{WpFn}
use types.Logic.{sem}
use types.Kit.{‵, raw, ◌⊛◌, given, at_ret, ◌$◌, ◌∵◌, !, qed, keep, drop, use0, use1, split, join, fsplit, fjoin, learn, suffices, done}
use types.Run.{stop, fld, lit, of_opd, bin, no_more, and_then, first, branches, exec, returns, enter}
use types.ByLocal.{alloc_all, pass_all, free_all, look_at, get, get_in, sets, sets_last, env}
use types.Part.{agg, sub, whole}
use types.Match.{live}
use contract.Running.{tables}
use denote.Exit.{yes}
use denote.RattleType.{RattleType}
use denote.Signature.{type_at, plain}
use denote.RawPtr.{Ptr, block_ptr, null_ptr, ptr_val, in_a_block, Testable, tests_null}
use denote.Steps.{nothing}
use denote.Triple.Walked.{says, Stays, stay_dropped, walk_of, ends_at, Goes-dropped}
use Rattle.std.specs.Prelude.{None, Some}
use Rattle.std.specs.Box.Ownership.{box_owns}
use Rattle.std.proofs.alloc.Calls.{token}
use Rattle.std.proofs.alloc.Shapes.{after}
use Rattle.std.proofs.option.Made
use Rattle.std.proofs.raw_atomic.Walks.{proved_at}
use Rattle.std.proofs.RcSteps.{Ptr-Good, some_Good}
use Rattle.std.proofs.BoxSteps.Form.{D, R, τ, word, box_ty, box_typed}
use Rattle.std.proofs.BoxSteps.Steps.{box_in}
use Rattle.opc_kept.proofs.Values.{E, Boxed, Handle, boxed, both, null_good, tested, handle_out, either_kept, spelled}
use Rattle.opc_kept.specs.contracts.PolicyHandle.into_loose as f
use Rattle.opc_kept.proofs.PolicyHandle.into_loose.Statement.{statement}
use Rattle.opc_kept.proofs.PolicyHandle.into_loose.Code as code

abbrev stayed : Stays (f.ended).signature.params (f.ended).kept
stayed = (stay_dropped (plain (λ _. Handle)) yes, tt)

pub into_loose_spec : {M : Type 1} → statement M
into_loose_spec 𝓤 𝓛 𝓜 𝓡 wired =
    let H = 𝓛.H in let 𝓣 = tables 𝓤 H 𝓜 𝓡 𝓡.env in let fn = code.function in let c = f.clauses 𝓛 𝓜.mem 𝓡.returns in
    proved_at 𝓛 f.ended stayed c 𝓜 𝓡 (Goes-dropped 𝓛 0 (plain (λ _. Handle)) yes (λ κs x w. refl), tt) f.Key.name fn (code.unfolded 𝓤 H 𝓜 𝓡 wired) (λ z are.
    let Post : Val → SProp 𝓤 = (walk_of 𝓛 f.ended stayed c).post z in let Run : List Val → SProp 𝓤 = λ ws. WpFn 𝓤 H 𝓣.C 𝓣.Λ fn ws Post in
    let Out : RattleType = type_at (f.signature).result z.0.0 in let d = z.0.3.0 in let a = d.alloc in
    qed 𝓛 ((‵ ftrue ⊛ ‵ (fsep (Handle.own_val d z.0.4.0) ftrue)) ∷ raw (emp 𝓤) ∷ []) ∵ split ! $ drop ! $ fsplit ! $ handle_out ! d z.0.4.0 (λ h ws fits.
    either_kept ! a d.at d.text
    (λ is at. let w : Val = both vnull h in let ew : z.0.4.0 ≡ w ∷ [] = ws ∙ ap (λ (p : Ptr). both (ptr_val p) h ∷ []) at in let nowhere = Ptr-Good null_ptr in
    suffices ! (Run (w ∷ [])) (spelled 𝓤 Run w _ ew) $
    enter ! 𝓣.C 𝓣.Λ fn (w ∷ []) Post $ alloc_all ! (λ l. pass_all ! refl (null_good h fits, tt) $ let Ev = env fn.locals l in
    sets ! (of_opd ! (get_in ! (fld ! refl (stop !)) (sub ! 0 refl (whole !)))) refl nowhere $
    sets ! (of_opd ! (get_in ! (fld ! refl (stop !)) (sub ! 1 refl (whole !)))) refl fits $
    sets ! (bin ! (get ! refl) (lit ! tt) tt) refl (tt, tt) $ first ! $ branches ! (get ! refl)
    (λ _. sets_last ! (agg ! (and_then ! (lit ! tt) (no_more !))) refl (tt, (record { fits = lit< tt }, tt)) $
    exec ! 𝓣.C 𝓣.Λ Ev (after 4 fn.body) (at_ret Ev Post) $
    sets ! (of_opd ! (get ! refl)) refl (tt, (record { fits = lit< tt }, tt)) $
    returns ! (look_at ! 0 refl) $ free_all ! refl $ keep ! [] $ use0 𝓛 (‵ (Out.own_val None (live 0 vnil ∷ []))) (Made.none_of 𝓛 Boxed) $
    suffices ! _ (ends_at 𝓛 f.ended stayed c z (live 0 vnil) None (tt, tt) (tt, tt)) $ says ! (sym is) $ nothing ! $ nothing ! $ fjoin ! $ join ! $
    nothing ! $ join ! $ done !)
    (λ wrong. absurd wrong)))
    (λ x is. use1 𝓛 (given (Testable d.at) (‵ (boxed a d.at x))) (tested 𝓛 a d.at x) $ learn ! (λ t.
    in_a_block ! d.at (λ p. box_owns (token E.al a) (R E) p x) (fst∗ 𝓤 (never 𝓤) (sem 𝓛 (token E.al a (bare (τ E)) null_ptr))) (λ b o at.
    let w : Val = word E h b o in let typed = box_typed E h b o fits in let ew : z.0.4.0 ≡ w ∷ [] = ws ∙ ap (λ (p : Ptr). both (ptr_val p) h ∷ []) at in
    let v : D E = record { ptr = block_ptr b o; alloc = a; value = x } in let made : Boxed.Denot = record { at = block_ptr b o; alloc = a; value = x } in
    let out : Val = live 1 (vcons w vnil) in let good = some_Good (box_ty E) w typed in
    fsplit ! $ box_in E ! v b o x refl refl $ use1 𝓛 (‵ (Boxed.own_val made (w ∷ []))) (id⊢ 𝓤 _) $ keep ! (0 ∷ []) $
    suffices ! (Run (w ∷ [])) (spelled 𝓤 Run w _ ew) $
    enter ! 𝓣.C 𝓣.Λ fn (w ∷ []) Post $ alloc_all ! (λ l. pass_all ! refl (typed, tt) $ let Ev = env fn.locals l in
    sets ! (of_opd ! (get_in ! (fld ! refl (stop !)) (sub ! 0 refl (whole !)))) refl (tt, tt) $
    sets ! (of_opd ! (get_in ! (fld ! refl (stop !)) (sub ! 1 refl (whole !)))) refl fits $
    sets ! (bin ! (get ! refl) (lit ! tt) (tests_null (block_ptr b o) (subst Testable at t))) refl (tt, tt) $ first ! $ branches ! (get ! refl)
    (λ wrong. absurd wrong)
    (λ _. sets ! (of_opd ! (get ! refl)) refl (tt, tt) $ sets ! (agg ! (and_then ! (get ! refl) (and_then ! (get ! refl) (no_more !)))) refl typed $
    sets_last ! (agg ! (and_then ! (lit ! tt) (and_then ! (get ! refl) (no_more !)))) refl good $ exec ! 𝓣.C 𝓣.Λ Ev (after 4 fn.body) (at_ret Ev Post) $
    sets ! (of_opd ! (get ! refl)) refl good $
    returns ! (look_at ! 0 refl) $ free_all ! refl $ use1 𝓛 (‵ (Out.own_val (Some made) (out ∷ []))) (Made.Some-of 𝓛 Boxed made w) $
    suffices ! _ (ends_at 𝓛 f.ended stayed c z out (Some made) (tt, tt) (tt, tt)) $ says ! (sym is) $ nothing ! $ nothing ! $ fjoin ! $ join ! $
    nothing ! $ join ! $ done !)))))))
