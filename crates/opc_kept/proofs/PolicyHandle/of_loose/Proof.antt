-- `of_loose` moves two fields, and what they own goes with them.
use Rattle.std.proofs.Common.{List, [], ◌∷◌, refl}
use mir.Val.{Val}
use base.Logic.{SProp, emp, id⊢}
use base.Fml.{ftrue, fsep}
use prog.Wp.{WpFn}
use types.Kit.{‵, raw, ◌⊛◌, ◌$◌, ◌∵◌, !, qed, keep, drop, use1, split, join, fsplit, fjoin, suffices, done}
use types.Run.{stop, fld, of_opd, no_more, and_then, returns, enter}
use types.ByLocal.{alloc_all, pass_all, free_all, look_at, get, get_in, sets}
use types.Part.{agg, sub, whole}
use contract.Running.{tables}
use denote.Exit.{yes}
use denote.Signature.{plain}
use denote.Steps.{nothing}
use denote.Triple.Walked.{says, Stays, stay_dropped, walk_of, ends_at, Goes-dropped}
use Rattle.std.specs.Prelude.{Some}
use Rattle.std.proofs.raw_atomic.Walks.{proved_at}
use Rattle.std.proofs.BoxSteps.Form.{D, B, word, box_typed}
use Rattle.std.proofs.BoxSteps.Steps.{box_out, box_in}
use Rattle.opc_kept.proofs.Values.{E, Boxed, Handle, spelled}
use Rattle.opc_kept.specs.contracts.PolicyHandle.of_loose as f
use Rattle.opc_kept.proofs.PolicyHandle.of_loose.Statement.{statement}
use Rattle.opc_kept.proofs.PolicyHandle.of_loose.Code as code

abbrev stayed : Stays (f.ended).signature.params (f.ended).kept
stayed = (stay_dropped (plain (λ _. Boxed)) yes, tt)

pub of_loose_spec : {M : Type 1} → statement M
of_loose_spec 𝓤 𝓛 𝓜 𝓡 wired =
    let H = 𝓛.H in let 𝓣 = tables 𝓤 H 𝓜 𝓡 𝓡.env in let fn = code.function in let c = f.clauses 𝓛 𝓜.mem 𝓡.returns in
    proved_at 𝓛 f.ended stayed c 𝓜 𝓡 (Goes-dropped 𝓛 0 (plain (λ _. Boxed)) yes (λ κs x w. refl), tt) f.Key.name fn (code.unfolded 𝓤 H 𝓜 𝓡 wired) (λ z are.
    let Post : Val → SProp 𝓤 = (walk_of 𝓛 f.ended stayed c).post z in let Run : List Val → SProp 𝓤 = λ ws. WpFn 𝓤 H 𝓣.C 𝓣.Λ fn ws Post in
    let v : D E = record { ptr = z.0.3.0.at; alloc = z.0.3.0.alloc; value = z.0.3.0.value } in
    let made : Handle.Denot = record { at = v.ptr; alloc = v.alloc; text = Some v.value } in
    qed 𝓛 ((‵ ftrue ⊛ ‵ (fsep ((B E).own_val v z.0.4.0) ftrue)) ∷ raw (emp 𝓤) ∷ []) ∵ split ! $ drop ! $ fsplit ! $
    box_out E ! v z.0.4.0 (λ b o h e ws fits. box_in E ! v b o v.value e refl $
    let w : Val = word E h b o in let typed = box_typed E h b o fits in
    use1 𝓛 (‵ (Handle.own_val made (w ∷ []))) (id⊢ 𝓤 _) $ keep ! (0 ∷ []) $
    suffices ! (Run (w ∷ [])) (spelled 𝓤 Run w _ ws) $
    enter ! 𝓣.C 𝓣.Λ fn (w ∷ []) Post $ alloc_all ! (λ l. pass_all ! refl (typed, tt) $
    sets ! (of_opd ! (get_in ! (fld ! refl (stop !)) (sub ! 0 refl (whole !)))) refl (tt, tt) $
    sets ! (of_opd ! (get_in ! (fld ! refl (stop !)) (sub ! 1 refl (whole !)))) refl fits $
    sets ! (of_opd ! (get ! refl)) refl (tt, tt) $ sets ! (agg ! (and_then ! (get ! refl) (and_then ! (get ! refl) (no_more !)))) refl typed $
    returns ! (look_at ! 0 refl) $ free_all ! refl $
    suffices ! _ (ends_at 𝓛 f.ended stayed c z w made (tt, tt) (tt, tt)) $ says ! refl $ nothing ! $ nothing ! $ fjoin ! $ join ! $ nothing ! $ join ! $
    done !)))
