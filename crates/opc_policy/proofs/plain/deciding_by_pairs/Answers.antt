use Rattle.std.proofs.Common.{◌≡◌, true, false, refl, sym, ◌∙◌, append-nil, arith}
use Rattle.std.proofs.lemmas.Bool.{false≢true}
use Rattle.std.proofs.lemmas.List.{take_all}
use Rattle.std.proofs.lemmas.List.Elements.{filter_more}
use Rattle.opc_names.specs.Authority.{same_class}
use Rattle.opc_policy_members.specs.declared.profile.Profile.{Profile}
use Rattle.opc_policy.proofs.MostSpecific.{one_is_deciding}
use Rattle.opc_policy.proofs.OneMore.{decided_without}
use Rattle.opc_policy.proofs.plain.deciding_by_pairs.Goals as goal
use Rattle.opc_policy.proofs.plain.deciding_by_pairs.Goals.{
  then-is_of+then-covers,
  else-is_of,
  else-is_of-via-then-is_of+else-covers,
  else-is_of-via-else-is_of,
}

pub loop-profile-preserved : goal.loop-profile-preserved
loop-profile-preserved c =
    let more = rw (← c.profile-item.is) at
    (filter_more (λ (p : Profile). same_class p.class c.args.class) c.args.profiles.now c.loop-profile.profile-index
    c.profile-item.result c.loop-profile-test.true) in
    elim c.if-is_of.branch [
      | then-is_of+then-covers w ↦
          (let here : same_class c.profile-item.result.class c.args.class ≡ true = sym c.is_of.ensures ∙ w.if-is_of.true in
          let added = rw here at more in
          rw (added, w.best-is) (w.more_specific-best.ensures _ c.args.resource.now (w.if-covers.ensures.0 refl) c.loop-profile.invariant))
      | else-is_of w ↦
          elim w.else-is_of.branch [
            | else-is_of-via-then-is_of+else-covers v ↦
                (let here : same_class c.profile-item.result.class c.args.class ≡ true = sym c.is_of.ensures ∙ v.if-is_of.true in
                let added = rw here at more in
                rw (added, w.best-is) (decided_without _ c.args.resource.now c.profile-item.result _
                (λ k. false≢true (v.if-covers.ensures.1 k)) c.loop-profile.invariant))
            | else-is_of-via-else-is_of v ↦
                (let here : same_class c.profile-item.result.class c.args.class ≡ false = sym c.is_of.ensures ∙ v.if-is_of.false in
                let added = rw here at more in
                rw (added, append-nil, w.best-is) c.loop-profile.invariant)
          ]
    ]

pub returns : goal.returns
returns c =
    let all = rw (take_all c.loop-profile.profile-index c.args.profiles.now (omega arith)) at c.loop-profile.invariant in
    one_is_deciding c.args.profiles.now c.args.class c.args.resource.now _ c.requires all
