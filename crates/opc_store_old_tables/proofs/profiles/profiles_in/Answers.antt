use Rattle.std.proofs.Common.{◌≡◌, ◌∙◌, ap, length, arith, Some}
use Rattle.std.proofs.lemmas.List.{take_all, length-map}
use Rattle.sqlite.specs.Effect.{Database}
use Rattle.sqlite.specs.Held.{state}
use Rattle.sqlite.specs.State.{HasCleanDisk}
use Rattle.sqlite.specs.declared.error.Error.{Error}
use Rattle.opc_policy_members.specs.declared.profile.Profile.{Profile}
use Rattle.opc_policy_members.specs.Profiles.{profile_of}
use Rattle.opc_state.specs.declared.change.Edit.{Edit}
use Rattle.opc_state.specs.declared.change.Edit.TheVariants as edit
use Rattle.opc_store_sql.proofs.Looking.{looks_then, looks_as, looked, looks_on}
use Rattle.opc_store_schema.specs.Represented.{definition_row}
use Rattle.opc_store_old_tables.specs.Old.{RepresentsOld}
use Rattle.opc_store_old_tables.proofs.BatchLoads.{more_of}
use Rattle.opc_store_old_tables.proofs.profiles.profiles_in.Goals as goal

pub loop-row-preserved : goal.loop-row-preserved
loop-row-preserved g c =
    let was = c.loop-row.invariant in
    let step = c.in_ok-profile_on.ensures in (
      step.mode,
      λ fresh. looks_as g.S.Store _ _ _ Error _ tt _ _ (looks_then g.S.Store _ _ Error _ tt _ _ _ _ (was.1 fresh) step.looks),
      λ clean version s begun ps all are.
          let early : HasCleanDisk (state g.S.Store c.loop-row.conn) = omega (arith, step.looks.survives.clean) in
          let so_far = was.2 early version s begun ps all are in (
            looked g.S.Store _ _ _ _ _ step.looks clean (λ (d : Database). RepresentsOld version d s) so_far.0,
            c.in_ok-push.ensures.items
                ∙ more_of (λ (x : Profile). profile_of s.policy.profiles x.class x.pattern ≡ Some x) definition_row
                (λ (x : Profile). edit.PutProfile x) ps all c.args.rows.now c.loop-row.puts.items
                c.loop-row.row-index c.row-item.result (edit.PutProfile c.in_ok-profile_on.field-0) are
                c.loop-row-test.true c.row-item.is
                (λ x here found. ap (λ (p : Profile). let e : Edit = edit.PutProfile p in e) (step.found clean version s so_far.0 x here found)) so_far.1,
          ),
    )

pub returns-in_err-push-clause-looks : goal.returns-in_err-push-clause-looks
returns-in_err-push-clause-looks g c = λ fresh.
    looks_on g.S.Store _ c.args.conn.now c.loop-row.conn c.profile_on.new.conn (c.loop-row.invariant.1 fresh)
    c.in_ok-profile_on.field-0 _ c.in_ok-profile_on.ensures.looks

pub returns-clause-found : goal.returns-clause-found
returns-clause-found g c clean version s begun ps all are =
    let long = ap length are ∙ length-map ps definition_row in
    let many = length-map ps (λ (p : Profile). let e : Edit = edit.PutProfile p in e) in
    (c.loop-row.invariant.2 clean version s begun ps all are).1 ∙ take_all c.loop-row.row-index _ (omega (arith, many, long))
