use Rattle.std.proofs.Common.{subst}
use Rattle.std.specs.List.{AllByRecursion}
use Rattle.std.proofs.lemmas.Result.{IfOk-weaker}
use Rattle.opc_store_sql.proofs.Asked.{never_writes}
use Rattle.opc_store_schema.proofs.Kept.{looks_for}
use Rattle.opc_store_profiles.specs.Keys.{IsKeyed}
use Rattle.opc_store_profiles.proofs.ProfileLoads.{every_asked}
use Rattle.opc_store_profiles.proofs.SeenKeys.{all_keyed}
use Rattle.opc_store_profiles.proofs.profiles.see_profiles_on.Goals as goal

pub read-requires-clause-quiet : goal.read-requires-clause-quiet
read-requires-clause-quiet g c = never_writes every_asked

pub returns-clause-looks : goal.returns-clause-looks
returns-clause-looks g c = looks_for g.S.Store _ c.see_each.result _ _ c.in_ok-rows.ensures.looks

pub returns-clause-seen : goal.returns-clause-seen
returns-clause-seen g c clean =
    let shown = c.in_ok-rows.ensures.shown clean in
    IfOk-weaker c.see_each.result _ _
    (λ _ all contents made. all_keyed _ _ contents made _ shown (subst (AllByRecursion IsKeyed) c.as_slice.ensures.value all))
    c.see_each.ensures
