use Rattle.std.proofs.Common.{◌∙◌, ap, length, arith}
use Rattle.std.proofs.lemmas.List.{take_all, length-map}
use Rattle.opc_store_schema.specs.Represented.{profile_row}
use Rattle.opc_store_profiles.specs.Lists.{HasList}
use Rattle.opc_store_profiles.proofs.ProfileLoads.{one_more_profile}
use Rattle.opc_store_profiles.proofs.lists.whole_in.Goals as goal

pub loop-row-preserved : goal.loop-row-preserved
loop-row-preserved c profiles have are =
    c.in_ok-push.ensures.items
    ∙ one_more_profile (HasList c.args.entries.now) profiles have.1 c.args.rows.now c.loop-row.profiles.items
    c.loop-row.row-index c.row-item.result c.in_ok-whole_of.field-0 are c.loop-row-test.true c.row-item.is
    (λ x here has. c.in_ok-whole_of.ensures x here have.0 has) (c.loop-row.invariant profiles have are)

pub returns : goal.returns
returns c profiles have are =
    let long = ap length are ∙ length-map profiles profile_row in
    c.loop-row.invariant profiles have are ∙ take_all c.loop-row.row-index profiles (omega arith)
