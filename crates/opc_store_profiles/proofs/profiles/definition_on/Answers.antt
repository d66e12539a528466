use Rattle.std.proofs.Common.{◌∙◌, refl}
use Rattle.std.proofs.lemmas.Option.{slice_get_read, slice_get_past}
use Rattle.opc_store_sql.proofs.Asked.{never_writes}
use Rattle.opc_store_sql.proofs.Decoded.{first_returned, none_returned}
use Rattle.opc_policy_members.specs.Profiles.{is_of}
use Rattle.opc_state.specs.Loads.{bare}
use Rattle.opc_store_schema.specs.Represented.{profile_row}
use Rattle.opc_store_profiles.proofs.ProfileLoads.{profile_asked, profile_returned}
use Rattle.opc_store_profiles.proofs.profiles.definition_on.Goals as goal

pub read-requires-clause-quiet : goal.read-requires-clause-quiet
read-requires-clause-quiet g c = never_writes profile_asked

pub returns-in-Some-clause-found : goal.returns-in-Some-clause-found
returns-in-Some-clause-found g c clean s was =
    let class = c.args.class in
    let pattern = c.args.pattern.now in
    let shown = rw (c.params-to_sql.ensures, c.params-to_sql-2.ensures, c.text.ensures.text, c.text-2.ensures.text) at (c.in_ok-rows.ensures.shown clean) in
    let are = profile_returned _ _ s was class pattern _ shown in
    let h = c.in-Some.ensures.lookup in
    first_returned profile_row (is_of class pattern) bare s.policy.profiles c.as_slice.result.now c.in-Some.row.now
    c.in_ok-profile_in-in-Some.field-0 (c.as_slice.ensures.value ∙ are)
    (slice_get_read c.as_slice.result.now _ 0 c.in-Some.row.now refl h.3.0 h.1) c.in_ok-profile_in-in-Some.ensures.read

pub returns-clause-found : goal.returns-clause-found
returns-clause-found g c clean s was =
    let class = c.args.class in
    let pattern = c.args.pattern.now in
    let shown = rw (c.params-to_sql.ensures, c.params-to_sql-2.ensures, c.text.ensures.text, c.text-2.ensures.text) at (c.in_ok-rows.ensures.shown clean) in
    let are = profile_returned _ _ s was class pattern _ shown in
    none_returned profile_row (is_of class pattern) bare s.policy.profiles c.as_slice.result.now
    (c.as_slice.ensures.value ∙ are) (slice_get_past c.as_slice.result.now 0 c.in-None.ensures.lookup.3)
