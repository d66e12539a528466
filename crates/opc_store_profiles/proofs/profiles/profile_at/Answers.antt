use Rattle.std.proofs.Common.{◌∙◌, ap, refl, sym, Some, arith}
use Rattle.std.proofs.lemmas.Option.{slice_get_read, slice_get_past}
use Rattle.sqlite.specs.Effect.{Database}
use Rattle.sqlite.specs.Held.{state}
use Rattle.sqlite.specs.State.{HasCleanDisk}
use Rattle.opc_store_sql.proofs.Asked.{never_writes}
use Rattle.opc_store_sql.proofs.Decoded.{first_is, none_found}
use Rattle.opc_store_sql.proofs.Looking.{looked, looks_as, looks_then}
use Rattle.opc_policy_members.specs.Profiles.{is_of}
use Rattle.opc_store_schema.specs.Represented.{Represents, profile_row}
use Rattle.opc_store_profiles.proofs.ProfileLoads.{profile_asked, profile_returned, own_key}
use Rattle.opc_store_profiles.proofs.profiles.profile_at.Goals as goal

pub read-requires-clause-quiet : goal.read-requires-clause-quiet
read-requires-clause-quiet g c = never_writes profile_asked

pub returns-in-Some-clause-found : goal.returns-in-Some-clause-found
returns-in-Some-clause-found g c clean s was =
    let class = c.args.class in
    let pattern = c.args.pattern.now in
    let first = c.in_ok-rows.ensures.looks in
    let step = c.in_ok-profile_on-in-Some.ensures in
    let early : HasCleanDisk (state g.S.Store c.read.new.conn) = omega (arith, step.looks.survives.clean) in
    let mid = looked g.S.Store _ _ _ _ _ first early (λ (d : Database). Represents d s) was in
    let shown = rw (c.params-to_sql.ensures, c.params-to_sql-2.ensures, c.text.ensures.text, c.text-2.ensures.text) at (c.in_ok-rows.ensures.shown early) in
    let are = profile_returned _ _ s was class pattern _ shown in
    let it = first_is profile_row (is_of class pattern) s.policy.profiles c.as_slice.result.now c.in-Some.row.now
    (c.as_slice.ensures.value ∙ are)
    (let h = c.in-Some.ensures.lookup in slice_get_read c.as_slice.result.now _ 0 c.in-Some.row.now refl h.3.0 h.1)
    in
    ap (λ p. Some p) (step.found clean s mid it.0 it.1 (own_key s was.ordered class pattern it.0 (sym it.2))) ∙ it.2

pub returns-clause-found : goal.returns-clause-found
returns-clause-found g c clean s was =
    let class = c.args.class in
    let pattern = c.args.pattern.now in
    let shown = rw (c.params-to_sql.ensures, c.params-to_sql-2.ensures, c.text.ensures.text, c.text-2.ensures.text) at (c.in_ok-rows.ensures.shown clean) in
    let are = profile_returned _ _ s was class pattern _ shown in
    none_found profile_row (λ p. p) (is_of class pattern) s.policy.profiles c.as_slice.result.now
    (c.as_slice.ensures.value ∙ are) (slice_get_past c.as_slice.result.now 0 c.in-None.ensures.lookup.3)

pub returns-in-Some-clause-looks : goal.returns-in-Some-clause-looks
returns-in-Some-clause-looks g c =
    let both = looks_then g.S.Store _ _ _ _ _ _ _ c.read.new.conn _ c.in_ok-rows.ensures.looks c.in_ok-profile_on-in-Some.ensures.looks in
    looks_as g.S.Store _ _ _ _ _ _ _ _ both
