use Rattle.std.proofs.Common.{◌≡◌, ◌||◌, ◌∙◌, ℕ, List, sym, ap, ap₂, subst, arith, IfOk}
use Rattle.std.specs.List.{list_any}
use Rattle.std.specs.Str.{bytes_eq}
use Rattle.sqlite.specs.Effect.{Database}
use Rattle.sqlite.specs.Held.{state}
use Rattle.sqlite.specs.State.{HasCleanDisk}
use Rattle.opc_store_sql.proofs.Limited.{any_or}
use Rattle.opc_store_sql.proofs.Looking.{looked, looks_as, looks_then}
use Rattle.opc_policy_members.specs.declared.connect.Connect.{Connect}
use Rattle.opc_policy_members.specs.declared.policy.Policy.{Policy}
use Rattle.opc_policy_members.specs.declared.profile.Profile.{Profile}
use Rattle.opc_state.specs.Loads.{has_entry, is_named}
use Rattle.opc_store_schema.specs.Represented.{Represents}
use Rattle.opc_store_whole_policy.proofs.named.is_named_on.Goals as goal

three : (p : Policy) (id : List ℕ) → is_named p
    id ≡ (list_any (λ (c : Connect). bytes_eq c.user id) p.connects
    || (list_any (λ (q : Profile). bytes_eq q.owner id) p.profiles || list_any (has_entry id) p.profiles))
three p id = ap (λ b. list_any (λ (c : Connect). bytes_eq c.user id) p.connects || b) (any_or (λ (q : Profile). bytes_eq q.owner id) (has_entry id) p.profiles)

pub returns-then-owner-clause-found : goal.returns-then-owner-clause-found
returns-then-owner-clause-found g c clean s was =
    let early : HasCleanDisk (state g.S.Store c.has_connect_on.new.conn) = omega (arith, c.in_ok-owner.ensures.looks.survives.clean) in
    let mid = looked g.S.Store _ _ _ _ _ c.in_ok-connected.ensures.looks early (λ (d : Database). Represents d s) was in
    let connected = sym (c.in_ok-connected.ensures.found early s was) ∙ c.if-connected.false in
    let owner = sym (c.in_ok-owner.ensures.found clean s mid) ∙ c.if-owner.true in
    sym (three s.policy c.args.user.now ∙ ap₂ (λ a b. a || (b || list_any (has_entry c.args.user.now) s.policy.profiles)) connected owner)

pub returns-clause-found : goal.returns-clause-found
returns-clause-found g c clean s was =
    let late : HasCleanDisk (state g.S.Store c.has_owner_on.new.conn) = omega (arith, c.has_entry_on.ensures.looks.survives.clean) in
    let early : HasCleanDisk (state g.S.Store c.has_connect_on.new.conn) = omega (arith, late, c.in_ok-owner.ensures.looks.survives.clean) in
    let mid = looked g.S.Store _ _ _ _ _ c.in_ok-connected.ensures.looks early (λ (d : Database). Represents d s) was in
    let last = looked g.S.Store _ _ _ _ _ c.in_ok-owner.ensures.looks late (λ (d : Database). Represents d s) mid in
    let connected = sym (c.in_ok-connected.ensures.found early s was) ∙ c.if-connected.false in
    let owner = sym (c.in_ok-owner.ensures.found late s mid) ∙ c.if-owner.false in
    let same = three s.policy c.args.user.now ∙ ap₂ (λ a b. a || (b || list_any (has_entry c.args.user.now) s.policy.profiles)) connected owner in
    subst (λ b. IfOk c.has_entry_on.result (λ v. v ≡ b)) (sym same) (c.has_entry_on.ensures.found clean s last)

pub returns-then-owner-clause-looks : goal.returns-then-owner-clause-looks
returns-then-owner-clause-looks g c =
    let both = looks_then g.S.Store _ _ _ _ _ _ _ c.has_connect_on.new.conn _ c.in_ok-connected.ensures.looks c.in_ok-owner.ensures.looks in
    looks_as g.S.Store _ _ _ _ _ _ _ _ both

pub returns-clause-looks : goal.returns-clause-looks
returns-clause-looks g c =
    let both = looks_then g.S.Store _ _ _ _ _ _ _ c.has_connect_on.new.conn _ c.in_ok-connected.ensures.looks c.in_ok-owner.ensures.looks in
    looks_then g.S.Store _ _ _ _ _ _ _ c.has_owner_on.new.conn _ both c.has_entry_on.ensures.looks
