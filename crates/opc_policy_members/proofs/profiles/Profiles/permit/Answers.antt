use Rattle.std.proofs.Common.{◌≡◌, ◌∙◌, ap, sym, Some, None, is_some}
use Rattle.std.specs.Map.{values_of}
use Rattle.std.specs.Option.{option_copied_mut}
use Rattle.std.proofs.lemmas.Map.Steps.{set_value_same}
use Rattle.std.proofs.lemmas.Result.{err_from_is_err_and}
use Rattle.opc_policy_members.proofs.ProfilesByKey.{lookup-profile, permitted, values-permitted, AreByKey-permitted, without_profile}
use Rattle.opc_policy_members.specs.Profiles.{profile_of, with_permission}
use Rattle.opc_policy_members.proofs.profiles.Profiles.permit.Goals as goal

pub returns-in_default-clause-ok : goal.returns-in_default-clause-ok
returns-in_default-clause-ok c =
    let entries = c.self.inside.by_key.entries in
    let value = rw c.sort_key-key.ensures.key at c.get_mut.ensures.value in
    let found : profile_of (values_of entries) c.args.class c.args.pattern.now ≡ None =
    sym (lookup-profile c.args.class c.args.pattern.now entries c.sort_key-key.ensures.valid c.self.invariant)
    ∙ sym value ∙ ap option_copied_mut c.in_default.is in
    ap (λ m. values_of m.entries) c.get_mut.follows.holds-at-none
    ∙ without_profile c.args.class c.args.pattern.now c.args.entry (values_of entries) found
    ∙ ap (with_permission c.args.class c.args.pattern.now c.args.entry) c.self.view_is

pub returns-in_default-clause-found : goal.returns-in_default-clause-found
returns-in_default-clause-found c =
    let entries = c.self.inside.by_key.entries in
    let value = rw c.sort_key-key.ensures.key at c.get_mut.ensures.value in
    let found : profile_of (values_of entries) c.args.class c.args.pattern.now ≡ None =
    sym (lookup-profile c.args.class c.args.pattern.now entries c.sort_key-key.ensures.valid c.self.invariant)
    ∙ sym value ∙ ap option_copied_mut c.in_default.is in
    sym (ap is_some found) ∙ ap (λ profiles. is_some (profile_of profiles c.args.class c.args.pattern.now)) c.self.view_is

pub invariant_of-self-2 : goal.invariant_of-self-2
invariant_of-self-2 c =
    let entries = c.self.inside.by_key.entries in
    let valid = c.sort_key-key.ensures.valid in
    let stored = c.in-Some.stored.now in
    let value = rw c.sort_key-key.ensures.key at c.get_mut.ensures.value in
    let found : profile_of (values_of entries) c.args.class c.args.pattern.now ≡ Some stored =
    sym (lookup-profile c.args.class c.args.pattern.now entries valid c.self.invariant) ∙ sym value
    ∙ ap option_copied_mut c.in-Some.is in
    rw ((c.get_mut.follows.holds (permitted stored c.set.new.self)).0, c.sort_key-key.ensures.key)
    (AreByKey-permitted c.args.class c.args.pattern.now c.set.new.self stored entries valid c.get_mut.ensures.ordered c.self.invariant found)

pub invariant_of-self-in_err-set : goal.invariant_of-self-in_err-set
invariant_of-self-in_err-set c =
    let entries = c.self.inside.by_key.entries in
    let valid = c.sort_key-key.ensures.valid in
    let stored = c.in-Some.stored.now in
    let value = rw c.sort_key-key.ensures.key at c.get_mut.ensures.value in
    let found : profile_of (values_of entries) c.args.class c.args.pattern.now ≡ Some stored =
    sym (lookup-profile c.args.class c.args.pattern.now entries valid c.self.invariant) ∙ sym value
    ∙ ap option_copied_mut c.in-Some.is in
    rw ((c.get_mut.follows.holds (permitted stored c.set.new.self)).0, c.sort_key-key.ensures.key)
    (AreByKey-permitted c.args.class c.args.pattern.now c.set.new.self stored entries valid c.get_mut.ensures.ordered c.self.invariant found)

pub returns-clause-ok : goal.returns-clause-ok
returns-clause-ok c =
    let entries = c.self.inside.by_key.entries in
    let valid = c.sort_key-key.ensures.valid in
    let stored = c.in-Some.stored.now in
    let value = rw c.sort_key-key.ensures.key at c.get_mut.ensures.value in
    let found : profile_of (values_of entries) c.args.class c.args.pattern.now ≡ Some stored =
    sym (lookup-profile c.args.class c.args.pattern.now entries valid c.self.invariant) ∙ sym value
    ∙ ap option_copied_mut c.in-Some.is in
    rw ((c.get_mut.follows.holds (permitted stored c.set.new.self)).0, c.sort_key-key.ensures.key, c.in_ok-set.ensures.ok)
    (values-permitted c.args.class c.args.pattern.now c.args.entry stored entries valid c.get_mut.ensures.ordered c.self.invariant found)
    ∙ ap (with_permission c.args.class c.args.pattern.now c.args.entry) c.self.view_is

pub returns-clause-found : goal.returns-clause-found
returns-clause-found c =
    let entries = c.self.inside.by_key.entries in
    let valid = c.sort_key-key.ensures.valid in
    let stored = c.in-Some.stored.now in
    let value = rw c.sort_key-key.ensures.key at c.get_mut.ensures.value in
    let found : profile_of (values_of entries) c.args.class c.args.pattern.now ≡ Some stored =
    sym (lookup-profile c.args.class c.args.pattern.now entries valid c.self.invariant) ∙ sym value
    ∙ ap option_copied_mut c.in-Some.is in
    sym (ap is_some found) ∙ ap (λ profiles. is_some (profile_of profiles c.args.class c.args.pattern.now)) c.self.view_is

pub returns-in_err-set-clause-there : goal.returns-in_err-set-clause-there
returns-in_err-set-clause-there c =
    let entries = c.self.inside.by_key.entries in
    let valid = c.sort_key-key.ensures.valid in
    let stored = c.in-Some.stored.now in
    let value = rw c.sort_key-key.ensures.key at c.get_mut.ensures.value in
    let found : profile_of (values_of entries) c.args.class c.args.pattern.now ≡ Some stored =
    sym (lookup-profile c.args.class c.args.pattern.now entries valid c.self.invariant) ∙ sym value
    ∙ ap option_copied_mut c.in-Some.is in
    let err = err_from_is_err_and c.from_residual.result c.from_residual.ensures.1 in
    rw err.1 (sym (ap (λ profiles. is_some (profile_of profiles c.args.class c.args.pattern.now)) c.self.view_is) ∙ ap is_some found)

pub returns-in_err-set-clause-err : goal.returns-in_err-set-clause-err
returns-in_err-set-clause-err c =
    let entries = c.self.inside.by_key.entries in
    let stored = c.in-Some.stored.now in
    let found = sym c.get_mut.ensures.value ∙ ap option_copied_mut c.in-Some.is in
    let err = err_from_is_err_and c.from_residual.result c.from_residual.ensures.1 in
    rw err.1
    (rw ((c.get_mut.follows.holds (permitted stored c.set.new.self)).0, c.in_err-set.ensures.err) (ap values_of (set_value_same _ entries stored found))
    ∙ c.self.view_is)
