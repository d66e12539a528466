-- What is read of a state and put into its emptied tables makes that state again.
use Rattle.std.proofs.Common.{◌≡◌, ℕ, List, [], ◌∷◌, true, false, Bool, cond, None, Some, refl, ap, ◌∙◌, is_eq}
use Rattle.std.specs.List.{AllByRecursion}
use Rattle.std.proofs.lemmas.List.Sorted.{IsPermutation-refl}
use Rattle.std.specs.BTreeSet.{replace_key}
use Rattle.sqlite_keyed.proofs.SortLemmas.{HasNoTies}
use Rattle.opc_policy_members.specs.declared.connect.Connect.{Connect}
use Rattle.opc_policy_members.specs.declared.profile.Profile.{Profile}
use Rattle.opc_policy_members.specs.declared.user.User.{User}
use Rattle.opc_policy_members.specs.Members.{user_cmp, connect_cmp}
use Rattle.opc_policy_members.specs.Profiles.{profile_cmp, profile_of, is_of, with_definition}
use Rattle.opc_state.specs.declared.change.Batch.{Batch}
use Rattle.opc_state.specs.declared.change.Edit.{Edit}
use Rattle.opc_state.specs.Changes.{all_edited, with_users, with_connects, with_profiles, with_batches}
use Rattle.opc_state.specs.Members.{batch_cmp}
use Rattle.opc_state.specs.State.{State}
use Rattle.opc_store_sql.specs.Order.{Rises}
use Rattle.opc_store_sql.proofs.PutAll.{IsApartFrom, put_all, all_put, none_apart, still_apart}
use Rattle.opc_store_sql.proofs.Sets.{inserted_same, replaced_rises}
use Rattle.opc_store_sql.proofs.Sorting.{apart_along, no_ties}
use Rattle.opc_store_schema.proofs.AccessLists.{is_of_means, compares_equal}
use Rattle.opc_store_schema.proofs.Keys.{user_total, connect_total, profile_total, batch_total, same_connect}
use Rattle.opc_store_old_tables.specs.declared.edits.MigrationEdits.{MigrationEdits}
use Rattle.opc_store_old_tables.specs.Old.{IsOldState}
use Rattle.opc_store_old_tables.specs.MigrationEdits.{AreMigrationEditsOf}
use Rattle.opc_store_old_tables.specs.Read.{by_text, user_puts, connect_puts, profile_puts, batch_puts}
use Rattle.opc_store_old_tables.proofs.ProfileLoads.{same_profiles}
use Rattle.opc_store_migration.specs.Between.{emptied, put_into}

-- ---- upserts change their own part

users_put : (us : List User) (s : State) → all_edited (user_puts us) s ≡ with_users (put_all user_cmp user_total s.policy.users us) s
users_put [] s = refl
users_put (u ∷ us) s = users_put us (with_users (replace_key user_cmp s.policy.users u) s)

connects_put : (cs : List Connect) (s : State) → all_edited (connect_puts cs) s ≡ with_connects (put_all connect_cmp connect_total s.policy.connects cs) s
connects_put [] s = refl
connects_put (c ∷ cs) s =
    ap (λ (l : List Connect). all_edited (connect_puts cs) (with_connects l s)) (inserted_same connect_cmp same_connect c s.policy.connects)
    ∙ connects_put cs (with_connects (replace_key connect_cmp s.policy.connects c) s)

batches_put : (bs : List Batch) (s : State) → all_edited (batch_puts bs) s ≡ with_batches (put_all batch_cmp batch_total s.batches bs) s
batches_put [] s = refl
batches_put (b ∷ bs) s = batches_put bs (with_batches (replace_key batch_cmp s.batches b) s)

-- ---- a profile that is not there yet keeps its own access list

not_there : (before : List Profile) (p : Profile) → IsApartFrom profile_cmp profile_total before p → profile_of before p.class p.pattern ≡ None
not_there [] p apart = refl
not_there (q ∷ before) p apart = go (is_of p.class p.pattern q) refl (not_there before p apart.1)
  where
    go : (b : Bool) → is_of p.class p.pattern q ≡ b → profile_of before p.class p.pattern ≡ None → cond b (Some q) (profile_of before p.class p.pattern) ≡ None
    go true is more =
        let both = is_of_means p.class p.pattern q is in
        let tie : is_eq (profile_cmp q p) ≡ true = ap is_eq (compares_equal q p both.0 both.1) in
        let first = apart.0 in
        absurd cc
    go false is more = more

defined : (before : List Profile) (p : Profile) → IsApartFrom profile_cmp profile_total before p → with_definition p before ≡ replace_key profile_cmp before p
defined before p apart = rw (not_there before p apart)

profiles_put : (before ps : List Profile) (s : State) → s.policy.profiles ≡ before → Rises profile_cmp before
    → HasNoTies profile_cmp profile_total ps → AllByRecursion (IsApartFrom profile_cmp profile_total before) ps
    → all_edited (profile_puts ps) s ≡ with_profiles (put_all profile_cmp profile_total before ps) s
profiles_put before [] s is up alone apart = ap (λ (l : List Profile). with_profiles l s) is
profiles_put before (p ∷ ps) s is up alone apart =
    let next = replace_key profile_cmp before p in
    let here : with_definition p s.policy.profiles ≡ next = ap (with_definition p) is ∙ defined before p apart.0 in
    let rises = replaced_rises profile_cmp profile_total p before up in
    ap (λ (l : List Profile). all_edited (profile_puts ps) (with_profiles l s)) here
    ∙ profiles_put next ps (with_profiles next s) refl rises alone.1 (still_apart profile_cmp profile_total before ps p up apart.0 alone.0 apart.1)

-- ---- all of them

module _ (s : State) (puts : MigrationEdits) (are : AreMigrationEditsOf s puts) where
  with_all_users : (t : State) → t.policy.users ≡ [] → Rises user_cmp s.policy.users → all_edited puts.users.items t ≡ with_users s.policy.users t
  with_all_users t none up =
      ap (λ (l : List Edit). all_edited l t) are.users
      ∙ (users_put s.policy.users t
      ∙ ap (λ (l : List User). with_users l t)
      (ap (λ (l : List User). put_all user_cmp user_total l s.policy.users) none
      ∙ all_put user_cmp user_total s.policy.users s.policy.users up (IsPermutation-refl s.policy.users)))

  with_all_connects : (t : State) → t.policy.connects ≡ [] → Rises connect_cmp s.policy.connects
      → all_edited puts.connects.items t ≡ with_connects s.policy.connects t
  with_all_connects t none up =
      ap (λ (l : List Edit). all_edited l t) are.connects
      ∙ (connects_put s.policy.connects t
      ∙ ap (λ (l : List Connect). with_connects l t)
      (ap (λ (l : List Connect). put_all connect_cmp connect_total l s.policy.connects) none
      ∙ all_put connect_cmp connect_total s.policy.connects s.policy.connects up
      (IsPermutation-refl s.policy.connects)))

  with_all_profiles : (t : State) → t.policy.profiles ≡ [] → Rises profile_cmp s.policy.profiles
      → all_edited puts.profiles.items t ≡ with_profiles s.policy.profiles t
  with_all_profiles t none up =
      let ps = s.policy.profiles in
      let same = same_profiles ps up in
      let alone : HasNoTies profile_cmp profile_total (by_text ps) =
      (apart_along profile_cmp profile_total ps (by_text ps) same).1 (no_ties profile_cmp profile_total ps up) in
      ap (λ (l : List Edit). all_edited l t) are.profiles
      ∙ (profiles_put [] (by_text ps) t none tt alone (none_apart profile_cmp profile_total (by_text ps))
      ∙ ap (λ (l : List Profile). with_profiles l t) (all_put profile_cmp profile_total (by_text ps) ps up same))

  with_all_batches : (t : State) → t.batches ≡ [] → Rises batch_cmp s.batches → all_edited puts.batches.items t ≡ with_batches s.batches t
  with_all_batches t none up =
      ap (λ (l : List Edit). all_edited l t) are.batches
      ∙ (batches_put s.batches t
      ∙ ap (λ (l : List Batch). with_batches l t)
      (ap (λ (l : List Batch). put_all batch_cmp batch_total l s.batches) none
      ∙ all_put batch_cmp batch_total s.batches s.batches up (IsPermutation-refl s.batches)))

  pub refilled : (text_of : Batch → List ℕ) → IsOldState text_of s → put_into puts (emptied s) ≡ s
  refilled text_of is =
      let none = emptied s in
      let one = with_users s.policy.users none in
      let two = with_connects s.policy.connects one in
      let three = with_profiles s.policy.profiles two in
      let users = with_all_users none refl is.ordered.users in
      let connects = with_all_connects one refl is.ordered.connects in
      let profiles = with_all_profiles two refl is.ordered.profiles in
      let batches = with_all_batches three refl is.batches in
      ap (λ (t : State). all_edited puts.batches.items (all_edited puts.profiles.items (all_edited puts.connects.items t))) users
      ∙ (ap (λ (t : State). all_edited puts.batches.items (all_edited puts.profiles.items t)) connects
      ∙ (ap (all_edited puts.batches.items) profiles ∙ batches))
