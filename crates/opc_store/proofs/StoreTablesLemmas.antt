-- What loads and a commit are for the machine that keeps its state by them.
use Rattle.std.proofs.Common.{◌≡◌, ◌⊎◌, inl, inr, Ok, Err, Result, IfOk, OnOk, OnErr, IsTrue, map, sym, subst, arith}
use Rattle.std.proofs.lemmas.Result.{on_ok_weaker}
use Rattle.sqlite_trees.specs.declared.store.Store.{Ghosts}
use Rattle.sqlite_trees.specs.Tree.{Trees}
use Rattle.sqlite.specs.Effect.{Database}
use Rattle.sqlite.specs.Held.{Held, state}
use Rattle.sqlite.specs.State.{HasCleanDisk, Survives}
use Rattle.opc_store_sql.specs.Steps.{Looks}
use Rattle.opc_state.specs.declared.change.Change.{Change}
use Rattle.opc_state.specs.Changes.{IsKept, changed_by}
use Rattle.opc_state.specs.Invariants.{IsKeyed}
use Rattle.opc_state.specs.State.{State, Fits}
use Rattle.opc_store_schema.specs.Changes.{Becomes}
use Rattle.opc_store_schema.specs.Represented.{Represents, AreTablesOf}
use Rattle.opc_store.specs.StoreTables.{RepresentsIfOpen, IsSure, MayLeave, store_meaning}
use Rattle.opc_names.specs.declared.class.Class.{Class}
use Rattle.opc_policy_members.specs.Profiles.{AreProfiles, of_class}
use Rattle.opc_state.specs.Loads.{bare}
use Rattle.opc_store_search.proofs.BetweenLoads.{class_bare_are_profiles}
use Rattle.opc_store_schema.proofs.KeyOrder.{is_keyed}

-- no number of what tables represent passes what they can hold
pub fits_of : (db : Database) (s : State) → Represents db s → Fits s
fits_of db s h = let n = h.ordered.numbered in record { account = n.0; answered = n.1; log = n.2; messages = n.3 }

-- what an error states only about an open connection
if_open : {X E : Type 0} (P Q : Type 0) (r : Result X E) → (P → OnErr r Q) → OnErr r (P → Q)
if_open P Q (Ok x) h = tt
if_open P Q (Err e) h = h

on_ok : {X E : Type 0} {P : Type 0} (r : Result X E) → P → OnOk r P
on_ok (Ok x) p = p
on_ok (Err e) p = tt

on_err_weaker : {X E : Type 0} {P Q : Type 0} (r : Result X E) → (P → Q) → OnErr r P → OnErr r Q
on_err_weaker (Ok x) f h = tt
on_err_weaker (Err e) f h = f h

module _ {S : Type 0} (g : Ghosts S) where
  -- a load keeps the tables, and what a crash may leave
  pub kept : {X E : Type 0} (a b : Held S) (r : Result X E) → Looks g a b r → IsKept (store_meaning g) a b
  kept a b r h = record {
    sure = λ clean. omega (arith, h.survives.clean);
    same = λ clean s was is_open. subst (λ (db : Database). Represents db s) (sym (h.same clean is_open)) (was (h.was_open clean is_open));
    crash = λ s left. before s left (h.survives.crash left.0 left.1 left.2);
  }
    where
      before : (s : State) (left : MayLeave g b s) → (state g a).may_leave left.1 ⊎ ⊥ → MayLeave g a s
      before s left (inl leaves) = (omega (arith, h.survives.clean, left.0), left.1, leaves, left.3)
      before s left (inr none) = absurd none

  -- what it found
  pub found : {X E : Type 0} (P : State → X → Type 0) (a b : Held S) (r : Result X E) → Looks g a b r
      → (HasCleanDisk (state g b) → (s : State) → Represents (state g a).now s → IfOk r (P s))
      → IsSure g b → (s : State) → RepresentsIfOpen g a s → IfOk r (P s)
  found P a b (Err e) h returns clean s was = tt
  found P a b (Ok x) h returns clean s was = returns clean s (was (h.was_open clean (h.opened clean)))

  -- if it gave a value, the state is in the order of its keys
  pub keyed : {X E : Type 0} (a b : Held S) (r : Result X E) → Looks g a b r → IsSure g b → (s : State) → RepresentsIfOpen g a s → IfOk r (λ _. IsKeyed s)
  keyed a b (Err e) h clean s was = tt
  keyed a b (Ok x) h clean s was = let tables = was (h.was_open clean (h.opened clean)) in is_keyed s tables.ordered

  -- and those of a class are profiles
  pub valid : {X E : Type 0} (class : Class) (a b : Held S) (r : Result X E) → Looks g a b r → IsSure g b → (s : State)
      → RepresentsIfOpen g a s → IfOk r (λ _. AreProfiles (map bare (of_class class s.policy.profiles)))
  valid class a b (Err e) h clean s was = tt
  valid class a b (Ok x) h clean s was =
      let tables = was (h.was_open clean (h.opened clean)) in
      class_bare_are_profiles class s.policy.profiles tables.ordered.patterns tables.ordered.profiles

  -- a load that gave a value leaves tables that are open, and represent the state
  pub stands : {X E : Type 0} (x : X) (a b : Held S) → (let q : Result X E = Ok x in Looks g a b q) → IsSure g b
      → (s : State) → RepresentsIfOpen g a s → Represents (state g b).now s
  stands x a b h clean s was = let is_open =
      h.opened clean in subst (λ (db : Database). Represents db s) (sym (h.same clean is_open))
      (was (h.was_open clean is_open))

  -- a load that gave a value, and then a commit
  module _ {X Y E : Type 0} (x : X) (a b c : Held S) (change : Change) (r : Result Y E) (looks : let q : Result X E = Ok x in Looks g a b q) where
    abbrev Leaves : Trees → Type 0
    Leaves db = (s : State) → Represents (state g b).now s → AreTablesOf db (changed_by change s)

    module _ (survives : Survives (state g b) (state g c) Leaves) where
      mid_sure : IsSure g c → IsSure g b
      mid_sure clean = omega (arith, survives.clean)

      pub was_sure : IsSure g c → IsSure g a
      was_sure clean = omega (arith, survives.clean, looks.survives.clean)

      -- it was loaded from tables that are open
      pub commit_open : IsSure g c → OnOk r (IsTrue (state g a).is_open)
      commit_open clean = let mid = mid_sure clean in on_ok r (looks.was_open mid (looks.opened mid))

      module _ (clean : IsSure g c) (s : State) (was : RepresentsIfOpen g a s) where
        mid : Represents (state g b).now s
        mid = stands x a b looks (mid_sure clean) s was

        pub commit_done : OnOk r (Becomes (changed_by change) (state g b).now (state g c).now) → OnOk r (RepresentsIfOpen g c (changed_by change s))
        commit_done = on_ok_weaker r (λ becomes is_open. becomes s mid)

        pub commit_fits : OnOk r (Becomes (changed_by change) (state g b).now (state g c).now) → OnOk r (Fits s → Fits (changed_by change s))
        commit_fits = on_ok_weaker r (λ becomes fits. fits_of (state g c).now (changed_by change s) (becomes s mid))

        pub commit_failed : (IsTrue (state g c).is_open
            → OnErr r ((s : State) → Represents (state g b).now s → Represents (state g c).now s))
            → OnErr r (RepresentsIfOpen g c s)
        commit_failed h = on_err_weaker r (λ keeps is_open. keeps is_open s mid) (if_open _ _ r h)

        pub commit_acknowledged : OnOk r
            ((db : Trees) → (state g c).may_leave db → (s : State) → Represents (state g b).now s
            → AreTablesOf db (changed_by change s))
            → OnOk r ((left : State) → MayLeave g c left → left ≡ changed_by change s)
        commit_acknowledged = on_ok_weaker r (λ returned left it. sym (it.3 (changed_by change s) (returned it.1 it.2 s mid)))

        pub commit_crash : (left : State) → MayLeave g c left → MayLeave g a left ⊎ (left ≡ changed_by change s)
        commit_crash left it = go (survives.crash clean it.1 it.2)
          where
            before : (state g a).may_leave it.1 ⊎ ⊥ → MayLeave g a left
            before (inl leaves) = (was_sure clean, it.1, leaves, it.3)
            before (inr none) = absurd none

            go : (state g b).may_leave it.1 ⊎ Leaves it.1 → MayLeave g a left ⊎ (left ≡ changed_by change s)
            go (inl leaves) = inl (before (looks.survives.crash (mid_sure clean) it.1 leaves))
            go (inr new) = inr (sym (it.3 (changed_by change s) (new s mid)))
