-- What an opening makes of tables of an older version.
use Rattle.std.proofs.Common.{◌≡◌, ◌∙◌, ◌≤◌, ◌<◌, ℕ, zero, suc, Ok, Err, Result, IfOk, IfErr, IsTrue, IsFalse, refl, sym, subst, arith, inl, inr}
use Rattle.sqlite_trees.specs.declared.store.Store.{Ghosts}
use Rattle.sqlite.specs.Effect.{Database}
use Rattle.sqlite.specs.Held.{Held, state}
use Rattle.sqlite.specs.State.{HasCleanDisk, IsLive, Survives}
use Rattle.sqlite.specs.declared.error.Error.{Error}
use Rattle.sqlite.proofs.StateLemmas.{survives_then, survives_weaker}
use Rattle.opc_state.specs.State.{State}
use Rattle.opc_store_sql.specs.Steps.{Looks}
use Rattle.opc_store_schema.specs.Making.{AreMadeOver}
use Rattle.opc_store_schema.specs.Ours.{NamesVersion, has_our_name}
use Rattle.opc_store_schema.specs.Represented.{AreTablesOf, Represents}
use Rattle.opc_store_schema.proofs.Opened.{found_again}
use Rattle.opc_store_old_tables.specs.Old.{AreOldTablesOf, RepresentsOld}
use Rattle.opc_store_old_tables.specs.Tables.{Older, First, Second, version_number}
use Rattle.opc_store_old_tables.proofs.Found.{found_old}
use Rattle.opc_store.specs.Opening.{IsKnown, IsNoVersion, IsOlder, IsRefused, MayLeave, WasOlder}
use Rattle.opc_store.specs.declared.opening.OpenFault.{OpenFault}

pub older_between : (v : ℕ) → 1 ≤ v → v < 3 → IsOlder v
older_between zero low high = absurd (omega arith)
older_between (suc zero) low high = inl refl
older_between (suc (suc zero)) low high = inr refl
older_between (suc (suc (suc v))) low high = absurd (omega arith)

older_never : {A : Type 0} (v : ℕ) → IsOlder v → v ≡ 3 → A
older_never v older is = elim older [ inl one ↦ absurd cc | inr two ↦ absurd cc ]

pub never_older : {A : Type 0} (version : Older) (v : ℕ) → v ≡ 3 → v ≡ version_number version → A
never_older First v is named = absurd cc
never_older Second v is named = absurd cc

any_ok : {X Y : Type 0} (r : Result X Y) (P : X → Type 0) → ((x : X) → P x) → IfOk r P
any_ok (Ok x) P f = f x
any_ok (Err y) P f = tt

both_ok : {X Y : Type 0} (r : Result X Y) (P R Q : X → Type 0) → ((x : X) → P x → R x → Q x) → IfOk r P → IfOk r R → IfOk r Q
both_ok (Ok x) P R Q f p q = f x p q
both_ok (Err y) P R Q f p q = tt

both_err : {X Y : Type 0} (r : Result X Y) (P R Q : Y → Type 0) → ((y : Y) → P y → R y → Q y) → IfErr r P → IfErr r R → IfErr r Q
both_err (Ok x) P R Q f p q = tt
both_err (Err y) P R Q f p q = f y p q

module _ {S : Type 0} (g : Ghosts S) (version : ℕ) (old asked : Held S) (live : IsLive (state g old))
    (looks : (let r : Result ℕ Error = Ok version in Looks g old asked r)) where
  -- after its version was read, the database is what it was
  begun : HasCleanDisk (state g asked) → (v : Older) (s : State) → AreOldTablesOf v (state g old).now.trees s → RepresentsOld v (state g asked).now s
  begun clean v s are =
      let is_open = looks.opened clean in
      subst (λ (d : Database). RepresentsOld v d s) (sym (looks.same clean is_open))
      (found_old v (state g old).now s (live (looks.was_open clean is_open)).0 are)

  -- what a migration leaves
  abbrev Leaves : Held S → Type 0
  Leaves new = Survives (state g asked) (state g new) (λ db. (v : Older) → (s : State) → RepresentsOld v (state g asked).now s → AreTablesOf db s)

  early : (new : Held S) → Leaves new → HasCleanDisk (state g new) → HasCleanDisk (state g asked)
  early new left clean = omega (arith, left.clean)

  module _ {E : Type 0} (r : Result (Held S) E) (fault : E → OpenFault) (conn : E → Held S) where
    pub copied : IfOk r Leaves → IfOk r (λ store. HasCleanDisk (state g store) → (v : Older) → (s : State)
        → RepresentsOld v (state g asked).now s → Represents (state g store).now s)
        → IfOk r (λ store. HasCleanDisk (state g store) → IsTrue (state g old).is_open → (v : Older) → (s : State)
        → AreOldTablesOf v (state g old).now.trees s → Represents (state g store).now s)
    copied = both_ok r Leaves _ _ (λ store left made clean is_open v s are. made clean v s (begun (early store left clean) v s are))

    pub unharmed : IfErr r (λ e. Leaves (conn e))
        → IfErr r (λ e. HasCleanDisk (state g (conn e)) → IsTrue (state g (conn e)).is_open
        → (state g (conn e)).now ≡ (state g asked).now)
        → IfErr r (λ e. HasCleanDisk (state g (conn e)) → IsTrue (state g old).is_open
        → IsTrue (state g (conn e)).is_open → (state g (conn e)).now ≡ (state g old).now)
    unharmed = both_err r (λ e. Leaves (conn e)) _ _
        (λ e left same clean was_open is_open. let first = early (conn e) left clean in same clean is_open
        ∙ looks.same first (looks.opened first))

    pub unnamed : IsTrue (has_our_name (state g old).now.schema)
        → IfOk r (λ store. HasCleanDisk (state g store) → IsFalse (has_our_name (state g old).now.schema)
        → AreMadeOver g old (state g store).now.trees)
    unnamed named = any_ok r (λ store. HasCleanDisk (state g store) → IsFalse (has_our_name (state g old).now.schema)
        → AreMadeOver g old (state g store).now.trees) (λ store clean none. absurd cc)

    module _ (older : IsOlder version) (names : HasCleanDisk (state g asked) → NamesVersion version (state g old) (state g asked)) where
      was_older : HasCleanDisk (state g asked) → WasOlder g (state g old)
      was_older clean = (asked, version, names clean, older)

      pub found : IfOk r Leaves → (HasCleanDisk (state g asked) → (s : State) → Represents (state g old).now s → version ≡ 3)
          → IfOk r (λ store. HasCleanDisk (state g store) → IsTrue (state g old).is_open → (s : State)
          → AreTablesOf (state g old).now.trees s → Represents (state g store).now s)
      found left ours =
          both_ok r Leaves Leaves (λ store. HasCleanDisk (state g store) → IsTrue (state g old).is_open → (s : State)
          → AreTablesOf (state g old).now.trees s → Represents (state g store).now s)
          (λ store it _ clean is_open s alone. older_never version older
          (ours (early store it clean) s (found_again (state g old).now s (live is_open).0 alone))) left left

      pub known : IfOk r Leaves → IfOk r
          (λ store. HasCleanDisk (state g store) → IsTrue (has_our_name (state g old).now.schema)
          → IsKnown g (state g old) (state g store))
      known left =
          both_ok r Leaves Leaves (λ store. HasCleanDisk (state g store)
          → IsTrue (has_our_name (state g old).now.schema) → IsKnown g (state g old) (state g store))
          (λ store it _ clean named. inr (was_older (early store it clean))) left left

      pub refused : IfErr r (λ e. Leaves (conn e)) → IfErr r (λ e. IsNoVersion (fault e))
          → IfErr r (λ e. HasCleanDisk (state g (conn e)) → IsTrue (has_our_name (state g old).now.schema)
          → IsRefused g (fault e) (state g old) (state g (conn e)))
      refused =
          both_err r (λ e. Leaves (conn e)) (λ e. IsNoVersion (fault e))
          (λ e. HasCleanDisk (state g (conn e)) → IsTrue (has_our_name (state g old).now.schema)
          → IsRefused g (fault e) (state g old) (state g (conn e)))
          (λ e left returned clean named. elim returned [
            | inl memory ↦ inr (inr (inl memory))
            | inr store ↦ inr
                (inr (inr (store, was_older (early (conn e) left clean))))
          ])

      crashes : IsTrue (has_our_name (state g old).now.schema) → (new : Held S) → Leaves new → Survives (state g old) (state g new) (MayLeave g old)
      crashes named new left =
          survives_then (state g old) (state g asked) (state g new) (λ _. ⊥)
          (λ db. (v : Older) → (s : State) → RepresentsOld v (state g asked).now s → AreTablesOf db s)
          (MayLeave g old) (λ _ db none. absurd none)
          (λ clean db h. let first = early new left clean in inr (named, was_older first, λ v s are. h v s (begun first v s are))) looks.survives left

      pub crash : IsTrue (has_our_name (state g old).now.schema) → IfOk r Leaves → IfOk r (λ store. Survives (state g old) (state g store) (MayLeave g old))
      crash named left =
          both_ok r Leaves Leaves (λ store. Survives (state g old) (state g store) (MayLeave g old)) (λ store it _. crashes named store it) left left

      pub crash_at_fault : IsTrue (has_our_name (state g old).now.schema) → IfErr r (λ e. Leaves (conn e)) → IfErr r (λ e. IsNoVersion (fault e))
          → IfErr r (λ e. Survives (state g old) (state g (conn e)) (λ db. IsNoVersion (fault e) × MayLeave g old db))
      crash_at_fault named =
          both_err r (λ e. Leaves (conn e)) (λ e. IsNoVersion (fault e))
          (λ e. Survives (state g old) (state g (conn e)) (λ db. IsNoVersion (fault e) × MayLeave g old db))
          (λ e left returned. survives_weaker (state g old) (state g (conn e)) (MayLeave g old)
          (λ db. IsNoVersion (fault e) × MayLeave g old db) (λ _ db h. (returned, h)) (crashes named (conn e) left))
