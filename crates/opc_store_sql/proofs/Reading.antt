-- A query that never writes leaves the tables as they were.
use Rattle.std.proofs.Common.{◌≡◌, inl, inr, ℕ, List, Option, Some, None, Ok, Err, Result, IfOk, OnOk, IfErr, IsTrue, refl, sym, subst, ◌∙◌}
use Rattle.sqlite.specs.Order.{Row}
use Rattle.sqlite.specs.Tree.{Trees}
use Rattle.sqlite.specs.Given.{Returns}
use Rattle.sqlite.specs.declared.error.Error.{Error}
use Rattle.sqlite_resolve.specs.declared.compiled.Compiled.{Compiled}
use Rattle.sqlite_resolve.specs.declared.error.CompileError.{CompileError}
use Rattle.sqlite_schema.specs.declared.command.Returning.{Returning}
use Rattle.sqlite.specs.State.{State, Survives, Shown, ShowsRows, FailsToQuery, FailsToShow, IsNotRun, IsRolledBack, CommitsShowing}
use Rattle.sqlite.proofs.StateLemmas.{survives_weaker}
use Rattle.sqlite.specs.Clock.{timed}
use Rattle.std.specs.Prelude.{IsSome}
use Rattle.opc_store_sql.specs.Steps.{NeverWrites}

no_commit : (sql : List ℕ) (params : Row) (s : State) (db : Trees) → NeverWrites sql → CommitsShowing sql params s db → ⊥
unfolding CommitsShowing
no_commit sql params s db quiet h = quiet s.now.schema (subst Returns (sym h.1.is) h.2)

pub reads_survive : (sql : List ℕ) (params : Row) (old new : State) → NeverWrites sql
    → Survives old new (CommitsShowing sql params old) → Survives old new (λ _. ⊥)
reads_survive sql params old new quiet = survives_weaker old new _ _ (λ _ db. no_commit sql params old db quiet)

some_returns : (c : Compiled) (what : Returning) → c.returning ≡ Some what → (let r : Result Compiled CompileError = Ok c in Returns r)
some_returns c what e = subst (λ (o : Option Returning). IsSome o) (sym e) refl

module _ (sql : List ℕ) (params : Row) (old new : State) (quiet : NeverWrites sql)
    (settled : IsTrue old.is_open → old.now ≡ old.committed) (open_now : IsTrue new.is_open) where
  rolled : IsRolledBack old new → new.now ≡ old.now
  rolled h = (h.undone open_now).0 ∙ sym (settled (h.was_open open_now))

  shown_same : (rows : List Row) → Shown sql params old new rows → new.now ≡ old.now
  unfolding Shown
  shown_same rows h = go h.0.returning refl h.2
    where
      go : (o : Option Returning) → h.0.returning ≡ o → ShowsRows old new sql h.0 (timed params h.0.formats h.1.now) rows o → new.now ≡ old.now
      go None e it = it.3.0.now_is
      go (Some what) e it = absurd (quiet old.now.schema (subst Returns (sym h.1.is) (some_returns h.0 what e)))

  failed_same : (e : Error) → FailsToQuery sql params old new e → new.now ≡ old.now
  unfolding FailsToQuery IsNotRun
  failed_same e (inl (inl h)) = h.1.0.now_is
  failed_same e (inl (inr h)) = rolled h.3
  failed_same e (inr h) = go h.0.returning refl h.2
    where
      go : (o : Option Returning) → h.0.returning ≡ o → FailsToShow old new sql h.0 (timed params h.0.formats h.1.now) e o → new.now ≡ old.now
      go None e it = it.3.0.now_is
      go (Some what) e it = absurd (quiet old.now.schema (subst Returns (sym h.1.is) (some_returns h.0 what e)))

  pub reads_same : {X : Type 0} (r : Result X Error) (rows : X → List Row)
      → IfOk r (λ x. Shown sql params old new (rows x)) → IfErr r (FailsToQuery sql params old new) → new.now ≡ old.now
  reads_same (Ok x) rows shown failed = shown_same (rows x) shown
  reads_same (Err e) rows shown failed = failed_same e failed

  shown_was : (rows : List Row) → Shown sql params old new rows → IsTrue old.is_open
  unfolding Shown
  shown_was rows h = go h.0.returning refl h.2
    where
      go : (o : Option Returning) → h.0.returning ≡ o → ShowsRows old new sql h.0 (timed params h.0.formats h.1.now) rows o → IsTrue old.is_open
      go None e it = it.3.0.was_open
      go (Some what) e it = absurd (quiet old.now.schema (subst Returns (sym h.1.is) (some_returns h.0 what e)))

  failed_was : (e : Error) → FailsToQuery sql params old new e → IsTrue old.is_open
  unfolding FailsToQuery IsNotRun
  failed_was e (inl (inl h)) = h.1.0.was_open
  failed_was e (inl (inr h)) = h.3.was_open open_now
  failed_was e (inr h) = go h.0.returning refl h.2
    where
      go : (o : Option Returning) → h.0.returning ≡ o → FailsToShow old new sql h.0 (timed params h.0.formats h.1.now) e o → IsTrue old.is_open
      go None e it = it.3.0.was_open
      go (Some what) e it = absurd (quiet old.now.schema (subst Returns (sym h.1.is) (some_returns h.0 what e)))

  pub reads_was_open : {X : Type 0} (r : Result X Error) (rows : X → List Row)
      → IfOk r (λ x. Shown sql params old new (rows x)) → IfErr r (FailsToQuery sql params old new) → IsTrue old.is_open
  reads_was_open (Ok x) rows shown failed = shown_was (rows x) shown
  reads_was_open (Err e) rows shown failed = failed_was e failed

-- a connection that returned rows is open
module _ (sql : List ℕ) (params : Row) (old new : State) (quiet : NeverWrites sql) where
  shown_open : (rows : List Row) → Shown sql params old new rows → IsTrue new.is_open
  unfolding Shown
  shown_open rows h = go h.0.returning refl h.2
    where
      go : (o : Option Returning) → h.0.returning ≡ o → ShowsRows old new sql h.0 (timed params h.0.formats h.1.now) rows o → IsTrue new.is_open
      go None e it = it.3.0.is_open
      go (Some what) e it = absurd (quiet old.now.schema (subst Returns (sym h.1.is) (some_returns h.0 what e)))

  pub reads_open : {X : Type 0} (r : Result X Error) (rows : X → List Row) → IfOk r (λ x. Shown sql params old new (rows x)) → OnOk r (IsTrue new.is_open)
  reads_open (Ok x) rows shown = shown_open (rows x) shown
  reads_open (Err e) rows shown = tt
