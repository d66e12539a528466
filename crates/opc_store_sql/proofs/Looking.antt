-- Queries, one after another, and what a query whose rows are taken one at a time keeps.
use Rattle.std.proofs.Common.{◌≡◌, ◌∙◌, ℕ, List, inl, Ok, Err, Result, OnOk, IsTrue, refl, sym, subst, arith}
use Rattle.std.specs.Result.{IsErr}
use Rattle.sqlite_trees.specs.declared.store.Store.{Ghosts}
use Rattle.sqlite.specs.Order.{Row}
use Rattle.sqlite.specs.Effect.{Database}
use Rattle.sqlite.specs.Held.{Held, state}
use Rattle.sqlite.specs.State.{HasCleanDisk, Survives, IsUnchanged, FailsToQuery, CommitsShowing}
use Rattle.sqlite.specs.declared.error.Error.{Error}
use Rattle.sqlite.proofs.Callers.{unchanged_then}
use Rattle.sqlite.proofs.StateLemmas.{survives_then}
use Rattle.opc_store_sql.specs.Steps.{Looks, NeverWrites}
use Rattle.opc_store_sql.proofs.Reading.{reads_survive, reads_same, reads_was_open}

module _ {S : Type 0} (g : Ghosts S) where
  -- one that gave a value, and then another
  pub looks_then : (X Y E F : Type 0) (x : X) (r : Result Y F) (a b c : Held S) → (let q : Result X E = Ok x in Looks g a b q) → Looks g b c r → Looks g a c r
  looks_then X Y E F x r a b c p q = record {
    survives = survives_then (state g a) (state g b) (state g c) _ _ (λ _. ⊥) (λ _ db none. none) (λ _ db none. none) p.survives q.survives;
    opened = q.opened;
    was_open = λ clean h. p.was_open (omega (arith, q.survives.clean)) (q.was_open clean h);
    same = λ clean h. q.same clean h ∙ p.same (omega (arith, q.survives.clean)) (q.was_open clean h);
  }

  -- what held of the tables still holds
  pub looked : (X E : Type 0) (x : X) (a b : Held S) → (let q : Result X E = Ok x in Looks g a b q)
      → HasCleanDisk (state g b) → (P : Database → Type 0) → P (state g a).now → P (state g b).now
  looked X E x a b p clean P h = subst P (sym (p.same clean (p.opened clean))) h

  -- whatever value it gave
  pub looks_as : (X Y E F : Type 0) (x : X) (y : Y) (a b : Held S) → (let q : Result X E = Ok x in Looks g a b q) → (let r : Result Y F = Ok y in Looks g a b r)
  looks_as X Y E F x y a b p = record { survives = p.survives; opened = p.opened; was_open = p.was_open; same = p.same }

-- ---- rows that are taken one at a time

on_ok : {X E : Type 0} {P : Type 0} (r : Result X E) → P → OnOk r P
on_ok (Ok x) p = p
on_ok (Err e) p = tt

not_ok : {X E : Type 0} (P : Type 0) (r : Result X E) → IsErr r → OnOk r P
not_ok P (Ok x) h = absurd cc
not_ok P (Err e) h = tt

module _ {S : Type 0} (g : Ghosts S) where
  -- nothing was changed
  pub looks_unchanged : {X E : Type 0} (r : Result X E) (a b : Held S) → Survives (state g a) (state g b) (λ _. ⊥)
      → (HasCleanDisk (state g b) → IsUnchanged (state g a) (state g b)) → Looks g a b r
  looks_unchanged r a b survives same = record {
    survives = survives;
    opened = λ clean. on_ok r (same clean).0.is_open;
    was_open = λ clean is_open. (same clean).0.was_open;
    same = λ clean is_open. (same clean).0.now_is;
  }

  -- one step after another, and nothing was changed
  pub looks_moved : {X E : Type 0} (r : Result X E) (a mid b : Held S) → Survives (state g a) (state g mid) (λ _. ⊥)
      → (HasCleanDisk (state g mid) → IsUnchanged (state g a) (state g mid))
      → Survives (state g mid) (state g b) (λ _. ⊥) → (HasCleanDisk (state g b) → IsUnchanged (state g mid) (state g b)) → Looks g a b r
  looks_moved r a mid b first was last same =
      looks_unchanged r a b (survives_then (state g a) (state g mid) (state g b) _ _ (λ _. ⊥) (λ _ db none. none) (λ _ db none. none) first last)
      (λ clean. unchanged_then (state g a) (state g mid) (state g b) (was (omega (arith, last.clean))) (same clean))

  pub looks_at : {X E : Type 0} (r : Result X E) (a b c : Held S) → b ≡ c → Looks g a b r → Looks g a c r
  looks_at r a b c same = subst (λ (h : Held S). Looks g a h r) same

  -- before the first query
  pub looks_start : {X E : Type 0} (r : Result X E) → IsErr r → (a : Held S) → Looks g a a r
  looks_start r is_err a = record {
    survives = record {
      clean = omega arith;
      shield = λ h. h;
      counts = omega arith;
      limit = refl;
      closes = λ clean is_open. inl is_open;
      crash = λ clean db leaves. inl leaves;
    };
    opened = λ clean. not_ok _ r is_err;
    was_open = λ clean is_open. is_open;
    same = λ clean is_open. refl;
  }

  module _ {X E : Type 0} (p : Result X E) (a b c : Held S) (before : Looks g a b p) where
    both_survive : {Y F : Type 0} (q : Result Y F) → Looks g b c q → Survives (state g a) (state g c) (λ _. ⊥)
    both_survive q h = survives_then (state g a) (state g b) (state g c) _ _ (λ _. ⊥) (λ _ db none. none) (λ _ db none. none) before.survives h.survives

    -- one query after others, whatever is made of its value
    pub looks_on : {Y F Z G : Type 0} (y : Y) (r : Result Z G) → (let q : Result Y F = Ok y in Looks g b c q) → Looks g a c r
    looks_on {Y} {F} y r h =
        let q : Result Y F = Ok y in
        record {
          survives = both_survive q h;
          opened = λ clean. on_ok r (h.opened clean);
          was_open = λ clean is_open. before.was_open (omega (arith, h.survives.clean)) (h.was_open clean is_open);
          same = λ clean is_open. h.same clean is_open ∙ before.same (omega (arith, h.survives.clean)) (h.was_open clean is_open);
        }

    -- and one that failed
    pub looks_off : {Y F Z G : Type 0} (e : F) (r : Result Z G) → IsErr r → (let q : Result Y F = Err e in Looks g b c q) → Looks g a c r
    looks_off {Y} {F} e r is_err h =
        let q : Result Y F = Err e in
        record {
          survives = both_survive q h;
          opened = λ clean. not_ok _ r is_err;
          was_open = λ clean is_open. before.was_open (omega (arith, h.survives.clean)) (h.was_open clean is_open);
          same = λ clean is_open. h.same clean is_open ∙ before.same (omega (arith, h.survives.clean)) (h.was_open clean is_open);
        }

    -- what held of the tables at first holds if a query gave a value
    pub looked_on : {Y F : Type 0} (y : Y) → (let q : Result Y F = Ok y in Looks g b c q) → HasCleanDisk (state g c)
        → (P : Database → Type 0) → P (state g a).now → P (state g b).now
    looked_on y h clean P was = subst P (sym (before.same (omega (arith, h.survives.clean)) (h.was_open clean (h.opened clean)))) was

  module _ (a : Held S) (settled : IsTrue (state g a).is_open → (state g a).now ≡ (state g a).committed) where
    -- the query did not begin
    pub looks_refused : {X E : Type 0} (r : Result X E) → IsErr r
        → (b : Held S) (sql : List ℕ) (params : Row) (e : Error) → NeverWrites sql
        → Survives (state g a) (state g b) (CommitsShowing sql params (state g a))
        → (HasCleanDisk (state g b) → FailsToQuery sql params (state g a) (state g b) e) → Looks g a b r
    looks_refused r is_err b sql params e quiet survives failed =
        let none : Result (List Row) Error = Err e in
        record {
          survives = reads_survive sql params (state g a) (state g b) quiet survives;
          opened = λ clean. not_ok _ r is_err;
          was_open = λ clean is_open. reads_was_open sql params (state g a) (state g b) quiet settled is_open none (λ rows. rows) tt (failed clean);
          same = λ clean is_open. reads_same sql params (state g a) (state g b) quiet settled is_open none (λ rows. rows) tt (failed clean);
        }
