-- What one call after another keeps, whatever is made of the last one's result.
use Rattle.std.proofs.Common.{◌≡◌, ◌∙◌, Ok, Err, Result, OnOk, arith}
use Rattle.std.specs.Result.{IsErr}
use Rattle.sqlite_trees.specs.declared.store.Store.{Ghosts}
use Rattle.sqlite.specs.Held.{Held, state}
use Rattle.sqlite.proofs.StateLemmas.{survives_then}
use Rattle.opc_store_sql.specs.Steps.{Looks, Stays}

on_ok : {X E P : Type 0} (r : Result X E) → P → OnOk r P
on_ok (Ok x) p = p
on_ok (Err e) p = tt

not_ok : {X E : Type 0} (P : Type 0) (r : Result X E) → IsErr r → OnOk r P
not_ok P (Ok x) h = absurd cc
not_ok P (Err e) h = tt

module _ {S : Type 0} (g : Ghosts S) where
  -- one query
  pub looks_for : {X Y E F : Type 0} (x : X) (r : Result Y F) (a b : Held S) → (let q : Result X E = Ok x in Looks g a b q) → Looks g a b r
  looks_for x r a b h = record { survives = h.survives; opened = λ clean. on_ok r (h.opened clean); was_open = h.was_open; same = h.same }

  -- two steps of a transaction, of which the second failed
  pub stays_off : {X Y Z E F G : Type 0} (x : X) (e : F) (r : Result Z G) → IsErr r → (a b c : Held S)
      → (let q : Result X E = Ok x in Stays g a b q) → (let q : Result Y F = Err e in Stays g b c q) → Stays g a c r
  stays_off x e r is_err a b c p q = record {
    survives = survives_then (state g a) (state g b) (state g c) _ _ (λ _. ⊥) (λ _ db none. none) (λ _ db none. none) p.survives q.survives;
    kept = λ clean.
        let first = p.kept (omega (arith, q.survives.clean)) in
        let last = q.kept clean in
        record { was_open = λ h. first.was_open (last.was_open h); committed = λ h. last.committed h ∙ first.committed (last.was_open h) };
    inside = λ clean h. not_ok _ r is_err;
  }
