-- Steps of a transaction, one after another.
use Rattle.std.proofs.Common.{ℕ, ◌+◌, ◌<◌, List, [], ◌∷◌, ◌++◌, length, map, take, get_or, refl, sym, ap, subst, ◌∙◌, arith, Ok, Result}
use Rattle.std.proofs.lemmas.List.{take_more, map-append}
use Rattle.sqlite_trees.specs.declared.store.Store.{Ghosts}
use Rattle.sqlite.specs.Held.{Held, state}
use Rattle.sqlite.proofs.StateLemmas.{survives_then}
use Rattle.opc_store_sql.specs.Steps.{Stays, Ran, RanAll}

module _ {S : Type 0} (g : Ghosts S) where
  -- two steps that both gave a value
  pub stays_then : (X Y E F : Type 0) (x : X) (y : Y) (a b c : Held S) → (let r : Result X E = Ok x in Stays g a b r)
      → (let t : Result Y F = Ok y in Stays g b c t) → (let t : Result Y F = Ok y in Stays g a c t)
  stays_then X Y E F x y a b c p q = record {
    survives = survives_then (state g a) (state g b) (state g c) _ _ (λ _. ⊥) (λ _ db none. none) (λ _ db none. none) p.survives q.survives;
    kept = λ clean.
        let first = p.kept (omega (arith, q.survives.clean)) in
        let last = q.kept clean in
        record { was_open = λ h. first.was_open (last.was_open h); committed = λ h. last.committed h ∙ first.committed (last.was_open h) };
    inside = λ clean h. q.inside clean (p.inside (omega (arith, q.survives.clean)) h);
  }

  -- which value it was makes no difference
  pub stays_for : (X Y E : Type 0) (x : X) (y : Y) (a b : Held S) → (let r : Result X E = Ok x in Stays g a b r) → (let r : Result Y E = Ok y in Stays g a b r)
  stays_for X Y E x y a b h = record { survives = h.survives; kept = h.kept; inside = h.inside }

  -- one more statement, after those that ran
  ran_after : (before : List (List ℕ)) (sql : List ℕ) (a b c : Held S) (count : ℕ) → RanAll g before a b
      → Ran g sql [] b c count → RanAll g (before ++ sql ∷ []) a c
  ran_after [] sql a b c count h ran = (c, count, subst (λ (x : Held S). Ran g sql [] x c count) h ran, refl)
  ran_after (first ∷ before) sql a b c count h ran = (h.0, h.1, h.2, ran_after before sql h.0 b c count h.3 ran)

  pub ran_more : {X : Type 0} (text : X → List ℕ) (xs : List X) (i : ℕ) (x : X) (a b c : Held S) (count : ℕ)
      → i < length xs → RanAll g (map text (take i xs)) a b
      → Ran g (text (get_or xs i x)) [] b c count → RanAll g (map text (take (i + 1) xs)) a c
  ran_more text xs i x a b c count low h ran =
      let taken = ap (map text) (take_more xs i x low) ∙ map-append text (take i xs) (get_or xs i x ∷ []) in
      subst (λ l. RanAll g l a c) (sym taken) (ran_after (map text (take i xs)) (text (get_or xs i x)) a b c count h ran)
