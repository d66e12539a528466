-- The outcome of an import.
use Rattle.std.proofs.Common.{
  ◌≡◌,
  ◌==◌,
  ℕ,
  Bool,
  true,
  false,
  List,
  [],
  ◌∷◌,
  ◌++◌,
  Option,
  Some,
  None,
  Ok,
  Err,
  Result,
  Ordering,
  Less,
  Equal,
  Greater,
  cond,
  IfOk,
  codes,
  find,
  refl,
  sym,
  ap,
  subst,
  ◌∙◌,
  rules,
  append_assoc,
  eqb-true,
  eq-eqb,
}
use Rattle.std.specs.BTreeSet.{replace_key}
use Rattle.std.specs.Ordering.{match_ordering, nat_cmp, ordering_reverse}
use Rattle.std.specs.Option.{option_map}
use Rattle.std.proofs.lemmas.Cmp.{nat_cmp_total}
use Rattle.opc_board.specs.declared.line.Line.{Line}
use Rattle.opc_board.specs.Texts.{columns}
use Rattle.opc_policy_members.specs.declared.row.Row.{Row}
use Rattle.opc_terms.specs.declared.store_fault.StoreFault.{StoreFault}
use Rattle.opc_state.specs.declared.change.Batch.{Batch}
use Rattle.opc_state.specs.declared.change.Edit.{Edit}
use Rattle.opc_state.specs.declared.change.Edit.TheVariants as edit
use Rattle.opc_state.specs.Changes.{all_edited}
use Rattle.opc_state.specs.Loads.{batch_rows}
use Rattle.opc_state.specs.Members.{batch_cmp, with_batch}
use Rattle.opc_state.specs.State.{State}
use Rattle.opc_machine.specs.declared.outcome.Outcome.{Outcome}
use Rattle.opc_machine.specs.Bootstrap.{with_rows}
use Rattle.opc_machine.specs.Effects.{IsOutcome}
use Rattle.opc_machine.specs.Imports.{batch_line, batch_of, batch_outcome, new_batch, same_batch}
use Rattle.opc_machine.specs.Outcome.{◌>>=◌, does, or_refused}
use Rattle.opc_gate_imports.proofs.PolicyRows.{edits_after}

unlike : (o : Ordering) → o ≡ Greater → o ≡ Equal → ⊥
unlike o greater equal = search (rules, sym greater ∙ equal)

itself : (o : Ordering) → o ≡ ordering_reverse o → o ≡ Equal
itself Less e = absurd (search (rules, e))
itself Equal e = refl
itself Greater e = absurd (search (rules, e))

-- one that is put is found
found_put : {K : Type 0} (cmp : K → K → Ordering) (test : K → Bool) (k : K) (xs : List K) → test k ≡ true
    → ((x : K) → test x ≡ true → cmp k x ≡ Equal) → find test (replace_key cmp xs k) ≡ Some k
found_put {K} cmp test k [] here tie = ap (λ b. let o : Option K = cond b (Some k) None in o) here
found_put {K} cmp test k (x ∷ xs) here tie = go (cmp k x) refl (found_put cmp test k xs here tie)
  where
    first : (ys : List K) → find test (k ∷ ys) ≡ Some k
    first ys = ap (λ b. cond b (Some k) (find test ys)) here

    away : (b : Bool) → test x ≡ b → cmp k x ≡ Greater → b ≡ false
    away true e greater = absurd (unlike (cmp k x) greater (tie x e))
    away false e greater = refl

    go : (o : Ordering) → cmp k x ≡ o → find test (replace_key cmp xs k) ≡ Some k
        → find test (match_ordering o (k ∷ x ∷ xs) (k ∷ xs) (x ∷ replace_key cmp xs k)) ≡ Some k
    go Less e later = first (x ∷ xs)
    go Equal e later = first xs
    go Greater e later = ap (λ b. cond b (Some x) (find test (replace_key cmp xs k))) (away (test x) refl e) ∙ later

pub line_text : (d w : List ℕ) → columns (codes "BATCH" ∷ d ∷ w ∷ []) ≡ codes "BATCH " ++ d ++ codes " " ++ w
line_text d w = ap (λ t. codes "BATCH " ++ t) (sym (append_assoc d (32 ∷ []) w))

given : {A E : Type 0} (X : Type 0) (Y : A → Type 0) (r : Result A E) → X → IfOk r (λ o. X → Y o) → IfOk r Y
given X Y (Ok o) x h = h x
given X Y (Err e) x h = tt

-- a batch by what is loaded of it
pub is_new : (s : State) (n : ℕ) (all : List Row) (r : Result Outcome StoreFault)
    → batch_rows s.batches n ≡ None → IfOk r (λ o. batch_rows s.batches n ≡ None → IsOutcome s (new_batch s n all) o)
    → IfOk r (λ o. IsOutcome s (batch_outcome s n all (batch_of s.batches n)) o)
is_new s n all r none h = go (batch_of s.batches n) none
  where
    go : (k : Option Batch) → option_map (λ (b : Batch). b.rows) k ≡ None → IfOk r (λ o. IsOutcome s (batch_outcome s n all k) o)
    go None e = given (batch_rows s.batches n ≡ None) (λ o. IsOutcome s (new_batch s n all) o) r none h
    go (Some b) e = absurd (search (rules, e))

pub is_kept : (s : State) (n : ℕ) (all stored : List Row) (r : Result Outcome StoreFault) → batch_rows s.batches n ≡ Some stored
    → IfOk r (λ o. IsOutcome s (same_batch s n all (record {
      number = n;
      rows = stored;
    })) o) → IfOk r (λ o. IsOutcome s (batch_outcome s n all (batch_of s.batches n)) o)
is_kept s n all stored r some h = go (batch_of s.batches n) some
  where
    same : (b : Batch) → b.rows ≡ stored → same_batch s n all b ≡ same_batch s n all (record { number = n; rows = stored })
    same b e = ap (λ rows. same_batch s n all (record { number = n; rows = rows })) e

    go : (k : Option Batch) → option_map (λ (b : Batch). b.rows) k ≡ Some stored → IfOk r (λ o. IsOutcome s (batch_outcome s n all k) o)
    go None e = absurd (search (rules, e))
    go (Some b) e = let rows : b.rows ≡ stored = search (rules, e) in subst (λ x. IfOk r (λ o. IsOutcome s x o)) (sym (same b rows)) h

module _ (s : State) (n : ℕ) (all copy : List Row) (edits now : List Edit) (copies : copy ≡ all) (grown : now ≡ edits ++ edit.PutBatch (record {
  number = n;
  rows = copy;
}) ∷ []) where
  abbrev batch : Batch
  batch = record { number = n; rows = all }

  state_is : all_edited now s ≡ record (all_edited edits s) { batches = with_batch batch (all_edited edits s).batches }
  state_is =
      ap (λ es. all_edited es s) grown
      ∙ edits_after edits (edit.PutBatch (record { number = n; rows = copy }) ∷ []) s
      ∙ ap (λ rows. all_edited (edit.PutBatch (record { number = n; rows = rows }) ∷ []) (all_edited edits s)) copies

  pub kept_makes : with_rows all s ≡ Ok (all_edited edits s) → (lines : List Line) → lines ≡ batch_line n (codes "KEPT") ∷ [] → new_batch s n all ≡ Ok (record {
    state = all_edited now s;
    lines = lines;
    rule = None;
  })
  kept_makes founded lines reported =
      ap (λ r. or_refused r >>= λ new. does (record new { batches = with_batch batch new.batches }) (batch_line n (codes "KEPT") ∷ []) None) founded
      ∙ ap (λ t. does t (batch_line n (codes "KEPT") ∷ []) None) (sym state_is)
      ∙ ap (λ ls. does (all_edited now s) ls None) (sym reported)

  tie : (b : Batch) → (b.number == n) ≡ true → batch_cmp batch b ≡ Equal
  tie b h = ap (nat_cmp n) (eqb-true b.number n h) ∙ itself (nat_cmp n n) (nat_cmp_total.antisymm n n)

  -- a batch with a new number always changes what is kept
  pub kept_changes : batch_rows s.batches n ≡ None → all_edited now s ≡ s → ⊥
  kept_changes none same =
      let there : batch_rows (with_batch batch (all_edited edits s).batches) n ≡ Some all =
      ap (option_map (λ (b : Batch). b.rows)) (found_put batch_cmp (λ (b : Batch). b.number == n) batch (all_edited edits s).batches (eq-eqb n n refl) tie) in
      let still : batch_rows s.batches n ≡ Some all =
      sym (ap (λ (t : State). batch_rows t.batches n) same) ∙ ap (λ (t : State). batch_rows t.batches n) state_is
      ∙ there in
      search (rules, sym none ∙ still)
