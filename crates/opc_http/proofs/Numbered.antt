-- The row that an answer adds to the account is its last one.
use Rattle.std.proofs.Common.{◌≡◌, ◌∙◌, ◌++◌, ◌∷◌, ℕ, [], true, false, Some, None, Ok, Err, ap, inl, inr, length, refl, sym}
use Rattle.std.specs.Prelude.{Bool, IfOk, Option, Result, codes, if◌then◌else◌}
use Rattle.opc_terms.specs.declared.store_fault.StoreFault.{StoreFault}
use Rattle.opc_state.specs.Meaning.{Meaning}
use Rattle.opc_state.specs.State.{State}
use Rattle.opc_machine.specs.Outcome.{StateOutcome}
use Rattle.opc_machine.specs.Inputs.{Input}
use Rattle.opc_machine.specs.Machine.{Step, account_row, accounted, after, answer_of, is_warned, outcome}
use Rattle.opc_machine.specs.declared.request.Answer.{Answer}
use Rattle.opc_http.specs.Told.{IsLastRow, IsNumbered, has_row, row_code, row_rule}

no_row : (answer aborted : Answer) → answer ≡ aborted → has_row aborted ≡ false → has_row answer ≡ true → ⊥
no_row answer aborted is none adds = different (sym adds ∙ (ap has_row is ∙ none))
  where
    different : true ≡ false → ⊥
    different e = cc

module _ (s next : State) (moment : ℕ) (r : Input) (answer : Answer) where
  row_by : (o : StateOutcome) → answer ≡ answer_of o → next ≡ after s moment r o → has_row answer ≡ true
      → IsLastRow next s moment r answer (length next.account)
  row_by (Ok effect) answers becomes adds =
      let warned : is_warned effect.rule ≡ true = sym (ap has_row answers) ∙ adds in
      let to : next ≡ accounted (account_row s moment r (codes "WARN") effect.rule) effect.state =
      becomes ∙ ap (λ (w : Bool). if w then accounted (account_row s moment r (codes "WARN") effect.rule) effect.state else effect.state) warned in
      record {
        rows = effect.state.account;
        account = ap (λ (t : State). t.account) to
            ∙ ap (λ (a : Answer). effect.state.account ++ account_row s moment r (row_code a) (row_rule a) ∷ []) (sym answers);
        last = refl;
      }
  row_by (Err refusal) answers becomes adds = record {
    rows = s.account;
    account = ap (λ (t : State). t.account) becomes
        ∙ ap (λ (a : Answer). s.account ++ account_row s moment r (row_code a) (row_rule a) ∷ []) (sym answers);
    last = refl;
  }

  last_row : Step s moment r answer next → has_row answer ≡ true → IsLastRow next s moment r answer (length next.account)
  last_row (inl left) adds = elim left.aborts [
    | inl is ↦ absurd (no_row answer _ is refl adds)
    | inr is ↦ absurd (no_row answer _ is refl adds)
  ]
  last_row (inr (inl full)) adds = absurd (no_row answer _ full.answers refl adds)
  last_row (inr (inr done)) adds = row_by (outcome s r) done.answers done.becomes adds

  module _ {T : Type 0} (m : Meaning T) (new : T) (represented : m.represents new next) (step : Step s moment r answer next) where
    numbered : (adds : Bool) → has_row answer ≡ adds → (row : Option ℕ) → row ≡ (if adds then Some (length next.account) else None)
        → IsNumbered m new s moment r answer row
    numbered true adds None is = absurd (cc)
    numbered true adds (Some number) is = (next, represented, rw (some number (length next.account) is) (last_row step adds))
      where
        some : (a b : ℕ) → Some a ≡ Some b → a ≡ b
        some a b e = cc
    numbered false adds None is = adds
    numbered false adds (Some number) is = absurd (cc)

    pub number_told : (row : Result (Option ℕ) StoreFault)
        → IfOk row (λ n. n ≡ (if has_row answer then Some (length next.account) else None))
        → IfOk row (IsNumbered m new s moment r answer)
    number_told (Ok row) is = numbered (has_row answer) refl row is
    number_told (Err fault) is = tt
