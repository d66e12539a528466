-- A request handled, from the decision and what the commit promises.
use Rattle.std.proofs.Common.{◌≡◌, ◌⊎◌, inl, inr, ℕ, true, false, ◌&&◌, List, [], ◌∷◌, ◌++◌, Option, Some, None, refl, sym, ap, ◌∙◌, rules}
use Rattle.std.specs.Option.{is_none}
use Rattle.opc_state.specs.Meaning.{Meaning}
use Rattle.opc_state.specs.State.{State, Fits}
use Rattle.opc_state.specs.Changes.{edited, all_edited, with_account, changed_by, no_edits, is_nothing}
use Rattle.opc_state.specs.declared.account.AccountRow.{AccountRow}
use Rattle.opc_state.specs.declared.change.Change.{Change}
use Rattle.opc_state.specs.declared.change.Edit.{Edit}
use Rattle.opc_state.specs.declared.change.Edit.TheVariants.{SetHalted}
use Rattle.opc_machine.specs.declared.request.Answer.{Answer}
use Rattle.opc_machine.specs.Inputs.{Input}
use Rattle.opc_machine.specs.Machine.{IsAborted, outcome, after}
use Rattle.opc_gate.specs.Handling.{IsDecision, IsHandled, IsNothingWhereSame}

-- a row more is another list
one_more : {R : Type 0} (rows : List R) (row : R) → rows ++ row ∷ [] ≡ rows → ⊥
one_more [] row h = cc
one_more (r ∷ rows) row h =
    let rest : rows ++ row ∷ [] ≡ rows = cc in
    one_more rows row rest

-- no edit touches the account
account_kept : (e : Edit) (s : State) → (edited e s).account ≡ s.account
account_kept (SetHalted halted) s = refl
account_kept other s = refl

accounts_kept : (edits : List Edit) (s : State) → (all_edited edits s).account ≡ s.account
accounts_kept [] s = refl
accounts_kept (e ∷ edits) s = accounts_kept edits (edited e s) ∙ account_kept e s

-- edits and a row that leave the state as it is are nothing, if the edits are nothing then
pub nothing_changed : (edits : List Edit) (account : Option AccountRow) (s : State)
    → (all_edited edits s ≡ s → edits ≡ []) → with_account account (all_edited edits s) ≡ s
    → (no_edits edits && is_none account) ≡ true
nothing_changed edits None s idle same = ap (λ es. no_edits es && true) (idle same)
nothing_changed edits (Some row) s idle same =
    absurd (one_more s.account row (ap (λ rows. rows ++ row ∷ []) (sym (accounts_kept edits s))
    ∙ ap (λ t. t.account) same))

nothing_changes : (c : Change) (s : State) → is_nothing c ≡ true → changed_by c s ≡ s
nothing_changes c s none = search rules

-- what has something to write changes the state
pub some_change : (s : State) (moment : ℕ) (r : Input) (answer : Answer) (c : Change) → IsDecision s moment r answer c
    → IsNothingWhereSame s c → is_nothing c ≡ false → after s moment r (outcome s r) ≡ s → ⊥
some_change s moment r answer c d idle something same =
    let none : is_nothing c ≡ true = idle (d.becomes ∙ same) in
    cc

module _ {T : Type 0} (m : Meaning T) where
  pub aborted : (old new : T) (s : State) (moment : ℕ) (r : Input) (answer : Answer) → IsAborted answer → m.represents new s
      → ((left : State) → m.may_leave new left → m.may_leave old left ⊎ (left ≡ after s moment r (outcome s r)))
      → (after s moment r (outcome s r) ≡ s → (left : State) → m.may_leave new left → m.may_leave old left)
      → IsHandled m old new s moment r answer
  aborted old new s moment r answer gives represented crash idle = record {
    next = s;
    step = inl (record { aborts = gives; same = refl });
    represented = represented;
    crash = crash;
    idle = idle;
    acknowledged = λ answered. absurd (answered gives);
  }

  pub unwritten : (tables : T) (s : State) (moment : ℕ) (r : Input) (answer : Answer) (c : Change)
      → IsDecision s moment r answer c → is_nothing c ≡ true → m.represents tables s
      → IsHandled m tables tables s moment r answer
  unwritten tables s moment r answer c d none represented = record {
    next = s;
    step = inr (inr (record { answers = d.answers; becomes = sym (nothing_changes c s none) ∙ d.becomes; fits = λ h. h }));
    represented = represented;
    crash = λ left h. inl h;
    idle = λ same left h. h;
    acknowledged = λ answered. inr (refl, λ left h. h);
  }

  pub written : (old new : T) (s : State) (moment : ℕ) (r : Input) (answer : Answer) (c : Change)
      → IsDecision s moment r answer c → IsNothingWhereSame s c → is_nothing c ≡ false → m.represents new (changed_by c s)
      → (Fits s → Fits (changed_by c s))
      → ((left : State) → m.may_leave new left → m.may_leave old left ⊎ (left ≡ changed_by c s))
      → ((left : State) → m.may_leave new left → left ≡ changed_by c s)
      → IsHandled m old new s moment r answer
  written old new s moment r answer c d nothing something represented fits crash acknowledged = record {
    next = changed_by c s;
    step = inr (inr (record { answers = d.answers; becomes = d.becomes; fits = fits }));
    represented = represented;
    crash = λ left h. elim (crash left h) [ inl before ↦ inl before | inr is ↦ inr (is ∙ d.becomes) ];
    idle = λ same. absurd (some_change s moment r answer c d nothing something same);
    acknowledged = λ answered. inl acknowledged;
  }

  -- a request is handled if a crash could leave no more before
  pub handled_since : (old mid new : T) (s : State) (moment : ℕ) (r : Input) (answer : Answer) → ((left : State) → m.may_leave mid left → m.may_leave old left)
      → IsHandled m mid new s moment r answer → IsHandled m old new s moment r answer
  handled_since old mid new s moment r answer before h = record {
    next = h.next;
    step = h.step;
    represented = h.represented;
    crash = λ left l. elim (h.crash left l) [ inl was ↦ inl (before left was) | inr is ↦ inr is ];
    idle = λ same left l. before left (h.idle same left l);
    acknowledged = λ answered. elim (h.acknowledged answered) [ inl alone ↦ inl alone | inr same ↦ inr (same.0, λ left l. before left (same.1 left l)) ];
  }
