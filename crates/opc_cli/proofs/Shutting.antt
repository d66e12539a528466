-- What a crash leaves at a request, or a fault of the disk that closes the tables, and what happens to the requests
-- after it.
use Rattle.std.proofs.Common.{
  ◌≡◌,
  ◌∙◌,
  ◌⊎◌,
  inl,
  inr,
  ℕ,
  zero,
  suc,
  ◌+◌,
  ◌^◌,
  ◌≤◌,
  ◌<◌,
  List,
  [],
  ◌∷◌,
  ◌++◌,
  length,
  length-append,
  Option,
  Ok,
  Err,
  refl,
  sym,
  ap,
  subst,
  arith,
}
use Rattle.sqlite_disk.specs.declared.Disk as disk
use Rattle.sqlite_trees.specs.declared.store.Store.{Ghosts}
use Rattle.sqlite_trees.specs.Tree.{Trees}
use Rattle.sqlite.specs.Held.{Held, state}
use Rattle.sqlite.specs.Files.{over_files}
use Rattle.opc_terms.specs.declared.fault.Fault.{Fault}
use Rattle.opc_terms.specs.declared.rule.Rule.{Rule}
use Rattle.opc_state.specs.declared.account.AccountRow.{AccountRow}
use Rattle.opc_state.specs.State.{State, Fits, empty}
use Rattle.opc_machine.specs.declared.request.Answer.{Answer}
use Rattle.opc_machine.specs.declared.request.Answer.TheVariants.{Done, Refused}
use Rattle.opc_machine.specs.Inputs.{Input}
use Rattle.opc_machine.specs.Machine.{IsAborted, Step, after, answer_of, outcome}
use Rattle.opc_machine.specs.Outcome.{StateOutcome}
use Rattle.opc_machine_laws.proofs.Leaving.{leaves_rest}
use Rattle.opc_store_schema.specs.Represented.{AreTablesOf}
use Rattle.opc_store_schema.proofs.Decoded.{one_state}
use Rattle.opc_store_schema.proofs.Opened.{alone_from}
use Rattle.opc_store.specs.StoreTables.{IsShut, IsSure, MayLeave, RepresentsIfOpen}
use Rattle.opc_cli.proofs.Apart.{apart}
use Rattle.opc_cli.specs.Shut.{IsHandledOver, MayBeRefused, RequestsAreLeftWhole, ShutTablesGiveUp, ShutTablesStay}

-- ---- states with long accounts

some_row : AccountRow
some_row = record { moment = 0; console = []; user = []; code = []; rule = [] }

abbrev rows : ℕ → List AccountRow
rows zero = []
rows (suc n) = some_row ∷ rows n

many : (n : ℕ) → length (rows n) ≡ n
many zero = refl
many (suc n) = ap suc (many n)

abbrev accounting : ℕ → State
accounting n = record empty { account = rows n }

-- one that is longer than this account is not that of this state
longer : (n : ℕ) (s : State) → length s.account < n → accounting n ≡ s → ⊥
longer n s less is = let same : length (rows n) ≡ length s.account = ap (λ (t : State). length t.account) is in absurd (omega (arith, many n, same, less))

-- ---- no request makes an account shorter

longer_by : (old : List AccountRow) (row : AccountRow) (new : List AccountRow) → new ≡ old ++ row ∷ [] → length old ≤ length new
longer_by old row new is = let more : length new ≡ length old + 1 = ap length is ∙ length-append old (row ∷ []) in omega (arith, more)

refused_grows : (s : State) (moment : ℕ) (r : Input) (fault : Fault) (rule : Option Rule) (o : StateOutcome)
    → Refused fault rule ≡ answer_of o → length s.account ≤ length (after s moment r o).account
refused_grows s moment r fault rule (Ok effect) is = absurd cc
refused_grows s moment r fault rule (Err refusal) is = longer_by s.account _ _ refl

same_length : (s next : State) → next ≡ s → length s.account ≤ length next.account
same_length s next is = let same : length next.account ≡ length s.account = ap (λ (t : State). length t.account) is in omega (arith, same)

grows : (s : State) (moment : ℕ) (r : Input) (answer : Answer) (next : State) → Step s moment r answer next → length s.account ≤ length next.account
grows s moment r (Done lines rule) next step = elim (leaves_rest s moment r lines rule next step).account [
  | inl added ↦ longer_by s.account _ next.account added.1
  | inr as_it_was ↦ (let same : length next.account ≡ length s.account = ap length as_it_was.1 in omega (arith, same))
]
grows s moment r (Refused fault rule) next (inl left) = same_length s next left.same
grows s moment r (Refused fault rule) next (inr (inl full)) = same_length s next full.same
grows s moment r (Refused fault rule) next (inr (inr done)) =
    subst (λ (t : State). length s.account ≤ length t.account) (sym done.becomes) (refused_grows s moment r fault rule (outcome s r) done.answers)

-- The outcome of a request has no shorter account, even if there is no number for its rows.
after_grows : (n : ℕ) (moment : ℕ) (r : Input) → 2 ^ 63 ≤ n → n ≤ length (after (accounting n) moment r (outcome (accounting n) r)).account
after_grows n moment r high =
    let s = accounting n in
    let unfit : Fits s → Fits (after s moment r (outcome s r)) =
    λ fits. absurd (let few : length (rows n) < 2 ^ 63 = fits.account in omega (arith, few, many n, high)) in
    let more = grows s moment r (answer_of (outcome s r)) (after s moment r (outcome s r)) (inr (inr (record {
      answers = refl;
      becomes = refl;
      fits = unfit;
    }))) in
    omega (arith, more, many n)

too_long : (moment : ℕ) (r : Input) (n : ℕ) (left : State) → 2 ^ 63 ≤ n → length left.account < n
    → left ≡ after (accounting n) moment r (outcome (accounting n) r) → ⊥
too_long moment r n left high less is =
    let alike : length left.account ≡ length (after (accounting n) moment r (outcome (accounting n) r)).account = ap (λ (t : State). length t.account) is in
    absurd (omega (arith, alike, less, after_grows n moment r high))

module _ {S : Type 0} (g : Ghosts S) where
  module _ (old new : Held S) (moment : ℕ) (r : Input) (answer : Answer) (handled : IsHandledOver g old new moment r answer) (clean : IsSure g new) where
    -- ---- closed tables are those of every state

    module _ (shut : IsShut g old) where
      every : (s : State) → RepresentsIfOpen g old s
      every s is_open = absurd (shut is_open)

      still_shut : IsShut g new
      still_shut is_open =
          let one = handled clean empty (every empty) in
          let n = suc (length one.next.account) in
          let two = handled clean (accounting n) (every (accounting n)) in
          let same = one_state (state g new).now.trees one.next two.next
          (alone_from (state g new).now one.next (one.represented is_open))
          (alone_from (state g new).now two.next (two.represented is_open)) in
          let alike : length one.next.account ≡ length two.next.account = ap (λ (t : State). length t.account) same in
          let more : length (rows n) ≤ length two.next.account = grows (accounting n) moment r answer two.next two.step in
          absurd (omega (arith, many n, alike, more))

      nothing_new : (left : State) → MayLeave g new left → MayLeave g old left
      nothing_new left may =
          let n = 2 ^ 63 + suc (length left.account) in
          elim ((handled clean (accounting n) (every (accounting n))).crash left may) [
            | inl before ↦ before
            | inr is ↦ absurd (too_long moment r n left (omega arith) (omega arith) is)
          ]

      aborted : MayBeRefused r → IsAborted answer
      aborted may =
          let it = apart r may in
          it.2 moment answer _ _ (handled clean it.0 (every it.0)).step (handled clean it.1 (every it.1)).step

    -- ---- a crash at the request

    module _ (s : State) (was : RepresentsIfOpen g old s) (alone : (left : State) → MayLeave g old left → left ≡ s)
        (trees : Trees) (may : (state g new).may_leave trees) where
      abbrev next : State
      next = after s moment r (outcome s r)

      one_of : (left : State) → MayLeave g new left → (left ≡ s) ⊎ (left ≡ next)
      one_of left it = elim ((handled clean s was).crash left it) [ inl before ↦ inl (alone left before) | inr is ↦ inr is ]

      -- trees that are tables of neither are tables of no state,
      none : ¬ (AreTablesOf trees s ⊎ AreTablesOf trees next) → (t : State) → AreTablesOf trees t → ⊥
      none never t are = elim (one_of t (clean, trees, may, λ u those. one_state trees u t those are)) [
        | inl is ↦ never (inl (subst (AreTablesOf trees) is are))
        | inr is ↦ never (inr (subst (AreTablesOf trees) is are))
      ]

      -- so they would be left for one that is neither, too
      left_whole : ¬ ¬ (AreTablesOf trees s ⊎ AreTablesOf trees next)
      left_whole never =
          let n = suc (length s.account + length next.account) in
          elim (one_of (accounting n) (clean, trees, may, λ t are. absurd (none never t are))) [
            | inl is ↦ longer n s (omega arith) is
            | inr is ↦ longer n next (omega arith) is
          ]

  pub stay : ShutTablesStay g
  stay old new moment r answer handled clean shut =
      (still_shut old new moment r answer handled clean shut, nothing_new old new moment r answer handled clean shut)

  pub give_up : ShutTablesGiveUp g
  give_up old new moment r answer handled clean shut may = aborted old new moment r answer handled clean shut may

module _ {D : Type 0} (g : disk.Ghosts D) where
  pub left_whole_files : RequestsAreLeftWhole g
  left_whole_files old new s moment r answer handled was alone clean trees may =
      let whole = left_whole over_files old new moment r answer handled clean s was alone trees may in
      record {
        are = whole;
        found = λ image holds are_made again opening sure never. whole (elim [
          | inl are ↦ never (inl (opening.found sure trees holds s are))
          | inr are ↦ never (inr (opening.found sure trees holds (after s moment r (outcome s r)) are))
        ]);
      }
