-- Rows of a first policy, taken one after another.
use Rattle.std.proofs.Common.{
  ◌≡◌,
  ◌<◌,
  ◌+◌,
  ℕ,
  Bool,
  true,
  false,
  List,
  [],
  ◌∷◌,
  ◌++◌,
  Option,
  Some,
  None,
  Result,
  Ok,
  Err,
  IfErr,
  IfOk,
  OnOk,
  take,
  get_or,
  length,
  is_some,
  not,
  ◌&&◌,
  append_assoc,
  filter,
  refl,
  sym,
  subst,
  ap,
  ap₂,
  ◌∙◌,
}
use Rattle.std.proofs.lemmas.List.{take_more, append-nil}
use Rattle.std.proofs.lemmas.List.Elements.{filter_map-append}
use Rattle.opc_terms.specs.declared.fault.Fault.{Fault}
use Rattle.opc_terms.specs.declared.fault.Fault.TheVariants.{LastMaster}
use Rattle.opc_policy_members.specs.declared.policy.Policy.{Policy}
use Rattle.opc_policy_members.specs.declared.row.Row.{Row}
use Rattle.opc_policy_members.specs.declared.row.Row.TheVariants as rows
use Rattle.opc_policy_members.specs.Profiles.{profile_of}
use Rattle.opc_policy_members.specs.Taken.{after_row, has_user, has_group, has_holder, unless, needing, policy_after, then_policy}
use Rattle.opc_board.specs.declared.board.BoardRows.{BoardRows}
use Rattle.opc_board.specs.declared.rows.ConsoleRow.{ConsoleRow}
use Rattle.opc_board.specs.Consoles.{defined}
use Rattle.opc_board.specs.Invariants.{IsBoard, console_at, console_before, device_before, has_master, reply_before, unit_before}
use Rattle.opc_board.specs.History.{History, after, history_of, without_history}
use Rattle.opc_board.specs.Footprint.{IsInOrder, Footprint, only, has_device_of, has_reply_of, has_unit_of}
use Rattle.opc_rows.specs.Ordered.{Ascends}
use Rattle.std.specs.List.{cons_option}
use Rattle.opc_state.specs.Footprints.{AreFootprints}
use Rattle.opc_state.specs.declared.change.Edit.{Edit}
use Rattle.opc_state.specs.State.{State}
use Rattle.opc_state.specs.Changes.{edited, all_edited, with_board}
use Rattle.opc_gate_imports.specs.RowEdits.{AreEditsOf, consoles_alone, HaveNothingNew, edit_of, edits_of}
use Rattle.opc_machine.specs.Bootstrap.{console_after, consoles_after, with_rows_of, with_rows, loses_master, mastered}

-- what follows from a success, or from a fault
pub if_ok_both : {V E R : Type 0} {P Q : V → Type 0} (r : Result V E) → ((v : V) → P v → R → Q v) → IfOk r P → OnOk r R → IfOk r Q
if_ok_both (Ok v) follows h k = follows v h k
if_ok_both (Err e) follows h k = tt

pub if_err : {V E : Type 0} {P Q : E → Type 0} (r : Result V E) → ((e : E) → P e → Q e) → IfErr r P → IfErr r Q
if_err (Ok v) follows h = tt
if_err (Err e) follows h = follows e h

pub consoles_steps : (one more : List Row) (b : BoardRows) → consoles_after (one ++ more) b ≡ consoles_after more (consoles_after one b)
consoles_steps [] more b = refl
consoles_steps (row ∷ one) more b = consoles_steps one more (console_after row b)

pub consoles_more : (all : List Row) (i : ℕ) (row : Row) (start b new : BoardRows) → i < length all
    → row ≡ get_or all i row → consoles_after (take i all) start ≡ b → new ≡ console_after row b
    → consoles_after (take (i + 1) all) start ≡ new
consoles_more all i row start b new low is was next =
    ap (λ xs. consoles_after xs start) (take_more all i row low ∙ ap (λ x. take i all ++ x ∷ []) (sym is))
    ∙ consoles_steps (take i all) (row ∷ []) start
    ∙ ap (console_after row) was
    ∙ sym next

-- consoles are defined on a live board as on any with its histories
defined_after : (past : History) (b : BoardRows) (found : Option ConsoleRow) (row : Row) → after past (console_after row b) ≡ console_after row (after past b)
defined_after past b found (rows.Console name auth mode) = go (console_at b name)
  where
    go : (o : Option ConsoleRow) → after past (defined name auth mode o b) ≡ defined name auth mode o (after past b)
    go None = refl
    go (Some console) = refl
defined_after past b found other = refl

pub past_consoles_after : (past : History) (all : List Row) (b : BoardRows) → after past (consoles_after all b) ≡ consoles_after all (after past b)
past_consoles_after past [] b = refl
past_consoles_after past (row ∷ all) b = past_consoles_after past all (console_after row b) ∙ ap (consoles_after all) (defined_after past b None row)

pub whole_board : (b : BoardRows) → after (history_of b) (without_history b) ≡ b
whole_board b = simp append-nil

pub consoles_whole : (b : BoardRows) (all : List Row) → after (history_of b) (consoles_after all (without_history b)) ≡ consoles_after all b
consoles_whole b all = past_consoles_after (history_of b) all (without_history b) ∙ ap (consoles_after all) (whole_board b)

-- ---- the edits of rows

pub edits_after : (edits more : List Edit) (s : State) → all_edited (edits ++ more) s ≡ all_edited more (all_edited edits s)
edits_after [] more s = refl
edits_after (e ∷ edits) more s = edits_after edits more (edited e s)

ok_is : (p q : Policy) → (let r : Result Policy Fault = Ok p in r) ≡ Ok q → p ≡ q
ok_is p q h = cc

not_err : (f : Fault) (q : Policy) → (let r : Result Policy Fault = Err f in r) ≡ Ok q → ⊥
not_err f q h = cc

-- if a test lets a row pass, its result holds
unless_ok : (b : Bool) (name : List ℕ) (made : Result Policy Fault) (q : Policy) → unless b name made ≡ Ok q → made ≡ Ok q
unless_ok true name made q h = absurd (not_err _ q h)
unless_ok false name made q h = h

needing_ok : (b : Bool) (name : List ℕ) (made : Result Policy Fault) (q : Policy) → needing b name made ≡ Ok q → made ≡ Ok q
needing_ok true name made q h = h
needing_ok false name made q h = absurd (not_err _ q h)

abbrev edits_all : Option Edit → State → State
edits_all None s = s
edits_all (Some e) s = edited e s

one_edit : (row : Row) (s : State) (q : Policy) → after_row row s.policy ≡ Ok q → edits_all (edit_of row) s ≡ record s { policy = q }
one_edit (rows.Class class active) s q h = ap (λ p. record s { policy = p }) (ok_is _ q h)
one_edit (rows.Group name) s q h = ap (λ p. record s { policy = p }) (ok_is _ q (unless_ok (has_user s.policy name) name _ q h))
one_edit (rows.User user) s q h = ap (λ p. record s { policy = p }) (ok_is _ q (unless_ok (has_group s.policy user.id) user.id _ q h))
one_edit (rows.Connect user group) s q h =
    ap (λ p. record s { policy = p }) (ok_is _ q
    (needing_ok (has_group s.policy group) group _ q (needing_ok (has_user s.policy user) user _ q h)))
one_edit (rows.Console name auth mode) s q h = ap (λ p. record s { policy = p }) (ok_is s.policy q h)
one_edit (rows.Profile class pattern uacc owner warning) s q h =
    ap (λ p. record s { policy = p }) (ok_is _ q (needing_ok (has_user s.policy owner) owner _ q h))
one_edit (rows.Permit class pattern id level when) s q h =
    ap (λ p. record s { policy = p }) (ok_is _ q
    (needing_ok (has_holder s.policy id) id _ q
    (needing_ok (is_some (profile_of s.policy.profiles class pattern)) pattern _ q h)))

pub rows_edited : (all : List Row) (s : State) (q : Policy) → policy_after all s.policy ≡ Ok q → all_edited (edits_of all) s ≡ record s { policy = q }
rows_edited [] s q h = ap (λ p. record s { policy = p }) (ok_is s.policy q h)
rows_edited (row ∷ all) s q h = go (after_row row s.policy) refl h (λ p. rows_edited all (record s { policy = p }) q)
  where
    first_edit : (o : Option Edit) → edit_of row ≡ o → all_edited (cons_option o (edits_of all)) s ≡ all_edited (edits_of all) (edits_all o s)
    first_edit None is = refl
    first_edit (Some e) is = refl

    go : (r : Result Policy Fault) → after_row row s.policy ≡ r → then_policy r (λ p. policy_after all p) ≡ Ok q
        → ((p : Policy) → policy_after all p ≡ Ok q → all_edited (edits_of all) (record s { policy = p }) ≡ record s { policy = q })
        → all_edited (cons_option (edit_of row) (edits_of all)) s ≡ record s { policy = q }
    go (Ok p) is h later = first_edit (edit_of row) refl ∙ ap (all_edited (edits_of all)) (one_edit row s p is) ∙ later p h
    go (Err f) is h later = absurd (not_err f q h)

pub edits_more : (all : List Row) (i : ℕ) (row : Row) (start now new : List Edit) (o : Option Edit) → i < length all
    → row ≡ get_or all i row → now ≡ start ++ edits_of (take i all) → o ≡ edit_of row → new ≡ now ++ cons_option o []
    → new ≡ start ++ edits_of (take (i + 1) all)
edits_more all i row start now new o low is was edit added =
    added
    ∙ ap₂ (λ one other. one ++ cons_option other []) was edit
    ∙ append_assoc start (edits_of (take i all)) (cons_option (edit_of row) [])
    ∙ ap (λ es. start ++ es) (sym (ap edits_of (take_more all i row low ∙ ap (λ x. take i all ++ x ∷ []) (sym is))
    ∙ filter_map-append edit_of (take i all) (row ∷ [])))

-- ---- what is made of a state

abbrev all_consoles : Footprint
all_consoles = record { units = λ _. false; devices = λ _. false; consoles = λ _. true; replies = λ _. false }

-- rows depend on consoles, and change them, alone
alone_defined : (row : Row) (b : BoardRows) → console_after row (consoles_alone b) ≡ consoles_alone (console_after row b)
alone_defined (rows.Console name auth mode) b = go (console_at b name)
  where
    go : (o : Option ConsoleRow) → defined name auth mode o (consoles_alone b) ≡ consoles_alone (defined name auth mode o b)
    go None = refl
    go (Some console) = refl
alone_defined other b = refl

alone_after : (all : List Row) (b : BoardRows) → consoles_after all (consoles_alone b) ≡ consoles_alone (consoles_after all b)
alone_after [] b = refl
alone_after (row ∷ all) b = ap (consoles_after all) (alone_defined row b) ∙ alone_after all (console_after row b)

bare_defined : (row : Row) (b : BoardRows) → console_after row (without_history b) ≡ without_history (console_after row b)
bare_defined (rows.Console name auth mode) b = go (console_at b name)
  where
    go : (o : Option ConsoleRow) → defined name auth mode o (without_history b) ≡ without_history (defined name auth mode o b)
    go None = refl
    go (Some console) = refl
bare_defined other b = refl

bare_after : (all : List Row) (b : BoardRows) → consoles_after all (without_history b) ≡ without_history (consoles_after all b)
bare_after [] b = refl
bare_after (row ∷ all) b = ap (consoles_after all) (bare_defined row b) ∙ bare_after all (console_after row b)

abbrev others : BoardRows → BoardRows
others b = record b { consoles = [] }

others_defined : (row : Row) (b : BoardRows) → others (console_after row b) ≡ others b
others_defined (rows.Console name auth mode) b = go (console_at b name)
  where
    go : (o : Option ConsoleRow) → others (defined name auth mode o b) ≡ others b
    go None = refl
    go (Some console) = refl
others_defined other b = refl

others_after : (all : List Row) (b : BoardRows) → others (consoles_after all b) ≡ others b
others_after [] b = refl
others_after (row ∷ all) b = others_after all (console_after row b) ∙ others_defined row b

none_kept : {R : Type 0} (rs : List R) → filter (λ _. false) rs ≡ []
none_kept [] = refl
none_kept (r ∷ rs) = none_kept rs

all_kept : {R : Type 0} (rs : List R) → filter (λ _. true) rs ≡ rs
all_kept [] = refl
all_kept (r ∷ rs) = ap (λ xs. r ∷ xs) (all_kept rs)

alone_is : (b : BoardRows) → consoles_alone b ≡ only all_consoles (without_history b)
alone_is b =
    ap₂ (λ us ds. record (consoles_alone b) { units = us; devices = ds }) (sym (none_kept b.units)) (sym (none_kept b.devices))
    ∙ ap₂ (λ cs rs. record (only all_consoles (without_history b)) { consoles = cs; replies = rs }) (sym (all_kept b.consoles)) (sym (none_kept b.replies))

-- the footprint of a state's board, and of the board that rows make of it
seen_so : (s : State) (all : List Row) (old new : BoardRows) → IsInOrder s.board → old ≡ consoles_alone s.board
    → new ≡ consoles_after all (consoles_alone s.board) → IsBoard new
    → AreFootprints old new s (without_history (consoles_after all s.board))
seen_so s all old new order old_is new_is sound =
    let whole = consoles_after all s.board in
    let rest : others whole ≡ others s.board = others_after all s.board in
    let alone : new ≡ consoles_alone whole = new_is ∙ alone_after all s.board in
    record {
      footprint = all_consoles;
      old_is = old_is ∙ alone_is s.board;
      new_is = alone ∙ alone_is whole;
      was = order;
      now = record {
        units = subst (Ascends unit_before) (sym (ap (λ b. b.units) rest)) order.units;
        devices = subst (Ascends device_before) (sym (ap (λ b. b.devices) rest)) order.devices;
        consoles = subst (Ascends console_before) (ap (λ b. b.consoles) alone) sound.consoles_rise;
        replies = subst (Ascends reply_before) (sym (ap (λ b. b.replies) rest)) order.replies;
      };
      left = record {
        units = ap (λ b. filter (λ u. not (has_unit_of all_consoles u)) b.units) rest;
        devices = ap (λ b. filter (λ d. not (has_device_of all_consoles d)) b.devices) rest;
        consoles = none_kept whole.consoles ∙ sym (none_kept s.board.consoles);
        replies = ap (λ b. filter (λ r. not (has_reply_of all_consoles r)) b.replies) rest;
      };
    }

-- with its histories it is the board that rows make
board_so : (s : State) (all : List Row) → with_board (without_history (consoles_after all s.board)) s ≡ record s { board = consoles_after all s.board }
board_so s all = ap (λ b. record s { board = after (history_of s.board) b }) (sym (bare_after all s.board))
    ∙ ap (λ b. record s { board = b }) (consoles_whole s.board all)

module _ (s : State) (all : List Row) (policy : Policy) (live : BoardRows) (policy_is : policy ≡ s.policy)
    (live_is : live ≡ consoles_alone s.board) (order : IsInOrder s.board) where
  pub refused_rows : (f : Fault) → policy_after all policy ≡ Err f → with_rows all s ≡ Err f
  refused_rows f h = ap (with_rows_of s (consoles_after all s.board)) (ap (policy_after all) (sym policy_is) ∙ h)

  module _ (q : Policy) (old new : BoardRows) (taken : policy_after all policy ≡ Ok q)
      (copy : old ≡ without_history live) (defines : new ≡ consoles_after all live) where
    new_is : new ≡ consoles_after all (consoles_alone s.board)
    new_is = defines ∙ ap (consoles_after all) live_is

    old_is : old ≡ consoles_alone s.board
    old_is = copy ∙ ap without_history live_is

    losing : loses_master s.board (consoles_after all s.board) ≡ loses_master old new
    losing = ap₂ (λ a b. has_master a && not (has_master b)) (sym (ap (λ b. b.consoles) old_is)) (sym (ap (λ b. b.consoles) (new_is ∙ alone_after all s.board)))

    comes : with_rows all s ≡ mastered (loses_master old new) (record s { policy = q; board = consoles_after all s.board })
    comes =
        ap (with_rows_of s (consoles_after all s.board)) (ap (policy_after all) (sym policy_is) ∙ taken)
        ∙ ap (λ b. mastered b (record s { policy = q; board = consoles_after all s.board })) losing

    pub lost_master : loses_master old new ≡ true → with_rows all s ≡ Err LastMaster
    lost_master h = comes ∙ ap (λ b. mastered b (record s { policy = q; board = consoles_after all s.board })) h

    pub made : loses_master old new ≡ false → (edits : List Edit) → AreEditsOf old new all edits → with_rows all s ≡ Ok (all_edited edits s)
    made kept edits are = comes ∙ ap (λ b. mastered b (record s { policy = q; board = consoles_after all s.board })) kept ∙ ap (λ t. Ok t) (sym edited_is)
      where
        edited_is : all_edited edits s ≡ record s { policy = q; board = consoles_after all s.board }
        edited_is =
            ap (λ es. all_edited es s) are.all
            ∙ edits_after are.first (edits_of all) s
            ∙ ap (all_edited (edits_of all))
            (are.becomes s (without_history (consoles_after all s.board))
            (seen_so s all old new order old_is new_is are.sound) ∙ board_so s all)
            ∙ rows_edited all (record s { board = consoles_after all s.board }) q (ap (policy_after all) (sym policy_is) ∙ taken)

-- rows with nothing new make no edits
pub nothing_new : (s : State) (all : List Row) (live old new : BoardRows) (edits : List Edit)
    → live ≡ consoles_alone s.board → IsInOrder s.board → old ≡ without_history live → new ≡ consoles_after all live
    → AreEditsOf old new all edits → HaveNothingNew all s → edits ≡ []
nothing_new s all live old new edits live_is order copy defines are none =
    let footprints = seen_so s all old new order (copy ∙ ap without_history live_is) (defines ∙ ap (consoles_after all) live_is) are.sound in
    let same : all_edited are.first s ≡ s = are.becomes s _ footprints ∙ board_so s all ∙ ap (λ b. record s { board = b }) none.board in
    are.all ∙ ap₂ (λ one other. one ++ other) (are.idle s _ footprints same) none.policy
