-- The consoles that rows define, and what is in the way of a row.
use Rattle.std.proofs.Common.{
  ◌≡◌,
  ◌≢◌,
  ◌⊎◌,
  inl,
  inr,
  Bool,
  true,
  false,
  not,
  ◌&&◌,
  List,
  [],
  ◌∷◌,
  ◌++◌,
  Option,
  Some,
  None,
  refl,
  sym,
  ap,
  ◌∙◌,
}
use Rattle.std.specs.Option.{is_some}
use Rattle.opc_names.specs.declared.class.Class.{Class}
use Rattle.opc_names.specs.declared.class.Class.TheVariants.{Console}
use Rattle.opc_policy_members.specs.declared.policy.Policy.{Policy}
use Rattle.opc_policy_members.specs.declared.profile.Profile.{Profile}
use Rattle.opc_policy_members.specs.declared.row.Row.{Row}
use Rattle.opc_policy_members.specs.declared.row.Row.TheVariants as rows
use Rattle.opc_policy_members.specs.Profiles.{profile_of}
use Rattle.opc_policy_members.specs.Taken.{after_row, has_group, has_holder, has_user, policy_after, then_policy}
use Rattle.opc_board.specs.declared.board.BoardRows.{BoardRows}
use Rattle.opc_board.specs.declared.rows.ConsoleRow.{ConsoleRow}
use Rattle.opc_board.specs.Consoles.{console_defined, defined, new_console}
use Rattle.opc_board.specs.Invariants.{Name, console_at, console_before, has_master}
use Rattle.opc_machine.specs.Bootstrap.{consoles_after, mastered, with_rows_of}
use Rattle.opc_machine_laws.specs.EffectLaws.{OnlyConsoles}
use Rattle.opc_machine_laws.specs.RowLaws.{
  ConsoleIsDefined,
  ConsolesAreDefined,
  KeepsConsoles,
  RowObstaclesAreFaults,
  RowsAreTakenWithoutObstacle,
  RowsKeepAMasterOrAreRefused,
  RowsNeverDelete,
  row_obstacles,
}
use Rattle.opc_machine_laws.specs.TakingLaws.{AreDefined, AreTaken, with_console_of}
use Rattle.opc_machine_laws.proofs.AtNames.{comes, console_becomes}
use Rattle.opc_machine_laws.proofs.Hindering.{AreInTheWay, needing_way, nothing, unless_way}
use Rattle.opc_machine_laws.proofs.Keys.{which_name}
use Rattle.opc_machine_laws.proofs.Taking.{defined_back, rows_in_turn, taken_back}
use Rattle.opc_machine_laws.proofs.RowsKept.{all_keep}

-- consoles

pub consoles_defined : ConsolesAreDefined
consoles_defined name auth mode b = go (console_at b name) refl
  where
    go : (o : Option ConsoleRow) → console_at b name ≡ o → ConsoleIsDefined name auth mode b (defined name auth mode o b)
    go None at =
        let come = comes (λ (c : ConsoleRow). c.name) console_before b.consoles (new_console name auth mode) (ap is_some at) in
        record { kept = λ c there. absurd (cc); fresh = λ none. come.here; others = come.others; rest = refl }
    go (Some c) at =
        let new : ConsoleRow = record c { auth = auth; mode = mode } in
        let become = console_becomes name new (λ was now. now ≡ new) b c at refl refl in
        record {
          kept = λ d there. let same : c ≡ d = cc in become.0.here ∙ ap Some (become.0.changed ∙ ap (λ (e : ConsoleRow). record e {
            auth = auth;
            mode = mode;
          }) same);
          fresh = λ none. absurd (cc);
          others = become.0.others;
          rest = become.1;
        }

only_on : (a b c : BoardRows) → OnlyConsoles a b → OnlyConsoles b c → OnlyConsoles a c
only_on a b c one other = other ∙ ap (λ (x : BoardRows). record x { consoles = c.consoles }) one

consoles_on : (row : Row) (b : BoardRows) → KeepsConsoles b (with_console_of row b)
consoles_on (rows.Console name auth mode) b = record { consoles = λ other was. go other was (which_name other name); rest = is.rest }
  where
    is : ConsoleIsDefined name auth mode b (console_defined name auth mode b)
    is = consoles_defined name auth mode b

    made : (o : Option ConsoleRow) → console_at b name ≡ o → is_some (console_at (console_defined name auth mode b) name) ≡ true
    made None none = ap is_some (is.fresh none)
    made (Some c) at = ap is_some (is.kept c at)

    go : (other : Name) → is_some (console_at b other) ≡ true → (other ≡ name) ⊎ (other ≢ name)
        → is_some (console_at (console_defined name auth mode b) other) ≡ true
    go other was (inl same) = ap (λ n. is_some (console_at (console_defined name auth mode b) n)) same ∙ made (console_at b name) refl
    go other was (inr apart) = ap is_some (is.others other apart) ∙ was
consoles_on row b = record { consoles = λ other was. was; rest = refl }

all_consoles : (all : List Row) (old new : BoardRows) → AreDefined all old new → KeepsConsoles old new
all_consoles [] old new same = record {
  consoles = λ other was. ap (λ (b : BoardRows). is_some (console_at b other)) same ∙ was;
  rest = same ∙ ap (λ (b : BoardRows). record old { consoles = b.consoles }) (sym same);
}
all_consoles (row ∷ more) old new defined =
    let one = consoles_on row old in
    let later = all_consoles more (with_console_of row old) new defined in
    record { consoles = λ other was. later.consoles other (one.consoles other was); rest = only_on old (with_console_of row old) new one.rest later.rest }

pub never_delete : RowsNeverDelete
never_delete all s new stored written makes =
    let whole = (rows_in_turn all s new).0 makes in
    (all_keep all s.policy new.policy stored written whole.policy, all_consoles all s.board new.board whole.board)

-- what is in the way

row_ways : (p : Policy) (row : Row) → AreInTheWay (row_obstacles p row) (after_row row p)
row_ways p (rows.Class class on) = nothing _
row_ways p (rows.Group name) = unless_way (has_user p name) name [] _ (nothing _)
row_ways p (rows.User user) = unless_way (has_group p user.id) user.id [] _ (nothing _)
row_ways p (rows.Connect user group) = needing_way (has_user p user) user _ _ (needing_way (has_group p group) group [] _ (nothing _))
row_ways p (rows.Console name auth mode) = nothing _
row_ways p (rows.Profile class pattern uacc owner warning) = needing_way (has_user p owner) owner [] _ (nothing _)
row_ways p (rows.Permit class pattern id level when) =
    needing_way (is_some (profile_of p.profiles class pattern)) pattern _ _
    (needing_way (has_holder p id) id [] _ (nothing _))

pub without_obstacle : RowsAreTakenWithoutObstacle
without_obstacle row old none = (row_ways old row).done none

reached_so : (before rest : List Row) (old reached : Policy) → AreTaken before old reached → policy_after (before ++ rest) old ≡ policy_after rest reached
reached_so [] rest old reached same = ap (policy_after rest) (sym same)
reached_so (row ∷ before) rest old reached (next, takes, later) =
    ap (λ r. then_policy r (λ q. policy_after (before ++ rest) q)) takes ∙ reached_so before rest next reached later

pub row_obstacles_are_faults : RowObstaclesAreFaults
row_obstacles_are_faults before row more s reached fault taken first =
    ap (with_rows_of s (consoles_after (before ++ row ∷ more) s.board))
    (reached_so before (row ∷ more) s.policy reached taken ∙ ap (λ r. then_policy r (λ q. policy_after more q)) ((row_ways reached row).refused fault first))

lost : (old new : Bool) → ((old ≡ true → new ≡ true) → ⊥) → (old && not new) ≡ true
lost true true h = absurd (h (λ e. refl))
lost true false h = refl
lost false new h = absurd (h (λ e. absurd (cc)))

pub masters_or_refused : RowsKeepAMasterOrAreRefused
masters_or_refused all s policy board taken defined loses =
    let is : board ≡ consoles_after all s.board = defined_back all s.board board defined in
    ap (λ b. with_rows_of s b (policy_after all s.policy)) (sym is)
    ∙ ap (with_rows_of s board) (taken_back all s.policy policy taken)
    ∙ ap (λ b. mastered b (record s { policy = policy; board = board })) (lost (has_master s.board.consoles) (has_master board.consoles) loses)
