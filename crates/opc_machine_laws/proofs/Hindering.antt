-- What is in the way of an operation of administration.
use Rattle.std.proofs.Common.{◌≡◌, inl, inr, ℕ, Bool, true, false, not, ◌&&◌, is_some, List, [], ◌∷◌, Some, None, Result, Ok, Err, refl, rules, ap, ◌∙◌}
use Rattle.opc_terms.specs.declared.fault.Fault.{Fault}
use Rattle.opc_terms.specs.declared.fault.Fault.TheVariants.{Exists, InUse, Missing}
use Rattle.opc_policy_members.specs.declared.policy.Policy.{Policy}
use Rattle.opc_policy_members.specs.Profiles.{profile_of}
use Rattle.opc_policy_members.specs.Taken.{has_group, has_holder, has_user, needing, unless}
use Rattle.opc_board.specs.Invariants.{has_master}
use Rattle.opc_state.specs.Loads.{is_connected}
use Rattle.opc_state.specs.State.{State}
use Rattle.opc_machine.specs.declared.operation.Operation.{Operation}
use Rattle.opc_machine.specs.declared.operation.Operation.TheVariants as operation
use Rattle.opc_machine.specs.Administration.{board_changed, changed, has_name, is_in_use, is_permitted, policy_changed, unless_in_use}
use Rattle.opc_machine.specs.Bootstrap.{loses_master, mastered, with_rows_of}
use Rattle.opc_machine_laws.specs.ObstacleLaws.{IsDoneOrLastMaster, ObstaclesAreFaults, OperationsAreDoneWithoutObstacle, first_obstacle, obstacles}
use Rattle.opc_machine_laws.specs.TakingLaws.{IsDoneTo}
use Rattle.opc_machine_laws.proofs.Taking.{done_to, kept_master}

-- these are all that is in the way
pub record AreInTheWay (all : List (Bool × Fault)) (r : Result Policy Fault) : Type 0 where
  pub refused : (f : Fault) → first_obstacle all ≡ Some f → r ≡ Err f
  pub done : first_obstacle all ≡ None → (p : Policy) × (r ≡ Ok p)

pub nothing : (p : Policy) → AreInTheWay [] (Ok p)
nothing p = record { refused = λ f h. absurd (search (rules, h)); done = λ _. (p, refl) }

pub unless_way : (b : Bool) (name : List ℕ) (all : List (Bool × Fault)) (r : Result Policy Fault) → AreInTheWay all r
    → AreInTheWay ((b, Exists name) ∷ all) (unless b name r)
unless_way true name all r way = record { refused = λ f h. ap Err (search (rules, h)); done = λ h. absurd (search (rules, h)) }
unless_way false name all r way = record { refused = way.refused; done = way.done }

pub needing_way : (b : Bool) (name : List ℕ) (all : List (Bool × Fault)) (r : Result Policy Fault) → AreInTheWay all r
    → AreInTheWay ((not b, Missing name) ∷ all) (needing b name r)
needing_way true name all r way = record { refused = way.refused; done = way.done }
needing_way false name all r way = record { refused = λ f h. ap Err (search (rules, h)); done = λ h. absurd (search (rules, h)) }

in_use_way : (b : Bool) (id : List ℕ) (all : List (Bool × Fault)) (r : Result Policy Fault) → AreInTheWay all r
    → AreInTheWay ((b, InUse id) ∷ all) (unless_in_use b id r)
in_use_way true id all r way = record { refused = λ f h. ap Err (search (rules, h)); done = λ h. absurd (search (rules, h)) }
in_use_way false id all r way = record { refused = way.refused; done = way.done }

ways : (s : State) (o : Operation) → AreInTheWay (obstacles s o) (policy_changed s.board o s.policy)
ways s (operation.AddUser id special auditor digest restricted) = unless_way (has_name s.policy id) id [] _ (nothing _)
ways s (operation.AltUser id special auditor revoked digest restricted) = needing_way (has_user s.policy id) id [] _ (nothing _)
ways s (operation.DelUser id) = needing_way (has_user s.policy id) id _ _ (in_use_way (is_in_use s.policy s.board id) id [] _ (nothing _))
ways s (operation.AddGroup name) = unless_way (has_name s.policy name) name [] _ (nothing _)
ways s (operation.Connect user group) =
    needing_way (has_user s.policy user) user _ _
    (needing_way (has_group s.policy group) group _ _
    (unless_way (is_connected s.policy user group) group [] _ (nothing _)))
ways s (operation.Remove user group) =
    needing_way (has_user s.policy user) user _ _
    (needing_way (has_group s.policy group) group _ _
    (needing_way (is_connected s.policy user group) group [] _ (nothing _)))
ways s (operation.RDefine class pattern owner uacc warning) =
    unless_way (is_some (profile_of s.policy.profiles class pattern)) pattern _ _ (needing_way (has_user s.policy owner) owner [] _ (nothing _))
ways s (operation.RAlter class pattern owner uacc warning) =
    needing_way (is_some (profile_of s.policy.profiles class pattern)) pattern _ _ (needing_way (has_user s.policy owner) owner [] _ (nothing _))
ways s (operation.RDelete class pattern) = needing_way (is_some (profile_of s.policy.profiles class pattern)) pattern [] _ (nothing _)
ways s (operation.Permit class pattern id level when) =
    needing_way (is_some (profile_of s.policy.profiles class pattern)) pattern _ _ (needing_way (has_holder s.policy id) id [] _ (nothing _))
ways s (operation.PermitDelete class pattern id when) =
    needing_way (is_some (profile_of s.policy.profiles class pattern)) pattern _ _
    (needing_way (is_permitted s.policy class pattern id when) id [] _ (nothing _))
ways s (operation.ClassActive class active) = nothing _
ways s (operation.DefineConsole name auth mode) = nothing _

pub obstacles_are_faults : ObstaclesAreFaults
obstacles_are_faults s o f h = ap (with_rows_of s (board_changed o s.board)) ((ways s o).refused f h)

pub lost_master : (old new : Bool) → (old && not new) ≡ true → (old ≡ true → new ≡ true) → ⊥
lost_master true true lost kept = search (rules, lost)
lost_master true false lost kept = let no : false ≡ true = kept refl in search (rules, no)
lost_master false new lost kept = search (rules, lost)

pub done_without_obstacle : OperationsAreDoneWithoutObstacle
done_without_obstacle s o none = go (loses_master s.board (board_changed o s.board)) refl
  where
    made : (p : Policy) × (policy_changed s.board o s.policy ≡ Ok p)
    made = (ways s o).done none

    new : State
    new = record s { policy = made.0; board = board_changed o s.board }

    comes : changed s o ≡ mastered (loses_master s.board (board_changed o s.board)) new
    comes = ap (with_rows_of s (board_changed o s.board)) made.1

    done : IsDoneTo s o new
    done = done_to s o new made.0 made.1 refl

    go : (lost : Bool) → loses_master s.board (board_changed o s.board) ≡ lost → IsDoneOrLastMaster s o
    go true lost = record {
      new = new;
      done = done;
      ends = inr (lost_master (has_master s.board.consoles) (has_master (board_changed o s.board).consoles) lost, comes ∙ ap (λ b. mastered b new) lost);
    }
    go false kept = record {
      new = new;
      done = done;
      ends = inl (kept_master (has_master s.board.consoles) (has_master (board_changed o s.board).consoles) kept, comes ∙ ap (λ b. mastered b new) kept);
    }
