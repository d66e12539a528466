-- The outcome of an operation, by what it makes of a policy or of a state.
use Rattle.std.specs.Prelude.{◌≡◌, ◌&&◌, ℕ, Bool, true, false, List, [], ◌∷◌, Option, Some, None, Result, Ok, Err}
use Rattle.std.specs.Option.{option_map}
use Rattle.std.specs.Str.{bytes_eq}
use Rattle.opc_names.specs.declared.class.Class.{Class}
use Rattle.opc_names.specs.declared.level.Level.{Level}
use Rattle.opc_names.specs.Spellings.{auth_text, level_text}
use Rattle.opc_terms.specs.declared.fault.Fault.{Fault}
use Rattle.opc_terms.specs.declared.fault.Fault.TheVariants.{NotOwner, NotSpecial}
use Rattle.opc_terms.specs.declared.store_fault.StoreFault.{StoreFault}
use Rattle.opc_policy_members.specs.declared.policy.Policy.{Policy}
use Rattle.opc_policy_members.specs.declared.profile.Profile.{Profile}
use Rattle.opc_policy_members.specs.declared.user.User.{User}
use Rattle.opc_policy_members.specs.Access.{entry_level}
use Rattle.opc_terms.specs.Modes.{mode_text}
use Rattle.opc_policy_members.specs.Profiles.{profile_of}
use Rattle.opc_board.specs.declared.rows.ConsoleRow.{ConsoleRow}
use Rattle.opc_state.specs.declared.change.Edit.{Edit}
use Rattle.opc_state.specs.Difference.{same_flag}
use Rattle.opc_state.specs.Asked.{Loads}
use Rattle.opc_state.specs.Invariants.{IsKeyed}
use Rattle.opc_state.specs.Meaning.{Meaning}
use Rattle.opc_state.specs.State.{State}
use Rattle.opc_machine.specs.declared.outcome.Outcome.{Outcome}
use Rattle.opc_machine.specs.declared.outcome.Outcome.TheVariants.{Done, Refused}
use Rattle.opc_machine.specs.declared.operation.Operation.{Operation}
use Rattle.opc_machine.specs.declared.operation.Operation.TheVariants as operation
use Rattle.opc_machine.specs.Administration.{changed}
use Rattle.opc_machine.specs.Effects.{IsOutcome}
use Rattle.opc_machine.specs.Outcome.{StateOutcome, ◌>>=◌, does, or_refused, refused}
use Rattle.opc_machine.specs.Rights.{is_owner}

-- what is done if the policy becomes another one, or is left
abbrev pub policy_outcome : State → Result Policy Fault → StateOutcome
policy_outcome s (Ok p) = does (record s { policy = p }) [] None
policy_outcome s (Err fault) = refused fault None

-- and if the state does
abbrev pub state_outcome : Result State Fault → StateOutcome
state_outcome made = do
  new ← or_refused made
  does new [] None

-- If the tables are sure, and represent a state with each key once, this is the outcome of the operation.
abbrev pub ComesTo : {T : Type 0} → Meaning T → T → T → Result Outcome StoreFault → Operation → Type 0
ComesTo m old new result op = Loads m old new result
    (λ s o. IsKeyed s → IsOutcome s (state_outcome (changed s op)) o)

-- whether somebody owns the profile of a class and a pattern, if they are given
abbrev pub owns_profile : Policy → Option User → Option (Class × List ℕ) → Bool
owns_profile p user None = false
owns_profile p user (Some named) = is_owner user (profile_of p.profiles named.0 named.1)

-- the fault of those who lack the right to an operation, by the profile whose owner has it
abbrev pub fault_without : Option (Class × List ℕ) → Fault
fault_without None = NotSpecial
fault_without (Some named) = NotOwner

-- the operations on a profile and on its access list
abbrev pub is_of_profiles : Operation → Bool
is_of_profiles (operation.RDefine class pattern owner uacc warning) = true
is_of_profiles (operation.RAlter class pattern owner uacc warning) = true
is_of_profiles (operation.RDelete class pattern) = true
is_of_profiles (operation.Permit class pattern id level when) = true
is_of_profiles (operation.PermitDelete class pattern id when) = true
is_of_profiles other = false

-- an effect by one edit, without lines and without a rule
abbrev pub IsDoneBy : Edit → Outcome → Type 0
IsDoneBy edit (Done effect) = (effect.edits.items ≡ edit ∷ []) × (effect.lines ≡ []) × (effect.rule ≡ None)
IsDoneBy edit (Refused refusal) = ⊥

-- the level of the entry for an id in the access list of a profile, if there is such a profile
abbrev pub level_in : Policy → Class → List ℕ → List ℕ → Option (List ℕ) → Option (Option Level)
level_in p class pattern id when = option_map (λ (q : Profile). entry_level q.entries when id)
    (profile_of p.profiles class pattern)

-- whether a level is this one
abbrev pub has_level : Option Level → Level → Bool
has_level None level = false
has_level (Some held) level = bytes_eq (level_text held) (level_text level)

-- whether two profiles of one class and pattern are defined alike, whatever their access lists
abbrev pub same_definition : Profile → Profile → Bool
same_definition p q = bytes_eq p.owner q.owner
    && (bytes_eq (level_text p.uacc) (level_text q.uacc) && same_flag p.warning q.warning)

-- whether two consoles have one authority and one mode
abbrev pub same_setting : ConsoleRow → ConsoleRow → Bool
same_setting c d = bytes_eq (auth_text c.auth) (auth_text d.auth) && bytes_eq (mode_text c.mode) (mode_text d.mode)
