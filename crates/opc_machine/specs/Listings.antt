-- Listings of profiles and of the account.
use Rattle.std.specs.Prelude.{ℕ, Bool, true, false, not, List, [], ◌∷◌, None, codes, filter, map}
use Rattle.std.specs.Fmt.{decimal}
use Rattle.opc_names.specs.Spellings.{level_text}
use Rattle.opc_names.specs.declared.class.Class.{Class}
use Rattle.opc_terms.specs.declared.fault.Fault.TheVariants.{NotSpecial}
use Rattle.opc_policy_members.specs.declared.profile.Profile.{Profile}
use Rattle.opc_policy_members.specs.Profiles.{of_class}
use Rattle.opc_board.specs.declared.line.Line.{Line}
use Rattle.opc_board.specs.Texts.{columns, plain}
use Rattle.opc_state.specs.declared.account.AccountRow.{AccountRow}
use Rattle.opc_state.specs.Loads.{asked_for}
use Rattle.opc_state.specs.State.{State}
use Rattle.opc_machine.specs.Outcome.{StateOutcome, ◌>>=◌, does, refuse_if}
use Rattle.opc_machine.specs.Rights.{account_shown, console_asking, profile_shown}

abbrev pub warning_columns : Bool → List (List ℕ)
warning_columns true = codes "WARNING" ∷ []
warning_columns false = []

-- a profile's line: its pattern, universal access, owner, and whether it only warns
abbrev pub profile_line : Profile → Line
profile_line p =
    plain (columns (p.pattern ∷ codes "UACC" ∷ level_text p.uacc ∷ codes "OWNER" ∷ p.owner ∷ warning_columns p.warning))

-- The profiles of a class, in their order, those that may be shown at the console.
abbrev pub profiles_outcome : State → List ℕ → Class → StateOutcome
profiles_outcome s name class = do
  c ← console_asking s name
  does s (map profile_line (filter (profile_shown s c) (of_class class s.policy.profiles))) None

abbrev pub account_line : ℕ × AccountRow → Line
account_line (number, row) =
    plain (columns (decimal number ∷ decimal row.moment ∷ row.console ∷ row.user ∷ row.code ∷ row.rule ∷ []))

-- Rows of the account, if it may be shown at the console.
abbrev pub account_outcome : State → List ℕ → ℕ → ℕ → StateOutcome
account_outcome s name from count = do
  c ← console_asking s name
  _ ← refuse_if NotSpecial None (not (account_shown s c))
  does s (map account_line (asked_for from count s.account)) None
