-- The order of what the tables represent.
use Rattle.std.specs.Prelude.{◌≡◌, ◌≢◌, ◌<◌, ◌^◌, List, [], length, Some, Ok}
use Rattle.std.specs.List.{AllByRecursion}
use Rattle.opc_import.specs.Files.{policy_of}
use Rattle.opc_import.specs.Lines.{policy_text}
use Rattle.opc_names.specs.Names.{IsPattern}
use Rattle.opc_policy_members.specs.declared.entry.Entry.{Entry}
use Rattle.opc_policy_members.specs.declared.profile.Profile.{Profile}
use Rattle.opc_policy_members.specs.Access.{entry_cmp}
use Rattle.opc_policy_members.specs.Members.{name_cmp, user_cmp, connect_cmp}
use Rattle.opc_policy_members.specs.Profiles.{profile_cmp}
use Rattle.opc_state.specs.declared.change.Batch.{Batch}
use Rattle.opc_state.specs.Members.{unit_cmp, device_cmp, console_cmp, reply_cmp, batch_cmp}
use Rattle.opc_state.specs.State.{State}
use Rattle.opc_store_sql.specs.Order.{Rises}

-- the places of its members are numbers that a table can hold
abbrev pub CanBeNumbered : {X : Type 0} → List X → Type 0
CanBeNumbered xs = length xs < 2 ^ 63

-- and so in the account and in the histories
abbrev pub AreNumbered : State → Type 0
AreNumbered s = CanBeNumbered s.account × CanBeNumbered s.board.answered × CanBeNumbered s.board.log
    × CanBeNumbered s.board.messages

-- the text of a batch has its rows
abbrev pub IsReadBack : Batch → Type 0
IsReadBack b = policy_of (policy_text b.rows) ≡ Ok b.rows

-- a console at which it counts alone has a name
abbrev pub IsNamed : Entry → Type 0
IsNamed e = e.when ≢ Some []

-- an access list in its order, whose consoles have names
abbrev pub IsAccessList : List Entry → Type 0
IsAccessList entries = Rises entry_cmp entries × AllByRecursion IsNamed entries

-- Each part is in the order of its names or numbers, none of which comes twice; patterns are patterns, consoles of
-- entries have names, and texts of batches are read back as they are.
pub record IsOrdered (s : State) : Type 0 where
  pub groups : Rises name_cmp s.policy.groups
  pub users : Rises user_cmp s.policy.users
  pub connects : Rises connect_cmp s.policy.connects
  pub profiles : Rises profile_cmp s.policy.profiles
  pub patterns : AllByRecursion (λ (p : Profile). IsPattern p.pattern) s.policy.profiles
  pub entries : AllByRecursion (λ (p : Profile). IsAccessList p.entries) s.policy.profiles
  pub units : Rises unit_cmp s.board.units
  pub devices : Rises device_cmp s.board.devices
  pub consoles : Rises console_cmp s.board.consoles
  pub replies : Rises reply_cmp s.board.replies
  pub batches : Rises batch_cmp s.batches
  pub read_back : AllByRecursion IsReadBack s.batches
  pub numbered : AreNumbered s
