-- What the tables represent is in the order of its keys.
use Rattle.std.proofs.Common.{◌≡◌, true, List, [], ◌∷◌, ap, Ordering, Less}
use Rattle.std.specs.Ordering.{is_lt}
use Rattle.sqlite_keyed.proofs.ListLemmas.{all_weaker}
use Rattle.opc_policy_members.specs.declared.entry.Entry.{Entry}
use Rattle.opc_policy_members.specs.declared.profile.Profile.{Profile}
use Rattle.opc_policy_members.specs.Access.{entry_cmp}
use Rattle.opc_policy_members.specs.Members.{user_cmp}
use Rattle.opc_policy_members.specs.Profiles.{profile_cmp}
use Rattle.opc_rows.specs.Ordered.{Ascends}
use Rattle.opc_state.specs.Invariants.{IsKeyed}
use Rattle.opc_state.specs.Members.{unit_cmp, device_cmp, console_cmp, reply_cmp}
use Rattle.opc_state.specs.State.{State}
use Rattle.opc_store_sql.specs.Order.{Rises}
use Rattle.opc_store_schema.specs.State.{IsOrdered, IsAccessList}

ascends : {X : Type 0} (cmp : X → X → Ordering) (xs : List X) → Rises cmp xs → Ascends (λ a b. is_lt (cmp a b)) xs
ascends cmp [] up = tt
ascends cmp (x ∷ xs) up = (all_weaker (λ y. cmp x y ≡ Less) (λ y. is_lt (cmp x y) ≡ true) (λ y h. ap is_lt h) xs up.0, ascends cmp xs up.1)

pub is_keyed : (s : State) → IsOrdered s → IsKeyed s
is_keyed s h = record {
  board = record {
    units = ascends unit_cmp s.board.units h.units;
    devices = ascends device_cmp s.board.devices h.devices;
    consoles = ascends console_cmp s.board.consoles h.consoles;
    replies = ascends reply_cmp s.board.replies h.replies;
  };
  users = ascends user_cmp s.policy.users h.users;
  profiles = ascends profile_cmp s.policy.profiles h.profiles;
  entries = all_weaker (λ (p : Profile). IsAccessList p.entries)
      (λ (p : Profile). Ascends (λ (e f : Entry). is_lt (entry_cmp e f)) p.entries)
      (λ p list. ascends entry_cmp p.entries list.0) s.policy.profiles h.entries;
}
