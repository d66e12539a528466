-- Users by their digests.
use Rattle.std.specs.Prelude.{◌≡◌, ℕ, List, Option, Some, None}
use Rattle.std.specs.BTreeMap.{BTreeMap, get}
use Rattle.std.specs.Option.{option_and_then, option_map}
use Rattle.opc_policy_members.specs.declared.row.Row.{Row}
use Rattle.opc_policy_members.specs.declared.row.Row.TheVariants as rows
use Rattle.opc_policy_members.specs.declared.user.User.{User}
use Rattle.opc_policy_members.specs.Members.{name_cmp}
use Rattle.opc_check_notes.specs.declared.numbered.NumberedRow.{NumberedRow}
use Rattle.opc_check_notes.specs.First.{first_of, paired}

-- the user of a row
abbrev pub user_of : Row → Option User
user_of (rows.User user) = Some user
user_of row = None

-- a user's digest, with the user
abbrev pub digest_of : User → Option (List ℕ × List ℕ)
digest_of user = option_map (λ (digest : List ℕ). (digest, user.id)) user.digest

abbrev pub digest_at : Row → Option (List ℕ × List ℕ)
digest_at row = option_and_then digest_of (user_of row)

-- the first user of these rows that has a digest
abbrev pub first_with : List NumberedRow → List ℕ → Option (List ℕ)
first_with list digest = first_of (λ (at : NumberedRow). paired digest (digest_at at.row)) list

-- a map has those users
abbrev pub HasDigests : List NumberedRow → BTreeMap (List ℕ) (List ℕ) → Type 0
HasDigests list map = (digest : List ℕ) → get name_cmp map digest ≡ first_with list digest
