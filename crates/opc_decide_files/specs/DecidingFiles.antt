-- The policy that the bytes of a file are.
use Rattle.std.specs.Prelude.{ℕ, List, Option, Some, None, if◌then◌else◌, length, nat_lt, option_and_then, option_map}
use Rattle.std.specs.Result.{result_ok}
use Rattle.std.specs.Str.{is_utf8}
use Rattle.opc_policy_members.specs.declared.row.Row.{Row}
use Rattle.opc_policy_folder.specs.StateNames.{digits_of}
use Rattle.opc_import.specs.Files.{policy_of}
use Rattle.opc_check.specs.Unread.{policy_limit}
use Rattle.opc_state.specs.State.{State, empty}
use Rattle.opc_machine.specs.Bootstrap.{bootstrapped}
use Rattle.opc_decide_answers.specs.Decisions.{NamedState}

-- the text that they are, unless they are too many
abbrev pub text_of : List ℕ → Option (List ℕ)
text_of bytes = if is_utf8 bytes then Some bytes else None

abbrev pub text_in : (file : List ℕ) → Option (List ℕ)
text_in file = if nat_lt policy_limit (length file) then None else text_of file

-- the rows of a policy file
abbrev pub rows_of_text : Option (List ℕ) → Option (List Row)
rows_of_text None = None
rows_of_text (Some text) = result_ok (policy_of text)

abbrev pub rows_in : (file : List ℕ) → Option (List Row)
rows_in file = rows_of_text (text_in file)

-- what they make, if they make a policy, by its name: how the SHA-256 of the file begins
abbrev pub named : (name : List ℕ) → State → NamedState
named name s = record { state = s; name = name }

abbrev pub policy_of_rows : (name : List ℕ) → List Row → Option NamedState
policy_of_rows name rows = option_map (named name) (result_ok (bootstrapped rows empty))

abbrev pub policy_in : (file : List ℕ) → Option NamedState
policy_in file = option_and_then (policy_of_rows (digits_of file)) (rows_in file)
