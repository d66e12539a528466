-- What is printed for a password, for the user who has it.
use Rattle.std.specs.Prelude.{◌≡◌, ◌++◌, ℕ, true, List, Some, codes}
use Rattle.opc_import.specs.Fields.{digest_of}
use Rattle.opc_machine.specs.Commands.{is_password}
use Rattle.opc_reader_commands.specs.Stretches.{folded}
use Rattle.opc_cli_digest.specs.Passwords.{digest_line}

-- What is printed is a line of digits, which a row of a policy file reads as a digest; and with this digest LOGON
-- accepts the password that was typed.
abbrev pub DigestsLogOn : Type 0
DigestsLogOn = (line : List ℕ) → (digits : List ℕ) × (digest_line (folded line) ≡ digits ++ codes "\n")
    × ((digest : List ℕ) × (digest_of digits ≡ Some (Some digest)) × (is_password (folded line) (Some digest) ≡ true))
