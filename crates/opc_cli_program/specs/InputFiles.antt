-- Files that operations read in the place of the standard input.
use Rattle.std.specs.Prelude.{◌≡◌, ◌+◌, ℕ, List, Option, IfSome, take}
use Rattle.opc_check.specs.Unread.{policy_limit}
use Rattle.opc_cli_script.specs.Scripts.{script_limit}
use Rattle.opc_cli_program.specs.declared.input_file.InputFile.{InputFile}
use Rattle.opc_cli_program.specs.declared.input_file.InputFile.TheVariants.{Script, Policy}

abbrev pub path_of : InputFile → List ℕ
path_of (Script path) = path.now
path_of (Policy path) = path.now

-- the most bytes that it may have
abbrev pub limit_of : InputFile → ℕ
limit_of (Script path) = script_limit
limit_of (Policy path) = policy_limit

-- What is read of a file, if what it holds is known: at most one byte past its limit.
abbrev pub AreBytesOf : (holds : List ℕ → Option (List ℕ)) → InputFile → List ℕ → Type 0
AreBytesOf holds file bytes = IfSome (holds (path_of file)) (λ all. bytes ≡ take (limit_of file + 1) all)
