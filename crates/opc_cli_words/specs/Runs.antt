-- What the options of `run` mean, and how they are checked.
use Rattle.std.specs.Prelude.{◌≡◌, ◌||◌, ℕ, true, false, List, [], ◌∷◌, Option, codes, is_none, is_some, not}
use Rattle.std.specs.Borrow.{Bor}
use Rattle.std.specs.Option.{option_copied}
use Rattle.opc_cli_words.specs.Checks.{Check}
use Rattle.opc_cli_words.specs.Options.{console_option, is_set}
use Rattle.opc_cli_tasks.specs.declared.work.Lines.{Lines}
use Rattle.opc_cli_tasks.specs.declared.work.Lines.TheVariants.{Script, Now}
use Rattle.opc_cli_words.specs.declared.mistake.Mistake.TheVariants as wrong
use Rattle.opc_cli_words.specs.declared.mistake.Opt.TheVariants as opt

-- In these, `value` is what the arguments give an option, by its name.
module _ (value : List ℕ → Option (List ℕ)) where
  -- A console is named only for lines without one, and in a script each line has one.
  abbrev pub now_option : Check
  now_option = (
    wrong.Lacks opt.Console opt.Now,
    is_set value (codes "now") || not (is_some (value (codes "console"))),
  )

  -- Lines that are answered as they are read are those of the input.
  abbrev pub input_option : Check
  input_option = (wrong.TwoInputs, not (is_set value (codes "now")) || is_none (value (codes "file")))

  -- the checks of `run`
  abbrev pub run_checks : List Check
  run_checks = console_option value ∷ now_option ∷ input_option ∷ []

  -- Lines are answered as they are read, at the console that is named, if `--now` is given; otherwise as the script in
  -- the file that is named, or on the input.
  abbrev pub IsLines : Lines → Type 0
  IsLines (Script file) = (is_set value (codes "now") ≡ false) × (option_copied file ≡ value (codes "file"))
  IsLines (Now console) = (is_set value (codes "now") ≡ true) × (console ≡ value (codes "console"))

  -- the arguments of `run`
  abbrev pub IsRun : (policy : Option (Bor (List ℕ))) → Lines → (log : Option (Bor (List ℕ))) → Type 0
  IsRun policy lines log =
      (option_copied policy ≡ value (codes "policy")) × IsLines lines × (option_copied log ≡ value (codes "log"))
