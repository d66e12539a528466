-- How the command line is built, step by step, and what is known of it.
use Rattle.std.proofs.Common.{◌≡◌, ◌∙◌, ◌++◌, ◌∷◌, ℕ, List, [], ap, ap₂, refl, subst, drop, length, map, false, true, arith}
use Rattle.std.specs.Prelude.{◌||◌, Result, String, string_bytes}
use Rattle.std.specs.declared.alloc.Global.{Global}
use Rattle.clap.proofs.OnLiterals.{clap_on_literals}
use Rattle.clap.specs.Built.{AddsArg, AddsSubcommand}
use Rattle.clap.specs.Faults.{fault_of, is_simple_and_free}
use Rattle.clap.specs.Kinds.{FailsBy}
use Rattle.clap.specs.Simple.{App, HasMatchesOf, app_of, is_simple, subcommand_of, subcommand_rows_of, with_rule, with_subcommand}
use Rattle.clap.specs.Walk.{Rule, rule_of}
use Rattle.clap.specs.declared.builder.arg.Arg.{Arg}
use Rattle.clap.specs.declared.builder.command.Command.{Command}
use Rattle.clap.specs.declared.error.Error.{Error}
use Rattle.clap.specs.declared.parser.matches.ArgMatches.{ArgMatches}
use Rattle.opc_cli_words.specs.CommandLine.{IsCommand, command, command_line}
use Rattle.opc_cli_words.specs.Reading.{words_after}

-- one option more
pub one_option_more : (old new : Command) (arg : Arg) (name : List ℕ) (options : List Rule) (rule : Rule)
    → IsCommand old name options → rule_of arg ≡ rule → arg.global ≡ false → AddsArg old arg new → IsCommand new name (options ++ rule ∷ [])
one_option_more old new arg name options rule was is alone adds = record {
  app = adds.shape alone ∙ ap₂ with_rule was.app is;
  alone = adds.globals ∙ ap₂ (λ a b. a || b) was.alone alone;
}

-- one command more
pub one_command_more : (old new sub : Command) (app : App) (name : List ℕ) (options : List Rule)
    → app_of old ≡ app → IsCommand sub name options → AddsSubcommand old sub new → app_of new ≡ with_subcommand app (command name options)
one_command_more old new sub app name options was is adds = adds.shape is.alone ∙ ap₂ with_subcommand was (ap (λ (a : App). a.top) is.app)

is_simple_line : is_simple command_line ≡ true
unfolding clap_on_literals
is_simple_line = refl

is_free_line : is_simple_and_free command_line ≡ true
unfolding clap_on_literals
is_free_line = refl

-- if the arguments are those after the first of all that were given
module _ (built : Command) (is : app_of built ≡ command_line) (given after : List (String Global)) (rest : after ≡ drop 1 given) where
  same_words : map string_bytes after ≡ words_after given
  same_words = ap (map string_bytes) rest

  pub what_is_found : (found : ArgMatches) → HasMatchesOf (app_of built) (map string_bytes after) found
      → subcommand_rows_of found ≡ subcommand_of command_line (words_after given)
  what_is_found found has = (subst (λ a. HasMatchesOf a (map string_bytes after) found) is has is_simple_line).1 ∙ ap (subcommand_of command_line) same_words

  pub what_fails : {T : Type 0} (result : Result T Error)
      → (is_simple_and_free (app_of built) ≡ true → FailsBy (fault_of (app_of built) (map string_bytes after)) result)
      → FailsBy (fault_of command_line (words_after given)) result
  what_fails result fails =
      subst (λ words. FailsBy (fault_of command_line words) result) same_words
      (subst (λ a. is_simple_and_free a ≡ true → FailsBy (fault_of a (map string_bytes after)) result) is fails is_free_line)

-- the arguments after the first
pub none_after : {A : Type 0} (xs : List A) → length xs ≡ 0 → xs ≡ drop 1 xs
none_after [] none = refl
none_after (x ∷ xs) none = absurd (omega (arith, none))

pub rest_after : {A : Type 0} (xs : List A) (x : A) (rest : List A) → xs ≡ x ∷ rest → rest ≡ drop 1 xs
rest_after xs x rest is = rw is refl
