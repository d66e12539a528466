-- What is read from the arguments, by what `clap` makes of them.
use Rattle.std.proofs.Common.{◌≡◌, ◌∙◌, ◌⊎◌, ℕ, List, [], ◌∷◌, Option, None, inl, inr, refl, subst, sym}
use Rattle.std.specs.Prelude.{Bool, false, if◌then◌else◌, is_some, true, Result, Ok, Err}
use Rattle.clap.specs.Faults.{check_fault, defaults_fault, entered_fault, fault_of, level_fault, settle_fault, walk_fault}
use Rattle.clap.specs.Kinds.{HasKind, Kinds, or_else}
use Rattle.clap.specs.Simple.{Shape, argument_words, built, entered, names_of, subcommand_of}
use Rattle.clap.specs.Values.{kind_of}
use Rattle.clap.specs.Walk.{Held, Names, Row, finished, nothing_held, settled, walk, walk_from}
use Rattle.clap.specs.declared.error.Error.{Error}
use Rattle.clap.specs.declared.error.kind.ErrorKind.{ErrorKind}
use Rattle.clap.specs.declared.error.kind.ErrorKind.TheVariants.{
  DisplayHelp,
  DisplayHelpOnMissingArgumentOrSubcommand,
  DisplayVersion,
  MissingSubcommand,
  OutOfMemory,
}
use Rattle.opc_io.specs.declared.watched.Watched.{Watched}
use Rattle.opc_cli_failures.specs.declared.status.Status.{Status}
use Rattle.opc_cli_failures.specs.declared.status.Status.TheVariants.{Done, Refused, BadInput, Failed}
use Rattle.opc_cli_tasks.specs.declared.task.Task.{Task}
use Rattle.opc_cli_words.specs.CommandLine.{command_line}
use Rattle.opc_cli_words.specs.Reading.{AreRead, AskForNone, IsHelp, IsHelpReported, IsKindReported, IsTaskRead, IsReportedMistake, IsVersionReported}
use Rattle.opc_cli_words.specs.Tasks.{AsksFor}

last_is_empty : (first last : Kinds) → or_else first last ≡ [] → last ≡ []
last_is_empty [] last h = h
last_is_empty (kind ∷ kinds) last h = absurd (cc)

none_is_some : (kind : ErrorKind) (kinds : Kinds) → kind ∷ kinds ≡ [] → ⊥
none_is_some kind kinds h = absurd (cc)

one_of_two : (b : Bool) (one other : ErrorKind) → (if b then one ∷ [] else other ∷ []) ≡ [] → ⊥
one_of_two true one other h = none_is_some one [] h
one_of_two false one other h = none_is_some other [] h

-- without a command there is an error: the help, or that there is none
unnamed : (rows : List Row) (found : Option (List ℕ × List Row)) → found ≡ None → check_fault (built command_line).top rows (is_some found) ≡ [] → ⊥
unnamed rows found none fine = one_of_two _ DisplayHelpOnMissingArgumentOrSubcommand MissingSubcommand
    (subst (λ f. check_fault (built command_line).top rows (is_some f) ≡ []) none fine)

-- a level that takes its arguments passes the last checks
level_ends : (s : Shape) (names : Names) (held : Held) (words : List (List ℕ)) (has : Bool) (below : Kinds)
    → level_fault s names held words has below ≡ [] → check_fault s (finished s.rules (walk s.rules names held words).held) has ≡ []
level_ends s names held words has below taken =
    let end = (walk s.rules names held words).held in
    let checks = check_fault s (finished s.rules end) has in
    let presets = defaults_fault (settled s.rules end).rows s.rules in
    let last_use = settle_fault s.rules s.args_override_self end in
    last_is_empty presets checks
    (last_is_empty last_use (or_else presets checks)
    (last_is_empty below (or_else last_use (or_else presets checks))
    (last_is_empty (walk_fault s names (walk_from held) words) (or_else below (or_else last_use (or_else presets checks))) taken)))

-- arguments that the command line takes name a command
some_command : (words : List (List ℕ)) → fault_of command_line words ≡ [] → subcommand_of command_line words ≡ None → ⊥
some_command words taken none =
    let a = built command_line in
    let given = argument_words command_line words in
    let end = walk a.top.rules (names_of a) nothing_held given in
    unnamed (finished a.top.rules end.held) (subcommand_of command_line words) none
    (level_ends a.top (names_of a) nothing_held given (is_some (entered a end.stopped)) (entered_fault a end.stopped) taken)

not_memory : (kind : ErrorKind) → IsHelp kind → kind ≡ OutOfMemory → ⊥
not_memory kind (inl help) memory = absurd (cc)
not_memory kind (inr version) memory = absurd (cc)

module _ {E : Type 0} (shown : E → Option (List ℕ)) (quiet reported : Watched E) where
  -- if the command line takes the arguments
  pub task_read : {W : Type 0} (contents : W → Option (List ℕ)) (output : W) (words : List (List ℕ)) → fault_of command_line words ≡ []
      → (found : Option (List ℕ × List Row)) → found ≡ subcommand_of command_line words
      → (result : Result Task Status) → IsTaskRead shown quiet reported found result → AreRead words contents shown output output quiet reported result
  task_read contents output words taken found is (Ok task) (asks, silent) = (record { taken = taken; asks = subst (λ f. AsksFor f task) is asks }, refl, silent)
  task_read contents output words taken found is (Err status) (bad, why) =
      subst (AskForNone words contents shown output output quiet reported) (sym bad) (go why)
    where
      go : (found ≡ None) ⊎ IsReportedMistake shown quiet reported found → AskForNone words contents shown output output quiet reported BadInput
      go (inl none) = absurd (some_command words taken (sym is ∙ none))
      go (inr mistaken) = (inr (record { taken = taken; mistaken = subst (IsReportedMistake shown quiet reported) is mistaken }), refl)

  module _ {W : Type 0} (contents : W → Option (List ℕ)) (before written : W) where
    pub help_reported : (kind : ErrorKind) → kind ≡ DisplayHelp → (status : Status) → IsHelpReported shown quiet reported status
        → IsKindReported contents shown before written quiet reported kind status
    help_reported kind help Done silent = (inl help, (λ version. absurd (cc)), silent)
    help_reported kind help Refused none = absurd none
    help_reported kind help BadInput none = absurd none
    help_reported kind help Failed failure = failure

    pub version_reported : (kind : ErrorKind) → kind ≡ DisplayVersion → (status : Status)
        → IsVersionReported contents shown before written quiet reported status
        → IsKindReported contents shown before written quiet reported kind status
    version_reported kind version Done (printed, silent) = (inr version, (λ is. printed), silent)
    version_reported kind version Refused none = absurd none
    version_reported kind version BadInput none = absurd none
    version_reported kind version Failed failure = failure

    -- if it does not
    pub kind_reported : (words : List (List ℕ)) (error : Error) → HasKind (fault_of command_line words) error
        → (status : Status) → IsKindReported contents shown before written quiet reported (kind_of error) status
        → AskForNone words contents shown before written quiet reported status
    kind_reported words error (inl memory) Done (help, printed, silent) = absurd (not_memory (kind_of error) help memory)
    kind_reported words error (inr among) Done (help, printed, silent) =
        (record { kind = kind_of error; among = among; help = help; printed = printed }, silent)
    kind_reported words error has Refused none = absurd none
    kind_reported words error (inl memory) BadInput (mistake, other, same) = absurd (other memory)
    kind_reported words error (inr among) BadInput (mistake, other, same) = (inl (record { kind = kind_of error; among = among; mistake = mistake }), same)
    kind_reported words error has Failed failure = failure
