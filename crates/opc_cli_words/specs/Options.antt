-- What the options of each command mean, by the values that the arguments give them, and how they are checked.
use Rattle.std.specs.Prelude.{
  ◌≡◌,
  ◌==◌,
  ◌||◌,
  ◌++◌,
  ◌*◌,
  ℕ,
  Bool,
  true,
  false,
  List,
  [],
  ◌∷◌,
  Option,
  Some,
  None,
  codes,
  if◌then◌else◌,
  is_none,
  is_some,
  not,
  option_map,
  unwrap_or,
}
use Rattle.std.specs.Duration.{as_nanos}
use Rattle.std.specs.Option.{option_copied, option_map_or}
use Rattle.std.specs.Str.{bytes_eq}
use Rattle.std.specs.declared.time.Duration.{Duration}
use Rattle.opc_names.specs.Names.{console_rule, user_rule}
use Rattle.opc_answers.specs.Needed.{is_logon}
use Rattle.opc_answers.specs.declared.question.Asks.{Asks}
use Rattle.opc_answers.specs.declared.question.Asks.TheVariants.{Why, Who}
use Rattle.opc_check.specs.declared.form.Form.{Form}
use Rattle.opc_check.specs.declared.form.Form.TheVariants.{Json, Text}
use Rattle.opc_cli_tasks.specs.declared.question.Ask.{Ask}
use Rattle.opc_cli_tasks.specs.declared.question.Comparison.{Comparison}
use Rattle.opc_cli_tasks.specs.declared.question.MayQuestion.{MayQuestion}
use Rattle.opc_cli_tasks.specs.declared.question.PolicyCheck.{PolicyCheck}
use Rattle.opc_cli_tasks.specs.declared.source.PolicySource.{PolicySource}
use Rattle.opc_cli_tasks.specs.declared.work.Clients.{Clients}
use Rattle.opc_cli_tasks.specs.declared.work.Decide.{Decide}
use Rattle.opc_cli_tasks.specs.declared.work.Import.{Import}
use Rattle.opc_cli_tasks.specs.declared.work.Serve.{Serve}
use Rattle.opc_cli_words.specs.Bases.{base_check}
use Rattle.opc_cli_words.specs.Checks.{Check}
use Rattle.opc_cli_words.specs.Codes.{allow_check}
use Rattle.opc_cli_words.specs.Enquiries.{
  IsAbout,
  access_checks,
  class_check,
  command_checks,
  enquiry_checks,
  is_a,
  level_check,
  logon_check,
  resource_check,
}
use Rattle.opc_cli_words.specs.Numbers.{number_between}
use Rattle.opc_cli_words.specs.Quotes.{is_verb_alone}
use Rattle.opc_cli_words.specs.Services.{IsAddress, address_checks}
use Rattle.opc_cli_words.specs.Sources.{IsNamed, IsSource, source_check}
use Rattle.opc_cli_words.specs.declared.mistake.Mistake.TheVariants as wrong
use Rattle.opc_cli_words.specs.declared.mistake.Opt.TheVariants as opt

-- in nanoseconds, where 0 seconds are no limit
abbrev pub longest : ℕ → Option ℕ
longest seconds = if seconds == 0 then None else Some (seconds * 1_000_000_000)

-- The user may be nobody, written `-`, in a question about a command at a console.
abbrev pub actor_of : List ℕ → Option (List ℕ)
actor_of text = if bytes_eq text (codes "-") then None else Some text

-- the user of a question; it may be nobody only if the question is about a command
abbrev pub actor_in : (command : Option (List ℕ)) → (user : List ℕ) → Option (List ℕ)
actor_in (Some text) user = actor_of user
actor_in None user = Some user

abbrev pub form_of : (json : Bool) → Form
form_of true = Json
form_of false = Text

-- In these, `value` is what the arguments give an option, by its name.
module _ (value : List ℕ → Option (List ℕ)) where
  -- the value of an option that has one, and else nothing
  abbrev pub given : List ℕ → List ℕ
  given name = unwrap_or (value name) []

  abbrev pub user_option : Check
  user_option = (wrong.Unread opt.User, is_a user_rule (given (codes "user")))

  abbrev pub class_option : Check
  class_option = class_check (given (codes "class"))

  abbrev pub resource_option : Check
  resource_option = resource_check (value (codes "resource"))

  abbrev pub console_option : Check
  console_option = (wrong.Unread opt.Console, option_map_or (is_a console_rule) (value (codes "console")) true)

  abbrev pub level_option : Check
  level_option = level_check (value (codes "level"))

  abbrev pub batch_of : Option ℕ
  batch_of = number_between 1 999_999_999 (given (codes "batch"))

  abbrev pub batch_option : Check
  batch_option = (wrong.Unread opt.Batch, is_some batch_of)

  abbrev pub count_of : Option ℕ
  count_of = number_between 1 1_000_000 (given (codes "count"))

  abbrev pub count_option : Check
  count_option = (wrong.Unread opt.Count, is_some count_of)

  abbrev pub timeout_of : Option ℕ
  timeout_of = number_between 0 3_600 (given (codes "timeout"))

  abbrev pub timeout_option : Check
  timeout_option = (wrong.Unread opt.Timeout, is_some timeout_of)

  -- An exchange may take this long: for the seconds that are given, or without end if they are 0.
  abbrev pub IsWait : Option Duration → Type 0
  IsWait wait = option_map longest timeout_of ≡ Some (option_map as_nanos wait)

  -- a flag is given
  abbrev pub is_set : List ℕ → Bool
  is_set name = option_map_or (λ text. bytes_eq text (codes "true")) (value name) false

  -- only with a port, since no web page reaches a Unix socket
  abbrev pub strict_option : Check
  strict_option = (
    wrong.Lacks opt.Strict opt.Port,
    not (is_set (codes "strict")) || is_some (value (codes "port")),
  )

  abbrev pub base_option : Check
  base_option = base_check (value (codes "base"))

  -- nobody logs on for nobody
  abbrev pub actor_option : (text : List ℕ) → Check
  actor_option text = (
    wrong.Unread opt.User,
    option_map_or (is_a user_rule) (actor_of (given (codes "user"))) (not (is_logon text)),
  )

  abbrev pub nobody_option : Check
  nobody_option = (
    wrong.NobodyAlone,
    is_some (actor_of (given (codes "user"))) || is_some (value (codes "console")),
  )

  abbrev pub source_option : Check
  source_option = source_check (value (codes "file")) (value (codes "policy")) (value (codes "db"))

  -- A command of one word beside a file is part of a command that is not quoted.
  abbrev pub quotes_option : Check
  quotes_option = (
    wrong.Unquoted,
    is_none (value (codes "file")) || not (option_map_or is_verb_alone (value (codes "command")) false),
  )

  abbrev pub logon_option : (command : Option (List ℕ)) → Check
  logon_option command = logon_check command (value (codes "console"))

  -- the checks of `explain`, about a command or about a level of access
  abbrev pub question_checks : (command : Option (List ℕ)) → List Check
  question_checks (Some text) = actor_option text ∷ command_checks (value (codes "as"))
      (value (codes "resource")) (value (codes "level"))
      ++ console_option ∷ nobody_option ∷ quotes_option ∷ source_option ∷ logon_option (Some text) ∷ []
  question_checks None = user_option ∷ access_checks (value (codes "as"))
      (value (codes "resource")) (value (codes "level"))
      ++ class_option ∷ resource_option ∷ console_option ∷ level_option ∷ source_option ∷ []

  -- the checks of `import`,
  abbrev pub import_checks : List Check
  import_checks = batch_option ∷ console_option ∷ []

  -- of which clients are served, and how: all those of `serve`,
  abbrev pub client_checks : List Check
  client_checks = address_checks (value (codes "port")) (value (codes "socket")) (value (codes "socket-mode"))
      ++ strict_option ∷ count_option ∷ timeout_option ∷ []

  -- of `decide`,
  abbrev pub decision_checks : List Check
  decision_checks = base_option ∷ client_checks

  -- of `who`,
  abbrev pub who_checks : List Check
  who_checks = enquiry_checks (value (codes "command")) (value (codes "as")) (value (codes "resource"))
      (value (codes "level")) (given (codes "class"))
      ++ console_option ∷ quotes_option ∷ source_option ∷ logon_option (value (codes "command")) ∷ []

  -- of `may`,
  abbrev pub may_checks : List Check
  may_checks = user_option ∷ console_option ∷ source_option ∷ []

  -- of `sheet`,
  abbrev pub sheet_checks : List Check
  sheet_checks = source_option ∷ []

  -- and of `check`
  abbrev pub policy_checks : List Check
  policy_checks = allow_check (value (codes "allow")) ∷ source_option ∷ []

  -- The level that is held behind each pattern is shown if that is requested, and always as JSON.
  abbrev pub has_levels : Bool
  has_levels = is_set (codes "why") || is_set (codes "json")

  -- `explain` asks why, for a user or for nobody, and `who` asks who may.
  abbrev pub IsAskedBy : (command : List ℕ) → Asks → Type 0
  IsAskedBy command (Why actor levels) =
      (command ≡ codes "explain") × (actor ≡ actor_in (value (codes "command")) (given (codes "user")))
      × (levels ≡ has_levels)
  IsAskedBy command (Who allowed) = (command ≡ codes "who") × (allowed ≡ is_set (codes "allowed"))

  -- the arguments of either
  pub record IsAsk (command : List ℕ) (source : PolicySource) (ask : Ask) : Type 0 where
    pub about : IsAbout (value (codes "command")) (value (codes "as")) (value (codes "resource"))
        (value (codes "level")) (given (codes "class")) ask.question.about
    pub console : ask.question.console ≡ value (codes "console")
    pub asks : IsAskedBy command ask.question.asks
    pub form : ask.form ≡ form_of (is_set (codes "json"))
    pub policy : IsSource (value (codes "file")) (value (codes "policy")) (value (codes "db")) source

  -- of `import`
  pub record IsImport (import : Import) : Type 0 where
    pub batch : batch_of ≡ Some import.batch
    pub console : import.console ≡ value (codes "console")
    pub file : option_copied import.file ≡ value (codes "file")

  -- which clients are served, and how
  pub record AreClientsAsked (clients : Clients) : Type 0 where
    pub address : IsAddress (value (codes "port")) (value (codes "socket")) (value (codes "socket-mode"))
        clients.address
    pub count : count_of ≡ Some clients.count
    pub waits : IsWait clients.timeout
    pub strict : clients.strict ≡ is_set (codes "strict")
    pub log : clients.log ≡ is_set (codes "log")

  -- the arguments of `serve`
  pub record IsService (serve : Serve) : Type 0 where
    pub clients : AreClientsAsked serve.clients
    pub policies : option_copied serve.policies ≡ value (codes "policies")

  -- of `decide`
  pub record IsDecision (decide : Decide) : Type 0 where
    pub policy : decide.policy.now ≡ given (codes "policy")
    pub base : option_copied decide.base ≡ value (codes "base")
    pub clients : AreClientsAsked decide.clients

  -- of `may`
  pub record IsMayQuestion (source : PolicySource) (asked : MayQuestion) : Type 0 where
    pub user : asked.user ≡ given (codes "user")
    pub console : asked.console ≡ value (codes "console")
    pub allowed : asked.allowed ≡ is_set (codes "allowed")
    pub form : asked.form ≡ form_of (is_set (codes "json"))
    pub policy : IsSource (value (codes "file")) (value (codes "policy")) (value (codes "db")) source

  -- of `diff`
  pub record IsComparison (asked : Comparison) : Type 0 where
    pub old : IsNamed (given (codes "old")) asked.old
    pub new : IsNamed (given (codes "new")) asked.new
    pub form : asked.form ≡ form_of (is_set (codes "json"))

  -- and of `check`
  pub record IsPolicyCheck (source : PolicySource) (check : PolicyCheck) : Type 0 where
    pub policy : IsSource (value (codes "file")) (value (codes "policy")) (value (codes "db")) source
    pub allowed : option_copied check.allowed ≡ value (codes "allow")
    pub form : check.form ≡ form_of (is_set (codes "json"))
