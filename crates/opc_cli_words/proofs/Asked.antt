-- What is requested by the values of options, and by the rows in which they were found.
use Rattle.std.proofs.Common.{◌≡◌, ◌∙◌, ℕ, List, [], Option, Some, codes, ap, ap₂, false, refl, subst, sym}
use Rattle.std.specs.Borrow.{Bor}
use Rattle.std.specs.Option.{option_map_or}
use Rattle.std.specs.Prelude.{Bool, ◌||◌, None, if◌then◌else◌, option_map, unwrap_or}
use Rattle.std.specs.Str.{bytes_eq}
use Rattle.clap.specs.Matches.{first_value, subcommand_name_of}
use Rattle.clap.specs.Simple.{subcommand_rows_of}
use Rattle.clap.specs.Walk.{Row, first_of, rows_of}
use Rattle.clap.specs.declared.parser.matches.ArgMatches.{ArgMatches}
use Rattle.clap.specs.declared.parser.matches.ArgMatches.TheViews.{out-ArgMatches}
use Rattle.clap.specs.declared.parser.matches.Found.{Found}
use Rattle.clap.proofs.WalkLemmas.{first_value-rows}
use Rattle.opc_account.specs.declared.filter.Filter.{Filter}
use Rattle.opc_account.specs.declared.query.First.{First}
use Rattle.opc_account.specs.declared.asked.AskedQuery.{AskedQuery}
use Rattle.opc_answers.specs.declared.question.Asks.{Asks}
use Rattle.opc_answers.specs.declared.question.Asks.TheVariants.{Why, Who}
use Rattle.opc_cli_tasks.specs.declared.question.Ask.{Ask}
use Rattle.opc_cli_tasks.specs.declared.question.Comparison.{Comparison}
use Rattle.opc_cli_tasks.specs.declared.question.MayQuestion.{MayQuestion}
use Rattle.opc_cli_tasks.specs.declared.question.PolicyCheck.{PolicyCheck}
use Rattle.opc_cli_tasks.specs.declared.question.PolicyQuestion.TheVariants as question
use Rattle.opc_cli_tasks.specs.declared.source.NamedPolicy.{NamedPolicy}
use Rattle.opc_cli_tasks.specs.declared.source.PolicySource.{PolicySource}
use Rattle.opc_cli_tasks.specs.declared.work.Address.{Address}
use Rattle.opc_cli_tasks.specs.declared.work.Clients.{Clients}
use Rattle.opc_cli_tasks.specs.declared.work.Decide.{Decide}
use Rattle.opc_cli_tasks.specs.declared.work.Import.{Import}
use Rattle.opc_cli_tasks.specs.declared.work.Lines.{Lines}
use Rattle.opc_cli_tasks.specs.declared.work.Lines.TheVariants.{Script, Now}
use Rattle.opc_cli_tasks.specs.declared.work.Serve.{Serve}
use Rattle.opc_cli_tasks.specs.declared.work.Work.TheVariants as work
use Rattle.opc_cli_tasks.specs.declared.task.Task.{Task}
use Rattle.opc_cli_tasks.specs.declared.task.Task.TheVariants as task
use Rattle.opc_cli_words.specs.Accounts.{
  IsAccount,
  IsFilter,
  IsFirst,
  account_checks,
  all_rows,
  rows_of as number_of_rows,
}
use Rattle.opc_cli_words.specs.Moments.{row_time_of}
use Rattle.opc_cli_words.specs.declared.moment.DaySecond.TheVariants as day
use Rattle.opc_cli_words.specs.Numbers.{number_between}
use Rattle.opc_cli_words.specs.Checks.{first_mistake}
use Rattle.opc_cli_words.specs.declared.mistake.Mistake.{Mistake}
use Rattle.opc_cli_words.specs.Services.{IsAddress}
use Rattle.opc_cli_words.specs.Sources.{IsNamed, IsSource}
use Rattle.opc_cli_words.specs.Options.{
  AreClientsAsked,
  IsAsk,
  IsAskedBy,
  IsComparison,
  IsDecision,
  IsImport,
  IsMayQuestion,
  IsPolicyCheck,
  IsService,
  actor_in,
  client_checks,
  decision_checks,
  form_of,
  import_checks,
  is_set,
  longest,
  may_checks,
  policy_checks,
  question_checks,
  sheet_checks,
  who_checks,
}
use Rattle.opc_cli_words.specs.Runs.{IsLines, IsRun, run_checks}
use Rattle.opc_cli_words.specs.Tasks.{FailsAt, IsTask, IsTaskOf, options_of}

-- an address, by values that are the same
at_once : {p q p' q' : Option (List ℕ)} {m m' : Option (List ℕ)} → p ≡ p' → q ≡ q' → m ≡ m' → (a : Address) → IsAddress p q m a → IsAddress p' q' m' a
at_once {p} {q} {p'} {q'} {m} {m'} e f g a is =
    subst (λ t. IsAddress p' q' t a) g (subst (λ t. IsAddress p' t m a) f (subst (λ t. IsAddress t q m a) e is))

-- whichever is chosen, if each is the same
chosen : {A : Type 0} {x x' y y' : A} → (is : Bool) → x ≡ x' → y ≡ y' → (if is then x else y) ≡ (if is then x' else y')
chosen is e f = ap₂ (λ a b. if is then a else b) e f

-- two ways in which the values of options are known
module _ (one other : List ℕ → Option (List ℕ)) (same : (name : List ℕ) → one name ≡ other name) where
  of_given : {A : Type 0} (f : List ℕ → A) (name : List ℕ) → f (unwrap_or (other name) []) ≡ f (unwrap_or (one name) [])
  of_given f name = ap (λ o. f (unwrap_or o [])) (sym (same name))

  given : (name : List ℕ) → unwrap_or (one name) [] ≡ unwrap_or (other name) []
  given name = ap (λ o. unwrap_or o []) (same name)

  set : (name : List ℕ) → is_set one name ≡ is_set other name
  set name = ap (λ (o : Option (List ℕ)). option_map_or (λ text. bytes_eq text (codes "true")) o false) (same name)

  source : (s : PolicySource) → IsSource (one (codes "file")) (one (codes "policy")) (one (codes "db")) s
      → IsSource (other (codes "file")) (other (codes "policy")) (other (codes "db")) s
  source s is = rw (sym (same (codes "file")), sym (same (codes "policy")), sym (same (codes "db"))) is

  asks : (command : List ℕ) (a : Asks) → IsAskedBy one command a → IsAskedBy other command a
  asks command (Why actor levels) is = (
    is.0,
    is.1 ∙ ap₂ actor_in (same (codes "command")) (given (codes "user")),
    is.2 ∙ ap₂ ◌||◌ (set (codes "why")) (set (codes "json")),
  )
  asks command (Who allowed) is = (is.0, is.1 ∙ set (codes "allowed"))

  ask : (command : List ℕ) (s : PolicySource) (a : Ask) → IsAsk one command s a → IsAsk other command s a
  ask command s a is = record {
    about = rw (
      sym (same (codes "command")),
      sym (same (codes "as")),
      sym (same (codes "resource")),
      sym (same (codes "level")),
      sym (same (codes "class")),
    )
        is.about;
    console = is.console ∙ same (codes "console");
    asks = asks command a.question.asks is.asks;
    form = is.form ∙ ap form_of (set (codes "json"));
    policy = source s is.policy;
  }

  answered : (l : Lines) → IsLines one l → IsLines other l
  answered (Script file) is = (sym (set (codes "now")) ∙ is.0, is.1 ∙ same (codes "file"))
  answered (Now console) is = (sym (set (codes "now")) ∙ is.0, is.1 ∙ same (codes "console"))

  run : (policy : Option (Bor (List ℕ))) (l : Lines) (log : Option (Bor (List ℕ))) → IsRun one policy l log → IsRun other policy l log
  run policy l log is = (is.0 ∙ same (codes "policy"), answered l is.1, is.2 ∙ same (codes "log"))

  import : (i : Import) → IsImport one i → IsImport other i
  import i is = record {
    batch = of_given (number_between 1 999_999_999) (codes "batch") ∙ is.batch;
    console = is.console ∙ same (codes "console");
    file = is.file ∙ same (codes "file");
  }

  clients : (c : Clients) → AreClientsAsked one c → AreClientsAsked other c
  clients c are = record {
    address = at_once (same (codes "port")) (same (codes "socket")) (same (codes "socket-mode")) c.address are.address;
    count = of_given (number_between 1 1_000_000) (codes "count") ∙ are.count;
    waits = of_given (λ (text : List ℕ). option_map longest (number_between 0 3_600 text)) (codes "timeout") ∙ are.waits;
    strict = are.strict ∙ set (codes "strict");
    log = are.log ∙ set (codes "log");
  }

  service : (s : Serve) → IsService one s → IsService other s
  service s is = record { clients = clients s.clients is.clients; policies = is.policies ∙ same (codes "policies") }

  decision : (d : Decide) → IsDecision one d → IsDecision other d
  decision d is = record {
    policy = is.policy ∙ given (codes "policy");
    base = is.base ∙ same (codes "base");
    clients = clients d.clients is.clients;
  }

  first : (f : First) → IsFirst (one (codes "from")) (one (codes "last")) f → IsFirst (other (codes "from")) (other (codes "last")) f
  first f is = rw (sym (same (codes "from")), sym (same (codes "last"))) is

  filter : (f : Filter) → IsFilter one f → IsFilter other f
  filter f is = record {
    user = is.user ∙ same (codes "user");
    console = is.console ∙ same (codes "console");
    codes_are = is.codes_are ∙ same (codes "code");
  }

  account : (q : AskedQuery) → IsAccount one q → IsAccount other q
  account q is = record {
    first = first q.query.first is.first;
    count = ap (λ (o : Option (List ℕ)). option_map_or number_of_rows o (Some all_rows)) (sym (same (codes "count"))) ∙ is.count;
    since = ap (option_map (row_time_of day.First)) (sym (same (codes "since"))) ∙ is.since;
    until = ap (option_map (row_time_of day.Last)) (sym (same (codes "until"))) ∙ is.until;
    filter = filter q.query.filter is.filter;
    json = is.json ∙ set (codes "json");
  }

  policy_check : (s : PolicySource) (p : PolicyCheck) → IsPolicyCheck one s p → IsPolicyCheck other s p
  policy_check s p is = record {
    policy = source s is.policy;
    allowed = is.allowed ∙ same (codes "allow");
    form = is.form ∙ ap form_of (set (codes "json"));
  }

  may : (s : PolicySource) (q : MayQuestion) → IsMayQuestion one s q → IsMayQuestion other s q
  may s q is = record {
    user = is.user ∙ given (codes "user");
    console = is.console ∙ same (codes "console");
    allowed = is.allowed ∙ set (codes "allowed");
    form = is.form ∙ ap form_of (set (codes "json"));
    policy = source s is.policy;
  }

  named : (name : List ℕ) (p : NamedPolicy) → IsNamed (unwrap_or (one name) []) p → IsNamed (unwrap_or (other name) []) p
  named name p is = subst (λ text. IsNamed text p) (given name) is

  comparison : (q : Comparison) → IsComparison one q → IsComparison other q
  comparison q is = record {
    old = named (codes "old") q.old is.old;
    new = named (codes "new") q.new is.new;
    form = is.form ∙ ap form_of (set (codes "json"));
  }

  pub task_is : (command : List ℕ) (t : Task) → IsTaskOf one command t → IsTaskOf other command t
  task_is command (task.Ask s (question.Ask a)) is = ask command s a is
  task_is command (task.Ask s (question.Check p)) is = (is.0, policy_check s p is.1)
  task_is command (task.Ask s (question.May q)) is = (is.0, may s q is.1)
  task_is command (task.Ask s (question.Sheet name)) is = (is.0, source s is.1, is.2)
  task_is command (task.Diff q) is = (is.0, comparison q is.1)
  task_is command (task.Account path q) is = (is.0, is.1 ∙ given (codes "db"), account q is.2)
  task_is command (task.Work path (work.Run policy l log)) is = (is.0, sym (same (codes "db")) ∙ is.1, run policy l log is.2)
  task_is command (task.Work path (work.Import i)) is =
      (is.0, is.1 ∙ given (codes "db"), import i is.2, sym (set (codes "dry-run")) ∙ is.3)
  task_is command (task.DryRun path i) is =
      (is.0, is.1 ∙ given (codes "db"), import i is.2, sym (set (codes "dry-run")) ∙ is.3)
  task_is command (task.Work path work.Export) is = (is.0, is.1 ∙ given (codes "db"))
  task_is command (task.Work path (work.Serve s)) is = (is.0, is.1 ∙ given (codes "db"), service s is.2)
  task_is command (task.InMemory policy l log) is = (is.0, sym (same (codes "db")) ∙ is.1, run policy l log is.2)
  task_is command (task.Decide d) is = (is.0, decision d is.1)
  task_is command task.Digest is = is
  task_is command task.Commands is = is

  same_questions : (o : Option (List ℕ)) → question_checks one o ≡ question_checks other o
  same_questions None =
      rw (
        same (codes "user"),
        same (codes "as"),
        same (codes "resource"),
        same (codes "level"),
        same (codes "class"),
        same (codes "console"),
        same (codes "file"),
        same (codes "policy"),
        same (codes "db"),
      )
      refl
  same_questions (Some text) =
      rw (
        same (codes "user"),
        same (codes "command"),
        same (codes "as"),
        same (codes "resource"),
        same (codes "level"),
        same (codes "console"),
        same (codes "file"),
        same (codes "policy"),
        same (codes "db"),
      )
      refl

  questions : question_checks one (one (codes "command")) ≡ question_checks other (other (codes "command"))
  questions = same_questions (one (codes "command")) ∙ ap (question_checks other) (same (codes "command"))

  runs : run_checks one ≡ run_checks other
  runs = rw (same (codes "console"), same (codes "now"), same (codes "file")) refl

  imports : import_checks one ≡ import_checks other
  imports = rw (same (codes "batch"), same (codes "console")) refl

  services : client_checks one ≡ client_checks other
  services =
      rw (
        same (codes "port"),
        same (codes "socket"),
        same (codes "socket-mode"),
        same (codes "strict"),
        same (codes "count"),
        same (codes "timeout"),
      )
      refl

  decisions : decision_checks one ≡ decision_checks other
  decisions =
      rw (
        same (codes "port"),
        same (codes "socket"),
        same (codes "socket-mode"),
        same (codes "strict"),
        same (codes "count"),
        same (codes "timeout"),
        same (codes "base"),
      )
      refl

  enquiries : who_checks one ≡ who_checks other
  enquiries =
      rw (
        same (codes "command"),
        same (codes "as"),
        same (codes "resource"),
        same (codes "level"),
        same (codes "class"),
        same (codes "console"),
        same (codes "file"),
        same (codes "policy"),
        same (codes "db"),
      )
      refl

  rows : account_checks one ≡ account_checks other
  rows =
      rw (
        same (codes "from"),
        same (codes "last"),
        same (codes "count"),
        same (codes "since"),
        same (codes "until"),
        same (codes "user"),
        same (codes "console"),
        same (codes "code"),
      )
      refl

  policies : policy_checks one ≡ policy_checks other
  policies = rw (same (codes "allow"), same (codes "file"), same (codes "policy"), same (codes "db")) refl

  of_user : may_checks one ≡ may_checks other
  of_user = rw (same (codes "user"), same (codes "console"), same (codes "file"), same (codes "policy"), same (codes "db")) refl

  sheets : sheet_checks one ≡ sheet_checks other
  sheets = rw (same (codes "file"), same (codes "policy"), same (codes "db")) refl

  pub same_options : (command : List ℕ) → options_of one command ≡ options_of other command
  same_options command =
      chosen (bytes_eq command (codes "explain")) questions
      (chosen (bytes_eq command (codes "run")) runs
      (chosen (bytes_eq command (codes "import")) imports
      (chosen (bytes_eq command (codes "export")) refl
      (chosen (bytes_eq command (codes "serve")) services
      (chosen (bytes_eq command (codes "who")) enquiries
      (chosen (bytes_eq command (codes "check")) policies
      (chosen (bytes_eq command (codes "account")) rows
      (chosen (bytes_eq command (codes "digest")) refl
      (chosen (bytes_eq command (codes "commands")) refl
      (chosen (bytes_eq command (codes "may")) of_user
      (chosen (bytes_eq command (codes "diff")) refl
      (chosen (bytes_eq command (codes "sheet")) sheets
      (chosen (bytes_eq command (codes "decide")) decisions
      refl)))))))))))))

-- a name and rows that mean the same
module _ {B : Type 0} (name_of : B → List ℕ) (rows_in : B → List Row) where
  abbrev both : B → List ℕ × List Row
  both b = (name_of b, rows_in b)

  of_one : (o : Option B) (name : List ℕ) (rows : List Row) → Some name ≡ option_map name_of o
      → Some rows ≡ option_map (λ (p : List ℕ × List Row). p.1) (option_map both o)
      → option_map both o ≡ Some (name, rows)
  of_one None name rows n r = absurd (cc)
  of_one (Some b) name rows n r =
      let same : name_of b ≡ name = cc in
      let also : rows_in b ≡ rows = cc in
      ap₂ (λ x y. let p : List ℕ × List Row = (x, y) in Some p) same also

pub fails_at : (found : ArgMatches) (chosen : Found) (command : List ℕ) (mistake : Mistake) → Some command ≡ subcommand_name_of found
    → Some (rows_of chosen) ≡ option_map (λ (p : List ℕ × List Row). p.1) (subcommand_rows_of found)
    → first_mistake (options_of (first_value chosen) command) ≡ Some mistake
    → FailsAt (subcommand_rows_of found) command mistake
fails_at found chosen command mistake name rows is = (
  rows_of chosen,
  of_one _ _ (out-ArgMatches found).subcommand command (rows_of chosen) name rows,
  ap first_mistake (sym (same_options (first_value chosen) (λ id. first_of id (rows_of chosen)) (first_value-rows chosen) command)) ∙ is,
)

pub is_task : (found : ArgMatches) (chosen : Found) (command : List ℕ) (t : Task) → Some command ≡ subcommand_name_of found
    → Some (rows_of chosen) ≡ option_map (λ (p : List ℕ × List Row). p.1) (subcommand_rows_of found)
    → first_mistake (options_of (first_value chosen) command) ≡ None → IsTaskOf (first_value chosen) command t → IsTask found t
is_task found chosen command t name rows right is = (
  command,
  rows_of chosen,
  of_one _ _ (out-ArgMatches found).subcommand command (rows_of chosen) name rows,
  ap first_mistake (sym (same_options (first_value chosen) (λ id. first_of id (rows_of chosen)) (first_value-rows chosen) command)) ∙ right,
  task_is (first_value chosen) (λ id. first_of id (rows_of chosen)) (first_value-rows chosen) command t is,
)
