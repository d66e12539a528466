-- Why a command may or may not be entered: which profiles cover, and what is ruled.
use Rattle.std.specs.Prelude.{ℕ, List, Option, Some, None, Result, Ok, Err, if◌then◌else◌}
use Rattle.std.specs.Option.{is_none, option_and_then, option_map}
use Rattle.opc_names.specs.declared.class.Class.TheVariants.{Console, Opercmds}
use Rattle.opc_names.specs.declared.level.Level.TheVariants.{Read}
use Rattle.opc_terms.specs.declared.fault.Fault.{Fault}
use Rattle.opc_terms.specs.declared.fault.Fault.TheVariants.{Missing, NoConsole}
use Rattle.opc_terms.specs.declared.need.Need.{Need}
use Rattle.opc_policy_members.specs.declared.policy.Policy.{Policy}
use Rattle.opc_policy_members.specs.declared.user.User.{User}
use Rattle.opc_policy_members.specs.Members.{user_of}
use Rattle.opc_policy.specs.declared.explained.Explained.{Explained}
use Rattle.opc_policy.specs.declared.ruling.Ruling.{Ruling}
use Rattle.opc_policy.specs.declared.verdict.Verdict.{Verdict}
use Rattle.opc_policy.specs.declared.verdict.Verdict.TheVariants.{Allowed, Denied, Undecided}
use Rattle.opc_policy.specs.Explained.{explanation}
use Rattle.opc_policy.specs.Rulings.{rule_of, verdict_of}
use Rattle.opc_board.specs.declared.rows.ConsoleRow.{ConsoleRow}
use Rattle.opc_board.specs.Invariants.{console_at}
use Rattle.opc_state.specs.State.{State}
use Rattle.opc_machine.specs.Rulings.{logon_ruling, own_user, ruling}
use Rattle.opc_answers.specs.declared.explaining.CommandExplained.{CommandExplained}
use Rattle.opc_answers.specs.declared.logons.Instead.{Instead}
use Rattle.opc_answers.specs.declared.logons.Instead.TheVariants as instead
use Rattle.opc_answers.specs.declared.logons.NoLogon.{NoLogon}
use Rattle.opc_answers.specs.declared.who.AskedAt.{AskedAt}
use Rattle.opc_answers.specs.declared.who.AskedAt.TheVariants.{Everywhere, OnBoard}
use Rattle.opc_answers.specs.Made.{member_of}
use Rattle.opc_answers.specs.Who.{no_logon_at, nobody_at, on_at}

-- the verdict of the profiles on a user who enters a command with this need
abbrev pub by_profiles : Policy → Need → List ℕ → Option (List ℕ) → Result Explained Fault
by_profiles p need id console = explanation p Opercmds need.resource id console need.level

-- Why the user of an id cannot log on, at a console or anywhere; that says more than a verdict, unless it denies
-- anyway.
abbrev pub no_logon_of : State → AskedAt → List ℕ → Option NoLogon
no_logon_of s place id =
    option_and_then (λ (u : User). no_logon_at s.policy s.board place (member_of s.policy.connects u))
    (user_of s.policy.users id)

abbrev pub unless_denied : Verdict → Option NoLogon → Option Instead
unless_denied Denied why = None
unless_denied Allowed why = option_map instead.NoLogon why
unless_denied Undecided why = option_map instead.NoLogon why

-- At no console of the board the profiles alone decide.
abbrev pub without_console : Option NoLogon → Result Explained Fault → Result CommandExplained Fault
without_console why (Ok e) = Ok (record {
  covering = Some e.covering;
  verdict = e.verdict;
  rule = e.rule;
  instead = unless_denied e.verdict why;
})
without_console why (Err fault) = Err fault

-- at one, with a user logged on or with the console's own user: the patterns that cover, and the ruling there
abbrev pub with_ruling : Ruling → Option NoLogon → Result Explained Fault → Result CommandExplained Fault
with_ruling ruled why (Ok e) = Ok (record {
  covering = Some e.covering;
  verdict = verdict_of ruled;
  rule = rule_of ruled;
  instead = unless_denied (verdict_of ruled) why;
})
with_ruling ruled why (Err fault) = Err fault

abbrev pub with_nobody : Ruling → CommandExplained
with_nobody ruled = record { covering = None; verdict = verdict_of ruled; rule = rule_of ruled; instead = None }

-- at an unattended console, which acts for its own user or for nobody
abbrev pub by_actor : State → Need → ConsoleRow → Option (List ℕ) → Result CommandExplained Fault
by_actor s need c None = Ok (with_nobody (ruling s (nobody_at c) need))
by_actor s need c (Some id) =
    with_ruling (ruling s (nobody_at c) need) None (by_profiles s.policy need id (Some c.name))

abbrev pub at_console : State → Need → Option (List ℕ) → ConsoleRow → Result CommandExplained Fault
at_console s need None c = by_actor s need c (own_user s c)
at_console s need (Some id) c =
    with_ruling (ruling s (on_at id c) need) (no_logon_of s (OnBoard c) id) (by_profiles s.policy need id (Some c.name))

-- Nobody acts only at a console of the board.
abbrev pub at_none : State → Need → Option (List ℕ) → Option (List ℕ) → Result CommandExplained Fault
at_none s need None console = Err NoConsole
at_none s need (Some id) console = without_console (no_logon_of s Everywhere id) (by_profiles s.policy need id console)

abbrev pub at_found : State → Need → Option (List ℕ) → Option (List ℕ) → Option ConsoleRow
    → Result CommandExplained Fault
at_found s need user console None = at_none s need user console
at_found s need user console (Some c) = at_console s need user c

-- the console of the board with the name, if one is named and there
abbrev pub console_named : State → Option (List ℕ) → Option ConsoleRow
console_named s None = None
console_named s (Some name) = console_at s.board name

-- for a user, or, without one, at an unattended console
abbrev pub explained_in : State → Need → Option (List ℕ) → Option (List ℕ) → Result CommandExplained Fault
explained_in s need user console = at_found s need user console (console_named s console)

-- For a LOGON: which profiles of class CONSOLE cover the console's name, and the machine's ruling on the logon there,
-- unless no digest is stored. The user is looked up first, then the console.
abbrev pub unless_digest : (digest : Option (List ℕ)) → Option Instead
unless_digest digest = if is_none digest then Some instead.NoDigest else None

abbrev pub with_logon : (digest : Option (List ℕ)) → Ruling → Result Explained Fault → Result CommandExplained Fault
with_logon digest ruled (Ok e) = Ok (record {
  covering = Some e.covering;
  verdict = verdict_of ruled;
  rule = rule_of ruled;
  instead = unless_digest digest;
})
with_logon digest ruled (Err fault) = Err fault

abbrev pub logon_of : State → (name id : List ℕ) → Option User → Option ConsoleRow → Result CommandExplained Fault
logon_of s name id None c = Err (Missing id)
logon_of s name id (Some user) None = Err NoConsole
logon_of s name id (Some user) (Some c) =
    with_logon user.digest (logon_ruling s c user) (explanation s.policy Console name id (Some name) Read)

-- Nobody logs on for nobody.
abbrev pub logon_explained : State → (name : List ℕ) → Option (List ℕ) → Result CommandExplained Fault
logon_explained s name None = Err NoConsole
logon_explained s name (Some id) = logon_of s name id (user_of s.policy.users id) (console_at s.board name)
