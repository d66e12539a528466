-- What is denied is answered.
use Rattle.std.proofs.Common.{◌≡◌, inl, inr, ℕ, not, List, [], Some, None, Ok, filter, map, sym, ap, subst, ◌∙◌}
use Rattle.opc_terms.specs.declared.fault.Fault.{Fault}
use Rattle.opc_terms.specs.declared.fault.Fault.TheVariants as fault
use Rattle.opc_terms.specs.declared.rule.Rule.{Rule}
use Rattle.opc_policy_members.specs.Profiles.{of_class}
use Rattle.opc_reader_commands.specs.declared.command.Command.{Command}
use Rattle.opc_reader_commands.specs.declared.command.Command.TheVariants as command
use Rattle.opc_reader.proofs.Exact.{reads_so}
use Rattle.opc_board.specs.declared.rows.ConsoleRow.{ConsoleRow}
use Rattle.opc_board.specs.Consoles.{logged_on}
use Rattle.opc_board.specs.Effect.{effect}
use Rattle.opc_board.specs.Invariants.{console_at}
use Rattle.opc_state.specs.Loads.{asked_for}
use Rattle.opc_state.specs.State.{State}
use Rattle.opc_machine.specs.declared.request.Answer.TheVariants.{Refused}
use Rattle.opc_machine.specs.Administration.{changed}
use Rattle.opc_machine.specs.Commands.{
  acted,
  allowed,
  command_in,
  command_or,
  command_outcome,
  denial_fault,
  known_by,
  admit,
  logon_fault,
  need_of,
  nobody_on,
  typed,
}
use Rattle.opc_machine.specs.Faults.{board_fault}
use Rattle.opc_machine.specs.Imports.{batch_of, batch_outcome}
use Rattle.opc_machine.specs.Inputs.{Input}
use Rattle.opc_machine.specs.Inputs as input
use Rattle.opc_machine.specs.Listings.{account_line, profile_line}
use Rattle.opc_machine.specs.Machine.{answer_of, outcome}
use Rattle.opc_machine.specs.Outcome.{StateOutcome, ◌>>=◌, does, found, or_refused, refuse_if, refused}
use Rattle.opc_machine.specs.Rights.{account_shown, console_asking, is_special, may_change, profile_shown, right_fault, unless_denied}
use Rattle.opc_machine.specs.Rulings.{acting, logon_denial, logon_ruling, shown}
use Rattle.opc_machine_laws.specs.Laws.{BoardFaultsAreAnswered, DenialsAreAnswered, IsDeniedBy, IsHeard, IsKeptOff, IsNamedBy, IsRuledOut, IsShutOut}
use Rattle.opc_machine_laws.proofs.Acting.{console_back}
use Rattle.opc_machine_laws.proofs.Denying.{IsLogonRule, logon_rule}
use Rattle.opc_machine_laws.proofs.Knowing.{known_back}
use Rattle.opc_machine_laws.proofs.Naming.{IsProper, logon_proper, ruling_proper}

-- the result of a line that is accepted is that of its command
pub heard_so : (s : State) (name text : List ℕ) (c : ConsoleRow) (k : Command) → IsHeard s name text c k
    → command_outcome s name text ≡ typed s c k (need_of s.board k)
heard_so s name text c k heard =
    ap (λ x. x >>= λ d. command_in text >>= λ l. typed s d l (need_of s.board l)) (console_back (console_at s.board name) c heard.there heard.online)
    ∙ ap (λ x. command_or x >>= λ l. typed s c l (need_of s.board l)) (reads_so text k heard.reads)

-- what ends in a denial by a rule
pub record ComesTo (o : StateOutcome) (why : Rule) : Type 0 where
  pub fault : Fault
  pub named : IsNamedBy fault why
  pub comes : o ≡ refused fault (Some why)

module _ (s : State) (name text : List ℕ) (why : Rule) where
  ruled_out : IsRuledOut s name text why → ComesTo (command_outcome s name text) why
  ruled_out out = record {
    fault = denial_fault why;
    named = subst (IsProper denial_fault) out.denied (ruling_proper s out.console out.need);
    comes = heard_so s name text out.console out.command out.heard ∙ ap (typed s out.console out.command) out.needs
        ∙ ap (λ x. allowed x >>= λ w. acted (Some w) (effect s.board out.command out.console.name) >>= λ act. does
        (record s { board = act.board }) (filter (shown s out.console) act.lines) (Some w)) out.denied;
  }

  kept_off : IsKeptOff s name text why → ComesTo (command_outcome s name text) why
  kept_off off = record {
    fault = logon_fault why;
    named = subst (IsProper logon_fault) off.denied (logon_proper s off.console off.user);
    comes = heard_so s name text off.console (command.Logon off.id off.password) off.heard
        ∙ ap (λ x. nobody_on x >>= λ _. found fault.BadLogon (known_by s off.id.value off.password.value) >>= λ user.
        admit (logon_ruling s off.console user) >>=
        λ w. does (record s { board = logged_on off.console.name off.id.value s.board }) [] (Some w)) off.nobody
        ∙ ap (λ x. found fault.BadLogon x >>= λ user. admit (logon_ruling s off.console user) >>= λ w. does
        (record s { board = logged_on off.console.name off.id.value s.board }) [] (Some w))
        (known_back s off.id.value off.password.value off.user off.known)
        ∙ ap (λ x. admit x >>= λ w. does (record s { board = logged_on off.console.name off.id.value s.board }) [] (Some w)) off.denied;
  }

module _ (s : State) (name : List ℕ) (why : Rule) (out : IsShutOut s name why) where
  refused_here : console_asking s name ≡ refused (denial_fault why) (Some why)
  refused_here =
      ap (λ x. x >>= λ d. unless_denied (logon_denial s d) >>= λ _. Ok d) (console_back (console_at s.board name) out.console out.there out.online)
      ∙ ap (λ o. unless_denied o >>= λ _. Ok out.console) out.denied

  named : IsNamedBy (denial_fault why) why
  named = subst IsLogonRule out.denied (logon_rule s out.console)

-- what is denied ends in that denial
comes_to : (s : State) (r : Input) (why : Rule) → IsDeniedBy s r why → ComesTo (outcome s r) why
comes_to s (input.Command name text) why (inl out) = ruled_out s name text why out
comes_to s (input.Command name text) why (inr off) = kept_off s name text why off
comes_to s (input.Admin name o) why out = record {
  fault = denial_fault why;
  named = named s name why out;
  comes = ap (λ x. x >>= λ c. refuse_if (right_fault o) None (not (may_change s c o)) >>= λ _. or_refused
      (changed s o) >>= λ new. does new [] None) (refused_here s name why out);
}
comes_to s (input.ListProfiles name class) why out = record {
  fault = denial_fault why;
  named = named s name why out;
  comes = ap (λ x. x >>= λ c. does s (map profile_line (filter (profile_shown s c) (of_class class s.policy.profiles))) None) (refused_here s name why out);
}
comes_to s (input.ListAccount name from count) why out = record {
  fault = denial_fault why;
  named = named s name why out;
  comes = ap (λ x. x >>= λ c. refuse_if fault.NotSpecial None (not (account_shown s c)) >>= λ _. does s
      (map account_line (asked_for from count s.account)) None) (refused_here s name why out);
}
comes_to s (input.Import name number all) why out = record {
  fault = denial_fault why;
  named = named s name why out;
  comes = ap (λ x. x >>= λ c. refuse_if fault.NotSpecial None (not (is_special (acting s c))) >>= λ _. batch_outcome s
      number all (batch_of s.batches number)) (refused_here s name why out);
}
comes_to s (input.Event e) why out = absurd out

pub denials_answered : DenialsAreAnswered
denials_answered s moment r why answer new denied (inl left) = inl left.aborts
denials_answered s moment r why answer new denied (inr (inl full)) = inl (inr full.answers)
denials_answered s moment r why answer new denied (inr (inr done)) =
    let to = comes_to s r why denied in
    inr (to.fault, to.named, done.answers ∙ ap answer_of to.comes)

pub faults_answered : BoardFaultsAreAnswered
faults_answered s moment name text f why answer new way (inl left) = inl left.aborts
faults_answered s moment name text f why answer new way (inr (inl full)) = inl (inr full.answers)
faults_answered s moment name text f why answer new way (inr (inr done)) =
    let may = way.allowed in
    let comes : command_outcome s name text ≡ refused (board_fault way.refused) (Some why) =
    heard_so s name text way.console way.command may.heard ∙ ap (typed s way.console way.command) may.needs
    ∙ ap (λ x. allowed x >>= λ w. acted (Some w) (effect s.board way.command way.console.name) >>= λ act. does
    (record s { board = act.board }) (filter (shown s way.console) act.lines) (Some w)) may.allowed
    ∙ ap (λ x. acted (Some why) x >>= λ act. does (record s { board = act.board }) (filter (shown s way.console) act.lines) (Some why)) way.refuses in
    inr (done.answers ∙ ap answer_of comes ∙ ap (λ x. Refused x (Some why)) (sym way.returned))
