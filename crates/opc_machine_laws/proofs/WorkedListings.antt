-- Worked cases of classes, consoles, listings and imports, over the state of the worked cases.
use Rattle.std.proofs.Common.{◌≡◌, ℕ, true, false, List, [], ◌∷◌, Option, Some, None, Ok, option_map, refl, codes}
use Rattle.std.specs.Fmt.{digits}
use Rattle.opc_names.specs.declared.auth.Auth.TheVariants as auth
use Rattle.opc_names.specs.declared.class.Class.TheVariants.{Console, Opercmds}
use Rattle.opc_names.specs.declared.level.Level.TheVariants as level
use Rattle.opc_policy_members.specs.declared.connect.Connect.{Connect}
use Rattle.opc_terms.specs.declared.fault.Fault.TheVariants as fault
use Rattle.opc_terms.specs.declared.mode.Mode.TheVariants.{Optional, Required}
use Rattle.opc_policy_members.specs.declared.row.Row.{Row}
use Rattle.opc_policy_members.specs.declared.row.Row.TheVariants as row
use Rattle.opc_terms.specs.declared.rule.Rule.TheVariants as rule
use Rattle.opc_policy_members.specs.Held.{held}
use Rattle.opc_board.specs.declared.line.Item.TheVariants.{Plain}
use Rattle.opc_state.specs.Invariants.{IsState}
use Rattle.opc_state.specs.State.{State}
use Rattle.opc_machine.specs.Inputs as input
use Rattle.opc_machine.specs.Machine.{first_refusal, outcome}
use Rattle.opc_machine.specs.declared.operation.Operation.TheVariants as operation
use Rattle.opc_machine.specs.declared.outcome.Refusal.{Refusal}
use Rattle.opc_machine.specs.Outcome.{StateOutcome}
use Rattle.opc_machine_laws.proofs.Worked.{
  user,
  policy,
  console,
  consoles,
  day,
  base,
  plainly,
  state_in,
  texts_in,
  refusal,
  after,
}

-- classes and consoles

deactivates_class : option_map (λ (s : State). s.policy.active) (after (operation.ClassActive Console false)) ≡ Some (record {
  console = false;
  opercmds = true;
})
deactivates_class = refl

last_master : refusal (operation.DefineConsole (codes "C2") auth.All Optional) ≡ plainly fault.LastMaster
last_master = refl

-- the user stays logged on
sets_console : option_map (λ (s : State). s.board.consoles)
    (state_in (outcome
    (record base {
      board = record base.board
          { consoles = console (codes "C1") auth.Sys Optional true (Some (codes "SECADM")) ∷ [] };
    })
    (input.Admin (codes "C1") (operation.DefineConsole (codes "C1") auth.Master Required))))
    ≡ Some (console (codes "C1") auth.Master Required true (Some (codes "SECADM")) ∷ [])
sets_console = refl

defines_console : option_map (λ (s : State). s.board.consoles)
    (state_in (outcome
    (record base {
      board = record base.board
          { consoles = console (codes "C1") auth.Sys Optional true (Some (codes "SECADM")) ∷ [] };
    })
    (input.Admin (codes "C1") (operation.DefineConsole (codes "A1") auth.Info Required))))
    ≡ Some (console (codes "A1") auth.Info Required true None ∷ console (codes "C1") auth.Sys Optional true (Some (codes "SECADM")) ∷ [])
defines_console = refl

-- listings

all_profiles : texts_in (outcome base (input.ListProfiles (codes "C2") Opercmds))
    ≡ Some (codes "A.B UACC NONE OWNER CARL" ∷ codes "A.* UACC NONE OWNER FRED WARNING" ∷ codes "** UACC READ OWNER SECADM" ∷ [])
all_profiles = refl

-- his own, and one in which he holds READ; a warning shows nothing
own_profiles : texts_in (outcome base (input.ListProfiles (codes "C5") Opercmds)) ≡ Some
    (codes "A.B UACC NONE OWNER CARL" ∷ codes "** UACC READ OWNER SECADM" ∷ [])
unfolding held
own_profiles = refl

nobody_sees_profiles : texts_in (outcome base (input.ListProfiles (codes "C7") Opercmds)) ≡ Some []
nobody_sees_profiles = refl

profiles_need_logon : first_refusal base (input.ListProfiles (codes "C3") Opercmds) ≡ Some (record {
  fault = fault.LogonRequired;
  rule = Some rule.LogonRequired;
})
profiles_need_logon = refl

the_account : texts_in (outcome base (input.ListAccount (codes "C2") 0 2)) ≡ Some (codes "1 101 C3 - E12 LOGONREQUIRED" ∷ codes "2 102 C3 - E14 -" ∷ [])
unfolding digits
the_account = refl

the_end_of_the_account : texts_in (outcome base (input.ListAccount (codes "C2") 3 10)) ≡ Some (codes "3 103 C3 - E16 -" ∷ [])
unfolding digits
the_end_of_the_account = refl

past_the_account : texts_in (outcome base (input.ListAccount (codes "C2") 4 10)) ≡ Some []
past_the_account = refl

account_not_shown : first_refusal base (input.ListAccount (codes "C1") 1 10) ≡ plainly fault.NotSpecial
account_not_shown = refl

-- imports

abbrev imported : ℕ → List Row → StateOutcome
imported number rows = outcome base (input.Import (codes "C2") number rows)

abbrev refused_import : ℕ → List Row → Option Refusal
refused_import number rows = first_refusal base (input.Import (codes "C2") number rows)

keeps_batch : imported 8 day
    ≡ Ok (record {
      state = record base {
        policy = record policy { groups = codes "DAY" ∷ codes "NIGHT" ∷ codes "OPS" ∷ [] };
        batches = record { number = 7; rows = day } ∷ record { number = 8; rows = day } ∷ [];
      };
      lines = record { item = Plain; text = codes "BATCH 8 KEPT" } ∷ [];
      rule = None;
    })
unfolding digits
keeps_batch = refl

same_batch_again : imported 7 day ≡ Ok (record { state = base; lines = record { item = Plain; text = codes "BATCH 7 AGAIN" } ∷ []; rule = None })
unfolding digits
same_batch_again = refl

batch_changed : refused_import 7 (row.Group (codes "LATE") ∷ []) ≡ plainly fault.BatchChanged
batch_changed = refl

-- the right comes first
stranger_learns_nothing : first_refusal base (input.Import (codes "C1") 7 day) ≡ plainly fault.NotSpecial
stranger_learns_nothing = refl

user_of_the_name : refused_import 8 (row.Group (codes "ANNA") ∷ []) ≡ plainly (fault.Exists (codes "ANNA"))
user_of_the_name = refl

no_such_group : refused_import 8 (row.Group (codes "DAY") ∷ row.Connect (codes "ANNA") (codes "LATE") ∷ []) ≡ plainly (fault.Missing (codes "LATE"))
no_such_group = refl

import_loses_master : refused_import 8 (row.Console (codes "C2") auth.All Optional ∷ []) ≡ plainly fault.LastMaster
import_loses_master = refl

-- first row and last count, and nothing between them
import_moves_master : refused_import 8 (row.Console (codes "C2") auth.All Optional ∷ row.Console (codes "C1") auth.Master Optional ∷ []) ≡ None
import_moves_master = refl

-- the state has the invariants of states
has_invariants : IsState base
has_invariants = record {
  board = record {
    units_rise = tt;
    devices_rise = tt;
    consoles_rise = (
      (refl, (refl, (refl, (refl, (refl, (refl, tt)))))),
      (
        (refl, (refl, (refl, (refl, (refl, tt))))),
        (
          (refl, (refl, (refl, (refl, tt)))),
          ((refl, (refl, (refl, tt))), ((refl, (refl, tt)), ((refl, tt), (tt, tt)))),
        ),
      ),
    );
    replies_rise = tt;
    held = tt;
  };
  policy = record { apart = (refl, (refl, tt)); connects = ((refl, refl), tt); profiles = ((refl, (refl, tt)), ((refl, tt), ((refl, tt), tt))) };
  logons = (refl, (refl, (tt, (tt, (refl, (refl, (tt, tt)))))));
}
