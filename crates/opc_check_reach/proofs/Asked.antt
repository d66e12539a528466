-- What has one of the forms is asked about.
use Rattle.std.proofs.Common.{◌≡◌, ℕ, ◌+◌, true, List, [], ◌∷◌, ◌++◌, length, codes, None, Ok, refl, ap, sym, subst, inl, inr, ◌∙◌}
use Rattle.std.specs.List.{list_any, AllByRecursion}
use Rattle.opc_names.specs.declared.group.Group.{Group}
use Rattle.opc_names.specs.declared.group.Group.TheVariants.{Master, Info, Sys, Io, Cons}
use Rattle.opc_names.specs.declared.level.Level.{Level}
use Rattle.opc_names.specs.declared.level.Level.TheVariants.{Read, Update, Control}
use Rattle.opc_names.specs.Names.{name_fault, qualifiers, console_rule}
use Rattle.opc_terms.specs.declared.unit_kind.UnitKindAt.{UnitKindAt}
use Rattle.opc_terms.specs.declared.unit_kind.UnitKindAt.TheVariants.{Absent, Job, Stc, Tsu}
use Rattle.opc_reader_commands.specs.declared.command.Command.{Command}
use Rattle.opc_reader_commands.specs.declared.command.Command.TheVariants.{
  DisplayUnits,
  DisplayDevices,
  DisplayConsoles,
  DisplayReplies,
  Cancel,
  CancelUser,
  Force,
  StartAs,
  Stop,
  Modify,
  VaryDeviceOnline,
  Mount,
  Unload,
  Swap,
  VaryConsoleOnline,
  ResetConsole,
  Send,
  Log,
  Monitor,
  StopMonitor,
  Halt,
}
use Rattle.opc_reader.specs.Lines.{Reads}
use Rattle.opc_reader.specs.Reading.{reading}
use Rattle.opc_reader.proofs.Exact.{so_reads}
use Rattle.opc_table.specs.Table.{need, needs, qualified, started}
use Rattle.opc_check_reach.specs.Forms.{
  AnyConsole,
  AnyUnit,
  AreOf,
  IsOf,
  Qualifier,
  decides,
  decides_of,
  decides_parts,
  fixed_forms,
  form,
  named_forms,
}
use Rattle.opc_check_reach.specs.Reach.{Decides, IsKind, IsAsked}
use Rattle.opc_check_reach.proofs.Deciding.{decide_parts}
use Rattle.opc_check_reach.proofs.Examples.{named, text, a_reply, an_auth, examples}
use Rattle.opc_check_reach.proofs.Texts.{IsAny, form_made}
use Rattle.opc_check_reach.proofs.Trying.{or_cases, resource_gives}
use Rattle.opc_check_reach.proofs.Typed.{
  IsUnitName,
  line_of,
  operand,
  said,
  cancel_reads,
  cancel_user_reads,
  force_reads,
  start_reads,
  stop_reads,
  modify_reads,
}

-- a command needs it
needs_it : (group : Group) (level : Level) (resource line : List ℕ) (c : Command) (kind : UnitKindAt) → Reads line c → IsKind kind
    → need c kind ≡ needs group level resource → IsAsked resource
needs_it group level resource line c kind reads of_kind needed = inl (record {
  line = line;
  command = c;
  kind = kind;
  access = record { resource = resource; level = level; group = group };
  reads = reads;
  of_kind = of_kind;
  needed = needed;
  on = refl;
})

-- by an example
by_line : (group : Group) (level : Level) (resource line : List ℕ) (c : Command) → reading line ≡ Ok c
    → need c Absent ≡ needs group level resource → IsAsked resource
by_line group level resource line c reads needed = needs_it group level resource line c Absent (so_reads line c reads) tt needed

-- without a name
pub units : IsAsked (codes "MVS.DISPLAY.JOB")
units = by_line Info Read (codes "MVS.DISPLAY.JOB") (codes "D A,L") DisplayUnits examples.units refl

devices : IsAsked (codes "MVS.DISPLAY.U")
devices = by_line Info Read (codes "MVS.DISPLAY.U") (codes "D U") DisplayDevices examples.devices refl

consoles : IsAsked (codes "MVS.DISPLAY.CN")
consoles = by_line Info Read (codes "MVS.DISPLAY.CN") (codes "D C") DisplayConsoles examples.consoles refl

replies : IsAsked (codes "MVS.DISPLAY.R")
replies = by_line Info Read (codes "MVS.DISPLAY.R") (codes "D R") DisplayReplies examples.replies refl

reply : IsAsked (codes "MVS.REPLY")
reply = by_line Info Read (codes "MVS.REPLY") (codes "R 7,X") a_reply examples.reply refl

pub device : IsAsked (codes "MVS.VARY.DEV")
device = by_line Io Update (codes "MVS.VARY.DEV") (codes "V 0A80,ONLINE") (VaryDeviceOnline (named (codes "0A80") 2)) examples.device refl

mount : IsAsked (codes "MVS.MOUNT")
mount = by_line Io Update (codes "MVS.MOUNT") (codes "M 0A80,VOL=V1") (Mount (named (codes "0A80") 2) (named (codes "V1") 11)) examples.mount refl

unload : IsAsked (codes "MVS.UNLOAD")
unload = by_line Io Update (codes "MVS.UNLOAD") (codes "U 0A80") (Unload (named (codes "0A80") 2)) examples.unload refl

swap : IsAsked (codes "MVS.SWAP")
swap = by_line Io Update (codes "MVS.SWAP") (codes "G 0A80,0A81") (Swap (named (codes "0A80") 2) (named (codes "0A81") 7)) examples.swap refl

console : IsAsked (codes "MVS.VARY.CN")
console = by_line Cons Update (codes "MVS.VARY.CN") (codes "V CN(C1),ONLINE") (VaryConsoleOnline (named (codes "C1") 5)) examples.console refl

auth : IsAsked (codes "MVS.VARYAUTH.CN")
auth = by_line Master Control (codes "MVS.VARYAUTH.CN") (codes "V CN(C1),AUTH=ALL") an_auth examples.auth refl

reset : IsAsked (codes "MVS.RESET.CN")
reset = by_line Master Control (codes "MVS.RESET.CN") (codes "E CN(C1)") (ResetConsole (named (codes "C1") 5)) examples.reset refl

send : IsAsked (codes "MVS.SEND")
send = by_line Info Read (codes "MVS.SEND") (codes "SE 'X',USER=(A)") (Send (text (codes "'X'") 3) (named (codes "A") 13)) examples.send refl

log : IsAsked (codes "MVS.LOG")
log = by_line Info Read (codes "MVS.LOG") (codes "L 'X'") (Log (text (codes "'X'") 2)) examples.log refl

monitor : IsAsked (codes "MVS.MONITOR")
monitor = by_line Info Read (codes "MVS.MONITOR") (codes "MN JOBNAMES") Monitor examples.monitor refl

stop_monitor : IsAsked (codes "MVS.STOPMN")
stop_monitor = by_line Info Read (codes "MVS.STOPMN") (codes "PM JOBNAMES") StopMonitor examples.stop_monitor refl

halt : IsAsked (codes "MVS.HALT.EOD")
halt = by_line Sys Update (codes "MVS.HALT.EOD") (codes "Z EOD") Halt examples.halt refl

-- with a name
pub cancel_job : (name : List ℕ) → IsUnitName name → IsAsked (qualified (codes "MVS.CANCEL.JOB") name)
cancel_job name h = needs_it Sys Update _ (line_of (codes "C") name) (Cancel (operand name 2)) Job (cancel_reads name h) tt refl

cancel_tsu : (name : List ℕ) → IsUnitName name → IsAsked (qualified (codes "MVS.CANCEL.TSU") name)
cancel_tsu name h = needs_it Sys Update _ (line_of (codes "C") (codes "U=" ++ name)) (CancelUser (operand name 4)) Absent (cancel_user_reads name h) tt refl

force_job : (name : List ℕ) → IsUnitName name → IsAsked (qualified (codes "MVS.FORCE.JOB") name)
force_job name h = needs_it Master Control _ (line_of (codes "FORCE") name) (Force (operand name 6)) Job (force_reads name h) tt refl

force_tsu : (name : List ℕ) → IsUnitName name → IsAsked (qualified (codes "MVS.FORCE.TSU") name)
force_tsu name h = needs_it Master Control _ (line_of (codes "FORCE") name) (Force (operand name 6)) Tsu (force_reads name h) tt refl

stop_job : (name : List ℕ) → IsUnitName name → IsAsked (qualified (codes "MVS.STOP.JOB") name)
stop_job name h = needs_it Sys Update _ (line_of (codes "P") name) (Stop (operand name 2)) Job (stop_reads name h) tt refl

modify_job : (name : List ℕ) → IsUnitName name → IsAsked (qualified (codes "MVS.MODIFY.JOB") name)
modify_job name h =
    needs_it Sys Update _ (line_of (codes "F") (name ++ codes ",X")) (Modify (operand name 2) (said (2 + length name + 1))) Job
    (modify_reads name h) tt refl

cancel_stc : (member id : List ℕ) → IsUnitName member → IsUnitName id → IsAsked (started (codes "MVS.CANCEL.STC") member id)
cancel_stc member id m h = needs_it Sys Update _ (line_of (codes "C") id) (Cancel (operand id 2)) (Stc member) (cancel_reads id h) m refl

force_stc : (member id : List ℕ) → IsUnitName member → IsUnitName id → IsAsked (started (codes "MVS.FORCE.STC") member id)
force_stc member id m h = needs_it Master Control _ (line_of (codes "FORCE") id) (Force (operand id 6)) (Stc member) (force_reads id h) m refl

stop_stc : (member id : List ℕ) → IsUnitName member → IsUnitName id → IsAsked (started (codes "MVS.STOP.STC") member id)
stop_stc member id m h = needs_it Sys Update _ (line_of (codes "P") id) (Stop (operand id 2)) (Stc member) (stop_reads id h) m refl

modify_stc : (member id : List ℕ) → IsUnitName member → IsUnitName id → IsAsked (started (codes "MVS.MODIFY.STC") member id)
modify_stc member id m h =
    needs_it Sys Update _ (line_of (codes "F") (id ++ codes ",X")) (Modify (operand id 2) (said (2 + length id + 1))) (Stc member)
    (modify_reads id h) m refl

start_stc : (member id : List ℕ) → IsUnitName member → IsUnitName id → IsAsked (started (codes "MVS.START.STC") member id)
start_stc member id m h =
    needs_it Sys Update _ (line_of (codes "S") (member ++ 46 ∷ id)) (StartAs (operand member 2) (operand id (2 + length member + 1))) Absent
    (start_reads member id m h) tt refl

pub shown_unit : (name : List ℕ) → IsUnitName name → IsAsked (qualified (codes "MVS.DISPLAY.JOB") name)
shown_unit name h = inr (inl (name, h, refl))

shown_console : (name : List ℕ) → name_fault console_rule name ≡ None → IsAsked (qualified (codes "MVS.DISPLAY.CN") name)
shown_console name h = inr (inr (name, h, refl))

-- what has one of the forms
abbrev pub HasAsked : List (List ℕ) → Type 0
HasAsked r = (resource : List ℕ) × IsAsked resource × (qualifiers resource ≡ r)

abbrev pub AreAsked : List Qualifier → Type 0
AreAsked fs = (r : List (List ℕ)) → AreOf fs r → HasAsked r

fixed_row : (words : List ℕ) → IsAsked words → AreAsked (form words [])
fixed_row words asked r are =
    let k = form_made words [] r tt are in
    (k.0, subst (λ x. IsAsked x) (sym k.1) asked, k.2)

named_row : (words : List ℕ) (f : Qualifier) → IsAny f → ((name : List ℕ) → IsOf f name → IsAsked (qualified words name))
    → AreAsked (form words (f ∷ []))
named_row words f any asked r are =
    let k = form_made words (f ∷ []) r (any, tt) are in
    (k.0, subst (λ x. IsAsked x) (sym k.1.2) (asked k.1.0 k.1.1), k.2)

task_row : (words : List ℕ) → ((member id : List ℕ) → IsUnitName member → IsUnitName id → IsAsked (started words member id))
    → AreAsked (form words (AnyUnit ∷ AnyUnit ∷ []))
task_row words asked r are =
    let k = form_made words (AnyUnit ∷ AnyUnit ∷ []) r (tt, (tt, tt)) are in
    (k.0, subst (λ x. IsAsked x) (sym k.1.2.2) (asked k.1.0 k.1.2.0 k.1.1 k.1.2.1), k.2)

pub fixed_asked : AllByRecursion AreAsked fixed_forms
fixed_asked = (fixed_row (codes "MVS.DISPLAY.JOB") units, (fixed_row (codes "MVS.DISPLAY.U") devices, (fixed_row (codes "MVS.DISPLAY.CN") consoles, (fixed_row (codes "MVS.DISPLAY.R") replies, (fixed_row (codes "MVS.REPLY") reply, (fixed_row (codes "MVS.VARY.DEV") device, (fixed_row (codes "MVS.MOUNT") mount, (fixed_row (codes "MVS.UNLOAD") unload, (fixed_row (codes "MVS.SWAP") swap, (fixed_row (codes "MVS.VARY.CN") console, (fixed_row (codes "MVS.VARYAUTH.CN") auth, (fixed_row (codes "MVS.RESET.CN") reset, (fixed_row (codes "MVS.SEND") send, (fixed_row (codes "MVS.LOG") log, (fixed_row (codes "MVS.MONITOR") monitor, (fixed_row (codes "MVS.STOPMN") stop_monitor, (fixed_row (codes "MVS.HALT.EOD") halt, tt)))))))))))))))))

pub named_asked : AllByRecursion AreAsked named_forms
named_asked = (named_row (codes "MVS.DISPLAY.JOB") AnyUnit tt shown_unit, (named_row (codes "MVS.DISPLAY.CN") AnyConsole tt shown_console, (named_row (codes "MVS.CANCEL.JOB") AnyUnit tt cancel_job, (named_row (codes "MVS.CANCEL.TSU") AnyUnit tt cancel_tsu, (named_row (codes "MVS.FORCE.JOB") AnyUnit tt force_job, (named_row (codes "MVS.FORCE.TSU") AnyUnit tt force_tsu, (named_row (codes "MVS.STOP.JOB") AnyUnit tt stop_job, (named_row (codes "MVS.MODIFY.JOB") AnyUnit tt modify_job, (task_row (codes "MVS.START.STC") start_stc, (task_row (codes "MVS.CANCEL.STC") cancel_stc, (task_row (codes "MVS.FORCE.STC") force_stc, (task_row (codes "MVS.STOP.STC") stop_stc, (task_row (codes "MVS.MODIFY.STC") modify_stc, tt)))))))))))))

-- what decides a resource of a form decides one that is asked about
one_decides : (forms : List (List Qualifier)) (pattern : List ℕ) (before : List (List ℕ)) → AllByRecursion AreAsked forms
    → list_any (decides_of pattern before) forms ≡ true → Decides pattern before
one_decides [] pattern before asked h = cc
one_decides (fs ∷ forms) pattern before asked h =
    elim (or_cases (decides_of pattern before fs) (list_any (decides_of pattern before) forms) h) [
      | inl e ↦ (let found = resource_gives fs (decides_parts pattern before) e in
          let resource = asked.0 found.0 found.1 in
          let says = decide_parts pattern before (qualifiers resource.0) (ap (decides_parts pattern before) resource.2 ∙ found.2) in
          (resource.0, resource.1, says.0, says.1))
      | inr e ↦ one_decides forms pattern before asked.1 e
    ]

pub so_decides : (pattern : List ℕ) (before : List (List ℕ)) → decides pattern before ≡ true → Decides pattern before
so_decides pattern before h =
    elim (or_cases (list_any (decides_of pattern before) fixed_forms) (list_any (decides_of pattern before) named_forms) h) [
      | inl e ↦ one_decides fixed_forms pattern before fixed_asked e
      | inr e ↦ one_decides named_forms pattern before named_asked e
    ]
