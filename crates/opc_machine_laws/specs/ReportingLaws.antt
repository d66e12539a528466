-- How rules, lines and rows read, and what they are spelled with, for those who read them.
use Rattle.std.specs.Prelude.{◌≡◌, ℕ, true, false, List, [], ◌∷◌, Option, Some, None, map, codes}
use Rattle.opc_names.specs.declared.auth.Auth.{Auth}
use Rattle.opc_names.specs.declared.auth.Auth.TheVariants as auth
use Rattle.opc_names.specs.declared.class.Class.{Class}
use Rattle.opc_names.specs.declared.class.Class.TheVariants.{Console, Opercmds}
use Rattle.opc_names.specs.declared.group.Group.TheVariants as group
use Rattle.opc_names.specs.declared.level.Level.{Level}
use Rattle.opc_names.specs.declared.level.Level.TheVariants as level
use Rattle.opc_names.specs.Spellings.{auth_text, auths, class_text, classes, group_text, level_text, levels, lookup}
use Rattle.opc_terms.specs.declared.mode.Mode.{Mode}
use Rattle.opc_terms.specs.declared.mode.Mode.TheVariants as mode
use Rattle.opc_terms.specs.declared.rule.Rule.TheVariants as rule
use Rattle.opc_terms.specs.Modes.{mode_text, modes}
use Rattle.opc_terms.specs.Rules.{rule_text, rule_text_or_none}
use Rattle.opc_reader.specs.declared.verb.Verb.{Verb}
use Rattle.opc_reader.specs.declared.verb.Verb.TheVariants as verb
use Rattle.opc_reader_commands.specs.Quotes.{Says, text_value}
use Rattle.opc_reader.specs.Verbs.{verbs}
use Rattle.opc_board.specs.declared.rows.UnitKind.TheVariants.{Job, Stc, Tsu}
use Rattle.opc_board.specs.Texts.{console_line, device_line, reply_line, unit_line}
use Rattle.opc_machine.specs.Imports.{batch_line}
use Rattle.opc_machine.specs.Listings.{account_line, profile_line}
use Rattle.opc_machine_laws.specs.HoldingLaws.{levels_up}

-- What is read is what is written: each level, class, authority and mode is read back from its text.
pub record SpellingsReadBack : Type 0 where
  pub level : (l : Level) → lookup levels (level_text l) ≡ Some l
  pub class : (c : Class) → lookup classes (class_text c) ≡ Some c
  pub auth : (a : Auth) → lookup auths (auth_text a) ≡ Some a
  pub mode : (m : Mode) → lookup modes (mode_text m) ≡ Some m

-- the word of a verb in full, and its abbreviation, if it has one
abbrev pub words_of : Verb → List ℕ × Option (List ℕ)
words_of verb.Display = (codes "DISPLAY", Some (codes "D"))
words_of verb.Cancel = (codes "CANCEL", Some (codes "C"))
words_of verb.Force = (codes "FORCE", None)
words_of verb.Start = (codes "START", Some (codes "S"))
words_of verb.Stop = (codes "STOP", Some (codes "P"))
words_of verb.Modify = (codes "MODIFY", Some (codes "F"))
words_of verb.Reply = (codes "REPLY", Some (codes "R"))
words_of verb.Vary = (codes "VARY", Some (codes "V"))
words_of verb.Mount = (codes "MOUNT", Some (codes "M"))
words_of verb.Unload = (codes "UNLOAD", Some (codes "U"))
words_of verb.Swap = (codes "SWAP", Some (codes "G"))
words_of verb.Reset = (codes "RESET", Some (codes "E"))
words_of verb.Send = (codes "SEND", Some (codes "SE"))
words_of verb.Log = (codes "LOG", Some (codes "L"))
words_of verb.Monitor = (codes "MONITOR", Some (codes "MN"))
words_of verb.StopMonitor = (codes "STOPMN", Some (codes "PM"))
words_of verb.Halt = (codes "HALT", Some (codes "Z"))
words_of verb.Logon = (codes "LOGON", None)
words_of verb.Logoff = (codes "LOGOFF", None)

-- Both words of a verb mean it.
pub record IsSpelled (v : Verb) : Type 0 where
  pub full : lookup verbs (words_of v).0 ≡ Some v
  pub short : (word : List ℕ) → (words_of v).1 ≡ Some word → lookup verbs word ≡ Some v

abbrev pub VerbsAreSpelledSo : Type 0
VerbsAreSpelledSo = (v : Verb) → IsSpelled v

-- A text that is typed means what is between its apostrophes, with each pair as one, or itself in upper case.
abbrev pub TypedTextsSay : Type 0
TypedTextsSay = (typed : List ℕ) → Says typed (text_value typed)

-- Worked examples of the text of each rule,
pub record RulesReadSo : Type 0 where
  pub profile : rule_text (rule.Profile Opercmds (codes "MVS.CANCEL.**") level.Read level.Update false) ≡ codes
      "PROFILE OPERCMDS MVS.CANCEL.** HELD READ NEEDED UPDATE"
  pub warned : rule_text (rule.Profile Console (codes "C1") level.None level.Read true) ≡ codes
      "PROFILE CONSOLE C1 HELD NONE NEEDED READ WARNED"
  pub none : rule_text rule.NoProfile ≡ codes "NOPROFILE"
  pub group : rule_text (rule.ConsoleGroup group.Sys auth.SysIo) ≡ codes "GROUP SYS AUTH SYS,IO"
  pub logon : rule_text rule.LogonRequired ≡ codes "LOGONREQUIRED"
  pub revoked : rule_text rule.Revoked ≡ codes "REVOKED"
  pub no_rule : rule_text_or_none None ≡ codes "-"

-- of the words for levels, groups, classes and modes,
pub record WordsReadSo : Type 0 where
  pub levels : map level_text levels_up ≡ codes "NONE" ∷ codes "READ" ∷ codes "UPDATE" ∷ codes "CONTROL" ∷ codes "ALTER"
      ∷ []
  pub groups : map group_text (group.Master ∷ group.Info ∷ group.Sys ∷ group.Io ∷ group.Cons ∷ []) ≡ codes "MASTER"
      ∷ codes "INFO" ∷ codes "SYS" ∷ codes "IO" ∷ codes "CONS" ∷ []
  pub classes : map class_text (Console ∷ Opercmds ∷ []) ≡ codes "CONSOLE" ∷ codes "OPERCMDS" ∷ []
  pub modes : map mode_text (mode.Required ∷ mode.Optional ∷ mode.Auto ∷ []) ≡ codes "REQUIRED" ∷ codes "OPTIONAL"
      ∷ codes "AUTO" ∷ []

-- and of each kind of line.
pub record LinesReadSo : Type 0 where
  pub job : (unit_line (record {
    name = codes "PAY1";
    kind = Job;
    cancelable = true;
    stopping = false;
    last_text = None;
  })).text ≡ codes "PAY1     JOB ACTIVE"
  pub task : (unit_line (record {
    name = codes "JES2";
    kind = Stc (codes "JES");
    cancelable = true;
    stopping = true;
    last_text = None;
  })).text ≡ codes "JES2     STC STOPPING JES"
  pub session : (unit_line (record {
    name = codes "OPERATOR";
    kind = Tsu;
    cancelable = true;
    stopping = false;
    last_text = None;
  })).text ≡ codes "OPERATOR TSU ACTIVE"
  pub used : (device_line (record {
    number = codes "0A80";
    online = true;
    volume = Some (codes "VOL1");
    unit = Some (codes "PAY1");
  })).text ≡ codes "0A80 ONLINE  VOL1   PAY1"
  pub free : (device_line (record {
    number = codes "0A81";
    online = false;
    volume = None;
    unit = None;
  })).text ≡ codes "0A81 OFFLINE ------ -"
  pub attended : (console_line (record {
    name = codes "C1";
    auth = auth.SysIo;
    mode = mode.Required;
    online = true;
    user = Some (codes "ANNA");
    monitor = true;
  })).text ≡ codes "C1       ONLINE  MN SYS,IO ANNA"
  pub unattended : (console_line (record {
    name = codes "MASTER1";
    auth = auth.Master;
    mode = mode.Optional;
    online = false;
    user = None;
    monitor = false;
  })).text ≡ codes "MASTER1  OFFLINE -- MASTER -"
  pub reply : (reply_line 7 (codes "READY?")).text ≡ codes "07 READY?"
  pub profile : (profile_line (record {
    class = Opercmds;
    pattern = codes "A.*";
    owner = codes "FRED";
    uacc = level.Read;
    warning = true;
    entries = [];
  })).text ≡ codes "A.* UACC READ OWNER FRED WARNING"
  pub account : (account_line (
    3,
    record {
      moment = 101;
      console = codes "C1";
      user = codes "ANNA";
      code = codes "E12";
      rule = codes "LOGONREQUIRED";
    },
  )).text ≡ codes "3 101 C1 ANNA E12 LOGONREQUIRED"
  pub batch : (batch_line 7 (codes "KEPT")).text ≡ codes "BATCH 7 KEPT"
