-- How rules, lines and rows read, and what they are spelled with.
use Rattle.std.proofs.Common.{◌≡◌, ℕ, List, Option, Some, None, codes, refl, sym, ap, ◌∙◌, rules}
use Rattle.std.specs.Fmt.{digits}
use Rattle.opc_names.specs.declared.auth.Auth.{Auth}
use Rattle.opc_names.specs.declared.auth.Auth.TheVariants as auth
use Rattle.opc_names.specs.declared.class.Class.{Class}
use Rattle.opc_names.specs.declared.class.Class.TheVariants as class
use Rattle.opc_names.specs.declared.level.Level.{Level}
use Rattle.opc_names.specs.declared.level.Level.TheVariants as level
use Rattle.opc_names.specs.Spellings.{auth_text, auths, class_text, classes, level_text, levels, lookup}
use Rattle.opc_terms.specs.declared.mode.Mode.{Mode}
use Rattle.opc_terms.specs.declared.mode.Mode.TheVariants as mode
use Rattle.opc_terms.specs.Modes.{mode_text, modes}
use Rattle.opc_reader.specs.declared.verb.Verb.{Verb}
use Rattle.opc_reader.specs.declared.verb.Verb.TheVariants as verb
use Rattle.opc_reader_commands.specs.Quotes.{text_value}
use Rattle.opc_reader.specs.Verbs.{verbs}
use Rattle.opc_reader_commands.proofs.Quoted.{says}
use Rattle.opc_machine_laws.specs.ReportingLaws.{LinesReadSo, RulesReadSo, SpellingsReadBack, TypedTextsSay, VerbsAreSpelledSo, WordsReadSo}

level_back : (x : Level) → lookup levels (level_text x) ≡ Some x
level_back level.None = refl
level_back level.Read = refl
level_back level.Update = refl
level_back level.Control = refl
level_back level.Alter = refl

class_back : (x : Class) → lookup classes (class_text x) ≡ Some x
class_back class.Console = refl
class_back class.Opercmds = refl

auth_back : (x : Auth) → lookup auths (auth_text x) ≡ Some x
auth_back auth.Master = refl
auth_back auth.All = refl
auth_back auth.Info = refl
auth_back auth.Sys = refl
auth_back auth.Io = refl
auth_back auth.Cons = refl
auth_back auth.SysIo = refl
auth_back auth.SysCons = refl
auth_back auth.IoCons = refl
auth_back auth.SysIoCons = refl

mode_back : (x : Mode) → lookup modes (mode_text x) ≡ Some x
mode_back mode.Optional = refl
mode_back mode.Required = refl
mode_back mode.Auto = refl

pub read_back : SpellingsReadBack
read_back = record { level = level_back; class = class_back; auth = auth_back; mode = mode_back }

-- the abbreviation of a verb
short_is : (v : Verb) (word : List ℕ) → lookup verbs word ≡ Some v → (other : List ℕ)
    → ◌≡◌ {A = Option (List ℕ)} (Some word) (Some other) → lookup verbs other ≡ Some v
short_is v word h other e = let same : word ≡ other = search (rules, e) in ap (lookup verbs) (sym same) ∙ h

no_short : (v : Verb) (other : List ℕ) → ◌≡◌ {A = Option (List ℕ)} None (Some other) → lookup verbs other ≡ Some v
no_short v other e = absurd (search (rules, e))

pub spelled : VerbsAreSpelledSo
spelled verb.Display = record { full = refl; short = short_is verb.Display (codes "D") refl }
spelled verb.Cancel = record { full = refl; short = short_is verb.Cancel (codes "C") refl }
spelled verb.Force = record { full = refl; short = no_short verb.Force }
spelled verb.Start = record { full = refl; short = short_is verb.Start (codes "S") refl }
spelled verb.Stop = record { full = refl; short = short_is verb.Stop (codes "P") refl }
spelled verb.Modify = record { full = refl; short = short_is verb.Modify (codes "F") refl }
spelled verb.Reply = record { full = refl; short = short_is verb.Reply (codes "R") refl }
spelled verb.Vary = record { full = refl; short = short_is verb.Vary (codes "V") refl }
spelled verb.Mount = record { full = refl; short = short_is verb.Mount (codes "M") refl }
spelled verb.Unload = record { full = refl; short = short_is verb.Unload (codes "U") refl }
spelled verb.Swap = record { full = refl; short = short_is verb.Swap (codes "G") refl }
spelled verb.Reset = record { full = refl; short = short_is verb.Reset (codes "E") refl }
spelled verb.Send = record { full = refl; short = short_is verb.Send (codes "SE") refl }
spelled verb.Log = record { full = refl; short = short_is verb.Log (codes "L") refl }
spelled verb.Monitor = record { full = refl; short = short_is verb.Monitor (codes "MN") refl }
spelled verb.StopMonitor = record { full = refl; short = short_is verb.StopMonitor (codes "PM") refl }
spelled verb.Halt = record { full = refl; short = short_is verb.Halt (codes "Z") refl }
spelled verb.Logon = record { full = refl; short = no_short verb.Logon }
spelled verb.Logoff = record { full = refl; short = no_short verb.Logoff }

pub texts_say : TypedTextsSay
texts_say typed = says typed (text_value typed) refl

pub rules_read : RulesReadSo
rules_read = record { profile = refl; warned = refl; none = refl; group = refl; logon = refl; revoked = refl; no_rule = refl }

pub words_read : WordsReadSo
words_read = record { levels = refl; groups = refl; classes = refl; modes = refl }

pub lines_read : LinesReadSo
unfolding digits
lines_read = record {
  job = refl;
  task = refl;
  session = refl;
  used = refl;
  free = refl;
  attended = refl;
  unattended = refl;
  reply = refl;
  profile = refl;
  account = refl;
  batch = refl;
}
