-- The forms of commands: each command as its verb and the parts of its operands.
use Rattle.std.specs.Prelude.{◌≡◌, ◌≢◌, ◌+◌, ℕ, ◌⊎◌, ⊤, List, [], ◌∷◌, ◌++◌, Some, None, length, codes}
use Rattle.opc_names.specs.declared.auth.Auth.{Auth}
use Rattle.opc_names.specs.declared.rule.NameRule.{NameRule}
use Rattle.opc_names.specs.Names.{name_fault, user_rule, unit_rule, console_rule, volume_rule, device_rule}
use Rattle.opc_names.specs.Spellings.{lookup}
use Rattle.opc_reader.specs.declared.verb.Verb.{Verb}
use Rattle.opc_reader.specs.declared.verb.Verb.TheVariants as verb
use Rattle.opc_reader_commands.specs.declared.command.Operand.{Operand}
use Rattle.opc_reader_commands.specs.declared.command.Text.{Text}
use Rattle.opc_reader_commands.specs.declared.command.Command.{Command}
use Rattle.opc_reader_commands.specs.declared.command.Command.TheVariants.{
  DisplayUnits,
  DisplayUnit,
  DisplayDevices,
  DisplayConsoles,
  DisplayReplies,
  Cancel,
  CancelUser,
  Force,
  Start,
  StartAs,
  Stop,
  Modify,
  Reply,
  VaryDeviceOnline,
  VaryDeviceOffline,
  VaryConsoleOnline,
  VaryConsoleOffline,
  VaryConsoleAuth,
  Mount,
  Unload,
  Swap,
  ResetConsole,
  Send,
  Log,
  Monitor,
  StopMonitor,
  Halt,
  Logon,
  Logoff,
}
use Rattle.opc_reader.specs.Authorities.{authorities}
use Rattle.opc_reader.specs.Operands.{number}
use Rattle.opc_reader_commands.specs.Quotes.{OpensQuote, IsQuoted}
use Rattle.opc_reader_commands.specs.Stretches.{Stretch, folded}

-- a part of what follows a verb
pub data Part : Type 0 where
  Word : List ℕ → Part
  Name : NameRule → Operand (List ℕ) → Part
  Number : Operand ℕ → Part
  Authority : Operand Auth → Part
  QuotedText : Text → Part
  AnyText : Text → Part

-- the verb of a command
abbrev pub verb_of : Command → Verb
verb_of DisplayUnits = verb.Display
verb_of (DisplayUnit name) = verb.Display
verb_of DisplayDevices = verb.Display
verb_of DisplayConsoles = verb.Display
verb_of DisplayReplies = verb.Display
verb_of (Cancel name) = verb.Cancel
verb_of (CancelUser user) = verb.Cancel
verb_of (Force name) = verb.Force
verb_of (Start member) = verb.Start
verb_of (StartAs member id) = verb.Start
verb_of (Stop name) = verb.Stop
verb_of (Modify name text) = verb.Modify
verb_of (Reply id text) = verb.Reply
verb_of (VaryDeviceOnline device) = verb.Vary
verb_of (VaryDeviceOffline device) = verb.Vary
verb_of (VaryConsoleOnline console) = verb.Vary
verb_of (VaryConsoleOffline console) = verb.Vary
verb_of (VaryConsoleAuth console auth) = verb.Vary
verb_of (Mount device volume) = verb.Mount
verb_of (Unload device) = verb.Unload
verb_of (Swap from to) = verb.Swap
verb_of (ResetConsole console) = verb.Reset
verb_of (Send text user) = verb.Send
verb_of (Log text) = verb.Log
verb_of Monitor = verb.Monitor
verb_of StopMonitor = verb.StopMonitor
verb_of Halt = verb.Halt
verb_of (Logon user password) = verb.Logon
verb_of Logoff = verb.Logoff

-- its operands, part by part
abbrev pub parts : Command → List Part
parts DisplayUnits = Word (codes "A,L") ∷ []
parts (DisplayUnit name) = Word (codes "A,") ∷ Name unit_rule name ∷ []
parts DisplayDevices = Word (codes "U") ∷ []
parts DisplayConsoles = Word (codes "C") ∷ []
parts DisplayReplies = Word (codes "R") ∷ []
parts (Cancel name) = Name unit_rule name ∷ []
parts (CancelUser user) = Word (codes "U=") ∷ Name user_rule user ∷ []
parts (Force name) = Name unit_rule name ∷ []
parts (Start member) = Name unit_rule member ∷ []
parts (StartAs member id) = Name unit_rule member ∷ Word (codes ".") ∷ Name unit_rule id ∷ []
parts (Stop name) = Name unit_rule name ∷ []
parts (Modify name text) = Name unit_rule name ∷ Word (codes ",") ∷ AnyText text ∷ []
parts (Reply id text) = Number id ∷ Word (codes ",") ∷ AnyText text ∷ []
parts (VaryDeviceOnline device) = Name device_rule device ∷ Word (codes ",ONLINE") ∷ []
parts (VaryDeviceOffline device) = Name device_rule device ∷ Word (codes ",OFFLINE") ∷ []
parts (VaryConsoleOnline console) = Word (codes "CN(") ∷ Name console_rule console ∷ Word (codes "),ONLINE") ∷ []
parts (VaryConsoleOffline console) = Word (codes "CN(") ∷ Name console_rule console ∷ Word (codes "),OFFLINE") ∷ []
parts (VaryConsoleAuth console auth) = Word (codes "CN(") ∷ Name console_rule console ∷ Word (codes "),AUTH=")
    ∷ Authority auth ∷ []
parts (Mount device volume) = Name device_rule device ∷ Word (codes ",VOL=") ∷ Name volume_rule volume ∷ []
parts (Unload device) = Name device_rule device ∷ []
parts (Swap from to) = Name device_rule from ∷ Word (codes ",") ∷ Name device_rule to ∷ []
parts (ResetConsole console) = Word (codes "CN(") ∷ Name console_rule console ∷ Word (codes ")") ∷ []
parts (Send text user) = QuotedText text ∷ Word (codes ",USER=(") ∷ Name user_rule user ∷ Word (codes ")") ∷ []
parts (Log text) = QuotedText text ∷ []
parts Monitor = Word (codes "JOBNAMES") ∷ []
parts StopMonitor = Word (codes "JOBNAMES") ∷ []
parts Halt = Word (codes "EOD") ∷ []
parts (Logon user password) = Name user_rule user ∷ Word (codes ",") ∷ Name user_rule password ∷ []
parts Logoff = []

-- `D A,L` is the list, never the unit L
abbrev pub IsMeant : Command → Type 0
IsMeant (DisplayUnit name) = name.value ≢ codes "L"
IsMeant c = ⊤

-- How a part may be typed: words and names in any case; a name's value is in upper case. Any text is quoted if it
-- begins with an apostrophe, and otherwise plain and not empty.
abbrev pub IsTyped : Part → Stretch → Type 0
IsTyped (Word w) s = folded s.text ≡ w
IsTyped (Name rule o) s = (o.typed ≡ s) × (o.value ≡ folded s.text) × (name_fault rule o.value ≡ None)
IsTyped (Number o) s = (o.typed ≡ s) × (number s.text ≡ Some o.value)
IsTyped (Authority o) s = (o.typed ≡ s) × (lookup authorities (folded s.text) ≡ Some o.value)
IsTyped (QuotedText t) s = (t.typed ≡ s) × IsQuoted s.text
IsTyped (AnyText t) s = (t.typed ≡ s) × (IsQuoted s.text ⊎ ((OpensQuote s.text → ⊥) × (s.text ≢ [])))

-- parts one after another, with nothing between them
abbrev pub AreTyped : List Part → Stretch → Type 0
AreTyped [] s = s.text ≡ []
AreTyped (p ∷ ps) s =
    (a b : List ℕ) × (s.text ≡ a ++ b) × IsTyped p (record {
      text = a;
      from = s.from;
    }) × AreTyped ps (record { text = b; from = s.from + length a })
