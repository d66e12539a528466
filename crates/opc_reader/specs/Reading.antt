-- Reading, as a function.
use Rattle.std.specs.Prelude.{ℕ, ◌==◌, List, Option, Some, None, Result, Ok, Err, if◌then◌else◌, length, codes, take}
use Rattle.std.specs.Option.{option_map, is_none}
use Rattle.std.specs.List.{prefix_len}
use Rattle.std.specs.Char.{is_ascii_digit}
use Rattle.std.specs.Str.{bytes_eq}
use Rattle.opc_names.specs.declared.auth.Auth.{Auth}
use Rattle.opc_names.specs.declared.rule.NameRule.{NameRule}
use Rattle.opc_names.specs.Names.{name_fault, user_rule, unit_rule, console_rule, volume_rule, device_rule}
use Rattle.opc_names.specs.Spellings.{lookup}
use Rattle.opc_reader.specs.declared.verb.Verb.{Verb}
use Rattle.opc_reader.specs.declared.verb.Verb.TheVariants as verb
use Rattle.opc_reader_commands.specs.declared.command.Operand.{Operand}
use Rattle.opc_reader_commands.specs.declared.command.Text.{Text}
use Rattle.opc_reader_commands.specs.declared.command.Command.{Command}
use Rattle.opc_reader_commands.specs.declared.command.Command.TheVariants.{
  DisplayUnits,
  DisplayUnit,
  DisplayDevices,
  DisplayConsoles,
  DisplayReplies,
  Cancel,
  CancelUser,
  Force,
  Start,
  StartAs,
  Stop,
  Modify,
  Reply,
  VaryDeviceOnline,
  VaryDeviceOffline,
  VaryConsoleOnline,
  VaryConsoleOffline,
  VaryConsoleAuth,
  Mount,
  Unload,
  Swap,
  ResetConsole,
  Send,
  Log,
  Monitor,
  StopMonitor,
  Halt,
  Logon,
  Logoff,
}
use Rattle.opc_reader.specs.declared.line.ReadFault.{ReadFault}
use Rattle.opc_reader.specs.declared.line.ReadFault.TheVariants.{BadOperand}
use Rattle.opc_reader.specs.Authorities.{authorities}
use Rattle.opc_reader.specs.Lines.{trimmed, verb_place, operands_place, span, early_fault}
use Rattle.opc_reader.specs.Operands.{in_name, number}
use Rattle.opc_reader_commands.specs.Quotes.{quoted_len, is_quoted, opens_quote}
use Rattle.opc_reader_commands.specs.Stretches.{Stretch, folded, prefix, after, word}
use Rattle.opc_reader.specs.Verbs.{verbs}

infixl 10 ◌>>=◌
abbrev pub ◌>>=◌ : {A B : Type 0} → Option A → (A → Option B) → Option B
None >>= f = None
(Some x) >>= f = f x

-- the value, if nothing is left
abbrev pub only : {A : Type 0} → A → Stretch → Option A
only x s = if length s.text == 0 then Some x else None

-- the value, if a word is all
abbrev pub fixed : {A : Type 0} → List ℕ → A → Stretch → Option A
fixed w x s = if bytes_eq (folded s.text) w then Some x else None

-- A name is the run of name characters, and no name character follows it.
abbrev pub name_operand : NameRule → ℕ → Stretch → Option (Operand (List ℕ) × Stretch)
name_operand rule n s =
    if is_none (name_fault rule (folded (take n s.text))) then Some (
      record {
        value = folded (take n s.text);
        typed = prefix n s;
      },
      after n s,
    ) else None

unfoldable pub name : NameRule → Stretch → Option (Operand (List ℕ) × Stretch)
name rule s = name_operand rule (prefix_len in_name s.text) s

unfoldable pub last_name : NameRule → Stretch → Option (Operand (List ℕ))
last_name rule s = do
  x ← name rule s
  only x.0 x.1

-- a number, and what stands after it
abbrev pub number_operand : ℕ → Stretch → Option (Operand ℕ × Stretch)
number_operand n s = option_map (λ v. (record { value = v; typed = prefix n s }, after n s)) (number (take n s.text))

unfoldable pub number_prefix : Stretch → Option (Operand ℕ × Stretch)
number_prefix s = number_operand (prefix_len is_ascii_digit s.text) s

abbrev pub valued : {V : Type 0} → Stretch → Option V → Option (Operand V)
valued s found = option_map (λ v. record { value = v; typed = s }) found

unfoldable pub authority : Stretch → Option (Operand Auth)
authority s = valued s (lookup authorities (folded s.text))

-- quoted text that is all, or that other text follows, and quoted or plain text
unfoldable pub quoted_text : Stretch → Option Text
quoted_text s = if is_quoted s.text then Some (record { typed = s }) else None

unfoldable pub quoted_prefix : Stretch → Option (Text × Stretch)
quoted_prefix s = option_map (λ n. (record { typed = prefix n s }, after n s)) (quoted_len s.text)

unfoldable pub any_text : Stretch → Option Text
any_text s = if opens_quote s.text then quoted_text s else
    (if length s.text == 0 then None else Some (record { typed = s }))

unfoldable pub display : Stretch → Option Command
display s =
    if bytes_eq (folded s.text) (codes "A,L") then Some DisplayUnits else
    (if bytes_eq (folded s.text) (codes "U") then Some DisplayDevices else
    (if bytes_eq (folded s.text) (codes "C") then Some DisplayConsoles else
    (if bytes_eq (folded s.text) (codes "R") then Some DisplayReplies else
    (do
      rest ← word (codes "A,") s
      name ← last_name unit_rule rest
      Some (DisplayUnit name)))))

-- after `U=` a user, otherwise a name
abbrev pub cancel_after : Option Stretch → Stretch → Option Command
cancel_after (Some rest) s = do
  user ← last_name user_rule rest
  Some (CancelUser user)
cancel_after None s = do
  name ← last_name unit_rule s
  Some (Cancel name)

unfoldable pub cancel : Stretch → Option Command
cancel s = cancel_after (word (codes "U=") s) s

unfoldable pub force : Stretch → Option Command
force s = do
  name ← last_name unit_rule s
  Some (Force name)

abbrev pub start_after : Operand (List ℕ) → Option Stretch → Stretch → Option Command
start_after member (Some rest) s = do
  id ← last_name unit_rule rest
  Some (StartAs member id)
start_after member None s = only (Start member) s

unfoldable pub start : Stretch → Option Command
start s = do
  member ← name unit_rule s
  start_after member.0 (word (codes ".") member.1) member.1

unfoldable pub stop : Stretch → Option Command
stop s = do
  name ← last_name unit_rule s
  Some (Stop name)

unfoldable pub modify : Stretch → Option Command
modify s = do
  unit ← name unit_rule s
  rest ← word (codes ",") unit.1
  text ← any_text rest
  Some (Modify unit.0 text)

unfoldable pub reply : Stretch → Option Command
reply s = do
  id ← number_prefix s
  rest ← word (codes ",") id.1
  text ← any_text rest
  Some (Reply id.0 text)

abbrev pub vary_device_after : Operand (List ℕ) → Stretch → Option Command
vary_device_after device s =
    if bytes_eq (folded s.text) (codes ",ONLINE") then Some (VaryDeviceOnline device) else
    (if bytes_eq (folded s.text) (codes ",OFFLINE") then Some (VaryDeviceOffline device) else None)

unfoldable pub vary_device : Stretch → Option Command
vary_device s = do
  device ← name device_rule s
  vary_device_after device.0 device.1

abbrev pub vary_console_after : Operand (List ℕ) → Stretch → Option Command
vary_console_after console s =
    if bytes_eq (folded s.text) (codes "),ONLINE") then Some (VaryConsoleOnline console) else
    (if bytes_eq (folded s.text) (codes "),OFFLINE") then Some (VaryConsoleOffline console) else
    (do
      rest ← word (codes "),AUTH=") s
      auth ← authority rest
      Some (VaryConsoleAuth console auth)))

unfoldable pub vary_console : Stretch → Option Command
vary_console s = do
  console ← name console_rule s
  vary_console_after console.0 console.1

abbrev pub vary_opened : Option Stretch → Stretch → Option Command
vary_opened (Some rest) s = vary_console rest
vary_opened None s = vary_device s

unfoldable pub vary : Stretch → Option Command
vary s = vary_opened (word (codes "CN(") s) s

unfoldable pub mount : Stretch → Option Command
mount s = do
  device ← name device_rule s
  rest ← word (codes ",VOL=") device.1
  volume ← last_name volume_rule rest
  Some (Mount device.0 volume)

unfoldable pub unload : Stretch → Option Command
unload s = do
  device ← last_name device_rule s
  Some (Unload device)

unfoldable pub swap : Stretch → Option Command
swap s = do
  from ← name device_rule s
  rest ← word (codes ",") from.1
  to ← last_name device_rule rest
  Some (Swap from.0 to)

unfoldable pub reset : Stretch → Option Command
reset s = do
  rest ← word (codes "CN(") s
  console ← name console_rule rest
  end ← word (codes ")") console.1
  only (ResetConsole console.0) end

unfoldable pub send : Stretch → Option Command
send s = do
  text ← quoted_prefix s
  rest ← word (codes ",USER=(") text.1
  user ← name user_rule rest
  end ← word (codes ")") user.1
  only (Send text.0 user.0) end

unfoldable pub log : Stretch → Option Command
log s = do
  text ← quoted_text s
  Some (Log text)

unfoldable pub logon : Stretch → Option Command
logon s = do
  user ← name user_rule s
  rest ← word (codes ",") user.1
  password ← last_name user_rule rest
  Some (Logon user.0 password)

-- the command of a verb with these operands
unfoldable pub command : Verb → Stretch → Option Command
command verb.Display s = display s
command verb.Cancel s = cancel s
command verb.Force s = force s
command verb.Start s = start s
command verb.Stop s = stop s
command verb.Modify s = modify s
command verb.Reply s = reply s
command verb.Vary s = vary s
command verb.Mount s = mount s
command verb.Unload s = unload s
command verb.Swap s = swap s
command verb.Reset s = reset s
command verb.Send s = send s
command verb.Log s = log s
command verb.Monitor s = fixed (codes "JOBNAMES") Monitor s
command verb.StopMonitor s = fixed (codes "JOBNAMES") StopMonitor s
command verb.Halt s = fixed (codes "EOD") Halt s
command verb.Logon s = logon s
command verb.Logoff s = only Logoff s

-- a line as it is read: its command, or its first fault
abbrev pub outcome : Option Command → Stretch → Result Command ReadFault
outcome (Some c) s = Ok c
outcome None s = Err (BadOperand (span s))

abbrev pub outcome_of : Option ReadFault → Option Verb → Stretch → Result Command ReadFault
outcome_of (Some fault) v s = Err fault
outcome_of None None s = outcome None s
outcome_of None (Some v) s = outcome (command v s) s

abbrev pub reading : List ℕ → Result Command ReadFault
reading line = outcome_of (early_fault line) (lookup verbs (folded (verb_place (trimmed line)).text))
    (operands_place (trimmed line))
