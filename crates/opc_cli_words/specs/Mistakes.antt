-- What is printed about the options of a command, if something is wrong with them.
use Rattle.std.specs.Prelude.{ℕ, List, ◌++◌, codes}
use Rattle.opc_cli_words.specs.declared.mistake.Mistake.{Mistake}
use Rattle.opc_cli_words.specs.declared.mistake.Mistake.TheVariants as wrong
use Rattle.opc_cli_words.specs.declared.mistake.Opt.{Opt}
use Rattle.opc_cli_words.specs.declared.mistake.Opt.TheVariants as opt

-- the name of an option, as the command line has it
abbrev pub option_name : Opt → List ℕ
option_name opt.Allow = codes "allow"
option_name opt.As = codes "as"
option_name opt.Base = codes "base"
option_name opt.Batch = codes "batch"
option_name opt.Class = codes "class"
option_name opt.Code = codes "code"
option_name opt.Command = codes "command"
option_name opt.Console = codes "console"
option_name opt.Count = codes "count"
option_name opt.From = codes "from"
option_name opt.Last = codes "last"
option_name opt.Level = codes "level"
option_name opt.Now = codes "now"
option_name opt.Port = codes "port"
option_name opt.Resource = codes "resource"
option_name opt.Since = codes "since"
option_name opt.Socket = codes "socket"
option_name opt.SocketMode = codes "socket-mode"
option_name opt.Strict = codes "strict"
option_name opt.Timeout = codes "timeout"
option_name opt.Until = codes "until"
option_name opt.User = codes "user"

-- what is wrong with the options of a command: an invalid value, an option without another that it needs, or a mistake
-- with a text of its own
abbrev pub mistake_text : (command : List ℕ) → Mistake → List ℕ
mistake_text command (wrong.Unread option) = codes "invalid value for --" ++ option_name option
mistake_text command (wrong.Lacks given needed) =
    codes "--" ++ option_name given ++ codes " needs --" ++ option_name needed
mistake_text command wrong.NobodyAlone = codes "--user - needs --console"
mistake_text command wrong.LogonNowhere = codes "LOGON is asked about at a console: give --console"
mistake_text command wrong.NotOneAddress = command ++ codes " needs exactly one of --port and --socket"
mistake_text command wrong.NotOneQuestion = codes "a question needs exactly one of --command and --resource"
mistake_text command wrong.TwoBeginnings = codes "account takes --from or --last, not both"
mistake_text command wrong.TwoInputs = codes "run takes --now or FILE, not both"
mistake_text command wrong.TwoSources = codes "give one of FILE, --policy and --db"
mistake_text command wrong.Unquoted = codes "--command takes one text: --command 'C PAYROLL'"
mistake_text command wrong.NoCommand = codes "invalid value for COMMAND"

-- the line, with the name of the help
abbrev pub mistake_line : (command : List ℕ) → Mistake → List ℕ
mistake_line command mistake =
    codes "error: " ++ mistake_text command mistake ++ codes "; see opcmds " ++ command ++ codes " --help\n"
