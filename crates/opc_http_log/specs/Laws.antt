-- What a log never shows, and that an exchange is one line of it.
use Rattle.std.specs.Prelude.{
  ◌≡◌,
  ℕ,
  Bool,
  true,
  false,
  List,
  ◌∷◌,
  ◌++◌,
  Option,
  Some,
  codes,
}
use Rattle.std.specs.List.{list_all}
use Rattle.opc_policy_members.specs.declared.row.Row.{Row}
use Rattle.opc_machine.specs.declared.operation.Operation.TheVariants.{AddUser, AltUser}
use Rattle.opc_machine.specs.declared.request.Request.{Request}
use Rattle.opc_machine.specs.declared.request.Request.TheVariants.{Admin, Command, Import}
use Rattle.opc_reader.specs.Lines.{Reads}
use Rattle.opc_reader_commands.specs.declared.command.Command.{Command as TypedCommand}
use Rattle.opc_reader_commands.specs.declared.command.Command.TheVariants.{Logon}
use Rattle.opc_reader_commands.specs.declared.command.Operand.{Operand}
use Rattle.opc_http_log.specs.Escapes.{is_printable}
use Rattle.opc_http_log.specs.LogLines.{IsLogLine}
use Rattle.opc_http_log.specs.Typed.{first_word, is_in_word, is_space, is_verb}
use Rattle.opc_http_log.specs.declared.entry.LogEntry.{LogEntry}

-- printable ASCII and, at the end, a line feed
pub record IsOneLine (line : List ℕ) : Type 0 where
  pub text : List ℕ
  pub is : line ≡ text ++ codes "\n"
  pub printable : list_all is_printable text ≡ true

-- An exchange has one line.
abbrev pub ExchangesAreOneLine : Type 0
ExchangesAreOneLine = (entry : LogEntry) (line : List ℕ) → IsLogLine entry line → IsOneLine line

-- Exchanges that differ only in this part of the request have the same line.
abbrev pub HaveOneLine : (one other : Request) → Type 0
HaveOneLine one other = (entry : LogEntry) (line : List ℕ) → IsLogLine (record entry { request = Some one }) line
    → IsLogLine (record entry { request = Some other }) line

-- spaces or none, and a word
pub record IsSpacedWord (text : List ℕ) : Type 0 where
  pub before : List ℕ
  pub first : ℕ
  pub rest : List ℕ
  pub is : text ≡ before ++ first ∷ rest
  pub spaces : list_all is_space before ≡ true
  pub word : list_all is_in_word (first ∷ rest) ≡ true

-- a text that begins with a word, or with what ends one, and not with a verb
pub record IsVerbless (text : List ℕ) : Type 0 where
  pub first : ℕ
  pub rest : List ℕ
  pub is : text ≡ first ∷ rest
  pub no_space : is_space first ≡ false
  pub no_verb : is_verb (first_word text) ≡ false

abbrev pub IsLogon : (text : List ℕ) → Type 0
IsLogon text = (user password : Operand (List ℕ)) × Reads text (Logon user password)

abbrev pub IsNoCommand : (text : List ℕ) → Type 0
IsNoCommand text = (command : TypedCommand) → Reads text command → ⊥

-- Commands that differ in their texts alone have the same line.
abbrev pub AreShownAlike : (one other : List ℕ) → Type 0
AreShownAlike one other = (console : List ℕ) → HaveOneLine (Command console one) (Command console other)

pub record PasswordsAreNotShown : Type 0 where
  -- Whatever password a LOGON has after its verb, its user and a comma (44), the line is the same.
  pub of_logons : (verb user one other : List ℕ) → IsSpacedWord verb → IsSpacedWord user
      → IsLogon (verb ++ 32 ∷ user ++ 44 ∷ one) → IsLogon (verb ++ 32 ∷ user ++ 44 ∷ other)
      → AreShownAlike (verb ++ 32 ∷ user ++ 44 ∷ one) (verb ++ 32 ∷ user ++ 44 ∷ other)
  -- A LOGON that is mistyped, wherever, is no command. Of what is none at most the first word is shown, whatever
  -- follows after a space or a comma,
  pub of_no_commands : (word one other : List ℕ) (end last : ℕ) → IsSpacedWord word
      → is_in_word end ≡ false → is_in_word last ≡ false
      → IsNoCommand (word ++ end ∷ one) → IsNoCommand (word ++ last ∷ other)
      → AreShownAlike (word ++ end ∷ one) (word ++ last ∷ other)
  -- and not even that, if it is no verb.
  pub of_no_verbs : (before one other : List ℕ) → list_all is_space before ≡ true → IsVerbless one → IsVerbless other
      → IsNoCommand (before ++ one) → IsNoCommand (before ++ other) → AreShownAlike (before ++ one) (before ++ other)

-- Whatever digest a user gets, and whatever rows a batch has, the line is the same.
pub record DigestsAreNotShown : Type 0 where
  pub added : (console id : List ℕ) (special auditor restricted : Bool) (one other : Option (List ℕ))
      → HaveOneLine (Admin console (AddUser id special auditor one restricted))
      (Admin console (AddUser id special auditor other restricted))
  pub altered : (console id : List ℕ) (special auditor revoked restricted : Bool) (one other : Option (List ℕ))
      → HaveOneLine (Admin console (AltUser id special auditor revoked one restricted))
      (Admin console (AltUser id special auditor revoked other restricted))
  pub imported : (console : List ℕ) (batch : ℕ) (one other : List Row)
      → HaveOneLine (Import console batch one) (Import console batch other)
