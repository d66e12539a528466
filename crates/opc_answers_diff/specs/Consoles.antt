-- What consoles let in without a logon, before and after.
use Rattle.std.specs.Prelude.{ℕ, Bool, not, List, [], ◌∷◌, ◌++◌, Option, Some, None, codes, filter, map}
use Rattle.std.specs.BTreeSet.{insert_key}
use Rattle.std.specs.Str.{bytes_eq}
use Rattle.opc_names.specs.declared.auth.Auth.{Auth}
use Rattle.opc_names.specs.declared.auth.Auth.TheVariants as auth
use Rattle.opc_names.specs.Spellings.{auth_text}
use Rattle.opc_terms.specs.declared.mode.Mode.{Mode}
use Rattle.opc_terms.specs.declared.mode.Mode.TheVariants as mode
use Rattle.opc_policy_members.specs.Members.{name_cmp}
use Rattle.opc_board.specs.declared.rows.ConsoleRow.{ConsoleRow}
use Rattle.opc_board.specs.declared.board.BoardRows.{BoardRows}
use Rattle.opc_board.specs.Invariants.{console_at}
use Rattle.opc_answers_diff.specs.declared.consoles.ConsoleChange.{ConsoleChange}

-- the commands of an authority: SYS, IO and CONS together let in those of ALL
abbrev pub let_in : Auth → List ℕ
let_in auth.Master = codes "everything"
let_in auth.All = codes "everything but MASTER"
let_in auth.SysIoCons = codes "everything but MASTER"
let_in other = auth_text other

abbrev pub said_by : Mode → (name : List ℕ) → Auth → List ℕ
said_by mode.Optional name auth = codes "enters " ++ let_in auth
said_by mode.Required name auth = codes "enters nothing"
said_by mode.Auto name auth = codes "acts for " ++ name

-- what is said of a console where nobody is on; one that is not there enters nothing
abbrev pub said_of : Option ConsoleRow → List ℕ
said_of None = codes "enters nothing"
said_of (Some c) = said_by c.mode c.name c.auth

-- the names of some consoles among others, in order
abbrev pub names_with : List ConsoleRow → List (List ℕ) → List (List ℕ)
names_with [] names = names
names_with (c ∷ consoles) names = names_with consoles (insert_key name_cmp names c.name)

abbrev pub names_of_both : (before after : List ConsoleRow) → List (List ℕ)
names_of_both before after = names_with after (names_with before [])

-- each console of either side, if something else is said of it afterwards
abbrev pub change_of : (before after : BoardRows) → (name : List ℕ) → ConsoleChange
change_of before after name =
    record { name = name; before = console_at before name; after = console_at after name }

abbrev pub says_else : ConsoleChange → Bool
says_else change = not (bytes_eq (said_of change.before) (said_of change.after))

abbrev pub console_changes : (before after : BoardRows) → List ConsoleChange
console_changes before after =
    filter says_else (map (change_of before after) (names_of_both before.consoles after.consoles))
