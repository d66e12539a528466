-- The texts of access levels, classes, command groups and authorities, each kind as a table, and of reply numbers.
use Rattle.std.specs.Prelude.{ℕ, ◌-◌, List, [], ◌∷◌, ◌++◌, Option, Some, None, if◌then◌else◌, codes, length, replicate}
use Rattle.std.specs.Fmt.{decimal}
use Rattle.std.specs.Str.{bytes_eq}
use Rattle.opc_names.specs.declared.level.Level.{Level}
use Rattle.opc_names.specs.declared.level.Level.TheVariants as level
use Rattle.opc_names.specs.declared.class.Class.{Class}
use Rattle.opc_names.specs.declared.class.Class.TheVariants.{Console, Opercmds}
use Rattle.opc_names.specs.declared.group.Group.{Group}
use Rattle.opc_names.specs.declared.group.Group.TheVariants as group
use Rattle.opc_names.specs.declared.auth.Auth.{Auth}
use Rattle.opc_names.specs.declared.auth.Auth.TheVariants.{
  Master,
  All,
  Info,
  Sys,
  Io,
  Cons,
  SysIo,
  SysCons,
  IoCons,
  SysIoCons,
}

-- what a table has for a text: the first entry with this spelling
abbrev pub lookup : {A : Type 0} → List (List ℕ × A) → List ℕ → Option A
lookup [] text = None
lookup (row ∷ rows) text = if bytes_eq text row.0 then Some row.1 else lookup rows text

abbrev pub level_text : Level → List ℕ
level_text level.None = codes "NONE"
level_text level.Read = codes "READ"
level_text level.Update = codes "UPDATE"
level_text level.Control = codes "CONTROL"
level_text level.Alter = codes "ALTER"

abbrev pub levels : List (List ℕ × Level)
levels = (codes "NONE", level.None) ∷ (codes "READ", level.Read) ∷ (codes "UPDATE", level.Update)
    ∷ (codes "CONTROL", level.Control) ∷ (codes "ALTER", level.Alter) ∷ []

abbrev pub class_text : Class → List ℕ
class_text Console = codes "CONSOLE"
class_text Opercmds = codes "OPERCMDS"

abbrev pub classes : List (List ℕ × Class)
classes = (codes "CONSOLE", Console) ∷ (codes "OPERCMDS", Opercmds) ∷ []

abbrev pub group_text : Group → List ℕ
group_text group.Master = codes "MASTER"
group_text group.Info = codes "INFO"
group_text group.Sys = codes "SYS"
group_text group.Io = codes "IO"
group_text group.Cons = codes "CONS"

abbrev pub groups : List (List ℕ × Group)
groups = (codes "MASTER", group.Master) ∷ (codes "INFO", group.Info) ∷ (codes "SYS", group.Sys) ∷ (codes "IO", group.Io)
    ∷ (codes "CONS", group.Cons) ∷ []

-- An authority is written with its groups in the order SYS, IO, CONS,
abbrev pub auth_text : Auth → List ℕ
auth_text Master = codes "MASTER"
auth_text All = codes "ALL"
auth_text Info = codes "INFO"
auth_text Sys = codes "SYS"
auth_text Io = codes "IO"
auth_text Cons = codes "CONS"
auth_text SysIo = codes "SYS,IO"
auth_text SysCons = codes "SYS,CONS"
auth_text IoCons = codes "IO,CONS"
auth_text SysIoCons = codes "SYS,IO,CONS"

-- and read with them in any order, none twice.
abbrev pub auths : List (List ℕ × Auth)
auths =
    (codes "MASTER", Master) ∷ (codes "ALL", All) ∷ (codes "INFO", Info)
    ∷ (codes "SYS", Sys) ∷ (codes "IO", Io) ∷ (codes "CONS", Cons)
    ∷ (codes "SYS,IO", SysIo) ∷ (codes "IO,SYS", SysIo)
    ∷ (codes "SYS,CONS", SysCons) ∷ (codes "CONS,SYS", SysCons)
    ∷ (codes "IO,CONS", IoCons) ∷ (codes "CONS,IO", IoCons)
    ∷ (codes "SYS,IO,CONS", SysIoCons) ∷ (codes "SYS,CONS,IO", SysIoCons)
    ∷ (codes "IO,SYS,CONS", SysIoCons) ∷ (codes "IO,CONS,SYS", SysIoCons)
    ∷ (codes "CONS,SYS,IO", SysIoCons) ∷ (codes "CONS,IO,SYS", SysIoCons) ∷ []

-- a number in two digits
abbrev pub two_digits : ℕ → List ℕ
two_digits n = replicate (2 - length (decimal n)) 48 ++ decimal n
