-- Levels in their order, and which command groups an authority enters.
use Rattle.std.specs.Prelude.{ℕ, Bool, true, false, List, [], ◌∷◌, nat_le}
use Rattle.std.specs.List.{list_any}
use Rattle.opc_names.specs.declared.level.Level.{Level}
use Rattle.opc_names.specs.declared.level.Level.TheVariants as level
use Rattle.opc_names.specs.declared.class.Class.{Class}
use Rattle.opc_names.specs.declared.class.Class.TheVariants.{Console, Opercmds}
use Rattle.opc_names.specs.declared.group.Group.{Group}
use Rattle.opc_names.specs.declared.group.Group.TheVariants as group
use Rattle.opc_names.specs.declared.auth.Auth.{Auth}
use Rattle.opc_names.specs.declared.auth.Auth.TheVariants.{
  Master,
  All,
  Info,
  Sys,
  Io,
  Cons,
  SysIo,
  SysCons,
  IoCons,
  SysIoCons,
}

abbrev pub level_rank : Level → ℕ
level_rank level.None = 0
level_rank level.Read = 1
level_rank level.Update = 2
level_rank level.Control = 3
level_rank level.Alter = 4

-- a level includes those below it
abbrev pub includes : Level → Level → Bool
includes held needed = nat_le (level_rank needed) (level_rank held)

abbrev pub same_class : Class → Class → Bool
same_class Console Console = true
same_class Opercmds Opercmds = true
same_class Console Opercmds = false
same_class Opercmds Console = false

abbrev pub same_group : Group → Group → Bool
same_group group.Master group.Master = true
same_group group.Info group.Info = true
same_group group.Sys group.Sys = true
same_group group.Io group.Io = true
same_group group.Cons group.Cons = true
same_group g h = false

-- the command groups that a console with an authority may enter (MVS Planning: Operations)
abbrev pub entered : Auth → List Group
entered Master = group.Master ∷ group.Info ∷ group.Sys ∷ group.Io ∷ group.Cons ∷ []
entered All = group.Info ∷ group.Sys ∷ group.Io ∷ group.Cons ∷ []
entered Info = group.Info ∷ []
entered Sys = group.Info ∷ group.Sys ∷ []
entered Io = group.Info ∷ group.Io ∷ []
entered Cons = group.Info ∷ group.Cons ∷ []
entered SysIo = group.Info ∷ group.Sys ∷ group.Io ∷ []
entered SysCons = group.Info ∷ group.Sys ∷ group.Cons ∷ []
entered IoCons = group.Info ∷ group.Io ∷ group.Cons ∷ []
entered SysIoCons = group.Info ∷ group.Sys ∷ group.Io ∷ group.Cons ∷ []

-- whether an authority enters a command group
abbrev pub enters : Auth → Group → Bool
enters auth wanted = list_any (same_group wanted) (entered auth)
