-- How an authority may be typed: one word, or SYS, IO and CONS as a list in parentheses, in any order and none twice.
-- `SYS` and `(SYS)` are the same.
use Rattle.std.specs.Prelude.{ℕ, List, [], ◌∷◌, codes}
use Rattle.opc_names.specs.declared.auth.Auth.{Auth}
use Rattle.opc_names.specs.declared.auth.Auth.TheVariants.{
  Master,
  All,
  Info,
  Sys,
  Io,
  Cons,
  SysIo,
  SysCons,
  IoCons,
  SysIoCons,
}

abbrev pub authorities : List (List ℕ × Auth)
authorities =
    (codes "MASTER", Master) ∷ (codes "ALL", All) ∷ (codes "INFO", Info)
    ∷ (codes "SYS", Sys) ∷ (codes "(SYS)", Sys)
    ∷ (codes "IO", Io) ∷ (codes "(IO)", Io)
    ∷ (codes "CONS", Cons) ∷ (codes "(CONS)", Cons)
    ∷ (codes "(SYS,IO)", SysIo) ∷ (codes "(IO,SYS)", SysIo)
    ∷ (codes "(SYS,CONS)", SysCons) ∷ (codes "(CONS,SYS)", SysCons)
    ∷ (codes "(IO,CONS)", IoCons) ∷ (codes "(CONS,IO)", IoCons)
    ∷ (codes "(SYS,IO,CONS)", SysIoCons) ∷ (codes "(SYS,CONS,IO)", SysIoCons)
    ∷ (codes "(IO,SYS,CONS)", SysIoCons) ∷ (codes "(IO,CONS,SYS)", SysIoCons)
    ∷ (codes "(CONS,SYS,IO)", SysIoCons) ∷ (codes "(CONS,IO,SYS)", SysIoCons) ∷ []
