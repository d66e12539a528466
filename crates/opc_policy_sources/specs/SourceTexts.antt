-- The texts of sources.
use Rattle.std.specs.Prelude.{ℕ, List, [], ◌++◌, Option, Some, None, codes}
use Rattle.opc_policy_sources.specs.declared.sources.HeldLevel.{HeldLevel}
use Rattle.opc_policy_sources.specs.declared.sources.LevelSource.{LevelSource}
use Rattle.opc_policy_sources.specs.declared.sources.LevelSource.TheVariants.{
  Own,
  Group,
  Everyone,
  Universal,
  Restricted,
}

abbrev pub source_text : LevelSource → List ℕ
source_text Own = codes "OWN"
source_text (Group group) = codes "GROUP " ++ group
source_text Everyone = codes "EVERYONE"
source_text Universal = codes "UACC"
source_text Restricted = codes "RESTRICTED"

-- the console, if it is an entry for one alone
abbrev pub at_text : Option (List ℕ) → List ℕ
at_text None = []
at_text (Some console) = codes " AT " ++ console

abbrev pub held_source_text : HeldLevel → List ℕ
held_source_text held = source_text held.source ++ at_text held.when
