use Rattle.std.proofs.Common.{◌≡◌, ℕ, List, map, take}
use Rattle.opc_names.specs.declared.class.Class.{Class}
use Rattle.opc_policy_members.specs.declared.entry.Entry.{Entry}
use Rattle.opc_store_schema.specs.Represented.{entry_row}
use Rattle.opc_store_schema.specs.State.{IsAccessList}
use Rattle.opc_store_profiles.proofs.entries.entries_in.Given as goal

abbrev pub invariant-loop-row : goal.invariant-loop-row
invariant-loop-row l = (class : Class) (pattern : List ℕ) (entries : List Entry) → IsAccessList entries
    → l.rows ≡ map (entry_row class pattern) entries → l.entries ≡ take l.row-index entries
