use Rattle.std.proofs.Common.{rules}
use Rattle.std.proofs.lemmas.Fn.{always_returns_same}
use Rattle.opc_policy_members.specs.Access.{entry_cmp}
use Rattle.opc_policy_members.specs.declared.entry.Entry.{Entry}
use Rattle.opc_policy_members.proofs.Placed.{place_found}
use Rattle.opc_policy_members.proofs.entries.place_of.Goals as goal

pub returns : goal.returns
returns c =
    let found = c.binary_search_by.ensures.position (λ (y : Entry). entry_cmp y c.args.new.now) (always_returns_same _ _ _ (λ a r g h. search rules)) in
    place_found c.args.new.now c.args.entries.now c.binary_search_by.result c.requires c.binary_search_by.ensures.bound found
