use Rattle.std.proofs.Common.{rules}
use Rattle.std.proofs.lemmas.Fn.{always_returns_same}
use Rattle.std.specs.Option.{option_copied}
use Rattle.opc_policy_members.specs.declared.entry.Entry.{Entry}
use Rattle.opc_policy_sources.proofs.Searched.{ended, key_cmp, key_of}
use Rattle.opc_policy_sources.proofs.entries.place_of.Goals as goal

pub returns : goal.returns
returns c =
    let found = c.binary_search_by.ensures.position
    (λ (e : Entry). key_cmp (key_of e) (c.args.id.now, option_copied c.args.when))
    (always_returns_same _ _ _ (λ a r g h. search rules)) in
    ended (option_copied c.args.when) c.args.id.now c.args.entries.now c.requires
    c.binary_search_by.result c.binary_search_by.ensures.bound found
