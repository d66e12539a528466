use Rattle.std.proofs.Common.{rules, sym, ap, ◌∙◌, Some}
use Rattle.std.proofs.lemmas.Fn.{always_returns_same}
use Rattle.std.specs.Option.{option_copied}
use Rattle.opc_names.specs.declared.level.Level.TheVariants.{Read}
use Rattle.opc_policy_members.specs.Access.{entry_cmp}
use Rattle.opc_policy_members.specs.declared.entry.Entry.{Entry}
use Rattle.opc_policy_members.proofs.Looked.{level_at, level_found}
use Rattle.opc_policy_members.proofs.entries.Entries.level_of.Goals as goal

-- (a key of whichever level, at which the order of places does not look)
pub returns-in-Ok : goal.returns-in-Ok
returns-in-Ok c =
    let key : Entry = record { id = c.args.id.now; when = option_copied c.args.when; level = Read } in
    let found = c.binary_search_by.ensures.position (λ (y : Entry). entry_cmp y key) (always_returns_same _ _ _ (λ a r g h. search rules)) in
    let level = level_found c.index.result.now key c.self.inside.list.items c.deref.result.now c.binary_search_by.result c.deref.ensures.value
    c.self.invariant c.binary_search_by.ensures.bound found in
    let there = ap (level_at c.index.result.now c.self.inside.list.items) c.in-Ok.is in
    rw (← c.self.view_is) (ap (λ (e : Entry). Some e.level) c.index.ensures ∙ sym there ∙ level)

pub returns-in-Err : goal.returns-in-Err
returns-in-Err c =
    let key : Entry = record { id = c.args.id.now; when = option_copied c.args.when; level = Read } in
    let found = c.binary_search_by.ensures.position (λ (y : Entry). entry_cmp y key) (always_returns_same _ _ _ (λ a r g h. search rules)) in
    let level = level_found key key c.self.inside.list.items c.deref.result.now c.binary_search_by.result c.deref.ensures.value
    c.self.invariant c.binary_search_by.ensures.bound found in
    let there = ap (level_at key c.self.inside.list.items) c.in-Err.is in
    rw (← c.self.view_is) (sym there ∙ level)
