use Rattle.std.proofs.Common.{◌≢◌, ◌∙◌, [], Some, ap, refl}
use Rattle.std.proofs.lemmas.Option.{slice_get_read, slice_get_past}
use Rattle.sqlite.specs.Order.{Row, column}
use Rattle.opc_store_sql.proofs.Asked.{never_writes}
use Rattle.opc_store_sql.proofs.Decoded.{first_returned, none_returned}
use Rattle.opc_policy_members.specs.declared.entry.Entry.{Entry}
use Rattle.opc_policy_members.specs.Access.{is_for}
use Rattle.opc_state.specs.Loads.{access_list}
use Rattle.opc_store_schema.specs.Represented.{entry_row}
use Rattle.opc_store_profiles.proofs.EntryLoads.{entry_asked, entry_returned}
use Rattle.opc_store_profiles.proofs.entries.level_for_on.Goals as goal

pub read-requires-clause-quiet : goal.read-requires-clause-quiet
read-requires-clause-quiet g c = never_writes entry_asked

pub returns-in-Some-clause-found : goal.returns-in-Some-clause-found
returns-in-Some-clause-found g c clean s was =
    let class = c.args.class in
    let pattern = c.args.pattern.now in
    let id = c.args.id.now in
    let when = c.args.when in
    let named : when ≢ Some [] = rw c.as_ref-at.ensures.value at c.console_text.ensures.named in
    let shown = rw (
      c.params-to_sql.ensures,
      c.params-to_sql-2.ensures,
      c.params-to_sql-3.ensures,
      c.params-to_sql-4.ensures,
      c.text.ensures.text,
      c.text-2.ensures.text,
      c.text-3.ensures.text,
      c.console_text.ensures.text,
      c.as_ref-at.ensures.value,
    ) at (c.in_ok-rows.ensures.shown clean) in
    let are = entry_returned _ _ s was class pattern id when named _ shown in
    let h = c.in-Some.ensures.lookup in
    first_returned (entry_row class pattern) (is_for when id) (λ (e : Entry). e.level) (access_list s.policy class pattern)
    c.as_slice.result.now c.in-Some.row.now c.in_ok-level_in-in-Some.field-0 (c.as_slice.ensures.value ∙ are)
    (slice_get_read c.as_slice.result.now _ 0 c.in-Some.row.now refl h.3.0 h.1)
    (λ e is. c.in_ok-level_in-in-Some.ensures e.level (ap (λ (r : Row). column r 4) is))

pub returns-clause-found : goal.returns-clause-found
returns-clause-found g c clean s was =
    let class = c.args.class in
    let pattern = c.args.pattern.now in
    let id = c.args.id.now in
    let when = c.args.when in
    let named : when ≢ Some [] = rw c.as_ref-at.ensures.value at c.console_text.ensures.named in
    let shown = rw (
      c.params-to_sql.ensures,
      c.params-to_sql-2.ensures,
      c.params-to_sql-3.ensures,
      c.params-to_sql-4.ensures,
      c.text.ensures.text,
      c.text-2.ensures.text,
      c.text-3.ensures.text,
      c.console_text.ensures.text,
      c.as_ref-at.ensures.value,
    ) at (c.in_ok-rows.ensures.shown clean) in
    let are = entry_returned _ _ s was class pattern id when named _ shown in
    none_returned (entry_row class pattern) (is_for when id) (λ (e : Entry). e.level) (access_list s.policy class pattern)
    c.as_slice.result.now (c.as_slice.ensures.value ∙ are)
    (slice_get_past c.as_slice.result.now 0 c.in-None.ensures.lookup.3)
