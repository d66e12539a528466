use Rattle.std.proofs.Common.{◌∙◌, refl}
use Rattle.std.proofs.lemmas.Option.{slice_get_read, slice_get_past}
use Rattle.opc_store_sql.proofs.Decoded.{first_found, none_found}
use Rattle.opc_store_schema.proofs.queries.member_on.Goals as goal

pub returns-in-Some-clause-found : goal.returns-in-Some-clause-found
returns-in-Some-clause-found g c clean picks xs reports =
    let are = c.as_slice.ensures.value ∙ reports _ (c.in_ok-rows.ensures.shown clean) in
    let h = c.in-Some.ensures.lookup in
    first_found g.T.TableRow.row_of (λ x. x) picks xs c.as_slice.result.now c.in-Some.row.now
    c.in_ok-decode-in-Some.field-0 are (slice_get_read c.as_slice.result.now _ 0 c.in-Some.row.now refl h.3.0 h.1)
    c.in_ok-decode-in-Some.ensures

pub returns-clause-found : goal.returns-clause-found
returns-clause-found g c clean picks xs reports =
    none_found g.T.TableRow.row_of (λ x. x) picks xs c.as_slice.result.now
    (c.as_slice.ensures.value ∙ reports _ (c.in_ok-rows.ensures.shown clean))
    (slice_get_past c.as_slice.result.now 0 c.in-None.ensures.lookup.3)
