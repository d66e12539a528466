use Rattle.std.proofs.Common.{◌∙◌, ◌==◌, ap, length, not}
use Rattle.opc_store_schema.proofs.there.is_there_on.Goals as goal

pub returns-clause-found : goal.returns-clause-found
returns-clause-found g c clean there returned =
    ap not (c.is_empty.ensures ∙ ap (λ l. length l == 0) c.as_slice.ensures.value) ∙ returned _ (c.in_ok-rows.ensures.shown clean)
