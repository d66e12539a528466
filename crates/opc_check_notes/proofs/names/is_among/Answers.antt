use Rattle.std.proofs.Common.{◌∙◌}
use Rattle.opc_check_notes.proofs.Listing.{searched_name}
use Rattle.opc_check_notes.proofs.names.is_among.Goals as goal

pub returns : goal.returns
returns c =
    c.is_ok.ensures.value
    ∙ searched_name c.args.names.now c.args.name.now c.binary_search.result c.requires.sorted c.binary_search.ensures.bound
    (rw c.copied.ensures at c.binary_search.ensures.position)
