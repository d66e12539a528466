use Rattle.std.proofs.Common.{◌<◌, length, map, ap, ◌∙◌}
use Rattle.opc_names.specs.Names.{qualifiers}
use Rattle.opc_names.specs.Patterns.{tokens, covers}
use Rattle.opc_names.proofs.Computed.{text_computes}
use Rattle.opc_names.proofs.CoveredSuffixes.{nothing_prepended, first_covers}
use Rattle.opc_names.proofs.cover.covers.Goals as goal

pub cover_suffixes-requires-clause-nothing : goal.cover_suffixes-requires-clause-nothing
cover_suffixes-requires-clause-nothing c =
    let few : length (qualifiers c.as_bytes-name.result.now) < 21 = rw c.as_bytes-name.ensures.value c.requires.few in
    rw c.count_qualifiers-count.ensures (nothing_prepended 21 (qualifiers c.as_bytes-name.result.now) few)

pub returns-clause-computes : goal.returns-clause-computes
returns-clause-computes c =
    first_covers (map tokens (qualifiers c.as_bytes.result.now)) (qualifiers c.as_bytes-name.result.now) c.cover_suffixes.new.covered _ c.cover_suffixes.ensures
    ∙ ap (λ p. covers (map tokens (qualifiers p)) (qualifiers c.as_bytes-name.result.now)) c.as_bytes.ensures.value
    ∙ ap (λ r. covers (map tokens (qualifiers c.args.pattern.now)) (qualifiers r)) c.as_bytes-name.ensures.value

pub returns-clause-covers : goal.returns-clause-covers
returns-clause-covers c =
    text_computes _ c.args.pattern.now c.args.name.now (returns-clause-computes c)
