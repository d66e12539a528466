use Rattle.std.proofs.Common.{◌≡◌, true}
use Rattle.std.proofs.lemmas.Bool.Decides.{Decides-eqb}
use Rattle.std.proofs.lemmas.Slice.Eq.{starts_is}
use Rattle.opc_names.specs.Patterns.{CoversText}
use Rattle.opc_names.proofs.FewParts.{resource_qualifiers}
use Rattle.opc_names.proofs.Faults.{pattern_qualifiers}
use Rattle.opc_names.proofs.Heads.{heads_are_prefixes}
use Rattle.opc_names.proofs.pattern.Pattern.covers.Goals as goal

pub covers-requires-clause-qualifiers : goal.covers-requires-clause-qualifiers
covers-requires-clause-qualifiers c = rw c.text-pattern.ensures.text (pattern_qualifiers _ c.text-pattern.ensures.reads_back)

pub covers-requires-clause-few : goal.covers-requires-clause-few
covers-requires-clause-few c = rw c.text-name.ensures.text (resource_qualifiers _ c.text-name.ensures.reads_back)

-- what is covered begins with the head
pub returns-else-starts_with : goal.returns-else-starts_with
returns-else-starts_with c =
    let reports = starts_is Decides-eqb c.as_bytes.result.now c.as_bytes-2.result.now c.starts_with.result c.starts_with.ensures.value in
    let is_prefix : CoversText c.args.self.now c.args.resource.now → c.starts_with.result ≡ true =
    λ covers. (let prefix = heads_are_prefixes c.args.self.now c.args.resource.now c.text-pattern.ensures.reads_back
    covers in reports.1 prefix.0 (let e = prefix.1 in cc)) in
    (λ t. (let f = c.if-starts_with.false in cc), is_prefix)
