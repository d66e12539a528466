use Rattle.std.proofs.lemmas.Str.{IsUtf8-from_ascii}
use Rattle.opc_names.proofs.Faults.{name_ascii}
use Rattle.opc_names.proofs.name.Name.text.Goals as goal

pub from_utf8_unchecked-requires : goal.from_utf8_unchecked-requires
from_utf8_unchecked-requires g c = rw c.as_slice.ensures.value (IsUtf8-from_ascii _ (name_ascii _ _ c.self.invariant))

pub returns-clause-ascii : goal.returns-clause-ascii
returns-clause-ascii g c = rw (← c.self.view_is) (name_ascii _ _ c.self.invariant)
