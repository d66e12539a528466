use Rattle.std.proofs.Common.{◌≡◌, Bool, true, Ok, refl}
use Rattle.std.specs.Prelude.{Result}
use Rattle.csv.specs.Reading.{has_failed}
use Rattle.opc_import.proofs.RecordLemmas.{takes-plain}
use Rattle.opc_import.proofs.records.Records.take_into.Goals as goal

ok-inj : {E : Type 0} (r : Result Bool E) (a b : Bool) → r ≡ Ok a → r ≡ Ok b → a ≡ b
ok-inj r a b e f = cc

pub returns : goal.returns
returns c =
    let failed_none = λ (failed : has_failed c.self.inside.reader ≡ true). ok-inj _ c.in-Ok.found _ refl (c.in-Ok.ensures.failed failed) in
    rw (← c.self.view_is) (takes-plain c.self.inside.reader c.read_record.new.self c.in-Ok.found _ c.self.invariant failed_none c.in-Ok.ensures.reads)
