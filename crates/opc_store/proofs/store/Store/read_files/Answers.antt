use Rattle.std.proofs.Common.{◌∙◌, sym, ap, subst, rules}
use Rattle.sqlite.specs.Effect.{Database}
use Rattle.sqlite.specs.Held.{state}
use Rattle.opc_store_schema.specs.Represented.{Represents}
use Rattle.opc_store_schema.proofs.Opened.{found_again}
use Rattle.opc_store.proofs.store.Store.read_files.Goals as goal

pub returns-in-Ok-eq3-clause-found : goal.returns-in-Ok-eq3-clause-found
returns-in-Ok-eq3-clause-found g c clean is_open s alone =
    let again = found_again (state g.S.Store c.args.conn).now s (c.schema.ensures.live is_open).0 alone in
    let looks = c.in-Ok-eq3.ensures.looks in
    subst (λ (d : Database). Represents d s) (sym (looks.same clean (looks.opened clean))) again

pub returns-in-Ok-eq3-clause-settled : goal.returns-in-Ok-eq3-clause-settled
returns-in-Ok-eq3-clause-settled g c clean db leaves =
    let new = c.version_on.new.conn in
    let is_open = c.in-Ok-eq3.ensures.looks.opened clean in
    g.met.S.Store.settled new.store db is_open leaves
    ∙ sym (ap (λ (d : Database). d.trees)
    (c.is_autocommit-settled.ensures.settled (search rules) is_open))
