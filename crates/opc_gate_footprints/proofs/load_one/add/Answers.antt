use Rattle.opc_gate_footprints.proofs.Joining.{tested}
use Rattle.opc_gate_footprints.proofs.load_one.add.Goals as goal

pub find-requires : goal.find-requires
find-requires g c = tested g.R.Key.Ord.cmp g.met.R.Key.Ord.total g.R.Keyed.key_of c.args.rows.now
    c.is_ascending-ascends.result c.is_ascending-ascends.ensures (cc)

pub insert-requires : goal.insert-requires
insert-requires g c = tested g.R.Key.Ord.cmp g.met.R.Key.Ord.total g.R.Keyed.key_of c.args.rows.now
    c.is_ascending-ascends.result c.is_ascending-ascends.ensures (cc)
