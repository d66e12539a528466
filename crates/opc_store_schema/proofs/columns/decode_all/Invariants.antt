use Rattle.std.proofs.Common.{◌≡◌, map, take, List}
use Rattle.opc_store_schema.proofs.columns.decode_all.Given as goal

abbrev pub invariant-loop-row : goal.invariant-loop-row
invariant-loop-row g l = (xs : List g.row.M.Denot) → l.rows ≡ map g.T.TableRow.row_of xs → l.members ≡ take l.row-index xs
