use Rattle.opc_store_schema.proofs.Decoded.{one_state}
use Rattle.opc_store_schema.proofs.Opened.{alone_from}
use Rattle.opc_store_schema.proofs.laws.tables_determine_the_state.Goals as goal

pub returns : goal.returns
returns c = record {
  found = one_state;
  seen = λ db a b here there. one_state db.trees a b (alone_from db a here) (alone_from db b there);
}
