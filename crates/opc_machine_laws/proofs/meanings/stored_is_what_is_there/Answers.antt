use Rattle.opc_machine_laws.proofs.Stored.{connects_connect, masters, named_is, on_is, sessions, stored}
use Rattle.opc_machine_laws.proofs.meanings.stored_is_what_is_there.Goals as goal

pub returns : goal.returns
returns c = record {
  names = stored;
  connects = connects_connect;
  named = named_is;
  on = on_is;
  sessions = sessions;
  masters = masters;
}
