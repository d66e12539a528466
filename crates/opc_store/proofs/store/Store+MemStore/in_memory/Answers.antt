use Rattle.sqlite.proofs.Callers.{memory_is_clean}
use Rattle.opc_store.proofs.store.Store+MemStore.in_memory.Goals as goal

pub returns-in-Ok : goal.returns-in-Ok
returns-in-Ok c = c.in-Ok.ensures.made (memory_is_clean c.make_tables.new.conn) c.in_ok-conn.ensures.empty.2
