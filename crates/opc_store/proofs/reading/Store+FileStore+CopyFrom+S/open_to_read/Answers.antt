use Rattle.std.proofs.Common.{inl}
use Rattle.opc_store_file.specs.Copies.{IsAsRead}
use Rattle.opc_store.proofs.Refusing.{refused_by_system}
use Rattle.opc_store.proofs.reading.Store+FileStore+CopyFrom+S.open_to_read.Goals as goal

pub returns-in-Err-clause-failed : goal.returns-in-Err-clause-failed
returns-in-Err-clause-failed g c = inl (refused_by_system _ IsAsRead _ c.by_copying.ensures)
