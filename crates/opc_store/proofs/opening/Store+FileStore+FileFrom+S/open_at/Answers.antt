use Rattle.std.proofs.Common.{inl}
use Rattle.sqlite_std_file.specs.File.{IsFresh}
use Rattle.opc_store.proofs.Refusing.{refused_by_system}
use Rattle.opc_store.proofs.opening.Store+FileStore+FileFrom+S.open_at.Goals as goal

pub returns-in-Err-clause-failed : goal.returns-in-Err-clause-failed
returns-in-Err-clause-failed g c = inl (refused_by_system _ IsFresh _ c.by_system.ensures)

pub tidy-requires : goal.tidy-requires
tidy-requires g c = rw c.in-Some.is at c.in-Ok.ensures.found
