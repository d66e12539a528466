-- An opening that the system refuses.
use Rattle.std.proofs.Common.{◌≡◌, Bool, inl, inr, None, refl}
use Rattle.sqlite_disk.specs.declared.Disk as disk
use Rattle.sqlite.specs.declared.error.Error.TheVariants.{SqliteFailure}
use Rattle.sqlite.specs.declared.error.ErrorCode.TheVariants.{CannotOpen, OutOfMemory}
use Rattle.opc_store.specs.declared.opening.OpenFault.{OpenFault}
use Rattle.opc_store.specs.Opening.{FailsToOpen, IsNoVersion}

-- it has one of the two causes of an opening that leaves nothing
pub refused_by_system : {D : Type 0} (g : disk.Ghosts D) (is_fresh : Bool → D → Type 0) (returned : OpenFault)
    → IsNoVersion returned → FailsToOpen g is_fresh returned
refused_by_system g is_fresh returned (inl memory) = (SqliteFailure OutOfMemory, None, memory, λ none. inr (inl refl), tt)
refused_by_system g is_fresh returned (inr store) = (SqliteFailure CannotOpen, None, store, λ none. inl refl, tt)
