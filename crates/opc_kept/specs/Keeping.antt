-- What the pointer that C holds owns.
use Rattle.std.specs.Prelude.{◌≡◌, ℕ, List, Option, None, Some}
use Rattle.std.specs.Box.Ownership.{box_owns}
use Rattle.std.specs.declared.alloc.Global.{Global}
use Rattle.std.specs.contracts.impls.GlobalAllocator.TheImpl.{ghosts}
use Rattle.opc_embedded.specs.contracts.kept.KeptPolicyText.{the_row}
use base.Fml.{Fml, ftrue, fex}
use denote.RawPtr.{Ptr, null_ptr}

-- nothing at null; else the policy that is kept, and the right to free its block
abbrev pub keeps : Global → Ptr → Option (List ℕ) → Fml
keeps alloc p None = fex (p ≡ null_ptr) (λ _. ftrue)
keeps alloc p (Some text) = box_owns (ghosts.dealloc_token alloc) the_row p text
