-- What a handle owns says the same to every thread, so it may be passed to another.
use Rattle.std.proofs.Common.{ℕ, List}
use mir.Raw.{raw}
use base.Fraction.{full_share}
use base.Shift.{Keyless}
use denote.Memory.{lone}
use denote.RawPtr.{Ptr, block_ptr, null_ptr}
use denote.Param.Send.{IsSend, part_keyless}
use Rattle.std.specs.Prelude.{Option, None, Some}
use Rattle.std.specs.declared.alloc.Global.{Global}
use Rattle.std.proofs.alloc.Global.TheSendSync as heap
use Rattle.std.proofs.Crossing.{frees}
use Rattle.opc_embedded.specs.contracts.kept.KeptPolicyText as kept
use Rattle.opc_embedded.proofs.kept.KeptPolicyText.TheSendSync as kept_send
use Rattle.opc_kept.specs.Keeping.{keeps}
use Rattle.opc_kept.specs.contracts.PolicyHandle.{the_row}

keeps_keyless : (a : Global) (p : Ptr) (k : Option (List ℕ)) → Keyless (keeps a p k)
keeps_keyless a p None = (λ _. tt)
keeps_keyless a null_ptr (Some x) = (tt, frees.frees a (raw (lone kept.the_row.mir)) null_ptr)
keeps_keyless a (block_ptr b o) (Some x) =
    (part_keyless kept.the_row kept_send.the_send full_share x b o, frees.frees a (raw (lone kept.the_row.mir)) (block_ptr b o))

pub send : IsSend the_row
send = record {
  owned = λ d vs. ((λ vss. (tt, (tt, (heap.the_field_send.owned _ vss.1.0, tt)))), keeps_keyless d.alloc d.at d.text);
  leaving = λ k x vs. tt;
}
