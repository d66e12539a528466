-- What is written into the rooms of a caller.
use Rattle.std.specs.Prelude.{◌≡◌, ◌⊎◌, ◌++◌, ℕ, List, Option, Some, None, drop, length, take}
use Rattle.opc_c.specs.declared.OpcmdsLengths.{OpcmdsLengths}
use Rattle.opc_cli_failures.specs.Statuses.{number_of}
use Rattle.opc_cli_failures.specs.declared.status.Status.TheVariants.{Done, Failed}
use Rattle.opc_embedded.specs.Replies.{IsAsked}
use Rattle.opc_embedded.specs.declared.reply.Reply.{Reply}

-- The bytes, as many as there is room for; the rest of the room is as it was.
abbrev pub IsPut : (bytes before after : List ℕ) → Type 0
IsPut bytes before after = after ≡ take (length before) bytes ++ drop (length bytes) before

-- A reply is put: each room has what it has room for, and the lengths are those of the whole.
pub record IsReplyPut (reply : Reply) (output output' errors errors' : List ℕ) (lengths : OpcmdsLengths) (status : ℕ)
    : Type 0 where
  pub status_is : status ≡ number_of reply.status
  pub output_put : IsPut reply.output.inner.items output output'
  pub errors_put : IsPut reply.errors.inner.items errors errors'
  pub output_length : lengths.output ≡ length reply.output.inner.items
  pub errors_length : lengths.errors ≡ length reply.errors.inner.items

-- That of a question is put.
abbrev pub IsReplied : (policy new question output output' errors errors' : List ℕ) → OpcmdsLengths → (status : ℕ)
    → Type 0
IsReplied policy new question output output' errors errors' lengths status =
    (reply : Reply) × IsAsked policy new question reply × IsReplyPut reply output output' errors errors' lengths status

-- The policy is kept; or there was no memory, and nothing is kept.
abbrev pub IsKept : (policy : List ℕ) → (kept : Option (List ℕ)) → (status : ℕ) → Type 0
IsKept policy kept status = ((status ≡ number_of Done) × (kept ≡ Some policy))
    ⊎ ((status ≡ number_of Failed) × (kept ≡ None))
