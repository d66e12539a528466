-- How a message is read: a head, and as much of what follows it as the head states.
use Rattle.std.specs.Prelude.{◌+◌, ◌⊎◌, ℕ, List, length, max, min, Option, Some}
use Rattle.httparse.specs.Grammar.{RequestHead, print_request}
use Rattle.opc_io.specs.Reads.{TakesAtMost}
use Rattle.opc_http_requests.specs.Bodies.{MayFill}
use Rattle.opc_http_requests.specs.Head.{HasHead, MayLook, NoHead}

-- how many bytes are read at most to find a head: the last read is made before its last byte is there, and gives at
-- most 1,024
abbrev pub looked_through : RequestHead → ℕ
looked_through head = min 8192 (length (print_request head) + 1023)

-- how many bytes of a body are read after a head
module _ (length_of : RequestHead → ℕ) where
  -- how many bytes head and body have
  abbrev pub message_length : RequestHead → ℕ
  message_length head = length (print_request head) + length_of head

  -- A read of the body may be made if its head is there and the body is not, and ends with the body.
  pub record MayReadBody (before : List ℕ) (count : ℕ) : Type 0 where
    pub head : RequestHead
    pub has : HasHead before head
    pub body : MayFill (message_length head) before count

  -- when a read may be made, by the bytes before it and how many it gives: to look for the head, or for the body
  abbrev pub MayReadMessage : List ℕ → ℕ → Type 0
  MayReadMessage before count = MayLook before count ⊎ MayReadBody before count

  -- No read goes past the end of the body, except the last one of those that look for the head.
  pub record StopsAtMessage (all : List ℕ) (after : Option (List ℕ)) : Type 0 where
    pub headless : NoHead all → TakesAtMost 8192 (Some all) after
    pub headed : (head : RequestHead) → HasHead all head
        → TakesAtMost (max (looked_through head) (message_length head)) (Some all) after
