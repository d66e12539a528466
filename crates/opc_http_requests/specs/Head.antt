-- What the head of some bytes is.
use Rattle.std.specs.Prelude.{◌≤◌, ◌+◌, ℕ, List, length, take, ⊤}
use Rattle.httparse.specs.Grammar.{HasNoRequest, MayBecomeRequest, ReadsRequest, RequestHead}
use Rattle.httparse.specs.Spans.{IsRequestAt, IsRequestOf, IsRequestWithin, RequestOverflows}
use Rattle.httparse.specs.declared.spans.HeaderSpan.{HeaderSpan}
use Rattle.httparse.specs.declared.spans.RequestSpans.{RequestSpans}
use Rattle.opc_http_requests.specs.declared.head.Start.{Start}
use Rattle.opc_http_requests.specs.declared.head.Start.TheVariants as start

-- some prefix of the first 8,192 bytes is this head, of at most 32 fields
pub record HasHead (all : List ℕ) (head : RequestHead) : Type 0 where
  pub rest : List ℕ
  pub reads : ReadsRequest (take 8192 all) head rest
  pub few : length head.fields ≤ 32

-- no prefix is
abbrev pub NoHead : List ℕ → Type 0
NoHead all = (head : RequestHead) → ¬ (HasHead all head)

-- the bytes have a head, whose parts the spans give in the bytes that were read
pub record FoundHead (all buf : List ℕ) (headers : List HeaderSpan) (spans : RequestSpans) : Type 0 where
  pub head : RequestHead
  pub has : HasHead all head
  pub parts : IsRequestAt buf headers spans head

-- they are no whole head, and more bytes may make them one, or they end in its target, whose text is tested at its end
pub record IsUnfinished (buf : List ℕ) : Type 0 where
  pub no_head : HasNoRequest buf
  pub may_become : MayBecomeRequest buf

-- A read that looks for the head may be made after bytes that are unfinished. It gives at most 1,024 bytes, of the
-- first 8,192.
pub record MayLook (before : List ℕ) (count : ℕ) : Type 0 where
  pub unfinished : IsUnfinished before
  pub block : count ≤ 1024
  pub within : length before + count ≤ 8192

-- what the start of some bytes is: a head, no head yet, or none of at most 32 fields whatever follows
abbrev pub Starts : List ℕ → List HeaderSpan → Start → Type 0
Starts buf headers (start.Whole spans) = IsRequestOf buf headers spans
Starts buf headers start.Part = IsUnfinished buf
Starts buf headers start.Never = RequestOverflows 32 buf

-- the spans of a head lie in the bytes
abbrev pub StartsWithin : List ℕ → List HeaderSpan → Start → Type 0
StartsWithin buf headers (start.Whole spans) = IsRequestWithin buf headers spans
StartsWithin buf headers start.Part = ⊤
StartsWithin buf headers start.Never = ⊤
