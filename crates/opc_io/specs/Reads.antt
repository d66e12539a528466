-- What one read does, and what several do.
use Rattle.std.specs.Prelude.{
  ◌≡◌,
  ◌≤◌,
  ◌<◌,
  ◌++◌,
  ℕ,
  zero,
  suc,
  Bool,
  true,
  false,
  List,
  [],
  length,
  take,
  OnOk,
  Option,
  Result,
  Ok,
  Err,
}
use Rattle.std.specs.Io.KnownBytes.{Consumes, IsAtEnd}
use Rattle.opc_io.specs.declared.source.SourceFault.{SourceFault}
use Rattle.opc_io.specs.declared.source.SourceFault.TheVariants as fault

-- the fault is that a read failed
abbrev pub is_read : {A : Type 0} → Result A SourceFault → Bool
is_read (Ok a) = false
is_read (Err fault.Read) = true
is_read (Err fault.NoMemory) = false

-- what a read gave, by its result and its buffer afterwards; none if it failed
abbrev pub given_by : {E : Type 0} → Result ℕ E → List ℕ → List ℕ
given_by (Ok n) buf = take n buf
given_by (Err e) buf = []

-- bytes moved from the source to the buffer, and none of them means the end or a full buffer
pub record ReadsMore (before after : Option (List ℕ)) (old new : List ℕ) (most n : ℕ) : Type 0 where
  pub moved : List ℕ
  pub consumes : Consumes before after moved
  pub buffer : new ≡ old ++ moved
  pub count : length moved ≡ n
  pub fits : length new ≤ most
  pub ends : n ≡ 0 → length old < most → IsAtEnd after

-- at most this many bytes are taken of what is left
pub record TakesAtMost (most : ℕ) (before after : Option (List ℕ)) : Type 0 where
  pub taken : List ℕ
  pub consumes : Consumes before after taken
  pub few : length taken ≤ most

module _ {S : Type 0} (left : S → Option (List ℕ)) (gives : S → List ℕ → S → Type 0) where
  -- one read gave these bytes, of those that were left
  pub record Gives (before : S) (given : List ℕ) (after : S) : Type 0 where
    pub read : gives before given after
    pub consumes : Consumes (left before) (left after) given

  -- one read, of at most this many bytes; they are in the buffer, unless their allocation failed
  pub record ReadsOnce (most : ℕ) (before after : S) (old new : List ℕ) (result : Result ℕ SourceFault) : Type 0 where
    pub given : List ℕ
    pub is : Gives before given after
    pub few : length given ≤ most
    pub buffer : OnOk result (new ≡ old ++ given)

  module _ (may : List ℕ → ℕ → Type 0) (first : S) (start : List ℕ) where
    -- This many reads, one after another and nothing else, after which these bytes are there. Each was made only if it
    -- was allowed, by the bytes that were there before it and by how many it gave.
    abbrev pub AreReads : ℕ → S → List ℕ → Type 0
    AreReads zero last bytes = (last ≡ first) × (bytes ≡ start)
    AreReads (suc n) last bytes =
        (mid : S) × (before : List ℕ) × (given : List ℕ)
        × AreReads n mid before × may before (length given) × Gives mid given last × (bytes ≡ before ++ given)

    -- however many
    pub record Reads (last : S) (bytes : List ℕ) : Type 0 where
      pub count : ℕ
      pub are : AreReads count last bytes

    -- Nothing was done to the source but such reads.
    pub record ReadsOnly (last : S) : Type 0 where
      pub bytes : List ℕ
      pub reads : Reads last bytes

    -- And their bytes are in the buffer, unless they end with a fault.
    pub record ReadsInto {A E : Type 0} (last : S) (buf : List ℕ) (result : Result A E) : Type 0 where
      pub bytes : List ℕ
      pub reads : Reads last bytes
      pub buffer : OnOk result (buf ≡ bytes)
