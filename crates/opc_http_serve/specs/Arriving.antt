-- How a client comes: it is accepted, its exchange gets a deadline, and the clock is read then.
use Rattle.std.specs.Prelude.{◌≡◌, ◌⊎◌, true, false, Option, Some, None, Result, Ok, Err, IsSomeAnd}
use Rattle.std.specs.declared.io.Error.{Error}
use Rattle.std.specs.declared.time.Duration.{Duration}
use Rattle.opc_http_connections.specs.Timed.{IsDue}
use Rattle.opc_http_serve.specs.declared.arrival.Arrival.{Arrival}
use Rattle.opc_http_serve.specs.declared.arrival.ServeFault.{ServeFault}
use Rattle.opc_http_serve.specs.declared.arrival.ServeFault.TheVariants as fault
use Rattle.opc_http_serve.specs.Moments.{moment_of}
use Rattle.opc_http_serve.specs.Passing.{is_passing}

module _ {D C : Type 0} (accepts : D → Result (Option (C × C)) Error → D → Type 0) where
  -- An accept failed: the connection has no second handle, or the fault is transient.
  abbrev pub IsLost : (before after : D) → Type 0
  IsLost before after =
      accepts before (Ok None) after ⊎ ((error : Error) × accepts before (Err error) after × (is_passing error ≡ true))

  -- The handles of a connection came, or the accept failed; or the fault is not transient.
  abbrev pub Accepts : D → Result (Option (C × C)) ServeFault → D → Type 0
  Accepts before (Ok (Some handles)) after = accepts before (Ok (Some handles)) after
  Accepts before (Ok None) after = IsLost before after
  Accepts before (Err (fault.Accept error)) after = accepts before (Err error) after × (is_passing error ≡ false)
  Accepts before (Err (fault.Clock error)) after = ⊥

  module _ (clock_says : D → Result Duration Error → D → Type 0) where
    -- A client was accepted, by a handle to read and one to write, and then the clock was read.
    pub record IsClientDated (before : D) (reader writer : C) (reading : Result Duration Error) (after : D) : Type 0
      where
        pub mid : D
        pub accepted : accepts before (Ok (Some (reader, writer))) mid
        pub said : clock_says mid reading after

    -- A client was accepted, and the clock failed.
    pub record IsUndated (before : D) (error : Error) (after : D) : Type 0 where
      pub reader : C
      pub writer : C
      pub reading : Result Duration Error
      pub dated : IsClientDated before reader writer reading after
      pub failed : moment_of reading ≡ Err error

    module _ {K : Type 0} (shows : K → Result Duration Error → Type 0) (timer : K) (timeout : Option Duration) where
      -- The client that was accepted, at the time that the clock showed then, with the deadline of its exchange. No
      -- call by either of its handles has failed.
      pub record IsArrival (before : D) (came : Arrival C K) (after : D) : Type 0 where
        pub reading : Result Duration Error
        pub dated : IsClientDated before came.reader.handle came.writer.handle reading after
        pub moment : moment_of reading ≡ Ok came.moment
        pub due : IsDue shows timer timeout came.reader.deadline
        pub both : came.writer.deadline ≡ came.reader.deadline
        pub read_by : came.reader.timer.now ≡ timer
        pub written_by : came.writer.timer.now ≡ timer
        pub reader_fine : came.reader.failed ≡ false
        pub writer_fine : came.writer.failed ≡ false

      -- A client was accepted, and the end of its exchange could not be determined.
      pub record IsUnlimited (before : D) (error : Error) (after : D) : Type 0 where
        pub reader : C
        pub writer : C
        pub accepted : accepts before (Ok (Some (reader, writer))) after
        pub failed : IsSomeAnd timeout (λ _. shows timer (Err error))

      -- A client came, or the accept failed, or the fault is that of the call that failed.
      abbrev pub Arrives : D → Result (Option (Arrival C K)) ServeFault → D → Type 0
      Arrives before (Ok (Some came)) after = IsArrival before came after
      Arrives before (Ok None) after = IsLost before after
      Arrives before (Err (fault.Accept error)) after = Accepts before (Err (fault.Accept error)) after
      Arrives before (Err (fault.Clock error)) after = IsUnlimited before error after ⊎ IsUndated before error after
