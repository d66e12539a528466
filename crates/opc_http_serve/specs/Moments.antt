-- Timestamps, by the clock.
use Rattle.std.specs.Prelude.{ℕ, ◌/◌, min, Bool, true, false, Result, Ok, Err, if◌then◌else◌}
use Rattle.std.specs.Duration.{as_nanos}
use Rattle.std.specs.IoError.{error_kind}
use Rattle.std.specs.declared.io.Error.{Error}
use Rattle.std.specs.declared.io.ErrorKind.{ErrorKind}
use Rattle.std.specs.declared.io.ErrorKind.TheVariants.{InvalidData}
use Rattle.std.specs.declared.time.Duration.{Duration}
use Rattle.opc_http_serve.specs.declared.clock.TheConstants.{LAST_MOMENT}

-- what the clock shows for a time before 1970
abbrev pub is_before_1970 : ErrorKind → Bool
is_before_1970 InvalidData = true
is_before_1970 kind = false

-- the whole seconds, and at most the last timestamp
abbrev pub moment_at : Duration → ℕ
moment_at since = min (as_nanos since / 1_000_000_000) LAST_MOMENT

-- the timestamp by a reading of the clock: 0 before 1970
abbrev pub moment_of : Result Duration Error → Result ℕ Error
moment_of (Ok since) = Ok (moment_at since)
moment_of (Err error) = if is_before_1970 (error_kind error) then Ok 0 else Err error
