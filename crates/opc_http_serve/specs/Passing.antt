-- Transient faults of an accept, which are not those of the listener.
use Rattle.std.specs.Prelude.{ℤ, pos, Bool, false, List, [], ◌∷◌, Option, Some, None}
use Rattle.std.specs.IoError.{raw_os_error}
use Rattle.std.specs.List.{list_any}
use Rattle.std.specs.declared.io.Error.{Error}
use Rattle.std.specs.Ordering.{int_eq}

-- the numbers of ENOMEM, ENFILE, EMFILE, EPROTO, ENETDOWN, ECONNABORTED and ENOBUFS
abbrev pub passing : List ℤ
passing = pos 12 ∷ pos 23 ∷ pos 24 ∷ pos 71 ∷ pos 100 ∷ pos 103 ∷ pos 105 ∷ []

-- the system's number of an error, if it has one, is one of these
abbrev pub passes : Option ℤ → Bool
passes (Some number) = list_any (λ code. int_eq code number) passing
passes None = false

abbrev pub is_passing : Error → Bool
is_passing error = passes (raw_os_error error)
