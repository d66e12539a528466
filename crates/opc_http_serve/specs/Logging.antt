-- A service with a log of its exchanges.
use Rattle.std.specs.Prelude.{◌≡◌, ◌⊎◌, ⊤, ℕ, Bool, false, List, Option, Some, None, Result}
use Rattle.std.specs.Io.KnownBytes.{Appends}
use Rattle.opc_io.specs.Writes.{AppendsPrefix}
use Rattle.opc_state.specs.Meaning.{Meaning}
use Rattle.opc_http_requests.specs.declared.origins.Origins.{Origins}
use Rattle.opc_http_log.specs.LogLines.{IsLogLine}
use Rattle.opc_http_log.specs.declared.entry.LogEntry.{LogEntry}
use Rattle.opc_http.specs.Told.{IsEntry}
use Rattle.opc_http.specs.Trails.{IsTrailed}
use Rattle.opc_http.specs.declared.exchanging.LinkFault.{LinkFault}
use Rattle.opc_http.specs.declared.exchanging.Served.{Served}
use Rattle.opc_http_serve.specs.Handled.{IsExchange}
use Rattle.opc_http_serve.specs.Policies.{IsPolicyKept}
use Rattle.opc_http_serve.specs.declared.service.Service.{Service}
use Rattle.opc_http_serve.specs.declared.service.ServiceTrail.{ServiceTrail}

module _ {K : Type 0} (held : K → Option (List ℕ)) (has_failed : K → Bool) where
  module _ (is_line : List ℕ → Type 0) where
    -- Such a line was written to a log, whole unless a write failed; or its allocation failed.
    pub record IsLine (before after : K) : Type 0 where
      pub line : List ℕ
      pub is : is_line line
      pub part : AppendsPrefix (held before) (held after) line
      pub whole : has_failed after ≡ false → Appends (held before) (held after) line

    abbrev pub IsLineWritten : (before after : K) → Type 0
    IsLineWritten before after = (after ≡ before) ⊎ IsLine before after

    -- Without a log there is none afterwards. With one such a line was written.
    abbrev pub IsLineLogged : (before after : Option K) → Type 0
    IsLineLogged None None = ⊤
    IsLineLogged None (Some log) = ⊥
    IsLineLogged (Some log) None = ⊥
    IsLineLogged (Some before) (Some after) = IsLineWritten before after

  module _ (entry_of : LogEntry → Type 0) where
    -- The same for the line of an exchange.
    abbrev pub IsLogged : (before after : Option K) → Type 0
    IsLogged None None = ⊤
    IsLogged None (Some log) = ⊥
    IsLogged (Some log) None = ⊥
    IsLogged (Some before) (Some after) =
        (entry : LogEntry) × entry_of entry × IsLineWritten (IsLogLine entry) before after

-- One exchange of a service, over its tables; what followed it; and its line.
module _ {K N A : Type 0} (held : K → Option (List ℕ)) (has_failed : K → Bool)
    (holds : N → (folder text : List ℕ) → Bool → Type 0) (writes : N → (folder text : List ℕ) → A → Type 0)
    (publishes : N → (folder name : List ℕ) → A → Type 0) (origins : Origins) {T : Type 0} (m : Meaning T)
  where
    -- The policy was brought into the folder, if there is one, before the response was written.
    abbrev pub IsServiceTrailed : (left : Option (List ℕ)) → (old new : T) → ℕ → (before after : Option (List ℕ))
        → Result Served LinkFault → Option LogEntry → (met gone : ServiceTrail K N) → Type 0
    IsServiceTrailed left old new moment before after ended entry met gone =
        IsTrailed (λ (was : ServiceTrail K N) s at request answer seen kept (is : ServiceTrail K N).
        IsPolicyKept holds writes publishes s at request answer kept was.folder is.folder)
        (λ (was is : ServiceTrail K N). is.log ≡ was.log) origins m left old new moment before after ended entry met gone

    pub record IsServiceExchange (old : Service T K N) (left : Option (List ℕ)) (moment : ℕ)
        (before after : Option (List ℕ)) (ended : Result Served LinkFault) (new : Service T K N) : Type 0 where
      pub entry : Option LogEntry
      pub followed : ServiceTrail K N
      pub exchanged : IsExchange origins m old.gate left moment before after ended new.gate
      pub trailed : IsServiceTrailed left old.gate new.gate moment before after ended entry old.trail followed
      -- then its line was written, and nothing more was done
      pub folder : new.trail.folder ≡ followed.folder
      pub logged : IsLogged held has_failed (λ told. (entry ≡ Some told)
          × IsEntry origins m left old.gate new.gate moment before after ended told) old.trail.log new.trail.log
