-- The log of a service.
use Rattle.std.specs.Prelude.{◌≡◌, ⊤, ℕ, Bool, true, false, List, Option, Some, None, Result, Ok, Err}
use Rattle.opc_io.specs.declared.watched.Watched.{Watched}
use Rattle.opc_machine.specs.declared.request.Request.{Request}
use Rattle.opc_http_requests.specs.declared.origins.Origins.{Origins}
use Rattle.opc_http_log.specs.declared.entry.LogEntry.{LogEntry}
use Rattle.opc_http.specs.Exchange.{IsAsked, Reply}
use Rattle.opc_http.specs.Told.{IsUnread, IsWritten, status_in}
use Rattle.opc_http.specs.declared.exchanging.LinkFault.{LinkFault}
use Rattle.opc_http.specs.declared.exchanging.Served.{Served}
use Rattle.opc_http_serve.specs.Logging.{IsLogged}

-- If a log is requested, exchanges are logged to a stream for logs. Otherwise they are logged nowhere.
abbrev pub IsLogFor : {W : Type 0} → (is_for_logs : W → Type 0) → (is_asked : Bool) → Option (Watched W) → Type 0
IsLogFor is_for_logs false None = ⊤
IsLogFor is_for_logs false (Some log) = ⊥
IsLogFor is_for_logs true None = ⊥
IsLogFor is_for_logs true (Some log) = is_for_logs log.inner × (log.failed ≡ false)

module _ (origins : Origins) (left : Option (List ℕ)) (moment : ℕ) (before after : Option (List ℕ))
    (ended : Result Served LinkFault) where
  -- This was requested and this replied, or nothing was read.
  abbrev pub AreShown : Option Request → Option Reply → Type 0
  AreShown (Some request) (Some (Ok answer)) =
      IsAsked origins left (Ok request) × IsWritten (Ok answer) before after ended
  AreShown (Some request) (Some (Err refusal)) = ⊥
  AreShown (Some request) None = ⊥
  AreShown None (Some (Ok answer)) = ⊥
  AreShown None (Some (Err refusal)) = IsAsked origins left (Err refusal) × IsWritten (Err refusal) before after ended
  AreShown None None = IsUnread ended

  -- The entry is that of this exchange, as far as a client knows it.
  pub record IsExchangeEntry (entry : LogEntry) : Type 0 where
    pub at : entry.moment ≡ moment
    pub status : entry.status ≡ status_in ended
    pub shown : AreShown entry.request entry.reply

-- Without a log there is none afterwards. With one the line of this exchange was written.
abbrev pub IsLineAdded : {K : Type 0} → (held : K → Option (List ℕ)) → (has_failed : K → Bool) → Origins
    → (old : Option K) → Option (List ℕ) → ℕ → (before after : Option (List ℕ)) → Result Served LinkFault
    → (new : Option K) → Type 0
IsLineAdded held has_failed origins old left moment before after ended new =
    IsLogged held has_failed (IsExchangeEntry origins left moment before after ended) old new
