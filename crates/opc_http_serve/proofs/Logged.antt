-- What a log has of an exchange.
use Rattle.std.proofs.Common.{◌≡◌, ℕ, Bool, List, Option, Some, None, ap, inl, inr, refl, subst}
use Rattle.std.specs.Prelude.{IfSome, Result}
use Rattle.opc_state.specs.Meaning.{Meaning}
use Rattle.opc_http_requests.specs.declared.origins.Origins.{Origins}
use Rattle.opc_http_log.specs.declared.entry.LogEntry.{LogEntry}
use Rattle.opc_http.specs.declared.exchanging.LinkFault.{LinkFault}
use Rattle.opc_http.specs.declared.exchanging.Served.{Served}
use Rattle.opc_http_serve.specs.Logging.{IsLogged, IsServiceTrailed}
use Rattle.opc_http_serve.specs.declared.service.ServiceTrail.{ServiceTrail}

-- What an entry has, if there is one, the entry has that is logged.
logged_as : {K : Type 0} (held : K → Option (List ℕ)) (has_failed : K → Bool) (has : LogEntry → Type 0)
    (entry : Option LogEntry) (before after : Option K) → IfSome entry has
    → IsLogged held has_failed (λ told. entry ≡ Some told) before after
    → IsLogged held has_failed (λ told. (entry ≡ Some told) × has told) before after
logged_as held has_failed has entry None None is logged = tt
logged_as held has_failed has entry None (Some after) is logged = logged
logged_as held has_failed has entry (Some before) None is logged = logged
logged_as held has_failed has entry (Some before) (Some after) is (told, same, line) =
    (told, (same, subst (λ (e : Option LogEntry). IfSome e has) same is), line)

-- And the log is that of before the exchange, if what was done meanwhile left it.
pub logged_has : {K : Type 0} (held : K → Option (List ℕ)) (has_failed : K → Bool) (has : LogEntry → Type 0)
    (entry : Option LogEntry) (old before after : Option K) → before ≡ old → IfSome entry has
    → IsLogged held has_failed (λ told. entry ≡ Some told) before after
    → IsLogged held has_failed (λ told. (entry ≡ Some told) × has told) old after
logged_has held has_failed has entry old before after left is logged =
    subst (λ log. IsLogged held has_failed (λ told. (entry ≡ Some told) × has told) log after) left
    (logged_as held has_failed has entry before after is logged)

module _ {K N A T : Type 0} (held : K → Option (List ℕ)) (has_failed : K → Bool)
    (holds : N → (folder text : List ℕ) → Bool → Type 0) (writes : N → (folder text : List ℕ) → A → Type 0)
    (publishes : N → (folder name : List ℕ) → A → Type 0) (origins : Origins) (m : Meaning T) where
  -- What follows an exchange leaves the log.
  pub log_left : (left : Option (List ℕ)) (old new : T) (moment : ℕ) (before after : Option (List ℕ))
      (ended : Result Served LinkFault) (entry : Option LogEntry) (met gone : ServiceTrail K N)
      → IsServiceTrailed held has_failed holds writes publishes origins m left old new moment before after ended entry met gone
      → gone.log ≡ met.log
  log_left left old new moment before after ended entry met gone (inl un) = ap (λ (t : ServiceTrail K N). t.log) un.unmoved
  log_left left old new moment before after ended entry met gone (inr is) = is.stayed
