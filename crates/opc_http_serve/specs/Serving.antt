-- Clients, served one after another.
use Rattle.std.specs.Prelude.{◌≡◌, ◌<◌, ◌⊎◌, ◌*◌, ℕ, zero, suc, Bool, List, [], Option, Result, Ok, Err, ⊤}
use Rattle.std.specs.declared.io.Error.{Error}
use Rattle.std.specs.declared.time.Duration.{Duration}
use Rattle.opc_io.specs.Reads.{ReadsOnly, TakesAtMost}
use Rattle.opc_http_connections.specs.Draining.{IsDrained}
use Rattle.opc_http_connections.specs.Links.{Link}
use Rattle.opc_http_connections.specs.Timed.{IsReadInTime}
use Rattle.opc_http_connections.specs.declared.timed.Timed.{Timed}
use Rattle.opc_http_requests.specs.declared.origins.Origins.{Origins}
use Rattle.opc_http_requests.specs.Asked.{MayRead}
use Rattle.opc_http.specs.declared.exchanging.LinkFault.{LinkFault}
use Rattle.opc_http.specs.declared.exchanging.Served.{Served}
use Rattle.opc_http_serve.specs.declared.arrival.Arrival.{Arrival}
use Rattle.opc_http_serve.specs.declared.arrival.ServeFault.{ServeFault}
use Rattle.opc_http_serve.specs.Arriving.{Arrives, IsArrival, IsLost}

-- what is stated of an exchange that was made over a writer
abbrev pub ExchangedOver : Type 0 → Type 1
ExchangedOver G = G → Option (List ℕ) → ℕ → (W : Type 0) → (W → Option (List ℕ)) → (before after : W)
    → Result Served LinkFault → G → Type 0

-- what is stated of it by the bytes that the writer holds
abbrev pub Exchanged : Type 0 → Type 1
Exchanged G = G → Option (List ℕ) → ℕ → (before after : Option (List ℕ)) → Result Served LinkFault → G → Type 0

abbrev pub by_bytes : {G : Type 0} → Exchanged G → ExchangedOver G
by_bytes exchanged old left moment W held before after = exchanged old left moment (held before) (held after)

-- After an exchange the connection was drained; or the exchange failed, and nothing more was read.
abbrev pub IsEnded : {C K A : Type 0} → Link C K → (shuts : C → Bool → Type 0) → Result A LinkFault
    → (last gone : Timed C K) → Type 0
IsEnded link shuts (Ok served) last gone =
    IsDrained link.limits link.shows link.reads link.remaining shuts last gone
IsEnded link shuts (Err fault) last gone = gone ≡ last

module _ {C K G : Type 0} (link : Link C K) (shuts : C → Bool → Type 0) (may_read : List ℕ → ℕ → Type 0)
    (exchanged : ExchangedOver G)
  where
    -- One exchange was made over the client's connection, at its timestamp, by the writer with which it came, and
    -- nothing else was written to it. It read only within its deadline, and only what the request needed; then a little
    -- more was drained.
    pub record IsClientServed (came gone : Arrival C K) (old new : G) : Type 0 where
      pub ended : Result Served LinkFault
      pub made : exchanged old (link.remaining came.reader.handle) came.moment (Timed C K)
          (λ t. link.contents t.handle) came.writer gone.writer ended new
      pub last : Timed C K
      pub read : ReadsOnly (λ (t : Timed C K). link.remaining t.handle)
          (λ (t : Timed C K) given after. IsReadInTime link.limits link.shows link.reads link.remaining t given after)
          may_read came.reader [] last
      pub few : TakesAtMost (32 * 32_768) (link.remaining last.handle) (link.remaining gone.reader.handle)
      pub drained : IsEnded link shuts ended last gone.reader

    module _ {D : Type 0} (accepts : D → Result (Option (C × C)) Error → D → Type 0)
        (clock_says : D → Result Duration Error → D → Type 0) (timer : K) (timeout : Option Duration) where
      -- A client came, whose exchange has this much time, and was served.
      pub record IsClient (met : D) (was : G) (last : D) (new : G) : Type 0 where
        pub came : Arrival C K
        pub gone : Arrival C K
        pub arrival : IsArrival accepts clock_says link.shows timer timeout met came last
        pub served : IsClientServed came gone was new

      -- A client was served, or an accept failed, and nothing was done.
      abbrev pub IsTurn : (met : D) → (was : G) → (last : D) → (new : G) → Type 0
      IsTurn met was last new = IsClient met was last new ⊎ (IsLost accepts met last × (new ≡ was))

      module _ (first : D) (old : G) where
        -- This many connections came, and their clients were served in the order in which they came.
        abbrev pub AreServed : ℕ → D → G → Type 0
        AreServed zero last new = (last ≡ first) × (new ≡ old)
        AreServed (suc n) last new = (met : D) × (was : G) × AreServed n met was × IsTurn met was last new

        -- Some were, and then none could be accepted.
        pub record IsCutShort (count : ℕ) (fault : ServeFault) (last : D) (new : G) : Type 0 where
          pub done : ℕ
          pub fewer : done < count
          pub met : D
          pub served : AreServed done met new
          pub failed : Arrives accepts clock_says link.shows timer timeout met (Err fault) last

-- Connections came as stated here, wherever from.
module _ {C K G : Type 0} (link : Link C K) (may_read : List ℕ → ℕ → Type 0) (exchanged : Exchanged G)
    (comes : Result (Option (C × C)) Error → Type 0) (timer : K) (timeout : Option Duration)
  where
    -- This many clients were served.
    abbrev pub ServesAll : G → ℕ → G → Type 0
    ServesAll old count new = AreServed link (λ _ _. ⊤) may_read (by_bytes exchanged) {D = ⊤}
        (λ _ handles _. comes handles) (λ _ _ _. ⊤) timer timeout tt old count tt new

    -- Fewer were, and then none could be accepted.
    abbrev pub ServesFewer : G → ℕ → ServeFault → G → Type 0
    ServesFewer old count fault new = IsCutShort link (λ _ _. ⊤) may_read (by_bytes exchanged) {D = ⊤}
        (λ _ handles _. comes handles) (λ _ _ _. ⊤) timer timeout tt old count fault tt new

    -- The outcome of serving this many clients.
    abbrev pub AreClientsServed : {A : Type 0} → G → ℕ → Result A ServeFault → G → Type 0
    AreClientsServed old count (Ok all) new = ServesAll old count new
    AreClientsServed old count (Err fault) new = ServesFewer old count fault new

module _ {C K G : Type 0} (link : Link C K) (origins : Origins) (exchanged : Exchanged G)
    (comes : Result (Option (C × C)) Error → Type 0) (timer : K) (timeout : Option Duration)
  where
    -- The outcome of serving this many clients of a gate.
    abbrev pub ServesClients : {A : Type 0} → G → ℕ → Result A ServeFault → G → Type 0
    ServesClients old count end new =
        AreClientsServed link (MayRead origins) exchanged comes timer timeout old count end new
