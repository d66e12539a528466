-- Clients that are served, seen by a part of what serves them.
use Rattle.std.proofs.Common.{inl, inr, ℕ, List, Option, Ok, Err, ap}
use Rattle.std.specs.Prelude.{Bool, Result, IfErr, OnOk, zero, suc}
use Rattle.std.specs.declared.io.Error.{Error}
use Rattle.std.specs.declared.time.Duration.{Duration}
use Rattle.opc_http_connections.specs.Links.{Link}
use Rattle.opc_http.specs.declared.exchanging.LinkFault.{LinkFault}
use Rattle.opc_http.specs.declared.exchanging.Served.{Served}
use Rattle.opc_http_serve.specs.Serving.{AreServed, Exchanged, IsCutShort, IsTurn, by_bytes}
use Rattle.opc_http_serve.specs.declared.arrival.ServeFault.{ServeFault}

module _ {C K G T D : Type 0} (link : Link C K) (shuts : C → Bool → Type 0) (may_read : List ℕ → ℕ → Type 0) (made : Exchanged G) (of_part : Exchanged T)
    (part : G → T)
    (parts : (old : G) (left : Option (List ℕ)) (moment : ℕ) (before after : Option (List ℕ)) (ended : Result Served LinkFault) (new : G)
    → made old left moment before after ended new → of_part (part old) left moment before after ended (part new))
    (accepts : D → Result (Option (C × C)) Error → D → Type 0) (clock_says : D → Result Duration Error → D → Type 0) (timer : K)
    (timeout : Option Duration) where
  turn : (met last : D) (was new : G) → IsTurn link shuts may_read (by_bytes made) accepts clock_says timer timeout met was last new
      → IsTurn link shuts may_read (by_bytes of_part) accepts clock_says timer timeout met (part was) last (part new)
  turn met last was new (inl client) = inl (record {
    came = client.came;
    gone = client.gone;
    arrival = client.arrival;
    served = record {
      ended = client.served.ended;
      made = parts _ _ _ _ _ _ _ client.served.made;
      last = client.served.last;
      read = client.served.read;
      few = client.served.few;
      drained = client.served.drained;
    };
  })
  turn met last was new (inr (lost, idle)) = inr (lost, ap part idle)

  module _ (first : D) (old : G) where
    served : (n : ℕ) (last : D) (new : G) → AreServed link shuts may_read (by_bytes made) accepts clock_says timer timeout first old n last new
        → AreServed link shuts may_read (by_bytes of_part) accepts clock_says timer timeout first (part old) n last (part new)
    served zero last new are = (are.0, ap part are.1)
    served (suc n) last new (met, was, are, one) = (met, part was, served n met was are, turn met last was new one)

    pub all_served : {A : Type 0} (count : ℕ) (last : D) (new : G) (end : Result A ServeFault)
        → OnOk end (AreServed link shuts may_read (by_bytes made) accepts clock_says timer timeout first old count last new)
        → OnOk end (AreServed link shuts may_read (by_bytes of_part) accepts clock_says timer timeout first (part old) count last (part new))
    all_served count last new (Ok a) are = served count last new are
    all_served count last new (Err f) are = tt

    pub cut_short : {A : Type 0} (count : ℕ) (last : D) (new : G) (end : Result A ServeFault)
        → IfErr end (λ f. IsCutShort link shuts may_read (by_bytes made) accepts clock_says timer timeout first old count f last new)
        → IfErr end (λ f. IsCutShort link shuts may_read (by_bytes of_part) accepts clock_says timer timeout first (part old) count f last (part new))
    cut_short count last new (Ok a) cut = tt
    cut_short count last new (Err f) cut = record {
      done = cut.done;
      fewer = cut.fewer;
      met = cut.met;
      served = served cut.done cut.met new cut.served;
      failed = cut.failed;
    }
