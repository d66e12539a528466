-- What holds of a writer, stated of what it holds.
use Rattle.std.proofs.Common.{ℕ, List, Option, Result, Ok, Err, true, false, ap}
use Rattle.std.specs.Prelude.{IfErr, IfOk}
use Rattle.opc_state.specs.Meaning.{Meaning}
use Rattle.opc_http_requests.specs.declared.origins.Origins.{Origins}
use Rattle.opc_http.specs.Exchange.{IsFaulty, IsServed}
use Rattle.opc_http.specs.declared.exchanging.LinkFault.{LinkFault}
use Rattle.opc_http.specs.declared.exchanging.LinkFault.TheVariants as fault
use Rattle.opc_http.specs.declared.exchanging.Served.{Served}

module _ (origins : Origins) {T : Type 0} (m : Meaning T) {K : Type 0} (held : K → Option (List ℕ)) (left : Option (List ℕ)) (before after : K)
    (old new : T) (moment : ℕ) where
  pub served : (ended : Result Served LinkFault) → IfOk ended (IsServed origins m held left before after old new moment)
      → IfOk ended (IsServed origins m (λ h. h) left (held before) (held after) old new moment)
  served (Ok s) is = record {
    reply = is.reply;
    replies = is.replies;
    reported = record { written = is.reported.written; status = is.reported.status; handled = is.reported.handled };
  }
  served (Err f) is = tt

  pub faulty : (ended : Result Served LinkFault) → IfErr ended (IsFaulty origins m held left before after old new moment)
      → IfErr ended (IsFaulty origins m (λ h. h) left (held before) (held after) old new moment)
  faulty (Ok s) is = tt
  faulty (Err fault.Read) is = (ap held is.0, is.1)
  faulty (Err (fault.NoMemory false)) is = (ap held is.0, is.1)
  faulty (Err (fault.NoMemory true)) is = record {
    reply = is.reply;
    replies = is.replies;
    cut_off = (ap held is.cut_off.0, is.cut_off.1);
  }
  faulty (Err (fault.Write handled)) is = record { reply = is.reply; replies = is.replies; cut_off = is.cut_off }
