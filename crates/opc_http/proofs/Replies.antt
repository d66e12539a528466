-- What is reported of the reply to a request.
use Rattle.std.proofs.Common.{◌≡◌, ℕ, true, false, List, Option, Result, Ok, Err, IfErr, IfOk, ap, refl, rules, ◌∙◌}
use Rattle.std.specs.Bool.{then_some}
use Rattle.std.specs.Prelude.{Bool, IfSome, if◌then◌else◌, is_some}
use Rattle.opc_machine.specs.declared.request.Request.{Request}
use Rattle.opc_http_requests.specs.declared.origins.Origins.{Origins}
use Rattle.opc_http_requests.specs.declared.refusal.HttpRefusal.{HttpRefusal}
use Rattle.opc_http_requests.specs.Faults as faults
use Rattle.opc_http_requests.specs.declared.fault.ReadingFault.{ReadingFault}
use Rattle.opc_http_requests.specs.declared.fault.ReadingFault.TheVariants as reading
use Rattle.opc_state.specs.Meaning.{Meaning}
use Rattle.opc_http.specs.Exchange.{IsCutOff, IsFaulty, IsReplyWritten, IsServed, Replies, Reply, is_read}
use Rattle.opc_http.specs.Told.{IsWritten}
use Rattle.opc_http.specs.declared.exchanging.LinkFault.{LinkFault}
use Rattle.opc_http.specs.declared.exchanging.LinkFault.TheVariants as fault
use Rattle.opc_http.specs.declared.exchanging.Served.{Served}

module _ (origins : Origins) {T K : Type 0} (m : Meaning T) (held : K → Option (List ℕ))
    (left : Option (List ℕ)) (before after : K) (old new : T) (moment : ℕ) where
  -- a reply that is reported is served
  pub served : (reply : Reply) → Replies origins m left old new moment reply
      → (res : Result Served LinkFault) → IfOk res (IsReplyWritten held reply before after)
      → IfOk res (IsServed origins m held left before after old new moment)
  served reply replies (Ok done) reported = record { reply = reply; replies = replies; reported = reported }
  served reply replies (Err why) reported = tt

  -- one that is cut off leaves what its fault leaves
  pub cut_off : (reply : Reply) → Replies origins m left old new moment reply
      → (why : LinkFault) → IsCutOff held reply before after why
      → IsFaulty origins m held left before after old new moment why
  cut_off reply replies fault.Read cut = absurd cut
  cut_off reply replies (fault.Write handled) cut = record { reply = reply; replies = replies; cut_off = cut }
  cut_off reply replies (fault.NoMemory true) cut = record { reply = reply; replies = replies; cut_off = cut }
  cut_off (Ok answer) replies (fault.NoMemory false) cut = absurd (search (rules, cut.1))
  cut_off (Err refusal) replies (fault.NoMemory false) cut = (cut.0, replies.1)

  pub faulty : (reply : Reply) → Replies origins m left old new moment reply
      → (res : Result Served LinkFault) → IfErr res (IsCutOff held reply before after)
      → IfErr res (IsFaulty origins m held left before after old new moment)
  faulty reply replies (Ok done) cut = tt
  faulty reply replies (Err why) cut = cut_off reply replies why cut

-- a reply that is cut off is not reported as a failed read
pub not_read : {K : Type 0} (held : K → Option (List ℕ)) (reply : Reply) (before after : K)
    (res : Result Served LinkFault) → IfErr res (IsCutOff held reply before after) → is_read res ≡ false
not_read held reply before after (Ok done) cut = refl
not_read held reply before after (Err fault.Read) cut = absurd cut
not_read held reply before after (Err (fault.Write handled)) cut = refl
not_read held reply before after (Err (fault.NoMemory handled)) cut = refl

-- no read failed if what was read is refused
pub refused_read : (fault : ReadingFault) (why : HttpRefusal) → fault ≡ reading.Refused why → (old new : Bool)
    → new ≡ (if faults.is_read {A = Request} (Err fault) then true else old) → new ≡ old
refused_read fault why is old new h = rw is at h

-- if no call of a reader or a writer had failed before, the failed one is what is reported
pub only_failed : (reported old new : Bool) → old ≡ false → new ≡ (if reported then true else old) → new ≡ reported
only_failed true old new fine is = is
only_failed false old new fine is = is ∙ fine

-- what holds of all that is logged holds of what is logged, and if nothing is, there is nothing to show
pub entry_told : {A : Type 0} (has : A → Type 0) (is_told : Bool) (entry : A) → (is_told ≡ true → has entry)
    → IfSome (then_some is_told entry) has
entry_told has true entry is = is refl
entry_told has false entry is = tt

pub told_if : {A : Type 0} (is_told : Bool) (entry : A) → is_some (then_some is_told entry) ≡ is_told
told_if true entry = refl
told_if false entry = refl

-- A reply that is reported or cut off was written, by what its writer holds.
pub written : {K : Type 0} (held : K → Option (List ℕ)) (reply : Reply) (before after : K)
    (res : Result Served LinkFault) → IfOk res (IsReplyWritten held reply before after) → IfErr res (IsCutOff held reply before after)
    → IsWritten reply (held before) (held after) res
written held reply before after (Ok done) reported cut =
    record { written = reported.written; status = reported.status; handled = reported.handled }
written held reply before after (Err fault.Read) reported cut = cut
written held reply before after (Err (fault.Write handled)) reported cut = cut
written held reply before after (Err (fault.NoMemory handled)) reported cut = (ap held cut.0, cut.1)
