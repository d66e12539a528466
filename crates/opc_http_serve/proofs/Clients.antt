-- Clients that are served, one more after some.
use Rattle.std.proofs.Common.{
  ◌≡◌,
  inl,
  inr,
  ℕ,
  ◌+◌,
  ◌<◌,
  ◌≤◌,
  List,
  [],
  ◌∷◌,
  ◌++◌,
  length,
  take,
  get_or,
  None,
  Ok,
  Err,
  true,
  false,
  refl,
  subst,
  sym,
  ap,
  arith,
  length-append,
}
use Rattle.std.specs.Prelude.{Option, Result, IfErr, IfOk, OnOk, Bool, if◌then◌else◌, zero, suc, ⊤}
use Rattle.std.specs.IoError.{error_kind}
use Rattle.std.specs.declared.io.Error.{Error}
use Rattle.std.specs.declared.time.Duration.{Duration}
use Rattle.std.proofs.lemmas.Result.{IfOk-at_ok}
use Rattle.std.proofs.Math.Seq.{get_or-append_seam, take-append_seam}
use Rattle.std.proofs.lemmas.List.{take_all}
use Rattle.std.proofs.lemmas.List.Elements.{All-nil, All-push}
use Rattle.opc_state.specs.Meaning.{Meaning}
use Rattle.opc_state.specs.State.{State}
use Rattle.opc_machine.specs.declared.request.Request.{Request}
use Rattle.opc_machine.specs.declared.request.Answer.{Answer}
use Rattle.opc_machine.specs.Inputs.{input_of}
use Rattle.opc_gate.specs.Handling.{IsHandled, IsRun}
use Rattle.opc_gate.proofs.Running.{run_more}
use Rattle.opc_http_connections.specs.Links.{Link}
use Rattle.opc_http_connections.specs.declared.timed.Timed.{Timed}
use Rattle.opc_http_requests.specs.declared.origins.Origins.{Origins}
use Rattle.opc_http_requests.specs.Asked.{MayRead}
use Rattle.opc_http.specs.Exchange.{IsFaulty, IsServed, IsUnserved, Replies, Reply}
use Rattle.opc_http.specs.declared.exchanging.LinkFault.{LinkFault}
use Rattle.opc_http.specs.declared.exchanging.LinkFault.TheVariants as fault
use Rattle.opc_http.specs.declared.exchanging.Served.{Served}
use Rattle.opc_http_serve.specs.declared.clock.TheConstants.{LAST_MOMENT}
use Rattle.opc_http_serve.specs.Handled.{AreHandled, Handled, IsConversation, IsExchange, IsReplied, IsRunOf, RepliesOnce, handled_with, none_handled}
use Rattle.opc_http_serve.specs.Arriving.{Arrives, IsLost}
use Rattle.opc_http_serve.specs.Moments.{is_before_1970, moment_of}
use Rattle.opc_http_serve.specs.Serving.{
  AreClientsServed,
  AreServed,
  Exchanged,
  ExchangedOver,
  IsClient,
  IsCutShort,
  IsEnded,
  IsTurn,
  ServesAll,
  by_bytes,
}
use Rattle.opc_http_serve.specs.declared.arrival.ServeFault.{ServeFault}
use Rattle.opc_http_serve.specs.declared.arrival.ServeFault.TheVariants as why

next : (n : ℕ) → n + 1 ≡ suc n
next n = omega arith

-- a list that ends with an element has one
some_one : (rs : List (ℕ × Request)) (r : ℕ × Request) → rs ++ r ∷ [] ≡ [] → ⊥
some_one rs r e = omega (arith, ap length e, length-append rs (r ∷ []))

-- a timestamp by the clock is valid
zero_or_error : (early : Bool) (error : Error) → IfOk (if early then Ok 0 else Err error) (λ moment. moment ≤ LAST_MOMENT)
zero_or_error true error = omega arith
zero_or_error false error = tt

pub low : (reading : Result Duration Error) → IfOk (moment_of reading) (λ moment. moment ≤ LAST_MOMENT)
low (Ok since) = grind arith
low (Err error) = zero_or_error (is_before_1970 (error_kind error)) error

within : (reading : Result Duration Error) (moment : ℕ) → moment_of reading ≡ Ok moment → moment ≤ LAST_MOMENT
within reading moment e = IfOk-at_ok (λ m. m ≤ LAST_MOMENT) e (low reading)

-- one more connection came
module _ {C K G D : Type 0} (link : Link C K) (shuts : C → Bool → Type 0) (may_read : List ℕ → ℕ → Type 0) (made : ExchangedOver G)
    (accepts : D → Result (Option (C × C)) Error → D → Type 0) (clock_says : D → Result Duration Error → D → Type 0) (timer : K)
    (timeout : Option Duration) (first : D) (old : G) where
  pub one_served : (n : ℕ) (met last : D) (was new : G)
      → AreServed link shuts may_read made accepts clock_says timer timeout first old n met was
      → IsTurn link shuts may_read made accepts clock_says timer timeout met was last new
      → AreServed link shuts may_read made accepts clock_says timer timeout first old (n + 1) last new
  one_served n met last was new are turn =
      subst (λ m. AreServed link shuts may_read made accepts clock_says timer timeout first old m last new) (sym (next n)) (met, was, are, turn)

-- A connection was drained, whatever is known of its end.
ended_anyhow : {C K A : Type 0} (link : Link C K) (shuts : C → Bool → Type 0) (ended : Result A LinkFault) (last gone : Timed C K)
    → IsEnded link shuts ended last gone → IsEnded link (λ _ _. ⊤) ended last gone
ended_anyhow link shuts (Ok served) last gone (inl (unable, same)) = inl (tt, same)
ended_anyhow link shuts (Ok served) last gone (inr (able, drained)) = inr (tt, drained)
ended_anyhow link shuts (Err f) last gone same = same

module _ {C K G D : Type 0} (link : Link C K) (shuts : C → Bool → Type 0) (may_read : List ℕ → ℕ → Type 0) (made : Exchanged G)
    (accepts : D → Result (Option (C × C)) Error → D → Type 0) (clock_says : D → Result Duration Error → D → Type 0) (timer : K)
    (timeout : Option Duration) (first : D) (old : G) where
  -- wherever they came from: `is` stays as they come
  module _ (comes : Result (Option (C × C)) Error → Type 0) (is : D → Type 0)
      (seen : (a : D) (handles : Result (Option (C × C)) Error) (b : D) → is a → accepts a handles b → comes handles × is b)
      (dated : (a : D) (reading : Result Duration Error) (b : D) → is a → clock_says a reading b → is b) where
    lost : (met last : D) → is met → IsLost accepts met last → IsLost {D = ⊤} (λ _ handles _. comes handles) tt tt × is last
    lost met last there (inl none) = let at = seen met (Ok None) last there none in (inl at.0, at.1)
    lost met last there (inr (error, failed, passes)) =
        let at = seen met (Err error) last there failed in
        (inr (error, at.0, passes), at.1)

    turn_anywhere : (met last : D) (was new : G) → is met
        → IsTurn link shuts may_read (by_bytes made) accepts clock_says timer timeout met was last new
        → IsTurn link (λ _ _. ⊤) may_read (by_bytes made) {D = ⊤} (λ _ handles _. comes handles) (λ _ _ _. ⊤) timer timeout tt was tt new × is last
    turn_anywhere met last was new there (inl client) =
        let dates = client.arrival.dated in
        let at = seen met _ dates.mid there dates.accepted in (
          inl (record {
            came = client.came;
            gone = client.gone;
            arrival = record {
              reading = client.arrival.reading;
              dated = record { mid = tt; accepted = at.0; said = tt };
              moment = client.arrival.moment;
              due = client.arrival.due;
              both = client.arrival.both;
              read_by = client.arrival.read_by;
              written_by = client.arrival.written_by;
              reader_fine = client.arrival.reader_fine;
              writer_fine = client.arrival.writer_fine;
            };
            served = record {
              ended = client.served.ended;
              made = client.served.made;
              last = client.served.last;
              read = client.served.read;
              few = client.served.few;
              drained = ended_anyhow link shuts client.served.ended _ _ client.served.drained;
            };
          }),
          dated dates.mid _ last at.1 dates.said,
        )
    turn_anywhere met last was new there (inr (none, idle)) = let at = lost met last there none in (inr (at.0, idle), at.1)

    anyhow : (n : ℕ) (last : D) (new : G) → is first
        → AreServed link shuts may_read (by_bytes made) accepts clock_says timer timeout first old n last new
        → ServesAll link may_read made comes timer timeout old n new × is last
    anyhow zero last new there are = ((refl, are.1), subst is (sym are.0) there)
    anyhow (suc n) last new there (met, was, are, turn) =
        let before = anyhow n met was there are in
        let one = turn_anywhere met last was new before.1 turn in
        ((tt, was, before.0, one.0), one.1)

    none_came : (f : ServeFault) (met last : D) → is met → Arrives accepts clock_says link.shows timer timeout met (Err f) last
        → Arrives {D = ⊤} (λ _ handles _. comes handles) (λ _ _ _. ⊤) link.shows timer timeout tt (Err f) tt
    none_came (why.Accept error) met last there (failed, lasting) = ((seen met (Err error) last there failed).0, lasting)
    none_came (why.Clock error) met last there (inl h) = inl (record {
      reader = h.reader;
      writer = h.writer;
      accepted = (seen met _ last there h.accepted).0;
      failed = h.failed;
    })
    none_came (why.Clock error) met last there (inr h) = inr (record {
      reader = h.reader;
      writer = h.writer;
      reading = h.reading;
      dated = record { mid = tt; accepted = (seen met _ h.dated.mid there h.dated.accepted).0; said = tt };
      failed = h.failed;
    })

    pub from_anywhere : {A : Type 0} (count : ℕ) (last : D) (new : G) (end : Result A ServeFault) → is first
        → OnOk end (AreServed link shuts may_read (by_bytes made) accepts clock_says timer timeout first old count last new)
        → IfErr end (λ f. IsCutShort link shuts may_read (by_bytes made) accepts clock_says timer timeout first old count f last new)
        → AreClientsServed link may_read made comes timer timeout old count end new
    from_anywhere count last new (Ok a) there are cut = (anyhow count last new there are).0
    from_anywhere count last new (Err f) there are cut =
        let some = anyhow cut.done cut.met new there cut.served in record {
          done = cut.done;
          fewer = cut.fewer;
          met = tt;
          served = some.0;
          failed = none_came f cut.met last some.1 cut.failed;
        }

module _ {T : Type 0} (m : Meaning T) where
  begins : (now : T) → IsRunOf m now now none_handled
  begins now = record {
    moments = All-nil (λ (r : ℕ × Request). r.0 ≤ LAST_MOMENT);
    run = λ sure s represented. record {
      last = s;
      runs = refl;
      represented = represented;
      crash = λ left h. inl h;
      acknowledged = λ _. inr (refl, λ left h. h);
    };
    idle = λ _. refl;
  }

  -- a run of the machine goes on by one request
  run_on : (old mid new : T) (s : State) (rs : List (ℕ × Request)) (answers : List Answer) (r : ℕ × Request) (answer : Answer)
      → (run : IsRun m old mid s rs answers) → IsHandled m mid new run.last r.0 (input_of r.1) answer
      → IsRun m old new s (rs ++ r ∷ []) (answers ++ answer ∷ [])
  run_on old mid new s rs answers r answer run handled =
      let all = rs ++ r ∷ [] in
      let long : length all ≡ length rs + 1 = length-append rs (r ∷ []) in
      let seam : take (length rs) all ≡ rs = take-append_seam rs (r ∷ []) in
      let whole : take (length rs + 1) all ≡ all = take_all (length rs + 1) all (omega (arith, long)) in
      let is : r ≡ get_or all (length rs) r = sym (get_or-append_seam rs r [] r) in
      let low : length rs < length all = omega (arith, long) in
      let step : (first : IsRun m old mid s (take (length rs) all) answers)
      → IsHandled m mid new first.last r.0 (input_of r.1) answer
      → IsRun m old new s (take (length rs + 1) all) (answers ++ answer ∷ []) =
      λ first step. run_more m all (length rs) r old mid new s answers answer low is first step in
      let same : (first : IsRun m old mid s rs answers) → IsHandled m mid new first.last r.0 (input_of r.1) answer
      → IsRun m old new s (take (length rs + 1) all) (answers ++ answer ∷ []) =
      subst (λ qs. (first : IsRun m old mid s qs answers) → IsHandled m mid new first.last r.0 (input_of r.1) answer
      → IsRun m old new s (take (length rs + 1) all) (answers ++ answer ∷ [])) seam step in
      subst (λ qs. IsRun m old new s qs (answers ++ answer ∷ [])) whole (same run handled)

  none_more : (old mid new : T) (handled : Handled) → new ≡ mid → IsRunOf m old mid handled
      → IsRunOf m old new handled
  none_more old mid new handled same run = subst (λ t. IsRunOf m old t handled) (sym same) run

  one_more : (old mid new : T) (handled : Handled) (moment : ℕ) (request : Request) (answer : Answer) → moment ≤ LAST_MOMENT → (m.is_sure new → m.is_sure mid)
      → (m.is_sure new → (s : State) → m.represents mid s → IsHandled m mid new s moment (input_of request) answer)
      → IsRunOf m old mid handled → IsRunOf m old new (handled_with handled moment request answer)
  one_more old mid new handled moment request answer low sure step run = record {
    moments = All-push (λ (r : ℕ × Request). r.0 ≤ LAST_MOMENT) handled.requests (moment, request) run.moments low;
    run = λ known s represented.
        let was = run.run (sure known) s represented in
        run_on old mid new s handled.requests handled.answers (moment, request) answer was (step known was.last was.represented);
    idle = λ none. absurd (some_one handled.requests (moment, request) none);
  }

module _ (origins : Origins) {T : Type 0} (m : Meaning T) where
  -- what an exchange adds to what was handled, by its reply
  module _ (old mid new : T) (handled : Handled) (left : Option (List ℕ)) (moment : ℕ) (low : moment ≤ LAST_MOMENT) (sure : m.is_sure new → m.is_sure mid)
      (run : IsRunOf m old mid handled) where
    by_reply : (reply : Reply) → Replies origins m left mid new moment reply
        → (more : Handled) × IsReplied origins left handled more moment reply × IsRunOf m old new more
    by_reply (Ok answer) one = (
      handled_with handled moment one.request answer,
      (one.request, one.asked, refl),
      one_more m old mid new handled moment one.request answer low sure one.handled run,
    )
    by_reply (Err refusal) none = (handled, (none.0, refl), none_more m old mid new handled none.1 run)

    module _ (before after : Option (List ℕ)) where
      replied : (served : Served) → IsServed origins m (λ held. held) left before after mid new moment served
          → (more : Handled) × RepliesOnce origins handled left moment before after (Ok served) more × IsRunOf m old new more
      replied served one = let r = by_reply one.reply one.replies in (r.0, record { reply = one.reply; replied = r.1; written = one.reported }, r.2)

      cut_off : (f : LinkFault) → IsUnserved origins m (λ held. held) left before after mid new moment f
          → (more : Handled) × RepliesOnce origins handled left moment before after (Err f) more × IsRunOf m old new more
      cut_off f one = let r = by_reply one.reply one.replies in (r.0, record { reply = one.reply; replied = r.1; written = one.cut_off }, r.2)

      broken : (f : LinkFault) → IsFaulty origins m (λ held. held) left before after mid new moment f
          → (more : Handled) × IsConversation origins handled left moment before after (Err f) more × IsRunOf m old new more
      broken fault.Read h = (handled, (h.0, refl), none_more m old mid new handled h.1 run)
      broken (fault.Write said) h = cut_off (fault.Write said) h
      broken (fault.NoMemory false) h = (handled, (h.0, refl), none_more m old mid new handled h.1 run)
      broken (fault.NoMemory true) h = cut_off (fault.NoMemory true) h

      exchanged : (ended : Result Served LinkFault) → IsExchange origins m mid left moment before after ended new
          → (more : Handled) × IsConversation origins handled left moment before after ended more × IsRunOf m old new more
      exchanged (Ok served) one = replied served one.served
      exchanged (Err f) one = broken f one.fault

  -- what clients that came and were served make of the tables
  module _ {C K D : Type 0} (link : Link C K) (shuts : C → Bool → Type 0) (accepts : D → Result (Option (C × C)) Error → D → Type 0)
      (clock_says : D → Result Duration Error → D → Type 0) (timer : K) (timeout : Option Duration) where
    client : (met last : D) (old mid new : T) (handled : Handled)
        → IsClient link shuts (MayRead origins) (by_bytes (IsExchange origins m)) accepts clock_says timer timeout met mid last new
        → IsRunOf m old mid handled
        → (more : Handled) × IsClient link shuts (MayRead origins) (by_bytes (IsConversation origins)) accepts clock_says timer timeout met handled last more
        × IsRunOf m old new more × (m.is_sure new → m.is_sure mid)
    client met last old mid new handled one run =
        let served = one.served in
        let low = within one.arrival.reading one.came.moment one.arrival.moment in
        let r = exchanged old mid new handled _ one.came.moment low served.made.sure run _ _ served.ended served.made in (
          r.0,
          record {
            came = one.came;
            gone = one.gone;
            arrival = one.arrival;
            served = record {
              ended = served.ended;
              made = r.1;
              last = served.last;
              read = served.read;
              few = served.few;
              drained = served.drained;
            };
          },
          r.2,
          served.made.sure,
        )

    turn : (met last : D) (old mid new : T) (handled : Handled)
        → IsTurn link shuts (MayRead origins) (by_bytes (IsExchange origins m)) accepts clock_says timer timeout met mid last new
        → IsRunOf m old mid handled
        → (more : Handled) × IsTurn link shuts (MayRead origins) (by_bytes (IsConversation origins)) accepts clock_says timer timeout met handled last more
        × IsRunOf m old new more × (m.is_sure new → m.is_sure mid)
    turn met last old mid new handled (inl one) run =
        let r = client met last old mid new handled one run in
        (r.0, inl r.1, r.2, r.3)
    turn met last old mid new handled (inr (lost, idle)) run =
        (handled, inr (lost, refl), none_more m old mid new handled idle run, λ sure. subst m.is_sure idle sure)

    module _ (first : D) (old : T) where
      handled_for : (n : ℕ) (last : D) (new : T)
          → AreServed link shuts (MayRead origins) (by_bytes (IsExchange origins m)) accepts clock_says timer timeout first old n last new
          → (handled : Handled)
          × AreServed link shuts (MayRead origins) (by_bytes (IsConversation origins)) accepts clock_says timer timeout first none_handled n last handled
          × IsRunOf m old new handled × (m.is_sure new → m.is_sure old)
      handled_for zero last new are =
          (none_handled, (are.0, refl), none_more m old old new none_handled are.1 (begins m old), λ sure. subst m.is_sure are.1 sure)
      handled_for (suc n) last new (met, was, are, one) =
          let before = handled_for n met was are in
          let more = turn met last old was new before.0 one before.2 in
          (more.0, (met, before.0, before.1, more.1), more.2, λ sure. before.3 (more.3 sure))

      module _ (comes : Result (Option (C × C)) Error → Type 0) (is : D → Type 0)
          (seen : (a : D) (handles : Result (Option (C × C)) Error) (b : D) → is a → accepts a handles b → comes handles × is b)
          (dated : (a : D) (reading : Result Duration Error) (b : D) → is a → clock_says a reading b → is b)
          {A : Type 0} (count : ℕ) (last : D) (new : T) where
        pub all_handled : (end : Result A ServeFault) → is first
            → OnOk end (AreServed link shuts (MayRead origins) (by_bytes (IsExchange origins m)) accepts clock_says timer timeout first old count last new)
            → IfErr end (λ f.
            IsCutShort link shuts (MayRead origins) (by_bytes (IsExchange origins m)) accepts clock_says timer timeout first old count f last new)
            → AreHandled origins m link comes timeout old new count end
        all_handled (Ok a) there are cut =
            let h = handled_for count last new are in record {
              handled = h.0;
              timer = timer;
              served =
                  (anyhow link shuts (MayRead origins) (IsConversation origins) accepts clock_says timer timeout first none_handled comes is seen dated
                  count last h.0 there h.1).0;
              run = h.2;
            }
        all_handled (Err f) there are cut =
            let h = handled_for cut.done cut.met new cut.served in
            let some = anyhow link shuts (MayRead origins) (IsConversation origins) accepts clock_says timer timeout first none_handled comes is seen
            dated cut.done cut.met h.0 there h.1 in record {
              handled = h.0;
              timer = timer;
              served = record {
                done = cut.done;
                fewer = cut.fewer;
                met = tt;
                served = some.0;
                failed =
                    none_came link shuts (MayRead origins) (IsConversation origins) accepts clock_says timer timeout first none_handled comes is seen
                    dated f cut.met last some.1 cut.failed;
              };
              run = h.2;
            }

      pub sure : {A : Type 0} (count : ℕ) (last : D) (new : T) (end : Result A ServeFault)
          → OnOk end (AreServed link shuts (MayRead origins) (by_bytes (IsExchange origins m)) accepts clock_says timer timeout first old count last new)
          → IfErr end (λ f.
          IsCutShort link shuts (MayRead origins) (by_bytes (IsExchange origins m)) accepts clock_says timer timeout first old count f last new)
          → m.is_sure new → m.is_sure old
      sure count last new (Ok a) are cut = (handled_for count last new are).3
      sure count last new (Err f) are cut = (handled_for cut.done cut.met new cut.served).3
