-- What the bytes of a connection ask for, step by step.
use Rattle.std.proofs.Common.{
  ◌≡◌,
  ◌∙◌,
  ◌≤◌,
  ◌+◌,
  ◌-◌,
  ◌++◌,
  ℕ,
  List,
  refl,
  sym,
  ap,
  arith,
  length,
  length-append,
  take,
  drop,
  map,
  max,
  Some,
  None,
  Ok,
  Err,
  inl,
  inr,
}
use Rattle.std.specs.Prelude.{IfErr, IfSome, MatchOption, Option, Result}
use Rattle.std.specs.Io.KnownBytes.{Consumes}
use Rattle.httparse.specs.Grammar.{RequestHead, print_request}
use Rattle.httparse.specs.Spans.{name_and_value, span_bytes}
use Rattle.httparse.specs.declared.spans.HeaderSpan.{HeaderSpan}
use Rattle.httparse.specs.declared.spans.RequestSpans.{RequestSpans}
use Rattle.httparse.proofs.GrammarLemmas.{request_unique}
use Rattle.opc_machine.specs.declared.request.Request.{Request}
use Rattle.opc_io.specs.Reads.{TakesAtMost}
use Rattle.opc_io.proofs.Reading.{consumes-more}
use Rattle.opc_http_requests.specs.Head.{FoundHead, HasHead, NoHead}
use Rattle.opc_http_requests.specs.Refusals.{Refuses}
use Rattle.opc_http_requests.specs.declared.refusal.AskFault.{AskFault}
use Rattle.opc_http_requests.specs.declared.refusal.AskFault.TheVariants as asking
use Rattle.opc_http_requests.specs.declared.origins.Origins.{Origins}
use Rattle.opc_http_requests.specs.declared.refusal.HttpRefusal.{HttpRefusal}
use Rattle.opc_http_requests.specs.declared.refusal.HttpRefusal.TheVariants.{BadRequest}
use Rattle.opc_http_requests.specs.declared.refusal.InvalidPart.TheVariants.{Head}
use Rattle.opc_http_requests.specs.Asked.{Asks, AsksOnly, body_length_of}
use Rattle.opc_http_requests.specs.Faults.{IfRefused, by_asking}
use Rattle.opc_http_requests.specs.Paths.{path_in}
use Rattle.opc_http_requests.specs.Plans.{plan_in, plan_of}
use Rattle.opc_http_requests.specs.Requests.{body_in, planned, request_at, request_of}
use Rattle.opc_http_requests.specs.declared.fault.ReadingFault.{ReadingFault}
use Rattle.opc_http_requests.specs.declared.fault.ReadingFault.TheVariants as reading
use Rattle.opc_http_requests.specs.declared.plan.Plan.{Plan}

-- the same bytes have one head
pub one-head : (all : List ℕ) (a b : RequestHead) → HasHead all a → HasHead all b → a ≡ b
one-head all a b h k = (request_unique (take 8192 all) a b h.rest k.rest h.reads k.reads).0

module _ (origins : Origins) where
  -- and ask for the same
  asks-one : (all : List ℕ) (r s : Result Request HttpRefusal) → Asks origins all r → Asks origins all s → s ≡ r
  asks-one all r s (inl a) (inl b) = b.1 ∙ sym a.1
  asks-one all r s (inl a) (inr b) = absurd (a.0 b.head b.has)
  asks-one all r s (inr a) (inl b) = absurd (b.0 a.head a.has)
  asks-one all r s (inr a) (inr b) =
      b.is
      ∙ ap (λ (head : RequestHead). request_of origins head (drop (length (print_request head)) all))
      (one-head all b.head a.head b.has a.has) ∙ sym a.is

  pub asks-only : (all : List ℕ) (r : Result Request HttpRefusal) → Asks origins all r → AsksOnly origins all r
  asks-only all r a = record { asks = a; only = λ s b. asks-one all r s a b }

  -- no head was found
  pub asks-headless : (known : Option (List ℕ)) → IfSome known NoHead → IfSome known (λ all. AsksOnly origins all (Err (BadRequest Head)))
  asks-headless None h = tt
  asks-headless (Some all) h = asks-only all (Err (BadRequest Head)) (inl (h, refl))

  -- the spans give the plan of the head that they find
  pub head-plan : (all buf : List ℕ) (headers : List HeaderSpan) (spans : RequestSpans) (f : FoundHead all buf headers spans)
      → plan_in origins buf headers spans ≡ plan_of origins f.head.method f.head.target (map name_and_value f.head.fields)
  head-plan all buf headers spans f = rw (f.parts.method, f.parts.path, f.parts.fields) refl

  -- and with it how long the body is
  pub planned-length : (buf : List ℕ) (headers : List HeaderSpan) (spans : RequestSpans) (plan : Plan) (f : FoundHead buf buf headers spans)
      → plan_in origins buf headers spans ≡ Ok plan → plan.length ≡ body_length_of origins f.head
  planned-length buf headers spans plan f is = let planned = sym (head-plan buf buf headers spans f) ∙ is in rw planned refl

  -- the plan is a refusal
  pub asks-refused : (known : Option (List ℕ)) (buf : List ℕ) (headers : List HeaderSpan) (spans : RequestSpans) (why : HttpRefusal)
      → IfSome known (λ all. FoundHead all buf headers spans) → plan_in origins buf headers spans ≡ Err why
      → IfSome known (λ all. AsksOnly origins all (Err why))
  asks-refused None buf headers spans why f e = tt
  asks-refused (Some all) buf headers spans why f e =
      let plan = sym (head-plan all buf headers spans f) ∙ e in
      asks-only all (Err why) (inr (record { head = f.head; has = f.has; is = rw plan refl }))

  -- the outcome of the plan is a request or a refusal
  pub asks-planned : (known mid : Option (List ℕ)) (buf : List ℕ) (headers : List HeaderSpan) (spans : RequestSpans)
      (plan : Plan) (r : Result Request HttpRefusal) → Consumes known mid buf → IfSome known (λ all. FoundHead all buf headers spans)
      → plan_in origins buf headers spans ≡ Ok plan
      → IfSome mid (λ left. planned (span_bytes buf spans.path) (drop spans.len (buf ++ left)) plan ≡ r) → IfSome known (λ all. AsksOnly origins all r)
  asks-planned None mid buf headers spans plan r c f e p = tt
  asks-planned (Some all) None buf headers spans plan r c f e p = absurd c
  asks-planned (Some all) (Some left) buf headers spans plan r c f e p =
      let is = sym (head-plan all buf headers spans f) ∙ e in
      let left_is : drop spans.len (buf ++ left) ≡ drop (length (print_request f.head)) all = rw (c, f.parts.len) refl in
      asks-only all r (inr (record { head = f.head; has = f.has; is = rw is (sym (rw (f.parts.path, left_is) at p)) }))

-- this many bytes are at most as many as a greater number
takes-fewer : (few most : ℕ) (before after : Option (List ℕ)) → few ≤ most → TakesAtMost few before after → TakesAtMost most before after
takes-fewer few most before after low t = record { taken = t.taken; consumes = t.consumes; few = let h = t.few in omega (arith, h, low) }

-- the bytes that were there, and then those of the body
takes-both : (end filled : ℕ) (before mid after : Option (List ℕ)) (bytes : List ℕ) → Consumes before mid bytes
    → length bytes ≡ filled → filled ≤ 8192 → TakesAtMost (end - filled) mid after
    → TakesAtMost (max 8192 end) before after
takes-both end filled before mid after bytes c is low t = record {
  taken = bytes ++ t.taken;
  consumes = consumes-more before mid after bytes t.taken c t.consumes;
  few = let h = t.few in omega (arith, h, is, low, length-append bytes t.taken);
}

-- in all
pub takes-whole : (len n filled : ℕ) (before mid after : Option (List ℕ)) (bytes : List ℕ) → Consumes before mid bytes
    → length bytes ≡ filled → filled ≤ 8192 → len ≤ 8192 → n ≤ 65536 → TakesAtMost (len + n - filled) mid after
    → TakesAtMost 73728 before after
takes-whole len n filled before mid after bytes c is low head body t =
    takes-fewer (max 8192 (len + n)) 73728 before after (omega (arith, head, body)) (takes-both (len + n) filled before mid after bytes c is low t)

-- a plan with its body and its path
pub planned-request : (known : Option (List ℕ)) (old target path body used : List ℕ) (len : ℕ) (plan : Plan) (r : Result Request HttpRefusal)
    → IfSome known (λ left. body_in plan.length (drop len (old ++ left)) ≡ Ok body) → used ≡ body
    → path_in target ≡ Ok path → request_at plan.route path used ≡ r
    → IfSome known (λ left. planned target (drop len (old ++ left)) plan ≡ r)
planned-request None old target path body used len plan r b same p e = tt
planned-request (Some left) old target path body used len plan r b same p e = rw (b, p) (ap (λ (t : List ℕ). request_at plan.route path t) (sym same) ∙ e)

pub planned-without-path : (known : Option (List ℕ)) (old target body : List ℕ) (len : ℕ) (plan : Plan) (why : HttpRefusal)
    → IfSome known (λ left. body_in plan.length (drop len (old ++ left)) ≡ Ok body) → path_in target ≡ Err why
    → IfSome known (λ left. planned target (drop len (old ++ left)) plan ≡ Err why)
planned-without-path None old target body len plan why b p = tt
planned-without-path (Some left) old target body len plan why b p = rw (b, p) refl

pub planned-without-body : (known : Option (List ℕ)) (old target : List ℕ) (len : ℕ) (plan : Plan) (why : HttpRefusal)
    → IfSome known (λ left. body_in plan.length (drop len (old ++ left)) ≡ Err why)
    → IfSome known (λ left. planned target (drop len (old ++ left)) plan ≡ Err why)
planned-without-body None old target len plan why b = tt
planned-without-body (Some left) old target len plan why b = rw b refl

-- a fault of the request is a fault of its plan
pub refuses-planned : (fault : AskFault) (known : Option (List ℕ)) (asked : List ℕ → Result Request HttpRefusal)
    (r : Result Request HttpRefusal) → Refuses fault r
    → IfSome known (λ left. asked left ≡ r) → IfRefused (by_asking fault) (λ why. IfSome known (λ left. asked left ≡ Err why))
refuses-planned (asking.Refused why) None asked r h e = tt
refuses-planned (asking.Refused why) (Some left) asked r h e = e ∙ h
refuses-planned asking.NoMemory known asked r h e = tt

refused-weaker : (fault : ReadingFault) (P Q : HttpRefusal → Type 0) → ((why : HttpRefusal) → P why → Q why) → IfRefused fault P → IfRefused fault Q
refused-weaker (reading.Refused why) P Q f h = f why h
refused-weaker reading.Read P Q f h = tt
refused-weaker reading.NoMemory P Q f h = tt

pub fault-weaker : {A : Type 0} (r : Result A ReadingFault) (P Q : HttpRefusal → Type 0) → ((why : HttpRefusal) → P why → Q why)
    → IfErr r (λ fault. IfRefused fault P) → IfErr r (λ fault. IfRefused fault Q)
fault-weaker (Ok a) P Q f h = tt
fault-weaker (Err fault) P Q f h = refused-weaker fault P Q f h

-- if nothing was found
pub none-found : {A : Type 0} (known : Option (List ℕ)) (found : Option A) (P : List ℕ → Type 0) (Q : List ℕ → A → Type 0) → ((a : A) → found ≡ Some a → ⊥)
    → IfSome known (λ all. MatchOption found (P all) (Q all)) → IfSome known P
none-found None found P Q none h = tt
none-found (Some all) None P Q none h = h
none-found (Some all) (Some a) P Q none h = absurd (none a refl)

-- if something was
pub some-found : {A : Type 0} (known : Option (List ℕ)) (found : Option A) (a : A) (P : List ℕ → Type 0) (Q : List ℕ → A → Type 0) → found ≡ Some a
    → IfSome known (λ all. MatchOption found (P all) (Q all)) → IfSome known (λ all. Q all a)
some-found None found a P Q is h = tt
some-found (Some all) found a P Q is h = rw is at h
