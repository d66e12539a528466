-- What the bytes of a connection put, step by step.
use Rattle.std.proofs.Common.{
  ◌≡◌,
  ◌∙◌,
  ◌≤◌,
  ◌+◌,
  ◌++◌,
  ℕ,
  List,
  refl,
  sym,
  ap,
  length,
  take,
  drop,
  map,
  Some,
  None,
  Ok,
  Err,
  inl,
  inr,
}
use Rattle.std.specs.Prelude.{IfSome, Option, Result, slice_range}
use Rattle.std.specs.Io.KnownBytes.{Consumes}
use Rattle.httparse.specs.Grammar.{RequestHead, print_request}
use Rattle.httparse.specs.Spans.{header_bytes, name_and_value}
use Rattle.httparse.specs.declared.spans.HeaderSpan.{HeaderSpan}
use Rattle.httparse.specs.declared.spans.RequestSpans.{RequestSpans}
use Rattle.opc_http_requests.specs.Head.{FoundHead, NoHead}
use Rattle.opc_http_requests.specs.Requests.{body_in}
use Rattle.opc_http_requests.specs.declared.origins.Origins.{Origins}
use Rattle.opc_http_requests.specs.declared.refusal.HttpRefusal.{HttpRefusal}
use Rattle.opc_http_requests.proofs.Requester.{one-head}
use Rattle.opc_http_questions.specs.Asked.{Asked}
use Rattle.opc_http_questions.specs.QuestionPlans.{plan_in}
use Rattle.opc_http_questions.specs.Questions.{Puts, PutsOnly, headless, plan_by, planned, question_length, request_of}
use Rattle.opc_http_questions.specs.RequestIds.{id_in, request_id}
use Rattle.opc_http_questions.specs.declared.plan.QuestionPlan.{QuestionPlan}
use Rattle.opc_http_questions.specs.declared.question.DecideRequest.{DecideRequest}

module _ (origins : Origins) where
  -- the same bytes put one request
  puts-one : (all : List ℕ) (r s : DecideRequest) → Puts origins all r → Puts origins all s → s ≡ r
  puts-one all r s (inl a) (inl b) = b.1 ∙ sym a.1
  puts-one all r s (inl a) (inr b) = absurd (a.0 b.head b.has)
  puts-one all r s (inr a) (inl b) = absurd (b.0 a.head a.has)
  puts-one all r s (inr a) (inr b) =
      b.is
      ∙ ap (λ (head : RequestHead). request_of origins head (drop (length (print_request head)) all))
      (one-head all b.head a.head b.has a.has) ∙ sym a.is

  pub puts-only : (all : List ℕ) (r : DecideRequest) → Puts origins all r → PutsOnly origins all r
  puts-only all r a = record { puts = a; only = λ s b. puts-one all r s a b }

  -- no head was found
  pub puts-headless : (known : Option (List ℕ)) → IfSome known NoHead → IfSome known (λ all. PutsOnly origins all headless)
  puts-headless None h = tt
  puts-headless (Some all) h = puts-only all headless (inl (h, refl))

  -- the spans give the plan of the head that they find, and its id
  head-plan : (all buf : List ℕ) (headers : List HeaderSpan) (spans : RequestSpans) (f : FoundHead all buf headers spans)
      → plan_in origins buf headers spans ≡ plan_by origins f.head
  head-plan all buf headers spans f = rw (f.parts.method, f.parts.path, f.parts.fields) refl

  head-id : (all buf : List ℕ) (headers : List HeaderSpan) (spans : RequestSpans) (f : FoundHead all buf headers spans)
      → id_in buf headers spans ≡ request_id (map name_and_value f.head.fields)
  head-id all buf headers spans f = rw f.parts.fields refl

  -- and how long the body is
  pub planned-length : (buf : List ℕ) (headers : List HeaderSpan) (spans : RequestSpans) (plan : QuestionPlan)
      (f : FoundHead buf buf headers spans) → plan_in origins buf headers spans ≡ Ok plan → plan.length ≡ question_length origins f.head
  planned-length buf headers spans plan f is = let planned = sym (head-plan buf buf headers spans f) ∙ is in rw planned refl

  -- the plan is a refusal
  pub puts-refused : (known : Option (List ℕ)) (buf : List ℕ) (headers : List HeaderSpan) (spans : RequestSpans)
      (id : Option (List ℕ)) (why : HttpRefusal) → IfSome known (λ all. FoundHead all buf headers spans)
      → id ≡ id_in buf headers spans → plan_in origins buf headers spans ≡ Err why
      → IfSome known (λ all. PutsOnly origins all (record { id = id; question = Err why }))
  puts-refused None buf headers spans id why f i e = tt
  puts-refused (Some all) buf headers spans id why f i e =
      let plan = sym (head-plan all buf headers spans f) ∙ e in
      let same = i ∙ head-id all buf headers spans f in
      puts-only all (record { id = id; question = Err why }) (inr (record { head = f.head; has = f.has; is = rw (plan, same) refl }))

  -- the outcome of the plan is a question or a refusal
  pub puts-planned : (known mid : Option (List ℕ)) (buf : List ℕ) (headers : List HeaderSpan) (spans : RequestSpans)
      (plan : QuestionPlan) (id : Option (List ℕ)) (question : Result Asked HttpRefusal) → Consumes known mid buf
      → IfSome known (λ all. FoundHead all buf headers spans)
      → id ≡ id_in buf headers spans → plan_in origins buf headers spans ≡ Ok plan
      → IfSome mid (λ left. planned (drop spans.len (buf ++ left)) plan ≡ question)
      → IfSome known (λ all. PutsOnly origins all (record { id = id; question = question }))
  puts-planned None mid buf headers spans plan id question c f i e p = tt
  puts-planned (Some all) None buf headers spans plan id question c f i e p = absurd c
  puts-planned (Some all) (Some left) buf headers spans plan id question c f i e p =
      let is = sym (head-plan all buf headers spans f) ∙ e in
      let same = i ∙ head-id all buf headers spans f in
      let left_is : drop spans.len (buf ++ left) ≡ drop (length (print_request f.head)) all = rw (c, f.parts.len) refl in
      puts-only all (record { id = id; question = question })
      (inr (record { head = f.head; has = f.has; is = rw (is, same, ← p, left_is) refl }))

-- a plan with its body
pub planned-question : (known : Option (List ℕ)) (old body used : List ℕ) (len : ℕ) (plan : QuestionPlan)
    → IfSome known (λ left. body_in plan.length (drop len (old ++ left)) ≡ Ok body) → used ≡ body
    → IfSome known (λ left. planned (drop len (old ++ left)) plan ≡ Ok (record { route = plan.route; body = used }))
planned-question None old body used len plan b same = tt
planned-question (Some left) old body used len plan b same = rw (b, same) refl

pub planned-without-body : (known : Option (List ℕ)) (old : List ℕ) (len : ℕ) (plan : QuestionPlan) (why : HttpRefusal)
    → IfSome known (λ left. body_in plan.length (drop len (old ++ left)) ≡ Err why)
    → IfSome known (λ left. planned (drop len (old ++ left)) plan ≡ Err why)
planned-without-body None old len plan why b = tt
planned-without-body (Some left) old len plan why b = rw b refl
