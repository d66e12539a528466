-- Which reads are made for a request, and how many bytes they give.
use Rattle.std.proofs.Common.{
  ◌≡◌,
  ◌∙◌,
  ◌≤◌,
  ◌<◌,
  ◌+◌,
  ◌-◌,
  ◌++◌,
  [],
  ℕ,
  zero,
  suc,
  List,
  refl,
  sym,
  ap,
  subst,
  arith,
  nat_le,
  nat_lt,
  length,
  length-append,
  take,
  drop,
  append_assoc,
  max,
  Some,
  None,
  Ok,
  inl,
  inr,
}
use Rattle.std.specs.Prelude.{IfSome, Option, Result}
use Rattle.std.specs.Io.KnownBytes.{Consumes}
use Rattle.std.proofs.lemmas.Bool.{cases_Bool}
use Rattle.std.proofs.lemmas.Bool.Decides.{nat_tests}
use Rattle.std.proofs.lemmas.List.{take-append-drop, take-append-le, take_all}
use Rattle.std.proofs.Math.Seq.{take-append_seam}
use Rattle.httparse.specs.Grammar.{HasNoRequest, RequestHead, print_request}
use Rattle.httparse.specs.declared.spans.HeaderSpan.{HeaderSpan}
use Rattle.httparse.specs.declared.spans.RequestSpans.{RequestSpans}
use Rattle.httparse.proofs.GrammarLemmas.{ReadsRequest-append}
use Rattle.opc_io.specs.Reads.{AreReads, Reads, ReadsInto, ReadsOnly}
use Rattle.opc_io.proofs.Reading.{begins, more-reads, no-reads}
use Rattle.opc_http_requests.specs.Head.{FoundHead, HasHead, MayLook, NoHead}
use Rattle.opc_http_requests.proofs.HeadLemmas.{first-bytes}
use Rattle.opc_http_requests.specs.Bodies.{MayFill}
use Rattle.opc_http_requests.specs.Messages.{MayReadMessage, StopsAtMessage, looked_through, message_length}
use Rattle.opc_http_requests.proofs.Requester.{one-head}

-- a head that is there is there, whatever follows
has-more : (bytes more : List ℕ) (head : RequestHead) → HasHead bytes head → HasHead (bytes ++ more) head
has-more bytes more head has = elim (cases_Bool (nat_le (length bytes) 8192)) [
  | inl few ↦ (
      let low : length bytes ≤ 8192 = grind (arith, nat_tests, few) in
      let all : take 8192 bytes ≡ bytes = take_all 8192 bytes low in
      record {
        rest = has.rest ++ take (8192 - length bytes) more;
        reads = rw (first-bytes (bytes ++ more) bytes more refl low)
            (ReadsRequest-append bytes head has.rest (take (8192 - length bytes) more) (rw all at has.reads));
        few = has.few;
      })
  | inr many ↦ (
      let high : 8192 ≤ length bytes = grind (arith, nat_tests, many) in
      record { rest = has.rest; reads = rw (take-append-le 8192 bytes more high) has.reads; few = has.few })
]

-- bytes that are no whole head end before the head does
short-of-head : (all before rest : List ℕ) (head : RequestHead) → all ≡ before ++ rest → HasHead all head → HasNoRequest before → length before ≤ 8192
    → length before < length (print_request head)
short-of-head all before rest head is has none low = elim (cases_Bool (nat_lt (length before) (length (print_request head)))) [
  | inl short ↦ grind (arith, nat_tests, short)
  | inr long ↦ (
      let printed = print_request head in
      let fits : length printed ≤ length before = grind (arith, nat_tests, long) in
      let more = take (8192 - length before) rest in
      let same : before ++ more ≡ printed ++ has.rest = sym (first-bytes all before rest is low) ∙ has.reads.1 in
      let begin : take (length printed) before ≡ printed =
      sym (take-append-le (length printed) before more fits) ∙ ap (take (length printed)) same ∙ take-append_seam printed has.rest in
      let whole : before ≡ printed ++ drop (length printed) before =
      sym (take-append-drop (length printed) before) ∙ ap (λ (t : List ℕ). t ++ drop (length printed) before) begin in
      absurd (none head (drop (length printed) before) (has.reads.0, whole)))
]

-- the rest of the body of a head may be read once the head is there
body-may : (length_of : RequestHead → ℕ) (buf : List ℕ) (headers : List HeaderSpan) (spans : RequestSpans) (n : ℕ)
    → (found : FoundHead buf buf headers spans) → n ≡ length_of found.head
    → (moved : List ℕ) (count : ℕ) → MayFill (spans.len + n) (buf ++ moved) count → MayReadMessage length_of (buf ++ moved) count
body-may length_of buf headers spans n found is moved count fill =
    let long : spans.len + n ≡ message_length length_of found.head = rw (is, found.parts.len) refl in
    inr (record { head = found.head; has = has-more buf moved found.head found.has; body = subst (λ (n : ℕ). MayFill n (buf ++ moved) count) long fill })

module _ (length_of : RequestHead → ℕ) {S : Type 0} (left : S → Option (List ℕ)) (gives : S → List ℕ → S → Type 0) where
  -- the reads that look for a head may be made for a request
  looked : (first last : S) (bytes : List ℕ) → Reads left gives MayLook first [] last bytes → Reads left gives (MayReadMessage length_of) first [] last bytes
  looked first last bytes reads = more-reads left gives (MayReadMessage length_of) MayLook first first [] []
      (no-reads left gives (MayReadMessage length_of) first []) (λ moved count may. inl may) reads.count last bytes reads.are

  pub looked-only : {A E : Type 0} (first last : S) (buf : List ℕ) (result : Result A E)
      → ReadsInto left gives MayLook first [] last buf result → ReadsOnly left gives (MayReadMessage length_of) first [] last
  looked-only first last buf result into = record { bytes = into.bytes; reads = looked first last into.bytes into.reads }

  -- and those for a body, once its head is there
  pub body-only : (first mid last : S) (buf bytes : List ℕ) (headers : List HeaderSpan) (spans : RequestSpans) (n : ℕ)
      → Reads left gives MayLook first [] mid bytes → buf ≡ bytes → (found : FoundHead buf buf headers spans) → n ≡ length_of found.head
      → ReadsOnly left gives (MayFill (spans.len + n)) mid buf last → ReadsOnly left gives (MayReadMessage length_of) first [] last
  body-only first mid last buf bytes headers spans n reads same found is body =
      let head : Reads left gives (MayReadMessage length_of) first [] mid buf =
      looked first mid buf (subst (λ (t : List ℕ). Reads left gives MayLook first [] mid t) (sym same) reads) in
      record {
        bytes = body.bytes;
        reads = more-reads left gives (MayReadMessage length_of) (MayFill (spans.len + n)) first mid [] buf head
            (body-may length_of buf headers spans n found is) body.reads.count last body.bytes body.reads.are;
      }

  -- without a head no more is read than a head may have
  few-headless : (first last : S) (all rest bytes : List ℕ) (n : ℕ) → AreReads left gives (MayReadMessage length_of) first [] n last bytes
      → all ≡ bytes ++ rest → NoHead all → length bytes ≤ 8192
  few-headless first last all rest bytes zero are is none = let empty : length bytes ≡ 0 = ap length are.1 in omega (arith, empty)
  few-headless first last all rest bytes (suc n) (mid, before, given, are, inl look, gave, made) is none = let within =
      look.within in omega (arith, within, ap length made, length-append before given)
  few-headless first last all rest bytes (suc n) (mid, before, given, are, inr body, gave, made) is none =
      let whole : all ≡ before ++ (given ++ rest) = is ∙ ap (λ (t : List ℕ). t ++ rest) made ∙ append_assoc before given rest in
      absurd (none body.head (subst (λ (t : List ℕ). HasHead t body.head) (sym whole) (has-more before (given ++ rest) body.head body.has)))

  -- with one, no more than finds it or has its body
  few-headed : (first last : S) (all rest bytes : List ℕ) (head : RequestHead) (n : ℕ)
      → AreReads left gives (MayReadMessage length_of) first [] n last bytes → all ≡ bytes ++ rest → HasHead all head
      → length bytes ≤ max (looked_through head) (message_length length_of head)
  few-headed first last all rest bytes head zero are is has = let empty : length bytes ≡ 0 = ap length are.1 in omega (arith, empty)
  few-headed first last all rest bytes head (suc n) (mid, before, given, are, inl look, gave, made) is has =
      let whole : all ≡ before ++ (given ++ rest) = is ∙ ap (λ (t : List ℕ). t ++ rest) made ∙ append_assoc before given rest in
      let low : length before ≤ 8192 = let within = look.within in omega (arith, within) in
      let short = short-of-head all before (given ++ rest) head whole has look.unfinished.no_head low in
      let within = look.within in
      let block = look.block in
      omega (arith, short, within, block, ap length made, length-append before given)
  few-headed first last all rest bytes head (suc n) (mid, before, given, are, inr body, gave, made) is has =
      let whole : all ≡ before ++ (given ++ rest) = is ∙ ap (λ (t : List ℕ). t ++ rest) made ∙ append_assoc before given rest in
      let there : HasHead all body.head = subst (λ (t : List ℕ). HasHead t body.head) (sym whole) (has-more before (given ++ rest) body.head body.has) in
      let same : message_length length_of body.head ≡ message_length length_of head = ap (message_length length_of) (one-head all body.head head there has) in
      let within = body.body.within in
      omega (arith, within, same, ap length made, length-append before given)

  stops-known : (first last : S) (known after : Option (List ℕ)) (bytes : List ℕ) (n : ℕ)
      → AreReads left gives (MayReadMessage length_of) first [] n last bytes → Consumes known after bytes
      → IfSome known (λ all. StopsAtMessage length_of all after)
  stops-known first last None after bytes n are c = tt
  stops-known first last (Some all) None bytes n are c = absurd c
  stops-known first last (Some all) (Some rest) bytes n are c = record {
    headless = λ none. record { taken = bytes; consumes = c; few = few-headless first last all rest bytes n are c none };
    headed = λ head has. record { taken = bytes; consumes = c; few = few-headed first last all rest bytes head n are c has };
  }

  -- so no read goes past the end of the body, except the last one that looks for the head
  pub stops : (first last : S) → ReadsOnly left gives (MayReadMessage length_of) first [] last
      → IfSome (left first) (λ all. StopsAtMessage length_of all (left last))
  stops first last only =
      let made = begins left gives (MayReadMessage length_of) first [] only.reads.count last only.bytes only.reads.are in
      stops-known first last (left first) (left last) only.bytes only.reads.count only.reads.are
      (subst (λ (t : List ℕ). Consumes (left first) (left last) t) (sym made.is) made.consumes)
