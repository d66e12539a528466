-- What has been read says of the head of all the bytes.
use Rattle.std.proofs.Common.{
  ◌≡◌,
  ◌∙◌,
  ◌≤◌,
  ◌<◌,
  ◌+◌,
  ◌-◌,
  ◌++◌,
  ◌∷◌,
  [],
  ℕ,
  List,
  sym,
  refl,
  ap,
  arith,
  length,
  length-append,
  take,
  drop,
  append_assoc,
  Some,
  None,
  map,
}
use Rattle.std.specs.Prelude.{Option, IfSome, Result}
use Rattle.std.specs.Io.KnownBytes.{Consumes, IsAtEnd}
use Rattle.std.proofs.lemmas.List.{append-nil, length-take, length-map}
use Rattle.std.proofs.Math.Seq.{take-append-add, take-nil}
use Rattle.httparse.specs.Grammar.{Field, HasNoRequest, ReadsRequest, RequestHead, print_request}
use Rattle.httparse.specs.Spans.{IsRequestOf, RequestOverflows, header_bytes, name_and_value}
use Rattle.httparse.specs.declared.spans.HeaderSpan.{HeaderSpan}
use Rattle.httparse.specs.declared.spans.RequestSpans.{RequestSpans}
use Rattle.opc_io.specs.Reads.{Reads, ReadsMore, ReadsOnce}
use Rattle.opc_io.specs.declared.source.SourceFault.{SourceFault}
use Rattle.opc_io.proofs.Reading.{consumes-more, one-read-more}
use Rattle.opc_http_requests.specs.Head.{FoundHead, IsUnfinished, MayLook, NoHead}

-- the first 8,192 bytes begin with what was read
pub first-bytes : (all buf left : List ℕ) → all ≡ buf ++ left → length buf ≤ 8192 → take 8192 all ≡ buf ++ take (8192 - length buf) left
first-bytes all buf left e fits =
    let whole : 8192 ≡ length buf + (8192 - length buf) = omega arith in
    rw e (ap (λ (n : ℕ). take n (buf ++ left)) whole ∙ take-append-add buf left (8192 - length buf))

few-fields : (buf : List ℕ) (headers : List HeaderSpan) (count : ℕ) (fields : List Field) → length headers ≡ 32
    → map (header_bytes buf) (take count headers) ≡ map name_and_value fields → length fields ≤ 32
few-fields buf headers count fields room e =
    let same : length (take count headers) ≡ length fields =
    sym (length-map (take count headers) (header_bytes buf)) ∙ ap length e ∙ length-map fields name_and_value in
    omega (arith, same, length-take count headers)

reads-more : (buf more : List ℕ) (head : RequestHead) (rest : List ℕ) → ReadsRequest buf head rest → ReadsRequest (buf ++ more) head (rest ++ more)
reads-more buf more head rest r = (r.0, rw r.1 (append_assoc (print_request head) rest more))

found-in : (all buf left : List ℕ) (headers : List HeaderSpan) (spans : RequestSpans) → all ≡ buf ++ left → length buf ≤ 8192 → length headers ≡ 32
    → IsRequestOf buf headers spans → FoundHead all buf headers spans
found-in all buf left headers spans e fits room h = record {
  head = h.0;
  has = record {
    rest = drop spans.len buf ++ take (8192 - length buf) left;
    reads = rw (first-bytes all buf left e fits) (reads-more buf (take (8192 - length buf) left) h.0 (drop spans.len buf) h.1.reads);
    few = few-fields buf headers spans.headers h.0.fields room h.1.fields;
  };
  parts = h.1;
}

-- a head that was read
pub found : (known after : Option (List ℕ)) (buf : List ℕ) (headers : List HeaderSpan) (spans : RequestSpans)
    → Consumes known after buf → length buf ≤ 8192 → length headers ≡ 32
    → IsRequestOf buf headers spans → IfSome known (λ all. FoundHead all buf headers spans)
found None after buf headers spans c fits room h = tt
found (Some all) None buf headers spans c fits room h = absurd c
found (Some all) (Some left) buf headers spans c fits room h = found-in all buf left headers spans c fits room h

-- and that is there
pub found-here : (buf : List ℕ) (headers : List HeaderSpan) (spans : RequestSpans) → length buf ≤ 8192 → length headers ≡ 32 → IsRequestOf buf headers spans
    → FoundHead buf buf headers spans
found-here buf headers spans fits room h = found-in buf buf [] headers spans (sym (append-nil buf)) fits room h

-- an error
pub none-by-error : (known after : Option (List ℕ)) (buf : List ℕ) → Consumes known after buf → length buf ≤ 8192
    → RequestOverflows 32 buf → IfSome known NoHead
none-by-error None after buf c fits h = tt
none-by-error (Some all) None buf c fits h = absurd c
none-by-error (Some all) (Some left) buf c fits h = λ head has.
    let over = h (take (8192 - length buf) left) head has.rest (rw (first-bytes all buf left c fits) at has.reads) in
    let few = has.few in
    omega (arith, over, few)

none-if-same : (all buf : List ℕ) → take 8192 all ≡ buf → HasNoRequest buf → NoHead all
none-if-same all buf e none head has = none head has.rest (rw e at has.reads)

-- no more bytes
pub none-by-end : (known after : Option (List ℕ)) (buf : List ℕ) → Consumes known after buf → IsAtEnd after
    → length buf ≤ 8192 → HasNoRequest buf → IfSome known NoHead
none-by-end None after buf c e fits h = tt
none-by-end (Some all) None buf c e fits h = absurd c
none-by-end (Some all) (Some left) buf c e fits h =
    none-if-same all buf (first-bytes all buf left c fits
    ∙ rw e (ap (λ (t : List ℕ). buf ++ t) (take-nil (8192 - length buf)) ∙ append-nil buf)) h

-- no more room
pub none-by-room : (known after : Option (List ℕ)) (buf : List ℕ) → Consumes known after buf → length buf ≡ 8192 → HasNoRequest buf → IfSome known NoHead
none-by-room None after buf c full h = tt
none-by-room (Some all) None buf c full h = absurd c
none-by-room (Some all) (Some left) buf c full h =
    let nothing : 8192 - length buf ≡ 0 = omega arith in
    none-if-same all buf (first-bytes all buf left c (omega arith) ∙ rw nothing (append-nil buf)) h

nil-of : (xs : List ℕ) → length xs ≡ 0 → xs ≡ []
nil-of [] e = refl
nil-of (x ∷ xs) e = absurd (omega (arith, e))

-- a read that gave nothing
pub nothing-more : (known mid after : Option (List ℕ)) (buf new : List ℕ) (n : ℕ) → Consumes known mid buf
    → length buf < 8192 → ReadsMore mid after buf new 8192 n → n ≡ 0
    → HasNoRequest buf → IfSome known NoHead
nothing-more known mid after buf new n c room more zero h =
    let empty : more.moved ≡ [] = nil-of more.moved (more.count ∙ zero) in
    let whole = rw (empty, append-nil buf) at (consumes-more known mid after buf more.moved c more.consumes) in
    none-by-end known after buf whole (more.ends zero room) (omega arith) h

-- a read that gave some bytes
pub read-further : (known mid after : Option (List ℕ)) (buf new : List ℕ) (n : ℕ) → Consumes known mid buf
    → ReadsMore mid after buf new 8192 n → Consumes known after new
read-further known mid after buf new n c more = rw more.buffer (consumes-more known mid after buf more.moved c more.consumes)

pub more-there : (mid after : Option (List ℕ)) (buf new : List ℕ) (turn n : ℕ) → turn ≤ length buf
    → ReadsMore mid after buf new 8192 n → ¬ (n ≡ 0) → turn + 1 ≤ length new
more-there mid after buf new turn n low more some = omega (arith, low, more.count, some, ap length more.buffer, length-append buf more.moved)

-- one read more
pub looked : {S : Type 0} (left : S → Option (List ℕ)) (gives : S → List ℕ → S → Type 0) (first mid last : S)
    (buf new bytes : List ℕ) (most : ℕ) (result : Result ℕ SourceFault)
    → Reads left gives MayLook first [] mid buf → IsUnfinished buf → length buf + most ≤ 8192 → most ≤ 1024
    → (once : ReadsOnce left gives most mid last buf new result) → bytes ≡ buf ++ once.given → Reads left gives MayLook first [] last bytes
looked left gives first mid last buf new bytes most result reads unfinished room block once is =
    let few = once.few in
    let may : MayLook buf (length once.given) = record { unfinished = unfinished; block = omega (arith, few, block); within = omega (arith, few, room) } in
    one-read-more left gives MayLook first mid last [] buf once.given bytes reads may once.is is
