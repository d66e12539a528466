-- A body, read after what is already in the buffer.
use Rattle.std.proofs.Common.{
  ◌≡◌,
  ◌∙◌,
  ◌≤◌,
  ◌<◌,
  ◌+◌,
  ◌-◌,
  ◌++◌,
  [],
  ℕ,
  List,
  ◌∷◌,
  true,
  false,
  nat_le,
  refl,
  sym,
  ap,
  subst,
  arith,
  length,
  drop,
  length-append,
  append_assoc,
  Some,
  None,
  Ok,
  Err,
}
use Rattle.std.specs.Prelude.{IfSome, Option, Result, slice_range}
use Rattle.std.specs.Io.KnownBytes.{Consumes}
use Rattle.std.proofs.lemmas.Bool.Decides.{nat_tests}
use Rattle.std.proofs.lemmas.List.{append-nil, drop-append-le, length-drop, take-append-le}
use Rattle.opc_io.specs.Reads.{Reads, ReadsMore, ReadsOnce, TakesAtMost}
use Rattle.opc_io.specs.declared.source.SourceFault.{SourceFault}
use Rattle.opc_io.proofs.Reading.{consumes-more, consumes-none, one-read-more, takes-after}
use Rattle.opc_http_requests.specs.declared.refusal.HttpRefusal.TheVariants.{BadRequest}
use Rattle.opc_http_requests.specs.declared.refusal.InvalidPart.TheVariants.{CutShort}
use Rattle.opc_http_requests.specs.Bodies.{MayFill, ReadsTo}
use Rattle.opc_http_requests.specs.Requests.{body_in}

-- what was read so far, of a body that ends at a place in the buffer
pub record SoFar (end : ℕ) (before after : Option (List ℕ)) (old new : List ℕ) : Type 0 where
  pub moved : List ℕ
  pub consumes : Consumes before after moved
  pub buffer : new ≡ old ++ moved
  pub few : length moved ≤ end - length old

pub nothing-read : (end : ℕ) (known : Option (List ℕ)) (old : List ℕ) → SoFar end known known old old
nothing-read end known old = record { moved = []; consumes = consumes-none known; buffer = sym (append-nil old); few = omega arith }

pub more-read : (end : ℕ) (before mid after : Option (List ℕ)) (old buf new : List ℕ) (n : ℕ)
    → SoFar end before mid old buf → ReadsMore mid after buf new end n → SoFar end before after old new
more-read end before mid after old buf new n so more =
    let whole : new ≡ old ++ (so.moved ++ more.moved) = more.buffer ∙ ap (λ (t : List ℕ). t ++ more.moved) so.buffer ∙ append_assoc old so.moved more.moved in
    let long : length new ≡ length old + length (so.moved ++ more.moved) = ap length whole ∙ length-append old (so.moved ++ more.moved) in
    let fits : length new ≤ end = more.fits in
    record {
      moved = so.moved ++ more.moved;
      consumes = consumes-more before mid after so.moved more.moved so.consumes more.consumes;
      buffer = whole;
      few = omega (arith, long, fits);
    }

pub whole-read : (end : ℕ) (before after : Option (List ℕ)) (old new : List ℕ) → SoFar end before after old new
    → end ≤ length new → ReadsTo end true before after old new
whole-read end before after old new so long = record { moved = so.moved; consumes = so.consumes; buffer = so.buffer; is = long }

nil-of : (xs : List ℕ) → length xs ≡ 0 → xs ≡ []
nil-of [] e = refl
nil-of (x ∷ xs) e = absurd (omega (arith, e))

pub part-read : (end : ℕ) (before mid after : Option (List ℕ)) (old buf new : List ℕ) (n : ℕ)
    → SoFar end before mid old buf → ReadsMore mid after buf new end n → n ≡ 0 → length buf < end
    → ReadsTo end false before after old new
part-read end before mid after old buf new n so more zero short =
    let now = more-read end before mid after old buf new n so more in
    let same : new ≡ buf = more.buffer ∙ ap (λ (t : List ℕ). buf ++ t) (nil-of more.moved (more.count ∙ zero)) ∙ append-nil buf in
    record {
      moved = now.moved;
      consumes = now.consumes;
      buffer = now.buffer;
      is = (subst (λ (t : List ℕ). length t < end) (sym same) short, more.ends zero short);
    }

pub takes-read : (end : ℕ) (before after : Option (List ℕ)) (old new : List ℕ) → SoFar end before after old new → TakesAtMost (end - length old) before after
takes-read end before after old new so = record { taken = so.moved; consumes = so.consumes; few = so.few }

-- a read that failed
pub takes-failed : (end first filled : ℕ) (before mid after : Option (List ℕ)) (old buf : List ℕ) → length old ≡ first
    → length buf ≡ filled → SoFar end before mid old buf
    → TakesAtMost (end - filled) mid after → TakesAtMost (end - first) before after
takes-failed end first filled before mid after old buf was is so more =
    let long : length buf ≡ length old + length so.moved = ap length so.buffer ∙ length-append old so.moved in
    let left : end - filled ≡ (end - first) - length so.moved = omega (arith, long, was, is) in
    let few : length so.moved ≤ end - first = let h = so.few in omega (arith, h, was) in
    takes-after (end - first) (length so.moved) before mid after so.moved so.consumes few refl (rw left at more)

-- one read more
pub filled : {S : Type 0} (left : S → Option (List ℕ)) (gives : S → List ℕ → S → Type 0) (end : ℕ) (first mid last : S)
    (start buf new bytes : List ℕ) (most : ℕ) (result : Result ℕ SourceFault)
    → Reads left gives (MayFill end) first start mid buf → length buf < end → length buf + most ≤ end → most ≤ 1024
    → (once : ReadsOnce left gives most mid last buf new result) → bytes ≡ buf ++ once.given → Reads left gives (MayFill end) first start last bytes
filled left gives end first mid last start buf new bytes most result reads short room block once is =
    let few = once.few in
    let may : MayFill end buf (length once.given) = record { short = short; within = omega (arith, few, room); block = omega (arith, few, block) } in
    one-read-more left gives (MayFill end) first mid last start buf once.given bytes reads may once.is is

-- all the bytes are those that are in the buffer, and what is left
all-bytes : (old moved new left rest : List ℕ) → new ≡ old ++ moved → left ≡ moved ++ rest → old ++ left ≡ new ++ rest
all-bytes old moved new left rest e f = ap (λ (t : List ℕ). old ++ t) f ∙ sym (append_assoc old moved rest) ∙ ap (λ (t : List ℕ). t ++ rest) (sym e)

-- a body that is there
there : (len n : ℕ) (new rest : List ℕ) → len + n ≤ length new → body_in n (drop len (new ++ rest)) ≡ Ok (slice_range new len (len + n))
there len n new rest long =
    let later : drop len (new ++ rest) ≡ drop len new ++ rest = drop-append-le len new rest (omega (arith, long)) in
    let low : n ≤ length (drop len new) = omega (arith, length-drop len new, long) in
    let fits : nat_le n (length (drop len new ++ rest)) ≡ true = grind (arith, nat_tests, length-append (drop len new) rest, low) in
    let count : len + n - len ≡ n = omega arith in
    rw (later, fits, count, take-append-le n (drop len new) rest low) refl

-- a body that is not
missing : (len n : ℕ) (new : List ℕ) → len ≤ length new → length new < len + n → body_in n (drop len new) ≡ Err (BadRequest CutShort)
missing len n new later short =
    let few : length (drop len new) < n = omega (arith, length-drop len new, later, short) in
    let test : nat_le n (length (drop len new)) ≡ false = grind (arith, nat_tests, few) in
    rw test refl

pub body-there : (known after : Option (List ℕ)) (old new : List ℕ) (len n : ℕ) → ReadsTo (len + n) true known after old new
    → IfSome known (λ left. body_in n (drop len (old ++ left)) ≡ Ok (slice_range new len (len + n)))
body-there None after old new len n read = tt
body-there (Some left) None old new len n read = absurd read.consumes
body-there (Some left) (Some rest) old new len n read = rw (all-bytes old read.moved new left rest read.buffer read.consumes) (there len n new rest read.is)

pub body-missing : (known after : Option (List ℕ)) (old new : List ℕ) (len n : ℕ) → len ≤ length old → ReadsTo (len + n) false known after old new
    → IfSome known (λ left. body_in n (drop len (old ++ left)) ≡ Err (BadRequest CutShort))
body-missing None after old new len n low read = tt
body-missing (Some left) None old new len n low read = absurd read.consumes
body-missing (Some left) (Some rest) old new len n low read =
    let short : length new < len + n = read.is.0 in
    let none : rest ≡ [] = read.is.1 in
    let later : len ≤ length new = omega (arith, low, ap length read.buffer, length-append old read.moved) in
    rw (all-bytes old read.moved new left rest read.buffer read.consumes, none, append-nil new) (missing len n new later short)

-- a part of the head is the same, whatever was read after it
pub same-part : (old moved new : List ℕ) (from to : ℕ) → new ≡ old ++ moved → from ≤ to → to ≤ length old → slice_range new from to ≡ slice_range old from to
same-part old moved new from to e order low =
    let later : drop from (old ++ moved) ≡ drop from old ++ moved = drop-append-le from old moved (omega (arith, order, low)) in
    let fits : to - from ≤ length (drop from old) = omega (arith, length-drop from old, low) in
    rw (e, later) (take-append-le (to - from) (drop from old) moved fits)
