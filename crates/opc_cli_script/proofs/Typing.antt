-- A line that is read byte by byte.
use Rattle.std.proofs.Common.{
  ◌≡◌,
  ◌≤◌,
  ◌<◌,
  ◌+◌,
  ◌∙◌,
  ◌++◌,
  ◌∷◌,
  ◌==◌,
  ◌&&◌,
  inl,
  inr,
  ℕ,
  zero,
  suc,
  Bool,
  true,
  false,
  List,
  [],
  Option,
  Some,
  None,
  ap,
  length,
  length-take,
  nat_le,
  not,
  refl,
  sym,
  subst,
  slice_index,
  take,
  arith,
  rules,
}
use Rattle.std.specs.Io.KnownBytes.{Consumes, IsAtEnd, Keeps}
use Rattle.std.proofs.lemmas.Bool.Decides.{nat_tests}
use Rattle.std.proofs.lemmas.List.{append-nil, append_assoc, length-append, take_all, take-append-le}
use Rattle.opc_cli_script.specs.Scripts.{script_limit}
use Rattle.opc_cli_script.specs.ReadingNow.{IsAtEndTyped, IsBeforeFeed, IsKept, IsTyped, is_plain}
use Rattle.opc_cli_script.specs.declared.reading_now.Typed.{Typed}
use Rattle.opc_cli_script.specs.declared.reading_now.Typed.TheVariants.{Line, NotUtf8, LongLine, End}

-- The bytes of a line so far. They are kept while they may be a line, and one more.
pub record AreRead (before after : Option (List ℕ)) (kept : List ℕ) : Type 0 where
  pub bytes : List ℕ
  pub plain : is_plain bytes ≡ true
  pub read : Consumes before after bytes
  pub are : kept ≡ take (script_limit + 1) bytes

pub consumes_none : (a : Option (List ℕ)) → Consumes a a []
consumes_none None = tt
consumes_none (Some xs) = refl

pub consumes_more : (a b c : Option (List ℕ)) (bytes more : List ℕ) → Consumes a b bytes → Consumes b c more
    → Consumes a c (bytes ++ more)
consumes_more None b c bytes more one two = tt
consumes_more (Some xs) None c bytes more one two = absurd one
consumes_more (Some xs) (Some ys) None bytes more one two = absurd two
consumes_more (Some xs) (Some ys) (Some zs) bytes more one two = one ∙ ap (λ (t : List ℕ). bytes ++ t) two ∙ sym (append_assoc bytes more zs)

pub consumes_kept : (a b c : Option (List ℕ)) (bytes : List ℕ) → Consumes a b bytes → Keeps b c → Consumes a c bytes
consumes_kept None b c bytes one two = tt
consumes_kept (Some xs) None c bytes one two = absurd one
consumes_kept (Some xs) (Some ys) None bytes one two = absurd two
consumes_kept (Some xs) (Some ys) (Some zs) bytes one two = one ∙ ap (λ (t : List ℕ). bytes ++ t) (sym two)

pub plain_more : (bytes : List ℕ) (c : ℕ) → is_plain bytes ≡ true → (c == 10) ≡ false → is_plain (bytes ++ c ∷ []) ≡ true
plain_more [] c plain other = rw other refl
plain_more (d ∷ bytes) c plain other = go (d == 10) refl plain (λ h. plain_more bytes c h other)
  where
    go : (b : Bool) → (d == 10) ≡ b → (not b && is_plain bytes) ≡ true
        → (is_plain bytes ≡ true → is_plain (bytes ++ c ∷ []) ≡ true) → is_plain ((d ∷ bytes) ++ c ∷ []) ≡ true
    go true e h more = absurd (search (rules, h))
    go false e h more = rw e (more h)

take_nothing : (n : ℕ) → take n (let none : List ℕ = [] in none) ≡ []
take_nothing zero = refl
take_nothing (suc n) = refl

-- the byte that a read of one byte gave
pub one_byte : (buf : List ℕ) (n : ℕ) → length buf ≡ 1 → 0 < n → take n buf ≡ slice_index buf 0 ∷ []
one_byte [] n one some = absurd (omega (arith, one))
one_byte (c ∷ []) zero one some = absurd (omega (arith, some))
one_byte (c ∷ []) (suc n) one some = ap (λ t. c ∷ t) (take_nothing n)
one_byte (c ∷ (d ∷ rest)) n one some = absurd (omega (arith, one))

-- nothing is read yet
pub begins : (a : Option (List ℕ)) → AreRead a a []
begins a = record { bytes = []; plain = refl; read = consumes_none a; are = sym (take_nothing (script_limit + 1)) }

-- the bytes that are kept are all of them, if they are few
few : (bytes kept : List ℕ) → kept ≡ take (script_limit + 1) bytes → length kept ≤ script_limit → kept ≡ bytes
few bytes kept are short =
    let low : length bytes ≤ script_limit + 1 = omega (arith, short, ap length are, length-take (script_limit + 1) bytes) in
    are ∙ take_all (script_limit + 1) bytes low

many : (bytes kept : List ℕ) → kept ≡ take (script_limit + 1) bytes → script_limit < length kept → script_limit < length bytes
many bytes kept are long = omega (arith, long, ap length are, length-take (script_limit + 1) bytes)

module _ (a b c : Option (List ℕ)) (kept : List ℕ) (so_far : AreRead a b kept) where
  -- a read failed, and gave nothing
  pub stays : Keeps b c → AreRead a c kept
  stays keeps = record { bytes = so_far.bytes; plain = so_far.plain; read = consumes_kept a b c so_far.bytes so_far.read keeps; are = so_far.are }

  -- one byte more, which is kept,
  keeps_more : (x : ℕ) → Consumes b c (x ∷ []) → (x == 10) ≡ false → length kept ≤ script_limit → AreRead a c (kept ++ x ∷ [])
  keeps_more x more other short =
      let same = few so_far.bytes kept so_far.are short in
      let low : length (so_far.bytes ++ x ∷ []) ≤ script_limit + 1 =
      omega (arith, short, ap length same, length-append so_far.bytes (x ∷ [])) in
      record {
        bytes = so_far.bytes ++ x ∷ [];
        plain = plain_more so_far.bytes x so_far.plain other;
        read = consumes_more a b c so_far.bytes (x ∷ []) so_far.read more;
        are = ap (λ t. t ++ x ∷ []) same ∙ sym (take_all (script_limit + 1) (so_far.bytes ++ x ∷ []) low);
      }

  -- or is too many
  leaves_more : (x : ℕ) → Consumes b c (x ∷ []) → (x == 10) ≡ false → script_limit < length kept → AreRead a c kept
  leaves_more x more other long =
      let full = many so_far.bytes kept so_far.are long in
      record {
        bytes = so_far.bytes ++ x ∷ [];
        plain = plain_more so_far.bytes x so_far.plain other;
        read = consumes_more a b c so_far.bytes (x ∷ []) so_far.read more;
        are = so_far.are ∙ sym (take-append-le (script_limit + 1) so_far.bytes (x ∷ []) (omega (arith, full)));
      }

  pub goes_on : (x : ℕ) (new : List ℕ) → Consumes b c (x ∷ []) → (x == 10) ≡ false → IsKept kept x new → AreRead a c new
  goes_on x new more other keep = go (nat_le (length kept) script_limit) refl
    where
      go : (fits : Bool) → nat_le (length kept) script_limit ≡ fits → AreRead a c new
      go true e =
          let short : length kept ≤ script_limit = grind (arith, nat_tests, e) in
          subst (AreRead a c) (sym (keep.0 short)) (keeps_more x more other short)
      go false e =
          let long : script_limit < length kept = grind (arith, nat_tests, e) in
          subst (AreRead a c) (sym (keep.1 long)) (leaves_more x more other long)

  feed_is : (typed : Typed) → IsBeforeFeed kept typed → IsBeforeFeed so_far.bytes typed
  feed_is (Line text) is = subst (λ t. IsBeforeFeed t (Line text)) (few so_far.bytes kept so_far.are is.0) is
  feed_is NotUtf8 is = subst (λ t. IsBeforeFeed t NotUtf8) (few so_far.bytes kept so_far.are is.0) is
  feed_is LongLine is = many so_far.bytes kept so_far.are is
  feed_is End is = absurd is.1

  end_is : (typed : Typed) → IsAtEndTyped kept typed → IsAtEndTyped so_far.bytes typed
  end_is (Line text) is = subst (λ t. IsAtEndTyped t (Line text)) (few so_far.bytes kept so_far.are is.1.0) is
  end_is NotUtf8 is = subst (λ t. IsAtEndTyped t NotUtf8) (few so_far.bytes kept so_far.are is.1.0) is
  end_is LongLine is = let long = many so_far.bytes kept so_far.are is.1 in (omega (arith, long), long)
  end_is End is = subst (λ t. IsAtEndTyped t End) (few so_far.bytes kept so_far.are (omega (arith, ap length is))) is

  -- A line feed follows,
  pub ends_by_feed : (typed : Typed) → Consumes b c (10 ∷ []) → IsBeforeFeed kept typed → IsTyped a c typed
  ends_by_feed typed feed is = record {
    bytes = so_far.bytes;
    plain = so_far.plain;
    is = inl (consumes_more a b c so_far.bytes (10 ∷ []) so_far.read feed, feed_is typed is);
  }

  -- or the input ends.
  pub ends_with_input : (typed : Typed) → Consumes b c [] → IsAtEnd c → IsAtEndTyped kept typed → IsTyped a c typed
  ends_with_input typed none end is = record {
    bytes = so_far.bytes;
    plain = so_far.plain;
    is = inr (subst (Consumes a c) (append-nil so_far.bytes) (consumes_more a b c so_far.bytes [] so_far.read none), end, end_is typed is);
  }
