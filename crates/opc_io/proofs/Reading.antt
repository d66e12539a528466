-- What was taken, one read after another.
use Rattle.std.proofs.Common.{
  ◌≡◌,
  ◌∙◌,
  ◌≤◌,
  ◌-◌,
  ◌+◌,
  ◌++◌,
  [],
  ℕ,
  zero,
  suc,
  List,
  sym,
  refl,
  ap,
  subst,
  arith,
  length,
  length-append,
  append_assoc,
  Some,
  None,
}
use Rattle.std.specs.Prelude.{Option}
use Rattle.std.specs.Io.KnownBytes.{Consumes, Keeps}
use Rattle.std.proofs.lemmas.List.{append-nil}
use Rattle.opc_io.specs.Reads.{AreReads, Gives, Reads, TakesAtMost}

-- two reads, one after the other
pub consumes-more : (before mid after : Option (List ℕ)) (xs ys : List ℕ) → Consumes before mid xs → Consumes mid after ys → Consumes before after (xs ++ ys)
consumes-more None mid after xs ys a b = tt
consumes-more (Some all) None after xs ys a b = absurd a
consumes-more (Some all) (Some m) None xs ys a b = absurd b
consumes-more (Some all) (Some m) (Some left) xs ys a b = a ∙ ap (λ (t : List ℕ). xs ++ t) b ∙ sym (append_assoc xs ys left)

-- nothing was read yet
pub consumes-none : (known : Option (List ℕ)) → Consumes known known []
consumes-none None = tt
consumes-none (Some all) = refl

-- nothing was read
pub consumes-kept : (before after : Option (List ℕ)) → Keeps before after → Consumes before after []
consumes-kept None after h = tt
consumes-kept (Some all) None h = absurd h
consumes-kept (Some all) (Some left) h = sym h

pub takes-none : (most : ℕ) (before after : Option (List ℕ)) → Keeps before after → TakesAtMost most before after
takes-none most before after h = record { taken = []; consumes = consumes-kept before after h; few = omega arith }

pub takes-same : (most : ℕ) (known : Option (List ℕ)) → TakesAtMost most known known
takes-same most known = record { taken = []; consumes = consumes-none known; few = omega arith }

-- a read, and then another
pub takes-more : (first more : ℕ) (before mid after : Option (List ℕ)) → TakesAtMost first before mid
    → TakesAtMost more mid after → TakesAtMost (first + more) before after
takes-more first more before mid after a b = record {
  taken = a.taken ++ b.taken;
  consumes = consumes-more before mid after a.taken b.taken a.consumes b.consumes;
  few = let one = a.few in let two = b.few in omega (arith, one, two, length-append a.taken b.taken);
}

-- some bytes, and then a read of no more than is left of a limit
pub takes-after : (most len : ℕ) (before mid after : Option (List ℕ)) (bytes : List ℕ) → Consumes before mid bytes
    → length bytes ≤ most → length bytes ≡ len → TakesAtMost (most - len) mid after → TakesAtMost most before after
takes-after most len before mid after bytes first fits same more = record {
  taken = bytes ++ more.taken;
  consumes = consumes-more before mid after bytes more.taken first more.consumes;
  few = let two = more.few in omega (arith, two, fits, same, length-append bytes more.taken);
}

-- reads, one after another
module _ {S : Type 0} (left : S → Option (List ℕ)) (gives : S → List ℕ → S → Type 0) where
  -- what is there after some reads begins with what was there before them, and the rest is what they took
  pub record Begins (first last : S) (start bytes : List ℕ) : Type 0 where
    pub moved : List ℕ
    pub is : bytes ≡ start ++ moved
    pub consumes : Consumes (left first) (left last) moved

  pub begins : (may : List ℕ → ℕ → Type 0) (first : S) (start : List ℕ) (n : ℕ) (last : S) (bytes : List ℕ)
      → AreReads left gives may first start n last bytes → Begins first last start bytes
  begins may first start zero last bytes are = record {
    moved = [];
    is = are.1 ∙ sym (append-nil start);
    consumes = subst (λ (s : S). Consumes (left first) (left s) []) (sym are.0) (consumes-none (left first));
  }
  begins may first start (suc n) last bytes (mid, before, given, are, may_be, gave, is) =
      let was = begins may first start n mid before are in record {
        moved = was.moved ++ given;
        is = is ∙ ap (λ (t : List ℕ). t ++ given) was.is ∙ append_assoc start was.moved given;
        consumes = consumes-more (left first) (left mid) (left last) was.moved given was.consumes gave.consumes;
      }

  pub no-reads : (may : List ℕ → ℕ → Type 0) (first : S) (start : List ℕ) → Reads left gives may first start first start
  no-reads may first start = record { count = 0; are = (refl, refl) }

  -- one read more
  pub one-read-more : (may : List ℕ → ℕ → Type 0) (first mid last : S) (start before given bytes : List ℕ)
      → Reads left gives may first start mid before → may before (length given) → Gives left gives mid given last → bytes ≡ before ++ given
      → Reads left gives may first start last bytes
  one-read-more may first mid last start before given bytes reads may_be gave is = record {
    count = suc reads.count;
    are = (mid, before, given, reads.are, may_be, gave, is);
  }

  -- more reads after some, each of which was allowed
  pub more-reads : (may more : List ℕ → ℕ → Type 0) (first mid : S) (start bytes : List ℕ) → Reads left gives may first start mid bytes
      → ((moved : List ℕ) (count : ℕ) → more (bytes ++ moved) count → may (bytes ++ moved) count)
      → (n : ℕ) (last : S) (all : List ℕ) → AreReads left gives more mid bytes n last all → Reads left gives may first start last all
  more-reads may more first mid start bytes reads wider zero last all are =
      subst (λ (s : S). Reads left gives may first start s all) (sym are.0) (subst (λ (t : List ℕ). Reads left gives may first start mid t) (sym are.1) reads)
  more-reads may more first mid start bytes reads wider (suc n) last all (near, before, given, are, may_be, gave, is) =
      let so_far = more-reads may more first mid start bytes reads wider n near before are in
      let was = begins more mid bytes n near before are in
      let widened = subst (λ (t : List ℕ). may t (length given)) (sym was.is)
      (wider was.moved (length given) (subst (λ (t : List ℕ). more t (length given)) was.is may_be)) in
      one-read-more may first near last start before given all so_far widened gave is
