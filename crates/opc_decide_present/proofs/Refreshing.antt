-- What is kept of a policy file, found again or read anew.
use Rattle.std.proofs.Common.{◌≡◌, ◌∙◌, ℕ, List, Option, Some, None, Result, Ok, Err, inl, inr, refl, subst, sym}
use Rattle.std.specs.Prelude.{IfOk, IfSome, IsSomeAnd, MatchOption}
use Rattle.std.specs.declared.io.Error.{Error}
use Rattle.opc_decide_present.specs.Present.{IsKept, IsNewlyKept, IsRead, IsRefreshed, IsThere, IsUnread}
use Rattle.opc_decide_present.specs.declared.files.FoundFile.{FoundFile}
use Rattle.opc_decide_present.specs.declared.files.ReadFile.{ReadFile}
use Rattle.opc_decide_present.specs.declared.identity.FileIdentity.{FileIdentity}
use Rattle.opc_decide_present.specs.declared.reading.KeptPolicy.{KeptPolicy}

module _ {S F : Type 0} (finds : S → Result (FoundFile F) Error → S → Type 0)
    (reads : S → F → Result ReadFile Error → S → Type 0) (place mid : S) (found : FoundFile F) where
  there : (identity : FileIdentity) → finds place (Ok found) mid → identity ≡ found.identity → IsThere finds reads place identity
  there identity is same = record {
    file = found.file;
    next = mid;
    found = subst (λ i. finds place (Ok (record { file = found.file; identity = i })) mid) (sym same) is;
  }

  -- it could not be read, or was written to meanwhile
  pub cut_off : (got : Result ReadFile Error) (last : S) → finds place (Ok found) mid → reads mid found.file got last
      → IfOk got (λ got. ¬ (got.identity ≡ found.identity)) → IsUnread finds reads place
  cut_off got last is read other = inr (record {
    file = found.file;
    identity = found.identity;
    mid = mid;
    found = is;
    got = got;
    last = last;
    read = read;
    other = other;
  })

  -- it was read
  pub read_whole : (got : ReadFile) (last : S) → finds place (Ok found) mid → reads mid found.file (Ok got) last
      → got.identity ≡ found.identity → IsRead finds reads found.identity got.bytes.items
  read_whole got last is read same = record {
    place = place;
    file = found.file;
    mid = mid;
    found = is;
    got = got;
    last = last;
    read = read;
    items = refl;
    same = same;
  }

  -- it is the file of which something is kept
  pub still_there : {P : Type 0} (kept : Option (KeptPolicy F P)) → finds place (Ok found) mid
      → IsSomeAnd kept (λ kept. kept.identity ≡ found.identity) → IsRefreshed finds reads place kept kept
  still_there None is same = absurd same
  still_there (Some kept) is same = (there kept.identity is same, λ _. refl)

  another : {P : Type 0} (old : Option (KeptPolicy F P)) (identity : FileIdentity) → identity ≡ found.identity
      → IsSomeAnd old (λ was. was.identity ≡ identity) → IsSomeAnd old (λ was. was.identity ≡ found.identity)
  another None identity is same = same
  another (Some was) identity is same = same ∙ is

  -- it is another one
  pub read_anew : {D P : Type 0} (refuses : D → (file : List ℕ) → Type 0) (loads : D → (file : List ℕ) → P → Type 0)
      (decider : D) (old new : Option (KeptPolicy F P)) → finds place (Ok found) mid
      → (IsSomeAnd old (λ was. was.identity ≡ found.identity) → ⊥)
      → MatchOption new (IsUnread finds reads place) (λ kept. IsNewlyKept finds reads refuses loads decider found.identity kept)
      → IsRefreshed finds reads place old new
  read_anew refuses loads decider old None is other unread = unread
  read_anew refuses loads decider old (Some kept) is other (made, same) =
      (there kept.identity is same, λ known. absurd (other (another old kept.identity same known)))

-- no file could be opened
pub not_found : {S F : Type 0} (finds : S → Result (FoundFile F) Error → S → Type 0) (reads : S → F → Result ReadFile Error → S → Type 0)
    (place next : S) (got : Result (FoundFile F) Error) (error : Error) → finds place got next → got ≡ Err error → IsUnread finds reads place
not_found finds reads place next got error is same = inl (error, next, rw same at is)

-- what is newly kept is kept
pub newly_kept : {S F D P : Type 0} (finds : S → Result (FoundFile F) Error → S → Type 0)
    (reads : S → F → Result ReadFile Error → S → Type 0)
    (refuses : D → (file : List ℕ) → Type 0) (loads : D → (file : List ℕ) → P → Type 0) (place : S) (decider : D)
    (identity : FileIdentity) (kept : Option (KeptPolicy F P))
    → MatchOption kept (IsUnread finds reads place) (λ kept. IsNewlyKept finds reads refuses loads decider identity kept)
    → IfSome kept (IsKept finds reads refuses loads decider)
newly_kept finds reads refuses loads place decider identity None unread = tt
newly_kept finds reads refuses loads place decider identity (Some kept) made = made.0
