-- The policy file that is there now, and what is decided by it.
use Rattle.std.specs.Prelude.{◌≡◌, ◌⊎◌, ℕ, List, codes, Option, Some, None, Result, Ok, Err}
use Rattle.std.specs.Prelude.{IfOk, IsSomeAnd, MatchOption}
use Rattle.std.specs.declared.io.Error.{Error}
use Rattle.opc_decide_present.specs.declared.kind.QuestionKind.{QuestionKind}
use Rattle.opc_decide_present.specs.declared.decider.DecidedAnswer.{DecidedAnswer}
use Rattle.opc_decide_present.specs.declared.files.FoundFile.{FoundFile}
use Rattle.opc_decide_present.specs.declared.files.ReadFile.{ReadFile}
use Rattle.opc_decide_present.specs.declared.identity.FileIdentity.{FileIdentity}
use Rattle.opc_decide_present.specs.declared.reading.KeptPolicy.{KeptPolicy}

-- the decision if no policy is there: 500, and a text of JSON; a log tells only that
abbrev pub no_policy : DecidedAnswer
no_policy = record {
  status = 500;
  body = codes "\"no policy\"";
  told = codes "- - 500 - \"no policy\" - -";
}

-- what a place does: each call leads from one state of it to the next
module _ {S F : Type 0} (finds : S → Result (FoundFile F) Error → S → Type 0)
    (reads : S → F → Result ReadFile Error → S → Type 0) where
  -- A file of this identity was found from a state on.
  pub record IsThere (place : S) (identity : FileIdentity) : Type 0 where
    pub file : F
    pub next : S
    pub found : finds place (Ok (record { file = file; identity = identity })) next

  -- At some time a file of this identity was found, then it was read, it had these bytes, and its identity was the same
  -- after that.
  pub record IsRead (identity : FileIdentity) (bytes : List ℕ) : Type 0 where
    pub place : S
    pub file : F
    pub mid : S
    pub found : finds place (Ok (record { file = file; identity = identity })) mid
    pub got : ReadFile
    pub last : S
    pub read : reads mid file (Ok got) last
    pub items : got.bytes.items ≡ bytes
    pub same : got.identity ≡ identity

  -- A file was found from a state on, and could not be read, or it was written to meanwhile.
  pub record IsCutOff (place : S) : Type 0 where
    pub file : F
    pub identity : FileIdentity
    pub mid : S
    pub found : finds place (Ok (record { file = file; identity = identity })) mid
    pub got : Result ReadFile Error
    pub last : S
    pub read : reads mid file got last
    pub other : IfOk got (λ got. ¬ (got.identity ≡ identity))

  -- From a state on no file could be opened, or none read.
  abbrev pub IsUnread : (place : S) → Type 0
  IsUnread place = ((error : Error) × (next : S) × finds place (Err error) next) ⊎ IsCutOff place

  -- What is kept is that of the file that is there. It is not read anew if it is the one of which something was kept.
  abbrev pub IsRefreshed : {P : Type 0} → (place : S) → (old new : Option (KeptPolicy F P)) → Type 0
  IsRefreshed place old None = IsUnread place
  IsRefreshed place old (Some kept) =
      IsThere place kept.identity × (IsSomeAnd old (λ was. was.identity ≡ kept.identity) → old ≡ Some kept)

  module _ {D : Type 0} (refuses : D → (file : List ℕ) → Type 0) where
    module _ {P : Type 0} (loads : D → (file : List ℕ) → P → Type 0) (decider : D) where
      -- What is kept was made of bytes that were read of a file of its identity.
      pub record IsKept (kept : KeptPolicy F P) : Type 0 where
        pub bytes : List ℕ
        pub read : IsRead kept.identity bytes
        pub made : MatchOption kept.policy (refuses decider bytes) (λ policy. loads decider bytes policy)

      -- The same, of the file that was found.
      abbrev pub IsNewlyKept : FileIdentity → KeptPolicy F P → Type 0
      IsNewlyKept identity kept = IsKept kept × (kept.identity ≡ identity)

    module _ (answers : D → (file : List ℕ) → QuestionKind → (body : List ℕ) → DecidedAnswer → Type 0) (place : S)
        (decider : D) (kind : QuestionKind) (body : List ℕ) (decision : DecidedAnswer) where
      -- The bytes are no policy file; or this is the answer by them.
      abbrev pub IsDecidedBy : (file : List ℕ) → Type 0
      IsDecidedBy file = (refuses decider file × (decision ≡ no_policy)) ⊎ answers decider file kind body decision

      -- It is decided by the bytes that were read of a file of the identity that the file which is there has.
      pub record IsDecidedByFile : Type 0 where
        pub identity : FileIdentity
        pub there : IsThere place identity
        pub bytes : List ℕ
        pub read : IsRead identity bytes
        pub decided : IsDecidedBy bytes

      -- Or there is none that can be read.
      abbrev pub IsDecided : Type 0
      IsDecided = (IsUnread place × (decision ≡ no_policy)) ⊎ IsDecidedByFile
