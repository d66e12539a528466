-- What is decided by what is kept of the policy file.
use Rattle.std.proofs.Common.{◌≡◌, ℕ, List, Some, None, Result, inl, inr}
use Rattle.std.specs.declared.io.Error.{Error}
use Rattle.opc_decide_present.specs.Present.{IsDecided, IsKept, IsThere, IsUnread, no_policy}
use Rattle.opc_decide_present.specs.declared.decider.DecidedAnswer.{DecidedAnswer}
use Rattle.opc_decide_present.specs.declared.files.FoundFile.{FoundFile}
use Rattle.opc_decide_present.specs.declared.files.ReadFile.{ReadFile}
use Rattle.opc_decide_present.specs.declared.kind.QuestionKind.{QuestionKind}
use Rattle.opc_decide_present.specs.declared.reading.KeptPolicy.{KeptPolicy}

module _ {S F D P : Type 0} (finds : S → Result (FoundFile F) Error → S → Type 0) (reads : S → F → Result ReadFile Error → S → Type 0)
    (refuses : D → (file : List ℕ) → Type 0) (loads : D → (file : List ℕ) → P → Type 0)
    (answers : D → (file : List ℕ) → QuestionKind → (body : List ℕ) → DecidedAnswer → Type 0) (place : S) (decider : D) (kind : QuestionKind)
    (body : List ℕ) (decision : DecidedAnswer) where
  pub by_none : IsUnread finds reads place → decision ≡ no_policy → IsDecided finds reads refuses answers place decider kind body decision
  by_none unread is = inl (unread, is)

  module _ (kept : KeptPolicy F P) (there : IsThere finds reads place kept.identity) (read : IsKept finds reads refuses loads decider kept) where
    pub by_no_policy : kept.policy ≡ None → decision ≡ no_policy → IsDecided finds reads refuses answers place decider kind body decision
    by_no_policy none is = inr (record {
      identity = kept.identity;
      there = there;
      bytes = read.bytes;
      read = read.read;
      decided = inl (rw none at read.made, is);
    })

    pub by_policy : (policy : P) → kept.policy ≡ Some policy
        → ((file : List ℕ) → loads decider file policy → answers decider file kind body decision)
        → IsDecided finds reads refuses answers place decider kind body decision
    by_policy policy some answered = inr (record {
      identity = kept.identity;
      there = there;
      bytes = read.bytes;
      read = read.read;
      decided = inr (answered read.bytes (rw some at read.made));
    })
