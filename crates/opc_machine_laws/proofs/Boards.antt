-- What holds if the board does something.
use Rattle.std.proofs.Common.{◌≡◌, Bool, true, false, if◌then◌else◌, List, [], ◌∷◌, Option, Some, None, Ok, Err, refl}
use Rattle.std.specs.List.{AllByRecursion}
use Rattle.opc_board.specs.declared.board.BoardRows.{BoardRows}
use Rattle.opc_board.specs.declared.fault.BoardFault.{BoardFault}
use Rattle.opc_board.specs.Outcome.{BoardOutcome, ◌>>=◌, faults_or, found}

-- if something is done, the board is of this kind afterwards
abbrev pub IfActs : (BoardRows → Type 0) → BoardOutcome → Type 0
IfActs P (Ok act) = P act.board
IfActs P (Err f) = Unit {0}

-- a fault that does not apply
abbrev pub IsAbsent : Bool × BoardFault → Type 0
IsAbsent fault = fault.0 ≡ false

module _ (P : BoardRows → Type 0) where
  pub found_acts : {A : Type 0} (f : BoardFault) (o : Option A) (next : A → BoardOutcome)
      → ((x : A) → o ≡ Some x → IfActs P (next x)) → IfActs P (found f o >>= next)
  found_acts f (Some x) next h = h x refl
  found_acts f None next h = tt

  pub faults_act : (faults : List (Bool × BoardFault)) (o : BoardOutcome) → (AllByRecursion IsAbsent faults → IfActs P o) → IfActs P (faults_or faults o)
  faults_act [] o h = h tt
  faults_act (fault ∷ faults) o h = go fault.0 refl (λ absent. faults_act faults o (λ rest. h (absent, rest)))
    where
      go : (there : Bool) → fault.0 ≡ there → (fault.0 ≡ false → IfActs P (faults_or faults o)) → IfActs P (if there then Err fault.1 else faults_or faults o)
      go true is later = tt
      go false is later = later is
