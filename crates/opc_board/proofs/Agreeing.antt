-- The result for a footprint, and the result for the whole board.
use Rattle.std.proofs.Common.{◌≡◌, ℕ, Bool, true, false, not, cond, ◌==◌, if◌then◌else◌, List, [], ◌∷◌, Option, Some, None, Err, refl, ap, sym, ◌∙◌, arith}
use Rattle.std.specs.List.{find}
use Rattle.std.proofs.lemmas.Bool.Decides.{nat_tests}
use Rattle.opc_board.specs.declared.board.BoardRows.{BoardRows}
use Rattle.opc_board.specs.declared.fault.BoardFault.{BoardFault}
use Rattle.opc_board.specs.declared.line.Line.{Line}
use Rattle.opc_board.specs.Invariants.{Name, console_at, device_at, is, reply_at, unit_at}
use Rattle.opc_board.specs.Outcome.{BoardOutcome, ◌>>=◌, done_with, faults_or, found}
use Rattle.opc_board.specs.Footprint.{AreLeft, IsInOrder, LeavesRest, Footprint, only, outcome_only, has_console_of, has_device_of, has_reply_of, has_unit_of}
use Rattle.opc_board.proofs.Names.{is_same_name}
use Rattle.opc_rows.proofs.Filtered.{find_seen}

-- names and numbers

pub named : (s : Name → Bool) (name other : Name) → s name ≡ true → is other name ≡ true → s other ≡ true
named s name other sees here = ap s (is_same_name other name here) ∙ sees

pub unnamed : (s : Name → Bool) (name other : Name) → s name ≡ true → is other name ≡ true → not (s other) ≡ false
unnamed s name other sees here = ap not (named s name other sees here)

-- what is found at a name has it
pub found_named : {R : Type 0} (key : R → Name) (name : Name) (row : R) (rows : List R) → find (λ r. is (key r) name) rows ≡ Some row → is (key row) name ≡ true
found_named key name row [] at = absurd (cc)
found_named key name row (r ∷ rows) at = go (is (key r) name) refl at (found_named key name row rows)
  where
    go : (a : Bool) → is (key r) name ≡ a → cond a (Some r) (find (λ r. is (key r) name) rows) ≡ Some row
        → (find (λ r. is (key r) name) rows ≡ Some row → is (key row) name ≡ true) → is (key row) name ≡ true
    go true here at more = let same : r ≡ row = cc in ap (λ q. is (key q) name) (sym same) ∙ here
    go false here at more = more at

pub same_number : (m n : ℕ) → (m == n) ≡ true → m ≡ n
same_number m n e = grind (arith, nat_tests, e)

pub is_not : (a : Bool) → not a ≡ false → a ≡ true
is_not true e = refl
is_not false e = absurd (cc)

module _ (footprint : Footprint) where
  -- the result for the part, and the result for the whole
  abbrev pub Agrees : BoardRows → BoardOutcome → BoardOutcome → Type 0
  Agrees b part whole = (part ≡ outcome_only footprint whole) × LeavesRest footprint b whole

  pub left_alone : (b : BoardRows) → AreLeft footprint b b
  left_alone b = record { units = refl; devices = refl; consoles = refl; replies = refl }

  pub found_then : {A : Type 0} (b : BoardRows) (f : BoardFault) (part whole : Option A) → part ≡ whole
      → (run more : A → BoardOutcome) → ((x : A) → whole ≡ Some x → Agrees b (run x) (more x))
      → Agrees b (found f part >>= run) (found f whole >>= more)
  found_then b f part (Some x) same run more h = rw same (h x refl)
  found_then b f part None same run more h = (ap (λ o. found f o >>= run) same, tt)

  pub faults_then : (b : BoardRows) (faults : List (Bool × BoardFault)) (part whole : BoardOutcome) → Agrees b part whole
      → Agrees b (faults_or faults part) (faults_or faults whole)
  faults_then b [] part whole h = h
  faults_then b ((there, fault) ∷ faults) part whole h = go there (faults_then b faults part whole h)
    where
      go : (there : Bool) → Agrees b (faults_or faults part) (faults_or faults whole)
          → Agrees b (if there then Err fault else faults_or faults part)
          (if there then Err fault else faults_or faults whole)
      go true more = (refl, tt)
      go false more = more

  -- the same, if the faults are looked for on the board
  pub faults_same : (b : BoardRows) (few faults : List (Bool × BoardFault)) (part whole : BoardOutcome) → few ≡ faults
      → Agrees b part whole → Agrees b (faults_or few part) (faults_or faults whole)
  faults_same b few faults part whole same h = rw same (faults_then b faults part whole h)

  pub done_then : (b part whole : BoardRows) (lines : List Line) → part ≡ only footprint whole → IsInOrder whole
      → AreLeft footprint b whole → Agrees b (done_with part lines) (done_with whole lines)
  done_then b part whole lines same order left = (ap (λ c. done_with c lines) same, (order, left))

  -- look-ups at names of the footprint

  pub unit_seen : (b : BoardRows) (name : Name) → footprint.units name ≡ true → unit_at (only footprint b) name ≡ unit_at b name
  unit_seen b name sees = find_seen (λ u. is u.name name) (has_unit_of footprint) (λ u here. named footprint.units name u.name sees here) b.units

  pub device_seen : (b : BoardRows) (number : Name) → footprint.devices number ≡ true → device_at (only footprint b) number ≡ device_at b number
  device_seen b number sees = find_seen (λ d. is d.number number) (has_device_of footprint)
      (λ d here. named footprint.devices number d.number sees here) b.devices

  pub console_seen : (b : BoardRows) (name : Name) → footprint.consoles name ≡ true → console_at (only footprint b) name ≡ console_at b name
  console_seen b name sees = find_seen (λ c. is c.name name) (has_console_of footprint) (λ c here. named footprint.consoles name c.name sees here) b.consoles

  pub reply_seen : (b : BoardRows) (id : ℕ) → footprint.replies id ≡ true → reply_at (only footprint b) id ≡ reply_at b id
  reply_seen b id sees = find_seen (λ r. r.id == id) (has_reply_of footprint) (λ r here. ap footprint.replies (same_number r.id id here) ∙ sees) b.replies
