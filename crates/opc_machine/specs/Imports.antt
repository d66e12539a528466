-- Imports of a written policy in numbered batches.
use Rattle.std.specs.Prelude.{
  ℕ,
  Bool,
  true,
  false,
  not,
  ◌&&◌,
  ◌==◌,
  List,
  [],
  ◌∷◌,
  ◌++◌,
  Option,
  Some,
  None,
  codes,
  find,
  if◌then◌else◌,
}
use Rattle.std.specs.Fmt.{decimal}
use Rattle.std.specs.Str.{bytes_eq}
use Rattle.opc_names.specs.Authority.{same_class}
use Rattle.opc_names.specs.Spellings.{auth_text, level_text}
use Rattle.opc_terms.specs.declared.fault.Fault.TheVariants.{BatchChanged, NotSpecial}
use Rattle.opc_policy_members.specs.declared.row.Row.{Row}
use Rattle.opc_policy_members.specs.declared.row.Row.TheVariants as rows
use Rattle.opc_policy_members.specs.declared.user.User.{User}
use Rattle.opc_terms.specs.Modes.{mode_text}
use Rattle.opc_board.specs.declared.line.Line.{Line}
use Rattle.opc_board.specs.Texts.{plain}
use Rattle.opc_state.specs.declared.change.Batch.{Batch}
use Rattle.opc_state.specs.Difference.{same_flag, same_text}
use Rattle.opc_state.specs.Members.{with_batch}
use Rattle.opc_state.specs.State.{State}
use Rattle.opc_machine.specs.Bootstrap.{with_rows}
use Rattle.opc_machine.specs.Outcome.{StateOutcome, ◌>>=◌, does, or_refused, refuse_if, refused}
use Rattle.opc_machine.specs.Rights.{console_asking, is_special}
use Rattle.opc_machine.specs.Rulings.{acting}

-- which rows are the same
abbrev pub same_user : User → User → Bool
same_user u v =
    bytes_eq u.id v.id && (same_flag u.special v.special
    && (same_flag u.auditor v.auditor
    && (same_flag u.revoked v.revoked && (same_text u.digest v.digest && same_flag u.restricted v.restricted))))

abbrev pub same_row : Row → Row → Bool
same_row (rows.Class class active) (rows.Class class' active') = same_class class class' && same_flag active active'
same_row (rows.Group name) (rows.Group name') = bytes_eq name name'
same_row (rows.User user) (rows.User user') = same_user user user'
same_row (rows.Connect user group) (rows.Connect user' group') = bytes_eq user user' && bytes_eq group group'
same_row (rows.Console name auth mode) (rows.Console name' auth' mode') =
    bytes_eq name name' && (bytes_eq (auth_text auth) (auth_text auth') && bytes_eq (mode_text mode) (mode_text mode'))
same_row (rows.Profile class pattern uacc owner warning) (rows.Profile class' pattern' uacc' owner' warning') =
    same_class class class' && (bytes_eq pattern pattern'
    && (bytes_eq (level_text uacc) (level_text uacc') && (bytes_eq owner owner' && same_flag warning warning')))
same_row (rows.Permit class pattern id level when) (rows.Permit class' pattern' id' level' when') =
    same_class class class' && (bytes_eq pattern pattern'
    && (bytes_eq id id' && (bytes_eq (level_text level) (level_text level') && same_text when when')))
same_row row other = false

abbrev pub same_rows : List Row → List Row → Bool
same_rows [] [] = true
same_rows (row ∷ more) (row' ∷ more') = same_row row row' && same_rows more more'
same_rows all others = false

-- the batch of a number, if it is stored
abbrev pub batch_of : List Batch → ℕ → Option Batch
batch_of batches number = find (λ (b : Batch). b.number == number) batches

abbrev pub batch_line : ℕ → List ℕ → Line
batch_line number what = plain (codes "BATCH " ++ decimal number ++ codes " " ++ what)

-- a new number: the rows are taken one after another, all of them or none, and the batch is stored
abbrev pub new_batch : State → ℕ → List Row → StateOutcome
new_batch s number all = do
  new ← or_refused (with_rows all s)
  does (record new {
    batches = with_batch (record {
      number = number;
      rows = all;
    }) new.batches;
  }) (batch_line number (codes "KEPT") ∷ []) None

-- a number that is stored: nothing is done, if its rows are these
abbrev pub same_batch : State → ℕ → List Row → Batch → StateOutcome
same_batch s number all kept = if same_rows kept.rows all then does s (batch_line number (codes "AGAIN") ∷ []) None else
    refused BatchChanged None

abbrev pub batch_outcome : State → ℕ → List Row → Option Batch → StateOutcome
batch_outcome s number all None = new_batch s number all
batch_outcome s number all (Some kept) = same_batch s number all kept

-- The right is tested before the number: nobody else learns what is stored.
abbrev pub import_outcome : State → List ℕ → ℕ → List Row → StateOutcome
import_outcome s name number all = do
  c ← console_asking s name
  _ ← refuse_if NotSpecial None (not (is_special (acting s c)))
  batch_outcome s number all (batch_of s.batches number)
