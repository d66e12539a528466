-- Who asks for access: the subject of a question.
use Rattle.std.specs.Prelude.{ℕ, List, Option, Some, None, Result, codes, if◌then◌else◌}
use Rattle.std.specs.Option.{ok_or, option_map}
use Rattle.std.specs.Str.{bytes_eq}
use Rattle.serde_json.specs.Data.{Data}
use Rattle.opc_names.specs.Names.{console_rule, user_rule}
use Rattle.opc_import.specs.Fields.{name_of}
use Rattle.opc_decide_requests.specs.Parts.{object_at, text_at}
use Rattle.opc_decide_requests.specs.RequestFaults.{◌>>=◌}
use Rattle.opc_decide_requests.specs.declared.fault.RequestFault.{RequestFault}
use Rattle.opc_decide_requests.specs.declared.fault.RequestFault.TheVariants.{Invalid}
use Rattle.opc_decide_requests.specs.declared.key.RequestKey.TheVariants.{Subject, SubjectId, SubjectType}
use Rattle.opc_decide_requests.specs.declared.subject.AccessSubject.{AccessSubject}
use Rattle.opc_decide_requests.specs.declared.subject.AccessSubject.TheVariants as subject
use Rattle.opc_decide_requests.specs.declared.subject.SubjectKind.{SubjectKind}
use Rattle.opc_decide_requests.specs.declared.subject.SubjectKind.TheVariants as kind

abbrev pub kind_of : List ℕ → Option SubjectKind
kind_of text = if bytes_eq text (codes "user") then Some kind.User else
    (if bytes_eq text (codes "console") then Some kind.Console else None)

abbrev pub subject_kind : Data → Result SubjectKind RequestFault
subject_kind value = do
  text ← text_at SubjectType value
  ok_or (kind_of text) (Invalid SubjectType)

abbrev pub subject_by : SubjectKind → (id : List ℕ) → Option AccessSubject
subject_by kind.User id = option_map subject.User (name_of user_rule id)
subject_by kind.Console id = option_map subject.Console (name_of console_rule id)

abbrev pub subject_in : Data → Result AccessSubject RequestFault
subject_in value = do
  kind ← subject_kind value
  id ← text_at SubjectId value
  ok_or (subject_by kind id) (Invalid SubjectId)

-- the subject of an element, or else the one that all elements share
abbrev pub subject_at : (element shared : Data) → Result AccessSubject RequestFault
subject_at element shared = object_at Subject element shared >>= subject_in

-- the type alone of the subject of a body, in which subjects are searched
abbrev pub kind_at : Data → Result SubjectKind RequestFault
kind_at body = object_at Subject body body >>= subject_kind
