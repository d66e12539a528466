-- Where access is asked for: the context of a question.
use Rattle.std.specs.Prelude.{ℕ, List, Option, Some, None, Result, Ok, Err, if◌then◌else◌}
use Rattle.std.specs.Option.{ok_or, option_map}
use Rattle.std.specs.Str.{bytes_eq}
use Rattle.serde_json.specs.Data.{Data}
use Rattle.opc_names.specs.Names.{console_rule}
use Rattle.opc_terms.specs.declared.unit_kind.UnitKindAt.{UnitKindAt}
use Rattle.opc_terms.specs.declared.unit_kind.UnitKindAt.TheVariants.{Absent}
use Rattle.opc_import.specs.Fields.{name_of}
use Rattle.opc_answers.specs.Taken.{kind_of}
use Rattle.opc_decide_requests.specs.Parts.{being_object, member_of, text_if}
use Rattle.opc_decide_requests.specs.RequestFaults.{◌>>=◌}
use Rattle.opc_decide_requests.specs.declared.context.AccessContext.{AccessContext}
use Rattle.opc_decide_requests.specs.declared.fault.RequestFault.{RequestFault}
use Rattle.opc_decide_requests.specs.declared.fault.RequestFault.TheVariants.{Invalid}
use Rattle.opc_decide_requests.specs.declared.key.RequestKey.TheVariants.{Console, Context, Taken}

-- the console, if one is named
abbrev pub console_by : Option (List ℕ) → Result (Option (List ℕ)) RequestFault
console_by None = Ok None
console_by (Some name) = ok_or (option_map Some (name_of console_rule name)) (Invalid Console)

abbrev pub console_in : Data → Result (Option (List ℕ)) RequestFault
console_in value = text_if Console value >>= console_by

-- what the unit of a command is taken for; a job, if nothing is said
abbrev pub taken_by : Option (List ℕ) → Result UnitKindAt RequestFault
taken_by None = Ok Absent
taken_by (Some text) = ok_or (kind_of text) (Invalid Taken)

abbrev pub taken_in : Data → Result UnitKindAt RequestFault
taken_in value = text_if Taken value >>= taken_by

abbrev pub context_in : Data → Result AccessContext RequestFault
context_in value = do
  _ ← being_object Context value
  console ← console_in value
  taken ← taken_in value
  Ok (record { console = console; taken = taken })

-- the context of an element or the one that all elements share, if there is one
abbrev pub no_context : AccessContext
no_context = record { console = None; taken = Absent }

abbrev pub context_by : Option Data → Result AccessContext RequestFault
context_by None = Ok no_context
context_by (Some value) = context_in value

abbrev pub context_at : (element shared : Data) → Result AccessContext RequestFault
context_at element shared = context_by (member_of Context element shared)

-- no other console is named
abbrev pub being_at : (name : List ℕ) → (console : Option (List ℕ)) → Result Unit RequestFault
being_at name None = Ok tt
being_at name (Some console) = if bytes_eq console name then Ok tt else Err (Invalid Console)
