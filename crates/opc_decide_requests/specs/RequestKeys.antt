-- The keys of a request, in the words of the AuthZEN Authorization API.
use Rattle.std.specs.Prelude.{ℕ, List, codes}
use Rattle.opc_decide_requests.specs.declared.key.RequestKey.{RequestKey}
use Rattle.opc_decide_requests.specs.declared.key.RequestKey.TheVariants as key

-- a key as it is written in its object
abbrev pub key_text : RequestKey → List ℕ
key_text key.Subject = codes "subject"
key_text key.SubjectType = codes "type"
key_text key.SubjectId = codes "id"
key_text key.Action = codes "action"
key_text key.ActionName = codes "name"
key_text key.Resource = codes "resource"
key_text key.ResourceType = codes "type"
key_text key.ResourceId = codes "id"
key_text key.Context = codes "context"
key_text key.Console = codes "console"
key_text key.Taken = codes "as"
key_text key.Evaluations = codes "evaluations"
key_text key.Options = codes "options"
key_text key.Semantic = codes "evaluations_semantic"
key_text key.Page = codes "page"
key_text key.Limit = codes "limit"
key_text key.Token = codes "token"

-- the same after the key of its object, if that has one
abbrev pub key_path : RequestKey → List ℕ
key_path key.SubjectType = codes "subject.type"
key_path key.SubjectId = codes "subject.id"
key_path key.ActionName = codes "action.name"
key_path key.ResourceType = codes "resource.type"
key_path key.ResourceId = codes "resource.id"
key_path key.Console = codes "context.console"
key_path key.Taken = codes "context.as"
key_path key.Semantic = codes "options.evaluations_semantic"
key_path key.Limit = codes "page.limit"
key_path key.Token = codes "page.token"
key_path key.Subject = codes "subject"
key_path key.Action = codes "action"
key_path key.Resource = codes "resource"
key_path key.Context = codes "context"
key_path key.Evaluations = codes "evaluations"
key_path key.Options = codes "options"
key_path key.Page = codes "page"
