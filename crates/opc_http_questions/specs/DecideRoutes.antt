-- The routes of `decide`.
use Rattle.std.specs.Prelude.{Bool, ℕ, List, codes, Option, Some, None, if◌then◌else◌}
use Rattle.std.specs.Str.{bytes_eq}
use Rattle.opc_http_requests.specs.declared.refusal.Method.{Method}
use Rattle.opc_http_requests.specs.declared.refusal.Method.TheVariants.{Get, Post}
use Rattle.opc_http_questions.specs.declared.routes.DecideRoute.{DecideRoute}
use Rattle.opc_http_questions.specs.declared.routes.DecideRoute.TheVariants.{Ask, Configuration}
use Rattle.opc_decide_present.specs.declared.kind.QuestionKind.{QuestionKind}
use Rattle.opc_decide_present.specs.declared.kind.QuestionKind.TheVariants.{
  Evaluation,
  Evaluations,
  SubjectSearch,
  ActionSearch,
  ResourceSearch,
}

-- the path of the questions of a kind
abbrev pub path_of : QuestionKind → List ℕ
path_of Evaluation = codes "/access/v1/evaluation"
path_of Evaluations = codes "/access/v1/evaluations"
path_of SubjectSearch = codes "/access/v1/search/subject"
path_of ActionSearch = codes "/access/v1/search/action"
path_of ResourceSearch = codes "/access/v1/search/resource"

-- where clients find out the other paths
abbrev pub configuration_path : List ℕ
configuration_path = codes "/.well-known/authzen-configuration"

abbrev pub is_path_of : QuestionKind → (path : List ℕ) → Bool
is_path_of kind path = bytes_eq path (path_of kind)

-- the kind of the questions that have this path
abbrev pub kind_of : (path : List ℕ) → Option QuestionKind
kind_of path =
    if is_path_of Evaluation path then Some Evaluation
    else if is_path_of Evaluations path then Some Evaluations
    else if is_path_of SubjectSearch path then Some SubjectSearch
    else if is_path_of ActionSearch path then Some ActionSearch
    else if is_path_of ResourceSearch path then Some ResourceSearch
    else None

abbrev pub asked_by : Option QuestionKind → Option DecideRoute
asked_by None = None
asked_by (Some kind) = Some (Ask kind)

-- the route of a path, if it has one
abbrev pub route_of : (path : List ℕ) → Option DecideRoute
route_of path = if bytes_eq path configuration_path then Some Configuration else asked_by (kind_of path)

-- the one method of a route
abbrev pub method_of : DecideRoute → Method
method_of (Ask kind) = Post
method_of Configuration = Get
