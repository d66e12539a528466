-- Where questions are asked: the document that clients look for.
use Rattle.std.specs.Prelude.{ℕ, List, ◌++◌, codes, decimal}
use Rattle.serde_json.specs.Data.{Data, member, no_members, object, string}
use Rattle.opc_decide_present.specs.declared.kind.QuestionKind.{QuestionKind}
use Rattle.opc_decide_present.specs.declared.kind.QuestionKind.TheVariants.{
  Evaluation,
  Evaluations,
  SubjectSearch,
  ActionSearch,
  ResourceSearch,
}
use Rattle.opc_http_questions.specs.DecideRoutes.{path_of}

-- the URL before the paths at a port of this computer
abbrev pub local_base : (port : ℕ) → List ℕ
local_base port = codes "http://127.0.0.1:" ++ decimal port

-- the document, by the URL that all begin with and those of the questions of each kind
abbrev pub document : (base evaluation evaluations subject action resource : List ℕ) → Data
document base evaluation evaluations subject action resource =
    object (member (codes "access_evaluation_endpoint") (string evaluation)
    (member (codes "access_evaluations_endpoint") (string evaluations)
    (member (codes "policy_decision_point") (string base)
    (member (codes "search_action_endpoint") (string action)
    (member (codes "search_resource_endpoint") (string resource)
    (member (codes "search_subject_endpoint") (string subject) no_members))))))

-- the URL of the questions of a kind
abbrev pub url_of : (base : List ℕ) → QuestionKind → List ℕ
url_of base kind = base ++ path_of kind

-- the six URLs, by the one that they begin with
abbrev pub configuration : (base : List ℕ) → Data
configuration base = document base (url_of base Evaluation) (url_of base Evaluations) (url_of base SubjectSearch)
    (url_of base ActionSearch) (url_of base ResourceSearch)
