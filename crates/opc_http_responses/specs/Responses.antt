-- Responses, byte for byte.
use Rattle.std.specs.Prelude.{ℕ, List, [], ◌++◌, codes, decimal, length, Option, Some, None}
use Rattle.opc_machine.specs.declared.request.Answer.{Answer}
use Rattle.opc_http_requests.specs.declared.refusal.Method.{Method}
use Rattle.opc_http_requests.specs.declared.refusal.Method.TheVariants.{Get, Post}
use Rattle.opc_http_requests.specs.declared.refusal.HttpRefusal.{HttpRefusal}
use Rattle.opc_http_requests.specs.declared.refusal.HttpRefusal.TheVariants.{
  BadRequest,
  Forbidden,
  NotFound,
  MethodNotAllowed,
  TooLarge,
  BadRow,
}
use Rattle.opc_http_responses.specs.Bodies.{answer_body, refusal_body}
use Rattle.opc_http_responses.specs.Statuses.{phrase, refusal_status, status_of}

abbrev pub line : List ℕ → List ℕ
line text = text ++ codes "\r\n"

abbrev pub method_text : Method → List ℕ
method_text Get = codes "GET"
method_text Post = codes "POST"

-- the method that the path has, if another was used
abbrev pub allow_field : Option Method → List ℕ
allow_field None = []
allow_field (Some method) = line (codes "Allow: " ++ method_text method)

abbrev pub status_line : ℕ → List ℕ
status_line status = line (codes "HTTP/1.1 " ++ decimal status ++ codes " " ++ phrase status)

-- the head: the line of the status, the fields, those that this response has besides among them, and an empty line
abbrev pub head_of : ℕ → (fields body : List ℕ) → List ℕ
head_of status fields body =
    status_line status
    ++ line (codes "Content-Type: application/json")
    ++ line (codes "Content-Length: " ++ decimal (length body))
    ++ fields
    ++ line (codes "Connection: close")
    ++ line []

abbrev pub response_text : ℕ → (fields body : List ℕ) → List ℕ
response_text status fields body = head_of status fields body ++ body

-- the response to a request that was handled
abbrev pub response_of : Answer → List ℕ
response_of answer = response_text (status_of answer) [] (answer_body answer)

abbrev pub allowed : HttpRefusal → Option Method
allowed (MethodNotAllowed method) = Some method
allowed (BadRequest part) = None
allowed Forbidden = None
allowed NotFound = None
allowed TooLarge = None
allowed (BadRow row why) = None

-- the response to what is not a request
abbrev pub refusal_response : HttpRefusal → List ℕ
refusal_response refusal = response_text (refusal_status refusal) (allow_field (allowed refusal)) (refusal_body refusal)

-- the same with further fields
abbrev pub refusal_response_with : HttpRefusal → (more : List ℕ) → List ℕ
refusal_response_with refusal more =
    response_text (refusal_status refusal) (allow_field (allowed refusal) ++ more) (refusal_body refusal)
