-- A question, as its bytes are received.
use Rattle.std.specs.Prelude.{ℕ, List}
use Rattle.opc_http_questions.specs.declared.routes.DecideRoute.{DecideRoute}

pub record Asked : Type 0 where
  pub route : DecideRoute
  pub body : List ℕ
