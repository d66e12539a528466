use Rattle.opc_http_questions.proofs.StrictPoints.{puts_the_same, web_pages_put_nothing}
use Rattle.opc_http_questions.proofs.laws.web_pages_put_nothing.Goals as goal

pub returns : goal.returns
returns c = record { forbidden = web_pages_put_nothing; same = puts_the_same }
