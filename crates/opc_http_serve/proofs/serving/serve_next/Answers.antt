use Rattle.std.proofs.Common.{inl}
use Rattle.opc_http_serve.proofs.serving.serve_next.Goals as goal

pub serve_client-requires-clause-reader : goal.serve_client-requires-clause-reader
serve_client-requires-clause-reader g c = let came = rw c.in-Some.is at c.in_ok-client.ensures in came.reader_fine

pub serve_client-requires-clause-writer : goal.serve_client-requires-clause-writer
serve_client-requires-clause-writer g c = let came = rw c.in-Some.is at c.in_ok-client.ensures in came.writer_fine

pub returns-in-Some-clause-turn : goal.returns-in-Some-clause-turn
returns-in-Some-clause-turn g c = inl (record {
  came = c.in-Some.client;
  gone = c.serve_client.new.client;
  arrival = rw c.in-Some.is at c.in_ok-client.ensures;
  served = c.serve_client.ensures;
})
