use Rattle.opc_http_connections.specs.Links.{link_of}
use Rattle.opc_http_serve.specs.Serving.{AreServed}
use Rattle.opc_http_serve.proofs.serving.serve.Given as goal

abbrev pub invariant-loop-connection : goal.invariant-loop-connection
invariant-loop-connection g l =
    AreServed (link_of g.A.Connection.Connection.limits g.K.Timer.shows g.A.Connection.Readable.reads g.A.Connection.Readable.remaining
    g.A.Connection.Writable.contents) g.A.Connection.Connection.shuts (g.X.Exchanges.may_read l.fn.routes) (g.X.Exchanges.exchanged l.fn.routes)
    g.A.Arrivals.accepts g.A.Arrivals.clock_says l.fn.timer l.fn.timeout l.fn.arrivals l.fn.gate l._connection l.arrivals l.gate
