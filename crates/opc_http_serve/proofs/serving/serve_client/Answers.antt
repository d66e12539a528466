use Rattle.std.proofs.Common.{◌≡◌, ◌∙◌, Bool, Ok, Err, Result, refl, sym, true, false}
use Rattle.std.specs.Prelude.{is_ok}
use Rattle.opc_io.proofs.Reading.{takes-same}
use Rattle.opc_http.specs.declared.exchanging.LinkFault.{LinkFault}
use Rattle.opc_http_connections.specs.Draining.{IsDrained}
use Rattle.opc_http_connections.specs.Links.{Link, link_of}
use Rattle.opc_http_connections.specs.declared.timed.Timed.{Timed}
use Rattle.opc_http_serve.specs.Serving.{IsEnded}
use Rattle.opc_http_serve.proofs.serving.serve_client.Goals as goal

module _ {C K A : Type 0} (link : Link C K) (shuts : C → Bool → Type 0) where
  drained_after : (ended : Result A LinkFault) (last gone : Timed C K) → is_ok ended ≡ true
      → IsDrained link.limits link.shows link.reads link.remaining shuts last gone → IsEnded link shuts ended last gone
  drained_after (Ok served) last gone done drained = drained
  drained_after (Err fault) last gone done drained = absurd (cc)

  left_after : (ended : Result A LinkFault) (last : Timed C K) → is_ok ended ≡ false → IsEnded link shuts ended last last
  left_after (Ok served) last failed = absurd (cc)
  left_after (Err fault) last failed = refl

pub returns-then-is_ok : goal.returns-then-is_ok
returns-then-is_ok g c = record {
  ended = c.serve_one-served.result;
  made = c.serve_one-served.ensures.exchanged;
  last = c.serve_one-served.new.source;
  read = c.serve_one-served.ensures.reads;
  few = c.drain.ensures.few;
  drained =
      drained_after
      (link_of g.C.Connection.limits g.K.Timer.shows g.C.Readable.reads g.C.Readable.remaining g.C.Writable.contents) g.C.Connection.shuts
      c.serve_one-served.result c.serve_one-served.new.source c.drain.new.reader (sym c.is_ok.ensures.value ∙ c.if-is_ok.true)
      c.drain.ensures.drained;
}

pub returns-else-is_ok : goal.returns-else-is_ok
returns-else-is_ok g c = record {
  ended = c.serve_one-served.result;
  made = c.serve_one-served.ensures.exchanged;
  last = c.serve_one-served.new.source;
  read = c.serve_one-served.ensures.reads;
  few = takes-same _ _;
  drained =
      left_after
      (link_of g.C.Connection.limits g.K.Timer.shows g.C.Readable.reads g.C.Readable.remaining g.C.Writable.contents) g.C.Connection.shuts
      c.serve_one-served.result c.serve_one-served.new.source (sym c.is_ok.ensures.value ∙ c.if-is_ok.false);
}
