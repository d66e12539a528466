use Rattle.opc_cli_script.proofs.Printing.{cut, cut_failed, cut_same, either_way, failed_by, if_err, on_ok, whole, whole_fine, whole_same}
use Rattle.opc_cli_script.proofs.printer.Printer.run.Goals as goal

pub returns-clause-same_reference : goal.returns-clause-same_reference
returns-clause-same_reference g c =
    either_way c.run_heard.result c.run_heard.ensures.heard c.run_heard.ensures.ended
    (whole_same _ (λ p. p.output.ghost_name) (λ p. g.K.Sink.held p.output.now) (λ p. g.K.Sink.has_failed p.output.now)
    (λ p. p.status) g.X.RequestHandler.meaning g.X.RequestHandler.handled _ _ c.args.requests.now _ _
    (λ l m a n h. h))
    (λ fault. cut_same _ (λ p. p.output.ghost_name) (λ p. g.K.Sink.held p.output.now)
    (λ p. g.K.Sink.has_failed p.output.now) (λ p. p.status)
    g.X.RequestHandler.meaning g.X.RequestHandler.handled _ _ c.args.requests.now _ _ _ fault (λ l m a n h. h) (λ l m a n f h. h))

pub returns-clause-whole : goal.returns-clause-whole
returns-clause-whole g c start = on_ok c.run_heard.result
    (λ run. whole _ (λ p. p.output.ghost_name) (λ p. g.K.Sink.held p.output.now) (λ p. g.K.Sink.has_failed p.output.now)
    (λ p. p.status) g.X.RequestHandler.meaning g.X.RequestHandler.handled _ _ c.args.requests.now _ _
    (λ l m a n h. h) run start) c.run_heard.ensures.heard

pub returns-clause-cut : goal.returns-clause-cut
returns-clause-cut g c = if_err c.run_heard.result
    (λ fault. cut _ (λ p. p.output.ghost_name) (λ p. g.K.Sink.held p.output.now) (λ p. g.K.Sink.has_failed p.output.now)
    (λ p. p.status)
    g.X.RequestHandler.meaning g.X.RequestHandler.handled _ _ c.args.requests.now _ _ _ fault
    (λ l m a n h. h) (λ l m a n f h. h)) c.run_heard.ensures.ended

pub returns-clause-failed : goal.returns-clause-failed
returns-clause-failed g c =
    failed_by c.run_heard.result _ _ c.run_heard.ensures.heard c.run_heard.ensures.ended
    (whole_fine _ (λ p. p.output.ghost_name) (λ p. g.K.Sink.held p.output.now) (λ p. g.K.Sink.has_failed p.output.now)
    (λ p. p.status) g.X.RequestHandler.meaning g.X.RequestHandler.handled _ _ c.args.requests.now _ _
    (λ l m a n h. h))
    (λ fault. cut_failed _ (λ p. p.output.ghost_name) (λ p. g.K.Sink.held p.output.now)
    (λ p. g.K.Sink.has_failed p.output.now) (λ p. p.status)
    g.X.RequestHandler.meaning g.X.RequestHandler.handled _ _ c.args.requests.now _ _ _ fault (λ l m a n h. h) (λ l m a n f h. h))
