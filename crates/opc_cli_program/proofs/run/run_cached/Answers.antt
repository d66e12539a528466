use Rattle.std.proofs.Common.{◌∙◌, inl, refl, subst, sym}
use Rattle.opc_state.specs.State.{State}
use Rattle.opc_state_cache.specs.Meaning.{cached_meaning}
use Rattle.opc_state_cache.specs.declared.cached.Cached.{Cached}
use Rattle.opc_cli_script.specs.Handlers.{AreSteps, nothing_more}
use Rattle.opc_cli_log.specs.RunLogs.{IsLogOf, IsLoggedRequest, logged_meaning}
use Rattle.opc_cli_log.specs.declared.gate.LoggedGate.{LoggedGate}
use Rattle.opc_cli_program.specs.Runs.{IsAnsweredInput}
use Rattle.opc_cli_program.proofs.Logs.{log_below, without_run}
use Rattle.opc_cli_program.proofs.Uncached.{answered_input, steps_viewed}
use Rattle.opc_cli_program.proofs.run.run_cached.Goals as goal

pub returns-in-Err-clause-runs : goal.returns-in-Err-clause-runs
returns-in-Err-clause-runs g c =
    let back = c.in-Err.ensures.refused in
    let t = g.T.Tables in
    let k = g.K.Sink in
    without_run t.meaning g.H.LogFile.Write.contents c.args.log
    (λ told ran. IsAnsweredInput t.meaning told k.held k.has_failed c.args.tables _ (g.R.Read.remaining c.args.input.now) c.args.output.now
    c.args.output.now ran) c.from.result
    (λ told. inl (record { unread = inl (c.from.ensures ∙ back.0); same = back.1; silent = refl }))

pub returns-in-None-clause-runs : goal.returns-in-None-clause-runs
returns-in-None-clause-runs g c =
    let t = g.T.Tables in
    let k = g.K.Sink in
    let left = g.R.Read.remaining c.args.input.now in
    let before = c.args.output.now in
    let written = c.answer_script-end.new.output in
    let end = c.answer_script-end.result in
    let made = c.in-Ok.ensures.made in
    rw c.in-None.is
    (subst (λ tables. IsAnsweredInput t.meaning (AreSteps nothing_more) k.held k.has_failed tables c.into_store-in-None.result left before written end) made.0
    (subst (λ tables. IsAnsweredInput t.meaning (AreSteps nothing_more) k.held k.has_failed c.in-Ok.gate.tables tables
    left before written end) (sym c.into_store-in-None.ensures)
    (answered_input t.meaning (cached_meaning t.meaning) (λ (x : Cached _). x.tables) (AreSteps nothing_more) (AreSteps nothing_more)
    c.in-Ok.gate c.answer_script-end.new.gate
    (λ rs answers steps. steps_viewed (λ (x : Cached _). x.tables) rs answers _ _ steps)
    (λ sure. sure)
    (λ s h. c.in-Ok.ensures.represents s (subst (λ tables. t.meaning.represents tables s) made.0 h))
    (λ s h. h.represented) (λ s l. l) (λ s l. l)
    k.held k.has_failed left before written end c.answer_script-end.ensures.runs)))

pub returns-in-Some-clause-runs : goal.returns-in-Some-clause-runs
returns-in-Some-clause-runs g c =
    let t = g.T.Tables in
    let k = g.K.Sink in
    let contents = g.H.LogFile.Write.contents in
    let left = g.R.Read.remaining c.args.input.now in
    let before = c.args.output.now in
    let written = c.answer_script-ran.new.output in
    let ran = c.answer_script-ran.result in
    let made = c.in-Ok.ensures.made in
    let last = c.answer_script-ran.new.gate.log in
    let told = IsLogOf t.meaning contents c.in-Some.log last in
    let above : (s : State) → t.meaning.represents c.in-Ok.gate.tables s → (cached_meaning t.meaning).represents c.in-Ok.gate s =
    λ s h. c.in-Ok.ensures.represents s (subst (λ tables. t.meaning.represents tables s) made.0 h) in
    rw c.in-Some.is (
      last,
      ran,
      subst (λ tables. IsAnsweredInput t.meaning told k.held k.has_failed tables c.into_store.result left before written ran) made.0
          (subst (λ tables. IsAnsweredInput t.meaning told k.held k.has_failed c.in-Ok.gate.tables tables
          left before written ran) (sym c.into_store.ensures)
          (answered_input t.meaning (logged_meaning (cached_meaning t.meaning)) (λ (x : LoggedGate (Cached _) _). x.gate.tables)
          (AreSteps (IsLoggedRequest (cached_meaning t.meaning) contents)) told
          (record { gate = c.in-Ok.gate; log = c.in-Some.log }) c.answer_script-ran.new.gate
          (λ rs answers steps. log_below t.meaning contents _ _ above rs answers steps)
          (λ sure. sure) above (λ s h. h.represented) (λ s l. l) (λ s l. l)
          k.held k.has_failed left before written ran c.answer_script-ran.ensures.runs)),
      c.logged_end-end.ensures,
    )
