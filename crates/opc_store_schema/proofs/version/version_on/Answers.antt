use Rattle.std.proofs.Common.{◌∙◌, Result, Ok, Err, OnOk, ap, sym, inl}
use Rattle.std.proofs.lemmas.Result.{IfOk-weaker, IfErr-weaker}
use Rattle.opc_store_schema.specs.Ours.{version_of}
use Rattle.opc_store_schema.proofs.VersionLoads.{version_quiet, shows_version}
use Rattle.opc_store_schema.proofs.version.version_on.Goals as goal

on_ok : {X E P : Type 0} (r : Result X E) → P → OnOk r P
on_ok (Ok x) p = p
on_ok (Err e) p = tt

pub read-requires-clause-quiet : goal.read-requires-clause-quiet
read-requires-clause-quiet g c = version_quiet

pub returns-clause-looks : goal.returns-clause-looks
returns-clause-looks g c =
    let looks = c.in_ok-rows.ensures.looks in
    record { survives = looks.survives; opened = λ clean. on_ok c.version_in.result (looks.opened clean); was_open = looks.was_open; same = looks.same }

pub returns-clause-names : goal.returns-clause-names
returns-clause-names g c clean =
    IfOk-weaker c.version_in.result _ _ (λ v is.
    (_, c.in_ok-rows.ensures.shown clean, sym (is ∙ ap version_of c.as_slice.ensures.value)))
    c.version_in.ensures.version

pub returns-clause-unasked : goal.returns-clause-unasked
returns-clause-unasked g c clean = IfErr-weaker c.version_in.result _ _ (λ e is. inl is) c.version_in.ensures.memory

pub returns-clause-ours : goal.returns-clause-ours
returns-clause-ours g c clean s was =
    let are = shows_version _ _ s was.rows _ (c.in_ok-rows.ensures.shown clean) in
    IfOk-weaker c.version_in.result _ _ (λ v is. is ∙ ap version_of (c.as_slice.ensures.value ∙ are)) c.version_in.ensures.version
