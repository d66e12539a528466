use Rattle.std.proofs.Common.{ap, sym, ◌∙◌}
use Rattle.serde_json.specs.Data.{put, string}
use Rattle.serde_json.specs.View.{members_view}
use Rattle.opc_policy_deciders.specs.Forms.{asked}
use Rattle.opc_answers_may.proofs.Shown.{example_put}
use Rattle.opc_answers_may.proofs.values.put_example.Goals as goal

pub returns : goal.returns
returns c =
    example_put c.args.which.now (asked c.args.form.now) c.args.found.now _ (members_view c.args.object.now.entries)
    (members_view c.put_text.new.object.entries) c.in-Some.is (sym c.takes.ensures ∙ c.if-not-takes.false)
    (c.in_ok-put_text.ensures
    ∙ ap (λ t. put c.args.form.now.name.now (string t) (members_view c.args.object.now.entries)) c.text.ensures.text)
