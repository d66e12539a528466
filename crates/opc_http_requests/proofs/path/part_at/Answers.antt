use Rattle.std.proofs.Common.{◌∙◌, ap, refl, lit<}
use Rattle.std.proofs.lemmas.Iterator.Consumers.{nth_from_yields_List}
use Rattle.std.proofs.lemmas.Iterator.Splits.{YieldsList-from_str_split}
use Rattle.opc_http_requests.proofs.Parts.{part-split, shown}
use Rattle.opc_http_requests.proofs.path.part_at.Goals as goal

pub returns : goal.returns
returns c =
    let path = c.args.path.now in
    let found = nth_from_yields_List c.nth.result _ c.args.place c.nth.ensures.ran
    (YieldsList-from_str_split 47 path (lit< tt) c.split.ensures.text c.split.ensures.has_more
    c.split.ensures.pattern) in
    ap (λ r. r.now) c.unwrap_or.ensures ∙ shown c.nth.result _ _ c.args.place refl found ∙ part-split c.args.place path
