use Rattle.std.proofs.Common.{◌≡◌, ◌+◌, ◌==◌, count_by, rules, ap}
use Rattle.std.proofs.lemmas.List.Splits.{length-slice_split}
use Rattle.opc_names.proofs.cover.count_qualifiers.Goals as goal

pub returns : goal.returns
returns c =
    let periods : c.count.result ≡ count_by (λ x. x == 46) c.args.text.now = search rules in
    rw length-slice_split (ap (λ n. n + 1) periods)
