use Rattle.std.proofs.Common.{refl}
use Rattle.opc_decide_present.proofs.Refreshing.{cut_off, read_whole}
use Rattle.opc_decide_present.proofs.reading.read_found.Goals as goal

pub returns-in_default : goal.returns-in_default
returns-in_default g c first is =
    cut_off g.F.PolicyPlace.finds g.F.PolicyPlace.reads first c.args.place.now c.args.found c.read.result c.read.new.self is
    c.read.ensures (rw c.in_default.is tt)

pub returns-then-not-is_same : goal.returns-then-not-is_same
returns-then-not-is_same g c first is =
    cut_off g.F.PolicyPlace.finds g.F.PolicyPlace.reads first c.args.place.now c.args.found c.read.result c.read.new.self is
    c.read.ensures (rw c.in-Ok.is (λ same. absurd (let t = c.is_same.ensures.1 same in let f = c.if-not-is_same.true in cc)))

pub returns : goal.returns
returns g c first is =
    let read = rw c.in-Ok.is at c.read.ensures in
    let same = c.is_same.ensures.0 c.if-not-is_same.false in
    let loaded = rw c.as_slice.ensures.value at c.in_ok-policy.ensures in (
      record {
        bytes = c.in-Ok.read.bytes.items;
        read = read_whole g.F.PolicyPlace.finds g.F.PolicyPlace.reads first c.args.place.now c.args.found c.in-Ok.read c.read.new.self is
            read same;
        made = loaded;
      },
      refl,
    )
