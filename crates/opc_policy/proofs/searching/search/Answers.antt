use Rattle.std.proofs.Common.{◌≡◌, ◌-◌, ◌+◌, take, ◌∙◌, refl, sym, arith, inr}
use Rattle.std.proofs.lemmas.Result.{err_from_is_err_and}
use Rattle.opc_policy.proofs.ByHeads.{asked_start, asked_last, asked_few, asked_next}
use Rattle.opc_policy.proofs.MostSpecific.{deciding_is_most_specific}
use Rattle.opc_policy.proofs.searching.search.Goals as goal

pub heads-init : goal.heads-init
heads-init g c = record {
  within = omega arith;
  ready = c.requires;
  kept = g.met.S.ProfileSource.kept_itself c.args.source.now;
  faithful = λ faithful. faithful;
  reported = λ profiles has faithful. record {
    same = has;
    asked = λ sound. asked_start _ c.args.class c.text-name.result.now sound;
  };
}

pub returns-then-is_some-clause-deciding : goal.returns-then-is_some-clause-deciding
returns-then-is_some-clause-deciding g c profiles has = λ faithful.
    let reported = c.heads.invariant.reported profiles has (c.in_ok-taken.ensures.faithful faithful) in
    let whole : c.heads.length - 0 ≡ c.heads.length = omega arith in
    let head : c.range.result.now ≡ take c.heads.length c.args.resource.now = c.range.ensures.value ∙ rw (c.text-name.ensures.text, whole) refl in
    let first = rw head at (c.in_ok-taken.ensures.first profiles reported.same faithful) in
    let rows = rw head at (c.in_ok-taken.ensures.rows profiles reported.same faithful) in
    let sound = c.in_ok-taken.ensures.profiles profiles reported.same faithful in
    let asked = rw c.text-name.ensures.text at (reported.asked sound) in
    (asked_last profiles c.args.class c.args.resource.now sound c.heads.length c.heads.rows c.in_ok-taken.taken.rows
    asked c.in_ok-taken.taken.profile first rows (rw c.is_some.ensures at c.then-is_some.either)).0

pub returns-then-is_some-clause-most_specific : goal.returns-then-is_some-clause-most_specific
returns-then-is_some-clause-most_specific g c profiles has = λ faithful.
    let reported = c.heads.invariant.reported profiles has (c.in_ok-taken.ensures.faithful faithful) in
    let whole : c.heads.length - 0 ≡ c.heads.length = omega arith in
    let head : c.range.result.now ≡ take c.heads.length c.args.resource.now = c.range.ensures.value ∙ rw (c.text-name.ensures.text, whole) refl in
    let first = rw head at (c.in_ok-taken.ensures.first profiles reported.same faithful) in
    let rows = rw head at (c.in_ok-taken.ensures.rows profiles reported.same faithful) in
    let sound = c.in_ok-taken.ensures.profiles profiles reported.same faithful in
    let asked = rw c.text-name.ensures.text at (reported.asked sound) in
    let decides =
    (asked_last profiles c.args.class c.args.resource.now sound c.heads.length c.heads.rows c.in_ok-taken.taken.rows
    asked c.in_ok-taken.taken.profile first rows (rw c.is_some.ensures at c.then-is_some.either)).0 in
    rw decides (deciding_is_most_specific profiles c.args.class c.args.resource.now sound)

pub returns-then-is_some-clause-ranges : goal.returns-then-is_some-clause-ranges
returns-then-is_some-clause-ranges g c profiles has = λ faithful.
    let reported = c.heads.invariant.reported profiles has (c.in_ok-taken.ensures.faithful faithful) in
    let whole : c.heads.length - 0 ≡ c.heads.length = omega arith in
    let head : c.range.result.now ≡ take c.heads.length c.args.resource.now = c.range.ensures.value ∙ rw (c.text-name.ensures.text, whole) refl in
    let first = rw head at (c.in_ok-taken.ensures.first profiles reported.same faithful) in
    let rows = rw head at (c.in_ok-taken.ensures.rows profiles reported.same faithful) in
    let sound = c.in_ok-taken.ensures.profiles profiles reported.same faithful in
    let asked = rw c.text-name.ensures.text at (reported.asked sound) in
    rw c.text-name.ensures.text (asked_last profiles c.args.class c.args.resource.now sound c.heads.length c.heads.rows
    c.in_ok-taken.taken.rows asked c.in_ok-taken.taken.profile first rows
    (rw c.is_some.ensures at c.then-is_some.either)).2

pub returns-then-is_some-clause-rows : goal.returns-then-is_some-clause-rows
returns-then-is_some-clause-rows g c profiles has = λ faithful.
    let reported = c.heads.invariant.reported profiles has (c.in_ok-taken.ensures.faithful faithful) in
    let whole : c.heads.length - 0 ≡ c.heads.length = omega arith in
    let head : c.range.result.now ≡ take c.heads.length c.args.resource.now = c.range.ensures.value ∙ rw (c.text-name.ensures.text, whole) refl in
    let first = rw head at (c.in_ok-taken.ensures.first profiles reported.same faithful) in
    let rows = rw head at (c.in_ok-taken.ensures.rows profiles reported.same faithful) in
    let sound = c.in_ok-taken.ensures.profiles profiles reported.same faithful in
    let asked = rw c.text-name.ensures.text at (reported.asked sound) in
    c.in_ok-rows.ensures
    ∙ (asked_last profiles c.args.class c.args.resource.now sound c.heads.length c.heads.rows
    c.in_ok-taken.taken.rows asked c.in_ok-taken.taken.profile first rows
    (rw c.is_some.ensures at c.then-is_some.either)).1

pub heads-preserved : goal.heads-preserved
heads-preserved g c = record {
  within = let within = c.heads.invariant.within in omega (arith, within);
  ready = c.in_ok-taken.ensures.ready;
  kept = g.met.S.ProfileSource.kept_again c.args.source.now c.heads.source c.first_in.new.self c.heads.invariant.kept c.in_ok-taken.ensures.kept;
  faithful = λ faithful. c.heads.invariant.faithful (c.in_ok-taken.ensures.faithful faithful);
  reported = λ profiles has faithful.
      let reported = c.heads.invariant.reported profiles has (c.in_ok-taken.ensures.faithful faithful) in
      let whole : c.heads.length - 0 ≡ c.heads.length = omega arith in
      let head : c.range.result.now ≡ take c.heads.length c.args.resource.now = c.range.ensures.value ∙ rw (c.text-name.ensures.text, whole) refl in
      let first = rw head at (c.in_ok-taken.ensures.first profiles reported.same faithful) in
      let rows = rw head at (c.in_ok-taken.ensures.rows profiles reported.same faithful) in
      let sound = c.in_ok-taken.ensures.profiles profiles reported.same faithful in
      let asked = rw c.text-name.ensures.text at (reported.asked sound) in
      let less : c.heads.length ≡ (c.heads.length - 1) + 1 = omega (arith, c.if-length-eq0.false) in
      record {
        same = c.in_ok-taken.ensures.same profiles reported.same faithful c.in_ok-taken.ensures.answered;
        asked = λ _. rw (c.text-name.ensures.text, c.in_ok-rows.ensures)
            (asked_next profiles c.args.class c.args.resource.now sound c.heads.length c.heads.rows
            c.in_ok-taken.taken.rows asked c.in_ok-taken.taken.profile first rows (c.heads.length - 1) less
            (sym c.is_some.ensures ∙ c.if-is_some.false));
      };
}

pub returns-in_err-rows-clause-fault : goal.returns-in_err-rows-clause-fault
returns-in_err-rows-clause-fault g c profiles has faithful =
    let reported = c.heads.invariant.reported profiles has (c.in_ok-taken.ensures.faithful faithful) in
    let whole : c.heads.length - 0 ≡ c.heads.length = omega arith in
    let head : c.range.result.now ≡ take c.heads.length c.args.resource.now = c.range.ensures.value ∙ rw (c.text-name.ensures.text, whole) refl in
    let first = rw head at (c.in_ok-taken.ensures.first profiles reported.same faithful) in
    let rows = rw head at (c.in_ok-taken.ensures.rows profiles reported.same faithful) in
    let sound = c.in_ok-taken.ensures.profiles profiles reported.same faithful in
    let asked = rw c.text-name.ensures.text at (reported.asked sound) in
    let few = asked_few profiles c.args.class c.args.resource.now sound c.heads.length c.heads.rows
    c.in_ok-taken.taken.rows asked c.in_ok-taken.taken.profile first rows in
    let err = err_from_is_err_and c.from_residual-in_err-rows.result c.from_residual-in_err-rows.ensures.1 in
    rw (err.1, err.2) (inr (c.in_err-rows.ensures.0, omega (arith, few, c.in_err-rows.ensures.1)))
