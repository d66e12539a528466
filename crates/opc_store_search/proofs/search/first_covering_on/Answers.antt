use Rattle.std.proofs.Common.{◌≡◌, ◌∙◌, Err, [], ◌∷◌, ◌++◌, IsTrue, Some, refl, sym, ap, rules, arith, true, option_map}
use Rattle.std.proofs.lemmas.Bool.{false≢true}
use Rattle.std.proofs.lemmas.Result.{IfOk-at_ok}
use Rattle.sqlite.specs.Held.{state}
use Rattle.sqlite.specs.Values.{bound}
use Rattle.sqlite.specs.State.{HasCleanDisk}
use Rattle.sqlite.proofs.StateLemmas.{survives_then}
use Rattle.sqlite.proofs.Callers.{given_begin, unchanged_then}
use Rattle.opc_store_sql.proofs.Reading.{reads_survive}
use Rattle.opc_store_sql.proofs.Streams.{none_taken}
use Rattle.opc_policy_members.specs.declared.profile.Profile.{Profile}
use Rattle.opc_policy.proofs.FirstCovering.{covered_text, uncovered_text}
use Rattle.opc_store_schema.specs.Represented.{profile_row}
use Rattle.opc_store_schema.specs.Content.{bare}
use Rattle.opc_store_search.specs.Search.{covers}
use Rattle.opc_store_search.proofs.SearchLoads.{begun_quiet, next_profile, no_profile}
use Rattle.opc_store_sql.proofs.Looking.{looks_moved, looks_at, looks_refused}
use Rattle.opc_store_search.proofs.search.first_covering_on.Goals as goal

pub returns-in-Err-clause-looks : goal.returns-in-Err-clause-looks
returns-in-Err-clause-looks g c =
    let new = c.query.follows.lender-at-none in
    let held = rw c.in-Err.is at c.query.follows.holds-at-none in
    let settled = λ (is_open : IsTrue (state g.S.Store c.args.conn.now).is_open). c.is_autocommit-settled.ensures.settled (search rules) is_open in
    looks_refused g.S.Store c.args.conn.now settled (Err c.fault.result) refl new c.args.sql.now _ _ c.requires.quiet held.survives (λ clean. held.err clean)

pub rows-init : goal.rows-init
rows-init g c =
    let made = c.in-Ok.ensures in (
      refl,
      made.mode c.requires.mode,
      reads_survive c.args.sql.now _ _ _ c.requires.quiet made.survives,
      λ clean.
          let begun = begun_quiet g.S.Store c.args.sql.now (bound c.args.params.now) c.args.conn.now
          c.in-Ok.rows.conn.now c.requires.quiet (made.begun clean) in
          (begun.1, [], begun.0, λ select selects s was. none_taken profile_row (covers c.args.resource.now) (select s)),
    )

pub returns-in_default-clause-found : goal.returns-in_default-clause-found
returns-in_default-clause-found g c clean select selects s sees =
    let moved = c.next.follows.holds-at-none in
    let now = c.next.follows.lender-at-none.conn.now in
    let late : HasCleanDisk (state g.S.Store now) = search rules in
    let was = c.rows.invariant.3 (omega (arith, moved.survives.clean)) in
    let shown = (rw (c.in-Ok-next.is, c.in_default.is) at (moved.ok late)) c.args.sql.now (bound c.args.params.now) was.1 was.2 in
    let none = no_profile g.S.Store c.args.sql.now (bound c.args.params.now) select selects (covers c.args.resource.now)
    c.args.conn.now c.rows.rows.conn.now s sees was.0 was.1 c.rows.at (was.3 select selects s sees) now shown in
    (ap (option_map bare) none.0, none.1)

pub returns-then-covers-clause-looks : goal.returns-then-covers-clause-looks
returns-then-covers-clause-looks g c =
    let moved = c.next.follows.holds-at-none in
    let now = c.next.follows.lender-at-none.conn.now in
    let was = c.rows.invariant in
    looks_at g.S.Store _ c.args.conn.now now _ (search rules)
    (looks_moved g.S.Store _ c.args.conn.now c.rows.rows.conn.now now was.2 (λ clean. (was.3 clean).0)
    moved.survives (λ clean. rw c.in-Ok-next.is at (moved.same clean)))

pub returns-then-covers-clause-found : goal.returns-then-covers-clause-found
returns-then-covers-clause-found g c clean select selects s sees =
    let moved = c.next.follows.holds-at-none in
    let old = state g.S.Store c.args.conn.now in
    let mid = state g.S.Store c.rows.rows.conn.now in
    let now = c.next.follows.lender-at-none.conn.now in
    let late : HasCleanDisk (state g.S.Store now) = search rules in
    let was = c.rows.invariant.3 (omega (arith, moved.survives.clean)) in
    let resource = c.args.resource.now in
    let y = c.in-Some.row.now in
    let given = (rw (c.in-Ok-next.is, c.in-Some.is) at (moved.ok late)) c.args.sql.now (bound c.args.params.now) was.1 was.2 in
    let unchanged = unchanged_then old mid (state g.S.Store now) was.0 (rw c.in-Ok-next.is at (moved.same late)) in
    let on = next_profile g.S.Store c.args.sql.now (bound c.args.params.now) select selects (covers resource)
    c.args.conn.now now s sees unchanged was.1 c.rows.at (was.3 select selects s sees) y
    (given_begin g.S.Store c.args.sql.now (bound c.args.params.now) now (was.1 ++ y ∷ []) given) in
    let is : c.in_ok-profile.profile ≡ bare on.x = IfOk-at_ok (λ (v : Profile). v ≡ bare on.x) c.in_ok-profile.was (c.profile_in.ensures.read on.x on.is) in
    let yes : covers resource on.x ≡ true = ap (covers resource) (sym is) ∙ covered_text c.in_ok-profile.profile resource (c.if-covers.ensures.0 refl) in
    let both = on.passes yes in
    (ap (λ (p : Profile). Some p) is ∙ ap (option_map bare) both.0, both.1)

pub rows-preserved : goal.rows-preserved
rows-preserved g c =
    let moved = c.next.follows.holds-at-none in
    let old = state g.S.Store c.args.conn.now in
    let mid = state g.S.Store c.rows.rows.conn.now in
    let now = c.next.follows.lender-at-none.conn.now in
    let resource = c.args.resource.now in
    let y = c.in-Some.row.now in (
      moved.same_reference ∙ c.rows.invariant.0,
      moved.mode c.rows.invariant.1,
      survives_then old mid (state g.S.Store now) _ _ (λ _. ⊥) (λ _ db none. none) (λ _ db none. none) c.rows.invariant.2 moved.survives,
      λ late.
          let was = c.rows.invariant.3 (omega (arith, moved.survives.clean)) in
          let given = (rw (c.in-Ok-next.is, c.in-Some.is) at (moved.ok late)) c.args.sql.now (bound c.args.params.now) was.1 was.2 in
          let unchanged = unchanged_then old mid (state g.S.Store now) was.0 (rw c.in-Ok-next.is at (moved.same late)) in (
            unchanged,
            was.1 ++ y ∷ [],
            given,
            λ select selects s sees.
                let on = next_profile g.S.Store c.args.sql.now (bound c.args.params.now) select selects
                (covers resource) c.args.conn.now now s sees unchanged was.1 c.rows.at (was.3 select selects s sees)
                y (given_begin g.S.Store c.args.sql.now (bound c.args.params.now) now (was.1 ++ y ∷ []) given) in
                let is : c.in_ok-profile.profile ≡ bare on.x =
                IfOk-at_ok (λ (v : Profile). v ≡ bare on.x) c.in_ok-profile.was (c.profile_in.ensures.read on.x on.is) in
                on.fails (ap (covers resource) (sym is) ∙ uncovered_text c.in_ok-profile.profile resource (λ k. false≢true (c.if-covers.ensures.1 k))),
          ),
    )
