use Rattle.std.proofs.Common.{◌≡◌, ◌∙◌, Bool, sym, ap, subst, true, false, rules, inl}
use Rattle.std.proofs.lemmas.Result.{IfErr-weaker}
use Rattle.sqlite.proofs.StateLemmas.{survives_weaker}
use Rattle.sqlite.specs.Effect.{Database}
use Rattle.sqlite.specs.Held.{state}
use Rattle.opc_store_schema.specs.Ours.{has_our_name}
use Rattle.opc_store_schema.specs.Represented.{Represents}
use Rattle.opc_store_schema.proofs.Opened.{found_again, named}
use Rattle.opc_store_old_tables.proofs.Found.{found_old, old_named}
use Rattle.opc_store_old_tables.proofs.VersionLoads.{names_own}
use Rattle.opc_store.proofs.Older.{never_older, older_between, copied, unharmed, unnamed, found, known, refused, crash, crash_at_fault}
use Rattle.opc_store.proofs.store.Store.open_files.Goals as goal

both : (b : Bool) → b ≡ true → b ≡ false → ⊥
both b is is_not = cc

pub returns-in-Ok-clause-found : goal.returns-in-Ok-clause-found
returns-in-Ok-clause-found g c clean is_open s alone =
    let again = found_again (state g.S.Store c.args.conn).now s (c.schema.ensures.live is_open).0 alone in
    let yes : has_our_name c.schema.result.now ≡ true = named _ (c.schema.ensures.value ∙ again.rows.schema) in
    let no : c.has_our_name.result ≡ false = search rules in
    absurd (both _ (c.has_our_name.ensures ∙ yes) no)

pub returns-in-Ok-clause-copied : goal.returns-in-Ok-clause-copied
returns-in-Ok-clause-copied g c clean is_open version s alone =
    let was_old = found_old version (state g.S.Store c.args.conn).now s (c.schema.ensures.live is_open).0 alone in
    let yes : has_our_name c.schema.result.now ≡ true = old_named version _ (c.schema.ensures.value ∙ was_old.tables.schema_is) in
    let no : c.has_our_name.result ≡ false = search rules in
    absurd (both _ (c.has_our_name.ensures ∙ yes) no)

pub returns-in-Ok-eq3-clause-found : goal.returns-in-Ok-eq3-clause-found
returns-in-Ok-eq3-clause-found g c clean is_open s alone =
    let again = found_again (state g.S.Store c.args.conn).now s (c.schema.ensures.live is_open).0 alone in
    let looks = c.in-Ok-eq3.ensures.looks in
    subst (λ (d : Database). Represents d s) (sym (looks.same clean (looks.opened clean))) again

pub returns-in-Ok-clause-unnamed : goal.returns-in-Ok-clause-unnamed
returns-in-Ok-clause-unnamed g c clean none = c.in-Ok.ensures.ran clean

pub returns-in-Ok-clause-crash : goal.returns-in-Ok-clause-crash
returns-in-Ok-clause-crash g c =
    let no : has_our_name c.args.conn.schema ≡ false = search rules in
    survives_weaker (state g.S.Store c.args.conn) (state g.S.Store c.make_tables.new.conn) _ _ (λ _ db h. inl (no, h.0, h.1)) c.make_tables.ensures.survives

pub returns-in-Ok-clause-settled : goal.returns-in-Ok-clause-settled
returns-in-Ok-clause-settled g c clean db leaves =
    let settled = c.in-Ok.ensures.settled clean in
    g.met.S.Store.settled c.make_tables.new.conn.store db settled.0 leaves ∙ ap (λ (d : Database). d.trees) settled.1

pub returns-in-Ok-eq3-clause-settled : goal.returns-in-Ok-eq3-clause-settled
returns-in-Ok-eq3-clause-settled g c clean db leaves =
    let new = c.version_on.new.conn in
    let is_open = c.in-Ok-eq3.ensures.looks.opened clean in
    g.met.S.Store.settled new.store db is_open leaves
    ∙ sym (ap (λ (d : Database). d.trees)
    (c.is_autocommit-settled-in-Ok-eq3.ensures.settled (search rules) is_open))

pub returns-in-Err-clause-crash_at_fault : goal.returns-in-Err-clause-crash_at_fault
returns-in-Err-clause-crash_at_fault g c =
    let no : has_our_name c.args.conn.schema ≡ false = search rules in
    survives_weaker (state g.S.Store c.args.conn) (state g.S.Store c.make_tables.new.conn) _ _
    (λ _ db h. (c.open_fault.ensures.no_version, inl (no, h.0, h.1))) c.make_tables.ensures.survives

pub returns-in-Ok-eq3-clause-copied : goal.returns-in-Ok-eq3-clause-copied
returns-in-Ok-eq3-clause-copied g c clean is_open version s alone =
    let was_old = found_old version (state g.S.Store c.args.conn).now s (c.schema.ensures.live is_open).0 alone in
    never_older version c.in-Ok-eq3.field-0 (search rules) (names_own version _ _ s was_old _ (c.in-Ok-eq3.ensures.names clean))

pub returns-in-Ok-eq1-clause-found : goal.returns-in-Ok-eq1-clause-found
returns-in-Ok-eq1-clause-found g c = found g.S.Store c.in-Ok-eq1.field-0 c.args.conn c.version_on.new.conn
    c.schema.ensures.live c.in-Ok-eq1.ensures.looks c.copied.result (λ e. e.0) (λ e. e.1)
    (older_between c.in-Ok-eq1.field-0 (search rules) (search rules)) c.in-Ok-eq1.ensures.names c.copied.ensures.crash
    c.in-Ok-eq1.ensures.ours

pub returns-in-Ok-eq1-clause-copied : goal.returns-in-Ok-eq1-clause-copied
returns-in-Ok-eq1-clause-copied g c = copied g.S.Store c.in-Ok-eq1.field-0 c.args.conn c.version_on.new.conn
    c.schema.ensures.live c.in-Ok-eq1.ensures.looks c.copied.result (λ e. e.0) (λ e. e.1) c.copied.ensures.crash
    c.copied.ensures.copied

pub returns-in-Ok-eq1-clause-ours : goal.returns-in-Ok-eq1-clause-ours
returns-in-Ok-eq1-clause-ours g c = known g.S.Store c.in-Ok-eq1.field-0 c.args.conn c.version_on.new.conn
    c.schema.ensures.live c.in-Ok-eq1.ensures.looks c.copied.result (λ e. e.0) (λ e. e.1)
    (older_between c.in-Ok-eq1.field-0 (search rules) (search rules)) c.in-Ok-eq1.ensures.names c.copied.ensures.crash

pub returns-in-Ok-eq1-clause-refused : goal.returns-in-Ok-eq1-clause-refused
returns-in-Ok-eq1-clause-refused g c = refused g.S.Store c.in-Ok-eq1.field-0 c.args.conn c.version_on.new.conn
    c.schema.ensures.live c.in-Ok-eq1.ensures.looks c.copied.result (λ e. e.0) (λ e. e.1)
    (older_between c.in-Ok-eq1.field-0 (search rules) (search rules)) c.in-Ok-eq1.ensures.names
    c.copied.ensures.crash_at_fault c.copied.ensures.returned

pub returns-in-Ok-eq1-clause-unharmed : goal.returns-in-Ok-eq1-clause-unharmed
returns-in-Ok-eq1-clause-unharmed g c = unharmed g.S.Store c.in-Ok-eq1.field-0 c.args.conn c.version_on.new.conn
    c.schema.ensures.live c.in-Ok-eq1.ensures.looks c.copied.result (λ e. e.0) (λ e. e.1)
    c.copied.ensures.crash_at_fault c.copied.ensures.unharmed

pub returns-in-Ok-eq1-clause-unnamed : goal.returns-in-Ok-eq1-clause-unnamed
returns-in-Ok-eq1-clause-unnamed g c = unnamed g.S.Store c.in-Ok-eq1.field-0 c.args.conn c.version_on.new.conn
    c.schema.ensures.live c.in-Ok-eq1.ensures.looks c.copied.result (λ e. e.0) (λ e. e.1) (search rules)

pub returns-in-Ok-eq1-clause-crash : goal.returns-in-Ok-eq1-clause-crash
returns-in-Ok-eq1-clause-crash g c = crash g.S.Store c.in-Ok-eq1.field-0 c.args.conn c.version_on.new.conn
    c.schema.ensures.live c.in-Ok-eq1.ensures.looks c.copied.result (λ e. e.0) (λ e. e.1)
    (older_between c.in-Ok-eq1.field-0 (search rules) (search rules)) c.in-Ok-eq1.ensures.names (search rules)
    c.copied.ensures.crash

pub returns-in-Ok-eq1-clause-crash_at_fault : goal.returns-in-Ok-eq1-clause-crash_at_fault
returns-in-Ok-eq1-clause-crash_at_fault g c =
    crash_at_fault g.S.Store c.in-Ok-eq1.field-0 c.args.conn c.version_on.new.conn c.schema.ensures.live
    c.in-Ok-eq1.ensures.looks c.copied.result (λ e. e.0) (λ e. e.1)
    (older_between c.in-Ok-eq1.field-0 (search rules) (search rules)) c.in-Ok-eq1.ensures.names (search rules)
    c.copied.ensures.crash_at_fault c.copied.ensures.returned

-- ---- if only its version was read, nothing is left that was not

pub returns-in-Ok-eq3-clause-crash : goal.returns-in-Ok-eq3-clause-crash
returns-in-Ok-eq3-clause-crash g c = survives_weaker (state g.S.Store c.args.conn)
    (state g.S.Store c.version_on.new.conn) _ _ (λ _ db none. absurd none) c.version_on.ensures.looks.survives

pub returns-in-Ok-version_on-clause-crash_at_fault : goal.returns-in-Ok-version_on-clause-crash_at_fault
returns-in-Ok-version_on-clause-crash_at_fault g c =
    survives_weaker (state g.S.Store c.args.conn) (state g.S.Store c.version_on.new.conn) _ _ (λ _ db none. absurd none)
    c.version_on.ensures.looks.survives

pub returns-in-Err-version_on-clause-crash_at_fault : goal.returns-in-Err-version_on-clause-crash_at_fault
returns-in-Err-version_on-clause-crash_at_fault g c =
    survives_weaker (state g.S.Store c.args.conn) (state g.S.Store c.version_on.new.conn) _ _ (λ _ db none. absurd none)
    c.version_on.ensures.looks.survives

-- ---- if a name is ours, no clause speaks of one without

pub returns-in-Ok-eq3-clause-unnamed : goal.returns-in-Ok-eq3-clause-unnamed
returns-in-Ok-eq3-clause-unnamed g c clean none = absurd (both _ (let is : has_our_name c.args.conn.schema ≡ true = search rules in is) none)

pub returns-in-Ok-eq1-clause-unmade : goal.returns-in-Ok-eq1-clause-unmade
returns-in-Ok-eq1-clause-unmade g c = IfErr-weaker c.copied.result _ _ (λ e returned none. returned) c.copied.ensures.returned

pub returns-in-Ok-version_on-clause-unmade : goal.returns-in-Ok-version_on-clause-unmade
returns-in-Ok-version_on-clause-unmade g c none = absurd (both _ (let is : has_our_name c.args.conn.schema ≡ true = search rules in is) none)

pub returns-in-Err-version_on-clause-unmade : goal.returns-in-Err-version_on-clause-unmade
returns-in-Err-version_on-clause-unmade g c none = absurd (both _ (let is : has_our_name c.args.conn.schema ≡ true = search rules in is) none)

-- ---- if none is, none speaks of one with

pub returns-in-Ok-clause-ours : goal.returns-in-Ok-clause-ours
returns-in-Ok-clause-ours g c clean named = absurd (both _ named (let is_not : has_our_name c.args.conn.schema ≡ false = search rules in is_not))

pub returns-in-Err-clause-refused : goal.returns-in-Err-clause-refused
returns-in-Err-clause-refused g c clean named = absurd (both _ named (let is_not : has_our_name c.args.conn.schema ≡ false = search rules in is_not))
