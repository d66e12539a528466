-- Where nobody may, there is no paragraph.
use Rattle.std.proofs.Common.{◌≡◌, ◌∙◌, ◌++◌, ℕ, Bool, true, false, not, List, [], ◌∷◌, Option, ap, ap₂, flat_map, refl, if◌then◌else◌}
use Rattle.std.specs.Prelude.{◌&&◌, ◌||◌}
use Rattle.std.specs.List.{list_any}
use Rattle.opc_policy_sources.specs.declared.sources.LevelSource.{LevelSource}
use Rattle.opc_answers.specs.declared.lines.UserLine.{UserLine}
use Rattle.opc_answers.specs.Texts.{may}
use Rattle.opc_answers_sheet.specs.declared.ways.Way.{Way}
use Rattle.opc_answers_sheet.specs.Cells.{by_source, paragraph, users_at}
use Rattle.opc_answers_sheet.specs.Ways.{groups_after, ids_by, may_by, sources_of, way}

not_first : (a b : Bool) → (a || b) ≡ false → a ≡ false
not_first true b is = is
not_first false b is = refl

not_later : (a b : Bool) → (a || b) ≡ false → b ≡ false
not_later true b is = cc
not_later false b is = is

none_by : (w : Way) (lines : List UserLine) → list_any may lines ≡ false → ids_by true w lines ≡ []
none_by w [] none = refl
none_by w (l ∷ lines) none =
    let first : may_by w l ≡ false = rw (not_first (may l) (list_any may lines) none) refl in
    rw first (none_by w lines (not_later (may l) (list_any may lines) none))

no_paragraph : (console : Option (List ℕ)) (warned : Bool) (unlisted : ℕ) (lines : List UserLine) → list_any may lines ≡ false
    → (sources : List (Option LevelSource)) → flat_map (by_source console warned unlisted lines) sources ≡ []
no_paragraph console warned unlisted lines none [] = refl
no_paragraph console warned unlisted lines none (s ∷ sources) =
    ap₂ (λ (x y : List ℕ). x ++ y)
    (ap (λ ids. paragraph (way console warned s) ids unlisted (ids_by false (way console warned s) lines)) (none_by (way console warned s) lines none))
    (no_paragraph console warned unlisted lines none sources)

pub nobody_at : (console : Option (List ℕ)) (unlisted : ℕ) (lines : List UserLine) → list_any may lines ≡ false
    → users_at console unlisted lines ≡ []
nobody_at console unlisted lines none =
    ap₂ (λ (x y : List ℕ). x ++ y) (no_paragraph console false unlisted lines none (sources_of (groups_after lines [])))
    (no_paragraph console true unlisted lines none (sources_of (groups_after lines [])))
