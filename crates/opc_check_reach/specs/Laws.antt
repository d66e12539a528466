-- Which patterns are met, for those who write a policy.
use Rattle.std.specs.Prelude.{◌≡◌, ◌↔◌, IsTrue, ℕ, List, [], ◌∷◌, codes}
use Rattle.std.specs.List.{AllByRecursion}
use Rattle.opc_names.specs.Names.{qualifiers}
use Rattle.opc_check_reach.specs.Forms.{decides}
use Rattle.opc_check_reach.specs.Reach.{Decides, IsMet}

-- the patterns of the base policy are met
abbrev pub BasePatternsAreMet : Type 0
BasePatternsAreMet =
    AllByRecursion IsMet
    (codes "MVS.CANCEL.JOB.PAY*" ∷ codes "MVS.CANCEL.JOB.*" ∷ codes "MVS.DISPLAY.JOB.SECRET"
    ∷ codes "MVS.DISPLAY.**" ∷ codes "MVS.VARY.DEV" ∷ codes "MVS.**" ∷ [])

-- mistyped ones are not: a wrong word, a word too few, a name too many, a name that no console has
abbrev pub MistypedAreNotMet : Type 0
MistypedAreNotMet =
    AllByRecursion (λ pattern. IsMet pattern → ⊥)
    (codes "MVS.CANCLE.**" ∷ codes "MVS.DISPLAY.A" ∷ codes "MVS.CANCEL.JOB" ∷ codes "MVS.DISPLAY.U.0A80"
    ∷ codes "MVS.DISPLAY.CN.1C" ∷ [])

-- a pattern of `**` alone is met
abbrev pub StarsAreMet : Type 0
StarsAreMet = (pattern : List ℕ) → AllByRecursion (λ q. q ≡ codes "**") (qualifiers pattern) → IsMet pattern

-- what is computed by the forms is whether a pattern decides a resource about which the gate asks
abbrev pub FormsAreAsked : Type 0
FormsAreAsked = (pattern : List ℕ) (before : List (List ℕ)) → IsTrue (decides pattern before) ↔ Decides pattern before
