-- What each line and each rule says of which field.
use Rattle.std.proofs.Common.{◌≡◌, ℕ, Bool, true, false, if◌then◌else◌, List, [], ◌∷◌, Option, Some, None, codes, unwrap_or, refl, ap, ◌∙◌}
use Rattle.opc_names.specs.Spellings.{auth_text, level_text}
use Rattle.opc_board.specs.declared.rows.UnitKind.{UnitKind}
use Rattle.opc_board.specs.declared.rows.UnitKind.TheVariants.{Job, Stc, Tsu}
use Rattle.opc_board.specs.Texts.{activity_text, columns, kind_text, left, member_columns, monitor_text, online_text, text_or}
use Rattle.opc_machine.specs.Listings.{warning_columns}
use Rattle.opc_machine_laws.specs.LineLaws.{LinesSayTheirFields, RulesSayTheirFields, kind_columns, said}

kinds : (kind : UnitKind) (stopping : Bool) → kind_text kind ∷ activity_text stopping ∷ member_columns kind
    ≡ kind_columns kind (said stopping (codes "STOPPING") (codes "ACTIVE"))
kinds Job true = refl
kinds Job false = refl
kinds (Stc member) true = refl
kinds (Stc member) false = refl
kinds Tsu true = refl
kinds Tsu false = refl

online : (b : Bool) → online_text b ≡ said b (codes "ONLINE") (codes "OFFLINE")
online true = refl
online false = refl

monitor : (b : Bool) → monitor_text b ≡ said b (codes "MN") (codes "--")
monitor true = refl
monitor false = refl

given : (none : List ℕ) (o : Option (List ℕ)) → text_or none o ≡ unwrap_or o none
given none None = refl
given none (Some text) = refl

warning : (b : Bool) → ◌≡◌ {A = List (List ℕ)} (warning_columns b) (if b then codes "WARNING" ∷ [] else [])
warning true = refl
warning false = refl

pub lines_say : LinesSayTheirFields
lines_say = record {
  unit = λ u. ap (λ more. columns (left 8 u.name ∷ more)) (kinds u.kind u.stopping);
  device = λ d.
      ap (λ state. columns (d.number ∷ left 7 state ∷ left 6 (text_or (codes "------") d.volume) ∷ text_or (codes "-") d.unit ∷ [])) (online d.online)
      ∙ ap (λ volume. columns (d.number ∷ left 7 (said d.online (codes "ONLINE") (codes "OFFLINE")) ∷ left 6 volume ∷ text_or (codes "-") d.unit ∷ []))
      (given (codes "------") d.volume)
      ∙ ap (λ unit. columns (d.number ∷ left 7 (said d.online (codes "ONLINE") (codes "OFFLINE")) ∷ left 6 (unwrap_or d.volume (codes "------")) ∷ unit ∷ []))
      (given (codes "-") d.unit);
  console = λ c.
      ap (λ state. columns (left 8 c.name ∷ left 7 state ∷ monitor_text c.monitor ∷ auth_text c.auth ∷ text_or (codes "-") c.user ∷ [])) (online c.online)
      ∙ ap (λ shows. columns (left 8 c.name ∷ left 7 (said c.online (codes "ONLINE") (codes "OFFLINE")) ∷ shows ∷ auth_text c.auth
      ∷ text_or (codes "-") c.user ∷ [])) (monitor c.monitor)
      ∙ ap (λ user. columns (left 8 c.name ∷ left 7 (said c.online (codes "ONLINE") (codes "OFFLINE")) ∷ said c.monitor (codes "MN") (codes "--")
      ∷ auth_text c.auth ∷ user ∷ [])) (given (codes "-") c.user);
  reply = λ id text. refl;
  profile = λ p. ap (λ more. columns (p.pattern ∷ codes "UACC" ∷ level_text p.uacc ∷ codes "OWNER" ∷ p.owner ∷ more)) (warning p.warning);
  account = λ number row. refl;
  batch = λ number what. refl;
}

pub rules_say : RulesSayTheirFields
rules_say = record { profile = λ class pattern held needed warned. refl; group = λ g a. refl }
