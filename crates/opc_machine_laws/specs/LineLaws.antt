-- What each line and each rule says of which field, for those who read them.
use Rattle.std.specs.Prelude.{◌≡◌, ℕ, Bool, if◌then◌else◌, List, [], ◌∷◌, ◌++◌, codes, decimal, unwrap_or}
use Rattle.opc_names.specs.declared.auth.Auth.{Auth}
use Rattle.opc_names.specs.declared.class.Class.{Class}
use Rattle.opc_names.specs.declared.group.Group.{Group}
use Rattle.opc_names.specs.declared.level.Level.{Level}
use Rattle.opc_names.specs.Spellings.{auth_text, class_text, group_text, level_text, two_digits}
use Rattle.opc_terms.specs.declared.rule.Rule.TheVariants as rule
use Rattle.opc_terms.specs.Rules.{rule_text}
use Rattle.opc_policy_members.specs.declared.profile.Profile.{Profile}
use Rattle.opc_board.specs.declared.rows.ConsoleRow.{ConsoleRow}
use Rattle.opc_board.specs.declared.rows.DeviceRow.{DeviceRow}
use Rattle.opc_board.specs.declared.rows.UnitKind.{UnitKind}
use Rattle.opc_board.specs.declared.rows.UnitKind.TheVariants.{Job, Stc, Tsu}
use Rattle.opc_board.specs.declared.rows.UnitRow.{UnitRow}
use Rattle.opc_board.specs.Texts.{columns, console_line, device_line, left, reply_line, unit_line}
use Rattle.opc_state.specs.declared.account.AccountRow.{AccountRow}
use Rattle.opc_machine.specs.Imports.{batch_line}
use Rattle.opc_machine.specs.Listings.{account_line, profile_line}

-- one text or the other
abbrev pub said : Bool → List ℕ → List ℕ → List ℕ
said so text other = if so then text else other

-- a unit's kind, and the member of a started task in a column at the end
abbrev pub kind_columns : UnitKind → List ℕ → List (List ℕ)
kind_columns Job activity = codes "JOB" ∷ activity ∷ []
kind_columns (Stc member) activity = codes "STC" ∷ activity ∷ member ∷ []
kind_columns Tsu activity = codes "TSU" ∷ activity ∷ []

-- Each column of a line is that of one field, whatever the other fields are.
pub record LinesSayTheirFields : Type 0 where
  pub unit : (u : UnitRow) → (unit_line u).text ≡ columns (left 8 u.name
      ∷ kind_columns u.kind (said u.stopping (codes "STOPPING") (codes "ACTIVE")))
  pub device : (d : DeviceRow) → (device_line d).text ≡ columns (d.number
      ∷ left 7 (said d.online (codes "ONLINE") (codes "OFFLINE")) ∷ left 6 (unwrap_or d.volume (codes "------"))
      ∷ unwrap_or d.unit (codes "-") ∷ [])
  pub console : (c : ConsoleRow) → (console_line c).text ≡ columns (left 8 c.name
      ∷ left 7 (said c.online (codes "ONLINE") (codes "OFFLINE")) ∷ said c.monitor (codes "MN") (codes "--")
      ∷ auth_text c.auth ∷ unwrap_or c.user (codes "-") ∷ [])
  pub reply : (id : ℕ) (text : List ℕ) → (reply_line id text).text ≡ columns (two_digits id ∷ text ∷ [])
  pub profile : (p : Profile) → (profile_line p).text ≡ columns (p.pattern ∷ codes "UACC" ∷ level_text p.uacc
      ∷ codes "OWNER" ∷ p.owner ∷ (if p.warning then codes "WARNING" ∷ [] else []))
  pub account : (number : ℕ) (row : AccountRow) → (account_line (number, row)).text ≡ columns (decimal number
      ∷ decimal row.moment ∷ row.console ∷ row.user ∷ row.code ∷ row.rule ∷ [])
  pub batch : (number : ℕ) (what : List ℕ) → (batch_line number what).text
      ≡ codes "BATCH " ++ decimal number ++ codes " " ++ what

-- So do rules: that of a profile names its class, its pattern and both levels, and that of a group the group and the
-- authority.
pub record RulesSayTheirFields : Type 0 where
  pub profile : (class : Class) (pattern : List ℕ) (held needed : Level) (warned : Bool)
      → rule_text (rule.Profile class pattern held needed warned)
      ≡ codes "PROFILE " ++ class_text class ++ codes " " ++ pattern ++ codes " HELD " ++ level_text held
      ++ codes " NEEDED " ++ level_text needed ++ said warned (codes " WARNED") []
  pub group : (g : Group) (a : Auth) → rule_text (rule.ConsoleGroup g a)
      ≡ codes "GROUP " ++ group_text g ++ codes " AUTH " ++ auth_text a
