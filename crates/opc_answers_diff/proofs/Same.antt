-- Where both sides are the same nothing is printed.
use Rattle.std.proofs.Common.{◌≡◌, ◌∙◌, ap, ap₂, sym, refl, ℕ, cond, List, [], ◌∷◌, ◌++◌, Option, Some, None, filter, map}
use Rattle.std.specs.Prelude.{not}
use Rattle.std.specs.List.{flat_map, slice_get}
use Rattle.std.specs.Str.{bytes_eq}
use Rattle.opc_names.specs.declared.class.Class.TheVariants.{Console, Opercmds}
use Rattle.opc_policy_deciders.specs.declared.kind.AskedKind.{AskedKind}
use Rattle.opc_policy_deciders.specs.Forms.{forms}
use Rattle.opc_policy_deciders.specs.Kinds.{kinds}
use Rattle.opc_policy_deciders.specs.Pairs.{IsDecidedByBoth}
use Rattle.opc_policy_members.specs.declared.profile.Profile.{Profile}
use Rattle.opc_board.specs.declared.board.BoardRows.{BoardRows}
use Rattle.opc_answers.specs.declared.members.UserWithGroups.{UserWithGroups}
use Rattle.opc_answers.specs.declared.room.Room.{Room}
use Rattle.opc_answers.specs.Deciding.{decider}
use Rattle.opc_answers_may.specs.declared.commands.FormsAsked.TheVariants.{OfKind}
use Rattle.opc_answers_may.specs.MayTexts.{names_of}
use Rattle.opc_answers_diff.specs.declared.asked.Asked.{Asked}
use Rattle.opc_answers_diff.specs.declared.asked.Asked.TheVariants.{Logon, Resource}
use Rattle.opc_answers_diff.specs.declared.compared.Compared.{Compared}
use Rattle.opc_answers_diff.specs.declared.consoles.ConsoleChange.{ConsoleChange}
use Rattle.opc_answers_diff.specs.declared.verdicts.UserChange.{UserChange}
use Rattle.opc_answers_diff.specs.Consoles as boards
use Rattle.opc_answers_diff.specs.Laws.{SamePrintsNothing}
use Rattle.opc_answers_diff.specs.Logons.{logon_changes}
use Rattle.opc_answers_diff.specs.Members.{ids_of_both, member_change, member_in}
use Rattle.opc_answers_diff.specs.Sections.{AreFoundAt, IsCompared, decides_at, found_changes, if_any, kind_changes, kind_json, kind_text, one_at, other_at, section_json, section_text}
use Rattle.opc_answers_diff.specs.Verdicts.{at_console, changes_at, consoles_named, user_change, user_changes}
use Rattle.opc_answers_diff.proofs.Differing.{decided_at_places, first_named}
use Rattle.opc_answers_diff.proofs.Skipped.{itself, unlisted}

none_at : (asked : Asked) (one other : Option Profile) (console : Option (List ℕ)) (before after : List UserWithGroups) (ids : List (List ℕ))
    → one ≡ other → before ≡ after → changes_at asked one other (map (member_change before after) ids) console ≡ []
none_at asked one other console before after [] same sides = refl
none_at asked one other console before after (id ∷ ids) same sides =
    ap (λ b. cond b (user_change asked one other console (member_change before after id) ∷ rest) rest)
    (unlisted asked one other console (member_change before after id) same (ap (λ l. member_in l id) sides))
    ∙ none_at asked one other console before after ids same sides
  where
    rest : List UserChange
    rest = changes_at asked one other (map (member_change before after) ids) console

flat_none : {A B : Type 0} (f : A → List B) (xs : List A) → ((x : A) → f x ≡ []) → flat_map f xs ≡ []
flat_none f [] none = refl
flat_none f (x ∷ xs) none = ap₂ (λ y ys. y ++ ys) (none x) (flat_none f xs none)

none_of_both : (asked : Asked) (one other : Option Profile) (before after : List UserWithGroups) (ids : List (List ℕ)) → one ≡ other → before ≡ after
    → user_changes asked one other (map (member_change before after) ids) ≡ []
none_of_both asked one other before after ids same sides =
    ap₂ (λ xs ys. xs ++ ys) (none_at asked one other None before after ids same sides)
    (flat_none (at_console asked one other (map (member_change before after) ids)) (consoles_named one other)
    (λ c. none_at asked one other (Some c) before after ids same sides))

-- ---- sections

module _ (c : Compared) (is : IsCompared c) (same : c.before ≡ c.after) where
  no_changes : (kind : AskedKind) (at at' : ℕ) (found : List (Option (List ℕ))) → AreFoundAt c at at' found
      → (names_of (OfKind kind) found ≡ [] → ⊥) → kind_changes c kind at at' ≡ []
  no_changes kind at at' found are some =
      let n = first_named kind
      (IsDecidedByBoth c.before.policy c.after.policy (slice_get c.patterns.items at) (slice_get c.others.items at')) forms found are some in
      let places = decided_at_places c at at' n.form n.resource is n.holds in
      ap (user_changes (Resource kind) (one_at c at) (other_at c at')) is.members
      ∙ none_of_both (Resource kind) (one_at c at) (other_at c at') c.before.members c.after.members (ids_of_both c.before.members c.after.members)
      (places.0 ∙ ap (λ (room : Room). decider room.policy Opercmds n.resource) same ∙ sym places.1)
      (ap (λ (room : Room). room.members) same)

  none_found : (kind : AskedKind) (at at' : ℕ) (found : List (Option (List ℕ))) → AreFoundAt c at at' found → found_changes c kind found at at' ≡ []
  none_found kind at at' found are = go (names_of (OfKind kind) found) refl
    where
      go : (names : List (List ℕ)) → names_of (OfKind kind) found ≡ names → if_any names (kind_changes c kind at at') ≡ []
      go [] none = refl
      go (x ∷ xs) some = no_changes kind at at' found are (λ none. let bad : x ∷ xs ≡ [] = sym some ∙ none in cc)

  no_text : (at at' : ℕ) (found : List (Option (List ℕ))) → AreFoundAt c at at' found → (kind : AskedKind) → kind_text c at at' found kind ≡ []
  no_text at at' found are kind = ap (section_text kind found (decides_at c at at')) (none_found kind at at' found are)

  no_json : (at at' : ℕ) (found : List (Option (List ℕ))) → AreFoundAt c at at' found → (kind : AskedKind) → kind_json c at at' found kind ≡ []
  no_json at at' found are kind = ap (section_json kind found (one_at c at) (other_at c at')) (none_found kind at at' found are)

  no_logons : (console : List ℕ) → logon_changes c.before.policy c.after.policy c.members console ≡ []
  no_logons console =
      ap (λ l. changes_at Logon (decider c.before.policy Console console) (decider c.after.policy Console console) l (Some console)) is.members
      ∙ none_at Logon (decider c.before.policy Console console) (decider c.after.policy Console console) (Some console) c.before.members
      c.after.members (ids_of_both c.before.members c.after.members) (ap (λ (room : Room). decider room.policy Console console) same)
      (ap (λ (room : Room). room.members) same)

-- ---- consoles

same_said : (before after : BoardRows) (names : List (List ℕ)) → before ≡ after
    → filter boards.says_else (map (boards.change_of before after) names) ≡ []
same_said before after [] same = refl
same_said before after (name ∷ names) same =
    ap (λ b. cond b (boards.change_of before after name ∷ rest) rest)
    (ap (λ l. not (bytes_eq (boards.said_of (boards.change_of l after name).before) (boards.said_of (boards.change_of before after name).after))) same
    ∙ ap not (itself (boards.said_of (boards.change_of after after name).before)))
    ∙ same_said before after names same
  where
    rest : List ConsoleChange
    rest = filter boards.says_else (map (boards.change_of before after) names)

pub same_prints_nothing : SamePrintsNothing
same_prints_nothing c is same = record {
  text = λ at at' found are. flat_none (kind_text c at at' found) kinds (no_text c is same at at' found are);
  json = λ at at' found are. flat_none (kind_json c at at' found) kinds (no_json c is same at at' found are);
  logons = no_logons c is same;
  consoles = same_said c.before.board c.after.board (boards.names_of_both c.before.board.consoles c.after.board.consoles)
      (ap (λ (room : Room). room.board) same);
}
