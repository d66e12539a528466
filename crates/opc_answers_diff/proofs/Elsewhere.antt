-- At a console for which no entry gives the level, what is said is what is said at none.
use Rattle.std.proofs.Common.{◌≡◌, ◌∙◌, ap, ap₂, sym, refl, ℕ, Bool, true, false, ◌||◌, List, [], ◌∷◌, Option, Some, None}
use Rattle.std.specs.Prelude.{if◌then◌else◌, not}
use Rattle.std.specs.BTreeSet.{insert_key}
use Rattle.std.specs.List.{list_any}
use Rattle.std.specs.Option.{is_some, option_eq, option_map}
use Rattle.std.specs.Ordering.{is_eq, match_ordering}
use Rattle.std.specs.Str.{bytes_eq}
use Rattle.std.specs.declared.cmp.Ordering.{Ordering}
use Rattle.std.specs.declared.cmp.Ordering.TheVariants.{Less, Equal, Greater}
use Rattle.std.proofs.lemmas.Map.Text.{is_eq-slice_cmp}
use Rattle.std.proofs.lemmas.Slice.Eq.{bytes_eq-Decides}
use Rattle.opc_names.specs.declared.level.Level.{Level}
use Rattle.opc_terms.specs.declared.rule.Rule.TheVariants as rule
use Rattle.opc_policy_members.specs.declared.entry.Entry.{Entry}
use Rattle.opc_policy_members.specs.declared.profile.Profile.{Profile}
use Rattle.opc_policy_members.specs.declared.user.User.{User}
use Rattle.opc_policy_members.specs.Members.{name_cmp}
use Rattle.opc_policy.specs.declared.ruling.Ruling.TheVariants.{Denied}
use Rattle.opc_policy.specs.Rulings.{profile_ruling, ruling_at}
use Rattle.opc_policy_sources.specs.Sources.{held_from}
use Rattle.opc_policy_sources.proofs.Raising.{plain_where_none_raises, unnamed_raises_none}
use Rattle.opc_policy_sources.proofs.SourceLevels.{held_so}
use Rattle.opc_answers.specs.declared.lines.UserLine.{UserLine}
use Rattle.opc_answers.specs.declared.logons.Instead.TheVariants.{Hidden}
use Rattle.opc_answers.specs.declared.members.UserWithGroups.{UserWithGroups}
use Rattle.opc_answers.specs.Who.{by_profile, is_denied, is_raised, line, member_line}
use Rattle.opc_policy_deciders.specs.declared.kind.AskedKind.{AskedKind}
use Rattle.opc_answers_diff.specs.declared.asked.Asked.TheVariants.{Resource}
use Rattle.opc_answers_diff.proofs.ById.{bytes_sym}
use Rattle.opc_answers_diff.specs.Laws.{DiffersAsAtNone, RaisesWhereNamed}
use Rattle.opc_answers_diff.specs.Members.{member_in}
use Rattle.opc_answers_diff.specs.Verdicts.{as_asked, consoles_named, consoles_with, entries_of, is_raised_in, said_of, side_line, with_console}

none_left : (a b : Bool) → (a || b) ≡ false → a ≡ false
none_left true b none = cc
none_left false b none = refl

none_right : (a b : Bool) → (a || b) ≡ false → b ≡ false
none_right true b none = cc
none_right false b none = none

-- what a profile rules where no entry for the console gives the level
same_ruling : (p : Profile) (user : User) (console : List ℕ) (groups : List (List ℕ)) (needed : Level)
    → is_some (held_from p user (Some console) groups).when ≡ false
    → profile_ruling p user (Some console) groups needed ≡ profile_ruling p user None groups needed
same_ruling p user console groups needed none =
    ap (λ l. ruling_at p l needed)
    (sym (held_so p user (Some console) groups) ∙ ap (λ h. h.level) (plain_where_none_raises p user console groups none)
    ∙ held_so p user None groups)

same_line : (b : Bool) (d : Option Profile) (user : User) (console : List ℕ) (groups : List (List ℕ)) (level : Level)
    → is_raised (if b then line user (Some (Denied rule.Revoked)) None else by_profile d (Some console) level groups user) ≡ false
    → (if b then line user (Some (Denied rule.Revoked)) None else by_profile d (Some console) level groups user)
    ≡ (if b then line user (Some (Denied rule.Revoked)) None else by_profile d None level groups user)
same_line true d user console groups level none = refl
same_line false None user console groups level none = refl
same_line false (Some p) user console groups level none =
    ap₂ (λ r h. line user (Some r) (Some h)) (same_ruling p user console groups level none)
    (plain_where_none_raises p user console groups none)

-- hiding a line leaves the level as it is held
asked_raised : (kind : AskedKind) (m : UserWithGroups) (l : UserLine) → is_raised (as_asked (Resource kind) m l) ≡ is_raised l
asked_raised kind m l = go kind.is_line (is_denied l.ruling)
  where
    go : (b c : Bool) → is_raised (if b then (if c then record l { instead = Some Hidden } else l) else l) ≡ is_raised l
    go true true = refl
    go true false = refl
    go false c = refl

side_same : (kind : AskedKind) (d : Option Profile) (console : List ℕ) (m : UserWithGroups)
    → is_raised (side_line (Resource kind) d (Some console) m) ≡ false
    → side_line (Resource kind) d (Some console) m ≡ side_line (Resource kind) d None m
side_same kind d console m none =
    ap (as_asked (Resource kind) m) (same_line m.user.revoked d m.user console m.groups kind.level
    (sym (asked_raised kind m (member_line d (Some console) kind.level m)) ∙ none))

said_same : (kind : AskedKind) (d : Option Profile) (console : List ℕ) (m : Option UserWithGroups)
    → is_raised_in (option_map (side_line (Resource kind) d (Some console)) m) ≡ false
    → option_map (side_line (Resource kind) d (Some console)) m ≡ option_map (side_line (Resource kind) d None) m
said_same kind d console None none = refl
said_same kind d console (Some m) none = ap Some (side_same kind d console m none)

pub differs_as_at_none : DiffersAsAtNone
differs_as_at_none before after kind one other console id none =
    ap₂ (λ (b a : Option UserLine). not (bytes_eq (said_of (Resource kind) b) (said_of (Resource kind) a)))
    (said_same kind one console (member_in before.members id) (none_left _ _ none))
    (said_same kind other console (member_in after.members id) (none_right _ _ none))

-- ---- where entries raise

or_itself : (a b : Bool) → (a || b) ≡ (a || (a || b))
or_itself true b = refl
or_itself false b = refl

or_swap : (a b c : Bool) → (a || (b || c)) ≡ (b || (a || c))
or_swap true true c = refl
or_swap true false c = refl
or_swap false b c = refl

inserted : (c k : List ℕ) (xs : List (List ℕ)) → list_any (bytes_eq c) (insert_key name_cmp xs k) ≡ (bytes_eq c k || list_any (bytes_eq c) xs)
inserted c k [] = refl
inserted c k (x ∷ xs) = go (name_cmp k x) refl (inserted c k xs)
  where
    go : (o : Ordering) → name_cmp k x ≡ o
        → list_any (bytes_eq c) (insert_key name_cmp xs k) ≡ (bytes_eq c k || list_any (bytes_eq c) xs)
        → list_any (bytes_eq c) (match_ordering o (k ∷ x ∷ xs) (x ∷ xs) (x ∷ insert_key name_cmp xs k))
        ≡ (bytes_eq c k || (bytes_eq c x || list_any (bytes_eq c) xs))
    go Less is later = refl
    go Equal is later =
        let same : k ≡ x = (bytes_eq-Decides k x).0 (sym (is_eq-slice_cmp k x) ∙ ap is_eq is) in
        or_itself (bytes_eq c x) (list_any (bytes_eq c) xs)
        ∙ ap (λ y. bytes_eq c y || (bytes_eq c x || list_any (bytes_eq c) xs)) (sym same)
    go Greater is later =
        ap (λ b. bytes_eq c x || b) later ∙ or_swap (bytes_eq c x) (bytes_eq c k) (list_any (bytes_eq c) xs)

abbrev names : List ℕ → Entry → Bool
names c e = option_eq bytes_eq e.when (Some c)

with_one : (c : List ℕ) (when : Option (List ℕ)) (xs : List (List ℕ)) → list_any (bytes_eq c) (with_console when xs)
    ≡ (option_eq bytes_eq when (Some c) || list_any (bytes_eq c) xs)
with_one c None xs = refl
with_one c (Some w) xs = inserted c w xs ∙ ap (λ b. b || list_any (bytes_eq c) xs) (bytes_sym c w)

named_so : (c : List ℕ) (entries : List Entry) (xs : List (List ℕ)) → list_any (bytes_eq c) (consoles_with entries xs)
    ≡ (list_any (names c) entries || list_any (bytes_eq c) xs)
named_so c [] xs = refl
named_so c (e ∷ entries) xs =
    named_so c entries (with_console e.when xs) ∙ ap (λ b. list_any (names c) entries || b) (with_one c e.when xs)
    ∙ or_swap (list_any (names c) entries) (names c e) (list_any (bytes_eq c) xs)
    ∙ grouped (names c e) (list_any (names c) entries) (list_any (bytes_eq c) xs)
  where
    grouped : (a b r : Bool) → (a || (b || r)) ≡ ((a || b) || r)
    grouped true b r = refl
    grouped false b r = refl

unraised : (b : Bool) (d : Option Profile) (user : User) (c : List ℕ) (groups : List (List ℕ)) (level : Level)
    → list_any (names c) (entries_of d) ≡ false
    → is_raised (if b then line user (Some (Denied rule.Revoked)) None else by_profile d (Some c) level groups user) ≡ false
unraised true d user c groups level none = refl
unraised false None user c groups level none = refl
unraised false (Some p) user c groups level none = unnamed_raises_none p user c groups none

side_unraised : (kind : AskedKind) (d : Option Profile) (c : List ℕ) (m : Option UserWithGroups) → list_any (names c) (entries_of d) ≡ false
    → is_raised_in (option_map (side_line (Resource kind) d (Some c)) m) ≡ false
side_unraised kind d c None none = refl
side_unraised kind d c (Some m) none =
    asked_raised kind m (member_line d (Some c) kind.level m) ∙ unraised m.user.revoked d m.user c m.groups kind.level none

pub raises_where_named : RaisesWhereNamed
raises_where_named before after kind one other c id raised =
    go (list_any (names c) (entries_of one)) (list_any (names c) (entries_of other)) refl refl
  where
    both : (a b : Bool) → list_any (names c) (entries_of one) ≡ a → list_any (names c) (entries_of other) ≡ b
        → list_any (bytes_eq c) (consoles_named one other) ≡ (b || (a || false))
    both a b is also =
        named_so c (entries_of other) (consoles_with (entries_of one) [])
        ∙ ap₂ (λ x y. x || y) also (named_so c (entries_of one) [] ∙ ap (λ x. x || false) is)

    go : (a b : Bool) → list_any (names c) (entries_of one) ≡ a → list_any (names c) (entries_of other) ≡ b
        → list_any (bytes_eq c) (consoles_named one other) ≡ true
    go true true is also = both true true is also
    go true false is also = both true false is also
    go false true is also = both false true is also
    go false false is also =
        let bad : true ≡ false = sym raised ∙ ap₂ (λ x y. x || y) (side_unraised kind one c (member_in before.members id) is)
        (side_unraised kind other c (member_in after.members id) also) in
        cc
