-- Worked cases of covering, computed.
use Rattle.std.proofs.Common.{◌≡◌, true, false, refl}
use Rattle.std.specs.Prelude.{codes}
use Rattle.opc_names.specs.Patterns.{covers_text}

pub the_name_itself : covers_text (codes "A.B") (codes "A.B") ≡ true
the_name_itself = refl

pub nothing_for_stars : covers_text (codes "A.B.**") (codes "A.B") ≡ true
nothing_for_stars = refl

pub nothing_for_a_star : covers_text (codes "A.B*") (codes "A.B") ≡ true
nothing_for_a_star = refl

pub not_the_parent : covers_text (codes "A.B.*") (codes "A.B") ≡ false
not_the_parent = refl

pub more_after_the_last_star : covers_text (codes "A.**.B.*") (codes "A.B.C.X") ≡ true
more_after_the_last_star = refl

pub any_number_for_stars : covers_text (codes "A.**.B") (codes "A.X.Y.B") ≡ true
any_number_for_stars = refl

pub one_for_a_star_in_the_middle : covers_text (codes "A.*.B") (codes "A.X.Y.B") ≡ false
one_for_a_star_in_the_middle = refl

pub one_character_for_a_percent : covers_text (codes "A.%") (codes "A.XY") ≡ false
one_character_for_a_percent = refl
