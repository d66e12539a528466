-- Whole seconds.
use Rattle.std.proofs.Common.{◌≡◌, ◌≢◌, ℕ, zero, suc, ℤ, pos, negsuc, Some, None, refl}
use Rattle.opc_times.specs.Readings.{whole}

pub seconds : (x y : ℤ) (moment : ℕ) → x ≡ pos moment → y ≡ pos 0 → whole x y ≡ Some moment
seconds x y moment is none = rw (is, none) refl

pub no_seconds : (x y : ℤ) → y ≢ pos 0 → whole x y ≡ None
no_seconds (pos moment) (pos zero) some = absurd (some refl)
no_seconds (pos moment) (pos (suc rest)) some = refl
no_seconds (pos moment) (negsuc rest) some = refl
no_seconds (negsuc before) y some = refl
