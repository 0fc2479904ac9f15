-- The laws in the forms in which their users meet them.
use Rattle.std.proofs.Common.{ℕ, ◌≤◌, Some, None, Option, arith}
use Rattle.networks.specs.Networks.{NotBefore, NoLater}

pub sooner : (s t : ℕ) (a : Option ℕ) → s ≤ t → NotBefore t a → NotBefore s a
sooner s t None h k = tt
sooner s t (Some u) h k = omega arith

pub no_later_refl : (a : Option ℕ) → NoLater a a
no_later_refl None = tt
no_later_refl (Some u) = omega arith

pub no_later_trans : (a b c : Option ℕ) → NoLater a b → NoLater b c → NoLater a c
no_later_trans a b None p q = tt
no_later_trans a None (Some w) p q = absurd q
no_later_trans None (Some v) (Some w) p q = absurd p
no_later_trans (Some u) (Some v) (Some w) p q = omega arith
