-- The tests pass exactly the ranges that lie within the other.
use Rattle.std.proofs.Common.{◌≡◌, ◌==◌, ◌&&◌, ◌||◌, ◌↔◌, ◌⊎◌, inl, inr, ℕ, ◌-◌, ◌/◌, ◌^◌, Bool, true, false, IsTrue, refl, nat_le, leb-true, leb-false, eqb-true, eq-eqb}
use Rattle.std.proofs.lemmas.Bool.{and_parts}
use Rattle.sc_laws.proofs.BoolLaws.{same_truth}
use Rattle.sc_ip.specs.declared.ip.Ip.{Ip}
use Rattle.sc_ip.specs.declared.ip.Ip.TheVariants.{V4, V6}
use Rattle.sc_ip.specs.Addresses.{IsInRange, IsLoopback, IsMulticast, is_within, is_in_range, is_loopback, is_multicast}
use Rattle.sc_ip.proofs.RangeLaws.{within_from, not_within}

abbrev Within : ℕ → ℕ → ℕ → ℕ → Type 0
Within x p y q = (n : ℕ) → n / 2 ^ p ≡ x / 2 ^ p → n / 2 ^ q ≡ y / 2 ^ q

is_within-from : (x p y q : ℕ) → IsTrue (is_within x p y q) → Within x p y q
is_within-from x p y q t =
    let parts = and_parts (nat_le p q) (x / 2 ^ q == y / 2 ^ q) t in
    within_from x p y q (leb-true p q parts.0) (eqb-true (x / 2 ^ q) (y / 2 ^ q) parts.1)

is_within-at : (x p y q : ℕ) (b : Bool) → nat_le p q ≡ b → Within x p y q → IsTrue (b && (x / 2 ^ q == y / 2 ^ q))
is_within-at x p y q true e h = eq-eqb (x / 2 ^ q) (y / 2 ^ q) (h x refl)
is_within-at x p y q false e h = absurd (not_within x p y q (leb-false p q e) h)

is_within-to : (x p y q : ℕ) → Within x p y q → IsTrue (is_within x p y q)
is_within-to x p y q h = is_within-at x p y q (nat_le p q) refl h

pub is_in_range-decides : (a b : Ip) → IsTrue (is_in_range a b) ↔ IsInRange a b
is_in_range-decides (V4 x p) (V4 y q) = (λ t. record { same_version = refl; included = is_within-from x (32 - p) y (32 - q) t }, λ h. is_within-to x (32 - p) y (32 - q) h.included)
is_in_range-decides (V4 x p) (V6 y q) = (λ t. cc, λ h. let e = h.same_version in cc)
is_in_range-decides (V6 x p) (V4 y q) = (λ t. cc, λ h. let e = h.same_version in cc)
is_in_range-decides (V6 x p) (V6 y q) = (λ t. record { same_version = refl; included = is_within-from x (128 - p) y (128 - q) t }, λ h. is_within-to x (128 - p) y (128 - q) h.included)

pub in_range_is : (r : Bool) (a b : Ip) → (IsTrue r ↔ IsInRange a b) → r ≡ is_in_range a b
in_range_is r a b h = same_truth r (is_in_range a b) h (is_in_range-decides a b)

either : (a b : Bool) {P Q : Type 0} → (IsTrue a ↔ P) → (IsTrue b ↔ Q) → IsTrue (a || b) ↔ (P ⊎ Q)
either true b p q = (λ t. inl (p.0 refl), λ h. refl)
either false b p q = (λ t. inr (q.0 t), λ h. elim h [ inl x ↦ (let t = p.1 x in cc) | inr y ↦ q.1 y ])

pub is_loopback-decides : (a : Ip) → IsTrue (is_loopback a) ↔ IsLoopback a
is_loopback-decides a = either (is_in_range a (V4 0x7f00_0000 8)) (is_in_range a (V6 1 128)) (is_in_range-decides a (V4 0x7f00_0000 8)) (is_in_range-decides a (V6 1 128))

pub is_multicast-decides : (a : Ip) → IsTrue (is_multicast a) ↔ IsMulticast a
is_multicast-decides a =
    either (is_in_range a (V4 0xe000_0000 4)) (is_in_range a (V6 0xff00_0000_0000_0000_0000_0000_0000_0000 8))
    (is_in_range-decides a (V4 0xe000_0000 4)) (is_in_range-decides a (V6 0xff00_0000_0000_0000_0000_0000_0000_0000 8))
