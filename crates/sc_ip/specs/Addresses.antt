-- What is an address with a prefix, and when one range lies within another.
use Rattle.std.specs.Prelude.{◌≡◌, ◌==◌, ◌&&◌, ◌||◌, nat_le, ℕ, ◌-◌, ◌/◌, ◌^◌, ◌<◌, ◌≤◌, Bool, true, false, ◌⊎◌}
use Rattle.sc_ip.specs.declared.ip.Ip.{Ip}
use Rattle.sc_ip.specs.declared.ip.Ip.TheVariants.{V4, V6}

abbrev pub is_version_4 : Ip → Bool
is_version_4 (V4 address prefix) = true
is_version_4 (V6 address prefix) = false

-- how many bits an address of this version has
abbrev pub width_of : Ip → ℕ
width_of (V4 address prefix) = 32
width_of (V6 address prefix) = 128

abbrev pub address_of : Ip → ℕ
address_of (V4 address prefix) = address
address_of (V6 address prefix) = address

abbrev pub prefix_of : Ip → ℕ
prefix_of (V4 address prefix) = prefix
prefix_of (V6 address prefix) = prefix

-- address and prefix are within the version's bits
abbrev pub IsIp : Ip → Type 0
IsIp a = (address_of a < 2 ^ width_of a) × (prefix_of a ≤ width_of a)

-- b's range holds the address n: the two agree but for the bits behind the prefix
abbrev pub Covers : Ip → ℕ → Type 0
Covers b n = n / 2 ^ (width_of b - prefix_of b) ≡ address_of b / 2 ^ (width_of b - prefix_of b)

-- the versions are equal, and each address in a's range is in b's
pub record IsInRange (a b : Ip) : Type 0 where
  pub same_version : is_version_4 a ≡ is_version_4 b
  pub included : (n : ℕ) → Covers a n → Covers b n

-- within 127.0.0.0/8 or ::1/128
abbrev pub IsLoopback : Ip → Type 0
IsLoopback a = IsInRange a (V4 0x7f00_0000 8) ⊎ IsInRange a (V6 1 128)

-- within 224.0.0.0/4 or ff00::/8
abbrev pub IsMulticast : Ip → Type 0
IsMulticast a = IsInRange a (V4 0xe000_0000 4) ⊎ IsInRange a (V6 0xff00_0000_0000_0000_0000_0000_0000_0000 8)

-- ---- the same as tests, which definitions can compute with

-- the first range leaves at most as many lowest bits free, and the bits that the second one holds fast agree
abbrev pub is_within : ℕ → ℕ → ℕ → ℕ → Bool
is_within x x_free y y_free = nat_le x_free y_free && (x / 2 ^ y_free == y / 2 ^ y_free)

abbrev pub is_in_range : Ip → Ip → Bool
is_in_range (V4 x p) (V4 y q) = is_within x (32 - p) y (32 - q)
is_in_range (V4 x p) (V6 y q) = false
is_in_range (V6 x p) (V4 y q) = false
is_in_range (V6 x p) (V6 y q) = is_within x (128 - p) y (128 - q)

abbrev pub is_loopback : Ip → Bool
is_loopback a = is_in_range a (V4 0x7f00_0000 8) || is_in_range a (V6 1 128)

abbrev pub is_multicast : Ip → Bool
is_multicast a = is_in_range a (V4 0xe000_0000 4) || is_in_range a (V6 0xff00_0000_0000_0000_0000_0000_0000_0000 8)
