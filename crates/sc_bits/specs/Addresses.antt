-- Addresses of the enum as those of the laws by bits.
use Rattle.std.specs.Prelude.{ℕ, Bool, true, false}
use Rattle.sc_ip.specs.declared.ip.Ip.{Ip}
use Rattle.sc_ip.specs.declared.ip.Ip.TheVariants.{V4, V6}
use Rattle.sc_bits.specs.Blocks.{Block, block_bit, block_of}

abbrev pub block : Ip → Block
block (V4 x p) = record { is_v6 = false; address = x; prefix = p }
block (V6 x p) = record { is_v6 = true; address = x; prefix = p }

abbrev pub ip_by : Bool → ℕ → ℕ → Ip
ip_by false x p = V4 x p
ip_by true x p = V6 x p

abbrev pub ip : Block → Ip
ip n = ip_by n.is_v6 n.address n.prefix

abbrev pub ip_bit : Ip → ℕ → Bool
ip_bit a k = block_bit (block a) k

-- the address that has these bits
abbrev pub ip_of : (ℕ → Bool) → Ip
ip_of f = ip (block_of f)
