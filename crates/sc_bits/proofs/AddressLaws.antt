-- The laws of bits at the enum: each is that of nets, taken over by two maps that are inverse.
use Rattle.std.proofs.Common.{◌≡◌, ◌<◌, ◌↔◌, ℕ, Bool, true, false, IsTrue, refl, sym, ap, ◌∙◌, subst}
use Rattle.sc_ip.specs.declared.ip.Ip.{Ip}
use Rattle.sc_ip.specs.declared.ip.Ip.TheVariants.{V4, V6}
use Rattle.sc_ip.specs.Addresses.{IsIp, is_in_range}
use Rattle.sc_bits.specs.Blocks.{Block, IsBlock, block_bit, block_in_range, block_of, AgreeInRange, AreBlockBits}
use Rattle.sc_bits.proofs.BlockLaws.{bits_of_block, in_range_decides, in_range_rebuilt, block_of-fits, block_of-bits, same_from_block_bits}
use Rattle.sc_bits.specs.Addresses.{block, ip_by, ip, ip_bit, ip_of}

ip-block : (a : Ip) → ip (block a) ≡ a
ip-block (V4 x p) = refl
ip-block (V6 x p) = refl

block-ip_by : (b : Bool) (x p : ℕ) → block (ip_by b x p) ≡ record { is_v6 = b; address = x; prefix = p }
block-ip_by true x p = refl
block-ip_by false x p = refl

block-ip : (n : Block) → block (ip n) ≡ n
block-ip n = block-ip_by n.is_v6 n.address n.prefix

is_block : (a : Ip) → IsIp a → IsBlock (block a)
is_block (V4 x p) h = record { address_fits = h.0; prefix_fits = h.1 }
is_block (V6 x p) h = record { address_fits = h.0; prefix_fits = h.1 }

is_ip_by : (b : Bool) (x p : ℕ) → IsBlock (record { is_v6 = b; address = x; prefix = p }) → IsIp (ip_by b x p)
is_ip_by true x p h = (h.address_fits, h.prefix_fits)
is_ip_by false x p h = (h.address_fits, h.prefix_fits)

in_range-block : (a b : Ip) → is_in_range a b ≡ block_in_range (block a) (block b)
in_range-block (V4 x p) (V4 y q) = refl
in_range-block (V4 x p) (V6 y q) = refl
in_range-block (V6 x p) (V4 y q) = refl
in_range-block (V6 x p) (V6 y q) = refl

pub clauses : (a : Ip) → IsIp a → AreBlockBits (ip_bit a)
clauses a h = bits_of_block (block a) (is_block a h)

pub range : (a b : Ip) → IsIp a → IsIp b → IsTrue (is_in_range a b) ↔ AgreeInRange (ip_bit a) (ip_bit b)
range a b f g = subst (λ t. IsTrue t ↔ AgreeInRange (ip_bit a) (ip_bit b)) (sym (in_range-block a b)) (in_range_decides (block a) (block b) (is_block a f) (is_block b g))

pub fits : (f : ℕ → Bool) → AreBlockBits f → IsIp (ip_of f)
fits f h = is_ip_by (block_of f).is_v6 (block_of f).address (block_of f).prefix (block_of-fits f h)

pub bits : (f : ℕ → Bool) → AreBlockBits f → (k : ℕ) → k < 257 → ip_bit (ip_of f) k ≡ f k
bits f h k l = ap (λ n. block_bit n k) (block-ip (block_of f)) ∙ block_of-bits f h k l

pub only : (a b : Ip) → IsIp a → IsIp b → ((k : ℕ) → k < 257 → ip_bit a k ≡ ip_bit b k) → a ≡ b
only a b f g h = sym (ip-block a) ∙ ap ip (same_from_block_bits (block a) (block b) (is_block a f) (is_block b g) h) ∙ ip-block b

pub rebuilt_range : (f g : ℕ → Bool) → AreBlockBits f → AreBlockBits g → IsTrue (is_in_range (ip_of f) (ip_of g)) ↔ AgreeInRange f g
rebuilt_range f g p q =
    subst (λ t. IsTrue t ↔ AgreeInRange f g) (sym (in_range-block (ip_of f) (ip_of g) ∙ (λ i. block_in_range (block-ip (block_of f) i) (block-ip (block_of g) i)))) (in_range_rebuilt f g p q)
