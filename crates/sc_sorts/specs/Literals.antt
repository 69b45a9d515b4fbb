-- What is told of a literal by itself.
use Rattle.std.specs.Prelude.{◌<◌, ⊤, ℕ, Bool, false, List}
use Rattle.std.specs.Ordering.{is_eq}
use Rattle.std.specs.Str.{chars}
use Rattle.sc_names.specs.declared.uid.Uid.{Uid}
use Rattle.sc_names.specs.Uids.{uid_cmp}
use Rattle.sc_pattern.specs.declared.part.Part.{Part}
use Rattle.sc_pattern.specs.Language.{is_match}
use Rattle.sc_bits.specs.Bits.{bit64}
use Rattle.sc_bits.specs.Addresses.{ip_bit}
use Rattle.sc_sorts.specs.declared.node.Literal.{Literal}
use Rattle.sc_sorts.specs.declared.node.Literal.TheVariants as literal

-- whether two literals that aren't one have one value: only one entity may be written twice, beside other choices
abbrev pub is_entity : Uid → Literal → Bool
is_entity u (literal.Entity v vs) = is_eq (uid_cmp u v)
is_entity u _ = false

abbrev pub same_entity : Literal → Literal → Bool
same_entity (literal.Entity u us) m = is_entity u m
same_entity _ m = false

-- a bit of a number or of an address
abbrev pub literal_bit : Literal → ℕ → Bool
literal_bit (literal.Long n) i = bit64 n i
literal_bit (literal.Decimal n) i = bit64 n i
literal_bit (literal.Ip ip) i = ip_bit ip i
literal_bit _ i = false

-- a place that a literal has, where it has bits
abbrev pub IsPlaceOf : Literal → ℕ → Type 0
IsPlaceOf (literal.Long n) i = i < 64
IsPlaceOf (literal.Decimal n) i = i < 64
IsPlaceOf (literal.Ip ip) i = i < 257
IsPlaceOf _ i = ⊤

-- whether a literal is a text that matches
abbrev pub literal_like : Literal → List Part → Bool
literal_like (literal.String text) p = is_match p (chars text)
literal_like _ p = false
