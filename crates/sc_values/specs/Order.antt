-- The total order of values: kinds in the order of the enum, then what a value holds.
use Rattle.std.specs.Prelude.{ℕ, List}
use Rattle.std.specs.declared.cmp.Ordering.{Ordering}
use Rattle.std.specs.declared.cmp.Ordering.TheVariants.{Equal}
use Rattle.std.specs.Ordering.{nat_cmp, int_cmp, bool_cmp, ordering_then}
use Rattle.std.specs.Cmp.Lexicographic.{slice_cmp}
use Rattle.sc_names.specs.Uids.{text_cmp, uid_cmp}
use Rattle.sc_ip.specs.declared.ip.Ip.{Ip}
use Rattle.sc_ip.specs.Addresses.{width_of, address_of, prefix_of}
use Rattle.sc_values.specs.declared.value.Value.{Value, Value-F}
use Rattle.sc_values.specs.declared.value.Value.TheOpen as v
use Rattle.sc_values.specs.contracts.value.ValueOrd.TheImpl.{ghosts}

-- the order that `Ord` gives
unfoldable pub value_cmp : Value → Value → Ordering
value_cmp = ghosts.cmp

-- ---- the same order, read off what two values hold

-- the place of a kind
abbrev pub kind : Value-F Value → ℕ
kind (v.Bool x) = 0
kind (v.Long x) = 1
kind (v.String x) = 2
kind (v.Entity x) = 3
kind (v.Set x) = 4
kind (v.Record x) = 5
kind (v.Decimal x) = 6
kind (v.Ip x) = 7

-- by version, address and prefix
abbrev pub ip_cmp : Ip → Ip → Ordering
ip_cmp a b = ordering_then (nat_cmp (width_of a) (width_of b))
    (ordering_then (nat_cmp (address_of a) (address_of b)) (nat_cmp (prefix_of a) (prefix_of b)))

-- fields by name, then value
abbrev pub field_cmp : List ℕ × Value → List ℕ × Value → Ordering
field_cmp f g = ordering_then (text_cmp f.0 g.0) (value_cmp f.1 g.1)

-- two values of one kind: numbers by size, false before true, texts and uids by bytes, sets and records as lists, of
-- which a proper prefix comes first
abbrev pub within_kind : Value-F Value → Value-F Value → Ordering
within_kind (v.Bool a) (v.Bool b) = bool_cmp a b
within_kind (v.Long m) (v.Long n) = int_cmp m n
within_kind (v.String s) (v.String t) = text_cmp s t
within_kind (v.Entity a) (v.Entity b) = uid_cmp a b
within_kind (v.Set xs) (v.Set ys) = slice_cmp value_cmp xs ys
within_kind (v.Record fs) (v.Record gs) = slice_cmp field_cmp fs gs
within_kind (v.Decimal m) (v.Decimal n) = int_cmp m n
within_kind (v.Ip a) (v.Ip b) = ip_cmp a b
within_kind x y = Equal

-- by kind, then by what is held
abbrev pub by_kind : Value-F Value → Value-F Value → Ordering
by_kind x y = ordering_then (nat_cmp (kind x) (kind y)) (within_kind x y)
