-- The order of sorts: by their kinds, then by what they are made of.
use Rattle.std.specs.Prelude.{ℕ, List}
use Rattle.std.specs.declared.cmp.Ordering.{Ordering}
use Rattle.std.specs.declared.cmp.Ordering.TheVariants.{Equal}
use Rattle.std.specs.Ordering.{nat_cmp, ordering_then}
use Rattle.std.specs.Cmp.Lexicographic.{slice_cmp}
use Rattle.sc_names.specs.Uids.{text_cmp, uid_cmp}
use Rattle.sc_sorts.specs.declared.sort.Sort.{Sort, Sort-F}
use Rattle.sc_sorts.specs.declared.sort.Sort.TheOpen as s
use Rattle.sc_sorts.specs.contracts.sort.SortOrd.TheImpl.{ghosts}

-- the order that `Ord` gives
unfoldable pub sort_cmp : Sort → Sort → Ordering
sort_cmp = ghosts.cmp

-- ---- the same order, read off what two sorts are made of

-- the place of a kind
abbrev pub kind : Sort-F Sort → ℕ
kind s.Bool = 0
kind s.Long = 1
kind s.String = 2
kind s.Decimal = 3
kind s.Ip = 4
kind (s.Entity name choices) = 5
kind (s.Set member) = 6
kind (s.Record fields) = 7
kind (s.Option held) = 8

-- fields by name, then sort
abbrev pub field_cmp : List ℕ × Sort → List ℕ × Sort → Ordering
field_cmp f g = ordering_then (text_cmp f.0 g.0) (sort_cmp f.1 g.1)

-- two sorts of one kind: names by bytes, lists with a proper prefix first
abbrev pub within_kind : Sort-F Sort → Sort-F Sort → Ordering
within_kind (s.Entity m us) (s.Entity n vs) = ordering_then (text_cmp m n) (slice_cmp uid_cmp us vs)
within_kind (s.Set a) (s.Set b) = sort_cmp a b
within_kind (s.Record fs) (s.Record gs) = slice_cmp field_cmp fs gs
within_kind (s.Option a) (s.Option b) = sort_cmp a b
within_kind x y = Equal

-- by kind, then by what is within
abbrev pub by_kind : Sort-F Sort → Sort-F Sort → Ordering
by_kind x y = ordering_then (nat_cmp (kind x) (kind y)) (within_kind x y)
