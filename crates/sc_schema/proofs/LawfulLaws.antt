-- What it takes for declarations to be lawful, part by part; for names that are known it is computed.
use Rattle.std.proofs.Common.{◌≡◌, ◌&&◌, ◌<◌, ltb, ℕ, zero, suc, List, [], ◌∷◌, slice_index, Bool, true, refl, arith}
use Rattle.std.proofs.lemmas.Bool.{ltb-true, and_parts}
use Rattle.std.specs.List.{AllByRecursion, list_all}
use Rattle.std.specs.List.Sorted.{IsStrictlySortedBy}
use Rattle.std.specs.Ordering.{is_lt}
use Rattle.std.specs.Str.{IsUtf8}
use Rattle.std.specs.declared.cmp.Ordering.{Ordering}
use Rattle.std.specs.declared.cmp.Ordering.TheVariants.{Less}
use Rattle.std.proofs.lemmas.Str.{IsUtf8-from_ascii}
use Rattle.sc_lists.proofs.OrderingLaws.{is_lt_true}
use Rattle.sc_names.specs.Uids.{text_cmp, uid_cmp}
use Rattle.sc_schema.specs.declared.ty.EntityKind.{EntityKind}
use Rattle.sc_schema.specs.declared.ty.Ty.TheVariants.{Record}
use Rattle.sc_schema.specs.Declarations.{Declarations}
use Rattle.sc_schema.specs.Lawful.{AreAscending, IsEntityKind, IsLevelOver, IsRecordTypeOver, IsRecordTypeOf}
use Rattle.sc_schema.proofs.EveryTypeLaws.{every_Record}

-- ---- texts that are known

byte_below : (bs : List ℕ) (i : ℕ) → list_all (λ b. ltb b 128) bs ≡ true → slice_index bs i < 128
byte_below [] i h = omega arith
byte_below (b ∷ bs) zero h = ltb-true b 128 (and_parts (ltb b 128) (list_all (λ b. ltb b 128) bs) h).0
byte_below (b ∷ bs) (suc i) h = byte_below bs i (and_parts (ltb b 128) (list_all (λ b. ltb b 128) bs) h).1

pub ascii_text : (bs : List ℕ) → list_all (λ b. ltb b 128) bs ≡ true → IsUtf8 bs
ascii_text bs h = IsUtf8-from_ascii bs (λ i. byte_below bs i h)

-- ---- keys that are known

abbrev strictly_sorted : {K : Type 0} → (K → K → Ordering) → List K → Bool
strictly_sorted R [] = true
strictly_sorted R (k ∷ ks) = list_all (λ j. is_lt (R k j)) ks && strictly_sorted R ks

all_below : {K : Type 0} (R : K → K → Ordering) (k : K) (ks : List K) → list_all (λ j. is_lt (R k j)) ks ≡ true → AllByRecursion (λ j. R k j ≡ Less) ks
all_below R k [] h = tt
all_below R k (j ∷ js) h =
    let parts = and_parts (is_lt (R k j)) (list_all (λ i. is_lt (R k i)) js) h in
    (is_lt_true (R k j) parts.0, all_below R k js parts.1)

pub sorted : {K : Type 0} (R : K → K → Ordering) (ks : List K) → strictly_sorted R ks ≡ true → IsStrictlySortedBy R ks
unfolding IsStrictlySortedBy
sorted R [] h = tt
sorted R (k ∷ ks) h =
    let parts = and_parts (list_all (λ j. is_lt (R k j)) ks) (strictly_sorted R ks) h in
    (all_below R k ks parts.0, sorted R ks parts.1)

pub no_names_ascend : AreAscending []
no_names_ascend = sorted text_cmp [] refl

pub no_uids_ascend : IsStrictlySortedBy uid_cmp []
no_uids_ascend = sorted uid_cmp [] refl

-- ---- types

pub no_fields_over : (known : EntityKind → Type 0) → IsRecordTypeOver known (Record [])
no_fields_over known = record { fields = []; record_type = refl; proper = every_Record (IsLevelOver known) [] (no_names_ascend, tt) tt }

pub no_fields_lawful : (s : Declarations) → IsRecordTypeOf s (Record [])
no_fields_lawful s = no_fields_over (IsEntityKind s)
