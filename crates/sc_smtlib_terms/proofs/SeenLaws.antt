-- What is told of a sort, by what is told of the sorts inside it.
use Rattle.std.proofs.Common.{◌≡◌, ℕ, List, [], ◌∷◌, map, refl, ap, ◌∙◌, subst}
use Rattle.sc_sorts.specs.declared.sort.Sort.{Sort, Sort-F, roll-Sort, map-Sort, fold-Sort, ind-Sort, fold-roll-Sort}
use Rattle.sc_sorts.specs.declared.sort.Sort.TheOpen as s
use Rattle.sc_smtlib_terms.specs.Seen.{Seen, Step, seen_by, sorts_seen, told_by}

abbrev pub seen : (A : Type 0) → Step A → Sort → Seen A
seen A step = fold-Sort (Seen A) (seen_by A step)

-- ---- the sort that is seen is the sort itself

module _ (A : Type 0) (step : Step A) where
  abbrev Known : Type 0
  Known = (a : Sort) × ((seen A step a).0 ≡ a)

  abbrev forget : List ℕ × Known → List ℕ × Sort
  forget e = (e.0, e.1.0)

  abbrev with_seen : List ℕ × Sort → List ℕ × Seen A
  with_seen f = (f.0, seen A step f.1)

  abbrev sort_seen : List ℕ × Seen A → List ℕ × Sort
  sort_seen f = (f.0, f.1.0)

  fields_known : (es : List (List ℕ × Known)) → map sort_seen (map with_seen (map forget es)) ≡ map forget es
  fields_known [] = refl
  fields_known (e ∷ es) = let first : (seen A step e.1.0).0 ≡ e.1.0 = e.1.1 in let rest = fields_known es in λ i. (e.0, first i) ∷ rest i

  abbrev KnownLevel : Sort-F Sort → Type 0
  KnownLevel x = sorts_seen A (map-Sort Sort (Seen A) (seen A step) x) ≡ x

  inner : (y : Sort-F Known) → KnownLevel (map-Sort Known Sort (λ e. e.0) y)
  inner s.Bool = refl
  inner s.Long = refl
  inner s.String = refl
  inner s.Decimal = refl
  inner s.Ip = refl
  inner (s.Entity name choices) = refl
  inner (s.Set a) = ap s.Set a.1
  inner (s.Record es) = ap s.Record (fields_known es)
  inner (s.Option a) = ap s.Option a.1

  from_level : (x : Sort-F Sort) → KnownLevel x → (seen A step (roll-Sort x)).0 ≡ roll-Sort x
  from_level x h = ap (λ (z : Seen A). z.0) (fold-roll-Sort (Seen A) (seen_by A step) x) ∙ ap roll-Sort h

  seen_sort : (x : Sort) → (seen A step x).0 ≡ x
  seen_sort = ind-Sort (λ (x : Sort). (seen A step x).0 ≡ x) (λ x y e. from_level x (subst KnownLevel e (inner y)))

  again : (x : Sort-F Sort) → KnownLevel x
  again s.Bool = refl
  again s.Long = refl
  again s.String = refl
  again s.Decimal = refl
  again s.Ip = refl
  again (s.Entity name choices) = refl
  again (s.Set a) = ap s.Set (seen_sort a)
  again (s.Record fs) = ap s.Record (fields_again fs)
    where
      fields_again : (fs : List (List ℕ × Sort)) → map sort_seen (map with_seen fs) ≡ fs
      fields_again [] = refl
      fields_again (f ∷ fs) = let first = seen_sort f.1 in let rest = fields_again fs in λ i. (f.0, first i) ∷ rest i
  again (s.Option a) = ap s.Option (seen_sort a)

  pub told_roll : (y : Sort-F Sort) → told_by A step (roll-Sort y) ≡ step (roll-Sort y) (map-Sort Sort (Seen A) (seen A step) y)
  unfolding told_by
  told_roll y =
      ap (λ (z : Seen A). z.1) (fold-roll-Sort (Seen A) (seen_by A step) y)
      ∙ ap (λ x. step (roll-Sort x) (map-Sort Sort (Seen A) (seen A step) y)) (again y)
