-- Sets of what fits a sort, and what is chosen from them.
use Rattle.std.proofs.Common.{cond, ◌≡◌, List, [], ◌∷◌, Bool, true, false, Option, Some, None, refl, sym, ap, ◌∙◌, subst}
use Rattle.std.specs.Prelude.{find}
use Rattle.std.specs.List.{AllByRecursion, list_all}
use Rattle.std.specs.List.Sorted.{IsStrictlySortedBy}
use Rattle.std.specs.BTreeSet.{insert_key}
use Rattle.std.specs.declared.cmp.Ordering.{Ordering}
use Rattle.std.specs.declared.cmp.Ordering.TheVariants.{Less, Equal, Greater}
use Rattle.std.specs.Ordering.{match_ordering}
use Rattle.sc_laws.proofs.BoolLaws.{and_first, and_second}
use Rattle.sc_lists.proofs.OrderedLaws.{ascending-insert_key}
use Rattle.sc_schema.specs.Declarations.{Declarations}
use Rattle.sc_sorts.specs.declared.sort.Sort.{Sort}
use Rattle.sc_sorts.specs.declared.sort.Sort.TheVariants as sort
use Rattle.sc_sorts.specs.declared.sort.Sort.TheVariants.{rolls-Set}
use Rattle.sc_sorts.specs.declared.sort.Sort.TheOpen as s
use Rattle.sc_sorts.specs.Defaults.{is_option, default_of}
use Rattle.sc_sorts.proofs.OutLaws.{out_Set}
use Rattle.sc_values.specs.declared.value.Value.{Value, Value-F, out-Value, roll-Value, roll-out-Value}
use Rattle.sc_values.specs.declared.value.Value.TheVariants as value
use Rattle.sc_values.specs.declared.value.Value.TheVariants.{rolls-Set as value_rolls-Set}
use Rattle.sc_values.specs.declared.value.Value.TheOpen as v
use Rattle.sc_values.specs.Order.{value_cmp}
use Rattle.sc_values.specs.Proper.{IsProper, IsProperLevel}
use Rattle.sc_values.proofs.EveryLaws as every
use Rattle.sc_values.proofs.OrderLaws.{value_cmp_total}
use Rattle.sc_values.proofs.OutLaws as out
use Rattle.sc_world.specs.Conforms.{is_set_of}
use Rattle.sc_world.specs.Stores.{Entities}
use Rattle.sc_terms.specs.Values.{Val, it, value_in, members_seen, members_in, put_by, put_value, set_from, least}
use Rattle.sc_term_laws.specs.Fitting.{fits, IsOfSort, NamesKnown, NamesKnownLevel, Fits, as_value, as_option}
use Rattle.sc_term_laws.proofs.FitLaws as fit
use Rattle.sc_term_laws.proofs.FitVals.{fits_at, at, no_option_at}

-- ---- a set is its members in order

put_at : (o : Ordering) (x y : Value) (ys later new : List Value) → later ≡ new → put_by o x y ys later ≡ match_ordering o (x ∷ y ∷ ys) (y ∷ ys) (y ∷ new)
put_at Less x y ys later new e = refl
put_at Equal x y ys later new e = refl
put_at Greater x y ys later new e = ap (λ (zs : List Value). y ∷ zs) e

put_is : (x : Value) (ys : List Value) → put_value x ys ≡ insert_key value_cmp ys x
unfolding put_value
put_is x [] = refl
put_is x (y ∷ ys) = put_at (value_cmp x y) x y ys (put_value x ys) (insert_key value_cmp ys x) (put_is x ys)

pub set_ascends : (xs : List Value) → IsStrictlySortedBy value_cmp (set_from xs)
unfolding set_from IsStrictlySortedBy
set_ascends [] = tt
set_ascends (x ∷ xs) = subst (IsStrictlySortedBy value_cmp) (sym (put_is x (set_from xs))) (ascending-insert_key value_cmp_total (set_from xs) x (set_ascends xs))

-- what holds of each member holds of each of the set
put_each : (P : Value → Type 0) (x : Value) (ys : List Value) → P x → AllByRecursion P ys → AllByRecursion P (put_value x ys)
unfolding put_value
put_each P x [] h all = (h, tt)
put_each P x (y ∷ ys) h all = by (value_cmp x y) (put_each P x ys h all.1)
  where
    by : (o : Ordering) → AllByRecursion P (put_value x ys) → AllByRecursion P (put_by o x y ys (put_value x ys))
    by Less rest = (h, all)
    by Equal rest = all
    by Greater rest = (all.0, rest)

pub set_each : (P : Value → Type 0) (xs : List Value) → AllByRecursion P xs → AllByRecursion P (set_from xs)
unfolding set_from
set_each P [] all = tt
set_each P (x ∷ xs) all = put_each P x (set_from xs) all.0 (set_each P xs all.1)

found_by : (P : Value → Type 0) (x y : Value) (b : Bool) (later : Option Value) → P x → (later ≡ Some y → P y) → cond b (Some x) later ≡ Some y → P y
found_by P x y true later h next f = let same : x ≡ y = cc in subst P same h
found_by P x y false later h next f = next f

-- and of what is found in one
pub found_each : (P : Value → Type 0) (q : Value → Bool) (xs : List Value) (y : Value) → AllByRecursion P xs → find q xs ≡ Some y → P y
found_each P q [] y all e = cc
found_each P q (x ∷ xs) y all e = found_by P x y (q x) (find q xs) all.0 (found_each P q xs y all.1) e

module _ (d : Declarations) (es : Entities) where
  abbrev Of : Sort → Value → Type 0
  Of = IsOfSort d es

  abbrev FitsVal : Sort → Val → Type 0
  FitsVal = Fits d es

  all_fit : (k : Sort) (xs : List Value) → AllByRecursion (Of k) xs → list_all (fits k) xs ≡ true
  all_fit k [] h = refl
  all_fit k (x ∷ xs) h = rw (h.0.of_sort, all_fit k xs h.1) refl

  all_proper : (k : Sort) (xs : List Value) → AllByRecursion (Of k) xs → AllByRecursion IsProper xs
  all_proper k [] h = tt
  all_proper k (x ∷ xs) h = (h.0.proper, all_proper k xs h.1)

  all_known : (k : Sort) (xs : List Value) → AllByRecursion (Of k) xs → AllByRecursion (NamesKnown d es) xs
  all_known k [] h = tt
  all_known k (x ∷ xs) h = (h.0.named, all_known k xs h.1)

  seen_all : (k : Sort) (xs : List Value) → list_all (fits k) xs ≡ true → list_all (fit.seen k).1 xs ≡ true
  seen_all k xs h = ap (λ (p : Value → Bool). list_all p xs) (sym (fit.fits_seen k)) ∙ h

  -- an ascending list of what fits
  pub set_of : (k : Sort) (xs : List Value) → IsStrictlySortedBy value_cmp xs → AllByRecursion (Of k) xs → Of (sort.Set k) (value.Set xs)
  set_of k xs ascends h = record {
    of_sort = at (sort.Set k) _ (fits_at (sort.Set k) (s.Set k) (rolls-Set k)) (value.Set xs)
        (ap (is_set_of (fit.seen k).1) (out.out_Set xs) ∙ seen_all k xs (all_fit k xs h));
    proper = every.every_Set IsProperLevel xs ascends (all_proper k xs h);
    named = every.every_Set (NamesKnownLevel d es) xs tt (all_known k xs h);
  }

  pub set_fits : (k : Sort) (xs : List Value) → IsStrictlySortedBy value_cmp xs → AllByRecursion (Of k) xs → FitsVal (sort.Set k) (it (value.Set xs))
  set_fits k xs ascends h = as_value (value.Set xs) (no_option_at (sort.Set k) (s.Set k) (out_Set k) refl) (set_of k xs ascends h)

  -- ---- the members of a value of a set sort

  each_of : (k : Sort) (xs : List Value) → list_all (fit.seen k).1 xs ≡ true → AllByRecursion IsProper xs → AllByRecursion (NamesKnown d es) xs → AllByRecursion (Of k) xs
  each_of k [] h p n = tt
  each_of k (x ∷ xs) h p n = (
    record { of_sort = sym (fit.seen_fits k x) ∙ and_first _ _ h; proper = p.0; named = n.0 },
    each_of k xs (and_second ((fit.seen k).1 x) _ h) p.1 n.1,
  )

  members_level : (k : Sort) (x : Value) (y : Value-F Value) → out-Value x ≡ y → is_set_of (fit.seen k).1 y ≡ true → IsProper x → NamesKnown d es x → AllByRecursion (Of k) (members_seen y)
  members_level k x (v.Set xs) e h p n =
      let same : x ≡ value.Set xs = sym (roll-out-Value x) ∙ ap roll-Value e ∙ value_rolls-Set xs in
      each_of k xs h (every.every_members IsProperLevel xs (subst IsProper same p)) (every.every_members (NamesKnownLevel d es) xs (subst (NamesKnown d es) same n))
  members_level k x _ e h p n = absurd cc

  pub members_of : (k : Sort) (x : Value) → Of (sort.Set k) x → AllByRecursion (Of k) (members_seen (out-Value x))
  members_of k x h =
      members_level k x (out-Value x) refl (ap (λ (z : Value → Bool). z x) (sym (fits_at (sort.Set k) (s.Set k) (rolls-Set k))) ∙ h.of_sort) h.proper h.named

  pub value_of : (k : Sort) (x : Val) → is_option k ≡ false → FitsVal k x → Of k (value_in x)
  value_of k _ none (as_value x same h) = h
  value_of k _ none (as_option o some h) = absurd cc

  pub members_fit : (k : Sort) (x : Val) → FitsVal (sort.Set k) x → AllByRecursion (Of k) (members_in x)
  members_fit k x h = members_of k (value_in x) (value_of (sort.Set k) x (no_option_at (sort.Set k) (s.Set k) (out_Set k) refl) h)

  -- ---- a pick

  pub least_fits : (k : Sort) (q : Value → Bool) (xs : List Value) → is_option k ≡ false → Of k (default_of k) → AllByRecursion (Of k) xs → FitsVal k (least k (find q xs))
  least_fits k q xs none default h = by (find q xs) refl
    where
      by : (o : Option Value) → find q xs ≡ o → FitsVal k (least k o)
      by (Some y) e = as_value y none (found_each (IsOfSort d es k) q xs y h e)
      by None e = as_value (default_of k) none default
