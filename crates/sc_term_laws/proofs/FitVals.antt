-- What operators on truth values, numbers and choices give fits.
use Rattle.std.proofs.Common.{cond, ◌≡◌, ℕ, ℤ, List, Bool, true, false, not, Option, Some, None, FitsSigned, refl, sym, ap, ◌∙◌, subst}
use Rattle.std.specs.Int.{w64, int_wrap}
use Rattle.std.proofs.lemmas.Int.{SFits-int_wrap}
use Rattle.sc_schema.specs.declared.ty.EntityKind.{EntityKind}
use Rattle.sc_schema.specs.Declarations.{Declarations}
use Rattle.sc_sorts.specs.declared.sort.Sort.{Sort, Sort-F, out-Sort, roll-Sort, map-Sort}
use Rattle.sc_sorts.specs.declared.sort.Sort.TheVariants as sort
use Rattle.sc_sorts.specs.declared.sort.Sort.TheVariants.{rolls-Bool, rolls-Long}
use Rattle.sc_sorts.specs.declared.sort.Sort.TheOpen as s
use Rattle.sc_sorts.specs.Defaults.{is_option, is_option_level}
use Rattle.sc_sorts.proofs.OutLaws.{out_Bool, out_Long}
use Rattle.sc_values.specs.declared.value.Value.{Value, Value-F, out-Value}
use Rattle.sc_values.specs.declared.value.Value.TheVariants as value
use Rattle.sc_values.specs.declared.value.Value.TheOpen as v
use Rattle.sc_values.specs.Proper.{IsProperLevel}
use Rattle.sc_values.proofs.EveryLaws as every
use Rattle.sc_values.proofs.OutLaws as out
use Rattle.sc_world.specs.Conforms.{is_bool, is_long, is_string, is_decimal, is_ip, is_entity_of, is_set_of}
use Rattle.sc_world.specs.Stores.{Entities}
use Rattle.sc_terms.specs.Values.{Val, it, yes, bool_seen, seen, truth, not_seen, not_value, and_seen, and_value, or_seen, or_value, equal_seen, equal_value, val_eq, choice_value}
use Rattle.sc_term_laws.specs.Fitting.{Seen, Test, kind_listed, fits_step, fits, is_record_of, IsOfSort, NamesKnownLevel, Fits, as_value, as_option}
use Rattle.sc_term_laws.proofs.FitLaws as fit
use Rattle.sc_term_laws.proofs.TestLaws.{at_level}

-- ---- the test of each sort

pub fits_at : (k : Sort) (x : Sort-F Sort) → roll-Sort x ≡ k → fits k ≡ fits_step (map-Sort Sort Seen fit.seen x)
fits_at k x e = ap fits (sym e) ∙ fit.fits_roll x

pub at : (k : Sort) (q : Test) → fits k ≡ q → (x : Value) → q x ≡ true → fits k x ≡ true
at k q e x h = ap (λ (z : Test). z x) e ∙ h

pub no_option_at : (k : Sort) (x : Sort-F Sort) → out-Sort k ≡ x → is_option_level Sort x ≡ false → is_option k ≡ false
no_option_at k x e h = ap (is_option_level Sort) e ∙ h

module _ (d : Declarations) (es : Entities) where
  abbrev FitsVal : Sort → Val → Type 0
  FitsVal = Fits d es

  abbrev Of : Sort → Value → Type 0
  Of = IsOfSort d es

  -- ---- truth values and numbers

  pub bool_of : (b : Bool) → Of sort.Bool (value.Bool b)
  bool_of b = record {
    of_sort = at sort.Bool _ (fits_at sort.Bool s.Bool rolls-Bool) (value.Bool b) (ap is_bool (out.out_Bool b));
    proper = every.every_Bool IsProperLevel b tt;
    named = every.every_Bool (NamesKnownLevel d es) b tt;
  }

  pub yes_fits : (b : Bool) → FitsVal sort.Bool (yes b)
  yes_fits b = as_value (value.Bool b) (no_option_at sort.Bool s.Bool out_Bool refl) (bool_of b)

  pub long_of : (n : ℤ) → FitsSigned w64 n → Of sort.Long (value.Long n)
  long_of n h = record {
    of_sort = at sort.Long _ (fits_at sort.Long s.Long rolls-Long) (value.Long n) (ap is_long (out.out_Long n));
    proper = every.every_Long IsProperLevel n h;
    named = every.every_Long (NamesKnownLevel d es) n tt;
  }

  pub long_fits : (n : ℤ) → FitsSigned w64 n → FitsVal sort.Long (it (value.Long n))
  long_fits n h = as_value (value.Long n) (no_option_at sort.Long s.Long out_Long refl) (long_of n h)

  pub wrapped_fits : (n : ℤ) → FitsVal sort.Long (it (value.Long (int_wrap w64 n)))
  wrapped_fits n = long_fits (int_wrap w64 n) (SFits-int_wrap w64 n)

  -- ---- connectives

  pub not_fits : (x : Val) → FitsVal sort.Bool x → FitsVal sort.Bool (not_value x)
  unfolding not_value
  not_fits x h = by (seen x)
    where
      by : (o : Option Bool) → FitsVal sort.Bool (not_seen o x)
      by (Some b) = yes_fits (not b)
      by None = h

  pub and_fits : (x y : Val) → FitsVal sort.Bool x → FitsVal sort.Bool y → FitsVal sort.Bool (and_value x y)
  unfolding and_value
  and_fits x y g h = by (seen x) (seen y)
    where
      by : (o p : Option Bool) → FitsVal sort.Bool (and_seen o p x y)
      by (Some true) p = h
      by (Some false) p = g
      by None (Some true) = g
      by None (Some false) = h
      by None None = g

  pub or_fits : (x y : Val) → FitsVal sort.Bool x → FitsVal sort.Bool y → FitsVal sort.Bool (or_value x y)
  unfolding or_value
  or_fits x y g h = by (seen x) (seen y)
    where
      by : (o p : Option Bool) → FitsVal sort.Bool (or_seen o p x y)
      by (Some true) p = g
      by (Some false) p = h
      by None (Some true) = h
      by None (Some false) = g
      by None None = g

  pub choice_fits : (k : Sort) (c x y : Val) → FitsVal k x → FitsVal k y → FitsVal k (choice_value c x y)
  choice_fits k c x y g h = by (truth c)
    where
      by : (b : Bool) → FitsVal k (cond b x y)
      by true = g
      by false = h

  -- ---- equations: where one side is a truth value, the sort is that of truth values

  long_no_bool : (x : Value-F Value) (b : Bool) → is_long x ≡ true → bool_seen x ≡ Some b → ⊥
  long_no_bool (v.Long n) b h e = cc
  long_no_bool _ b h e = absurd cc

  string_no_bool : (x : Value-F Value) (b : Bool) → is_string x ≡ true → bool_seen x ≡ Some b → ⊥
  string_no_bool (v.String n) b h e = cc
  string_no_bool _ b h e = absurd cc

  decimal_no_bool : (x : Value-F Value) (b : Bool) → is_decimal x ≡ true → bool_seen x ≡ Some b → ⊥
  decimal_no_bool (v.Decimal n) b h e = cc
  decimal_no_bool _ b h e = absurd cc

  ip_no_bool : (x : Value-F Value) (b : Bool) → is_ip x ≡ true → bool_seen x ≡ Some b → ⊥
  ip_no_bool (v.Ip n) b h e = cc
  ip_no_bool _ b h e = absurd cc

  entity_no_bool : (kind : EntityKind) (x : Value-F Value) (b : Bool) → is_entity_of kind x ≡ true → bool_seen x ≡ Some b → ⊥
  entity_no_bool kind (v.Entity u) b h e = cc
  entity_no_bool kind _ b h e = absurd cc

  set_no_bool : (p : Test) (x : Value-F Value) (b : Bool) → is_set_of p x ≡ true → bool_seen x ≡ Some b → ⊥
  set_no_bool p (v.Set xs) b h e = cc
  set_no_bool p _ b h e = absurd cc

  record_no_bool : (fs : List (List ℕ × Seen)) (x : Value-F Value) (b : Bool) → is_record_of fs x ≡ true → bool_seen x ≡ Some b → ⊥
  record_no_bool fs (v.Record r) b h e = cc
  record_no_bool fs _ b h e = absurd cc

  bool_level : (k : Sort) (y : Sort-F Sort) (x : Value) (b : Bool) → out-Sort k ≡ y → fits_step (map-Sort Sort Seen fit.seen y) x ≡ true → is_option_level Sort y ≡ false → bool_seen (out-Value x) ≡ Some b → k ≡ sort.Bool
  bool_level k s.Bool x b e h o g = at_level k s.Bool e ∙ rolls-Bool
  bool_level k s.Long x b e h o g = absurd (long_no_bool (out-Value x) b h g)
  bool_level k s.String x b e h o g = absurd (string_no_bool (out-Value x) b h g)
  bool_level k s.Decimal x b e h o g = absurd (decimal_no_bool (out-Value x) b h g)
  bool_level k s.Ip x b e h o g = absurd (ip_no_bool (out-Value x) b h g)
  bool_level k (s.Entity name us) x b e h o g = absurd (entity_no_bool (kind_listed name us) (out-Value x) b h g)
  bool_level k (s.Set member) x b e h o g = absurd (set_no_bool _ (out-Value x) b h g)
  bool_level k (s.Record fields) x b e h o g = absurd (record_no_bool _ (out-Value x) b h g)
  bool_level k (s.Option held) x b e h o g = absurd cc

  pub bool_only : (k : Sort) (x : Val) (b : Bool) → FitsVal k x → seen x ≡ Some b → k ≡ sort.Bool
  bool_only k _ b (as_value x none h) e = bool_level k (out-Sort k) x b refl (ap (λ (z : Test). z x) (sym (fit.fits_out k)) ∙ h.of_sort) none e
  bool_only k _ b (as_option o some h) e = absurd cc

  pub equal_fits : (k : Sort) (x y : Val) → FitsVal k x → FitsVal k y → FitsVal sort.Bool (equal_value x y)
  unfolding equal_value
  equal_fits k x y g h = by (seen x) (seen y) refl refl
    where
      first : (b : Bool) (z : Val) → seen x ≡ Some b → FitsVal k z → FitsVal sort.Bool z
      first b z e m = subst (λ (j : Sort). FitsVal j z) (bool_only k x b g e) m

      second : (b : Bool) (z : Val) → seen y ≡ Some b → FitsVal k z → FitsVal sort.Bool z
      second b z e m = subst (λ (j : Sort). FitsVal j z) (bool_only k y b h e) m

      by : (o p : Option Bool) → seen x ≡ o → seen y ≡ p → FitsVal sort.Bool (equal_seen o p x y)
      by (Some true) p e f = first true y e h
      by (Some false) p e f = not_fits y (first false y e h)
      by None (Some true) e f = second true x f g
      by None (Some false) e f = not_fits x (second false x f g)
      by None None e f = yes_fits (val_eq x y)
