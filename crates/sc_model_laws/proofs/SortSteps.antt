-- Induction over sorts, with a premise for each kind. Each premise has what holds of the sorts inside as an argument.
use Rattle.std.proofs.Common.{ℕ, inl, inr, List, [], ◌∷◌, map, sym, subst}
use Rattle.sc_lists.specs.Members.{Has}
use Rattle.sc_names.specs.declared.uid.Uid.{Uid}
use Rattle.sc_sorts.specs.declared.sort.Sort.{Sort, Sort-F, roll-Sort, map-Sort, ind-Sort}
use Rattle.sc_sorts.specs.declared.sort.Sort.TheVariants as sort
use Rattle.sc_sorts.specs.declared.sort.Sort.TheVariants.{rolls-Bool, rolls-Long, rolls-String, rolls-Decimal, rolls-Ip, rolls-Entity, rolls-Set, rolls-Record, rolls-Option}
use Rattle.sc_sorts.specs.declared.sort.Sort.TheOpen as s
use Rattle.sc_sorts.specs.Inside.{SortField, SortFields}

pub record Steps (P : Sort → Type 0) : Type 0 where
  pub on_bool : P sort.Bool
  pub on_long : P sort.Long
  pub on_string : P sort.String
  pub on_decimal : P sort.Decimal
  pub on_ip : P sort.Ip
  pub on_entity : (name : List ℕ) (us : List Uid) → P (sort.Entity name us)
  pub on_set : (k : Sort) → P k → P (sort.Set k)
  pub on_record : (fs : SortFields) → ((f : SortField) → Has fs f → P f.1) → P (sort.Record fs)
  pub on_option : (k : Sort) → P k → P (sort.Option k)

module _ (P : Sort → Type 0) (steps : Steps P) where
  abbrev Known : Type 0
  Known = (k : Sort) × P k

  known_fields : (es : List (List ℕ × Known)) (f : SortField) → Has (map (λ (e : List ℕ × Known). (e.0, e.1.0)) es) f → P f.1
  known_fields [] f h = absurd h
  known_fields (e ∷ es) f (inl is) = subst (λ (g : SortField). P g.1) is e.1.1
  known_fields (e ∷ es) f (inr later) = known_fields es f later

  level : (y : Sort-F Known) → P (roll-Sort (map-Sort Known Sort (λ e. e.0) y))
  level s.Bool = subst P (sym rolls-Bool) steps.on_bool
  level s.Long = subst P (sym rolls-Long) steps.on_long
  level s.String = subst P (sym rolls-String) steps.on_string
  level s.Decimal = subst P (sym rolls-Decimal) steps.on_decimal
  level s.Ip = subst P (sym rolls-Ip) steps.on_ip
  level (s.Entity name us) = subst P (sym (rolls-Entity name us)) (steps.on_entity name us)
  level (s.Set k) = subst P (sym (rolls-Set k.0)) (steps.on_set k.0 k.1)
  level (s.Record es) =
      subst P (sym (rolls-Record (map (λ (e : List ℕ × Known). (e.0, e.1.0)) es)))
      (steps.on_record (map (λ (e : List ℕ × Known). (e.0, e.1.0)) es) (known_fields es))
  level (s.Option k) = subst P (sym (rolls-Option k.0)) (steps.on_option k.0 k.1)

  pub by_sorts : (k : Sort) → P k
  by_sorts = ind-Sort P (λ x y e. subst (λ (z : Sort-F Sort). P (roll-Sort z)) e (level y))
