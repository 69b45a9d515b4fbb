-- What rules bring in by a term's sort are terms: bits, fields, what an option holds, choices, and equations of two terms of one sort.
use Rattle.std.proofs.Common.{◌≡◌, ◌<◌, ◌+◌, ℕ, zero, suc, inl, inr, List, [], ◌∷◌, Option, Some, None, Contains, refl, sym, ◌∙◌, subst, arith}
use Rattle.std.specs.List.{AllByRecursion}
use Rattle.sc_lists.proofs.MemberLaws.{map-Has, Contains-from_Has}
use Rattle.sc_lists.specs.Members.{Has}
use Rattle.sc_names.specs.declared.uid.Uid.{Uid}
use Rattle.sc_schema.specs.declared.declarations.Env.{Env}
use Rattle.sc_schema.specs.Declarations.{Declarations, action_uids, environments}
use Rattle.sc_schema.specs.Lawful.{IsLawful}
use Rattle.sc_world.specs.Named.{IsDeclared}
use Rattle.sc_sorts.specs.Entities.{choices_of, entity_sort}
use Rattle.sc_sorts.specs.Inside.{SortField, SortFields}
use Rattle.sc_sorts.specs.declared.sort.Sort.{Sort, Sort-F, out-Sort}
use Rattle.sc_sorts.specs.declared.sort.Sort.TheVariants as sort
use Rattle.sc_sorts.specs.declared.sort.Sort.TheVariants.{rolls-Long, rolls-Decimal, rolls-Ip, rolls-Entity, rolls-Record, rolls-Option}
use Rattle.sc_sorts.specs.declared.sort.Sort.TheOpen as s
use Rattle.sc_sorts.specs.declared.node.Literal.{Literal}
use Rattle.sc_sorts.specs.declared.node.Literal.TheVariants as literal
use Rattle.sc_terms.specs.Trees.{Tree}
use Rattle.sc_terms.specs.TreeSorts.{tree_sort}
use Rattle.sc_terms.specs.Folds.{literal_term, literal_of, equal_term, field_term, present_term, held_term, default_term, bit_term}
use Rattle.sc_term_laws.specs.Judging.{IsTermOf, IsTerm, HasPlace, of_long, of_decimal, of_ip}
use Rattle.sc_term_laws.specs.Judging as judged
use Rattle.sc_term_laws.proofs.ChoicesLaws.{listed_of, listed_itself, action_listed}
use Rattle.sc_term_laws.proofs.DefaultMade.{default_made, held_made}
use Rattle.sc_term_laws.proofs.MadeLaws.{bit_made, equal_made, field_made, present_made}
use Rattle.sc_term_laws.proofs.TestLaws.{at_level}
use Rattle.sc_term_definitions.specs.Definitions.{counted}
use Rattle.sc_closure_rules.specs.Closure.{bit_terms, inside, inside_by, uid_term, choices, choices_by, unless_literal}
use Rattle.sc_closure_rules.proofs.PartLaws.{own}
use Rattle.sc_closure_rules.proofs.SortLaws.{found, names_ascend, held_lawful, choices_are}

-- numbers that are counted are from the first on and below the end
counted_has : (from n i : ℕ) → Has (counted from n) i → i < from + n
unfolding counted
counted_has from zero i h = absurd h
counted_has from (suc n) i (inl e) = omega (arith, e)
counted_has from (suc n) i (inr h) = omega (arith, counted_has (suc from) n i h)

-- what is brought in unless a term is a literal
unless : (o : Option Literal) (ts : List Tree) (t : Tree) → Has (unless_literal o ts) t → Has ts t
unless (Some l) ts t m = absurd m
unless None ts t m = m

module _ (d : Declarations) (env : Env) (written : List Uid) where
  abbrev Of : Sort → Tree → Type 0
  Of = IsTermOf d env written

  abbrev Is : Tree → Type 0
  Is = IsTerm d env written

  self : (k : Sort) (t : Tree) → Of k t → Is t
  self = own d env written

  pub at : (k : Sort) (t : Tree) → tree_sort t ≡ k → Is t → Of k t
  at k t e h = subst (λ (l : Sort). Of l t) e h

  -- so many bits of a term
  bits_made : (k : Sort) (n : ℕ) (a t : Tree) → ((i : ℕ) → i < n → HasPlace k i) → Of k a → Has (bit_terms n a) t → Is t
  bits_made k n a t place h m =
      let q = map-Has (bit_term a) (counted 0 n) t m in
      let below : q.0 < n = omega (arith, counted_has 0 n q.0 q.1) in
      subst Is q.2 (self sort.Bool (bit_term a q.0) (bit_made d env written k q.0 a (place q.0 below) h))

  -- the equation of two terms of one sort
  pub equated : (k : Sort) (a b : Tree) → Of k a → Of k b → Is (equal_term a b)
  equated k a b g h = self sort.Bool (equal_term a b) (equal_made d env written k a b g h)

  pub equation_made : (a b : Tree) → Is a → Is b → tree_sort a ≡ tree_sort b → Is (equal_term a b)
  equation_made a b h i e = equated (tree_sort b) a b (at (tree_sort b) a e h) i

  -- an entity that its type lists
  pub uid_made : (name : List ℕ) (us : List Uid) (u : Uid) → us ≡ choices_of d name → Contains (choices_of d name) u → Of (entity_sort d name) (uid_term us u)
  uid_made name us u e h =
      let made = subst (λ (n : List ℕ). Of (entity_sort d n) (literal_term (literal.Entity u (choices_of d n)))) (listed_of d name u h).named (judged.of_uid u (inr (listed_itself d name u h))) in
      subst (λ (vs : List Uid). Of (entity_sort d name) (uid_term vs u)) (sym e) made

  -- an entity that is a declared action of a type
  pub uid_at : (name : List ℕ) (us : List Uid) (u : Uid) → us ≡ choices_of d name → Contains (action_uids d) u → u.type_name ≡ name → Of (entity_sort d name) (uid_term us u)
  uid_at name us u e there named = uid_made name us u e (subst (λ (n : List ℕ). Contains (choices_of d n) u) named (action_listed d u there))

  module _ (lawful : IsLawful d) (among : Contains (environments d) env) (declared : AllByRecursion (IsDeclared d) written) where
    -- a record's field of this name and sort
    pub field_of : (fs : SortFields) (f : SortField) (a : Tree) → Of (sort.Record fs) a → Has fs f → Of f.1 (field_term f.0 a)
    field_of fs f a h there = field_made d env written fs f.0 f.1 a h (found fs f (names_ascend d env written lawful among declared fs a h) there)

    -- what an option is told by
    option_made : (k : Sort) (a t : Tree) → Of (sort.Option k) a → Has (present_term a ∷ held_term a ∷ equal_term (held_term a) (default_term k) ∷ []) t → Is t
    option_made k a t h (inl m) = subst Is m (self sort.Bool (present_term a) (present_made d env written k a h))
    option_made k a t h (inr (inl m)) = subst Is m (self k (held_term a) (held_made d env written k a h))
    option_made k a t h (inr (inr (inl m))) =
        subst Is m (equated k (held_term a) (default_term k) (held_made d env written k a h) (default_made d env written k (held_lawful d env written lawful among declared k a h)))
    option_made k a t h (inr (inr (inr m))) = absurd m

    inside_at : (x t : Tree) (l : Sort-F Sort) → out-Sort (tree_sort x) ≡ l → Is x → Has (inside_by l x) t → Is t
    unfolding counted
    inside_at x t s.Long e h m = bits_made sort.Long 64 x t (λ i l. of_long l) (at sort.Long x (at_level (tree_sort x) s.Long e ∙ rolls-Long) h) m
    inside_at x t s.Decimal e h m = bits_made sort.Decimal 64 x t (λ i l. of_decimal l) (at sort.Decimal x (at_level (tree_sort x) s.Decimal e ∙ rolls-Decimal) h) m
    inside_at x t s.Ip e h m = bits_made sort.Ip 257 x t (λ i l. of_ip l) (at sort.Ip x (at_level (tree_sort x) s.Ip e ∙ rolls-Ip) h) m
    inside_at x t (s.Record fs) e h m =
        let q = map-Has (λ (f : SortField). field_term f.0 x) fs t m in
        let record_term = at (sort.Record fs) x (at_level (tree_sort x) (s.Record fs) e ∙ rolls-Record fs) h in
        subst Is q.2 (self q.0.1 (field_term q.0.0 x) (field_of fs q.0 x record_term q.1))
    inside_at x t (s.Option k) e h m = option_made k x t (at (sort.Option k) x (at_level (tree_sort x) (s.Option k) e ∙ rolls-Option k) h) m
    inside_at x t _ e h m = absurd m

    pub inside_made : (x t : Tree) → Is x → Has (inside x) t → Is t
    inside_made x t h m = inside_at x t (out-Sort (tree_sort x)) refl h m

    choices_at : (x t : Tree) (l : Sort-F Sort) → out-Sort (tree_sort x) ≡ l → Is x → Has (choices_by l) t → Is t
    choices_at x t (s.Entity name us) e h m =
        let q = map-Has (uid_term us) us t m in
        let entity = at (sort.Entity name us) x (at_level (tree_sort x) (s.Entity name us) e ∙ rolls-Entity name us) h in
        let are = choices_are d env written lawful among declared name us x entity in
        subst Is q.2 (self (entity_sort d name) (uid_term us q.0) (uid_made name us q.0 are (subst (λ (vs : List Uid). Contains vs q.0) are (Contains-from_Has us q.0 q.1))))
    choices_at x t _ e h m = absurd m

    pub choices_made : (x t : Tree) → Is x → Has (choices x) t → Is t
    choices_made x t h m = choices_at x t (out-Sort (tree_sort x)) refl h (unless (literal_of x) (choices_by (out-Sort (tree_sort x))) t m)
