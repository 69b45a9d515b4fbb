-- The first name that isn't declared, beside what is declared.
use Rattle.std.proofs.Common.{◌≡◌, ◌↔◌, ◌≤◌, ◌<◌, ℕ, suc, ◌+◌, List, [], ◌∷◌, ◌++◌, map, fold, Bool, true, false, if◌then◌else◌, nat_le, Option, Some, None, Contains, arith, zero-add, refl, sym, subst, ◌∙◌}
use Rattle.std.specs.List.{AllByRecursion, flat_map, slice_get}
use Rattle.std.specs.Option.{option_or}
use Rattle.std.proofs.lemmas.List.{append_assoc, append-nil}
use Rattle.std.proofs.lemmas.List.Elements.{Contains-append_left, Contains-append_right}
use Rattle.std.proofs.lemmas.Bool.{leb-true, leb-false}
use Rattle.sc_lists.proofs.ListLaws.{all_append, all_weaker, all_element, contains_place}
use Rattle.sc_ast.specs.declared.place.Place.{Place}
use Rattle.sc_ast.specs.declared.expr.Expr.{Expr, Expr-F, roll-Expr, map-Expr, ind-Expr, fold-roll-Expr}
use Rattle.sc_ast.specs.declared.expr.Expr.TheOpen as e
use Rattle.sc_ast.specs.declared.expr.TypeName.{TypeName}
use Rattle.sc_ast.specs.declared.literal.Literal.{Literal}
use Rattle.sc_ast.specs.declared.literal.Literal.TheVariants as literal
use Rattle.sc_ast.specs.declared.literal.EntityLiteral.{EntityLiteral}
use Rattle.sc_ast.specs.declared.policy.Condition.{Condition}
use Rattle.sc_ast.specs.declared.policy.Policy.{Policy}
use Rattle.sc_ast.specs.declared.scope.Constraint.{Constraint}
use Rattle.sc_ast.specs.declared.scope.Constraint.TheVariants as constraint
use Rattle.sc_ast.specs.declared.scope.ActionConstraint.{ActionConstraint}
use Rattle.sc_ast.specs.declared.scope.ActionConstraint.TheVariants as action_constraint
use Rattle.sc_schema.specs.Declarations.{Declarations}
use Rattle.sc_typing.specs.declared.name_fault.NameFault.{NameFault}
use Rattle.sc_typing.specs.declared.name_fault.NameKind.{NameKind}
use Rattle.sc_typing.specs.Names.{Undeclared, first_of, first_in, literal_fault, expr_fault_step, expr_fault, entity_fault, type_fault, constraint_fault, action_fault, clauses_fault, policy_fault, fault_in, fault_from, name_fault}
use Rattle.sc_typing.specs.Written.{Written, of_type, of_entity, place_of, declares, stands_for, literal_names, names_step, expr_names, constraint_names, action_names, names_of, AllDeclared, AreDeclared, IsFirst, IsToldFirst}

module _ (s : Declarations) where
  -- what is found is the first undeclared name of some names; where nothing is found all are declared
  abbrev Finds : Undeclared → List Written → Type 0
  Finds None ws = AllDeclared s ws
  Finds (Some f) ws = IsFirst s ws f.0 f.1

  abbrev NotBefore : Place → Written → Type 0
  NotBefore place w = declares s w ≡ false → place.offset ≤ (place_of w).offset

  declared_not_before : (place : Place) (w : Written) → declares s w ≡ true → NotBefore place w
  declared_not_before place w h k = absurd (let e : true ≡ false = sym h ∙ k in cc)

  none_before : (place : Place) (ws : List Written) → AllDeclared s ws → AllByRecursion (NotBefore place) ws
  none_before place ws h = all_weaker _ _ (λ w k. declared_not_before place w (search (k))) ws h

  less_before : (p q : Place) (ws : List Written) → p.offset ≤ q.offset → AllByRecursion (NotBefore q) ws → AllByRecursion (NotBefore p) ws
  less_before p q ws l h = all_weaker _ _ (λ w k u. omega (arith, l, k u)) ws h

  -- ---- two lists

  left_first : (x : NameKind × Place) (us vs : List Written) → IsFirst s us x.0 x.1 → AllByRecursion (NotBefore x.1) vs → IsFirst s (us ++ vs) x.0 x.1
  left_first x us vs h k = record {
    name = h.name;
    among = Contains-append_left us vs h.name h.among;
    undeclared = h.undeclared;
    of_kind = h.of_kind;
    at_place = h.at_place;
    least = all_append (NotBefore x.1) us vs h.least k;
  }

  right_first : (x : NameKind × Place) (us vs : List Written) → IsFirst s vs x.0 x.1 → AllByRecursion (NotBefore x.1) us → IsFirst s (us ++ vs) x.0 x.1
  right_first x us vs h k = record {
    name = h.name;
    among = Contains-append_right us vs h.name h.among;
    undeclared = h.undeclared;
    of_kind = h.of_kind;
    at_place = h.at_place;
    least = all_append (NotBefore x.1) us vs k h.least;
  }

  by_order : (x y : NameKind × Place) (us vs : List Written) (b : Bool) → nat_le x.1.offset y.1.offset ≡ b → IsFirst s us x.0 x.1 → IsFirst s vs y.0 y.1
      → Finds (Some (if b then x else y)) (us ++ vs)
  by_order x y us vs true at h k = left_first x us vs h (less_before x.1 y.1 vs (leb-true x.1.offset y.1.offset at) k.least)
  by_order x y us vs false at h k = right_first y us vs k (less_before y.1 x.1 us (let l : y.1.offset < x.1.offset = leb-false x.1.offset y.1.offset at in omega (arith, l)) h.least)

  both_find : (a b : Undeclared) (us vs : List Written) → Finds a us → Finds b vs → Finds (first_of a b) (us ++ vs)
  both_find None None us vs h k = all_append _ us vs h k
  both_find None (Some y) us vs h k = right_first y us vs k (none_before y.1 us h)
  both_find (Some x) None us vs h k = left_first x us vs h (none_before x.1 vs k)
  both_find (Some x) (Some y) us vs h k = by_order x y us vs (nat_le x.1.offset y.1.offset) refl h k

  -- ---- lists of what is found

  -- the one of each part, and the names of each
  abbrev EachFinds : {X : Type 0} → (X → Undeclared) → (X → List Written) → List X → Type 0
  EachFinds f g xs = AllByRecursion (λ x. Finds (f x) (g x)) xs

  folded : {X : Type 0} (f : X → Undeclared) (g : X → List Written) (xs : List X) (u : Undeclared) (us : List Written)
      → Finds u us → EachFinds f g xs → Finds (fold first_of u (map f xs)) (us ++ flat_map g xs)
  folded f g [] u us h k = subst (Finds u) (sym (append-nil us)) h
  folded f g (x ∷ xs) u us h k =
      subst (Finds (fold first_of (first_of u (f x)) (map f xs))) (append_assoc us (g x) (flat_map g xs))
      (folded f g xs (first_of u (f x)) (us ++ g x) (both_find u (f x) us (g x) h k.0) k.1)

  all_find : {X : Type 0} (f : X → Undeclared) (g : X → List Written) (xs : List X) → EachFinds f g xs → Finds (first_in (map f xs)) (flat_map g xs)
  all_find f g xs k = folded f g xs None [] tt k

  -- ---- one name

  named_by : (w : Written) (b : Bool) → declares s w ≡ b → Finds (if b then None else Some (stands_for s w, place_of w)) (w ∷ [])
  named_by w true h = (h, tt)
  named_by w false h = record {
    name = w;
    among = (0, omega arith, refl);
    undeclared = h;
    of_kind = refl;
    at_place = refl;
    least = (λ u. omega arith, tt);
  }

  type_found : (t : TypeName) → Finds (type_fault s t) (of_type t ∷ [])
  type_found t = named_by (of_type t) (declares s (of_type t)) refl

  entity_found : (l : EntityLiteral) → Finds (entity_fault s l) (of_entity l ∷ [])
  entity_found l = named_by (of_entity l) (declares s (of_entity l)) refl

  literal_found : (place : Place) (l : Literal) → Finds (literal_fault s place l) (literal_names place l)
  literal_found place (literal.Bool b) = tt
  literal_found place (literal.Long n) = tt
  literal_found place (literal.String text) = tt
  literal_found place (literal.Entity u) = entity_found (record { place = place; uid = u })

  -- ---- expressions

  abbrev Holds : Expr → Type 0
  Holds x = Finds (expr_fault s x) (expr_names x)

  abbrev Part : Type 0
  Part = (x : Expr) × Holds x

  abbrev plain : Expr-F Part → Expr-F Expr
  plain = map-Expr Part Expr (λ k. k.0)

  names_at : (y : Expr-F Expr) → expr_names (roll-Expr y) ≡ names_step (map-Expr Expr (List Written) expr_names y)
  unfolding expr_names
  names_at y = fold-roll-Expr (List Written) names_step y

  fault_at : (y : Expr-F Expr) → expr_fault s (roll-Expr y) ≡ expr_fault_step s (map-Expr Expr Undeclared (expr_fault s) y)
  unfolding expr_fault
  fault_at y = fold-roll-Expr Undeclared (expr_fault_step s) y

  two : (a b : Part) → Finds (first_of (expr_fault s a.0) (expr_fault s b.0)) (expr_names a.0 ++ expr_names b.0)
  two a b = both_find (expr_fault s a.0) (expr_fault s b.0) (expr_names a.0) (expr_names b.0) a.1 b.1

  -- the members of a list, and how they are found
  members_fold : (ks : List Part) (u : Undeclared) (us : List Written) → Finds u us
      → Finds (fold first_of u (map (expr_fault s) (map (λ (k : Part). k.0) ks))) (us ++ flat_map (λ (m : List Written). m) (map expr_names (map (λ (k : Part). k.0) ks)))
  members_fold [] u us h = subst (Finds u) (sym (append-nil us)) h
  members_fold (k ∷ ks) u us h =
      let rest : List Written = flat_map (λ (m : List Written). m) (map expr_names (map (λ (k : Part). k.0) ks)) in
      let v : Undeclared = first_of u (expr_fault s k.0) in
      subst (Finds (fold first_of v (map (expr_fault s) (map (λ (k : Part). k.0) ks)))) (append_assoc us (expr_names k.0) rest)
      (members_fold ks v (us ++ expr_names k.0) (both_find u (expr_fault s k.0) us (expr_names k.0) h k.1))

  abbrev field_exprs : List (List ℕ × Part) → List (List ℕ × Expr)
  field_exprs ks = map (λ (f : List ℕ × Part). (f.0, f.1.0)) ks

  abbrev field_faults : List (List ℕ × Expr) → List Undeclared
  field_faults fs = map (λ (f : List ℕ × Undeclared). f.1) (map (λ (f : List ℕ × Expr). (f.0, expr_fault s f.1)) fs)

  abbrev field_names : List (List ℕ × Expr) → List Written
  field_names fs = flat_map (λ (f : List ℕ × List Written). f.1) (map (λ (f : List ℕ × Expr). (f.0, expr_names f.1)) fs)

  fields_fold : (ks : List (List ℕ × Part)) (u : Undeclared) (us : List Written) → Finds u us
      → Finds (fold first_of u (field_faults (field_exprs ks))) (us ++ field_names (field_exprs ks))
  fields_fold [] u us h = subst (Finds u) (sym (append-nil us)) h
  fields_fold (k ∷ ks) u us h =
      let v : Undeclared = first_of u (expr_fault s k.1.0) in
      subst (Finds (fold first_of v (field_faults (field_exprs ks)))) (append_assoc us (expr_names k.1.0) (field_names (field_exprs ks)))
      (fields_fold ks v (us ++ expr_names k.1.0) (both_find u (expr_fault s k.1.0) us (expr_names k.1.0) h k.1.1))

  step : (y : Expr-F Part) → Finds (expr_fault_step s (map-Expr Expr Undeclared (expr_fault s) (plain y))) (names_step (map-Expr Expr (List Written) expr_names (plain y)))
  step (e.If place c a b) = both_find (expr_fault s c.0) (first_of (expr_fault s a.0) (expr_fault s b.0)) (expr_names c.0) (expr_names a.0 ++ expr_names b.0) c.1 (two a b)
  step (e.Or place a b) = two a b
  step (e.And place a b) = two a b
  step (e.Binary place operator a b) = two a b
  step (e.Has place a names) = a.1
  step (e.Like place a pattern) = a.1
  step (e.Is place a t) = both_find (expr_fault s a.0) (type_fault s t) (expr_names a.0) (of_type t ∷ []) a.1 (type_found t)
  step (e.IsIn place a t in_place b) =
      both_find (expr_fault s a.0) (first_of (type_fault s t) (expr_fault s b.0)) (expr_names a.0) (of_type t ∷ [] ++ expr_names b.0) a.1
      (both_find (type_fault s t) (expr_fault s b.0) (of_type t ∷ []) (expr_names b.0) (type_found t) b.1)
  step (e.Unary place operator a) = a.1
  step (e.Access place a name) = a.1
  step (e.Literal place l) = literal_found place l
  step (e.Variable place x) = tt
  step (e.Set place ks) = members_fold ks None [] tt
  step (e.Record place ks) = fields_fold ks None [] tt

  inner : (y : Expr-F Part) → Holds (roll-Expr (plain y))
  inner y = subst (λ u. Finds u (expr_names (roll-Expr (plain y)))) (sym (fault_at (plain y))) (subst (Finds _) (sym (names_at (plain y))) (step y))

  expr_found : (x : Expr) → Holds x
  expr_found = ind-Expr Holds (λ x y at. subst (λ z. Holds (roll-Expr z)) at (inner y))

  -- ---- policies

  constraint_found : (c : Constraint) → Finds (constraint_fault s c) (constraint_names c)
  constraint_found constraint.Any = tt
  constraint_found (constraint.Equal place l) = entity_found l
  constraint_found (constraint.In place l) = entity_found l
  constraint_found (constraint.Is place t) = type_found t
  constraint_found (constraint.IsIn place t in_place l) = both_find (type_fault s t) (entity_fault s l) (of_type t ∷ []) (of_entity l ∷ []) (type_found t) (entity_found l)

  entities_fold : (ls : List EntityLiteral) (u : Undeclared) (us : List Written) → Finds u us → Finds (fold first_of u (map (entity_fault s) ls)) (us ++ map of_entity ls)
  entities_fold [] u us h = subst (Finds u) (sym (append-nil us)) h
  entities_fold (l ∷ ls) u us h =
      let v : Undeclared = first_of u (entity_fault s l) in
      subst (Finds (fold first_of v (map (entity_fault s) ls))) (append_assoc us (of_entity l ∷ []) (map of_entity ls))
      (entities_fold ls v (us ++ of_entity l ∷ []) (both_find u (entity_fault s l) us (of_entity l ∷ []) h (entity_found l)))

  action_found : (c : ActionConstraint) → Finds (action_fault s c) (action_names c)
  action_found action_constraint.Any = tt
  action_found (action_constraint.Equal place l) = entity_found l
  action_found (action_constraint.In place l) = entity_found l
  action_found (action_constraint.InAny place bracket ls) = entities_fold ls None [] tt

  each_clause : (cs : List Condition) → EachFinds (λ (c : Condition). expr_fault s c.body) (λ (c : Condition). expr_names c.body) cs
  each_clause [] = tt
  each_clause (c ∷ cs) = (expr_found c.body, each_clause cs)

  policy_found : (p : Policy) → Finds (policy_fault s p) (names_of p)
  policy_found p =
      let clauses : List Written = flat_map (λ (c : Condition). expr_names c.body) p.conditions in
      both_find (constraint_fault s p.principal.constraint) _ (constraint_names p.principal.constraint) (action_names p.action.constraint ++ (constraint_names p.resource.constraint ++ clauses)) (constraint_found p.principal.constraint)
      (both_find (action_fault s p.action.constraint) _ (action_names p.action.constraint) (constraint_names p.resource.constraint ++ clauses) (action_found p.action.constraint)
      (both_find (constraint_fault s p.resource.constraint) (clauses_fault s p.conditions) (constraint_names p.resource.constraint) clauses (constraint_found p.resource.constraint)
      (all_find (λ (c : Condition). expr_fault s c.body) (λ (c : Condition). expr_names c.body) p.conditions (each_clause p.conditions))))

  -- ---- all policies

  -- what is found of policies that are counted from i on
  abbrev FindsFrom : ℕ → List Policy → Option NameFault → Type 0
  FindsFrom i ps None = AreDeclared s ps
  FindsFrom i ps (Some f) = (k : ℕ) × (f.policy ≡ i + k) × IsToldFirst s ps (record { kind = f.kind; policy = k; place = f.place })

  later : (i : ℕ) (p : Policy) (ps : List Policy) (o : Option NameFault) → AllDeclared s (names_of p) → FindsFrom (i + 1) ps o → FindsFrom i (p ∷ ps) o
  later i p ps None h k = (h, k)
  later i p ps (Some f) h (n, e, told) =
      (suc n, omega (arith, e), record { policy = told.policy; is_policy = told.is_policy; first = told.first; earlier = (h, told.earlier) })

  by_policy : (i : ℕ) (p : Policy) (ps : List Policy) (u : Undeclared) (o : Option NameFault) → Finds u (names_of p) → FindsFrom (i + 1) ps o
      → FindsFrom i (p ∷ ps) (option_or (fault_in i u) o)
  by_policy i p ps None o h k = later i p ps o h k
  by_policy i p ps (Some f) o h k = (0, omega arith, record { policy = p; is_policy = refl; first = h; earlier = tt })

  from_found : (i : ℕ) (ps : List Policy) → FindsFrom i ps (fault_from s i ps)
  from_found i [] = tt
  from_found i (p ∷ ps) = by_policy i p ps (policy_fault s p) (fault_from s (i + 1) ps) (policy_found p) (from_found (i + 1) ps)

  -- ---- what is told of all

  told_first : (ps : List Policy) (f : NameFault) → FindsFrom 0 ps (Some f) → IsToldFirst s ps f
  told_first ps f (k, e, told) = subst (λ n. IsToldFirst s ps (record { kind = f.kind; policy = n; place = f.place })) (sym (e ∙ zero-add k)) told

  -- a name that isn't declared is none of declared ones
  refuted : (ws : List Written) (w : Written) → AllDeclared s ws → Contains ws w → declares s w ≡ false → ⊥
  refuted ws w all among h = let k : declares s w ≡ true = search (all_element _ ws w all among) in absurd (let e : true ≡ false = sym k ∙ h in cc)

  policy_at : (ps : List Policy) (i : ℕ) (p : Policy) → AreDeclared s ps → slice_get ps i ≡ Some p → AllDeclared s (names_of p)
  policy_at ps i p all at = all_element (λ p. AllDeclared s (names_of p)) ps p all (contains_place ps i p at)

  none_told : (ps : List Policy) (o : Option NameFault) → AreDeclared s ps → FindsFrom 0 ps o → o ≡ None
  none_told ps None all h = refl
  none_told ps (Some f) all h =
      let told : IsToldFirst s ps f = told_first ps f h in
      absurd (refuted (names_of told.policy) told.first.name (policy_at ps f.policy told.policy all told.is_policy) told.first.among told.first.undeclared)

pub declared_passes : (s : Declarations) (ps : List Policy) → AreDeclared s ps ↔ (name_fault s ps ≡ None)
declared_passes s ps = (λ all. none_told s ps (name_fault s ps) all (from_found s 0 ps), λ none. subst (FindsFrom s 0 ps) none (from_found s 0 ps))

pub told_is_first : (s : Declarations) (ps : List Policy) (f : NameFault) → name_fault s ps ≡ Some f → IsToldFirst s ps f
told_is_first s ps f at = told_first s ps f (subst (FindsFrom s 0 ps) at (from_found s 0 ps))
