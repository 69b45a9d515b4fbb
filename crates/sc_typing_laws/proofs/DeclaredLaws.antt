-- Uids of policies that write declared names alone.
use Rattle.std.proofs.Common.{◌≡◌, ◌+◌, ℕ, zero, suc, List, [], ◌∷◌, ◌++◌, map, flat_map, fold, Bool, true, false, if◌then◌else◌, Option, Some, None, option_map, is_some, Contains, refl, sym, subst, ◌∙◌, arith}
use Rattle.std.specs.List.{AllByRecursion}
use Rattle.std.specs.Option.{option_or}
use Rattle.std.proofs.lemmas.Bool.{and_parts}
use Rattle.sc_ast.specs.declared.place.Place.{Place}
use Rattle.sc_ast.specs.declared.expr.Expr.{Expr, Expr-F, roll-Expr, map-Expr, ind-Expr, fold-roll-Expr}
use Rattle.sc_ast.specs.declared.expr.Expr.TheOpen as e
use Rattle.sc_ast.specs.declared.literal.Literal.{Literal}
use Rattle.sc_ast.specs.declared.literal.Literal.TheVariants as literal
use Rattle.sc_ast.specs.declared.literal.EntityLiteral.{EntityLiteral}
use Rattle.sc_ast.specs.declared.policy.Condition.{Condition}
use Rattle.sc_ast.specs.declared.policy.Policy.{Policy}
use Rattle.sc_ast.specs.declared.scope.Constraint.{Constraint}
use Rattle.sc_ast.specs.declared.scope.Constraint.TheVariants as constraint
use Rattle.sc_ast.specs.declared.scope.ActionConstraint.{ActionConstraint}
use Rattle.sc_ast.specs.declared.scope.ActionConstraint.TheVariants as action_constraint
use Rattle.sc_ast.specs.Literals.{uids_step, expr_uids, literal_uids, constraint_uids, action_uids, policy_uids, literals}
use Rattle.sc_names.specs.declared.uid.Uid.{Uid}
use Rattle.sc_schema.specs.declared.declarations.EntityType.{EntityType}
use Rattle.sc_schema.specs.Declarations.{Declarations, entity_type, action, is_action_type, choices_of, declared_choices, some_of}
use Rattle.sc_typing.specs.Names.{Undeclared, is_known, has_choice, is_declared, first_of, first_in, uid_fault, type_fault, literal_fault, expr_fault_step, expr_fault, entity_fault, constraint_fault, action_fault, clauses_fault, policy_fault, fault_in, fault_from, name_fault}
use Rattle.sc_typing.specs.declared.name_fault.NameKind.{NameKind}
use Rattle.sc_world.specs.Choices.{is_choice, IsChoice}
use Rattle.sc_world.specs.Named.{IsDeclared}

-- ---- the first of some

first_left : (a b : Undeclared) → first_of a b ≡ None → a ≡ None
first_left None b h = refl
first_left (Some x) None h = absurd cc
first_left (Some x) (Some y) h = absurd cc

first_right : (a b : Undeclared) → first_of a b ≡ None → b ≡ None
first_right None b h = h
first_right (Some x) None h = refl
first_right (Some x) (Some y) h = absurd cc

fold_start : (u : Undeclared) (xs : List Undeclared) → fold first_of u xs ≡ None → u ≡ None
fold_start u [] h = h
fold_start u (x ∷ xs) h = first_left u x (fold_start (first_of u x) xs h)

fold_first : (u x : Undeclared) (xs : List Undeclared) → fold first_of u (x ∷ xs) ≡ None → x ≡ None
fold_first u x xs h = first_right u x (fold_start (first_of u x) xs h)

from_none : (u : Undeclared) (xs : List Undeclared) → u ≡ None → fold first_of u xs ≡ None → fold first_of None xs ≡ None
from_none u xs is h = subst (λ (v : Undeclared). fold first_of v xs ≡ None) is h

rest_none : (x : Undeclared) (xs : List Undeclared) → first_in (x ∷ xs) ≡ None → first_in xs ≡ None
rest_none x xs h = from_none (first_of None x) xs (fold_start (first_of None x) xs h) h

head_none : (x : Undeclared) (xs : List Undeclared) → first_in (x ∷ xs) ≡ None → x ≡ None
head_none x xs h = fold_first None x xs h

-- ---- uids

module _ (s : Declarations) where
  abbrev Is : Uid → Type 0
  Is u = is_declared s u ≡ true

  uid_so : (place : Place) (u : Uid) (b : Bool) (f : Undeclared) → (if b then None else f) ≡ None → (f ≡ None → ⊥) → b ≡ true
  uid_so place u true f h n = refl
  uid_so place u false f h n = absurd (n h)

  some_not : (x : NameKind × Place) → Some x ≡ None → ⊥
  some_not x h = absurd cc

  pub declared_uid : (place : Place) (u : Uid) → uid_fault s place u ≡ None → Is u
  declared_uid place u h = uid_so place u (is_declared s u) _ h (some_not _)

  all_joined : (us vs : List Uid) → AllByRecursion Is us → AllByRecursion Is vs → AllByRecursion Is (us ++ vs)
  all_joined [] vs h k = k
  all_joined (u ∷ us) vs h k = (h.0, all_joined us vs h.1 k)

  -- ---- expressions

  abbrev IsAll : Expr → Type 0
  IsAll x = AllByRecursion Is (expr_uids x)

  abbrev Holds : Expr → Type 0
  Holds x = expr_fault s x ≡ None → IsAll x

  abbrev Part : Type 0
  Part = (x : Expr) × Holds x

  abbrev plain : Expr-F Part → Expr-F Expr
  plain = map-Expr Part Expr (λ k. k.0)

  abbrev parts : List Part → List Expr
  parts ks = map (λ (k : Part). k.0) ks

  abbrev field_parts : List (List ℕ × Part) → List (List ℕ × Expr)
  field_parts ks = map (λ (f : List ℕ × Part). (f.0, f.1.0)) ks

  uids_of : (y : Expr-F Expr) → expr_uids (roll-Expr y) ≡ uids_step (map-Expr Expr (List Uid) expr_uids y)
  unfolding expr_uids
  uids_of y = fold-roll-Expr (List Uid) uids_step y

  fault_of : (y : Expr-F Expr) → expr_fault s (roll-Expr y) ≡ expr_fault_step s (map-Expr Expr Undeclared (expr_fault s) y)
  unfolding expr_fault
  fault_of y = fold-roll-Expr Undeclared (expr_fault_step s) y

  each_member : (ks : List Part) → first_in (map (expr_fault s) (parts ks)) ≡ None → AllByRecursion Is (flat_map (λ (us : List Uid). us) (map expr_uids (parts ks)))
  each_member [] h = tt
  each_member (k ∷ ks) h =
      all_joined (expr_uids k.0) (flat_map (λ (us : List Uid). us) (map expr_uids (parts ks))) (k.1 (head_none (expr_fault s k.0) (map (expr_fault s) (parts ks)) h))
      (each_member ks (rest_none (expr_fault s k.0) (map (expr_fault s) (parts ks)) h))

  abbrev field_faults : List (List ℕ × Expr) → List Undeclared
  field_faults fs = map (λ (f : List ℕ × Undeclared). f.1) (map (λ (f : List ℕ × Expr). (f.0, expr_fault s f.1)) fs)

  abbrev field_uids : List (List ℕ × Expr) → List Uid
  field_uids fs = flat_map (λ (f : List ℕ × List Uid). f.1) (map (λ (f : List ℕ × Expr). (f.0, expr_uids f.1)) fs)

  each_field : (ks : List (List ℕ × Part)) → first_in (field_faults (field_parts ks)) ≡ None → AllByRecursion Is (field_uids (field_parts ks))
  each_field [] h = tt
  each_field (k ∷ ks) h =
      all_joined (expr_uids k.1.0) (field_uids (field_parts ks)) (k.1.1 (head_none (expr_fault s k.1.0) (field_faults (field_parts ks)) h))
      (each_field ks (rest_none (expr_fault s k.1.0) (field_faults (field_parts ks)) h))

  two : (a b : Part) → first_of (expr_fault s a.0) (expr_fault s b.0) ≡ None → AllByRecursion Is (expr_uids a.0 ++ expr_uids b.0)
  two a b h = all_joined (expr_uids a.0) (expr_uids b.0) (a.1 (first_left (expr_fault s a.0) (expr_fault s b.0) h)) (b.1 (first_right (expr_fault s a.0) (expr_fault s b.0) h))

  literal_all : (place : Place) (l : Literal) → literal_fault s place l ≡ None → AllByRecursion Is (literal_uids l)
  literal_all place (literal.Bool b) h = tt
  literal_all place (literal.Long n) h = tt
  literal_all place (literal.String text) h = tt
  literal_all place (literal.Entity u) h = (declared_uid place u h, tt)

  abbrev layer_uids : Expr-F Expr → List Uid
  layer_uids y = uids_step (map-Expr Expr (List Uid) expr_uids y)

  abbrev layer_fault : Expr-F Expr → Undeclared
  layer_fault y = expr_fault_step s (map-Expr Expr Undeclared (expr_fault s) y)

  step : (y : Expr-F Part) → layer_fault (plain y) ≡ None → AllByRecursion Is (layer_uids (plain y))
  step (e.If place c a b) h =
      let rest : Undeclared = first_of (expr_fault s a.0) (expr_fault s b.0) in
      all_joined (expr_uids c.0) (expr_uids a.0 ++ expr_uids b.0) (c.1 (first_left (expr_fault s c.0) rest h)) (two a b (first_right (expr_fault s c.0) rest h))
  step (e.Or place a b) h = two a b h
  step (e.And place a b) h = two a b h
  step (e.Binary place operator a b) h = two a b h
  step (e.Has place a names) h = a.1 h
  step (e.Like place a pattern) h = a.1 h
  step (e.Is place a t) h = a.1 (first_left (expr_fault s a.0) (type_fault s t) h)
  step (e.IsIn place a t in_place b) h =
      let rest : Undeclared = first_of (type_fault s t) (expr_fault s b.0) in
      all_joined (expr_uids a.0) (expr_uids b.0) (a.1 (first_left (expr_fault s a.0) rest h)) (b.1 (first_right (type_fault s t) (expr_fault s b.0) (first_right (expr_fault s a.0) rest h)))
  step (e.Unary place operator a) h = a.1 h
  step (e.Access place a name) h = a.1 h
  step (e.Literal place l) h = literal_all place l h
  step (e.Variable place x) h = tt
  step (e.Set place ks) h = each_member ks h
  step (e.Record place ks) h = each_field ks h

  inner : (y : Expr-F Part) → Holds (roll-Expr (plain y))
  inner y h = subst (AllByRecursion Is) (sym (uids_of (plain y))) (step y (sym (fault_of (plain y)) ∙ h))

  expr_all : (x : Expr) → Holds x
  expr_all = ind-Expr Holds (λ x y at. subst (λ z. Holds (roll-Expr z)) at (inner y))

  -- ---- policies

  constraint_all : (c : Constraint) → constraint_fault s c ≡ None → AllByRecursion Is (constraint_uids c)
  constraint_all constraint.Any h = tt
  constraint_all (constraint.Equal place l) h = (declared_uid l.place l.uid h, tt)
  constraint_all (constraint.In place l) h = (declared_uid l.place l.uid h, tt)
  constraint_all (constraint.Is place t) h = tt
  constraint_all (constraint.IsIn place t in_place l) h = (declared_uid l.place l.uid (first_right (type_fault s t) (entity_fault s l) h), tt)

  entities_all : (ls : List EntityLiteral) → first_in (map (entity_fault s) ls) ≡ None → AllByRecursion Is (map (λ (l : EntityLiteral). l.uid) ls)
  entities_all [] h = tt
  entities_all (l ∷ ls) h = (declared_uid l.place l.uid (head_none (entity_fault s l) (map (entity_fault s) ls) h), entities_all ls (rest_none (entity_fault s l) (map (entity_fault s) ls) h))

  action_all : (c : ActionConstraint) → action_fault s c ≡ None → AllByRecursion Is (action_uids c)
  action_all action_constraint.Any h = tt
  action_all (action_constraint.Equal place l) h = (declared_uid l.place l.uid h, tt)
  action_all (action_constraint.In place l) h = (declared_uid l.place l.uid h, tt)
  action_all (action_constraint.InAny place bracket ls) h = entities_all ls h

  abbrev clause_faults : List Condition → List Undeclared
  clause_faults cs = map (λ (c : Condition). expr_fault s c.body) cs

  clauses_all : (cs : List Condition) → clauses_fault s cs ≡ None → AllByRecursion Is (flat_map (λ (c : Condition). expr_uids c.body) cs)
  clauses_all [] h = tt
  clauses_all (c ∷ cs) h =
      all_joined (expr_uids c.body) (flat_map (λ (d : Condition). expr_uids d.body) cs) (expr_all c.body (head_none (expr_fault s c.body) (clause_faults cs) h)) (clauses_all cs (rest_none (expr_fault s c.body) (clause_faults cs) h))

  policy_all : (p : Policy) → policy_fault s p ≡ None → AllByRecursion Is (policy_uids p)
  policy_all p h =
      let last : Undeclared = first_of (constraint_fault s p.resource.constraint) (clauses_fault s p.conditions) in
      let rest : Undeclared = first_of (action_fault s p.action.constraint) last in
      let h1 = first_right (constraint_fault s p.principal.constraint) rest h in
      let h2 = first_right (action_fault s p.action.constraint) last h1 in
      let clauses : List Uid = flat_map (λ (c : Condition). expr_uids c.body) p.conditions in
      all_joined (constraint_uids p.principal.constraint) (action_uids p.action.constraint ++ (constraint_uids p.resource.constraint ++ clauses)) (constraint_all p.principal.constraint (first_left (constraint_fault s p.principal.constraint) rest h))
      (all_joined (action_uids p.action.constraint) (constraint_uids p.resource.constraint ++ clauses) (action_all p.action.constraint (first_left (action_fault s p.action.constraint) last h1))
      (all_joined (constraint_uids p.resource.constraint) clauses (constraint_all p.resource.constraint (first_left (constraint_fault s p.resource.constraint) (clauses_fault s p.conditions) h2))
      (clauses_all p.conditions (first_right (constraint_fault s p.resource.constraint) (clauses_fault s p.conditions) h2))))

  fault_none : (i : ℕ) (u : Undeclared) → fault_in i u ≡ None → u ≡ None
  fault_none i None h = refl
  fault_none i (Some x) h = absurd cc

  or_left : {X : Type 0} (a b : Option X) → option_or a b ≡ None → a ≡ None
  or_left None b h = refl
  or_left (Some x) b h = absurd cc

  or_right : {X : Type 0} (a b : Option X) → option_or a b ≡ None → b ≡ None
  or_right None b h = h
  or_right (Some x) b h = absurd cc

  policies_all : (i : ℕ) (ps : List Policy) → fault_from s i ps ≡ None → AllByRecursion Is (literals ps)
  policies_all i [] h = tt
  policies_all i (p ∷ ps) h =
      all_joined (policy_uids p) (literals ps) (policy_all p (fault_none i (policy_fault s p) (or_left (fault_in i (policy_fault s p)) (fault_from s (i + 1) ps) h))) (policies_all (i + 1) ps (or_right (fault_in i (policy_fault s p)) (fault_from s (i + 1) ps) h))

  one_of : (us : List Uid) (u : Uid) → AllByRecursion Is us → Contains us u → Is u
  one_of [] u all (k, h, is) = absurd (omega arith)
  one_of (v ∷ us) u all (zero, h, is) = subst Is is all.0
  one_of (v ∷ us) u all (suc k, h, is) = one_of us u all.1 (k, omega arith, is)

  -- ---- what is declared

  one_of_choices : (cs : List (List ℕ)) (id : List ℕ) → has_choice (some_of cs) id ≡ true → is_choice cs id ≡ true
  one_of_choices [] id h = refl
  one_of_choices (c ∷ cs) id h = h

  shape_some : (o : Option EntityType) → is_some o ≡ true → is_some (option_map (λ (t : EntityType). t.shape) o) ≡ true
  shape_some None h = absurd cc
  shape_some (Some t) h = refl

  declared_by : (u : Uid) (b : Bool) → is_action_type s u.type_name ≡ b → (if b then is_some (action s u) else is_some (entity_type s u.type_name)) ≡ true → IsChoice s u → IsDeclared s u
  declared_by u true at h chosen = record { of_type = rw at refl; as_action = λ t. h; as_choice = chosen }
  declared_by u false at h chosen =
      record {
        of_type = rw at (shape_some (entity_type s u.type_name) h);
        as_action = λ t. absurd (let f : false ≡ true = sym at ∙ t in cc);
        as_choice = chosen;
      }

  pub declared_of : (u : Uid) → Is u → IsDeclared s u
  declared_of u h =
      let parts = and_parts (is_known s u) (has_choice (declared_choices s u.type_name) u.id) h in
      declared_by u (is_action_type s u.type_name) refl parts.0 (one_of_choices (choices_of s u.type_name) u.id parts.1)

pub all_declared : (s : Declarations) (ps : List Policy) (u : Uid) → name_fault s ps ≡ None → Contains (literals ps) u → IsDeclared s u
all_declared s ps u none among = declared_of s u (one_of s (literals ps) u (policies_all s 0 ps none) among)
