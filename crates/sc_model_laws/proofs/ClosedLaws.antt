-- Which terms are closed with a closed term, one law for each rule.
use Rattle.std.proofs.Common.{◌≡◌, ◌+◌, ◌++◌, ◌<◌, inl, inr, ℕ, zero, suc, arith, Bool, true, false, List, [], ◌∷◌, map, flat_map, Option, Some, None, refl, sym, ap, ◌∙◌, subst}
use Rattle.sc_laws.proofs.OptionLaws.{same_some}
use Rattle.sc_lists.proofs.MemberLaws.{Has-left, Has-right, Has-map, Has-flat_map, Contains-from_Has}
use Rattle.sc_lists.specs.Members.{Has}
use Rattle.sc_names.specs.declared.uid.Uid.{Uid}
use Rattle.sc_pattern.specs.declared.part.Part.{Part}
use Rattle.sc_schema.specs.declared.declarations.Env.{Env}
use Rattle.sc_schema.specs.Declarations.{Declarations}
use Rattle.sc_sorts.specs.declared.sort.Sort.{Sort, Sort-F, out-Sort}
use Rattle.sc_sorts.specs.declared.sort.Sort.TheVariants as sort
use Rattle.sc_sorts.specs.declared.sort.Sort.TheOpen as s
use Rattle.sc_sorts.specs.Inside.{SortField, SortFields}
use Rattle.sc_sorts.specs.OrderLaws.{sort_eq_decides}
use Rattle.sc_sorts.proofs.OutLaws.{out_Long, out_String, out_Decimal, out_Ip, out_Entity, out_Set, out_Record, out_Option}
use Rattle.sc_sorts.specs.declared.node.UnaryOp.TheVariants as unary
use Rattle.sc_sorts.specs.declared.node.BinaryOp.TheVariants as binary
use Rattle.sc_sorts.specs.declared.node.ManyOp.TheVariants as manys
use Rattle.sc_terms.specs.Trees.{Tree, leaf, one, two, choice, many, Trees, no_part, part}
use Rattle.sc_terms.specs.TreeSorts.{tree_sort}
use Rattle.sc_terms.specs.Order.{tree_eq}
use Rattle.sc_terms.proofs.OrderLaws.{tree_eq-itself}
use Rattle.sc_terms.specs.Folds.{equal_term, field_term, present_term, held_term, default_term, bit_term, like_term}
use Rattle.sc_term_definitions.specs.Definitions.{counted, inputs_of}
use Rattle.sc_term_laws.specs.Tests.{bool_level}
use Rattle.sc_rule_laws.specs.Terms.{one_sort, member, members, written}
use Rattle.sc_closure_rules.specs.Closure.{Closed, next, pair, Role, named, candidate, flow, pattern, inside, inside_by, choices, beside, branches, equations, standing_by, picked, within_by, common_by, parts, trees_in, follow, follow_pair, half, meet, roles, roles_by, roles_in, unless_written, equated_by, members_by, matches_by}

-- the members of a set term are its parts
pub members_trees : (ts : Trees) → members ts ≡ trees_in ts
members_trees no_part = refl
members_trees (part l t ts) = ap (λ us. t ∷ us) (members_trees ts)

-- from a number on, so many
pub counted_has : (n from i : ℕ) → i < n → Has (counted from n) (from + i)
unfolding counted
counted_has zero from i h = absurd (omega (arith, h))
counted_has (suc n) from zero h = inl (omega arith)
counted_has (suc n) from (suc i) h =
    let less : i < n = omega (arith, h) in
    let same : suc from + i ≡ from + suc i = omega arith in
    inr (subst (Has (counted (suc from) n)) same (counted_has n (suc from) i less))

pub counted_place : (n i : ℕ) → i < n → Has (counted 0 n) i
counted_place n i h = let same : 0 + i ≡ i = omega arith in subst (Has (counted 0 n)) same (counted_has n 0 i h)

module _ (d : Declarations) (env : Env) (goal : Tree) where
  abbrev IsClosed : Tree → Type 0
  IsClosed = Closed d env goal

  followed : (x y : Tree) → IsClosed x → Has (follow d x) y → IsClosed y
  followed x y c h = next x y c (Contains-from_Has (follow d x) y h)

  pub of_input : (x y : Tree) → Closed d env goal x → Has (inputs_of x) y → Closed d env goal y
  unfolding follow
  of_input x y c h = followed x y c (Has-left (inputs_of x) (inside x ++ (choices x ++ (beside d x ++ parts x))) y h)

  of_inside : (x y : Tree) → IsClosed x → Has (inside x) y → IsClosed y
  unfolding follow
  of_inside x y c h =
      followed x y c (Has-right (inputs_of x) (inside x ++ (choices x ++ (beside d x ++ parts x))) y
      (Has-left (inside x) (choices x ++ (beside d x ++ parts x)) y h))

  of_choices : (x y : Tree) → IsClosed x → Has (choices x) y → IsClosed y
  unfolding follow
  of_choices x y c h =
      followed x y c (Has-right (inputs_of x) (inside x ++ (choices x ++ (beside d x ++ parts x))) y
      (Has-right (inside x) (choices x ++ (beside d x ++ parts x)) y (Has-left (choices x) (beside d x ++ parts x) y h)))

  of_beside : (x y : Tree) → IsClosed x → Has (beside d x) y → IsClosed y
  unfolding follow
  of_beside x y c h =
      followed x y c (Has-right (inputs_of x) (inside x ++ (choices x ++ (beside d x ++ parts x))) y
      (Has-right (inside x) (choices x ++ (beside d x ++ parts x)) y
      (Has-right (choices x) (beside d x ++ parts x) y (Has-left (beside d x) (parts x) y h))))

  pub of_part : (x y : Tree) → Closed d env goal x → Has (parts x) y → Closed d env goal y
  unfolding follow
  of_part x y c h =
      followed x y c (Has-right (inputs_of x) (inside x ++ (choices x ++ (beside d x ++ parts x))) y
      (Has-right (inside x) (choices x ++ (beside d x ++ parts x)) y
      (Has-right (choices x) (beside d x ++ parts x) y (Has-right (beside d x) (parts x) y h))))

  -- ---- by the sort

  inside_at : (x y : Tree) (k : Sort) (l : Sort-F Sort) → tree_sort x ≡ k → out-Sort k ≡ l → IsClosed x → Has (inside_by l x) y → IsClosed y
  inside_at x y k l e o c h = of_inside x y c (subst (λ (z : Sort-F Sort). Has (inside_by z x) y) (sym (ap out-Sort e ∙ o)) h)

  pub field_closed : (fs : SortFields) (x : Tree) (f : SortField) → tree_sort x ≡ sort.Record fs → Closed d env goal x → Has fs f
      → Closed d env goal (field_term f.0 x)
  field_closed fs x f e c h =
      inside_at x (field_term f.0 x) (sort.Record fs) (s.Record fs) e (out_Record fs) c (Has-map (λ (f : SortField). field_term f.0 x) fs f h)

  pub present_closed : (k : Sort) (x : Tree) → tree_sort x ≡ sort.Option k → Closed d env goal x → Closed d env goal (present_term x)
  present_closed k x e c = inside_at x (present_term x) (sort.Option k) (s.Option k) e (out_Option k) c (inl refl)

  pub held_closed : (k : Sort) (x : Tree) → tree_sort x ≡ sort.Option k → Closed d env goal x → Closed d env goal (held_term x)
  held_closed k x e c = inside_at x (held_term x) (sort.Option k) (s.Option k) e (out_Option k) c (inr (inl refl))

  pub default_closed : (k : Sort) (x : Tree) → tree_sort x ≡ sort.Option k → Closed d env goal x
      → Closed d env goal (equal_term (held_term x) (default_term k))
  default_closed k x e c =
      inside_at x (equal_term (held_term x) (default_term k)) (sort.Option k) (s.Option k) e (out_Option k) c (inr (inr (inl refl)))

  bit_in : (n : ℕ) (x : Tree) (i : ℕ) → i < n → Has (map (bit_term x) (counted 0 n)) (bit_term x i)
  bit_in n x i h = Has-map (bit_term x) (counted 0 n) i (counted_place n i h)

  pub long_bit : (x : Tree) (i : ℕ) → tree_sort x ≡ sort.Long → Closed d env goal x → i < 64 → Closed d env goal (bit_term x i)
  long_bit x i e c h = inside_at x (bit_term x i) sort.Long s.Long e out_Long c (bit_in 64 x i h)

  pub decimal_bit : (x : Tree) (i : ℕ) → tree_sort x ≡ sort.Decimal → Closed d env goal x → i < 64 → Closed d env goal (bit_term x i)
  decimal_bit x i e c h = inside_at x (bit_term x i) sort.Decimal s.Decimal e out_Decimal c (bit_in 64 x i h)

  pub ip_bit_closed : (x : Tree) (i : ℕ) → tree_sort x ≡ sort.Ip → Closed d env goal x → i < 257 → Closed d env goal (bit_term x i)
  ip_bit_closed x i e c h = inside_at x (bit_term x i) sort.Ip s.Ip e out_Ip c (bit_in 257 x i h)

  -- ---- by the row

  branches_are : (l : Sort-F Sort) (x a b : Tree) → bool_level l ≡ false → branches l x a b ≡ equal_term x a ∷ equal_term x b ∷ []
  branches_are s.Bool x a b n = absurd cc
  branches_are s.Long x a b n = refl
  branches_are s.String x a b n = refl
  branches_are s.Decimal x a b n = refl
  branches_are s.Ip x a b n = refl
  branches_are (s.Entity name us) x a b n = refl
  branches_are (s.Set k) x a b n = refl
  branches_are (s.Record fs) x a b n = refl
  branches_are (s.Option k) x a b n = refl

  pub first_branch : (c a b : Tree) → bool_level (out-Sort (tree_sort a)) ≡ false → Closed d env goal (choice c a b)
      → Closed d env goal (equal_term (choice c a b) a)
  first_branch c a b n h =
      of_beside (choice c a b) (equal_term (choice c a b) a) h
      (subst (λ ts. Has ts (equal_term (choice c a b) a)) (sym (branches_are (out-Sort (tree_sort a)) (choice c a b) a b n)) (inl refl))

  pub second_branch : (c a b : Tree) → bool_level (out-Sort (tree_sort a)) ≡ false → Closed d env goal (choice c a b)
      → Closed d env goal (equal_term (choice c a b) b)
  second_branch c a b n h =
      of_beside (choice c a b) (equal_term (choice c a b) b) h
      (subst (λ ts. Has ts (equal_term (choice c a b) b)) (sym (branches_are (out-Sort (tree_sort a)) (choice c a b) a b n)) (inr (inl refl)))

  equation_at : (a b y : Tree) (k : Sort) (l : Sort-F Sort) → tree_sort a ≡ k → out-Sort k ≡ l → IsClosed (two binary.Equal a b) → Has (equations l a b) y → IsClosed y
  equation_at a b y k l e o c h =
      of_beside (two binary.Equal a b) y c (subst (λ (z : Sort-F Sort). Has (equations z a b) y) (sym (ap out-Sort e ∙ o)) h)

  pub fields_equation : (fs : SortFields) (a b : Tree) (f : SortField) → tree_sort a ≡ sort.Record fs → Closed d env goal (two binary.Equal a b) → Has fs f
      → Closed d env goal (equal_term (field_term f.0 a) (field_term f.0 b))
  fields_equation fs a b f e c h =
      equation_at a b (equal_term (field_term f.0 a) (field_term f.0 b)) (sort.Record fs) (s.Record fs) e (out_Record fs) c
      (Has-map (λ (f : SortField). equal_term (field_term f.0 a) (field_term f.0 b)) fs f h)

  pub held_equation : (k : Sort) (a b : Tree) → tree_sort a ≡ sort.Option k → Closed d env goal (two binary.Equal a b)
      → Closed d env goal (equal_term (held_term a) (held_term b))
  held_equation k a b e c =
      equation_at a b (equal_term (held_term a) (held_term b)) (sort.Option k) (s.Option k) e (out_Option k) c (inl refl)

  pub subset_closed : (k : Sort) (a b : Tree) → tree_sort a ≡ sort.Set k → Closed d env goal (two binary.Equal a b) → Closed d env goal (two binary.Subset a b)
  subset_closed k a b e c = equation_at a b (two binary.Subset a b) (sort.Set k) (s.Set k) e (out_Set k) c (inl refl)

  pub superset_closed : (k : Sort) (a b : Tree) → tree_sort a ≡ sort.Set k → Closed d env goal (two binary.Equal a b) → Closed d env goal (two binary.Subset b a)
  superset_closed k a b e c = equation_at a b (two binary.Subset b a) (sort.Set k) (s.Set k) e (out_Set k) c (inr (inl refl))

  -- what is asked of a set term is told by those that stand there
  pub standing_equation : (x a t : Tree) (us : List Tree) → written a ≡ Some us → Closed d env goal (two binary.Member x a) → Has us t → Closed d env goal (equal_term x t)
  standing_equation x a t us e c h =
      of_beside (two binary.Member x a) (equal_term x t) c
      (subst (λ (o : Option (List Tree)). Has (standing_by o x) (equal_term x t)) (sym e) (Has-map (equal_term x) us t h))

  pub standing_within : (a b t : Tree) (us : List Tree) → written a ≡ Some us → Closed d env goal (two binary.Subset a b) → Has us t → Closed d env goal (two binary.Member t b)
  standing_within a b t us e c h =
      of_beside (two binary.Subset a b) (two binary.Member t b) c
      (subst (λ (o : Option (List Tree)). Has (within_by o a b) (two binary.Member t b)) (sym e) (Has-map (λ u. member u b) us t h))

  pub first_standing : (a b t : Tree) (us : List Tree) → written a ≡ Some us → Closed d env goal (two binary.Common a b) → Has us t → Closed d env goal (two binary.Member t b)
  first_standing a b t us e c h =
      of_beside (two binary.Common a b) (two binary.Member t b) c
      (subst (λ (o : Option (List Tree)). Has (common_by o (written b) a b) (two binary.Member t b)) (sym e) (Has-map (λ u. member u b) us t h))

  common_beside : (a b y : Tree) (o p : Option (List Tree)) → written a ≡ o → written b ≡ p → IsClosed (two binary.Common a b) → Has (common_by o p a b) y → IsClosed y
  common_beside a b y o p e f c h = of_beside (two binary.Common a b) y c (subst (λ (q : Option (List Tree) × Option (List Tree)). Has (common_by q.0 q.1 a b) y) (λ i. (sym e i, sym f i)) h)

  pub second_standing : (a b t : Tree) (us : List Tree) → written a ≡ None → written b ≡ Some us → Closed d env goal (two binary.Common a b) → Has us t → Closed d env goal (two binary.Member t a)
  second_standing a b t us e f c h = common_beside a b (two binary.Member t a) None (Some us) e f c (Has-map (λ u. member u a) us t h)

  -- what is asked of two others, by a member that is picked
  pub missing_closed : (a b y : Tree) → written a ≡ None → Closed d env goal (two binary.Subset a b) → Has (picked (two binary.DifferencePick a b) a b) y → Closed d env goal y
  missing_closed a b y e c h = of_beside (two binary.Subset a b) y c (subst (λ (o : Option (List Tree)). Has (within_by o a b) y) (sym e) h)

  pub shared_closed : (a b y : Tree) → written a ≡ None → written b ≡ None → Closed d env goal (two binary.Common a b) → Has (picked (two binary.CommonPick a b) a b) y → Closed d env goal y
  shared_closed a b y e f c h = common_beside a b y None None e f c h

  -- those that stand in a set term are closed
  pub standing_closed : (a t : Tree) (us : List Tree) → written a ≡ Some us → Closed d env goal a → Has us t → Closed d env goal t
  standing_closed (many (manys.Set k) ts) t us e c h =
      of_part (many (manys.Set k) ts) t c (subst (λ vs. Has vs t) (members_trees ts) (subst (λ (vs : List Tree). Has vs t) (sym (same_some e)) h))
  standing_closed (many manys.Record ts) t us e c h = absurd cc
  standing_closed (leaf l) t us e c h = absurd cc
  standing_closed (one o a) t us e c h = absurd cc
  standing_closed (two o a b) t us e c h = absurd cc
  standing_closed (choice c a b) t us e i h = absurd cc

  pub tag_keys : (own : Sort) (e k : Tree) → Closed d env goal (two (binary.Tag own) e k) → Closed d env goal (one unary.Keys e)
  tag_keys own e k c = of_beside (two (binary.Tag own) e k) (one unary.Keys e) c (inl refl)

  pub tag_key : (own : Sort) (e k : Tree) → Closed d env goal (two (binary.Tag own) e k) → Closed d env goal (two binary.Member k (one unary.Keys e))
  tag_key own e k c = of_beside (two (binary.Tag own) e k) (two binary.Member k (one unary.Keys e)) c (inr (inl refl))

  pub tag_default : (own : Sort) (e k : Tree) → Closed d env goal (two (binary.Tag own) e k)
      → Closed d env goal (equal_term (two (binary.Tag own) e k) (default_term own))
  tag_default own e k c =
      of_beside (two (binary.Tag own) e k) (equal_term (two (binary.Tag own) e k) (default_term own)) c (inr (inr (inl refl)))

  -- ---- of two

  met : (x y z : Tree) (p q : Role) → IsClosed x → IsClosed y → Has (roles x) p → Has (roles y) q → Has (meet p q) z → IsClosed z
  met x y z p q c e h k l =
      pair x y z c e
      (Contains-from_Has (follow_pair x y) z
      (Has-left (half x y) (half y x) z
      (Has-flat_map (λ p. flat_map (meet p) (roles y)) (roles x) p z h (Has-flat_map (meet p) (roles y) q z k l))))

  role_at : (x : Tree) (k : Sort) (l : Sort-F Sort) (p : Role) → tree_sort x ≡ k → out-Sort k ≡ l → Has (roles_by l x) p → Has (roles x) p
  role_at x k l p e o h =
      Has-left (roles_by (out-Sort (tree_sort x)) x) (roles_in x) p (subst (λ (z : Sort-F Sort). Has (roles_by z x) p) (sym (ap out-Sort e ∙ o)) h)

  role_in : (x : Tree) (p : Role) → Has (roles_in x) p → Has (roles x) p
  role_in x p h = Has-right (roles_by (out-Sort (tree_sort x)) x) (roles_in x) p h

  of_one_sort : (e f x y : Tree) → tree_sort e ≡ tree_sort f → Has (equated_by (one_sort e f) x y) (equal_term x y)
  of_one_sort e f x y h = subst (λ b. Has (equated_by b x y) (equal_term x y)) (sym ((sort_eq_decides (tree_sort e) (tree_sort f)).1 h)) (inl refl)

  pub strings_equation : (x y : Tree) → tree_sort x ≡ sort.String → tree_sort y ≡ sort.String → Closed d env goal x → Closed d env goal y
      → Closed d env goal (equal_term x y)
  strings_equation x y e f c h =
      met x y (equal_term x y) (named x) (named y) c h (role_at x sort.String s.String (named x) e out_String (inl refl))
      (role_at y sort.String s.String (named y) f out_String (inl refl)) (of_one_sort x y x y (e ∙ sym f))

  -- no rule brings in a pattern, but each string is asked each of them
  pub like_closed : (x y : Tree) (p : List Part) → tree_sort x ≡ sort.String → Closed d env goal x → Closed d env goal (one (unary.Like p) y)
      → Closed d env goal (like_term x p)
  like_closed x y p e c h =
      met x (one (unary.Like p) y) (like_term x p) (named x) (pattern p) c h (role_at x sort.String s.String (named x) e out_String (inl refl))
      (role_in (one (unary.Like p) y) (pattern p) (inl refl))
      (subst (λ (l : Sort-F Sort). Has (matches_by l x p) (like_term x p)) (sym (ap out-Sort e ∙ out_String)) (inl refl))

  pub entities_equation : (name : List ℕ) (us : List Uid) (x y : Tree) → tree_sort x ≡ sort.Entity name us → tree_sort y ≡ sort.Entity name us
      → Closed d env goal x → Closed d env goal y → Closed d env goal (equal_term x y)
  entities_equation name us x y e f c h =
      met x y (equal_term x y) (named x) (named y) c h (role_at x (sort.Entity name us) (s.Entity name us) (named x) e (out_Entity name us) (inl refl))
      (role_at y (sort.Entity name us) (s.Entity name us) (named y) f (out_Entity name us) (inl refl)) (of_one_sort x y x y (e ∙ sym f))

  -- ---- candidates of sets that are no set terms

  plain_role : (a : Tree) (r : Role) → written a ≡ None → Has (unless_written (written a) r) r
  plain_role a r e = subst (λ (o : Option (List Tree)). Has (unless_written o r) r) (sym e) (inl refl)

  member_role : (x a : Tree) → written a ≡ None → Has (roles (two binary.Member x a)) (candidate x a)
  member_role x a e = role_in (two binary.Member x a) (candidate x a) (plain_role a (candidate x a) e)

  tested : (b : Bool) (x y : Tree) → b ≡ true → Has (members_by b x y) (two binary.Member x y)
  tested b x y e = subst (λ t. Has (members_by t x y) (two binary.Member x y)) (sym e) (inl refl)

  -- each two of one set are equated
  pub candidates_equation : (x y a : Tree) → written a ≡ None → Closed d env goal (two binary.Member x a) → Closed d env goal (two binary.Member y a) → Closed d env goal (equal_term x y)
  candidates_equation x y a e c h =
      met (two binary.Member x a) (two binary.Member y a) (equal_term x y) (candidate x a) (candidate y a) c h (member_role x a e) (member_role y a e)
      (subst (λ b. Has (equated_by b x y) (equal_term x y)) (sym (tree_eq-itself a)) (inl refl))

  flowed : (x a b q : Tree) → written a ≡ None → IsClosed (two binary.Member x a) → IsClosed q → Has (roles q) (flow a b) → IsClosed (two binary.Member x b)
  flowed x a b q e c h r =
      met (two binary.Member x a) q (two binary.Member x b) (candidate x a) (flow a b) c h (member_role x a e) r (tested (tree_eq a a) x b (tree_eq-itself a))

  -- they are candidates of a set of which it is asked
  pub within_flows : (x a b : Tree) → written a ≡ None → Closed d env goal (two binary.Member x a) → Closed d env goal (two binary.Subset a b) → Closed d env goal (two binary.Member x b)
  within_flows x a b e c h = flowed x a b (two binary.Subset a b) e c h (role_in (two binary.Subset a b) (flow a b) (plain_role a (flow a b) e))

  pub common_flows : (x a b : Tree) → written a ≡ None → written b ≡ None → Closed d env goal (two binary.Member x a) → Closed d env goal (two binary.Common a b) → Closed d env goal (two binary.Member x b)
  common_flows x a b e f c h =
      flowed x a b (two binary.Common a b) e c h (role_in (two binary.Common a b) (flow a b)
      (Has-flat_map (λ r. unless_written (written b) r) (unless_written (written a) (flow a b)) (flow a b) (flow a b) (plain_role a (flow a b) e) (plain_role b (flow a b) f)))
