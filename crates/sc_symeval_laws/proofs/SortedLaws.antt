-- Sorts of terms, where their values are options, and that the parts of record terms have the kinds of their sorts: what compiled
-- terms keep, whatever numbers and texts are written.
use Rattle.std.proofs.Common.{◌≡◌, ℕ, List, [], ◌∷◌, Bool, true, false, not, cond, All, Option, Some, None, refl, sym, ap, subst, ◌∙◌}
use Rattle.std.specs.List.{AllByRecursion}
use Rattle.std.specs.List.Sorted.{IsStrictlySortedBy}
use Rattle.std.specs.Map.{lookup, keys_of}
use Rattle.std.specs.Str.{bytes_eq}
use Rattle.sc_names.specs.Uids.{text_cmp}
use Rattle.sc_pattern.specs.declared.part.Part.{Part}
use Rattle.sc_world.specs.declared.world.World.{World}
use Rattle.sc_sorts.specs.declared.sort.Sort.{Sort, Sort-F, out-Sort}
use Rattle.sc_sorts.specs.declared.sort.Sort.TheVariants as sort
use Rattle.sc_sorts.specs.Defaults.{is_option, is_option_level, default_of}
use Rattle.sc_values.specs.declared.value.Value.{Value}
use Rattle.sc_sorts.specs.Inside.{SortFields, fields_in, field_sort, held_sort}
use Rattle.sc_sorts.proofs.OutLaws as sorts
use Rattle.sc_sorts.specs.declared.node.Leaf.{Leaf}
use Rattle.sc_sorts.specs.declared.node.Leaf.TheVariants as leafs
use Rattle.sc_sorts.specs.declared.node.Literal.{Literal}
use Rattle.sc_sorts.specs.declared.node.Literal.TheVariants as literal
use Rattle.sc_sorts.specs.declared.node.UnaryOp.{UnaryOp}
use Rattle.sc_sorts.specs.declared.node.UnaryOp.TheVariants as unary
use Rattle.sc_sorts.specs.declared.node.BinaryOp.{BinaryOp}
use Rattle.sc_sorts.specs.declared.node.BinaryOp.TheVariants as binary
use Rattle.sc_sorts.specs.declared.node.ManyOp.TheVariants as manys
use Rattle.sc_sorts.specs.NodeSorts.{leaf_sort, literal_sort, unary_sort, binary_sort}
use Rattle.sc_terms.specs.Trees.{Tree, leaf, one, two, choice, many, Trees, no_part, part, Labelled, listed, parts_of}
use Rattle.sc_terms.specs.TreeSorts.{tree_sort, sorts_of}
use Rattle.sc_terms.specs.Order.{tree_eq}
use Rattle.sc_terms.specs.Folds.{literal_term, truth_term, constant, under_not, literal_of, literals_same, absent, component, among_parts, equation, other_equal, not_by, not_term, and_by, and_term, or_by, or_term, choice_by, choice_term, equal_by, equal_term, field_by, field_term, present_by, present_term, held_by, held_term, bit_by, bit_term, like_by, like_term, set_term, record_term}
use Rattle.sc_terms.specs.Joined.{all_of}
use Rattle.sc_terms.specs.Values.{Val, val, seen, is_maybe, not_seen, not_value, and_seen, and_value, or_seen, or_value, equal_seen, equal_value, choice_value, truth, field_seen, held_value, option_in, default_by, HaveKinds, HasKinds}
use Rattle.sc_terms.proofs.FoldValues.{leaf_is, one_is, two_is, many_is, under}
use Rattle.sc_terms.proofs.JoinedKeeps.{joined_keeps}
use Rattle.sc_term_laws.proofs.FitRecords.{all_apart, swapped}
use Rattle.sc_term_laws.proofs.JudgingLaws.{held_of, field_of_record}

-- ---- sorts that aren't of options

pub bool_plain : is_option sort.Bool ≡ false
bool_plain = ap (is_option_level Sort) sorts.out_Bool

pub long_plain : is_option sort.Long ≡ false
long_plain = ap (is_option_level Sort) sorts.out_Long

pub string_plain : is_option sort.String ≡ false
string_plain = ap (is_option_level Sort) sorts.out_String

pub decimal_plain : is_option sort.Decimal ≡ false
decimal_plain = ap (is_option_level Sort) sorts.out_Decimal

pub ip_plain : is_option sort.Ip ≡ false
ip_plain = ap (is_option_level Sort) sorts.out_Ip

pub entity_plain : (name : List ℕ) (choices : _) → is_option (sort.Entity name choices) ≡ false
entity_plain name choices = ap (is_option_level Sort) (sorts.out_Entity name choices)

pub set_plain : (k : Sort) → is_option (sort.Set k) ≡ false
set_plain k = ap (is_option_level Sort) (sorts.out_Set k)

pub record_plain : (fs : SortFields) → is_option (sort.Record fs) ≡ false
record_plain fs = ap (is_option_level Sort) (sorts.out_Record fs)

pub option_told : (k : Sort) → is_option (sort.Option k) ≡ true
option_told k = ap (is_option_level Sort) (sorts.out_Option k)

-- ---- fields

-- terms of the sorts of fields, of the same names, none of options
abbrev pub AreFields : (Sort → Tree → Type 0) → SortFields → List Labelled → Type 0
AreFields Is [] [] = Unit {0}
AreFields Is [] (t ∷ ts) = ⊥
AreFields Is (f ∷ fs) [] = ⊥
AreFields Is (f ∷ fs) (t ∷ ts) = (f.0 ≡ t.0) × Is f.1 t.1 × (is_option f.1 ≡ false) × AreFields Is fs ts

-- ---- what is kept of a term

-- it has no parts that are looked into
abbrev is_simple : Tree → Bool
is_simple (leaf (leafs.None held)) = false
is_simple (leaf l) = true
is_simple (one unary.Not t) = false
is_simple (one o t) = true
is_simple (two o a b) = true
is_simple (choice c a b) = true
is_simple (many manys.Record ts) = false
is_simple (many o ts) = true

module _ (w : World) where
  mutual
    -- a negation, a record, or a term that isn't looked into; none is an absent option
    pub data HasParts : Tree → Type 0 where
      of_simple : (t : Tree) → is_simple t ≡ true → HasParts t
      of_negation : (t u : Tree) → t ≡ one unary.Not u → tree_sort u ≡ sort.Bool → is_maybe (val u w) ≡ false → HasParts u → HasParts t
      of_record : (t : Tree) (ts : Trees) → t ≡ many manys.Record ts → AreParts ts → HasParts t

    pub data AreParts : Trees → Type 0 where
      no_more : AreParts no_part
      one_more : (l : List ℕ) (t : Tree) (ts : Trees) → lookup (bytes_eq l) (listed ts) ≡ None → is_maybe (val t w) ≡ is_option (tree_sort t) → HasParts t → AreParts ts → AreParts (part l t ts)

  -- a term of a sort, whose value is an option just where the sort is one of options
  pub record IsSorted (k : Sort) (t : Tree) : Type 0 where
    pub sorted : tree_sort t ≡ k
    pub kind : is_maybe (val t w) ≡ is_option k
    pub parts : HasParts t

  -- ---- records

  have_kinds : (ts : Trees) → AreParts ts → HaveKinds ts w
  have_kinds no_part h = tt
  have_kinds _ (one_more l t ts apart kind parts rest) = (apart, kind, have_kinds ts rest)

  no_kinds : (t : Tree) → is_simple t ≡ true → HasKinds t w
  no_kinds (leaf l) h = tt
  no_kinds (one o t) h = tt
  no_kinds (two o a b) h = tt
  no_kinds (choice c a b) h = tt
  no_kinds (many (manys.Set k) ts) h = tt
  no_kinds (many manys.Record ts) h = absurd cc

  pub kinds_of : (t : Tree) → HasParts t → HasKinds t w
  kinds_of _ (of_simple t h) = no_kinds t h
  kinds_of _ (of_negation t u is sorted kind parts) = subst (λ (z : Tree). HasKinds z w) (sym is) tt
  kinds_of _ (of_record t ts is h) = subst (λ (z : Tree). HasKinds z w) (sym is) (have_kinds ts h)

  same_parts : (ts us : Trees) → many manys.Record ts ≡ many manys.Record us → ts ≡ us
  same_parts ts us e = cc

  parts_in : (t : Tree) (ts : Trees) → HasParts t → t ≡ many manys.Record ts → AreParts ts
  parts_in _ ts (of_simple t h) e = absurd (let clash : false ≡ true = sym (ap is_simple e) ∙ h in cc)
  parts_in _ ts (of_negation t u is sorted kind parts) e = absurd (let clash : one unary.Not u ≡ many manys.Record ts = sym is ∙ e in cc)
  parts_in _ ts (of_record t us is h) e = subst AreParts (same_parts us ts (sym is ∙ e)) h

  found_by : (k : Sort) (t u : Tree) (b : Bool) (p : Option Sort) (q : Option Tree) → cond b (Some (tree_sort t)) p ≡ Some k → cond b (Some t) q ≡ Some u → is_maybe (val t w) ≡ is_option (tree_sort t) → HasParts t
      → (p ≡ Some k → q ≡ Some u → IsSorted k u) → IsSorted k u
  found_by k t u true p q i j kind parts later =
      let at : tree_sort t ≡ k = cc in
      let same : t ≡ u = cc in
      subst (IsSorted k) same (record { sorted = at; kind = kind ∙ ap is_option at; parts = parts })
  found_by k t u false p q i j kind parts later = later i j

  found_in : (ts : Trees) (name : List ℕ) (k : Sort) (u : Tree) → AreParts ts → lookup (bytes_eq name) (sorts_of ts) ≡ Some k → among_parts name ts ≡ Some u → IsSorted k u
  unfolding tree_sort
  found_in _ name k u no_more e f = absurd cc
  found_in _ name k u (one_more l t ts apart kind parts rest) e f =
      found_by k t u (bytes_eq name l) (lookup (bytes_eq name) (sorts_of ts)) (lookup (bytes_eq name) (listed ts)) e f kind parts (λ i j. found_in ts name k u rest i j)

  -- ---- of simple terms

  simple_is : (k : Sort) (t : Tree) → is_simple t ≡ true → tree_sort t ≡ k → is_maybe (val t w) ≡ false → is_option k ≡ false → IsSorted k t
  simple_is k t h sorted value plain = record { sorted = sorted; kind = value ∙ sym plain; parts = of_simple t h }

  leaf_sorted : (l : Leaf) → tree_sort (leaf l) ≡ leaf_sort l
  unfolding tree_sort
  leaf_sorted l = refl

  one_sorted : (o : UnaryOp) (a : Tree) → tree_sort (one o a) ≡ unary_sort o (tree_sort a)
  unfolding tree_sort
  one_sorted o a = refl

  two_sorted : (o : BinaryOp) (a b : Tree) → tree_sort (two o a b) ≡ binary_sort o (tree_sort a)
  unfolding tree_sort
  two_sorted o a b = refl

  choice_sorted : (c a b : Tree) → tree_sort (choice c a b) ≡ tree_sort a
  unfolding tree_sort
  choice_sorted c a b = refl

  pub literal_is : (l : Literal) → is_option (literal_sort l) ≡ false → IsSorted (literal_sort l) (literal_term l)
  literal_is l plain = simple_is (literal_sort l) (literal_term l) refl (leaf_sorted (leafs.Literal l)) (ap is_maybe (leaf_is (leafs.Literal l) w)) plain

  pub truth_sorted : (b : Bool) → IsSorted sort.Bool (truth_term b)
  truth_sorted b = literal_is (literal.Bool b) bool_plain

  pub principal_is : (k : Sort) → is_option k ≡ false → IsSorted k (leaf (leafs.Principal k))
  principal_is k plain = simple_is k (leaf (leafs.Principal k)) refl (leaf_sorted (leafs.Principal k)) (ap is_maybe (leaf_is (leafs.Principal k) w)) plain

  pub resource_is : (k : Sort) → is_option k ≡ false → IsSorted k (leaf (leafs.Resource k))
  resource_is k plain = simple_is k (leaf (leafs.Resource k)) refl (leaf_sorted (leafs.Resource k)) (ap is_maybe (leaf_is (leafs.Resource k) w)) plain

  pub context_is : (k : Sort) → is_option k ≡ false → IsSorted k (leaf (leafs.Context k))
  context_is k plain = simple_is k (leaf (leafs.Context k)) refl (leaf_sorted (leafs.Context k)) (ap is_maybe (leaf_is (leafs.Context k) w)) plain

  -- ---- negations

  not_kind : (x : Val) → is_maybe x ≡ false → is_maybe (not_value x) ≡ false
  unfolding not_value
  not_kind x h = by (seen x)
    where
      by : (o : Option Bool) → is_maybe (not_seen o x) ≡ false
      by (Some b) = refl
      by None = h

  under_parts : (t u : Tree) → HasParts t → t ≡ one unary.Not u → IsSorted sort.Bool u
  under_parts _ u (of_simple t h) e = absurd (let clash : false ≡ true = sym (ap is_simple e) ∙ h in cc)
  under_parts _ u (of_negation t v is sorted kind parts) e =
      let same : v ≡ u = cc in
      subst (IsSorted sort.Bool) same (record { sorted = sorted; kind = kind ∙ sym bool_plain; parts = parts })
  under_parts _ u (of_record t ts is h) e = absurd (let clash : many manys.Record ts ≡ one unary.Not u = sym is ∙ e in cc)

  bool_kind : (t : Tree) → IsSorted sort.Bool t → is_maybe (val t w) ≡ false
  bool_kind t h = h.kind ∙ bool_plain

  pub not_sorted : (a : Tree) → IsSorted sort.Bool a → IsSorted sort.Bool (not_term a)
  unfolding not_term
  not_sorted a h = by (constant a) (under_not a) refl refl
    where
      plain : IsSorted sort.Bool (one unary.Not a)
      plain = record {
        sorted = one_sorted unary.Not a;
        kind = ap is_maybe (one_is unary.Not a w) ∙ not_kind (val a w) (bool_kind a h) ∙ sym bool_plain;
        parts = of_negation (one unary.Not a) a refl h.sorted (bool_kind a h) h.parts;
      }

      by : (c : Option Bool) (u : Option Tree) → constant a ≡ c → under_not a ≡ u → IsSorted sort.Bool (not_by c u a)
      by (Some b) u e f = truth_sorted (not b)
      by None (Some x) e f = under_parts a x h.parts (under a x f)
      by None None e f = plain

  -- ---- both, one, choices, equations

  bool_two : (o : BinaryOp) (a b : Tree) → binary_sort o (tree_sort a) ≡ sort.Bool → is_maybe (val (two o a b) w) ≡ false → IsSorted sort.Bool (two o a b)
  bool_two o a b sorted kind = simple_is sort.Bool (two o a b) refl (two_sorted o a b ∙ sorted) kind bool_plain

  module _ (a b : Tree) (g : IsSorted sort.Bool a) (h : IsSorted sort.Bool b) where
    and_kind : (o p : Option Bool) → is_maybe (and_seen o p (val a w) (val b w)) ≡ false
    and_kind (Some true) p = bool_kind b h
    and_kind (Some false) p = bool_kind a g
    and_kind None (Some true) = bool_kind a g
    and_kind None (Some false) = bool_kind b h
    and_kind None None = bool_kind a g

    and_plain : is_maybe (val (two binary.And a b) w) ≡ false
    unfolding and_value
    and_plain = ap is_maybe (two_is binary.And a b w) ∙ and_kind (seen (val a w)) (seen (val b w))

    pub and_sorted : IsSorted sort.Bool (and_term a b)
    unfolding and_term
    and_sorted = by (constant a) (constant b) (tree_eq a b)
      where
        by : (c e : Option Bool) (s : Bool) → IsSorted sort.Bool (and_by c e s a b)
        by (Some true) e s = h
        by (Some false) e s = g
        by None (Some true) s = g
        by None (Some false) s = h
        by None None true = g
        by None None false = bool_two binary.And a b refl and_plain

    or_kind : (o p : Option Bool) → is_maybe (or_seen o p (val a w) (val b w)) ≡ false
    or_kind (Some true) p = bool_kind a g
    or_kind (Some false) p = bool_kind b h
    or_kind None (Some true) = bool_kind b h
    or_kind None (Some false) = bool_kind a g
    or_kind None None = bool_kind a g

    or_plain : is_maybe (val (two binary.Or a b) w) ≡ false
    unfolding or_value
    or_plain = ap is_maybe (two_is binary.Or a b w) ∙ or_kind (seen (val a w)) (seen (val b w))

    pub or_sorted : IsSorted sort.Bool (or_term a b)
    unfolding or_term
    or_sorted = by (constant a) (constant b) (tree_eq a b)
      where
        by : (c e : Option Bool) (s : Bool) → IsSorted sort.Bool (or_by c e s a b)
        by (Some true) e s = g
        by (Some false) e s = h
        by None (Some true) s = h
        by None (Some false) s = g
        by None None true = g
        by None None false = bool_two binary.Or a b refl or_plain

  choice_val : (c a b : Tree) → val (choice c a b) w ≡ choice_value (val c w) (val a w) (val b w)
  unfolding val
  choice_val c a b = refl

  pub chosen_sorted : (k : Sort) (c a b : Tree) → IsSorted k a → IsSorted k b → IsSorted k (choice_term c a b)
  unfolding choice_term
  chosen_sorted k c a b g h = by (constant c) (tree_eq a b)
    where
      chosen : (r : Bool) → is_maybe (cond r (val a w) (val b w)) ≡ is_option k
      chosen true = g.kind
      chosen false = h.kind

      plain : is_maybe (val (choice c a b) w) ≡ is_option k
      plain = ap is_maybe (choice_val c a b) ∙ chosen (truth (val c w))

      by : (o : Option Bool) (s : Bool) → IsSorted k (choice_by o s c a b)
      by (Some true) s = g
      by (Some false) s = h
      by None true = g
      by None false = record { sorted = choice_sorted c a b ∙ g.sorted; kind = plain; parts = of_simple (choice c a b) refl }

  constant_sorted : (a : Tree) (b : Bool) → constant a ≡ Some b → tree_sort a ≡ sort.Bool
  unfolding tree_sort
  constant_sorted (leaf (leafs.Literal (literal.Bool c))) b h = refl
  constant_sorted _ b h = absurd cc

  equal_kind : (o p : Option Bool) (x y : Val) → is_maybe x ≡ false → is_maybe y ≡ false → is_maybe (equal_seen o p x y) ≡ false
  equal_kind (Some true) p x y g h = h
  equal_kind (Some false) p x y g h = not_kind y h
  equal_kind None (Some true) x y g h = g
  equal_kind None (Some false) x y g h = not_kind x g
  equal_kind None None x y g h = refl

  equation_sorted : (a b : Tree) → is_maybe (val a w) ≡ false → is_maybe (val b w) ≡ false → IsSorted sort.Bool (two binary.Equal a b)
  unfolding equal_value
  equation_sorted a b g h =
      bool_two binary.Equal a b refl (ap is_maybe (two_is binary.Equal a b w) ∙ equal_kind (seen (val a w)) (seen (val b w)) (val a w) (val b w) g h)

  pub equal_sorted : (k : Sort) (a b : Tree) → is_option k ≡ false → IsSorted k a → IsSorted k b → IsSorted sort.Bool (equal_term a b)
  unfolding equal_term
  equal_sorted k a b plain g h = by (constant a) (constant b) refl refl
    where
      moved : (c d : Tree) (v : Bool) → IsSorted k c → constant c ≡ Some v → IsSorted k d → IsSorted sort.Bool d
      moved c d v i e j = subst (λ (z : Sort). IsSorted z d) (sym i.sorted ∙ constant_sorted c v e) j

      ordered : (o : Bool) → IsSorted sort.Bool (equation o a b)
      ordered true = equation_sorted b a (h.kind ∙ plain) (g.kind ∙ plain)
      ordered false = equation_sorted a b (g.kind ∙ plain) (h.kind ∙ plain)

      other : (s : Bool) (l : Option Bool) → IsSorted sort.Bool (other_equal s l a b)
      other true l = truth_sorted true
      other false (Some same) = truth_sorted same
      other false None = ordered _

      by : (c e : Option Bool) → constant a ≡ c → constant b ≡ e → IsSorted sort.Bool (equal_by c e a b)
      by (Some true) e i j = moved a b true g i h
      by (Some false) e i j = not_sorted b (moved a b false g i h)
      by None (Some true) i j = moved b a true h j g
      by None (Some false) i j = not_sorted a (moved b a false h j g)
      by None None i j = other (tree_eq a b) (literals_same (literal_of a) (literal_of b))

  -- ---- fields and options

  record_sorts : (ts : Trees) (fs : SortFields) → tree_sort (many manys.Record ts) ≡ sort.Record fs → sorts_of ts ≡ fs
  unfolding tree_sort
  record_sorts ts fs e = ap (λ (x : Sort-F Sort). fields_in x) (sym (sorts.out_Record (sorts_of ts)) ∙ ap out-Sort e ∙ sorts.out_Record fs)

  component_sorted : (fs : SortFields) (name : List ℕ) (k : Sort) (a u : Tree) → IsSorted (sort.Record fs) a → lookup (bytes_eq name) fs ≡ Some k → component name a ≡ Some u → IsSorted k u
  component_sorted fs name k (many manys.Record ts) u h e f =
      found_in ts name k u (parts_in (many manys.Record ts) ts h.parts refl) (ap (lookup (bytes_eq name)) (record_sorts ts fs h.sorted) ∙ e) f
  component_sorted fs name k _ u h e f = absurd cc

  field_kind : (b : Bool) (k : Sort) (o : _) → is_maybe (field_seen b k o) ≡ b
  field_kind true k o = refl
  field_kind false k o = refl

  pub field_sorted : (fs : SortFields) (name : List ℕ) (k : Sort) (a : Tree) → IsSorted (sort.Record fs) a → lookup (bytes_eq name) fs ≡ Some k → IsSorted k (field_term name a)
  unfolding field_term
  field_sorted fs name k a h e = by (component name a) refl
    where
      own : field_sort name (tree_sort a) ≡ k
      own = ap (field_sort name) h.sorted ∙ field_of_record fs name k e

      by : (o : Option Tree) → component name a ≡ o → IsSorted k (field_by o name a)
      by (Some u) f = component_sorted fs name k a u h e f
      by None f = record {
        sorted = one_sorted (unary.Field name) a ∙ own;
        kind = ap is_maybe (one_is (unary.Field name) a w) ∙ field_kind (is_option (field_sort name (tree_sort a))) (field_sort name (tree_sort a)) _ ∙ ap is_option own;
        parts = of_simple (one (unary.Field name) a) refl;
      }

  never_absent : (t : Tree) (k : Sort) → HasParts t → absent t ≡ Some k → ⊥
  never_absent t k (of_simple _ h) e = simple_absent t h e
    where
      simple_absent : (u : Tree) → is_simple u ≡ true → absent u ≡ Some k → ⊥
      simple_absent (leaf (leafs.None held)) g f = absurd cc
      simple_absent _ g f = absurd cc
  never_absent _ k (of_negation t u is sorted kind parts) e = absurd (let clash : None ≡ Some k = sym (ap absent is) ∙ e in cc)
  never_absent _ k (of_record t ts is h) e = absurd (let clash : None ≡ Some k = sym (ap absent is) ∙ e in cc)

  -- one that isn't an absent option stays as it is
  pub present_stays : (a : Tree) → HasParts a → present_term a ≡ one unary.Present a
  unfolding present_term
  present_stays a h = by (absent a) refl
    where
      by : (o : Option Sort) → absent a ≡ o → present_by o a ≡ one unary.Present a
      by (Some k) e = absurd (never_absent a k h e)
      by None e = refl

  pub held_stays : (a : Tree) → HasParts a → held_term a ≡ one unary.Held a
  unfolding held_term
  held_stays a h = by (absent a) refl
    where
      by : (o : Option Sort) → absent a ≡ o → held_by o a ≡ one unary.Held a
      by (Some k) e = absurd (never_absent a k h e)
      by None e = refl

  pub present_sorted : (k : Sort) (a : Tree) → IsSorted (sort.Option k) a → IsSorted sort.Bool (present_term a)
  present_sorted k a h = subst (IsSorted sort.Bool) (sym (present_stays a h.parts))
      (simple_is sort.Bool (one unary.Present a) refl (one_sorted unary.Present a) (ap is_maybe (one_is unary.Present a w)) bool_plain)

  default_kind : (b : Bool) (x : Value) → is_maybe (default_by b x) ≡ b
  default_kind true x = refl
  default_kind false x = refl

  held_kind : (k : Sort) (o : _) → is_option k ≡ false → is_maybe (held_value k o) ≡ false
  held_kind k None plain = default_kind (is_option k) (default_of k) ∙ plain
  held_kind k (Some x) plain = refl

  pub held_sorted : (k : Sort) (a : Tree) → is_option k ≡ false → IsSorted (sort.Option k) a → IsSorted k (held_term a)
  held_sorted k a plain h =
      let own : held_sort (tree_sort a) ≡ k = ap held_sort h.sorted ∙ held_of k in
      subst (IsSorted k) (sym (held_stays a h.parts))
      (simple_is k (one unary.Held a) refl (one_sorted unary.Held a ∙ own) (ap is_maybe (one_is unary.Held a w) ∙ held_kind (held_sort (tree_sort a)) (option_in (val a w)) (ap is_option own ∙ plain)) plain)

  -- ---- bits, patterns, lists of truth values

  bool_one : (o : UnaryOp) (a : Tree) → is_simple (one o a) ≡ true → unary_sort o (tree_sort a) ≡ sort.Bool → is_maybe (val (one o a) w) ≡ false → IsSorted sort.Bool (one o a)
  bool_one o a h sorted kind = simple_is sort.Bool (one o a) h (one_sorted o a ∙ sorted) kind bool_plain

  pub bit_sorted : (i : ℕ) (a : Tree) → IsSorted sort.Bool (bit_term a i)
  unfolding bit_term
  bit_sorted i a = by (literal_of a)
    where
      by : (o : Option Literal) → IsSorted sort.Bool (bit_by o a i)
      by (Some l) = truth_sorted _
      by None = bool_one (unary.Bit i) a refl refl (ap is_maybe (one_is (unary.Bit i) a w))

  pub like_sorted : (p : List Part) (a : Tree) → IsSorted sort.Bool (like_term a p)
  unfolding like_term
  like_sorted p a = by (literal_of a)
    where
      by : (o : Option Literal) → IsSorted sort.Bool (like_by o a p)
      by (Some l) = truth_sorted _
      by None = bool_one (unary.Like p) a refl refl (ap is_maybe (one_is (unary.Like p) a w))

  pub all_sorted : (ts : List Tree) → All (IsSorted sort.Bool) ts → IsSorted sort.Bool (all_of ts)
  all_sorted ts h = joined_keeps (IsSorted sort.Bool) and_term (truth_term true) (truth_sorted true) and_sorted _ ts h

  -- ---- operators that fold nothing

  pub two_is_bool : (o : BinaryOp) (a b : Tree) → binary_sort o (tree_sort a) ≡ sort.Bool → is_maybe (val (two o a b) w) ≡ false → IsSorted sort.Bool (two o a b)
  two_is_bool o a b sorted kind = bool_two o a b sorted kind

  pub two_is_of : (k : Sort) (o : BinaryOp) (a b : Tree) → binary_sort o (tree_sort a) ≡ k → is_maybe (val (two o a b) w) ≡ false → is_option k ≡ false → IsSorted k (two o a b)
  two_is_of k o a b sorted kind plain = simple_is k (two o a b) refl (two_sorted o a b ∙ sorted) kind plain

  pub one_is_of : (k : Sort) (o : UnaryOp) (a : Tree) → is_simple (one o a) ≡ true → unary_sort o (tree_sort a) ≡ k → is_maybe (val (one o a) w) ≡ false → is_option k ≡ false → IsSorted k (one o a)
  one_is_of k o a h sorted kind plain = simple_is k (one o a) h (one_sorted o a ∙ sorted) kind plain

  -- ---- sets and records that are written

  many_sorted : (ts : Trees) → tree_sort (many manys.Record ts) ≡ sort.Record (sorts_of ts)
  unfolding tree_sort
  many_sorted ts = refl

  pub set_sorted : (k : Sort) (ts : List Tree) → IsSorted (sort.Set k) (set_term k ts)
  unfolding tree_sort
  set_sorted k ts = simple_is (sort.Set k) (set_term k ts) refl refl (ap is_maybe (many_is (manys.Set k) _ w)) (set_plain k)

  sorts_are : (fs : SortFields) (ts : List Labelled) → AreFields IsSorted fs ts → sorts_of (parts_of ts) ≡ fs
  unfolding tree_sort
  sorts_are [] [] h = refl
  sorts_are [] (t ∷ ts) h = absurd h
  sorts_are (f ∷ fs) [] h = absurd h
  sorts_are (f ∷ fs) (t ∷ ts) h =
      let name : t.0 ≡ f.0 = sym h.0 in
      let kind : tree_sort t.1 ≡ f.1 = h.1.sorted in
      let rest = sorts_are fs ts h.3 in
      λ i. (name i, kind i) ∷ rest i

  none_at : (n : List ℕ) (fs : SortFields) (ts : List Labelled) → AreFields IsSorted fs ts → AllByRecursion (λ (m : List ℕ). bytes_eq n m ≡ false) (keys_of fs) → lookup (bytes_eq n) (listed (parts_of ts)) ≡ None
  none_at n [] [] h apart = refl
  none_at n [] (t ∷ ts) h apart = absurd h
  none_at n (f ∷ fs) [] h apart = absurd h
  none_at n (f ∷ fs) (t ∷ ts) h apart =
      ap (λ (b : Bool). cond b (Some t.1) (lookup (bytes_eq n) (listed (parts_of ts)))) (ap (bytes_eq n) (sym h.0) ∙ apart.0)
      ∙ none_at n fs ts h.3 apart.1

  record_parts : (fs : SortFields) (ts : List Labelled) → IsStrictlySortedBy text_cmp (keys_of fs) → AreFields IsSorted fs ts → AreParts (parts_of ts)
  unfolding IsStrictlySortedBy
  record_parts [] [] ascending h = no_more
  record_parts [] (t ∷ ts) ascending h = absurd h
  record_parts (f ∷ fs) [] ascending h = absurd h
  record_parts (f ∷ fs) (t ∷ ts) ascending h =
      let apart = swapped f.0 (keys_of fs) (all_apart f.0 (keys_of fs) ascending.0) in
      one_more t.0 t.1 (parts_of ts) (ap (λ (n : List ℕ). lookup (bytes_eq n) (listed (parts_of ts))) (sym h.0) ∙ none_at f.0 fs ts h.3 apart)
      (h.1.kind ∙ ap is_option (sym h.1.sorted)) h.1.parts (record_parts fs ts ascending.1 h.3)

  pub record_sorted : (fs : SortFields) (ts : List Labelled) → IsStrictlySortedBy text_cmp (keys_of fs) → AreFields IsSorted fs ts → IsSorted (sort.Record fs) (record_term ts)
  record_sorted fs ts ascending h = record {
    sorted = many_sorted (parts_of ts) ∙ ap sort.Record (sorts_are fs ts h);
    kind = ap is_maybe (many_is manys.Record (parts_of ts) w) ∙ sym (record_plain fs);
    parts = of_record (record_term ts) (parts_of ts) refl (record_parts fs ts ascending h);
  }
