-- Which trees are terms of a sort: well-sorted, and as the constructors make them, so that nothing in them would fold.
use Rattle.std.specs.Prelude.{◌≡◌, ◌<◌, ◌≤◌, ◌⊎◌, ℕ, Bool, true, List, [], ◌∷◌, Some, Contains, FitsSigned}
use Rattle.std.specs.Int.{w64}
use Rattle.std.specs.Map.{lookup, keys_of}
use Rattle.std.specs.Str.{bytes_eq, IsUtf8}
use Rattle.sc_ip.specs.declared.ip.Ip.{Ip}
use Rattle.sc_ip.specs.Addresses.{IsIp}
use Rattle.sc_names.specs.declared.uid.Uid.{Uid}
use Rattle.sc_pattern.specs.declared.part.Part.{Part}
use Rattle.sc_schema.specs.declared.declarations.Env.{Env}
use Rattle.sc_schema.specs.declared.ty.Ty.{Ty}
use Rattle.sc_schema.specs.Declarations.{Declarations, attrs_of, tags_of, ancestor_types, context_of}
use Rattle.sc_sorts.specs.declared.sort.Sort.{Sort}
use Rattle.sc_sorts.specs.declared.sort.Sort.TheVariants as sort
use Rattle.sc_schema.specs.Lawful.{IsEntityType}
use Rattle.sc_sorts.specs.Defaults.{default_uid}
use Rattle.sc_sorts.specs.Entities.{choices_of, IsListed, entity_sort}
use Rattle.sc_sorts.specs.OfTypes.{sort_of}
use Rattle.sc_sorts.specs.declared.node.Leaf.TheVariants as leafs
use Rattle.sc_sorts.specs.declared.node.Literal.TheVariants as literal
use Rattle.sc_sorts.specs.declared.node.UnaryOp.TheVariants as unary
use Rattle.sc_sorts.specs.declared.node.BinaryOp.{BinaryOp}
use Rattle.sc_sorts.specs.declared.node.BinaryOp.TheVariants as binary
use Rattle.sc_sorts.specs.declared.node.ManyOp.TheVariants as manys
use Rattle.sc_terms.specs.Trees.{Tree, leaf, one, two, choice, many, Trees, no_part, part}
use Rattle.sc_sorts.specs.Inside.{SortFields}
use Rattle.sc_terms.specs.TreeSorts.{tree_sort}
use Rattle.sc_terms.specs.Folds.{literal_term, truth_term}
use Rattle.sc_term_laws.specs.Unfolded.{stays_not, stays_two, stays_choice, stays_equal, stays_field, stays_option, stays_literal}
use Rattle.sc_term_laws.specs.LawfulSorts.{AreNames, IsHeldSort}

-- sorts whose values have bits, and the places of these
pub data HasPlace : Sort → ℕ → Type 0 where
  of_long : {i : ℕ} → i < 64 → HasPlace sort.Long i
  of_decimal : {i : ℕ} → i < 64 → HasPlace sort.Decimal i
  of_ip : {i : ℕ} → i < 257 → HasPlace sort.Ip i

pub data IsNumberSort : Sort → Type 0 where
  long : IsNumberSort sort.Long
  decimal : IsNumberSort sort.Decimal

-- operators on two whole numbers that give one, and that say whether it leaves the range
pub data IsSum : BinaryOp → Type 0 where
  addition : IsSum binary.Add
  subtraction : IsSum binary.Subtract

pub data IsArithmetic : BinaryOp → Type 0 where
  of_sum : (o : BinaryOp) → IsSum o → IsArithmetic o
  multiplication : IsArithmetic binary.Multiply

pub data IsOverflow : BinaryOp → Type 0 where
  addition_overflow : IsOverflow binary.AddOverflows
  subtraction_overflow : IsOverflow binary.SubtractOverflows
  multiplication_overflow : IsOverflow binary.MultiplyOverflows

pub data IsTestOfSets : BinaryOp → Type 0 where
  subset_test : IsTestOfSets binary.Subset
  common_test : IsTestOfSets binary.Common

pub data IsPick : BinaryOp → Type 0 where
  difference : IsPick binary.DifferencePick
  intersection : IsPick binary.CommonPick

mutual
  -- in an environment of a schema, with the entities that policies write. An entity is one of these, one that its type
  -- lists, or the default of its type
  pub data IsTermOf (s : Declarations) (env : Env) (written : List Uid) : Sort → Tree → Type 0 where
    of_truth : (b : Bool) → IsTermOf s env written sort.Bool (truth_term b)
    of_number : (n : _) → FitsSigned w64 n → IsTermOf s env written sort.Long (literal_term (literal.Long n))
    of_text : (t : List ℕ) → IsUtf8 t → IsTermOf s env written sort.String (literal_term (literal.String t))
    of_decimal_number : (n : _) → FitsSigned w64 n
        → IsTermOf s env written sort.Decimal (literal_term (literal.Decimal n))
    of_address : (ip : Ip) → IsIp ip → IsTermOf s env written sort.Ip (literal_term (literal.Ip ip))
    of_uid : (u : Uid) → Contains written u ⊎ IsListed s u
        → IsTermOf s env written (entity_sort s u.type_name)
        (literal_term (literal.Entity u (choices_of s u.type_name)))
    of_default : (name : List ℕ) → IsEntityType s name → choices_of s name ≡ []
        → IsTermOf s env written (sort.Entity name []) (literal_term (literal.Entity (default_uid name []) []))
    of_none : (k : Sort) → IsHeldSort s k → IsTermOf s env written (sort.Option k) (leaf (leafs.None k))
    of_principal : IsTermOf s env written (entity_sort s env.principal)
        (leaf (leafs.Principal (entity_sort s env.principal)))
    of_resource : IsTermOf s env written (entity_sort s env.resource)
        (leaf (leafs.Resource (entity_sort s env.resource)))
    of_context : (t : Ty) → context_of s env.action ≡ Some t
        → IsTermOf s env written (sort_of t) (leaf (leafs.Context (sort_of t)))
    of_not : (a : Tree) → IsTermOf s env written sort.Bool a → stays_not a ≡ true
        → IsTermOf s env written sort.Bool (one unary.Not a)
    of_and : (a b : Tree) → IsTermOf s env written sort.Bool a → IsTermOf s env written sort.Bool b
        → stays_two a b ≡ true → IsTermOf s env written sort.Bool (two binary.And a b)
    of_or : (a b : Tree) → IsTermOf s env written sort.Bool a → IsTermOf s env written sort.Bool b
        → stays_two a b ≡ true → IsTermOf s env written sort.Bool (two binary.Or a b)
    of_choice : (k : Sort) (c a b : Tree) → IsTermOf s env written sort.Bool c → IsTermOf s env written k a
        → IsTermOf s env written k b → stays_choice c a b ≡ true → IsTermOf s env written k (choice c a b)
    of_equal : (k : Sort) (a b : Tree) → IsTermOf s env written k a → IsTermOf s env written k b
        → stays_equal a b ≡ true → IsTermOf s env written sort.Bool (two binary.Equal a b)
    of_arithmetic : (o : BinaryOp) (a b : Tree) → IsArithmetic o → IsTermOf s env written sort.Long a
        → IsTermOf s env written sort.Long b → IsTermOf s env written sort.Long (two o a b)
    of_overflow : (o : BinaryOp) (a b : Tree) → IsOverflow o → IsTermOf s env written sort.Long a
        → IsTermOf s env written sort.Long b → IsTermOf s env written sort.Bool (two o a b)
    of_less : (k : Sort) (a b : Tree) → IsNumberSort k → IsTermOf s env written k a → IsTermOf s env written k b
        → IsTermOf s env written sort.Bool (two binary.Less a b)
    of_bit : (k : Sort) (i : ℕ) (a : Tree) → HasPlace k i → IsTermOf s env written k a → stays_literal a ≡ true
        → IsTermOf s env written sort.Bool (one (unary.Bit i) a)
    of_in_range : (a b : Tree) → IsTermOf s env written sort.Ip a → IsTermOf s env written sort.Ip b
        → IsTermOf s env written sort.Bool (two binary.InRange a b)
    of_carry : (o : BinaryOp) (i : ℕ) (a b : Tree) → IsSum o → i ≤ 64 → IsTermOf s env written sort.Long (two o a b)
        → IsTermOf s env written sort.Bool (one (unary.CarryIn i) (two o a b))
    of_low : (k : Sort) (i : ℕ) (a b : Tree) → IsNumberSort k → i ≤ 64 → IsTermOf s env written k a
        → IsTermOf s env written k b → IsTermOf s env written sort.Bool (two (binary.Low i) a b)
    of_row : (i j : ℕ) (a b : Tree) → i ≤ 128 → j < 128 → IsTermOf s env written sort.Long (two binary.Multiply a b)
        → IsTermOf s env written sort.Bool (one (unary.ProductRow i j) (two binary.Multiply a b))
    of_product_carry : (i j : ℕ) (a b : Tree) → i < 128 → j ≤ 128
        → IsTermOf s env written sort.Long (two binary.Multiply a b)
        → IsTermOf s env written sort.Bool (one (unary.ProductCarry i j) (two binary.Multiply a b))
    of_attributes : (name : List ℕ) (t : Ty) (a : Tree) → attrs_of s name ≡ Some t
        → IsTermOf s env written (entity_sort s name) a
        → IsTermOf s env written (sort_of t) (one (unary.Attributes (sort_of t)) a)
    of_ancestors : (name above : List ℕ) (names : List (List ℕ)) (a : Tree) → ancestor_types s name ≡ Some names
        → Contains names above → IsTermOf s env written (entity_sort s name) a
        → IsTermOf s env written (sort.Set (entity_sort s above)) (one (unary.Ancestors (entity_sort s above)) a)
    of_keys : (name : List ℕ) (t : Ty) (a : Tree) → tags_of s name ≡ Some t
        → IsTermOf s env written (entity_sort s name) a
        → IsTermOf s env written (sort.Set sort.String) (one unary.Keys a)
    of_tag : (name : List ℕ) (t : Ty) (a k : Tree) → tags_of s name ≡ Some t
        → IsTermOf s env written (entity_sort s name) a → IsTermOf s env written sort.String k
        → IsTermOf s env written (sort_of t) (two (binary.Tag (sort_of t)) a k)
    of_field : (fs : SortFields) (name : List ℕ) (k : Sort) (a : Tree) → IsTermOf s env written (sort.Record fs) a
        → lookup (bytes_eq name) fs ≡ Some k → stays_field name a ≡ true
        → IsTermOf s env written k (one (unary.Field name) a)
    of_record : (fs : SortFields) (ts : Trees) → AreNames (keys_of fs) → HaveFields s env written fs ts
        → IsTermOf s env written (sort.Record fs) (many manys.Record ts)
    of_set : (k : Sort) (ts : Trees) → IsHeldSort s k → HaveSort s env written k ts
        → IsTermOf s env written (sort.Set k) (many (manys.Set k) ts)
    of_present : (k : Sort) (a : Tree) → IsTermOf s env written (sort.Option k) a → stays_option a ≡ true
        → IsTermOf s env written sort.Bool (one unary.Present a)
    of_held : (k : Sort) (a : Tree) → IsTermOf s env written (sort.Option k) a → stays_option a ≡ true
        → IsTermOf s env written k (one unary.Held a)
    of_member : (k : Sort) (x a : Tree) → IsTermOf s env written k x → IsTermOf s env written (sort.Set k) a
        → IsTermOf s env written sort.Bool (two binary.Member x a)
    of_sets : (o : BinaryOp) (k : Sort) (a b : Tree) → IsTestOfSets o → IsTermOf s env written (sort.Set k) a
        → IsTermOf s env written (sort.Set k) b → IsTermOf s env written sort.Bool (two o a b)
    of_pick : (o : BinaryOp) (k : Sort) (a b : Tree) → IsPick o → IsTermOf s env written (sort.Set k) a
        → IsTermOf s env written (sort.Set k) b → IsTermOf s env written k (two o a b)
    of_like : (p : List Part) (a : Tree) → IsTermOf s env written sort.String a → stays_literal a ≡ true
        → IsTermOf s env written sort.Bool (one (unary.Like p) a)

  -- the members of a set, which have no labels
  pub data HaveSort (s : Declarations) (env : Env) (written : List Uid) : Sort → Trees → Type 0 where
    no_member : (k : Sort) → HaveSort s env written k no_part
    with_member : (k : Sort) (t : Tree) (ts : Trees) → IsTermOf s env written k t → HaveSort s env written k ts
        → HaveSort s env written k (part [] t ts)

  -- the fields of a record, in the order of its sort
  pub data HaveFields (s : Declarations) (env : Env) (written : List Uid) : SortFields → Trees → Type 0 where
    no_field : HaveFields s env written [] no_part
    with_field : (name : List ℕ) (k : Sort) (fs : SortFields) (t : Tree) (ts : Trees) → IsTermOf s env written k t
        → HaveFields s env written fs ts → HaveFields s env written ((name, k) ∷ fs) (part name t ts)

-- a term of the sort that is kept of it
abbrev pub IsTerm : Declarations → Env → List Uid → Tree → Type 0
IsTerm s env written t = IsTermOf s env written (tree_sort t) t
