-- The rules of what is stored of entities.
use Rattle.std.specs.Prelude.{◌≡◌, ◌==◌, ◌&&◌, ℕ, Bool, true, false, not, List, [], ◌∷◌, map, length, Option, Some, None, if◌then◌else◌, refl}
use Rattle.std.specs.List.{list_any}
use Rattle.std.specs.Ordering.{is_eq}
use Rattle.sc_names.specs.declared.uid.Uid.{Uid}
use Rattle.sc_names.specs.Uids.{uid_cmp}
use Rattle.sc_schema.specs.Declarations.{Declarations, action_ancestors, is_action_type}
use Rattle.sc_sorts.specs.declared.sort.Sort.{Sort, Sort-F, out-Sort}
use Rattle.sc_sorts.specs.declared.sort.Sort.TheOpen as s
use Rattle.sc_sorts.specs.contracts.sort.SortPartialEq.TheImpl.{ghosts as sorts}
use Rattle.sc_sorts.specs.Entities.{of_type_name}
use Rattle.sc_sorts.specs.Inside.{name_in}
use Rattle.sc_sorts.specs.declared.node.Leaf.TheVariants.{Literal}
use Rattle.sc_sorts.specs.declared.node.Literal.TheVariants as literal
use Rattle.sc_sorts.specs.declared.node.UnaryOp.{UnaryOp}
use Rattle.sc_sorts.specs.declared.node.UnaryOp.TheVariants as unary
use Rattle.sc_sorts.specs.declared.node.BinaryOp.TheVariants as binary
use Rattle.sc_terms.specs.Trees.{Tree, leaf, one, two}
use Rattle.sc_terms.specs.TreeSorts.{tree_sort}
use Rattle.sc_terms.specs.Order.{tree_eq}
use Rattle.sc_terms.specs.Folds.{equal_term, default_term}
use Rattle.sc_rule_laws.specs.Signed.{Signed, Said, so, unless, given}
use Rattle.sc_rule_laws.specs.Places.{roots, half, under}
use Rattle.sc_rule_laws.specs.Terms.{member, above, keys, entity, choices_in}

-- EN1: like places of the attributes of equal entities are alike
abbrev pub en1_of : Tree → Tree → Said → Said
en1_of (one (unary.Attributes k) e) (one (unary.Attributes l) f) said =
    under (sorts.eq k l) (unless (equal_term e f) ∷ []) said
en1_of _ _ said = None

abbrev pub en1 : Tree → Tree → ℕ → Option Tree → Said
en1 x y i z = en1_of (roots x y).0 (roots x y).1 (half x y i z)

-- two operators give the same of an entity: its ancestors of one type, or its keys
abbrev pub same_sets : UnaryOp → UnaryOp → Bool
same_sets (unary.Ancestors k) (unary.Ancestors l) = sorts.eq k l
same_sets unary.Keys unary.Keys = true
same_sets _ _ = false

-- EN2: equal entities have the same ancestors and keys
abbrev pub en2 : Tree → Tree → Tree → Said
en2 x (one o e) (one q f) =
    given (same_sets o q) (unless (equal_term e f) ∷ unless (member x (one o e)) ∷ so (member x (one q f)) ∷ [])
en2 x _ _ = None

-- EN3: like places of the tags of equal entities under equal keys are alike
abbrev pub en3_of : Tree → Tree → Said → Said
en3_of (two (binary.Tag s) e k) (two (binary.Tag t) f l) said =
    under (sorts.eq s t) (unless (equal_term e f) ∷ unless (equal_term k l) ∷ []) said
en3_of _ _ said = None

abbrev pub en3 : Tree → Tree → ℕ → Option Tree → Said
en3 x y i z = en3_of (roots x y).0 (roots x y).1 (half x y i z)

-- EN4: no entity is its own ancestor
abbrev pub en4 : Tree → Said
en4 e = Some (unless (member e (above (tree_sort e) e)) ∷ [])

-- EN5: the ancestors of an ancestor are ancestors
abbrev pub en5 : Tree → Tree → Tree → Tree → Said
en5 e f x (one (unary.Ancestors k) g) =
    given (tree_eq f g)
    (unless (member f (above (tree_sort f) e)) ∷ unless (member x (above k g)) ∷ so (member x (above k e)) ∷ [])
en5 e f x _ = None

-- EN6: a tag that an entity hasn't is the default
abbrev pub en6 : Tree → Said
en6 (two (binary.Tag s) e k) =
    Some (so (member k (keys e)) ∷ so (equal_term (two (binary.Tag s) e k) (default_term s)) ∷ [])
en6 _ = None

abbrev pub is_uid_in : List Uid → Uid → Bool
is_uid_in us u = list_any (λ (v : Uid). is_eq (uid_cmp u v)) us

-- the literal of one of some entities
abbrev pub is_literal_of : List Uid → Tree → Bool
is_literal_of us (leaf (Literal (literal.Entity u choices))) = is_uid_in us u
is_literal_of us _ = false

-- EN7: of the declared ancestors of an action that are of a type each is one, and what is one is one of these
abbrev pub en7_of : Declarations → Tree → List Uid → Tree → List Signed
en7_of d s us x =
    if is_literal_of us x then so (member x s) ∷ []
    else unless (member x s) ∷ map (λ u. so (equal_term x (entity d u))) us

abbrev pub en7_by : Declarations → Tree → List ℕ → Option (List Uid) → Tree → Said
en7_by d s name (Some us) x = Some (en7_of d s (of_type_name name us) x)
en7_by d s name None x = None

abbrev pub en7 : Declarations → Tree → Tree → Said
en7 d (one (unary.Ancestors k) (leaf (Literal (literal.Entity u choices)))) x =
    en7_by d (above k (leaf (Literal (literal.Entity u choices)))) (name_in (out-Sort k)) (action_ancestors d u) x
en7 d _ x = None

-- an entity is one of those that its sort lists, if this is asked of it
abbrev pub chosen_of : Declarations → Tree → Bool → List Uid → Said
chosen_of d x asked us = given (asked && not (length us == 0)) (map (λ u. so (equal_term x (entity d u))) us)

-- whether a term is an entity of a type of actions
abbrev pub is_acting_level : Declarations → Sort-F Sort → Bool
is_acting_level d (s.Entity name choices) = is_action_type d name
is_acting_level d _ = false

abbrev pub is_acting : Declarations → Tree → Bool
is_acting d x = is_acting_level d (out-Sort (tree_sort x))

-- EN8: an entity of a type of actions is a declared one
abbrev pub en8 : Declarations → Tree → Said
en8 d x = chosen_of d x (is_acting d x) (choices_in x)

-- EQ9: an entity of an enumerated type is one of its choices
abbrev pub eq9 : Declarations → Tree → Said
eq9 d x = chosen_of d x (not (is_acting d x)) (choices_in x)

-- ---- worked rows

pub en2_of_keys : (x e f : Tree) → en2 x (keys e) (keys f)
    ≡ Some (unless (equal_term e f) ∷ unless (member x (keys e)) ∷ so (member x (keys f)) ∷ [])
en2_of_keys x e f = refl

pub en2_of_keys_and_ancestors : (x e f : Tree) (k : Sort) → en2 x (keys e) (above k f) ≡ None
en2_of_keys_and_ancestors x e f k = refl

pub en4_row : (e : Tree) → en4 e ≡ Some (unless (member e (above (tree_sort e) e)) ∷ [])
en4_row e = refl

pub chosen_of_two : (d : Declarations) (x : Tree) (u v : Uid) → chosen_of d x true (u ∷ v ∷ [])
    ≡ Some (so (equal_term x (entity d u)) ∷ so (equal_term x (entity d v)) ∷ [])
chosen_of_two d x u v = refl

pub chosen_of_none : (d : Declarations) (x : Tree) → chosen_of d x true [] ≡ None
chosen_of_none d x = refl

pub chosen_of_others : (d : Declarations) (x : Tree) (us : List Uid) → chosen_of d x false us ≡ None
chosen_of_others d x us = refl
