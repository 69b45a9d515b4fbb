-- Instances at closed terms, and what they say whatever the terms are. No public promise speaks of it.
use Rattle.std.specs.Prelude.{◌≡◌, ◌<◌, ℕ, Bool, true, false, List, [], ◌∷◌, length, Option, Some, None, if◌then◌else◌}
use Rattle.std.specs.Ordering.{is_eq}
use Rattle.sc_names.specs.declared.uid.Uid.{Uid}
use Rattle.sc_names.specs.Uids.{uid_cmp}
use Rattle.sc_clauses.specs.declared.lit.Lit.{Lit}
use Rattle.sc_clauses.specs.Clauses.{positive, negation}
use Rattle.sc_schema.specs.Declarations.{Declarations, action_ancestors}
use Rattle.sc_sorts.specs.declared.sort.Sort.{Sort, Sort-F, out-Sort}
use Rattle.sc_sorts.specs.declared.sort.Sort.TheOpen as s
use Rattle.sc_sorts.specs.Inside.{name_in}
use Rattle.sc_term_definitions.specs.Definitions.{bits_in}
use Rattle.sc_sorts.specs.declared.node.Leaf.TheVariants.{Literal}
use Rattle.sc_sorts.specs.declared.node.Literal.{Literal as AnyLiteral}
use Rattle.sc_sorts.specs.declared.node.Literal.TheVariants as literal
use Rattle.sc_sorts.specs.declared.node.UnaryOp.TheVariants as unary
use Rattle.sc_sorts.specs.declared.node.BinaryOp.TheVariants as binary
use Rattle.sc_terms.specs.Trees.{Tree, leaf, one, two}
use Rattle.sc_terms.specs.Tables.{tree}
use Rattle.sc_terms.specs.Order.{tree_eq}
use Rattle.sc_footprint.specs.Problems.{Posed}
use Rattle.sc_rule_instances.specs.Given.{IsClosed, term_at}
use Rattle.sc_rule_laws.specs.Entities.{en2, en4, en5, en6, en7, en8, eq9, same_sets}
use Rattle.sc_rule_laws.specs.Signed.{Said}
use Rattle.sc_rule_laws.specs.Terms.{above}
use Rattle.th_entities_instances.specs.Alike.{IsAlikeIn, alike_parts}
use Rattle.th_entities_instances.specs.Roots.{IsPairIn, unless_equal}
use Rattle.th_entities_instances.specs.declared.alike.Alike.{Alike}
use Rattle.th_entities_instances.specs.declared.places.Pair.{Pair}
use Rattle.th_entities_instances.specs.declared.places.TagPairs.{TagPairs}
use Rattle.th_entities_instances.specs.declared.row.Row.{Row}
use Rattle.th_entities_instances.specs.declared.row.Row.TheVariants.{Attributes, Sets, Tags, Own, Through, Lacking, Declared, Acting, Enumerated}

-- ---- instances

-- like places of the attributes of equal entities are alike
abbrev pub attributes_said : Posed → Pair → Alike → Said
attributes_said p q a = Some (unless_equal p q ∷ alike_parts p a)

-- like places of the tags of equal entities under equal keys are alike
abbrev pub tags_said : Posed → TagPairs → Alike → Said
tags_said p q a = Some (unless_equal p q.entities ∷ unless_equal p q.keys ∷ alike_parts p a)

abbrev pub row_said : Posed → Row → Said
row_said p (Attributes q a) = attributes_said p q a
row_said p (Sets x s z) = en2 (term_at p x) (term_at p s) (term_at p z)
row_said p (Tags q a) = tags_said p q a
row_said p (Own e) = en4 (term_at p e)
row_said p (Through e f x u) = en5 (term_at p e) (term_at p f) (term_at p x) (term_at p u)
row_said p (Lacking a) = en6 (term_at p a)
row_said p (Declared s x) = en7 p.schema (term_at p s) (term_at p x)
row_said p (Acting x) = en8 p.schema (term_at p x)
row_said p (Enumerated x) = eq9 p.schema (term_at p x)

abbrev pub AreClosed : Posed → Row → Type 0
AreClosed p (Attributes q a) = IsPairIn p q × IsAlikeIn p a
AreClosed p (Sets x s z) = IsClosed p x × IsClosed p s × IsClosed p z
AreClosed p (Tags q a) = IsPairIn p q.entities × IsPairIn p q.keys × IsAlikeIn p a
AreClosed p (Own e) = IsClosed p e
AreClosed p (Through e f x u) = IsClosed p e × IsClosed p f × IsClosed p x × IsClosed p u
AreClosed p (Lacking a) = IsClosed p a
AreClosed p (Declared s x) = IsClosed p s × IsClosed p x
AreClosed p (Acting x) = IsClosed p x
AreClosed p (Enumerated x) = IsClosed p x

-- what an instance says is what a row of closed terms says, and nothing where there is none
pub record IsRow (p : Posed) (said : Said) (row : Row) : Type 0 where
  pub closed : AreClosed p row
  pub is : said ≡ row_said p row

abbrev pub IsRowIf : Posed → Said → Option Row → Type 0
IsRowIf p said (Some row) = IsRow p said row
IsRowIf p said None = said ≡ None

-- a number of the table stands for a term, which is there
abbrev pub IsThere : Posed → Tree → Option ℕ → Type 0
IsThere p t (Some n) = (n < length p.nodes) × (tree p.nodes n ≡ t)
IsThere p t None = ⊥

-- ---- their terms; of a term of another form the term itself

-- two sets are stored of entities, and of one kind
abbrev pub are_same_sets : Tree → Tree → Bool
are_same_sets (one o e) (one q f) = same_sets o q
are_same_sets _ _ = false

-- the entity that a set is stored of
abbrev pub owner : Tree → Tree
owner (one o e) = e
owner t = t

abbrev pub is_tag : Tree → Bool
is_tag (two (binary.Tag s) e k) = true
is_tag _ = false

abbrev pub tag_entity : Tree → Tree
tag_entity (two (binary.Tag s) e k) = e
tag_entity t = t

abbrev pub tag_key : Tree → Tree
tag_key (two (binary.Tag s) e k) = k
tag_key t = t

-- a term is the ancestors of an entity
abbrev pub are_ancestors_of : Tree → Tree → Bool
are_ancestors_of f (one (unary.Ancestors k) g) = tree_eq f g
are_ancestors_of f _ = false

-- the ancestors of an entity of the sort of these
abbrev pub moved : Tree → Tree → Tree
moved (one (unary.Ancestors k) g) e = above k e
moved t e = t

-- how many terms tell the value of one of a sort
abbrev pub inner_level : Sort-F Sort → ℕ
inner_level (s.Record fields) = length fields
inner_level (s.Entity name choices) = length choices
inner_level (s.Option held) = 3
inner_level k = bits_in k

-- the declared ancestors of the action that ancestors are of, and their type
abbrev pub declared_in : Declarations → Tree → Option (List Uid)
declared_in d (leaf (Literal (literal.Entity u choices))) = action_ancestors d u
declared_in d _ = None

abbrev pub declared_above : Declarations → Tree → Option (List Uid)
declared_above d (one (unary.Ancestors k) e) = declared_in d e
declared_above d _ = None

abbrev pub above_name : Tree → List ℕ
above_name (one (unary.Ancestors k) e) = name_in (out-Sort k)
above_name t = []

-- the literal of the equation of a literal with an entity
abbrev pub literal_equal : AnyLiteral → Uid → Lit
literal_equal (literal.Bool b) u = if b then positive 0 else negation (positive 0)
literal_equal (literal.Entity v choices) u = if is_eq (uid_cmp v u) then positive 1 else negation (positive 1)
literal_equal _ u = negation (positive 1)
