-- Numbers that are put for choices, and for what goes with the ancestors of entities.
use Rattle.std.proofs.Common.{◌≡◌, ℕ, Bool, true, false, List, [], ◌∷◌, ◌++◌, Option, Some, None, is_some, unwrap_or, map, refl, sym, ap, ◌∙◌}
use Rattle.sc_names.specs.declared.uid.Uid.{Uid}
use Rattle.sc_schema.specs.Declarations.{Declarations, action_ancestors, ancestor_types}
use Rattle.sc_sorts.specs.declared.sort.Sort.{Sort, Sort-F, out-Sort}
use Rattle.sc_sorts.specs.declared.sort.Sort.TheOpen as s
use Rattle.sc_sorts.specs.Entities.{entity_sort}
use Rattle.sc_sorts.specs.declared.node.Leaf.TheVariants.{Literal}
use Rattle.sc_sorts.specs.declared.node.Node.{Node}
use Rattle.sc_sorts.specs.declared.node.Node.TheVariants as node
use Rattle.sc_sorts.specs.declared.node.UnaryOp.TheVariants as unary
use Rattle.sc_terms.specs.Trees.{Tree}
use Rattle.sc_terms.specs.TreeSorts.{tree_sort}
use Rattle.sc_terms.specs.Tables.{tree, node_tree, Keeps, StandsFor}
use Rattle.sc_terms.specs.Folds.{literal_of}
use Rattle.sc_term_definitions.specs.Making.{Puts}
use Rattle.sc_term_definitions.proofs.MakingLaws.{puts_one, puts_then, puts_same, puts_nothing}
use Rattle.sc_closure_rules.specs.Closure.{uid_term, ancestors_of, choices, choices_by, unless_literal, declared_members, declared_ancestors, ancestors_by, beside}
use Rattle.sc_closure_rules.specs.Beside.{is_literal, own_in, choices_in, members_of_sort, IsAncestorsOf}

-- ---- choices

literal_at : (xs : List Node) (x : Node) → is_literal x ≡ is_some (literal_of (node_tree xs x))
literal_at xs (node.Leaf (Literal l)) = refl
literal_at xs _ = refl

pub literal_told : (xs : List Node) (t : Tree) (x : Node) (b : Bool) → t ≡ node_tree xs x → b ≡ is_literal x → b ≡ is_some (literal_of t)
literal_told xs t x b stands is = is ∙ literal_at xs x ∙ ap (λ (u : Tree). is_some (literal_of u)) (sym stands)

choices_at : (k : Sort-F Sort) → map (uid_term (choices_in k)) (choices_in k) ≡ choices_by k
choices_at (s.Entity name us) = refl
choices_at _ = refl

unless_some : {X : Type 0} (o : Option X) (ts : List Tree) → is_some o ≡ true → [] ≡ unless_literal o ts
unless_some (Some l) ts h = refl
unless_some None ts h = cc

unless_none : {X : Type 0} (o : Option X) (ts : List Tree) → is_some o ≡ false → ts ≡ unless_literal o ts
unless_none (Some l) ts h = cc
unless_none None ts h = refl

-- none of a literal
pub no_choices : (xs : List Node) (t : Tree) (ns : List ℕ) (b : Bool) → b ≡ is_some (literal_of t) → b ≡ true → Puts xs xs ns ns (choices t)
no_choices xs t ns b is h = puts_same xs xs ns ns [] (choices t) (unless_some (literal_of t) (choices_by (out-Sort (tree_sort t))) (sym is ∙ h)) (puts_nothing xs ns)

pub all_choices : (xs ys : List Node) (t : Tree) (us : List Uid) (ns ms : List ℕ) (b : Bool) → b ≡ is_some (literal_of t) → b ≡ false → us ≡ choices_in (out-Sort (tree_sort t))
    → Puts xs ys ns ms (map (uid_term us) us) → Puts xs ys ns ms (choices t)
all_choices xs ys t us ns ms b is h e p =
    let same : map (uid_term us) us ≡ choices t =
    ap (λ (vs : List Uid). map (uid_term vs) vs) e
    ∙ choices_at (out-Sort (tree_sort t))
    ∙ unless_none (literal_of t) (choices_by (out-Sort (tree_sort t))) (sym is ∙ h) in
    puts_same xs ys ns ms (map (uid_term us) us) (choices t) same p

-- ---- ancestors

members_are : (d : Declarations) (k : Sort-F Sort) (own : Sort) (a : Tree) (u : Uid) → members_of_sort k (ancestors_of own a) (unwrap_or (action_ancestors d u) []) ≡ declared_members d k own a u
members_are d (s.Entity name us) own a u = refl
members_are d _ own a u = refl

-- of a declared action: the ancestors, and then their members
pub action_put : (d : Declarations) (xs ys zs : List Node) (own : Sort) (a : Tree) (u : Uid) (ns ms ls : List ℕ) (n : ℕ) → Keeps xs ys → StandsFor ys n (ancestors_of own a) → ms ≡ ns ++ n ∷ []
    → Puts ys zs ms ls (members_of_sort (out-Sort own) (tree ys n) (unwrap_or (action_ancestors d u) [])) → Puts xs zs ns ls (ancestors_of own a ∷ declared_members d (out-Sort own) own a u)
action_put d xs ys zs own a u ns ms ls n kept stands e p =
    let members : members_of_sort (out-Sort own) (tree ys n) (unwrap_or (action_ancestors d u) []) ≡ declared_members d (out-Sort own) own a u =
    ap (λ (t : Tree). members_of_sort (out-Sort own) t (unwrap_or (action_ancestors d u) [])) stands.is ∙ members_are d (out-Sort own) own a u in
    puts_then xs ys zs ns ms ls (ancestors_of own a ∷ []) (declared_members d (out-Sort own) own a u) (puts_one xs ys ns ms n (ancestors_of own a) kept stands e)
    (puts_same ys zs ms ls (members_of_sort (out-Sort own) (tree ys n) (unwrap_or (action_ancestors d u) [])) (declared_members d (out-Sort own) own a u) members p)

-- of an entity: by type, and then by declared action
pub all_above : (d : Declarations) (xs ys zs : List Node) (name : List ℕ) (us : List Uid) (own : Sort) (e : Tree) (ns ms ls : List ℕ)
    → Puts xs ys ns ms (map (λ (n : List ℕ). ancestors_of (entity_sort d n) e) (unwrap_or (ancestor_types d name) [])) → Puts ys zs ms ls (declared_ancestors d own us)
    → Puts xs zs ns ls (ancestors_by d (s.Entity name us) own e)
all_above d xs ys zs name us own e ns ms ls p q =
    puts_then xs ys zs ns ms ls (map (λ (n : List ℕ). ancestors_of (entity_sort d n) e) (unwrap_or (ancestor_types d name) [])) (declared_ancestors d own us) p q

own_at : (xs : List Node) (x : Node) (own : Sort) (e : Tree) → node_tree xs x ≡ ancestors_of own e → own_in x ≡ own
own_at xs (node.One (unary.Ancestors k) a) own e h = cc
own_at xs _ own e h = cc

-- what goes with a term that is the ancestors of an entity
pub ancestors_put : (d : Declarations) (xs ys : List Node) (x : Node) (n e : ℕ) (own sort : Sort) (ns ms : List ℕ) → IsAncestorsOf xs n e → tree xs n ≡ node_tree xs x → own ≡ own_in x → sort ≡ tree_sort (tree xs e)
    → Puts xs ys ns ms (ancestors_by d (out-Sort sort) own (tree xs e)) → Puts xs ys ns ms (beside d (tree xs n))
ancestors_put d xs ys x n e own sort ns ms is stands owned sorted p =
    let same : own ≡ is.own = owned ∙ own_at xs x is.own (tree xs e) (sym stands ∙ is.is) in
    let row : ancestors_by d (out-Sort sort) own (tree xs e) ≡ beside d (tree xs n) =
    ap (λ (k : Sort). ancestors_by d (out-Sort k) own (tree xs e)) sorted ∙ ap (λ (k : Sort). ancestors_by d (out-Sort (tree_sort (tree xs e))) k (tree xs e)) same
    ∙ sym (ap (beside d) is.is) in
    puts_same xs ys ns ms (ancestors_by d (out-Sort sort) own (tree xs e)) (beside d (tree xs n)) row p
