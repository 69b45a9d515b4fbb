-- Numbers of a table on their way to the closed terms. No public promise speaks of it.
use Rattle.std.specs.Prelude.{◌≡◌, ◌<◌, ◌⊎◌, ℕ, Bool, true, false, List, [], ◌∷◌, ◌++◌, map, flat_map, filter, take, length, nat_eq, Option, Some, None, is_some, unwrap_or, ⊤}
use Rattle.std.specs.List.{AllByRecursion}
use Rattle.indexmap.specs.IndexSet.{insert_key}
use Rattle.sc_lists.specs.Members.{Has}
use Rattle.sc_pattern.specs.declared.part.Part.{Part}
use Rattle.sc_schema.specs.declared.declarations.Env.{Env}
use Rattle.sc_schema.specs.Declarations.{Declarations}
use Rattle.sc_sorts.specs.declared.sort.Sort.{Sort, Sort-F, out-Sort}
use Rattle.sc_sorts.specs.declared.sort.Sort.TheOpen as s
use Rattle.sc_sorts.specs.declared.node.Node.{Node}
use Rattle.sc_sorts.specs.contracts.sort.SortPartialEq.TheImpl.{ghosts as sorts}
use Rattle.sc_sorts.specs.declared.node.Node.TheVariants as node
use Rattle.sc_sorts.specs.declared.node.ManyOp.TheVariants as manys
use Rattle.sc_sorts.specs.declared.node.BinaryOp.TheVariants as binary
use Rattle.sc_sorts.specs.declared.node.UnaryOp.{UnaryOp}
use Rattle.sc_sorts.specs.declared.node.UnaryOp.TheVariants as unary
use Rattle.sc_terms.specs.Trees.{Tree, one}
use Rattle.sc_terms.specs.Tables.{tree, Keeps}
use Rattle.sc_terms.specs.TreeSorts.{tree_sort}
use Rattle.sc_terms.specs.Folds.{truth_term, equal_term, like_term}
use Rattle.sc_rule_laws.specs.Terms.{written}
use Rattle.sc_closure_rules.specs.Making.{stood}
use Rattle.sc_candidates.specs.Ancestors.{IsAbove}
use Rattle.sc_candidates.specs.Crowds.{AreCrowds, HasCandidate, HasTarget}
use Rattle.sc_candidates.specs.Kins.{AreKins}
use Rattle.sc_candidates.specs.Values.{with_other, where_so, AreDivided}
use Rattle.sc_closure.specs.declared.roles.Group.{Group}
use Rattle.sc_closure.specs.declared.roles.Meeting.{Meeting}
use Rattle.sc_closure.specs.declared.roles.Meeting.TheVariants as meeting
use Rattle.sc_closure.specs.declared.roles.Roles.{Roles}
use Rattle.sc_closure.specs.declared.taking.Part.{Part as PartOf}
use Rattle.sc_closure.specs.declared.taking.Part.TheVariants as part
use Rattle.sc_closure.specs.declared.taking.Place.{Place}
use Rattle.sc_closure.specs.declared.taking.Place.TheVariants as place
use Rattle.sc_closure_rules.specs.Closure.{principal_term, resource_term, follow, Role, named, candidate, set, flow, above, pattern, ancestors_of, unless_written, roles_in, roles, meet, Closed}
use Rattle.sc_closure.specs.Atoms.{is_atom}

-- a number after the others, if it isn't there
unfoldable pub put_one : List ℕ → ℕ → List ℕ
put_one ns m = insert_key nat_eq ns m

abbrev pub put_new : List ℕ → List ℕ → List ℕ
put_new ns [] = ns
put_new ns (m ∷ ms) = put_new (put_one ns m) ms

-- what the closure begins with
abbrev pub seeds : Declarations → Env → Tree → List Tree
seeds d env goal = truth_term true ∷ goal ∷ principal_term d env ∷ resource_term d env ∷ []

-- ---- roles by numbers

-- the pattern that a term asks
abbrev pub asked : Tree → Option (List Part)
asked (one (unary.Like p) t) = Some p
asked _ = None

abbrev pub pattern_in : Tree → List Part
pattern_in x = unwrap_or (asked x) []

-- the operator of a node on one term
abbrev pub operator_in : Node → Option UnaryOp
operator_in (node.One o a) = Some o
operator_in _ = None

-- the numbers of all groups
abbrev pub grouped : List Group → List ℕ
grouped gs = flat_map (λ (g : Group). g.members) gs

-- what stands where there is no group
abbrev pub no_group : Group
no_group = record { first = 0; members = []; others = [] }

abbrev pub with_member : Bool → Group → ℕ → Group
with_member value g n = record { first = g.first; members = g.members ++ n ∷ []; others = with_other value g.others n }

abbrev pub group_with : Bool → ℕ → Group
group_with value n = with_member value (record { first = n; members = []; others = [] }) n

-- a role is one of those that are held by numbers of a table
abbrev pub Held : List Node → Roles → Role → Type 0
Held xs r (named x) = Has (stood xs (grouped r.named.items)) x
Held xs r (candidate x s) = HasCandidate xs r.crowds.items x s
Held xs r (set x) = Has (stood xs r.sets) x
Held xs r (flow s t) = HasTarget xs r.crowds.items s t
Held xs r (above own e) = Has (stood xs r.above) (ancestors_of own e)
Held xs r (pattern p) = Has (map pattern_in (stood xs r.patterns)) p

-- the members of a group that aren't among its others are values
abbrev pub IsDivided : List Node → Group → Type 0
IsDivided xs g = AreDivided xs g.members g.others

-- the members of a group are of the sort of the first
pub record IsGroup (xs : List Node) (g : Group) : Type 0 where
  pub first_in : g.first < length xs
  pub members_in : AllByRecursion (λ n. n < length xs) g.members
  pub alike : AllByRecursion (λ n. tree_sort (tree xs n) ≡ tree_sort (tree xs g.first)) g.members
  pub divided : IsDivided xs g

abbrev pub AreGroups : List Node → List Group → Type 0
AreGroups xs = AllByRecursion (IsGroup xs)

pub record AreRoles (xs : List Node) (r : Roles) : Type 0 where
  pub of_named : AreGroups xs r.named.items
  pub of_crowds : AreCrowds xs r.crowds.items
  pub of_kins : AreKins xs r.crowds.items r.kins.items
  pub of_sets : AllByRecursion (λ n. n < length xs) r.sets
  pub of_above : AllByRecursion (λ n. n < length xs) r.above
  pub of_patterns : AllByRecursion (λ n. n < length xs) r.patterns

-- what a term is by its row, with the numbers that it speaks of
abbrev pub part_in : Node → PartOf
part_in (node.Two binary.Member a s) = part.Candidate a s
part_in (node.Two binary.Subset s t) = part.Subset s t
part_in (node.Two binary.Common s t) = part.Common s t
part_in (node.One (unary.Ancestors own) e) = part.Above
part_in (node.One (unary.Like p) a) = part.Pattern
part_in _ = part.Nothing

-- whether a set is written as a set term, by its node and by its term
abbrev pub set_node : Node → Bool
set_node (node.Many (manys.Set own) ps) = true
set_node _ = false

abbrev pub is_written : Tree → Bool
is_written s = is_some (written s)

-- the roles of what is asked of two sets
abbrev pub flow_role : Tree → Tree → List Role
flow_role s t = unless_written (written s) (flow s t)

abbrev pub common_role : Tree → Tree → List Role
common_role s t = flat_map (λ r. unless_written (written t) r) (flow_role s t)

abbrev pub roles_by_part : List Node → ℕ → PartOf → List Role
roles_by_part xs n part.Nothing = []
roles_by_part xs n (part.Candidate a s) = unless_written (written (tree xs s)) (candidate (tree xs a) (tree xs s))
roles_by_part xs n (part.Subset s t) = flow_role (tree xs s) (tree xs t)
roles_by_part xs n (part.Common s t) = common_role (tree xs s) (tree xs t)
roles_by_part xs n part.Above = roles_in (tree xs n)
roles_by_part xs n part.Pattern = pattern (pattern_in (tree xs n)) ∷ []

abbrev pub IsPartWithin : List Node → ℕ → PartOf → Type 0
IsPartWithin xs n part.Nothing = ⊤
IsPartWithin xs n (part.Candidate a s) = (a < length xs) × (s < length xs)
IsPartWithin xs n (part.Subset s t) = (s < length xs) × (t < length xs)
IsPartWithin xs n (part.Common s t) = (s < length xs) × (t < length xs)
IsPartWithin xs n part.Above = IsAbove (tree xs n)
IsPartWithin xs n part.Pattern = ⊤

pub record IsPartOf (xs : List Node) (n : ℕ) (p : PartOf) : Type 0 where
  pub within : IsPartWithin xs n p
  pub are : roles_in (tree xs n) ≡ roles_by_part xs n p

-- what a term is by its sort
abbrev pub roles_at : Tree → Place → List Role
roles_at x place.Named = named x ∷ []
roles_at x place.Set = set x ∷ []
roles_at x place.Neither = []

abbrev pub place_in : Sort-F Sort → Place
place_in s.String = place.Named
place_in (s.Entity name us) = place.Named
place_in (s.Set member) = place.Set
place_in _ = place.Neither

-- a term is put into one of these groups
pub record Joins (xs : List Node) (old new : List Group) (term : ℕ) : Type 0 where
  pub there : Has (grouped new) term
  pub old_there : (n : ℕ) → Has (grouped old) n → Has (grouped new) n
  pub only : (n : ℕ) → Has (grouped new) n → Has (grouped old) n ⊎ (term ≡ n)
  pub are : AreGroups xs old → AreGroups xs new

abbrev pub IsGroupWithin : ℕ → Group → Type 0
IsGroupWithin l g = (g.first < l) × AllByRecursion (λ n. n < l) g.members

-- ---- what goes with a new role, group by group

abbrev pub is_text : Sort-F Sort → Bool
is_text s.String = true
is_text _ = false

-- what goes with a term and another
abbrev pub met_term : Meeting → Tree → Tree → Tree
met_term meeting.Equation t x = equal_term t x
met_term meeting.Texts t x = like_term t (pattern_in x)
met_term meeting.Patterns t x = like_term x (pattern_in t)

-- where something goes with terms of a sort and one of another
abbrev pub is_met : Meeting → Sort → Sort → Bool
is_met meeting.Equation a b = sorts.eq a b
is_met meeting.Texts a b = is_text (out-Sort a)
is_met meeting.Patterns a b = is_text (out-Sort b)

abbrev pub met_terms : Meeting → List Tree → Tree → List Tree
met_terms m ts x = map (λ t. met_term m t x) ts

abbrev pub met_in : Meeting → Tree → List Tree → Tree → List Tree
met_in m first ts x = where_so (is_met m (tree_sort first) (tree_sort x)) (met_terms m ts x)

abbrev pub met_among : Meeting → List Node → List Group → Tree → List Tree
met_among m xs gs x = flat_map (λ (g : Group). met_in m (tree xs g.first) (stood xs g.members) x) gs

-- of a text and those that ask patterns
abbrev pub met_patterns : List Node → List ℕ → Tree → List Tree
met_patterns xs ns x = where_so (is_text (out-Sort (tree_sort x))) (met_terms meeting.Patterns (stood xs ns) x)

-- a term goes with two roles that are held
abbrev pub GoesWith : (Role → Type 0) → Tree → Type 0
GoesWith held z = (p : Role) × (q : Role) × held p × held q × Has (meet p q) z

-- Roles are taken in: those held before and these are held, and of two of which one is new what goes with both is told,
-- unless it goes with two that were held.
pub record TakesIn (held new : Role → Type 0) (ps : List Role) (zs : List Tree) : Type 0 where
  pub old : (p : Role) → held p → new p
  pub taken : (p : Role) → Has ps p → new p
  pub only : (p : Role) → new p → held p ⊎ Has ps p
  pub sound : (z : Tree) → Has zs z → GoesWith new z
  pub whole : (p q : Role) (z : Tree) → new p → new q → Has (meet p q) z → GoesWith held z ⊎ Has zs z

-- The same by numbers: roles are taken in while the table grows, and what goes with two is put behind other numbers.
pub record Takes (old new : List Node) (r s : Roles) (ps : List Role) (before after : List ℕ) : Type 0 where
  pub kept : Keeps old new
  pub more : List ℕ
  pub is : after ≡ before ++ more
  pub within : AllByRecursion (λ n. n < length new) more
  pub are : AreRoles new s
  pub takes : TakesIn (Held old r) (Held new s) ps (stood new more)

-- all that goes with a term, and with its roles and those so far
pub record Follows (d : Declarations) (old new : List Node) (r s : Roles) (n : ℕ) (ms : List ℕ) : Type 0 where
  pub within : AllByRecursion (λ m. m < length new) ms
  pub are : AreRoles new s
  pub first : List Tree
  pub second : List Tree
  pub stands : stood new ms ≡ first ++ second
  pub follows : first ≡ follow d (tree old n)
  pub takes : TakesIn (Held old r) (Held new s) (roles (tree old n)) second

-- ---- the worklist

-- numbers on their way to the closed terms: the first i have been followed, and these roles are theirs
pub record IsClosing (d : Declarations) (env : Env) (goal : Tree) (xs : List Node) (ns : List ℕ)
    (held : Role → Type 0) (i : ℕ) : Type 0 where
  pub within : AllByRecursion (λ n. n < length xs) ns
  pub started : (x : Tree) → Has (seeds d env goal) x → Has (stood xs ns) x
  pub sound : (x : Tree) → Has (stood xs ns) x → Closed d env goal x
  pub followed : (x y : Tree) → Has (stood xs (take i ns)) x → Has (follow d x) y → Has (stood xs ns) y
  pub roles_are : (p : Role) → held p → (x : Tree) × Has (stood xs (take i ns)) x × Has (roles x) p
  pub roles_all : (x : Tree) (p : Role) → Has (stood xs (take i ns)) x → Has (roles x) p → held p
  pub met : (p q : Role) (z : Tree) → held p → held q → Has (meet p q) z → Has (stood xs ns) z

-- numbers stand for just the closed terms
pub record StandsForClosed (d : Declarations) (env : Env) (goal : Tree) (xs : List Node) (ns : List ℕ) : Type 0 where
  pub within : AllByRecursion (λ n. n < length xs) ns
  pub sound : (x : Tree) → Has (stood xs ns) x → Closed d env goal x
  pub whole : (x : Tree) → Closed d env goal x → Has (stood xs ns) x

-- the numbers of atoms
abbrev pub atoms_of : List Node → List ℕ → List ℕ
atoms_of xs ns = filter (λ n. is_atom (tree xs n)) ns
