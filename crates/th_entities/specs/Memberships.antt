-- The memberships that an assignment says are true, by the numbers of closed terms; 0 is the number of none. No
-- public promise speaks of it.
use Rattle.std.specs.Prelude.{◌≡◌, ◌++◌, ◌<◌, ⊤, ℕ, Bool, true, false, List, [], ◌∷◌, length, Option, Some, None, if◌then◌else◌}
use Rattle.std.specs.List.{AllByRecursion}
use Rattle.sc_lists.specs.Members.{Has}
use Rattle.sc_clauses.specs.Assignments.{Assignment}
use Rattle.sc_sorts.specs.declared.node.UnaryOp.TheVariants as unary
use Rattle.sc_sorts.specs.declared.node.BinaryOp.TheVariants as binary
use Rattle.sc_sorts.specs.contracts.sort.SortPartialEq.TheImpl.{ghosts as sorts}
use Rattle.sc_terms.specs.Trees.{Tree, one, two}
use Rattle.sc_terms.specs.TreeSorts.{tree_sort}
use Rattle.sc_footprint.specs.Problems.{Posed, closed_terms, number_among, term_of}
use Rattle.sc_rule_instances.specs.Clauses.{literal_for}
use Rattle.sc_rule_laws.specs.Signed.{unless}
use Rattle.sc_rule_laws.specs.Terms.{member}
use Rattle.th_entities.specs.declared.memberships.Membership.{Membership}
use Rattle.th_entities.specs.Free.{is_out}

abbrev pub number_in : Posed → Tree → ℕ
number_in p t = number_among (closed_terms p) t

-- the entity that a set is the ancestors of
abbrev pub owner_in : Posed → Tree → ℕ
owner_in p (one (unary.Ancestors k) e) = number_in p e
owner_in p _ = 0

-- a set is the ancestors, of a term's sort, of an entity
abbrev pub is_above : Tree → Tree → Bool
is_above x (one (unary.Ancestors k) e) = sorts.eq k (tree_sort x)
is_above x _ = false

abbrev pub membership_at : ℕ → ℕ → ℕ → Bool → Membership
membership_at x s e b = record { member = x; set = s; owner = e; is_above = b }

abbrev pub membership_in : Posed → Tree → Tree → Membership
membership_in p x s = membership_at (number_in p x) (number_in p s) (owner_in p s) (is_above x s)

-- an assignment says that a term is true
abbrev pub is_true : Posed → Assignment → Tree → Bool
is_true p m t = is_out m (literal_for p (unless t))

abbrev pub true_two : Posed → Assignment → Tree → Tree → Option Membership
true_two p m x s = if is_true p m (member x s) then Some (membership_in p x s) else None

abbrev pub true_term : Posed → Assignment → Tree → Option Membership
true_term p m (two binary.Member x s) = true_two p m x s
true_term p m _ = None

abbrev pub true_closed : Posed → Assignment → Option Tree → Option Membership
true_closed p m (Some t) = true_term p m t
true_closed p m None = None

-- ---- all of them, listed

-- it is among these, if there is one
abbrev pub IsAmong : List Membership → Option Membership → Type 0
IsAmong known (Some k) = Has known k
IsAmong known None = ⊤

-- it is of terms of which an assignment says that it is true
pub record IsHeld (p : Posed) (m : Assignment) (k : Membership) : Type 0 where
  pub element : Tree
  pub whole : Tree
  pub stands : k ≡ membership_in p element whole
  pub said : is_true p m (member element whole) ≡ true

-- these are all of them, and no others
unfoldable pub AreMemberships : Posed → Assignment → List Membership → Type 0
AreMemberships p m known = ((n : ℕ) → IsAmong known (true_closed p m (term_of p n))) × AllByRecursion (IsHeld p m) known

-- it comes after the others, if there is one
abbrev pub IsPut : {X : Type 0} → List X → Option X → List X → Type 0
IsPut known (Some k) more = more ≡ known ++ k ∷ []
IsPut known None more = more ≡ known

-- ---- runs

-- those of the first number, up to those of another, and those behind
pub record IsFirstRun {X : Type 0} (number : X → ℕ) (known : List X) (e : ℕ) (run later : List X) : Type 0 where
  pub whole : known ≡ run ++ later
  pub alike : AllByRecursion (λ (k : X). number k ≡ e) run
  pub less : length later < length known

abbrev pub owner_of : Membership → ℕ
owner_of k = k.owner

-- all are in the ancestors of one entity, and the assignment says that they are true
unfoldable pub AreOf : Posed → Assignment → ℕ → List Membership → Type 0
AreOf p m e run = AllByRecursion (λ (k : Membership). k.owner ≡ e) run × AllByRecursion (IsHeld p m) run
