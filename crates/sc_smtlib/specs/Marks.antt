-- Which numbers of a table stand for subterms of a goal. No public promise speaks of it.
use Rattle.std.specs.Prelude.{◌≡◌, ◌<◌, ◌≤◌, ◌+◌, ◌↔◌, ◌⊎◌, ℕ, Bool, true, false, List, [], ◌∷◌, map, length, get_or, option_to_list, slice_get}
use Rattle.std.specs.List.{AllByRecursion, filter}
use Rattle.sc_lists.specs.Members.{Has}
use Rattle.sc_sorts.specs.declared.node.Node.{Node}
use Rattle.sc_sorts.specs.declared.node.Node.TheVariants as node
use Rattle.sc_terms.specs.Trees.{Tree}
use Rattle.sc_terms.specs.Tables.{tree}
use Rattle.sc_closure_rules.specs.Closure.{parts}
use Rattle.sc_smtlib_terms.specs.Forms.{IsSubterm}

abbrev pub is_marked : List Bool → ℕ → Bool
is_marked marks n = get_or marks n false

-- of some numbers the one at a place, where it is marked
abbrev pub kept_at : List Bool → List ℕ → ℕ → List ℕ
kept_at marks ns place = filter (is_marked marks) (option_to_list (slice_get ns place))

-- the numbers of a node's parts
abbrev pub part_numbers : Node → List ℕ
part_numbers (node.Leaf l) = []
part_numbers (node.One o a) = a ∷ []
part_numbers (node.Two o a b) = a ∷ b ∷ []
part_numbers (node.Choice c a b) = c ∷ a ∷ b ∷ []
part_numbers (node.Many o ps) = map (λ (p : List ℕ × ℕ). p.1) ps

-- these numbers are marked too
pub record Marks (old new : List Bool) (ns : List ℕ) : Type 0 where
  pub as_many : length new ≡ length old
  pub are : (n : ℕ) → is_marked new n ≡ true ↔ ((is_marked old n ≡ true) ⊎ Has ns n)

abbrev pub AreLess : ℕ → List ℕ → Type 0
AreLess n = AllByRecursion (λ m. m < n)

-- a goal's number alone is marked
pub record IsOneMark (goal : ℕ) (marks : List Bool) : Type 0 where
  pub as_many : length marks ≡ goal + 1
  pub goal_is : is_marked marks goal ≡ true
  pub alone : (n : ℕ) → is_marked marks n ≡ true → n ≡ goal

-- these numbers stand for the parts of a number's term, and are lower
pub record ArePartsOf (xs : List Node) (n : ℕ) (ns : List ℕ) : Type 0 where
  pub are : parts (tree xs n) ≡ map (tree xs) ns
  pub lower : AreLess n ns

-- where a number is marked the numbers of its parts are marked too, and else none
pub record IsLookedAt (xs : List Node) (n : ℕ) (old new : List Bool) : Type 0 where
  pub with_parts : is_marked old n ≡ true → (ns : List ℕ) × ArePartsOf xs n ns × Marks old new ns
  pub without : is_marked old n ≡ false → new ≡ old

-- a number that is marked stands for a term
abbrev pub HasMark : List Node → List Bool → Tree → Type 0
HasMark xs marks t = (n : ℕ) × (is_marked marks n ≡ true) × (tree xs n ≡ t)

-- marked numbers stand for subterms of a goal, the goal's own among them, and from some number on the parts of each
-- have marks
pub record AreMarked (xs : List Node) (goal from : ℕ) (marks : List Bool) : Type 0 where
  pub as_many : length marks ≡ goal + 1
  pub sound : (n : ℕ) → is_marked marks n ≡ true → IsSubterm (tree xs goal) (tree xs n)
  pub goal_is : is_marked marks goal ≡ true
  pub closed : (n : ℕ) → from ≤ n → is_marked marks n ≡ true → (p : Tree) → Has (parts (tree xs n)) p
      → HasMark xs marks p
