-- How a search for an order goes on. Clauses inside of the crate speak of it.
use Rattle.std.specs.Prelude.{◌≡◌, ℕ, ◌+◌, ◌*◌, ◌<◌, List, [], ◌∷◌, ◌++◌, length, map, Option, Some, Contains, slice_index_or, ◌⊎◌, if◌then◌else◌, ⊤}
use Rattle.std.specs.List.{AllByRecursion, IsDistinct}
use Rattle.std.specs.BTreeMap.{is_at}
use Rattle.std.specs.Map.{lookup}
use Rattle.std.specs.Str.{bytes_eq}
use Rattle.sc_names.specs.Uids.{text_cmp}
use Rattle.sc_schema_types.specs.declared.search.Mark.{Mark}
use Rattle.sc_schema_types.specs.declared.search.Mark.TheVariants.{Open, Placed}
use Rattle.sc_schema_types.specs.declared.search.Step.{Step}
use Rattle.sc_schema_types.specs.declared.search.Search.{Search}
use Rattle.sc_schema_types.specs.References.{Names, Bodies, Graph, references}
use Rattle.sc_schema_types.specs.Orders.{LeadsBack}

abbrev pub Marks : Type 0
Marks = List (List ℕ × Mark)

-- the mark of a name
abbrev pub mark_in : Marks → List ℕ → Option Mark
mark_in marks q = lookup (is_at (text_cmp q)) marks

-- the mark of a name, once this one has this mark
abbrev pub marked_in : Marks → List ℕ → Mark → List ℕ → Option Mark
marked_in marks name mark q = if is_at (text_cmp name) q then Some mark else mark_in marks q

-- the names on a path
abbrev pub names_on : List Step → Names
names_on = map (λ (step : Step). step.name)

-- each common type names the next one
unfoldable pub IsPath : Graph → Names → Type 0
IsPath graph [] = ⊤
IsPath graph (a ∷ []) = ⊤
IsPath graph (a ∷ b ∷ names) = Contains (graph a) b × IsPath graph (b ∷ names)

-- what is kept of a common type on the path: which ones its body names, and that some of these have their places
pub record IsStep (bodies : Bodies) (order : Names) (step : Step) : Type 0 where
  pub named : step.next ≡ references bodies step.name
  pub behind : (k : ℕ) (d : List ℕ) → k < step.placed → k < length step.next
      → Contains order (slice_index_or step.next k d)

-- a name that is marked as placed has its place, and one that is marked as open is on the path
pub record AreMarks (order : Names) (path : Names) (marks : Marks) : Type 0 where
  pub placed : (q : List ℕ) → mark_in marks q ≡ Some Placed → Contains order q
  pub open_ones : (q : List ℕ) → mark_in marks q ≡ Some Open → Contains path q

-- each name in the order and on the path is marked so, and stands there once
pub record IsOnce (order path : Names) (marks : Marks) : Type 0 where
  pub in_order : (q : List ℕ) → Contains order q → mark_in marks q ≡ Some Placed
  pub on_path : (q : List ℕ) → Contains path q → mark_in marks q ≡ Some Open
  pub order_once : IsDistinct bytes_eq order
  pub path_once : IsDistinct bytes_eq path

-- what holds of an order so far, a path and the marks
pub record IsSearch (bodies : Bodies) (order : Names) (path : List Step) (marks : Marks) : Type 0 where
  pub leads_back : LeadsBack (references bodies) order
  pub linked : IsPath (references bodies) (names_on path)
  pub steps : AllByRecursion (IsStep bodies order) path
  pub marked : AreMarks order (names_on path) marks
  pub once : IsOnce order (names_on path) marks

-- the search stands still: nothing is on the path
pub record IsRested (bodies : Bodies) (search : Search) : Type 0 where
  pub no_path : search.path.items ≡ []
  pub sound : IsSearch bodies search.order.items [] search.marks.entries

-- a common type that is put on the path
abbrev pub opened : Bodies → List ℕ → Step
opened bodies name = record { name = name; next = references bodies name; placed = 0 }

-- a name has its place or is on the path
abbrev pub IsKnown : Names → List Step → List ℕ → Type 0
IsKnown order path q = Contains order q ⊎ Contains (names_on path) q

-- the search made a step, from the end of a path that was taken off
pub record GoesOn (bodies : Bodies) (old : Search) (end : Step) (new : Search) : Type 0 where
  pub sound : IsSearch bodies new.order.items new.path.items new.marks.entries
  pub further : 2 * length new.order.items + length new.path.items
      ≡ 2 * length old.order.items + length old.path.items + 2
  pub keeps : (q : List ℕ) → IsKnown old.order.items (old.path.items ++ end ∷ []) q
      → IsKnown new.order.items new.path.items q
