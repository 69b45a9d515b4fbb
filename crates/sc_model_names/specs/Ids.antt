-- Ids for classes of equal entities.
use Rattle.std.specs.Prelude.{◌≡◌, ◌&&◌, ◌+◌, ℕ, Bool, true, false, List, [], ◌∷◌, ◌++◌, flat_map, decimal, if◌then◌else◌, refl}
use Rattle.std.specs.List.{filter, list_any}
use Rattle.std.specs.Str.{bytes_eq}
use Rattle.sc_sorts.specs.declared.sort.Sort.{Sort, Sort-F, out-Sort}
use Rattle.sc_sorts.specs.declared.sort.Sort.TheOpen as s
use Rattle.sc_terms.specs.Trees.{Tree}
use Rattle.sc_terms.specs.TreeSorts.{tree_sort}
use Rattle.sc_rule_laws.specs.Terms.{one_sort}
use Rattle.sc_model_laws.specs.Assignments.{Assignment}
use Rattle.sc_model_laws.specs.Names.{Name, Named, or_fresh, literal_id, entry_by, name_in, are_equal}

abbrev pub entity_level : Sort-F Sort → Bool
entity_level (s.Entity name choices) = true
entity_level _ = false

abbrev pub is_entity : Tree → Bool
is_entity t = entity_level (out-Sort (tree_sort t))

unfoldable pub entities : List Tree → List Tree
entities ts = filter is_entity ts

-- two entities of one sort that are equal
abbrev pub is_same : Assignment → Tree → Tree → Bool
is_same m x y = one_sort x y && are_equal m x y

-- a text is an id of a term's sort
abbrev pub is_id : Named → Tree → Name → Bool
is_id es x n = list_any (λ (e : Tree × Name). one_sort x e.0 && bytes_eq e.1 n) es

-- the least number from k on that is no id of a term's sort, where at most as many are as the last list has elements
unfoldable pub least_id : {X : Type 0} → Named → Tree → ℕ → List X → Name
least_id es x k [] = decimal k
least_id es x k (y ∷ ys) = if is_id es x (decimal k) then least_id es x (k + 1) ys else decimal k

-- a literal's id is what it says
unfoldable pub id_entries : List Tree → Named
id_entries xs = flat_map (λ x. entry_by x (literal_id x)) xs

-- the id of an equal entity, else the least number that is no id of the sort yet
abbrev pub next_id : Assignment → Named → Tree → Name
next_id m es x = or_fresh (name_in (is_same m) es x) (least_id es x 0 es)

unfoldable pub identified : Assignment → Named → List Tree → Named
identified m es [] = es
identified m es (x ∷ xs) = identified m (es ++ (x, next_id m es x) ∷ []) xs

-- literals first, then all entities in their order
abbrev pub ids_of : Assignment → List Tree → Named
ids_of m closed = identified m (id_entries (entities closed)) (entities closed)

-- ---- worked rows

-- where there is no id yet a term has the number 0
pub first_id : (m : Assignment) (x : Tree) → identified m [] (x ∷ []) ≡ (x, decimal 0) ∷ []
unfolding identified name_in least_id
first_id m x = refl
