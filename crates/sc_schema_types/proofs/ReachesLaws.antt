-- What leads to what.
use Rattle.std.proofs.Common.{◌≡◌, ◌⊎◌, ℕ, List, [], ◌∷◌, ◌++◌, Contains, inl, inr, subst}
use Rattle.sc_lists.proofs.ListLaws.{contains_nothing, contains_split, contains_first}
use Rattle.sc_graphs.specs.Reaching.{step, on}
use Rattle.sc_schema_types.specs.References.{Names, Graph, Reaches}
use Rattle.sc_schema_types.specs.Searches.{IsPath}

module _ (graph : Graph) where
  pub path_push : (front : Names) (a b : List ℕ) → IsPath graph (front ++ a ∷ []) → Contains (graph a) b → IsPath graph ((front ++ a ∷ []) ++ b ∷ [])
  unfolding IsPath
  path_push [] a b h e = (e, tt)
  path_push (x ∷ []) a b h e = (h.0, (e, tt))
  path_push (x ∷ y ∷ front) a b h e = (h.0, path_push (y ∷ front) a b h.1 e)

  pub path_pop : (front : Names) (a : List ℕ) → IsPath graph (front ++ a ∷ []) → IsPath graph front
  unfolding IsPath
  path_pop [] a h = tt
  path_pop (x ∷ []) a h = tt
  path_pop (x ∷ y ∷ front) a h = (h.0, path_pop (y ∷ front) a h.1)

  pub path_one : (a : List ℕ) → IsPath graph (a ∷ [])
  unfolding IsPath
  path_one a = tt

  -- what stands on a path before its end leads to its end
  pub path_reach : (front : Names) (a q : List ℕ) → IsPath graph (front ++ a ∷ []) → Contains front q → Reaches graph q a
  unfolding IsPath
  path_reach [] a q h found = absurd (contains_nothing q found)
  path_reach (x ∷ []) a q h found = pick (contains_split x [] q found) where
    pick : (x ≡ q) ⊎ Contains [] q → Reaches graph q a
    pick (inl is) = subst (λ (y : List ℕ). Reaches graph y a) is (step x a h.0)
    pick (inr none) = absurd (contains_nothing q none)
  path_reach (x ∷ y ∷ front) a q h found = pick (contains_split x (y ∷ front) q found) (path_reach (y ∷ front) a y h.1 (contains_first y front)) (path_reach (y ∷ front) a q h.1) where
    pick : (x ≡ q) ⊎ Contains (y ∷ front) q → Reaches graph y a → (Contains (y ∷ front) q → Reaches graph q a) → Reaches graph q a
    pick (inl is) r f = subst (λ (z : List ℕ). Reaches graph z a) is (on x y a h.0 r)
    pick (inr later) r f = f later
