-- Terms by their numbers in the table.
use Rattle.std.proofs.Common.{◌≡◌, ◌<◌, ◌+◌, ◌++◌, ℕ, List, [], ◌∷◌, map, flat_map, take, length, get_or, Contains, refl, sym, ap, ◌∙◌, subst}
use Rattle.std.proofs.lemmas.List.{map_more}
use Rattle.sc_lists.proofs.ListLaws.{all_of_elements, all_element}
use Rattle.sc_terms.specs.Trees.{Tree}
use Rattle.sc_footprint.specs.Problems.{Posed, IsPosed}
use Rattle.sc_model_worlds.specs.Listed.{IsListed, AreListed}

pub flat_trees : {X : Type 0} (f : Tree → List X) (tree_at : ℕ → Tree) (ns : List ℕ) → flat_map (λ n. f (tree_at n)) ns ≡ flat_map f (map tree_at ns)
flat_trees f tree_at [] = refl
flat_trees f tree_at (n ∷ ns) = ap (λ ys. f (tree_at n) ++ ys) (flat_trees f tree_at ns)

pub map_trees : {X : Type 0} (f : Tree → X) (tree_at : ℕ → Tree) (ns ms : List ℕ) (ts : List Tree) → ns ≡ ms → map tree_at ms ≡ ts → map (λ n. f (tree_at n)) ns ≡ map f ts
map_trees f tree_at ns ms ts e h = composed ns ∙ ap (λ (ks : List ℕ). map f (map tree_at ks)) e ∙ ap (map f) h
  where
    composed : (ks : List ℕ) → map (λ n. f (tree_at n)) ks ≡ map f (map tree_at ks)
    composed [] = refl
    composed (k ∷ ks) = ap (λ ys. f (tree_at k) ∷ ys) (composed ks)

-- ---- one closed term after the other

pub all_listed : (p : Posed) (ns : List ℕ) → IsPosed p → ns ≡ p.closed → AreListed p ns
all_listed p ns posed e = all_of_elements (IsListed p) ns (λ n has. record {
  closed = subst (λ (ms : List ℕ). Contains ms n) e has;
  within = all_element (λ (m : ℕ). m < length p.nodes) p.closed n posed.within (subst (λ (ms : List ℕ). Contains ms n) e has);
})

-- one more of what is made of each
pub one_made : {X Y : Type 0} (f : X → Y) (xs : List X) (i : ℕ) (x : X) (y : Y) (old new : List Y) → i < length xs → x ≡ get_or xs i x → old ≡ map f (take i xs) → y ≡ f x → new ≡ old ++ y ∷ []
    → new ≡ map f (take (i + 1) xs)
one_made {X} {Y} f xs i x y old new within is so_far made put =
    put
    ∙ ap (λ (ys : List Y). ys ++ y ∷ []) so_far
    ∙ ap (λ (z : Y). map f (take i xs) ++ z ∷ []) (made ∙ ap f is)
    ∙ sym (map_more f xs i x within)
