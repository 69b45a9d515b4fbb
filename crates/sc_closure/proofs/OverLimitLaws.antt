-- Where so many atoms are met, more are closed than may be listed.
use Rattle.std.proofs.Common.{◌≡◌, ℕ, ◌<◌, Bool, true, false, cond, inl, inr, List, [], ◌∷◌, length, nat_eq, refl, arith}
use Rattle.std.proofs.lemmas.Bool.Decides.{nat_tests}
use Rattle.std.proofs.lemmas.Bool.{false_from_ne_true}
use Rattle.std.proofs.lemmas.List.{length-map}
use Rattle.std.specs.List.{AllByRecursion, IsDistinct}
use Rattle.sc_lists.specs.Members.{Has}
use Rattle.sc_lists.proofs.ListLaws.{AllByRecursion-filter, IsDistinct-filter}
use Rattle.sc_schema.specs.declared.declarations.Env.{Env}
use Rattle.sc_schema.specs.Declarations.{Declarations}
use Rattle.sc_sorts.specs.declared.node.Node.{Node}
use Rattle.sc_terms.specs.Trees.{Tree}
use Rattle.sc_terms.specs.Tables.{tree, IsTable}
use Rattle.sc_terms.specs.Order.{tree_eq}
use Rattle.sc_terms.proofs.OrderLaws.{tree_eq-exact}
use Rattle.sc_closure_rules.specs.Making.{stood}
use Rattle.sc_closure.specs.Atoms.{is_atom, most_atoms, IsClosedAtom, IsOverLimit}
use Rattle.sc_closure_rules.specs.Closure.{Closed}
use Rattle.sc_closure.specs.Following.{atoms_of}

module _ (xs : List Node) (t : IsTable xs) where
  apart : (m n : ℕ) → m < length xs → n < length xs → nat_eq m n ≡ false → tree_eq (tree xs m) (tree xs n) ≡ false
  apart m n h k e =
      false_from_ne_true (tree_eq (tree xs m) (tree xs n))
      (λ f. let g : m ≡ n = t.apart m n h k (tree_eq-exact (tree xs m) (tree xs n) f) in let no : true ≡ false = grind (arith, nat_tests) in cc)

  all_apart : (m : ℕ) (ns : List ℕ) → m < length xs → AllByRecursion (λ n. n < length xs) ns → AllByRecursion (λ n. nat_eq m n ≡ false) ns → AllByRecursion (λ u. tree_eq (tree xs m) u ≡ false) (stood xs ns)
  all_apart m [] h w e = tt
  all_apart m (n ∷ ns) h w e = (apart m n h w.0 e.0, all_apart m ns h w.1 e.1)

  -- numbers of which none comes twice stand for such terms
  pub distinct_terms : (ns : List ℕ) → AllByRecursion (λ n. n < length xs) ns → IsDistinct nat_eq ns → IsDistinct tree_eq (stood xs ns)
  unfolding IsDistinct
  distinct_terms [] w h = tt
  distinct_terms (n ∷ ns) w h = (all_apart n ns w.0 w.1 h.0, distinct_terms ns w.1 h.1)

module _ (d : Declarations) (env : Env) (goal : Tree) (xs : List Node) where
  closed_atoms : (ns : List ℕ) → ((x : Tree) → Has (stood xs ns) x → Closed d env goal x) → AllByRecursion (IsClosedAtom d env goal) (stood xs (atoms_of xs ns))
  closed_atoms [] sound = tt
  closed_atoms (n ∷ ns) sound = by (is_atom (tree xs n)) refl (closed_atoms ns (λ x h. sound x (inr h)))
    where
      by : (b : Bool) → is_atom (tree xs n) ≡ b → AllByRecursion (IsClosedAtom d env goal) (stood xs (atoms_of xs ns)) → AllByRecursion (IsClosedAtom d env goal) (stood xs (cond b (n ∷ atoms_of xs ns) (atoms_of xs ns)))
      by true e k = (record { closed = sound (tree xs n) (inl refl); atom = e }, k)
      by false e k = k

  pub over_limit : IsTable xs → (ns : List ℕ) → AllByRecursion (λ n. n < length xs) ns → IsDistinct nat_eq ns → ((x : Tree) → Has (stood xs ns) x → Closed d env goal x)
      → most_atoms < length (atoms_of xs ns) → IsOverLimit d env goal
  over_limit t ns within once sound more = record {
    atoms = stood xs (atoms_of xs ns);
    once = distinct_terms xs t (atoms_of xs ns) (AllByRecursion-filter (λ n. is_atom (tree xs n)) (λ n. n < length xs) ns within) (IsDistinct-filter (λ n. is_atom (tree xs n)) ns once);
    closed = closed_atoms ns sound;
    more = omega (arith, more, length-map (atoms_of xs ns) (tree xs));
  }
