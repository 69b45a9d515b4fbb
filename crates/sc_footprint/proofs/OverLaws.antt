-- Where more atoms are closed than may be listed, the list of closed terms has more.
use Rattle.std.proofs.Common.{◌≡◌, ◌<◌, ◌≤◌, Bool, true, false, ◌||◌, inl, inr, List, [], ◌∷◌, length, refl, sym, ap, subst, arith}
use Rattle.std.proofs.lemmas.Bool.{true≢false}
use Rattle.std.proofs.lemmas.Map.Made.{length-le_from_is_member}
use Rattle.std.specs.Cmp.{IsEquivalence, both_ways}
use Rattle.std.specs.List.{AllByRecursion, IsDistinct, list_any}
use Rattle.std.specs.Set.{is_member}
use Rattle.sc_lists.proofs.MemberLaws.{Has-from_Contains}
use Rattle.sc_lists.specs.Members.{Has}
use Rattle.sc_schema.specs.declared.declarations.Env.{Env}
use Rattle.sc_schema.specs.Declarations.{Declarations}
use Rattle.sc_terms.specs.Trees.{Tree}
use Rattle.sc_terms.specs.Order.{tree_eq}
use Rattle.sc_terms.proofs.OrderLaws.{tree_eq-exact, tree_eq-itself}
use Rattle.sc_closure.specs.Atoms.{atoms_among, is_atom, most_atoms, IsClosedAtom, IsOverLimit}
use Rattle.sc_footprint.specs.Problems.{AreClosed}
use Rattle.sc_footprint.proofs.NumberingLaws.{Has-filter}

-- ---- the test of terms

tree_equivalence : IsEquivalence tree_eq
tree_equivalence = record {
  refl = tree_eq-itself;
  symm = λ x y. both_ways (tree_eq x y) (tree_eq y x) (λ h. subst (λ (t : Tree). tree_eq t x ≡ true) (tree_eq-exact x y h) (tree_eq-itself x)) (λ h. subst (λ (t : Tree). tree_eq t y ≡ true) (tree_eq-exact y x h) (tree_eq-itself y));
  congr = λ x y z h. ap (λ (t : Tree). tree_eq t z) (tree_eq-exact x y h);
}

there_is : (us : List Tree) (q : Tree) → is_member tree_eq us q ≡ true → Has us q
there_is [] q h = absurd (true≢false (sym h))
there_is (u ∷ us) q h = by (tree_eq q u) refl h (there_is us q)
  where
    by : (b : Bool) → tree_eq q u ≡ b → (b || list_any (tree_eq q) us) ≡ true → (is_member tree_eq us q ≡ true → Has us q) → Has (u ∷ us) q
    by true e k rest = inl (sym (tree_eq-exact q u e))
    by false e k rest = inr (rest k)

is_there : (us : List Tree) (q : Tree) → Has us q → is_member tree_eq us q ≡ true
is_there [] q h = absurd h
is_there (u ∷ us) q (inl e) = ap (λ (b : Bool). b || list_any (tree_eq q) us) (subst (λ (t : Tree). tree_eq q t ≡ true) (sym e) (tree_eq-itself q))
is_there (u ∷ us) q (inr k) = by (tree_eq q u) (is_there us q k)
  where
    by : (b : Bool) → list_any (tree_eq q) us ≡ true → (b || list_any (tree_eq q) us) ≡ true
    by true e = refl
    by false e = e

-- no more terms are there than among others, where each is there once
pub no_more : (us ts : List Tree) → IsDistinct tree_eq us → ((t : Tree) → Has us t → Has ts t) → length us ≤ length ts
no_more us ts once all = length-le_from_is_member tree_equivalence us ts once (λ q h. is_there ts q (all q (there_is us q h)))

-- each closed atom is among the atoms of the closed terms
module _ (d : Declarations) (env : Env) (goal : Tree) (ts : List Tree) (closed : AreClosed d env goal ts) where
  among : (t : Tree) → IsClosedAtom d env goal t → Has (atoms_among ts) t
  among t h = Has-filter is_atom ts t (Has-from_Contains ts t ((closed.just t).1 h.closed)) h.atom

  all_among : (us : List Tree) → AllByRecursion (IsClosedAtom d env goal) us → (t : Tree) → Has us t → Has (atoms_among ts) t
  all_among [] h t k = absurd k
  all_among (u ∷ us) h t (inl e) = subst (Has (atoms_among ts)) e (among u h.0)
  all_among (u ∷ us) h t (inr k) = all_among us h.1 t k

  pub over_is_over : IsOverLimit d env goal → most_atoms < length (atoms_among ts)
  over_is_over over =
      let few : length over.atoms ≤ length (atoms_among ts) = no_more over.atoms (atoms_among ts) over.once (all_among over.atoms over.closed) in
      omega (arith, over.more, few)
