-- What closing gives is a problem of the goal.
use Rattle.std.proofs.Common.{◌≡◌, ◌↔◌, ℕ, ◌<◌, ◌≤◌, ◌^◌, Bool, true, false, cond, ◌||◌, inl, inr, List, [], ◌∷◌, filter, length, nat_eq, IsPermutation, refl, sym, ap, ◌∙◌, subst, arith}
use Rattle.std.proofs.lemmas.Bool.{true≢false}
use Rattle.std.proofs.lemmas.Cmp.{nat_eq_equiv}
use Rattle.std.proofs.lemmas.List.{length-map}
use Rattle.std.proofs.lemmas.List.Sorted.{Contains-permutation, IsPermutation-sym}
use Rattle.std.proofs.lemmas.Map.Made.{length-le_from_is_member}
use Rattle.std.specs.Cmp.{IsTotalOrder}
use Rattle.std.specs.declared.cmp.Ordering.TheVariants.{Equal}
use Rattle.std.specs.List.{AllByRecursion, IsDistinct, list_any}
use Rattle.std.specs.Set.{is_member}
use Rattle.std.specs.List.Sorted.{IsStrictlySortedBy}
use Rattle.sc_lists.proofs.MemberLaws.{Has-map, map-Has, Has-from_Contains, Contains-from_Has}
use Rattle.sc_laws.proofs.NumberLaws.{nat_eq_true}
use Rattle.sc_lists.specs.Members.{Has}
use Rattle.sc_lists.proofs.ListLaws.{AllByRecursion-filter, IsDistinct-filter}
use Rattle.sc_names.specs.declared.uid.Uid.{Uid}
use Rattle.sc_schema.specs.declared.declarations.Env.{Env}
use Rattle.sc_schema.specs.Declarations.{Declarations}
use Rattle.sc_schema.specs.Lawful.{IsLawful}
use Rattle.sc_values.proofs.AscendingLaws.{one_list}
use Rattle.sc_sorts.specs.declared.node.Node.{Node}
use Rattle.sc_terms.specs.Trees.{Tree}
use Rattle.sc_terms.specs.Tables.{tree, Keeps}
use Rattle.sc_terms.specs.Order.{tree_cmp}
use Rattle.sc_terms.specs.TreeSorts.{tree_sort}
use Rattle.sc_closure.specs.Judging.{IsTermOf}
use Rattle.sc_closure.specs.Making.{stood, IsSomeTerm}
use Rattle.sc_closure.proofs.MakingLaws.{stood_later}
use Rattle.sc_closure.proofs.MemberLaws.{within_later, within_Has}
use Rattle.sc_closure.specs.Atoms.{is_atom, atoms_among, most_atoms}
use Rattle.sc_closure.specs.Closure.{Closed}
use Rattle.sc_closure.specs.Following.{StandsForClosed, atoms_of}
use Rattle.sc_closure.specs.Goals.{IsGoal}
use Rattle.sc_term_order.proofs.OrderingLaws.{within_moved}
use Rattle.sc_footprint.specs.declared.companions.Span.{Span}
use Rattle.sc_footprint.specs.declared.shelves.Shelf.{Shelf}
use Rattle.sc_footprint.specs.Companions.{AreListed}
use Rattle.sc_footprint.specs.Indices.{IsKept, AreShelves, problem_of}
use Rattle.sc_footprint.specs.Problems.{Posed, IsPosed, AreClosed}

-- the closed terms of a goal are one list
pub same_closed : IsTotalOrder tree_cmp → ((a b : Tree) → tree_cmp a b ≡ Equal ↔ a ≡ b) → (d : Declarations) (env : Env) (goal : Tree) (ts us : List Tree) → AreClosed d env goal ts → AreClosed d env goal us → ts ≡ us
same_closed total level d env goal ts us c e =
    one_list total (λ a b h. (level a b).0 h) ts us c.ordered e.ordered (λ x. (λ h. (e.just x).1 ((c.just x).0 h), λ h. (c.just x).1 ((e.just x).0 h)))

-- the atoms of numbers are those of their terms
listed : (xs : List Node) (ns : List ℕ) → stood xs (atoms_of xs ns) ≡ atoms_among (stood xs ns)
listed xs [] = refl
listed xs (n ∷ ns) = by (is_atom (tree xs n)) (listed xs ns)
  where
    by : (b : Bool) → stood xs (atoms_of xs ns) ≡ atoms_among (stood xs ns) → stood xs (cond b (n ∷ atoms_of xs ns) (atoms_of xs ns)) ≡ cond b (tree xs n ∷ atoms_among (stood xs ns)) (atoms_among (stood xs ns))
    by true e = ap (λ (l : List Tree). tree xs n ∷ l) e
    by false e = e

-- what passes a test
passed : (p : ℕ → Bool) (ns : List ℕ) (n : ℕ) → Has (filter p ns) n → Has ns n × (p n ≡ true)
passed p [] n h = absurd h
passed p (m ∷ ms) n h = by (p m) refl h (passed p ms n)
  where
    by : (b : Bool) → p m ≡ b → Has (cond b (m ∷ filter p ms) (filter p ms)) n → (Has (filter p ms) n → Has ms n × (p n ≡ true)) → Has (m ∷ ms) n × (p n ≡ true)
    by true e (inl q) rest = (inl q, ap p (sym q) ∙ e)
    by true e (inr q) rest = let r = rest q in (inr r.0, r.1)
    by false e q rest = let r = rest q in (inr r.0, r.1)

passing : (p : ℕ → Bool) (ns : List ℕ) (n : ℕ) → Has ns n → p n ≡ true → Has (filter p ns) n
passing p [] n h e = absurd h
passing p (m ∷ ms) n h e = by (p m) refl h (λ k. passing p ms n k e)
  where
    by : (b : Bool) → p m ≡ b → Has (m ∷ ms) n → (Has ms n → Has (filter p ms) n) → Has (cond b (m ∷ filter p ms) (filter p ms)) n
    by true f (inl q) rest = inl q
    by true f (inr q) rest = inr (rest q)
    by false f (inl q) rest = absurd (true≢false (sym e ∙ ap p (sym q) ∙ f))
    by false f (inr q) rest = rest q

there_is : (ns : List ℕ) (q : ℕ) → is_member nat_eq ns q ≡ true → Has ns q
there_is [] q h = absurd (true≢false (sym h))
there_is (n ∷ ns) q h = by (nat_eq q n) refl h (there_is ns q)
  where
    by : (b : Bool) → nat_eq q n ≡ b → (b || list_any (nat_eq q) ns) ≡ true → (is_member nat_eq ns q ≡ true → Has ns q) → Has (n ∷ ns) q
    by true e k rest = inl (sym (nat_eq_true q n e))
    by false e k rest = inr (rest k)

is_there : (ns : List ℕ) (q : ℕ) → Has ns q → is_member nat_eq ns q ≡ true
is_there [] q h = absurd h
is_there (n ∷ ns) q (inl e) = ap (λ (b : Bool). b || list_any (nat_eq q) ns) (subst (λ (m : ℕ). nat_eq q m ≡ true) (sym e) (nat_eq_equiv.refl q))
is_there (n ∷ ns) q (inr k) = by (nat_eq q n) (is_there ns q k)
  where
    by : (b : Bool) → list_any (nat_eq q) ns ≡ true → (b || list_any (nat_eq q) ns) ≡ true
    by true e = refl
    by false e = e

moved : (ms ns : List ℕ) (n : ℕ) → IsPermutation ms ns → Has ms n → Has ns n
moved ms ns n p h = Has-from_Contains ns n (Contains-permutation ms ns n p (Contains-from_Has ms n h))

moved_terms : (xs : List Node) (ms ns : List ℕ) (x : Tree) → IsPermutation ms ns → Has (stood xs ms) x → Has (stood xs ns) x
moved_terms xs ms ns x p h = let k = map-Has (tree xs) ms x h in subst (λ (t : Tree). Has (stood xs ns) t) k.2 (Has-map (tree xs) ns k.0 (moved ms ns k.0 p k.1))

-- closed terms are terms of some sort
pub some_terms : (d : Declarations) (env : Env) (literals : List Uid) (goal : Tree) (xs : List Node) (ns : List ℕ) → ((t : Tree) → Closed d env goal t → IsTermOf d env literals (tree_sort t) t)
    → ((x : Tree) → Has (stood xs ns) x → Closed d env goal x) → AllByRecursion (λ n. IsSomeTerm (tree xs n)) ns
some_terms d env literals goal xs [] made closed = tt
some_terms d env literals goal xs (n ∷ ns) made closed = (
  record { schema = d; env = env; written = literals; sort = tree_sort (tree xs n); is = made (tree xs n) (closed (tree xs n) (inl refl)) },
  some_terms d env literals goal xs ns made (λ x h. closed x (inr h)),
)

-- the same once the numbers are put in order
pub some_moved : (d : Declarations) (env : Env) (literals : List Uid) (goal : Tree) (xs : List Node) (ms ns : List ℕ) → ((t : Tree) → Closed d env goal t → IsTermOf d env literals (tree_sort t) t)
    → ((x : Tree) → Has (stood xs ms) x → Closed d env goal x) → IsPermutation ms ns → AllByRecursion (λ n. IsSomeTerm (tree xs n)) ns
some_moved d env literals goal xs ms ns made closed same = some_terms d env literals goal xs ns made (λ x h. closed x (moved_terms xs ns ms x (IsPermutation-sym ms ns same) h))

-- the numbers ms that were met, put in order as ns, the table as it is after what goes with them has come in, and the atoms among these
module _ (d : Declarations) (env : Env) (literals : List Uid) (old met_in xs : List Node) (n : ℕ) (ms ns ls : List ℕ) (spans : List Span) (companions : List ℕ) (ss : List Shelf)
    (met : StandsForClosed d env (tree old n) met_in ms) (same : IsPermutation ms ns) (ordered : IsStrictlySortedBy tree_cmp (stood met_in ns)) (later : Keeps met_in xs) (are : ls ≡ atoms_of xs ns)
    (few : length (atoms_of met_in ms) ≤ most_atoms) (lawful : IsLawful d) (below : n < length old) (is_goal : IsGoal d env literals (tree old n)) (kept : Keeps old xs)
    (once : IsDistinct nat_eq ns) (small : length ns < 10 ^ 18) (listed_companions : AreListed d xs ns spans companions) where
  within : AllByRecursion (λ m. m < length xs) ns
  within = within_later (length met_in) (length xs) later.longer ns (within_moved (length met_in) ms ns same met.within)

  stays : stood xs ns ≡ stood met_in ns
  stays = stood_later met_in xs later ns (within_moved (length met_in) ms ns same met.within)

  in_order : AreClosed d env (tree old n) (stood met_in ns)
  in_order = record {
    ordered = ordered;
    just = λ x. (
      λ h. met.sound x (moved_terms met_in ns ms x (IsPermutation-sym ms ns same) (Has-from_Contains (stood met_in ns) x h)),
      λ h. Contains-from_Has (stood met_in ns) x (moved_terms met_in ms ns x same (met.whole x h)),
    );
  }

  closed_now : AreClosed d env (tree old n) (stood xs ns)
  closed_now = subst (AreClosed d env (tree old n)) (sym stays) in_order

  goal_stays : tree xs n ≡ tree old n
  goal_stays = kept.same n below

  abbrev pub problem : Posed
  problem = problem_of d env literals xs n ns

  atoms_are : stood xs ls ≡ atoms_among (stood xs ns)
  atoms_are = ap (stood xs) are ∙ listed xs ns

  -- no more atoms than before the numbers were put in order, since each of these was there
  met_atom : (m : ℕ) → Has (atoms_of xs ns) m → Has (atoms_of met_in ms) m
  met_atom m h =
      let k = passed (λ n. is_atom (tree xs n)) ns m h in
      let there = moved ns ms m (IsPermutation-sym ms ns same) k.0 in
      let below_met = within_Has (length met_in) ms met.within m there in
      passing (λ n. is_atom (tree met_in n)) ms m there (ap is_atom (sym (later.same m below_met)) ∙ k.1)

  pub few_now : length (atoms_among (stood xs ns)) ≤ most_atoms
  few_now =
      let fewer : length (atoms_of xs ns) ≤ length (atoms_of met_in ms) =
      length-le_from_is_member nat_eq_equiv (atoms_of xs ns) (atoms_of met_in ms) (IsDistinct-filter (λ n. is_atom (tree xs n)) ns once) (λ q h. is_there (atoms_of met_in ms) q (met_atom q (there_is (atoms_of xs ns) q h))) in
      omega (arith, few, fewer, ap length (sym (listed xs ns)), length-map (atoms_of xs ns) (tree xs))

  is_posed : IsPosed problem
  is_posed = record {
    lawful = lawful;
    goal_within = omega (arith, below, kept.longer);
    within = within;
    goal_is = subst (IsGoal d env literals) (sym goal_stays) is_goal;
    are_closed = subst (λ (t : Tree). AreClosed d env t (stood xs ns)) (sym goal_stays) closed_now;
    few = few_now;
    small = small;
  }

  pub is_kept : AreShelves problem ss → IsKept problem ls spans companions ss
  is_kept shelves = record {
    posed = is_posed;
    atoms_within = subst (AllByRecursion (λ m. m < length xs)) (sym are) (AllByRecursion-filter (λ m. is_atom (tree xs m)) (λ m. m < length xs) ns within);
    atoms_are = atoms_are;
    companions_are = listed_companions;
    shelves_are = shelves;
  }
