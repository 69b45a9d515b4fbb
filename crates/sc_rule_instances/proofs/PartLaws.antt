-- What is found on shelves is what is found among all closed terms.
use Rattle.std.proofs.Common.{◌≡◌, ◌<◌, ◌≤◌, ◌+◌, ◌-◌, ◌&&◌, ◌++◌, ℕ, zero, suc, Bool, true, false, cond, inl, inr, List, [], ◌∷◌, map, filter, find, take, drop, length, slice_get, get_or, Option, Some, None, refl, sym, ap, ◌∙◌, subst, arith}
use Rattle.std.proofs.lemmas.Bool.{and_parts}
use Rattle.std.proofs.lemmas.Option.{slice_get-get_or}
use Rattle.sc_lists.proofs.MemberLaws.{Has-from_Contains}
use Rattle.sc_lists.specs.Members.{Has}
use Rattle.sc_laws.proofs.NumberLaws.{suc_isnt_zero}
use Rattle.sc_sorts.specs.declared.sort.Sort.{Sort}
use Rattle.sc_sorts.specs.contracts.sort.SortPartialEq.TheImpl.{ghosts as sorts}
use Rattle.sc_sorts.specs.OrderLaws.{sort_eq_decides}
use Rattle.sc_sorts.specs.declared.node.UnaryOp.TheVariants as unary
use Rattle.sc_terms.specs.Finding.{IsFound}
use Rattle.sc_terms.specs.Order.{tree_eq}
use Rattle.sc_terms.specs.Tables.{tree}
use Rattle.sc_terms.specs.Trees.{Tree, one}
use Rattle.sc_terms.specs.TreeSorts.{tree_sort}
use Rattle.sc_terms.proofs.OrderLaws.{tree_eq-exact, tree_eq-itself}
use Rattle.sc_footprint.specs.declared.kind.Kind.TheVariants as kind
use Rattle.sc_footprint.specs.Problems.{Posed, IsPosed, closed_terms, numbered}
use Rattle.sc_footprint.specs.Shelves.{shelf, is_of_kind, has_key_like, key_of}
use Rattle.sc_rule_laws.specs.Terms.{one_sort, above}
use Rattle.sc_rule_instances.specs.Lookups.{IsClosedFound, IsNumberAmong, is_above}
use Rattle.sc_rule_instances.proofs.LiteralLaws.{not_in_table}

-- ---- the first that passes a test

-- the first of those that pass another test, which all pass that pass this one
pub find_kept : (test keep : Tree → Bool) → ((t : Tree) → test t ≡ true → keep t ≡ true) → (ts : List Tree) → find test (filter keep ts) ≡ find test ts
find_kept test keep within [] = refl
find_kept test keep within (t ∷ ts) = by (keep t) (test t) refl refl (find_kept test keep within ts)
  where
    by : (b c : Bool) → keep t ≡ b → test t ≡ c → find test (filter keep ts) ≡ find test ts → find test (cond b (t ∷ filter keep ts) (filter keep ts)) ≡ cond c (Some t) (find test ts)
    by true c e f rest = rw f (ap (cond c (Some t)) rest)
    by false true e f rest = absurd (let g : true ≡ false = sym (within t f) ∙ e in cc)
    by false false e f rest = rest

-- what is found passes the test, and where nothing is found nothing passes it
pub find_passes : (test : Tree → Bool) (ts : List Tree) (t : Tree) → find test ts ≡ Some t → test t ≡ true
find_passes test [] t = λ e. absurd cc
find_passes test (u ∷ us) t = by (test u) refl (find_passes test us t)
  where
    by : (b : Bool) → test u ≡ b → (find test us ≡ Some t → test t ≡ true) → cond b (Some u) (find test us) ≡ Some t → test t ≡ true
    by true f rest e = let same : u ≡ t = cc in ap test (sym same) ∙ f
    by false f rest e = rest e

pub find_none : (test : Tree → Bool) (ts : List Tree) (t : Tree) → find test ts ≡ None → test t ≡ true → ¬ Has ts t
find_none test [] t e f h = h
find_none test (u ∷ us) t e f h = by (test u) refl (find_none test us t) e h
  where
    by : (b : Bool) → test u ≡ b → (find test us ≡ None → test t ≡ true → ¬ Has us t) → cond b (Some u) (find test us) ≡ None → Has (u ∷ us) t → ⊥
    by true g rest e h = absurd cc
    by false g rest e (inl same) = let k : true ≡ false = sym (ap test same ∙ f) ∙ g in absurd cc
    by false g rest e (inr k) = rest e f k

-- ---- shelves

sort_itself : (e : Tree) → one_sort e e ≡ true
sort_itself e = (sort_eq_decides (tree_sort e) (tree_sort e)).1 refl

same_sort : (e f : Tree) → tree_eq e f ≡ true → one_sort f e ≡ true
same_sort e f h = subst (λ (g : Tree). one_sort g e ≡ true) (tree_eq-exact e f h) (sort_itself e)

above_keyed : (p : Posed) (k : Sort) (e t : Tree) → is_above k e t ≡ true → (is_of_kind (closed_terms p) kind.Ancestors t && has_key_like e (key_of kind.Ancestors t)) ≡ true
above_keyed p k e (one (unary.Ancestors l) f) h = same_sort e f (and_parts (sorts.eq k l) (tree_eq e f) h).1
above_keyed p k e _ h = absurd cc

above_is : (k : Sort) (e t : Tree) → is_above k e t ≡ true → t ≡ above k e
above_is k e (one (unary.Ancestors l) f) h =
    let both = and_parts (sorts.eq k l) (tree_eq e f) h in
    let one_sort : l ≡ k = sym ((sort_eq_decides k l).0 both.0) in
    let one_term : f ≡ e = sym (tree_eq-exact e f both.1) in
    ap (λ (j : Sort). one (unary.Ancestors j) f) one_sort ∙ ap (one (unary.Ancestors k)) one_term
above_is k e _ h = absurd cc

above_itself : (k : Sort) (e : Tree) → is_above k e (above k e) ≡ true
above_itself k e = rw ((sort_eq_decides k k).1 refl, tree_eq-itself e) refl

above_found : (p : Posed) (k : Sort) (e : Tree) (o : Option Tree) (found : Option ℕ) → find (is_above k e) (closed_terms p) ≡ o → IsNumberAmong p.nodes o found → IsClosedFound p (above k e) found
above_found p k e (Some t) (Some n) is h = record { within = h.within; is = h.is ∙ above_is k e t (find_passes (is_above k e) (closed_terms p) t is) }
above_found p k e (Some t) None is h = absurd h
above_found p k e None (Some n) is h = absurd h
above_found p k e None None is h = λ there. find_none (is_above k e) (closed_terms p) (above k e) is (above_itself k e) (Has-from_Contains (closed_terms p) (above k e) there)

pub above_shelved : (p : Posed) (k : Sort) (e : Tree) (ns : List ℕ) (found : Option ℕ) → map (tree p.nodes) ns ≡ shelf p kind.Ancestors e → IsNumberAmong p.nodes (find (is_above k e) (map (tree p.nodes) ns)) found
    → IsClosedFound p (above k e) found
above_shelved p k e ns found are h =
    above_found p k e (find (is_above k e) (closed_terms p)) found refl
    (subst (λ (o : Option Tree). IsNumberAmong p.nodes o found)
    (ap (find (is_above k e)) are ∙ find_kept (is_above k e) (λ t. is_of_kind (closed_terms p) kind.Ancestors t && has_key_like e (key_of kind.Ancestors t)) (above_keyed p k e) (closed_terms p)) h)

-- what isn't in the table isn't closed
pub found_closed : (p : Posed) (t : Tree) (found : Option ℕ) → IsPosed p → IsFound p.nodes t found → IsClosedFound p t found
found_closed p t (Some n) posed h = h
found_closed p t None posed h = λ there. not_in_table p t posed h (Has-from_Contains (closed_terms p) t there)

-- ---- closed terms one after the other

pub number_suc : (ns : List ℕ) (k : ℕ) → numbered ns (suc k) ≡ slice_get ns k
number_suc ns k =
    let back : suc k - 1 ≡ k = omega arith in
    rw (suc_isnt_zero k) (ap (slice_get ns) back)

-- each place has one
pub number_there : (ns : List ℕ) (place : ℕ) → place < length ns → ¬ (numbered ns (place + 1) ≡ None)
number_there ns place h e =
    let next : place + 1 ≡ suc place = omega arith in
    let some : slice_get ns place ≡ Some (get_or ns place 0) = slice_get-get_or ns place 0 h in
    let none : None ≡ Some (get_or ns place 0) = sym e ∙ ap (numbered ns) next ∙ number_suc ns place ∙ some in
    cc

closed_place : (p : Posed) (place n : ℕ) → numbered p.closed (place + 1) ≡ Some n → slice_get p.closed place ≡ Some n
closed_place p place n e = let next : place + 1 ≡ suc place = omega arith in sym (number_suc p.closed place) ∙ ap (numbered p.closed) (sym next) ∙ e

-- one more of the numbers taken
pub number_taken : (ns done : List ℕ) (i n : ℕ) → done ≡ take i ns → numbered ns (i + 1) ≡ Some n → done ++ n ∷ [] ≡ take (i + 1) ns
number_taken ns done i n e h =
    let next : i + 1 ≡ suc i = omega arith in
    ap (λ (ms : List ℕ). ms ++ n ∷ []) e ∙ by ns i (sym (number_suc ns i) ∙ ap (numbered ns) (sym next) ∙ h)
  where
    by : (ms : List ℕ) (j : ℕ) → slice_get ms j ≡ Some n → take j ms ++ n ∷ [] ≡ take (j + 1) ms
    by [] j f = absurd cc
    by (m ∷ ms) zero f = let same : m ≡ n = cc in ap (λ (k : ℕ). k ∷ []) (sym same)
    by (m ∷ ms) (suc j) f = let after : suc j + 1 ≡ suc (j + 1) = omega arith in rw after (ap (λ (ks : List ℕ). m ∷ ks) (by ms j f))

pub drop_at : {X : Type 0} (xs : List X) (i : ℕ) (x : X) → slice_get xs i ≡ Some x → drop i xs ≡ x ∷ drop (i + 1) xs
drop_at [] i x e = absurd cc
drop_at (y ∷ ys) zero x e = let same : y ≡ x = cc in ap (λ z. z ∷ ys) same
drop_at (y ∷ ys) (suc i) x e = let next : suc i + 1 ≡ suc (i + 1) = omega arith in rw next (drop_at ys i x e)

pub drop_end : {X : Type 0} (xs : List X) (i : ℕ) → length xs ≤ i → drop i xs ≡ []
drop_end [] zero h = refl
drop_end [] (suc i) h = refl
drop_end (x ∷ xs) zero h = absurd (omega (arith, h))
drop_end (x ∷ xs) (suc i) h = drop_end xs i (omega (arith, h))

module _ (p : Posed) (test : Tree → Bool) (place n : ℕ) where
  left_at : numbered p.closed (place + 1) ≡ Some n → map (tree p.nodes) (drop place p.closed) ≡ tree p.nodes n ∷ map (tree p.nodes) (drop (place + 1) p.closed)
  left_at e = ap (map (tree p.nodes)) (drop_at p.closed place n (closed_place p place n e))

  pub found_here : find test (closed_terms p) ≡ find test (map (tree p.nodes) (drop place p.closed)) → numbered p.closed (place + 1) ≡ Some n → test (tree p.nodes n) ≡ true → find test (closed_terms p) ≡ Some (tree p.nodes n)
  found_here so_far e h =
      so_far ∙ ap (find test) (left_at e) ∙ ap (λ (b : Bool). cond b (Some (tree p.nodes n)) (find test (map (tree p.nodes) (drop (place + 1) p.closed)))) h

  pub found_later : find test (closed_terms p) ≡ find test (map (tree p.nodes) (drop place p.closed)) → numbered p.closed (place + 1) ≡ Some n → test (tree p.nodes n) ≡ false
      → find test (closed_terms p) ≡ find test (map (tree p.nodes) (drop (place + 1) p.closed))
  found_later so_far e h =
      so_far ∙ ap (find test) (left_at e) ∙ ap (λ (b : Bool). cond b (Some (tree p.nodes n)) (find test (map (tree p.nodes) (drop (place + 1) p.closed)))) h

pub found_nowhere : (p : Posed) (test : Tree → Bool) (place : ℕ) → find test (closed_terms p) ≡ find test (map (tree p.nodes) (drop place p.closed)) → length p.closed ≤ place → find test (closed_terms p) ≡ None
found_nowhere p test place so_far h = so_far ∙ ap (λ (ns : List ℕ). find test (map (tree p.nodes) ns)) (drop_end p.closed place h)
