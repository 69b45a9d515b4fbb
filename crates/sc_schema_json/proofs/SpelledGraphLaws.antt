-- In a finite graph: what is led to, in ascending order, and the least key that leads to itself.
use Rattle.std.proofs.Common.{◌≡◌, ◌≢◌, ◌⊎◌, ◌↔◌, List, [], ◌∷◌, map, Bool, true, false, ◌||◌, cond, Contains, inl, inr, refl, sym, ap, subst, ◌∙◌}
use Rattle.std.specs.Bool.{Decides}
use Rattle.std.specs.Cmp.{IsTotalOrder}
use Rattle.std.specs.List.{filter, flat_map, list_any}
use Rattle.std.specs.List.Sorted.{IsStrictlySortedBy}
use Rattle.std.specs.Ordering.{ordering_reverse}
use Rattle.std.specs.declared.cmp.Ordering.{Ordering}
use Rattle.std.specs.declared.cmp.Ordering.TheVariants.{Less, Equal, Greater}
use Rattle.std.proofs.lemmas.Bool.{or_right}
use Rattle.sc_lists.proofs.ListLaws.{contains_nothing, contains_split, contains_rest, contains_first, contains_joined}
use Rattle.sc_schema_json.proofs.LeadingLaws.{Leads, next, onwards, goes, leads_decided}
use Rattle.sc_schema_json.proofs.AscendingLaws.{Ascends, ascending_of, below_rest}

-- ---- elements of lists

module _ {X : Type 0} (p : X → Bool) where
  pub contains_kept : (xs : List X) (x : X) → Contains xs x → p x ≡ true → Contains (filter p xs) x
  contains_kept [] x has passes = absurd (contains_nothing x has)
  contains_kept (y ∷ ys) x has passes = at (p y) refl (contains_split y ys x has) (λ later. contains_kept ys x later passes) where
    at : (b : Bool) → p y ≡ b → (y ≡ x) ⊎ Contains ys x → (Contains ys x → Contains (filter p ys) x) → Contains (cond b (y ∷ filter p ys) (filter p ys)) x
    at true e (inl same) rest = subst (λ (z : X). Contains (y ∷ filter p ys) z) same (contains_first y (filter p ys))
    at true e (inr later) rest = contains_rest y (filter p ys) x (rest later)
    at false e (inl same) rest = absurd (let no : true ≡ false = sym passes ∙ ap p (sym same) ∙ e in cc)
    at false e (inr later) rest = rest later

  pub kept_passes : (xs : List X) (x : X) → Contains (filter p xs) x → Contains xs x × (p x ≡ true)
  kept_passes [] x has = absurd (contains_nothing x has)
  kept_passes (y ∷ ys) x has = at (p y) refl has (kept_passes ys x) where
    first : p y ≡ true → (y ≡ x) ⊎ Contains (filter p ys) x → (Contains (filter p ys) x → Contains ys x × (p x ≡ true)) → Contains (y ∷ ys) x × (p x ≡ true)
    first e (inl same) rest = (subst (λ (z : X). Contains (y ∷ ys) z) same (contains_first y ys), ap p (sym same) ∙ e)
    first e (inr later) rest = (contains_rest y ys x (rest later).0, (rest later).1)

    at : (b : Bool) → p y ≡ b → Contains (cond b (y ∷ filter p ys) (filter p ys)) x → (Contains (filter p ys) x → Contains ys x × (p x ≡ true)) → Contains (y ∷ ys) x × (p x ≡ true)
    at true e there rest = first e (contains_split y (filter p ys) x there) rest
    at false e there rest = (contains_rest y ys x (rest there).0, (rest there).1)

-- a test of elements tests whether one is on a list
pub any_decided : {X : Type 0} (eq : X → X → Bool) (decides : (a b : X) → Decides (eq a b) (a ≡ b)) (xs : List X) (x : X) → Decides (list_any (eq x) xs) (Contains xs x)
any_decided {X} eq decides xs x = (sound xs, complete xs) where
  sound : (ys : List X) → list_any (eq x) ys ≡ true → Contains ys x
  sound [] h = absurd (let no : false ≡ true = h in cc)
  sound (y ∷ ys) h = at (eq x y) refl h (sound ys) where
    at : (b : Bool) → eq x y ≡ b → (b || list_any (eq x) ys) ≡ true → (list_any (eq x) ys ≡ true → Contains ys x) → Contains (y ∷ ys) x
    at true same h rest = subst (λ (z : X). Contains (y ∷ ys) z) (sym ((decides x y).0 same)) (contains_first y ys)
    at false other h rest = contains_rest y ys x (rest h)

  complete : (ys : List X) → Contains ys x → list_any (eq x) ys ≡ true
  complete [] has = absurd (contains_nothing x has)
  complete (y ∷ ys) has = at (contains_split y ys x has) (complete ys) where
    at : (y ≡ x) ⊎ Contains ys x → (Contains ys x → list_any (eq x) ys ≡ true) → (eq x y || list_any (eq x) ys) ≡ true
    at (inl same) rest = ap (λ b. b || list_any (eq x) ys) ((decides x y).1 (sym same))
    at (inr later) rest = or_right (eq x y) (list_any (eq x) ys) (rest later)

-- ---- graphs with the test of what leads to what

module _ {K : Type 0} {R : K → K → Ordering} (o : IsTotalOrder R) (level : (x y : K) → R x y ≡ Equal → x ≡ y)
    (graph : K → List K) (names : K → K → Bool) (named : (a b : K) → Decides (names a b) (Contains (graph a) b))
    (keys : List K) (keyed : (a b : K) → Contains (graph a) b → Contains keys a) where
  abbrev test : K → K → Bool
  test = goes graph names named keys

  tested : (a b : K) → Decides (test a b) (Leads graph a b)
  tested = leads_decided graph names named keys keyed

  ends : {a b : K} → Leads graph a b → Contains (flat_map graph keys) b
  ends (next a b h) = contains_joined graph keys a b (keyed a b h) h
  ends (onwards a m b h r) = ends r

  in_order_of : (xs : List K) → Ascends R (λ k. k) (Contains xs)
  in_order_of xs = ascending_of o (λ k. k) xs (λ x y has had tied. level x y tied)

  -- ---- what a key leads to

  pub led_to : (a : K) → Ascends R (λ k. k) (Leads graph a)
  led_to a = of (in_order_of (filter (test a) (flat_map graph keys))) where
    of : Ascends R (λ k. k) (Contains (filter (test a) (flat_map graph keys))) → Ascends R (λ k. k) (Leads graph a)
    of all =
        record {
          list = all.list;
          ascending = all.ascending;
          members = λ b. (
            λ has. (tested a b).0 (kept_passes (test a) (flat_map graph keys) b ((all.members b).0 has)).1,
            λ is. (all.members b).1 (contains_kept (test a) (flat_map graph keys) b (ends is) ((tested a b).1 is)),
          );
        }

  -- ---- the least key that leads to itself

  pub record IsLeastRound (k : K) : Type 0 where
    pub round : Leads graph k k
    pub least : (other : K) → Leads graph other other → R other k ≢ Less

  abbrev NoRound : Type 0
  NoRound = (k : K) → Leads graph k k → ⊥

  abbrev rounds : List K
  rounds = filter (λ k. test k k) keys

  starts : {a b : K} → Leads graph a b → Contains keys a
  starts (next a b h) = keyed a b h
  starts (onwards a m b h r) = keyed a m h

  among_rounds : (k : K) → Leads graph k k → Contains rounds k
  among_rounds k is = contains_kept (λ x. test x x) keys k (starts is) ((tested k k).1 is)

  not_both_less : (x y : K) → R x y ≡ Less → R y x ≡ Less → ⊥
  not_both_less x y h k = absurd (let turned : Less ≡ Greater = sym h ∙ o.antisymm x y ∙ ap ordering_reverse k in cc)

  pub round_or_none : ((k : K) × IsLeastRound k) ⊎ NoRound
  round_or_none = of (in_order_of rounds) where
    by : (list : List K) → IsStrictlySortedBy R (map (λ (k : K). k) list) → ((k : K) → Contains list k ↔ Contains rounds k) → ((k : K) × IsLeastRound k) ⊎ NoRound
    by [] ascending members = inr (λ k is. contains_nothing k ((members k).1 (among_rounds k is)))
    by (x ∷ xs) ascending members =
        inl (
          x,
          record {
            round = (tested x x).0 (kept_passes (λ k. test k k) keys x ((members x).0 (contains_first x xs))).1;
            least = λ other is less. elim (contains_split x xs other ((members other).1 (among_rounds other is))) [
              | inl same ↦ not_both_less x x (subst (λ (z : K). R z x ≡ Less) (sym same) less) (subst (λ (z : K). R z x ≡ Less) (sym same) less)
              | inr later ↦ not_both_less x other (below_rest o (λ k. k) x xs other ascending later) less
            ];
          },
        )

    of : Ascends R (λ k. k) (Contains rounds) → ((k : K) × IsLeastRound k) ⊎ NoRound
    of all = by all.list all.ascending all.members
