-- Keys none of which reaches itself have an order; or one is the least that does.
use Rattle.std.proofs.Common.{◌≡◌, ◌≢◌, ◌⊎◌, ◌<◌, ◌↔◌, ◌||◌, ◌&&◌, ℕ, zero, suc, List, [], ◌∷◌, Bool, true, false, cond, Some, refl, sym, ap, subst, ◌∙◌, inl, inr, arith, Contains}
use Rattle.std.proofs.Math.Nat.{eq-or-lt_of_le}
use Rattle.std.proofs.lemmas.Bool.{cases_lt, or_cases, or_left, or_right, and_parts, and_from}
use Rattle.std.proofs.lemmas.Cmp.{tied_itself}
use Rattle.std.specs.Bool.{⊤}
use Rattle.std.specs.Cmp.{IsTotalOrder}
use Rattle.std.specs.List.{AllByRecursion, slice_get}
use Rattle.std.specs.declared.cmp.Ordering.{Ordering}
use Rattle.std.specs.declared.cmp.Ordering.TheVariants.{Less, Equal, Greater}
use Rattle.sc_lists.proofs.ListLaws.{contains_nothing, contains_split, contains_first, contains_rest, contains_place, all_element}
use Rattle.sc_laws.proofs.OptionLaws.{same_some}
use Rattle.sc_lists.proofs.OrderingLaws.{less≢equal}
use Rattle.sc_graphs.specs.Reaching.{Reaches, step, on, IsLeastCycle}
use Rattle.sc_graphs.proofs.ReachesLaws.{further}

-- ---- what leads to what, as a test

module _ {K : Type 0} (test : K → K → Bool) where
  -- by a path through these keys alone
  abbrev pub goes : List K → K → K → Bool
  goes [] a b = test a b
  goes (v ∷ vs) a b = goes vs a b || (goes vs a v && goes vs v b)

  goes_round : (v : K) (vs : List K) (a b : K) → goes vs a v ≡ true → goes vs v b ≡ true → goes (v ∷ vs) a b ≡ true
  goes_round v vs a b p q = or_right (goes vs a b) _ (and_from (goes vs a v) (goes vs v b) p q)

  goes_to : (v : K) (vs : List K) (a : K) → goes (v ∷ vs) a v ≡ true → goes vs a v ≡ true
  goes_to v vs a h = elim (or_cases (goes vs a v) _ h) [ inl at ↦ at | inr through ↦ (and_parts (goes vs a v) (goes vs v v) through).0 ]

  goes_from : (v : K) (vs : List K) (b : K) → goes (v ∷ vs) v b ≡ true → goes vs v b ≡ true
  goes_from v vs b h = elim (or_cases (goes vs v b) _ h) [ inl at ↦ at | inr through ↦ (and_parts (goes vs v v) (goes vs v b) through).1 ]

  goes_at_once : (vs : List K) (a b : K) → test a b ≡ true → goes vs a b ≡ true
  goes_at_once [] a b h = h
  goes_at_once (v ∷ vs) a b h = or_left (goes vs a b) _ (goes_at_once vs a b h)

  goes_on : (vs : List K) (a m b : K) → Contains vs m → goes vs a m ≡ true → goes vs m b ≡ true → goes vs a b ≡ true
  unfolding goes_round goes_to goes_from
  goes_on [] a m b has p q = absurd (contains_nothing m has)
  goes_on (v ∷ vs) a m b has p q = pick (contains_split v vs m has) (or_cases (goes vs a m) _ p) (or_cases (goes vs m b) _ q) (goes_on vs) where
    pick : (v ≡ m) ⊎ Contains vs m → (goes vs a m ≡ true) ⊎ ((goes vs a v && goes vs v m) ≡ true) → (goes vs m b ≡ true) ⊎ ((goes vs m v && goes vs v b) ≡ true)
        → ((x y z : K) → Contains vs y → goes vs x y ≡ true → goes vs y z ≡ true → goes vs x z ≡ true) → goes (v ∷ vs) a b ≡ true
    pick (inl same) there back along =
        goes_round v vs a b (goes_to v vs a (subst (λ (x : K). goes (v ∷ vs) a x ≡ true) (sym same) p)) (goes_from v vs b (subst (λ (x : K). goes (v ∷ vs) x b ≡ true) (sym same) q))
    pick (inr in_rest) (inl there) (inl back) along = or_left (goes vs a b) _ (along a m b in_rest there back)
    pick (inr in_rest) (inl there) (inr back) along =
        let h = and_parts (goes vs m v) (goes vs v b) back in
        goes_round v vs a b (along a m v in_rest there h.0) h.1
    pick (inr in_rest) (inr there) (inl back) along =
        let h = and_parts (goes vs a v) (goes vs v m) there in
        goes_round v vs a b h.0 (along v m b in_rest h.1 back)
    pick (inr in_rest) (inr there) (inr back) along = goes_round v vs a b (and_parts (goes vs a v) (goes vs v m) there).0 (and_parts (goes vs m v) (goes vs v b) back).1

  module _ {follows : K → K → Type 0} (decides : (a b : K) → (test a b ≡ true) ↔ follows a b) where
    goes_reaches : (vs : List K) (a b : K) → goes vs a b ≡ true → Reaches follows a b
    goes_reaches [] a b h = step a b ((decides a b).0 h)
    goes_reaches (v ∷ vs) a b h = elim (or_cases (goes vs a b) _ h) [
      | inl at ↦ goes_reaches vs a b at
      | inr through ↦ (let p = and_parts (goes vs a v) (goes vs v b) through in further (goes_reaches vs a v p.0) (goes_reaches vs v b p.1))
    ]

    module _ (keys : List K) (known : (a b : K) → follows a b → Contains keys a) where
      leads : {a b : K} → Reaches follows a b → Contains keys a
      leads (step a b h) = known a b h
      leads (on a m b h r) = known a m h

      reaches_goes : {a b : K} → Reaches follows a b → goes keys a b ≡ true
      unfolding goes_on goes_at_once leads
      reaches_goes (step a b h) = goes_at_once keys a b ((decides a b).1 h)
      reaches_goes (on a m b h r) = goes_on keys a m b (leads r) (goes_at_once keys a m ((decides a m).1 h)) (reaches_goes r)

-- ---- an order

-- each key stands in the order, behind all that follow it
pub record IsArranged {K : Type 0} (follows : K → K → Type 0) (keys order : List K) : Type 0 where
  pub all : (k : K) → Contains keys k → Contains order k
  pub back : (i j : ℕ) (a b : K) → slice_get order i ≡ Some a → slice_get order j ≡ Some b → follows a b → j < i

module _ {K : Type 0} (reach : K → K → Bool) where
  -- none reaches a later one
  abbrev pub NoneAhead : List K → Type 0
  NoneAhead [] = ⊤
  NoneAhead (x ∷ xs) = AllByRecursion (λ (y : K). reach x y ≡ false) xs × NoneAhead xs

  -- put before the first that reaches it
  abbrev pub put : K → List K → List K
  put x [] = x ∷ []
  put x (y ∷ ys) = cond (reach y x) (x ∷ (y ∷ ys)) (y ∷ put x ys)

  abbrev pub arranged : List K → List K
  arranged [] = []
  arranged (x ∷ xs) = put x (arranged xs)

  all_put : (P : K → Type 0) (x : K) (ys : List K) → P x → AllByRecursion P ys → AllByRecursion P (put x ys)
  all_put P x [] p h = (p, tt)
  all_put P x (y ∷ ys) p h = look (reach y x) (all_put P x ys p h.1) where
    look : (b : Bool) → AllByRecursion P (put x ys) → AllByRecursion P (cond b (x ∷ (y ∷ ys)) (y ∷ put x ys))
    look true later = (p, h)
    look false later = (h.0, later)

  put_itself : (x : K) (ys : List K) → Contains (put x ys) x
  put_itself x [] = contains_first x []
  put_itself x (y ∷ ys) = look (reach y x) (put_itself x ys) where
    look : (b : Bool) → Contains (put x ys) x → Contains (cond b (x ∷ (y ∷ ys)) (y ∷ put x ys)) x
    look true later = contains_first x (y ∷ ys)
    look false later = contains_rest y (put x ys) x later

  put_other : (x : K) (ys : List K) (z : K) → Contains ys z → Contains (put x ys) z
  put_other x [] z has = absurd (contains_nothing z has)
  put_other x (y ∷ ys) z has = look (reach y x) (contains_split y ys z has) (put_other x ys z) where
    look : (b : Bool) → (y ≡ z) ⊎ Contains ys z → (Contains ys z → Contains (put x ys) z) → Contains (cond b (x ∷ (y ∷ ys)) (y ∷ put x ys)) z
    look true at later = contains_rest x (y ∷ ys) z has
    look false (inl same) later = subst (λ (w : K). Contains (y ∷ put x ys) w) same (contains_first y (put x ys))
    look false (inr more) later = contains_rest y (put x ys) z (later more)

  all_arranged : (ks : List K) (k : K) → Contains ks k → Contains (arranged ks) k
  unfolding put_itself put_other
  all_arranged [] k has = has
  all_arranged (x ∷ xs) k has = elim (contains_split x xs k has) [
    | inl same ↦ subst (λ (w : K). Contains (put x (arranged xs)) w) same (put_itself x (arranged xs))
    | inr more ↦ put_other x (arranged xs) k (all_arranged xs k more)
  ]

  ahead_at : (xs : List K) (i j : ℕ) (a b : K) → NoneAhead xs → i < j → slice_get xs i ≡ Some a → slice_get xs j ≡ Some b → reach a b ≡ false
  ahead_at [] i j a b h less p q = absurd cc
  ahead_at (x ∷ xs) i zero a b h less p q = absurd (omega (arith, less))
  ahead_at (x ∷ xs) zero (suc j) a b h less p q = subst (λ (y : K). reach y b ≡ false) (same_some p) (all_element (λ (y : K). reach x y ≡ false) xs b h.0 (contains_place xs j b q))
  ahead_at (x ∷ xs) (suc i) (suc j) a b h less p q = ahead_at xs i j a b h.1 (omega (arith, less)) p q

  module _ (along : (a b c : K) → reach a b ≡ true → reach b c ≡ true → reach a c ≡ true) (never : (a : K) → reach a a ≡ true → ⊥) where
    is_false : (b : Bool) → (b ≡ true → ⊥) → b ≡ false
    is_false true h = absurd (h refl)
    is_false false h = refl

    put_before : (x y : K) (ys : List K) → reach y x ≡ true → AllByRecursion (λ (z : K). reach y z ≡ false) ys → AllByRecursion (λ (z : K). reach x z ≡ false) ys
    unfolding is_false
    put_before x y [] h none = tt
    put_before x y (z ∷ zs) h none = (is_false (reach x z) (λ on_to. (let no : true ≡ false = sym (along y x z h on_to) ∙ none.0 in absurd cc)), put_before x y zs h none.1)

    put_ahead : (x : K) (ys : List K) → NoneAhead ys → NoneAhead (put x ys)
    unfolding is_false put_before all_put
    put_ahead x [] h = (tt, tt)
    put_ahead x (y ∷ ys) h = look (reach y x) refl (put_ahead x ys h.1) where
      look : (b : Bool) → reach y x ≡ b → NoneAhead (put x ys) → NoneAhead (cond b (x ∷ (y ∷ ys)) (y ∷ put x ys))
      look true is later = ((is_false (reach x y) (λ to. never x (along x y x to is)), put_before x y ys is h.0), h)
      look false is later = (all_put (λ (z : K). reach y z ≡ false) x ys is h.0, later)

    arranged_ahead : (ks : List K) → NoneAhead (arranged ks)
    unfolding put_ahead
    arranged_ahead [] = tt
    arranged_ahead (x ∷ xs) = put_ahead x (arranged xs) (arranged_ahead xs)

    pub arranged_is : {follows : K → K → Type 0} → ((a b : K) → follows a b → reach a b ≡ true) → (keys : List K) → IsArranged follows keys (arranged keys)
    unfolding all_arranged ahead_at arranged_ahead
    arranged_is {follows} reaches keys = record {
      all = all_arranged keys;
      back = λ i j a b p q h. elim (cases_lt j i) [ inl less ↦ less | inr more ↦ absurd (late i j a b p q (reaches a b h) (eq-or-lt_of_le more)) ];
    } where
      late : (i j : ℕ) (a b : K) → slice_get (arranged keys) i ≡ Some a → slice_get (arranged keys) j ≡ Some b → reach a b ≡ true → (i ≡ j) ⊎ (i < j) → ⊥
      late i j a b p q r (inl same) = never a (subst (λ (y : K). reach a y ≡ true) (same_some (sym q ∙ (ap (slice_get (arranged keys)) (sym same) ∙ p))) r)
      late i j a b p q r (inr less) = (let no : true ≡ false = sym r ∙ ahead_at (arranged keys) i j a b (arranged_ahead keys) less p q in absurd cc)

-- ---- the least of some keys

module _ {K : Type 0} {R : K → K → Ordering} (o : IsTotalOrder R) (test : K → Bool) where
  -- none of the keys passes, or one is the least that does
  pub data HasLeast (ks : List K) : Type 0 where
    nothing : ((k : K) → Contains ks k → test k ≡ true → ⊥) → HasLeast ks
    least_is : (k : K) → test k ≡ true → ((other : K) → Contains ks other → test other ≡ true → R other k ≢ Less) → HasLeast ks

  itself : (k : K) → R k k ≢ Less
  itself k h = less≢equal (sym h ∙ tied_itself o k)

  pub least_of : (ks : List K) → HasLeast ks
  unfolding itself
  least_of [] = nothing (λ k has. absurd (contains_nothing k has))
  least_of (x ∷ xs) = look (test x) refl (least_of xs) where
    other_is : (k : K) → R x k ≢ Less → ((other : K) → Contains xs other → test other ≡ true → R other k ≢ Less) → (other : K) → Contains (x ∷ xs) other → test other ≡ true → R other k ≢ Less
    other_is k apart least other has passes less = elim (contains_split x xs other has) [
      | inl same ↦ apart (subst (λ (y : K). R y k ≡ Less) (sym same) less)
      | inr more ↦ least other more passes less
    ]

    below : (k : K) → test x ≡ true → test k ≡ true → ((other : K) → Contains xs other → test other ≡ true → R other k ≢ Less) → (r : Ordering) → R x k ≡ r → HasLeast (x ∷ xs)
    below k here there least Less is = least_is x here (other_is x (itself x) (λ other has passes less. least other has passes (o.trans other x k less is)))
    below k here there least Equal is = least_is k there (other_is k (λ less. less≢equal (sym less ∙ is)) least)
    below k here there least Greater is = least_is k there (other_is k (λ less. (let no : Less ≡ Greater = sym less ∙ is in cc)) least)

    look : (b : Bool) → test x ≡ b → HasLeast xs → HasLeast (x ∷ xs)
    look true here (nothing no_other) = least_is x here (other_is x (itself x) (λ other has passes less. no_other other has passes))
    look true here (least_is k there least) = below k here there least (R x k) refl
    look false here (nothing no_other) = nothing (λ k has passes. elim (contains_split x xs k has) [
      | inl same ↦ (let no : true ≡ false = sym passes ∙ (ap test (sym same) ∙ here) in cc)
      | inr more ↦ no_other k more passes
    ])
    look false here (least_is k there least) = least_is k there (λ other has passes less. elim (contains_split x xs other has) [
      | inl same ↦ (let no : true ≡ false = sym passes ∙ (ap test (sym same) ∙ here) in cc)
      | inr more ↦ least other more passes less
    ])

-- ---- an order, or the least that reaches itself

module _ {K : Type 0} {R : K → K → Ordering} (o : IsTotalOrder R) (test : K → K → Bool) {follows : K → K → Type 0} (decides : (a b : K) → (test a b ≡ true) ↔ follows a b)
    (keys : List K) (known : (a b : K) → follows a b → Contains keys a) where
  pub ordered_or_cyclic : ((order : List K) × IsArranged follows keys order) ⊎ ((k : K) × IsLeastCycle R follows k)
  ordered_or_cyclic = told (least_of o (λ (k : K). goes test keys k k) keys) where
    arrange : ((k : K) → Contains keys k → goes test keys k k ≡ true → ⊥) → IsArranged follows keys (arranged (goes test keys) keys)
    arrange none = arranged_is (goes test keys) (λ a b c p q. reaches_goes test decides keys known (further (goes_reaches test decides keys a b p) (goes_reaches test decides keys b c q)))
        (λ a h. none a (leads test decides keys known (goes_reaches test decides keys a a h)) h) (λ a b h. reaches_goes test decides keys known (step a b h)) keys

    told : HasLeast o (λ (k : K). goes test keys k k) keys → ((order : List K) × IsArranged follows keys order) ⊎ ((k : K) × IsLeastCycle R follows k)
    told (nothing no_one) = inl (arranged (goes test keys) keys, arrange no_one)
    told (least_is k here least) = inr (
      k,
      record {
        cycle = goes_reaches test decides keys k k here;
        least = λ other r less. least other (leads test decides keys known r) (reaches_goes test decides keys known r) less;
      },
    )
