-- What leads to what in a finite graph can be tested.
use Rattle.std.proofs.Common.{◌≡◌, ◌⊎◌, List, [], ◌∷◌, Bool, true, ◌&&◌, ◌||◌, Contains, inl, inr, sym, subst}
use Rattle.sc_laws.proofs.BoolLaws.{and_first, and_second}
use Rattle.sc_lists.proofs.ListLaws.{contains_nothing, contains_split}
use Rattle.std.specs.Bool.{Decides}
use Rattle.std.proofs.lemmas.Bool.{or_cases, or_left, or_right, and_from}

-- from a key one gets to those that it names, and to those that one gets to from these
pub data Leads {K : Type 0} (graph : K → List K) : K → K → Type 0 where
  next : (a b : K) → Contains (graph a) b → Leads graph a b
  onwards : (a m b : K) → Contains (graph a) m → Leads graph m b → Leads graph a b

pub leads_on : {K : Type 0} {graph : K → List K} {a b : K} (c : K) → Leads graph a b → Leads graph b c → Leads graph a c
leads_on c (next a b h) k = onwards a b c h k
leads_on c (onwards a m b h r) k = onwards a m c h (leads_on c r k)

module _ {K : Type 0} (graph : K → List K) (names : K → K → Bool) (named : (a b : K) → Decides (names a b) (Contains (graph a) b)) where
  -- whether one gets from a to b by way of these keys alone
  pub goes : List K → K → K → Bool
  goes [] a b = names a b
  goes (v ∷ vs) a b = goes vs a b || (goes vs a v && goes vs v b)

  by_way : (v : K) (vs : List K) (a b : K) → goes vs a v ≡ true → goes vs v b ≡ true → goes (v ∷ vs) a b ≡ true
  unfolding goes
  by_way v vs a b h k = or_right (goes vs a b) (goes vs a v && goes vs v b) (and_from (goes vs a v) (goes vs v b) h k)

  as_before : (v : K) (vs : List K) (a b : K) → goes vs a b ≡ true → goes (v ∷ vs) a b ≡ true
  unfolding goes
  as_before v vs a b h = or_left (goes vs a b) (goes vs a v && goes vs v b) h

  ways : (v : K) (vs : List K) (a b : K) → goes (v ∷ vs) a b ≡ true → (goes vs a b ≡ true) ⊎ ((goes vs a v ≡ true) × (goes vs v b ≡ true))
  unfolding goes
  ways v vs a b h = elim (or_cases (goes vs a b) (goes vs a v && goes vs v b) h) [
    | inl here ↦ inl here
    | inr both ↦ inr (and_first (goes vs a v) (goes vs v b) both, and_second (goes vs a v) (goes vs v b) both)
  ]

  sound : (vs : List K) (a b : K) → goes vs a b ≡ true → Leads graph a b
  unfolding goes
  sound [] a b h = next a b ((named a b).0 h)
  sound (v ∷ vs) a b h = elim (ways v vs a b h) [
    | inl here ↦ sound vs a b here
    | inr both ↦ leads_on b (sound vs a v both.0) (sound vs v b both.1)
  ]

  directly : (vs : List K) (a b : K) → Contains (graph a) b → goes vs a b ≡ true
  unfolding goes
  directly [] a b has = (named a b).1 has
  directly (v ∷ vs) a b has = as_before v vs a b (directly vs a b has)

  -- the first key is on the way, or another one is
  first_way : (v : K) (vs : List K) (a b : K) → goes (v ∷ vs) a v ≡ true → goes (v ∷ vs) v b ≡ true → goes (v ∷ vs) a b ≡ true
  first_way v vs a b h k = by_way v vs a b (to (ways v vs a v h)) (from (ways v vs v b k)) where
    to : (goes vs a v ≡ true) ⊎ ((goes vs a v ≡ true) × (goes vs v v ≡ true)) → goes vs a v ≡ true
    to (inl here) = here
    to (inr both) = both.0

    from : (goes vs v b ≡ true) ⊎ ((goes vs v v ≡ true) × (goes vs v b ≡ true)) → goes vs v b ≡ true
    from (inl here) = here
    from (inr both) = both.1

  other_way : (v : K) (vs : List K) (a w b : K) → ((c d : K) → goes vs c w ≡ true → goes vs w d ≡ true → goes vs c d ≡ true)
      → goes (v ∷ vs) a w ≡ true → goes (v ∷ vs) w b ≡ true → goes (v ∷ vs) a b ≡ true
  other_way v vs a w b through h k = at (ways v vs a w h) (ways v vs w b k) where
    at : (goes vs a w ≡ true) ⊎ ((goes vs a v ≡ true) × (goes vs v w ≡ true)) → (goes vs w b ≡ true) ⊎ ((goes vs w v ≡ true) × (goes vs v b ≡ true)) → goes (v ∷ vs) a b ≡ true
    at (inl p) (inl q) = as_before v vs a b (through a b p q)
    at (inl p) (inr q) = by_way v vs a b (through a v p q.0) q.1
    at (inr p) (inl q) = by_way v vs a b p.0 (through v b p.1 q)
    at (inr p) (inr q) = by_way v vs a b p.0 q.1

  by_ways : (vs : List K) (a w b : K) → Contains vs w → goes vs a w ≡ true → goes vs w b ≡ true → goes vs a b ≡ true
  by_ways [] a w b has h k = absurd (contains_nothing w has)
  by_ways (v ∷ vs) a w b has h k = elim (contains_split v vs w has) [
    | inl same ↦ first_way v vs a b (subst (λ (u : K). goes (v ∷ vs) a u ≡ true) (sym same) h) (subst (λ (u : K). goes (v ∷ vs) u b ≡ true) (sym same) k)
    | inr later ↦ other_way v vs a w b (λ c d p q. by_ways vs c w d later p q) h k
  ]

  module _ (keys : List K) (keyed : (a b : K) → Contains (graph a) b → Contains keys a) where
    begins : {a b : K} → Leads graph a b → Contains keys a
    begins (next a b h) = keyed a b h
    begins (onwards a m b h r) = keyed a m h

    complete : {a b : K} → Leads graph a b → goes keys a b ≡ true
    complete (next a b h) = directly keys a b h
    complete (onwards a m b h r) = by_ways keys a m b (begins r) (directly keys a m h) (complete r)

    pub leads_decided : (a b : K) → Decides (goes keys a b) (Leads graph a b)
    leads_decided a b = (sound keys a b, complete)
