-- What is reached by places is reached by keys.
use Rattle.std.proofs.Common.{◌≡◌, ◌⊎◌, ◌<◌, ℕ, List, Some, get_or, refl, sym, ap, subst, ◌∙◌, inl, inr, Contains}
use Rattle.std.proofs.Math.Nat.{eq-or-lt_of_le}
use Rattle.std.proofs.lemmas.Bool.{cases_lt}
use Rattle.std.proofs.lemmas.Cmp.{tied_itself}
use Rattle.std.proofs.lemmas.Map.Keys.{Less-from_sorted}
use Rattle.std.proofs.lemmas.Map.Lookups.{CmpEqualImpliesEq}
use Rattle.std.proofs.lemmas.Option.{slice_get_within, get_or_from_slice_get, slice_get-get_or}
use Rattle.std.specs.Cmp.{IsTotalOrder}
use Rattle.std.specs.List.{slice_get}
use Rattle.std.specs.List.Sorted.{IsStrictlySortedBy}
use Rattle.std.specs.Ordering.{nat_cmp, ordering_reverse}
use Rattle.std.specs.declared.cmp.Ordering.{Ordering}
use Rattle.std.specs.declared.cmp.Ordering.TheVariants.{Less, Equal, Greater}
use Rattle.sc_laws.proofs.OptionLaws.{same_some}
use Rattle.sc_lists.proofs.OrderingLaws.{less≢equal}
use Rattle.sc_graphs.specs.Reaching.{Reaches, step, on, NoCycle, IsLeastCycle}
use Rattle.sc_graphs.specs.Graphs.{Follows}
use Rattle.sc_graphs.specs.Keys.{IsOfKeys}
use Rattle.sc_graphs.proofs.PlacesLaws.{places_less}

-- ---- keys at places

pub place_of : {K : Type 0} (keys : List K) (k : K) → Contains keys k → (i : ℕ) × (slice_get keys i ≡ Some k)
place_of keys k has = (has.0, slice_get-get_or keys has.0 k has.1 ∙ ap Some has.2)

-- keys ascend as their places do
module _ {K : Type 0} (R : K → K → Ordering) (keys : List K) (sorted : IsStrictlySortedBy R keys) where
  pub keys_ascend : (i j : ℕ) (a b : K) → slice_get keys i ≡ Some a → slice_get keys j ≡ Some b → i < j → R a b ≡ Less
  keys_ascend i j a b p q less =
      let below : R (get_or keys i a) (get_or keys j a) ≡ Less = Less-from_sorted R keys i j a sorted less (slice_get_within keys j b q) in
      subst (λ (y : K). R a y ≡ Less) (get_or_from_slice_get keys j b a q) (subst (λ (x : K). R x (get_or keys j a) ≡ Less) (get_or_from_slice_get keys i a a p) below)

  module _ (o : IsTotalOrder R) where
    never_below : (k : K) → R k k ≡ Less → ⊥
    never_below k h = less≢equal (sym h ∙ tied_itself o k)

    -- two places of one key are one
    pub one_place : (i j : ℕ) (k : K) → slice_get keys i ≡ Some k → slice_get keys j ≡ Some k → i ≡ j
    unfolding never_below
    one_place i j k p q = elim (cases_lt i j) [
      | inl less ↦ absurd (never_below k (keys_ascend i j k k p q less))
      | inr more ↦ same (eq-or-lt_of_le more)
    ] where
      same : (j ≡ i) ⊎ (j < i) → i ≡ j
      same (inl is) = sym is
      same (inr less) = absurd (never_below k (keys_ascend j i k k q p less))

    pub place_below : (i j : ℕ) (a b : K) → slice_get keys i ≡ Some a → slice_get keys j ≡ Some b → R a b ≡ Less → i < j
    unfolding never_below
    place_below i j a b p q below = elim (cases_lt i j) [ inl less ↦ less | inr more ↦ absurd (other (eq-or-lt_of_le more)) ] where
      other : (j ≡ i) ⊎ (j < i) → ⊥
      other (inl is) = never_below a (subst (λ (y : K). R a y ≡ Less) (same_some (sym q ∙ (ap (slice_get keys) is ∙ p))) below)
      other (inr less) = (let turned : Less ≡ Greater = sym below ∙ (o.antisymm a b ∙ ap ordering_reverse (keys_ascend j i b a q p less)) in absurd cc)

-- ---- what is reached

module _ {K : Type 0} {keys : List K} {follows : K → K → Type 0} {graph : List (List ℕ)} (g : IsOfKeys keys follows graph) where
  pub to_keys : {i j : ℕ} → Reaches (Follows graph) i j → (a : K) → slice_get keys i ≡ Some a → (b : K) × (slice_get keys j ≡ Some b) × Reaches follows a b
  to_keys (step i j e) a at =
      let next = g.sound i j a at e in
      (next.0, next.1, step a next.0 next.2)
  to_keys (on i m j e r) a at =
      let next = g.sound i m a at e in
      let last = to_keys r next.0 next.1 in
      (last.0, last.1, on a next.0 last.0 next.2 last.2)

  pub begins : {a b : K} → Reaches follows a b → Contains keys a
  begins (step a b h) = g.known a b h
  begins (on a m b h r) = g.known a m h

  pub to_places : {a b : K} → Reaches follows a b → Contains keys b → (i : ℕ) → slice_get keys i ≡ Some a → (j : ℕ) × (slice_get keys j ≡ Some b) × Reaches (Follows graph) i j
  unfolding begins
  to_places (step a b h) key i at =
      let next = g.complete i a b at h key in
      (next.0, next.1, step i next.0 next.2)
  to_places (on a m b h r) key i at =
      let next = g.complete i a m at h (begins r) in
      let last = to_places r key next.0 next.1 in
      (last.0, last.1, on i next.0 last.0 next.2 last.2)

  -- ---- cycles

  module _ {R : K → K → Ordering} (o : IsTotalOrder R) (sorted : IsStrictlySortedBy R keys) where
    -- the place of a key that reaches itself reaches itself
    round : (i : ℕ) (k : K) → slice_get keys i ≡ Some k → Reaches follows k k → Reaches (Follows graph) i i
    unfolding begins to_places
    round i k at r =
        let last = to_places r (begins r) i at in
        subst (λ (j : ℕ). Reaches (Follows graph) i j) (one_place R keys sorted o last.0 i k last.1 at) last.2

    pub least_key : (n : ℕ) (k : K) → IsLeastCycle nat_cmp (Follows graph) n → slice_get keys n ≡ Some k → IsLeastCycle R follows k
    unfolding begins to_keys round
    least_key n k least at = record {
      cycle = (let last = to_keys least.cycle k at in subst (λ (b : K). Reaches follows k b) (same_some (sym last.1 ∙ at)) last.2);
      least = λ other r less. (let p = place_of keys other (begins r) in least.least p.0 (round p.0 other p.1 r) (places_less p.0 n (place_below R keys sorted o p.0 n other k p.1 at less)));
    }

    pub no_key_cycle : NoCycle (Follows graph) → NoCycle follows
    unfolding begins round
    no_key_cycle none = λ k r. (let p = place_of keys k (begins r) in none p.0 (round p.0 k p.1 r))

-- one key at most is the least that reaches itself
pub one_least : {K : Type 0} {R : K → K → Ordering} (o : IsTotalOrder R) → CmpEqualImpliesEq R → {follows : K → K → Type 0} (a b : K) → IsLeastCycle R follows a → IsLeastCycle R follows b → a ≡ b
one_least {K} {R} o exact a b h k = level (R a b) refl where
  level : (r : Ordering) → R a b ≡ r → a ≡ b
  level Less is = absurd (k.least a h.cycle is)
  level Equal is = exact a b is
  level Greater is = absurd (h.least b k.cycle (o.antisymm b a ∙ ap ordering_reverse is))
