-- Of links: what stands above a key, in ascending order, and the least key that stands above itself, or that there is none.
use Rattle.std.proofs.Common.{◌≡◌, ◌⊎◌, List, [], map, Bool, true, false, cond, Contains, inl, inr, refl, sym, subst}
use Rattle.std.specs.Bool.{Decides}
use Rattle.std.specs.Cmp.{IsTotalOrder}
use Rattle.std.specs.List.{flat_map, list_any}
use Rattle.std.specs.List.Sorted.{IsStrictlySortedBy}
use Rattle.std.specs.declared.cmp.Ordering.{Ordering}
use Rattle.std.specs.declared.cmp.Ordering.TheVariants.{Equal}
use Rattle.sc_lists.proofs.ListLaws.{contains_nothing, contains_map, map_itself, contains_joined, joined_from}
use Rattle.sc_graphs.specs.Reaching.{step, on}
use Rattle.sc_schema_json.specs.Above.{Links, IsParent, IsAbove, AreAbove, NoCycle, IsLeastCycle}
use Rattle.sc_schema_json.proofs.AscendingLaws.{Ascends}
use Rattle.sc_schema_json.proofs.LeadingLaws.{Leads, next, onwards}
use Rattle.sc_schema_json.proofs.SpelledGraphLaws.{any_decided, led_to, IsLeastRound, round_or_none}

module _ {K : Type 0} {R : K → K → Ordering} (o : IsTotalOrder R) (level : (x y : K) → R x y ≡ Equal → x ≡ y)
    (eq : K → K → Bool) (decides : (a b : K) → Decides (eq a b) (a ≡ b)) (links : Links K) where
  abbrev parents_of : K → K × List K → List K
  parents_of a l = cond (eq a l.0) l.1 []

  abbrev graph : K → List K
  graph a = flat_map (parents_of a) links

  parents : (a b : K) → IsParent links a b → Contains (graph a) b
  parents a b p =
      contains_joined (parents_of a) links (a, p.above) b p.listed
      (subst (λ (t : Bool). Contains (cond t p.above []) b) (sym ((decides a a).1 refl)) p.parent)

  parent_from : (a b : K) → Contains (graph a) b → IsParent links a b
  parent_from a b has = from (joined_from (parents_of a) links b has) where
    at : (l : K × List K) → Contains links l → (t : Bool) → eq a l.0 ≡ t → Contains (cond t l.1 []) b → IsParent links a b
    at l listed true same inside =
        record { above = l.1; listed = subst (λ (k : K). Contains links (k, l.1)) (sym ((decides a l.0).0 same)) listed; parent = inside }
    at l listed false other inside = absurd (contains_nothing b inside)

    from : (l : K × List K) × Contains links l × Contains (parents_of a l) b → IsParent links a b
    from found = at found.0 found.1 (eq a found.0.0) refl found.2

  leads_above : {a b : K} → Leads graph a b → IsAbove links a b
  leads_above (next a b h) = step a b (parent_from a b h)
  leads_above (onwards a m b h r) = on a m b (parent_from a m h) (leads_above r)

  above_leads : {a b : K} → IsAbove links a b → Leads graph a b
  above_leads (step a b p) = next a b (parents a b p)
  above_leads (on a m b p r) = onwards a m b (parents a m p) (above_leads r)

  abbrev keys : List K
  keys = map (λ (l : K × List K). l.0) links

  keyed : (a b : K) → Contains (graph a) b → Contains keys a
  keyed a b has =
      let p = parent_from a b has in
      contains_map (λ (l : K × List K). l.0) links (a, p.above) p.listed

  names : K → K → Bool
  names a b = list_any (eq b) (graph a)

  named : (a b : K) → Decides (names a b) (Contains (graph a) b)
  unfolding names
  named a b = any_decided eq decides (graph a) b

  pub are_above : (a : K) → (ks : List K) × AreAbove R links a ks
  are_above a = of (led_to o level graph names named keys keyed a) where
    of : Ascends R (λ (k : K). k) (Leads graph a) → (ks : List K) × AreAbove R links a ks
    of all = (
      all.list,
      record {
        ascending = subst (IsStrictlySortedBy R) (map_itself all.list) all.ascending;
        members = λ b. (λ has. leads_above ((all.members b).0 has), λ is. (all.members b).1 (above_leads is));
      },
    )

  pub cycle_or_none : ((k : K) × IsLeastCycle R links k) ⊎ NoCycle links
  cycle_or_none = of (round_or_none o level graph names named keys keyed) where
    of : ((k : K) × IsLeastRound o level graph names named keys keyed k) ⊎ ((k : K) → Leads graph k k → ⊥) → ((k : K) × IsLeastCycle R links k) ⊎ NoCycle links
    of (inl found) =
        inl (found.0, record { cycle = leads_above found.1.round; least = λ other is. found.1.least other (above_leads is) })
    of (inr none) = inr (λ k is. none k (above_leads is))
