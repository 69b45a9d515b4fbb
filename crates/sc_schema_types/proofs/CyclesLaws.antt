-- What is found of a common type that reaches itself.
use Rattle.std.proofs.Common.{◌≡◌, ◌<◌, ℕ, List, [], length, get_or, Option, Some, None, true, Contains, IsSome, option_map, unwrap_or, refl, sym, subst}
use Rattle.std.specs.List.Sorted.{IsStrictlySortedBy}
use Rattle.std.specs.Option.{is_some}
use Rattle.std.specs.Ordering.{nat_cmp}
use Rattle.std.proofs.lemmas.Cmp.{nat_list_cmp_total}
use Rattle.std.proofs.lemmas.Option.{get_or_from_slice_get, slice_get_read}
use Rattle.sc_lists.proofs.ListLaws.{contains_nothing}
use Rattle.sc_names.specs.Uids.{text_cmp}
use Rattle.sc_graphs.specs.Reaching as reaching
use Rattle.sc_graphs.specs.Reaching.{step, on}
use Rattle.sc_graphs.specs.Graphs.{Follows}
use Rattle.sc_graphs.specs.Keys.{HasPlaces, IsOfKeys}
use Rattle.sc_graphs.proofs.GraphLaws.{reached_within, of_places}
use Rattle.sc_graphs.proofs.KeyLaws.{least_key, no_key_cycle}
use Rattle.sc_schema.specs.declared.resolved_type.ResolvedType.{ResolvedType}
use Rattle.sc_schema_types.specs.References.{Names, Bodies, LeadsTo, Reaches, references, names_in}
use Rattle.sc_schema_types.specs.Orders.{IsLeastCycle}
use Rattle.sc_schema_types.specs.Places.{named_at}

-- ---- what leads on has a body

pub has_body : (o : Option ResolvedType) (x : List ℕ) → Contains (unwrap_or (option_map names_in o) []) x → is_some o ≡ true
has_body None x found = absurd (contains_nothing x found)
has_body (Some body) x found = refl

pub leads_declared : (bodies : Bodies) {a b : List ℕ} → Reaches (references bodies) a b → IsSome (bodies a)
leads_declared bodies (step a b leads) = has_body (bodies a) b leads
leads_declared bodies (on a m b leads r) = has_body (bodies a) m leads

-- ---- the least name that reaches itself, by places

module _ (bodies : Bodies) (names : Names) (all : (name : List ℕ) → IsSome (bodies name) → Contains names name) (graph : List (List ℕ)) (g : HasPlaces names (named_at bodies names) graph (length names)) where
  of_names : IsOfKeys names (LeadsTo (references bodies)) graph
  of_names = of_places g (LeadsTo (references bodies)) refl
      (λ i a b at named. subst (λ (c : List ℕ). Contains (references bodies c) b) (get_or_from_slice_get names i a [] at) named)
      (λ i a b at leads. subst (λ (c : List ℕ). Contains (references bodies c) b) (sym (get_or_from_slice_get names i a [] at)) leads) (λ a b leads. all a (has_body (bodies a) b leads))

  pub least_at : (n : ℕ) (name : List ℕ) → IsStrictlySortedBy text_cmp names → reaching.IsLeastCycle nat_cmp (Follows graph) n → name ≡ get_or names n name → IsLeastCycle (references bodies) name
  unfolding of_names
  least_at n name sorted least is = least_key of_names nat_list_cmp_total sorted n name least (slice_get_read names (length names) n name refl (reached_within g least.cycle) is)

  pub none_at : IsStrictlySortedBy text_cmp names → reaching.NoCycle (Follows graph) → (name : List ℕ) → Reaches (references bodies) name name → ⊥
  unfolding of_names
  none_at sorted none name r = no_key_cycle of_names nat_list_cmp_total sorted none name r

-- ---- the same in the words of the calls

pub cycle_within : (bodies : Bodies) (names : Names) (graph : List (List ℕ)) (n : ℕ) → HasPlaces names (named_at bodies names) graph (length names)
    → reaching.IsLeastCycle nat_cmp (Follows graph) n → n < length names
cycle_within bodies names graph n g least = reached_within g least.cycle

pub cycle_at : (bodies : Bodies) (names : Names) (graph : List (List ℕ)) (n : ℕ) (name copy : List ℕ) → ((q : List ℕ) → IsSome (bodies q) → Contains names q)
    → HasPlaces names (named_at bodies names) graph (length names) → IsStrictlySortedBy text_cmp names → reaching.IsLeastCycle nat_cmp (Follows graph) n → name ≡ get_or names n name → copy ≡ name
    → IsLeastCycle (references bodies) copy
cycle_at bodies names graph n name copy all g sorted least is same = subst (IsLeastCycle (references bodies)) (sym same) (least_at bodies names all graph g n name sorted least is)

pub cycle_somewhere : (bodies : Bodies) (names : Names) (graph : List (List ℕ)) (met : List ℕ) → ((q : List ℕ) → IsSome (bodies q) → Contains names q)
    → HasPlaces names (named_at bodies names) graph (length names) → IsStrictlySortedBy text_cmp names → Reaches (references bodies) met met → reaching.NoCycle (Follows graph)
    → IsLeastCycle (references bodies) met
cycle_somewhere bodies names graph met all g sorted r none = absurd (none_at bodies names all graph g sorted none met r)
