-- The least key that stands above itself.
use Rattle.std.proofs.Common.{◌≡◌, ◌<◌, ℕ, List, Some, length, get_or, refl, sym, ap, subst, ◌∙◌, IsPermutation, Result, Ok, Err, Option, None, IfOk, IfSome, IfNone}
use Rattle.std.proofs.lemmas.List.Sorted.{Contains-permutation, IsPermutation-sym}
use Rattle.std.proofs.lemmas.Option.{slice_get_read}
use Rattle.std.specs.Cmp.{IsTotalOrder}
use Rattle.std.specs.List.{IsDistinct, slice_get}
use Rattle.std.specs.List.Sorted.{IsStrictlySortedBy}
use Rattle.std.specs.Map.{keys_of}
use Rattle.std.specs.declared.cmp.Ordering.{Ordering}
use Rattle.std.specs.Ordering.{nat_cmp}
use Rattle.sc_graphs.specs.Reaching as reaching
use Rattle.sc_graphs.specs.Graphs.{Follows}
use Rattle.sc_graphs.proofs.GraphLaws.{reached_within}
use Rattle.sc_graphs.proofs.KeyLaws.{least_key, no_key_cycle}
use Rattle.sc_lists.proofs.ListLaws.{all_element}
use Rattle.sc_schema.specs.Declarations.{uid_eq}
use Rattle.sc_schema.specs.Resolved.{IsResolved, IsResolvedAction, actions}
use Rattle.sc_schema.specs.declared.resolved_action.ResolvedAction.{ResolvedAction}
use Rattle.sc_schema.specs.declared.resolved_schema.ResolvedSchema.{ResolvedSchema}
use Rattle.sc_schema_json.specs.Above.{Links, NamesKeys, NoCycle, IsLeastCycle}
use Rattle.sc_schema_json.specs.Schemas.{resolved_links}
use Rattle.sc_schema_json.specs.Graphs.{IsGraphOf}
use Rattle.sc_schema_json.proofs.AboveLaws.{key_there, length_keys, of_keys}
use Rattle.sc_schema_json.proofs.LinksLaws.{above_within, keys_of_links, links_named}

-- ---- what is found by places

pub place_within : {K : Type 0} (links : Links K) (graph : List (List ℕ)) (n : ℕ) → IsGraphOf links graph → reaching.IsLeastCycle nat_cmp (Follows graph) n → n < length links
place_within links graph n g least = subst (λ m. n < m) (length_keys links) (reached_within g least.cycle)

pub least_at_place : {K : Type 0} {R : K → K → Ordering} (o : IsTotalOrder R) (links : Links K) (graph : List (List ℕ)) (n : ℕ) (l : K × List K) (k : K) → IsGraphOf links graph
    → IsStrictlySortedBy R (keys_of links) → reaching.IsLeastCycle nat_cmp (Follows graph) n → l ≡ get_or links n l → k ≡ (get_or links n l).0 → IsLeastCycle R links k
least_at_place {K} {R} o links graph n l k g sorted least is copy =
    let there : slice_get links n ≡ Some (l.0, l.1) = slice_get_read links (length links) n l refl (place_within links graph n g least) is in
    let same : l.0 ≡ k = ap (λ (m : K × List K). m.0) is ∙ sym copy in
    subst (IsLeastCycle R links) same (least_key (of_keys g o sorted) o sorted n l.0 least (key_there links n l there))

pub none_at_places : {K : Type 0} {R : K → K → Ordering} (o : IsTotalOrder R) (links : Links K) (graph : List (List ℕ)) → IsGraphOf links graph → IsStrictlySortedBy R (keys_of links)
    → reaching.NoCycle (Follows graph) → NoCycle links
none_at_places o links graph g sorted none = no_key_cycle (of_keys g o sorted) o sorted none

-- ---- the same links in another order

no_cycle_permuted : {K : Type 0} (links others : Links K) → IsPermutation links others → NoCycle others → NoCycle links
no_cycle_permuted links others permutation none = λ k is. none k (above_within links others (λ l. Contains-permutation links others l permutation) is)

least_permuted : {K : Type 0} (R : K → K → Ordering) (links others : Links K) (k : K) → IsPermutation links others → IsLeastCycle R others k → IsLeastCycle R links k
least_permuted R links others k permutation least =
    record {
      cycle = above_within others links (λ l. Contains-permutation others links l (IsPermutation-sym links others permutation)) least.cycle;
      least = λ other is. least.least other (above_within links others (λ l. Contains-permutation links others l permutation) is);
    }

pub least_told : {K E : Type 0} (R : K → K → Ordering) (r : Result (Option K) E) (links others : Links K) → IsPermutation links others → IfOk r (λ o. IfSome o (IsLeastCycle R others)) → IfOk r (λ o. IfSome o (IsLeastCycle R links))
least_told R (Ok (Some k)) links others permutation h = least_permuted R links others k permutation h
least_told R (Ok None) links others permutation h = tt
least_told R (Err e) links others permutation h = tt

pub none_told : {K E : Type 0} (r : Result (Option K) E) (links others : Links K) → IsPermutation links others → IfOk r (λ o. IfNone o (NoCycle others)) → IfOk r (λ o. IfNone o (NoCycle links))
none_told (Ok (Some k)) links others permutation h = tt
none_told (Ok None) links others permutation h = no_cycle_permuted links others permutation h
none_told (Err e) links others permutation h = tt

-- ---- actions whose names are looked up

pub resolved_distinct : (s : ResolvedSchema) → IsResolved s → IsDistinct uid_eq (keys_of (resolved_links (actions s)))
resolved_distinct s r = subst (IsDistinct uid_eq) (sym (keys_of_links (λ (a : ResolvedAction). a.uid) (λ (a : ResolvedAction). a.parents) (actions s))) r.actions_distinct

pub resolved_named : (s : ResolvedSchema) → IsResolved s → NamesKeys (resolved_links (actions s))
resolved_named s r =
    links_named (λ (a : ResolvedAction). a.uid) (λ (a : ResolvedAction). a.parents) (actions s) (λ a has. (all_element (IsResolvedAction s) (actions s) a r.each_action has).above)
