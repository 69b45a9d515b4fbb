-- The order of functions tells them apart.
use Rattle.std.proofs.Common.{◌≡◌, ◌||◌, ◌++◌, ◌∷◌, inr, ⊎_elim, List, [], flat_map, subst}
use Rattle.std.specs.List.Sorted.{IsStrictlySortedBy}
use Rattle.sc_lists.specs.Members.{Has}
use Rattle.sc_sorts.specs.declared.sort.Sort.{Sort}
use Rattle.sc_terms.specs.Trees.{Tree}
use Rattle.sc_smtlib_lines.specs.Ancestries.{Ancestry, ancestries, nested_function, of_each}
use Rattle.sc_smtlib_lines.specs.Scripts.{functions_of}
use Rattle.sc_smtlib_lines.specs.Subterms.{AreJust}
use Rattle.std.proofs.lemmas.Cmp.{tied_itself}
use Rattle.std.proofs.lemmas.Map.Lookups.{exact_unsigned, exact_bytes}
use Rattle.std.specs.declared.cmp.Ordering.TheVariants.{Equal}
use Rattle.std.specs.Ordering.{nat_cmp, ordering_then}
use Rattle.std.specs.BTreeMap.{is_at}
use Rattle.sc_lists.specs.Ordered.{is_in}
use Rattle.sc_lists.proofs.OrderingLaws.{ordering_then_equal}
use Rattle.sc_smtlib_lines.specs.declared.functions.Function.{Function}
use Rattle.sc_smtlib_lines.specs.contracts.functions.FunctionOrd.TheImpl.Laws.{total-law}
use Rattle.sc_smtlib_lines.specs.Functions.{called, function_cmp}
use Rattle.sc_smtlib_lines.specs.Gaining.{Gains}
use Rattle.sc_smtlib_lines.proofs.GainingLaws.{gains_put, gains_then}

exact : (a b : Function) → function_cmp a b ≡ Equal → a ≡ b
exact a b h =
    let p = ordering_then_equal (nat_cmp a.kind b.kind) _ h in
    let q = ordering_then_equal (nat_cmp a.owner b.owner) _ p.1 in
    let r = ordering_then_equal (nat_cmp a.other b.other) _ q.1 in
    let k : a.kind ≡ b.kind = exact_unsigned a.kind b.kind p.0 in
    let o : a.owner ≡ b.owner = exact_unsigned a.owner b.owner q.0 in
    let u : a.other ≡ b.other = exact_unsigned a.other b.other r.0 in
    let l : a.line ≡ b.line = exact_bytes a.line b.line r.1 in
    λ i. record { kind = k i; owner = o i; other = u i; line = l i }

pub gains_function : (old new : List Function) (f : Function) → ((g : Function) → is_in function_cmp g new ≡ (is_in function_cmp g old || is_at (function_cmp g) f))
    → Gains old new (f ∷ [])
gains_function old new f h = gains_put function_cmp exact (tied_itself total-law) old new f h

pub just_functions : (ds : List Sort) (ts : List Tree) (all : List Ancestry) (called_set set : List Function) → all ≡ ancestries ts → IsStrictlySortedBy function_cmp set
    → Gains [] called_set (flat_map (called ds) ts) → Gains called_set set (of_each (nested_function ds) all) → AreJust function_cmp (Has (functions_of ds ts)) set
just_functions ds ts all called_set set e ascending g h = record { ascending = ascending; just = λ f. (to f, from f) }
  where
    both : Gains [] set (functions_of ds ts)
    both = subst (λ z. Gains [] set (flat_map (called ds) ts ++ of_each (nested_function ds) z)) e (gains_then [] called_set set (flat_map (called ds) ts) (of_each (nested_function ds) all) g h)

    to : (f : Function) → Has set f → Has (functions_of ds ts) f
    to f k = ⊎_elim (λ m. absurd m) (λ m. m) ((both.are f).0 k)

    from : (f : Function) → Has (functions_of ds ts) f → Has set f
    from f k = (both.are f).1 (inr k)
