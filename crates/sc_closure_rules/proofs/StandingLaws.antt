-- The terms that stand in a set term, by their numbers.
use Rattle.std.proofs.Common.{◌≡◌, ◌<◌, ℕ, List, [], ◌∷◌, map, length, Option, Some, None, refl, sym, ap, ◌∙◌, subst, IfSome, option_map}
use Rattle.std.specs.List.{AllByRecursion}
use Rattle.sc_laws.proofs.OptionLaws.{same_some}
use Rattle.sc_sorts.specs.declared.node.ManyOp.TheVariants as manys
use Rattle.sc_sorts.specs.declared.node.Node.{Node}
use Rattle.sc_sorts.specs.declared.node.Node.TheVariants as node
use Rattle.sc_terms.specs.Trees.{Tree}
use Rattle.sc_terms.specs.Tables.{Places, tree, node_parts, node_tree, AreBelow, PartsAreBelow, Keeps, StandsFor}
use Rattle.sc_terms.proofs.TableLaws.{keeps_then}
use Rattle.sc_term_definitions.specs.Making.{Puts, stood}
use Rattle.sc_rule_laws.specs.Terms.{members, written}
use Rattle.sc_closure_rules.specs.Closure.{picked}
use Rattle.sc_closure_rules.specs.Beside.{set_parts}
use Rattle.sc_closure_rules.proofs.FollowLaws.{labelled_within}

-- for each of some numbers, and for each of the terms that they stand for
pub each_stood : (g : Tree → Tree) (xs : List Node) (ms : List ℕ) → map (λ (m : ℕ). g (tree xs m)) ms ≡ map g (stood xs ms)
each_stood g xs [] = refl
each_stood g xs (m ∷ ms) = ap (λ (ts : List Tree). g (tree xs m) ∷ ts) (each_stood g xs ms)

parts_stand : (xs : List Node) (ps : Places) → stood xs (map (λ (p : List ℕ × ℕ). p.1) ps) ≡ members (node_parts xs ps)
parts_stand xs [] = refl
parts_stand xs (p ∷ ps) = ap (λ (ts : List Tree). tree xs p.1 ∷ ts) (parts_stand xs ps)

some_written : (xs : List Node) (x : Node) (ps : Places) → set_parts x ≡ Some ps → Some (stood xs (map (λ (p : List ℕ × ℕ). p.1) ps)) ≡ written (node_tree xs x)
some_written xs (node.Many (manys.Set k) qs) ps e =
    ap (λ (rs : Places). Some (stood xs (map (λ (p : List ℕ × ℕ). p.1) rs))) (sym (same_some e)) ∙ ap Some (parts_stand xs qs)
some_written xs _ ps e = absurd cc

none_written : (xs : List Node) (x : Node) → set_parts x ≡ None → None ≡ written (node_tree xs x)
none_written xs (node.Many (manys.Set k) qs) e = absurd cc
none_written xs _ e = refl

pub standing_some : (xs : List Node) (t : Tree) (x : Node) (o : Option Places) (ps : Places) (q : Option (List ℕ)) → t ≡ node_tree xs x → o ≡ set_parts x → o ≡ Some ps
    → q ≡ Some (map (λ (p : List ℕ × ℕ). p.1) ps) → option_map (stood xs) q ≡ written t
standing_some xs t x o ps q stands is e f = ap (option_map (stood xs)) f ∙ some_written xs x ps (sym is ∙ e) ∙ ap written (sym stands)

pub standing_none : (xs : List Node) (t : Tree) (x : Node) (o : Option Places) → t ≡ node_tree xs x → o ≡ set_parts x → o ≡ None → None ≡ written t
standing_none xs t x o stands is e = none_written xs x (sym is ∙ e) ∙ ap written (sym stands)

set_within : (l : ℕ) (x : Node) (ps : Places) → PartsAreBelow l x → set_parts x ≡ Some ps → AllByRecursion (λ n. n < l) (map (λ (p : List ℕ × ℕ). p.1) ps)
set_within l (node.Many (manys.Set k) qs) ps h e = labelled_within l ps (subst (AreBelow l) (same_some e) h)
set_within l _ ps h e = absurd cc

pub standing_in_table : (l : ℕ) (x : Node) (o : Option Places) (ps : Places) (q : Option (List ℕ)) → PartsAreBelow l x → o ≡ set_parts x → o ≡ Some ps
    → q ≡ Some (map (λ (p : List ℕ × ℕ). p.1) ps) → IfSome q (AllByRecursion (λ n. n < l))
standing_in_table l x o ps q below is e f = subst (λ (r : Option (List ℕ)). IfSome r (AllByRecursion (λ n. n < l))) (sym f) (set_within l x ps below (sym is ∙ e))

-- a member that is picked, and whether it is one of two sets
pub picked_from : (old mid new : List Node) (ns ms : List ℕ) (pick a b : ℕ) (p : Tree) → a < length old → b < length old → Keeps old mid → StandsFor mid pick p
    → Puts mid new ns ms (picked (tree mid pick) (tree mid a) (tree mid b)) → Puts old new ns ms (picked p (tree old a) (tree old b))
picked_from old mid new ns ms pick a b p ha hb k stands q = record {
  kept = keeps_then old mid new k q.kept;
  more = q.more;
  is = q.is;
  within = q.within;
  stands = q.stands ∙ (λ i. picked (stands.is i) (k.same a ha i) (k.same b hb i));
}
