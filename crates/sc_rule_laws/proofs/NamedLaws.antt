-- Terms that name a string or an entity are no truth values.
use Rattle.std.proofs.Common.{◌≡◌, Bool, true, false, Option, Some, None, refl, sym, ap, ◌∙◌}
use Rattle.sc_sorts.proofs.OutLaws.{out_Bool}
use Rattle.sc_terms.specs.Trees.{Tree}
use Rattle.sc_terms.specs.TreeSorts.{tree_sort}
use Rattle.sc_terms.specs.Folds.{constant, truth_term}
use Rattle.sc_terms.proofs.EqualLaws.{constant_is}
use Rattle.sc_rule_laws.specs.Terms.{is_named, is_named_level}

truth_unnamed : (b : Bool) → is_named (truth_term b) ≡ false
unfolding tree_sort
truth_unnamed b = ap is_named_level out_Bool

pub named_plain : (x : Tree) → is_named x ≡ true → constant x ≡ None
named_plain x h = by (constant x) refl
  where
    by : (o : Option Bool) → constant x ≡ o → constant x ≡ None
    by None e = e
    by (Some b) e = let never : true ≡ false = sym h ∙ ap is_named (constant_is x b e) ∙ truth_unnamed b in absurd cc
