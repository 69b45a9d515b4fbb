-- The parts of a set, which have no labels.
use Rattle.std.proofs.Common.{◌≡◌, ◌<◌, ℕ, suc, List, [], ◌∷◌, All, map, Result, Ok, Err, IfOk, refl, ap, ◌∙◌, arith}
use Rattle.sc_sorts.specs.declared.sort.Sort.{Sort}
use Rattle.sc_sorts.specs.declared.node.ManyOp.TheVariants.{Set}
use Rattle.sc_sorts.specs.declared.node.Node.{Node}
use Rattle.sc_sorts.specs.Parts.{no_label}
use Rattle.sc_terms.specs.Trees.{many, part, parts_of}
use Rattle.sc_terms.specs.Tables.{Places, tree, node_parts, AreBelow, StandsFor}
use Rattle.sc_terms.specs.Folds.{set_term, without_label}

below : (m : ℕ) (ns : List ℕ) → All (λ n. n < m) ns → AreBelow m (map no_label ns)
below m [] h = tt
below m (n ∷ ns) h = (h 0 0 (omega arith), below m ns (λ l d k. h (suc l) d (omega arith)))

pub set_below : (m : ℕ) (ns : List ℕ) (ps : Places) → ps ≡ map no_label ns → All (λ n. n < m) ns → AreBelow m ps
set_below m ns ps e h = rw e (below m ns h)

parts_are : (xs : List Node) (ns : List ℕ) → node_parts xs (map no_label ns) ≡ parts_of (map without_label (map (tree xs) ns))
parts_are xs [] = refl
parts_are xs (n ∷ ns) = ap (part [] (tree xs n)) (parts_are xs ns)

pub set_is : (xs ys : List Node) (k : Sort) (ns : List ℕ) (ps : Places) (n : ℕ) → ps ≡ map no_label ns → StandsFor ys n (many (Set k) (node_parts xs ps)) → StandsFor ys n (set_term k (map (tree xs) ns))
set_is xs ys k ns ps n e t = record { within = t.within; is = t.is ∙ ap (λ (qs : Places). many (Set k) (node_parts xs qs)) e ∙ ap (many (Set k)) (parts_are xs ns) }

-- the same of what a call gives
pub set_stands : {E : Type 0} (xs ys : List Node) (k : Sort) (ns : List ℕ) (ps : Places) (r : Result ℕ E) → ps ≡ map no_label ns → IfOk r (λ n. StandsFor ys n (many (Set k) (node_parts xs ps)))
    → IfOk r (λ n. StandsFor ys n (set_term k (map (tree xs) ns)))
set_stands xs ys k ns ps (Ok n) e t = set_is xs ys k ns ps n e t
set_stands xs ys k ns ps (Err f) e t = tt
