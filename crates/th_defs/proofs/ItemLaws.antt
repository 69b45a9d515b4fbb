-- The clauses of items by places: what is read of the terms that go with a closed term is what its definition names.
use Rattle.std.proofs.Common.{◌≡◌, ℕ, suc, List, [], ◌∷◌, ◌++◌, map, length, slice_get, Option, Some, option_map, unwrap_or, refl, sym, ap, ◌∙◌, arith}
use Rattle.std.proofs.Common.{append_assoc, length-append}
use Rattle.sc_clauses.specs.declared.lit.Lit.{Lit}
use Rattle.sc_clauses.specs.Clauses.{positive}
use Rattle.sc_terms.specs.Trees.{Tree}
use Rattle.sc_term_definitions.specs.Definitions.{counted, inputs_of}
use Rattle.sc_footprint.specs.Closure.{inside, choices, beside, parts, follow}
use Rattle.sc_footprint.specs.Problems.{Posed, literal_in, term_of, companion}
use Rattle.th_defs.specs.Items.{companion_or, companions_or}

at_end : (ws : List Tree) (u : Tree) (us : List Tree) → slice_get (ws ++ u ∷ us) (length ws) ≡ Some u
at_end [] u us = refl
at_end (w ∷ ws) u us = at_end ws u us

module _ (f : Tree → Lit) (e : Lit) where
  abbrev read : List Tree → ℕ → Lit
  read ts i = unwrap_or (option_map f (slice_get ts i)) e

  -- a part of a list, read by its places
  read_part : (ws us vs : List Tree) → map (read (ws ++ (us ++ vs))) (counted (length ws) (length us)) ≡ map f us
  unfolding counted
  read_part ws [] vs = refl
  read_part ws (u ∷ us) vs =
      let long : length (ws ++ u ∷ []) ≡ suc (length ws) = length-append ws (u ∷ []) ∙ omega arith in
      let same : (ws ++ u ∷ []) ++ (us ++ vs) ≡ ws ++ (u ∷ (us ++ vs)) = append_assoc ws (u ∷ []) (us ++ vs) in
      let rest : map (read (ws ++ (u ∷ (us ++ vs)))) (counted (suc (length ws)) (length us)) ≡ map f us =
      ap (λ (ts : List Tree). map (read ts) (counted (suc (length ws)) (length us))) (sym same) ∙ ap (λ (k : ℕ). map (read ((ws ++ u ∷ []) ++ (us ++ vs))) (counted k (length us))) (sym long) ∙ read_part (ws ++ u ∷ []) us vs in
      ap (λ (o : Option Tree). unwrap_or (option_map f o) e ∷ map (read (ws ++ (u ∷ (us ++ vs)))) (counted (suc (length ws)) (length us))) (at_end ws u (us ++ vs)) ∙ ap (λ (ls : List Lit). f u ∷ ls) rest

-- the literals of a definition's inputs are those of the first terms that go with what it defines
module _ (p : Posed) (n : ℕ) (x : Tree) (is : term_of p n ≡ Some x) where
  told : (i : ℕ) → companion p n i ≡ slice_get (follow p.schema x) i
  told i = rw is refl

  same_reads : (ks : List ℕ) → map (companion_or p n) ks ≡ map (λ i. unwrap_or (option_map (literal_in p) (slice_get (follow p.schema x) i)) (positive 1)) ks
  same_reads [] = refl
  same_reads (k ∷ ks) = let e = told k in let f = same_reads ks in rw (e, f) refl

  pub inputs_read : companions_or p n (length (inputs_of x)) ≡ map (literal_in p) (inputs_of x)
  unfolding follow
  inputs_read = same_reads (counted 0 (length (inputs_of x))) ∙ read_part (literal_in p) (positive 1) [] (inputs_of x) (inside x ++ (choices x ++ (beside p.schema x ++ parts x)))
