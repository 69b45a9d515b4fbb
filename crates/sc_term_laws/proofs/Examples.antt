-- Small rows of the judgement, and of which values fit.
use Rattle.std.proofs.Common.{◌≡◌, ℕ, List, [], ◌∷◌, Bool, true, false, pos, arith, refl, sym, ap, ◌∙◌}
use Rattle.std.proofs.lemmas.Bool.{false≢true}
use Rattle.sc_laws.proofs.BoolLaws.{and_first, and_second}
use Rattle.sc_names.specs.declared.uid.Uid.{Uid}
use Rattle.sc_schema.specs.declared.declarations.Env.{Env}
use Rattle.sc_schema.specs.Declarations.{Declarations}
use Rattle.sc_sorts.specs.declared.sort.Sort.{Sort}
use Rattle.sc_sorts.specs.declared.sort.Sort.TheVariants as sort
use Rattle.sc_sorts.specs.Defaults.{is_option_level}
use Rattle.sc_sorts.proofs.OutLaws.{out_Long, out_Option}
use Rattle.sc_sorts.specs.declared.node.Literal.TheVariants as literal
use Rattle.sc_sorts.specs.declared.node.UnaryOp.TheVariants as unary
use Rattle.sc_sorts.specs.declared.node.BinaryOp.TheVariants as binary
use Rattle.sc_terms.specs.Trees.{Tree, one, two}
use Rattle.sc_terms.specs.TreeSorts.{tree_sort}
use Rattle.sc_terms.specs.Folds.{literal_term, truth_term}
use Rattle.sc_term_laws.specs.Fitting.{Test, has_fields}
use Rattle.sc_term_laws.specs.Judging.{IsTermOf}
use Rattle.sc_term_laws.specs.Judging as judged
use Rattle.sc_term_laws.specs.LawfulSorts.{IsHeldSort}
use Rattle.sc_term_laws.specs.Tests.{has_place, place_level}
use Rattle.sc_term_laws.proofs.UnaryJudged.{unary_kept}

-- 1 + 1
sum : Tree
sum = two binary.Add (literal_term (literal.Long (pos 1))) (literal_term (literal.Long (pos 1)))

module _ (d : Declarations) (env : Env) (written : List Uid) where
  abbrev Is : Sort → Tree → Type 0
  Is k t = IsTermOf d env written k t

  -- the negation of a truth value folds
  no_negation : Is sort.Bool (one unary.Not (truth_term true)) → ⊥
  no_negation h = false≢true (and_second _ _ (unary_kept d env written sort.Bool unary.Not (truth_term true) h).1)

  -- so does a bit of a literal
  no_bit : (n : _) → Is sort.Bool (one (unary.Bit 0) (literal_term (literal.Long n))) → ⊥
  no_bit n h = false≢true (and_second _ _ (unary_kept d env written sort.Bool (unary.Bit 0) (literal_term (literal.Long n)) h).1)

  number_of : Is sort.Long (literal_term (literal.Long (pos 1)))
  number_of = judged.of_number (pos 1) (omega arith)

  sum_of : Is sort.Long sum
  unfolding sum
  sum_of = judged.of_arithmetic binary.Add _ _ (judged.of_sum binary.Add judged.addition) number_of number_of

  -- a sum has 64 bits
  sign : Is sort.Bool (one (unary.Bit 63) sum)
  unfolding sum
  sign = judged.of_bit sort.Long 63 sum (judged.of_long (omega arith)) sum_of refl

  no_more : Is sort.Bool (one (unary.Bit 64) sum) → ⊥
  unfolding sum tree_sort
  no_more h =
      let there : has_place sort.Long 64 ≡ true = and_first _ _ (unary_kept d env written sort.Bool (unary.Bit 64) sum h).1 in
      false≢true (sym (ap (λ (z : _). place_level z 64) out_Long) ∙ there)

  -- no set holds options
  no_option_held : (k : Sort) → IsHeldSort d (sort.Option k) → ⊥
  no_option_held k h = false≢true (sym h.0 ∙ ap (is_option_level Sort) (out_Option k))

-- a record may lack a field of an option sort, and no other
may_lack : (p : Test) (name : List ℕ) → has_fields ((name, (true, p)) ∷ []) [] ≡ true
may_lack p name = refl

may_not_lack : (p : Test) (name : List ℕ) → has_fields ((name, (false, p)) ∷ []) [] ≡ false
may_not_lack p name = refl
