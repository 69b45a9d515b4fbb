-- What is said, as its clause: how long it is, and when it is an instance or falsified.
use Rattle.std.proofs.Common.{◌≡◌, ◌&&◌, ◌<◌, ℕ, false, not, [], length, Some, None, refl, sym, ◌∙◌, IsSomeAnd, arith}
use Rattle.std.proofs.lemmas.List.{length-map}
use Rattle.std.specs.List.{list_all}
use Rattle.sc_clauses.specs.declared.lit.Lit.{Lit}
use Rattle.sc_clauses.specs.Assignments.{Assignment, is_false}
use Rattle.sc_footprint.specs.Problems.{Posed}
use Rattle.sc_footprint.specs.Definitions.{is_tautology}
use Rattle.sc_rule_laws.specs.Signed.{Said}
use Rattle.sc_rule_instances.specs.Clauses.{is_asked, literal_for, is_instance, said_clause}
use Rattle.sc_rule_instances.specs.Known.{is_falsified}
use Rattle.sc_rule_instances.specs.Saying.{count_of}

module _ (p : Posed) where
  -- where there is a clause it has so many literals
  pub said_length : (said : Said) (n : ℕ) → count_of said ≡ Some n → n ≡ length (said_clause p said)
  unfolding said_clause
  said_length None n e = absurd cc
  said_length (Some parts) n e = let f : length parts ≡ n = cc in sym f ∙ sym (length-map parts (literal_for p))

  -- a place of the clause
  pub said_place : (said : Said) (k : ℕ) → k < length (said_clause p said) → IsSomeAnd (count_of said) (λ n. k < n)
  unfolding said_clause
  said_place None k h = absurd (omega (arith, h))
  said_place (Some parts) k h = let e = length-map parts (literal_for p) in omega (arith, h, e)

  -- nothing is said
  pub said_nothing : (said : Said) → count_of said ≡ None → is_instance p said ≡ false
  unfolding is_instance
  said_nothing None e = refl
  said_nothing (Some parts) e = cc

  pub clause_nothing : (said : Said) → count_of said ≡ None → said_clause p said ≡ []
  unfolding said_clause
  clause_nothing None e = refl
  clause_nothing (Some parts) e = cc

  pub falsified_nothing : (m : Assignment) (said : Said) → count_of said ≡ None → is_falsified p m said ≡ false
  unfolding is_falsified
  falsified_nothing m None e = refl
  falsified_nothing m (Some parts) e = cc

  -- something is
  pub said_instance : (said : Said) (n : ℕ) → count_of said ≡ Some n → is_instance p said ≡ (list_all is_asked (said_clause p said) && not (is_tautology (said_clause p said)))
  unfolding is_instance said_clause
  said_instance None n e = absurd cc
  said_instance (Some parts) n e = refl

  pub said_falsified : (m : Assignment) (said : Said) (n : ℕ) → count_of said ≡ Some n → is_falsified p m said ≡ list_all (λ (l : Lit). is_asked l && is_false m l) (said_clause p said)
  unfolding is_falsified said_clause
  said_falsified m None n e = absurd cc
  said_falsified m (Some parts) n e = refl
