-- Which instances an assignment falsifies.
use Rattle.std.proofs.Common.{◌≡◌, ◌&&◌, Bool, true, false, List, [], ◌∷◌, Some, None, refl, sym, ◌∙◌}
use Rattle.std.proofs.lemmas.Bool.{and_parts, and_from}
use Rattle.sc_clauses.specs.declared.lit.Lit.{Lit}
use Rattle.sc_clauses.specs.Assignments.{Assignment, is_false}
use Rattle.sc_footprint.specs.Problems.{Posed}
use Rattle.sc_rule_laws.specs.Signed.{Signed, Said}
use Rattle.sc_rule_instances.specs.Clauses.{is_asked, literal_for}
use Rattle.sc_rule_instances.specs.Known.{is_falsified}

-- ---- a literal that is asked and false

abbrev pub is_out : Assignment → Lit → Bool
is_out m l = is_asked l && is_false m l

-- ---- what is said, one literal at a time

module _ (m : Assignment) (p : Posed) where
  pub head_out : (s : Signed) (parts : List Signed) → is_falsified p m (Some (s ∷ parts)) ≡ true → is_out m (literal_for p s) ≡ true
  unfolding is_falsified
  head_out s parts h = (and_parts _ _ h).0

  pub tail_out : (s : Signed) (parts : List Signed) → is_falsified p m (Some (s ∷ parts)) ≡ true → is_falsified p m (Some parts) ≡ true
  unfolding is_falsified
  tail_out s parts h = (and_parts _ _ h).1

  pub all_out : is_falsified p m (Some []) ≡ true
  unfolding is_falsified
  all_out = refl

  pub more_out : (s : Signed) (parts : List Signed) → is_out m (literal_for p s) ≡ true → is_falsified p m (Some parts) ≡ true → is_falsified p m (Some (s ∷ parts)) ≡ true
  unfolding is_falsified
  more_out s parts h k = and_from _ _ h k

  pub nothing_out : is_falsified p m None ≡ true → ⊥
  unfolding is_falsified
  nothing_out h = cc

  -- it is enough that it isn't falsified where it is
  pub free_if : (said : Said) → (is_falsified p m said ≡ true → is_falsified p m said ≡ false) → is_falsified p m said ≡ false
  free_if said h = by (is_falsified p m said) refl
    where
      by : (b : Bool) → is_falsified p m said ≡ b → b ≡ false
      by false e = refl
      by true e = let never : true ≡ false = sym e ∙ h e in cc
