-- What checks of policies tell.
use Rattle.std.proofs.Common.{◌≡◌, List, Option, Some, None, Result, Ok, Err, OnOk, IfErr, ap, sym, subst, ◌∙◌}
use Rattle.std.specs.Option.{option_or}
use Rattle.sc_lists.specs.declared.fault.Fault.{Fault}
use Rattle.sc_lists.specs.declared.fault.Fault.TheVariants.{Told, NoMemory}
use Rattle.sc_ast.specs.declared.policy.Policy.{Policy}
use Rattle.sc_schema.specs.Declarations.{Declarations}
use Rattle.sc_inputs.specs.Readings.{FailsWith, Checks}
use Rattle.sc_inputs.specs.Refusals as spec
use Rattle.sc_inputs.specs.Refusals.{Side, policies_side, against_side, on, in_against, first_fault, names_fault, types_fault, AreServed, RefusesQuestion, undeclared, untyped}
use Rattle.sc_inputs.specs.declared.refusal.Refusal.{Refusal}

-- ---- one set and two

module _ {F : Type 0} (fault : List Policy → Option F) (refused : Side → F → spec.Refusal) (first : List Policy) where
  Both : Option (List Policy) → Result (Unit {0}) (Fault Refusal) → Type 0
  Both against r = Checks (first_fault fault first against) (λ (x : Side × F). refused x.0 x.1) r

  -- the first set is refused
  pub first_refused : (against : Option (List Policy)) (f : Fault Refusal) → Checks (fault first) (refused policies_side) (Err f) → Checks (first_fault fault first against) (λ (x : Side × F). refused x.0 x.1) (Err f)
  first_refused against (Told r) h = ((policies_side, h.0), ap (λ (o : Option F). option_or (on policies_side o) (in_against fault against)) h.1, h.2)
  first_refused against NoMemory h = tt

  -- the first set passes, and there is no other
  pub first_alone : fault first ≡ None → Checks (first_fault fault first None) (λ (x : Side × F). refused x.0 x.1) (Ok tt)
  first_alone none = ap (λ (o : Option F). option_or (on policies_side o) None) none

  -- the first set passes, and the other is checked
  pub then_other : (others : List Policy) → fault first ≡ None → (r : Result (Unit {0}) (Fault Refusal)) → Checks (fault others) (refused against_side) r → Checks (first_fault fault first (Some others)) (λ (x : Side × F). refused x.0 x.1) r
  then_other others none (Ok x) h = ap (λ (o : Option F). option_or (on policies_side o) (on against_side (fault others))) none ∙ ap (λ (o : Option F). on against_side o) h
  then_other others none (Err (Told r)) h = ((against_side, h.0), ap (λ (o : Option F). option_or (on policies_side o) (on against_side (fault others))) none ∙ ap (λ (o : Option F). on against_side o) h.1, h.2)
  then_other others none (Err NoMemory) h = tt

-- ---- the checks of a question

module _ (s : Declarations) (first : List Policy) (against : Option (List Policy)) where
  pub undeclared_so : (f : Fault Refusal) → Checks (names_fault s first against) (λ x. spec.unknown_name x.0 x.1) (Err f) → FailsWith (RefusesQuestion s first against) f
  undeclared_so (Told r) h = subst (RefusesQuestion s first against) (sym h.2) (undeclared h.0.0 h.0.1 h.1)
  undeclared_so NoMemory h = tt

  pub untyped_so : names_fault s first against ≡ None → (f : Fault Refusal) → Checks (types_fault s first against) (λ x. spec.ill_typed x.0 x.1) (Err f) → FailsWith (RefusesQuestion s first against) f
  untyped_so names (Told r) h = subst (RefusesQuestion s first against) (sym h.2) (untyped h.0.0 h.0.1 names h.1)
  untyped_so names NoMemory h = tt

  pub untyped_if : names_fault s first against ≡ None → (r : Result (Unit {0}) (Fault Refusal)) → Checks (types_fault s first against) (λ x. spec.ill_typed x.0 x.1) r
      → IfErr r (FailsWith (RefusesQuestion s first against))
  untyped_if names (Ok x) h = tt
  untyped_if names (Err f) h = untyped_so names f h

  pub served_so : names_fault s first against ≡ None → (r : Result (Unit {0}) (Fault Refusal)) → Checks (types_fault s first against) (λ x. spec.ill_typed x.0 x.1) r → OnOk r (AreServed s first against)
  served_so names (Ok x) h = record { declared = names; typed = h }
  served_so names (Err f) h = tt
