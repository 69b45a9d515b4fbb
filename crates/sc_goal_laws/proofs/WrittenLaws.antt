-- What policies write, where they write declared names and their constants are values.
use Rattle.std.proofs.Common.{◌≡◌, ℕ, Bool, true, false, List, [], ◌∷◌, is_some, Contains, refl}
use Rattle.std.specs.Cmp.Derive.{both_true}
use Rattle.std.specs.List.{AllByRecursion}
use Rattle.std.proofs.lemmas.List.Elements.{Contains-append_left, Contains-append_right}
use Rattle.sc_lists.proofs.ListLaws.{all_of_elements}
use Rattle.sc_names.specs.declared.uid.Uid.{Uid}
use Rattle.sc_ast.specs.Conditions.{condition}
use Rattle.sc_ast.specs.Literals.{literals, policy_uids}
use Rattle.sc_ast.specs.declared.policy.Policy.{Policy}
use Rattle.sc_eval.specs.Written.{HasProperConstants}
use Rattle.sc_schema.specs.Declarations.{Declarations, is_action_type, action, entity_type, choices_of, some_of}
use Rattle.sc_symeval_laws.specs.Written.{IsWritten}
use Rattle.sc_term_laws.proofs.ChoicesLaws.{entity_is}
use Rattle.sc_typing.specs.Names.{is_known, has_choice, is_declared}
use Rattle.sc_world.specs.Choices.{is_choice}
use Rattle.sc_world.specs.Named.{IsDeclared}

-- an id that is a choice, where there are some
choice_passes : (ids : List (List ℕ)) (id : List ℕ) → is_choice ids id ≡ true → has_choice (some_of ids) id ≡ true
choice_passes [] id h = refl
choice_passes (first ∷ more) id h = h

-- a uid that is declared passes the test of names
pub declared_passes : (s : Declarations) (u : Uid) → IsDeclared s u → is_declared s u ≡ true
declared_passes s u h =
    both_true (by (is_action_type s u.type_name) refl h.as_action (λ e. (entity_is s u.type_name e).0 h.of_type)) (choice_passes (choices_of s u.type_name) u.id h.as_choice)
  where
    by : (b : Bool) → is_action_type s u.type_name ≡ b → (is_action_type s u.type_name ≡ true → is_some (action s u) ≡ true) → (is_action_type s u.type_name ≡ false → is_some (entity_type s u.type_name) ≡ true) → is_known s u ≡ true
    by true e f g = rw e (f e)
    by false e f g = rw e (g e)

-- policies write just such uids and constants
pub set_written : (lits : List Uid) (ps : List Policy) → ((u : Uid) → Contains (literals ps) u → Contains lits u) → AllByRecursion (λ p. HasProperConstants (condition p)) ps → AllByRecursion (IsWritten lits) ps
set_written lits [] h k = tt
set_written lits (p ∷ ps) h k = (
  record { uids = all_of_elements (Contains lits) (policy_uids p) (λ u c. h u (Contains-append_left (policy_uids p) (literals ps) u c)); constants = k.0 },
  set_written lits ps (λ u c. h u (Contains-append_right (policy_uids p) (literals ps) u c)) k.1,
)
