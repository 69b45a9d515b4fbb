-- Goals are true in the worlds that lack the property.
use Rattle.std.proofs.Common.{◌≡◌, Bool, true, false, not, ◌&&◌, ◌||◌, List, [], ◌∷◌, Contains, Option, Some, None, refl, sym, ap, subst, ◌∙◌}
use Rattle.std.specs.Option.{option_map, option_and_then}
use Rattle.std.specs.List.{AllByRecursion, AllZip, list_any}
use Rattle.std.proofs.lemmas.List.Elements.{Contains-append_left, Contains-append_right}
use Rattle.sc_terms.proofs.FoldValues.{truth_yes}
use Rattle.sc_lists.proofs.ListLaws.{all_of_elements}
use Rattle.sc_names.specs.declared.uid.Uid.{Uid}
use Rattle.sc_ast.specs.declared.policy.Effect.{Effect}
use Rattle.sc_ast.specs.declared.policy.Policy.{Policy}
use Rattle.sc_ast.specs.Conditions.{condition}
use Rattle.sc_ast.specs.Literals.{policy_uids, literals as uids_of}
use Rattle.sc_schema.specs.declared.declarations.Env.{Env}
use Rattle.sc_schema.specs.Declarations.{Declarations}
use Rattle.sc_schema.specs.Lawful.{IsLawful}
use Rattle.sc_world.specs.declared.world.World.{World}
use Rattle.sc_world.specs.WellFormed.{IsWellFormed}
use Rattle.sc_eval.specs.Eval.{eval}
use Rattle.sc_auth.specs.Decisions.{allows, errs}
use Rattle.sc_question.specs.declared.question.Question.{Question}
use Rattle.sc_question.specs.declared.question.Question.TheVariants.{NeverErrors, AlwaysAllows, AlwaysDenies, Implies, Equivalent, Disjoint}
use Rattle.sc_terms.specs.Trees.{Tree}
use Rattle.sc_terms.specs.Folds.{not_term, equal_term}
use Rattle.sc_terms.specs.Values.{val, yes, truth}
use Rattle.sc_constructs.specs.Code.{Code}
use Rattle.sc_symeval.specs.Compiling.{policy_code}
use Rattle.sc_symeval.specs.Agreement.{Agrees}
use Rattle.sc_symauth.specs.Standings.{Compiled, allow, any_error}
use Rattle.sc_goal.specs.Goals.{with_effect}
use Rattle.sc_symauth.specs.Agreement.{Represents}
use Rattle.sc_symauth.proofs.ValuesLaws as values
use Rattle.sc_symauth.proofs.ValuesLaws.{Negation, Both, Equation, not_is, and_is, equal_is}
use Rattle.sc_goal.specs.Properties.{same, has}
use Rattle.sc_goal.specs.Goals.{goal_of, compiled, all_compiled, goal_term}

-- ---- what is compiled, part by part

-- a first policy and the rest
pub record AreParts (o : Option Compiled) (r : Option (List Compiled)) (cs : List Compiled) : Type 0 where
  pub first : Compiled
  pub rest : List Compiled
  pub first_is : o ≡ Some first
  pub rest_is : r ≡ Some rest
  pub whole : cs ≡ first ∷ rest

value : List Compiled → Option (List Compiled) → List Compiled
value d None = d
value d (Some x) = x

pub parts_of : (o : Option Compiled) (r : Option (List Compiled)) (cs : List Compiled) → option_and_then (λ (c : Compiled). option_map (λ (ds : List Compiled). c ∷ ds) r) o ≡ Some cs → AreParts o r cs
unfolding value
parts_of None r cs e = absurd (let clash : None ≡ Some cs = e in cc)
parts_of (Some c) None cs e = absurd (let clash : None ≡ Some cs = e in cc)
parts_of (Some c) (Some ds) cs e = record { first = c; rest = ds; first_is = refl; rest_is = refl; whole = sym (ap (value cs) e) }

pub no_parts : (cs : List Compiled) → Some [] ≡ Some cs → cs ≡ []
unfolding value
no_parts cs e = sym (ap (value cs) e)

pub record IsCompiled (effect : Effect) (m : Option Code) (c : Compiled) : Type 0 where
  pub code : Code
  pub is : m ≡ Some code
  pub whole : c ≡ record { effect = effect; code = code }

pub compiled_of : (effect : Effect) (m : Option Code) (c : Compiled) → with_effect effect m ≡ Some c → IsCompiled effect m c
compiled_of effect None c e = absurd (let clash : None ≡ Some c = e in cc)
compiled_of effect (Some k) c e = record { code = k; is = refl; whole = by e }
  where
    only : Option Compiled → Compiled
    only None = c
    only (Some x) = x

    by : Some (record { effect = effect; code = k }) ≡ Some c → c ≡ record { effect = effect; code = k }
    by h = sym (ap only h)

-- the two sets that a goal is made of
pub record IsGoalOf (q : Question) (a b : Option (List Compiled)) (t : Tree) : Type 0 where
  pub first : List Compiled
  pub second : List Compiled
  pub first_is : a ≡ Some first
  pub second_is : b ≡ Some second
  pub whole : t ≡ goal_of q first second

pub goal_parts : (q : Question) (a b : Option (List Compiled)) (t : Tree) → option_and_then (λ (x : List Compiled). option_map (goal_of q x) b) a ≡ Some t → IsGoalOf q a b t
goal_parts q None b t e = absurd (let clash : None ≡ Some t = e in cc)
goal_parts q (Some x) None t e = absurd (let clash : None ≡ Some t = e in cc)
goal_parts q (Some x) (Some y) t e = record { first = x; second = y; first_is = refl; second_is = refl; whole = by e }
  where
    only : Option Tree → Tree
    only None = t
    only (Some s) = s

    by : Some (goal_of q x y) ≡ Some t → t ≡ goal_of q x y
    by h = sym (ap only h)

-- ---- what is known of the crates below

abbrev pub CodesAgree : Type 0
CodesAgree = (s : Declarations) (env : Env) (lits : List Uid) (w : World) (p : Policy) (c : Code)
    → IsLawful s → IsWellFormed s env lits w → AllByRecursion (Contains lits) (policy_uids p) → policy_code s env p ≡ Some c → Agrees w c (eval (condition p) w)

abbrev pub AllowIs : Type 0
AllowIs = (w : World) (cs : List Compiled) (ps : List Policy) → AllZip (Represents w) cs ps → val (allow cs) w ≡ yes (allows w ps)

abbrev pub AnyErrorIs : Type 0
AnyErrorIs = (w : World) (cs : List Compiled) (ps : List Policy) → AllZip (Represents w) cs ps → val (any_error cs) w ≡ yes (list_any (errs w) ps)

-- ---- truth values

not_not : (b : Bool) → b ≡ not (not b)
not_not true = refl
not_not false = refl

not_implied : (p q : Bool) → (p && not q) ≡ not (not p || q)
not_implied true q = refl
not_implied false q = refl

one_same : (p q : Bool) → values.same p q ≡ same p q
one_same true q = refl
one_same false q = refl

-- ---- policies in a world

module _ (agree : CodesAgree) (s : Declarations) (env : Env) (lits : List Uid) (w : World) (lawful : IsLawful s) (formed : IsWellFormed s env lits w) where
  one_represents : (p : Policy) (c : Compiled) → ((u : Uid) → Contains (policy_uids p) u → Contains lits u) → compiled s env p ≡ Some c → Represents w c p
  one_represents p c within e =
      let k = compiled_of p.effect (policy_code s env p) c e in
      subst (λ (d : Compiled). Represents w d p) (sym k.whole)
      (record { effect = refl; agrees = agree s env lits w p k.code lawful formed (all_of_elements (Contains lits) (policy_uids p) within) k.is })

  pub all_represent : (ps : List Policy) (cs : List Compiled) → ((u : Uid) → Contains (uids_of ps) u → Contains lits u) → all_compiled s env ps ≡ Some cs → AllZip (Represents w) cs ps
  all_represent [] cs within e = subst (λ (ds : List Compiled). AllZip (Represents w) ds []) (sym (no_parts cs e)) tt
  all_represent (p ∷ ps) cs within e =
      let k = parts_of (compiled s env p) (all_compiled s env ps) cs e in
      let here : Represents w k.first p = one_represents p k.first (λ u has. within u (Contains-append_left (policy_uids p) (uids_of ps) u has)) k.first_is in
      let later : AllZip (Represents w) k.rest ps = all_represent ps k.rest (λ u has. within u (Contains-append_right (policy_uids p) (uids_of ps) u has)) k.rest_is in
      subst (λ (ds : List Compiled). AllZip (Represents w) ds (p ∷ ps)) (sym k.whole) (here, later)

-- ---- the goal

module _ (agree : CodesAgree) (negation : Negation) (both : Both) (equation : Equation) (allow_is : AllowIs) (any_error_is : AnyErrorIs) where
  goal_value : (q : Question) (a b : List Policy) (x y : List Compiled) (w : World) → AllZip (Represents w) x a → AllZip (Represents w) y b → val (goal_of q x y) w ≡ yes (not (has q a b w))
  goal_value NeverErrors a b x y w h k = any_error_is w x a h ∙ ap yes (not_not (list_any (errs w) a))
  goal_value AlwaysAllows a b x y w h k = not_is negation (allow x) w (allows w a) (allow_is w x a h)
  goal_value AlwaysDenies a b x y w h k = allow_is w x a h ∙ ap yes (not_not (allows w a))
  goal_value Implies a b x y w h k =
      and_is both (allow x) (not_term (allow y)) w (allows w a) (not (allows w b)) (allow_is w x a h) (not_is negation (allow y) w (allows w b) (allow_is w y b k))
      ∙ ap yes (not_implied (allows w a) (allows w b))
  goal_value Equivalent a b x y w h k =
      not_is negation (equal_term (allow x) (allow y)) w (values.same (allows w a) (allows w b)) (equal_is equation (allow x) (allow y) w (allows w a) (allows w b) (allow_is w x a h) (allow_is w y b k))
      ∙ ap (λ (p : Bool). yes (not p)) (one_same (allows w a) (allows w b))
  goal_value Disjoint a b x y w h k =
      and_is both (allow x) (allow y) w (allows w a) (allows w b) (allow_is w x a h) (allow_is w y b k) ∙ ap yes (not_not (allows w a && allows w b))

  pub goal_is_right : (s : Declarations) (env : Env) (lits : List Uid) (w : World) (q : Question) (a b : List Policy) (t : Tree) → IsLawful s → IsWellFormed s env lits w
      → ((u : Uid) → Contains (uids_of a) u → Contains lits u) → ((u : Uid) → Contains (uids_of b) u → Contains lits u)
      → goal_term s env q a b ≡ Some t → truth (val t w) ≡ not (has q a b w)
  goal_is_right s env lits w q a b t lawful formed of_a of_b e =
      let k = goal_parts q (all_compiled s env a) (all_compiled s env b) t e in
      let x = all_represent agree s env lits w lawful formed a k.first of_a k.first_is in
      let y = all_represent agree s env lits w lawful formed b k.second of_b k.second_is in
      ap (λ (r : Tree). truth (val r w)) k.whole ∙ ap truth (goal_value q a b k.first k.second w x y) ∙ truth_yes (not (has q a b w))
