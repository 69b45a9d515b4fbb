-- What is promised of the world of an assignment, from what is promised of a world in which its entities are given.
use Rattle.std.proofs.Common.{◌≡◌, ◌-◌, ◌==◌, ℕ, Bool, true, false, cond, not, List, [], Option, Some, None, IfSome, Result, Ok, Err, IfOk, unwrap_or, slice_get, refl, sym, ap, subst, ◌∙◌, arith}
use Rattle.std.specs.List.{AllByRecursion, Contains}
use Rattle.std.specs.Str.{IsUtf8}
use Rattle.std.proofs.lemmas.Bool.{and_parts}
use Rattle.std.proofs.lemmas.Str.{IsUtf8-nil}
use Rattle.sc_laws.proofs.BoolLaws.{not_true}
use Rattle.sc_lists.proofs.ListLaws.{all_element, contains_place}
use Rattle.sc_lists.proofs.MemberLaws.{Contains-from_Has}
use Rattle.sc_lists.specs.Members.{Has}
use Rattle.sc_names.specs.declared.uid.Uid.{Uid}
use Rattle.sc_clauses.specs.declared.lit.Lit.{Lit}
use Rattle.sc_clauses.specs.Assignments.{Assignment, value_of}
use Rattle.sc_clauses.specs.Clauses.{Clause, positive, holds}
use Rattle.sc_schema.specs.declared.declarations.Env.{Env}
use Rattle.sc_schema.specs.Declarations.{Declarations}
use Rattle.sc_world.specs.declared.world.Request.{Request}
use Rattle.sc_world.specs.declared.world.World.{World}
use Rattle.sc_world.specs.Given.{AreAsGiven, StoresNamedWith}
use Rattle.sc_world.specs.Named.{IsRequestAmong}
use Rattle.sc_world.specs.Sound.{AreSound}
use Rattle.sc_world.specs.Stores.{Entities}
use Rattle.sc_world.specs.WellFormed.{IsWellFormed}
use Rattle.sc_sorts.specs.declared.sort.Sort.TheVariants as sort
use Rattle.sc_terms.specs.Trees.{Tree}
use Rattle.sc_terms.specs.TreeSorts.{tree_sort}
use Rattle.sc_terms.specs.Values.{truth}
use Rattle.sc_terms.proofs.FoldValues.{truth_yes}
use Rattle.sc_term_laws.proofs.JudgingLaws.{sort_is}
use Rattle.sc_term_definitions.specs.Truths.{is_true}
use Rattle.sc_footprint.specs.Atoms.{is_atom, is_bool, is_opposite}
use Rattle.sc_footprint.specs.Closure.{Closed, of_goal}
use Rattle.sc_footprint.specs.Goals.{has_pick}
use Rattle.sc_rule_laws.proofs.MemberLaws.{filter_within, filter_passes}
use Rattle.sc_footprint.specs.Definitions.{defining}
use Rattle.sc_footprint.specs.Problems.{Posed, IsPosed, goal_term, closed_terms, atoms, atom_number, numbered, number_among, literal_in}
use Rattle.sc_footprint.specs.Theories.{IsClauseOf}
use Rattle.sc_footprint.specs.Truths.{is_true_at, truths, IsWorldOf, Satisfies}
use Rattle.sc_footprint.proofs.NumberingLaws.{within_count}
use Rattle.sc_footprint.proofs.TruthLaws.{bool_sort, holds_positive}
use Rattle.sc_model_consistency.proofs.LiteralLaws.{IsLiteral, of_false, of_not, of_atom, literal_is}
use Rattle.sc_model_laws.specs.Assignments.{lit}
use Rattle.sc_model_laws.specs.Laws.{TruthsAreRight, PlainIsCovered}
use Rattle.sc_model_laws.specs.Models.{IsModel}
use Rattle.sc_model_laws.specs.Vals.{Model}
use Rattle.sc_model_consistency.specs.Models.{truth_in, model}
use Rattle.sc_model_world_laws.specs.Laws.{AreTexts, CanBeRebuilt, RebuiltHoldsModel}
use Rattle.sc_model_world_laws.specs.Rebuilt.{request_of, given_of, IsRebuilt}
use Rattle.sc_solver.specs.Rebuilding.{IsConsistent, HasTruths}
use Rattle.sc_solver.proofs.AssignedLaws.{valued_in, valued, literal_told, goal_told}
use Rattle.sc_solver.proofs.NumberLaws.{atom_there, number_is}

-- ---- names are texts

some_text : (names : List (List ℕ)) (k : ℕ) (o : Option (List ℕ)) → AllByRecursion IsUtf8 names → slice_get names k ≡ o
    → IsUtf8 (unwrap_or o [])
some_text names k None h e = IsUtf8-nil
some_text names k (Some t) h e = all_element IsUtf8 names t h (contains_place names k t e)

name_text : (names : List (List ℕ)) (n : ℕ) → AllByRecursion IsUtf8 names → IsUtf8 (unwrap_or (numbered names n) [])
name_text names n h = by (n == 0)
  where
    by : (b : Bool) → IsUtf8 (unwrap_or (cond b None (slice_get names (n - 1))) [])
    by true = IsUtf8-nil
    by false = some_text names (n - 1) (slice_get names (n - 1)) h refl

are_texts : (p : Posed) (m : Assignment) (names : List (List ℕ)) → AllByRecursion IsUtf8 names
    → AreTexts p.schema p.env (goal_term p) (model p m names)
unfolding model
are_texts p m names h = record {
  texts = λ x c. name_text names (number_among (closed_terms p) x) h;
  ids = λ x c. name_text names (number_among (closed_terms p) x) h;
}

-- ---- worlds in which entities are given

pub record IsWorldWith {E : Type 0} (s : Declarations) (given : Entities) (request : Request) (literals : List Uid)
    (r : Result World E) : Type 0 where
  pub of_request : IfOk r (λ w. w.request ≡ request)
  pub value : IfOk r (λ w. AreAsGiven s given w.store)
  pub exact : IfOk r (λ w. StoresNamedWith s given request literals w.store)
  pub well_formed : (env : Env) → IsRequestAmong s env request literals → AreSound s given → IfOk r (IsWellFormed s env literals)

-- the request and the entities of a model
abbrev pub IsWorldOfModel : {E : Type 0} → Posed → Model → Result World E → Type 0
IsWorldOfModel p m r = IsWorldWith p.schema (given_of p.schema m) (request_of p.schema p.env m) p.literals r

pub of_model : {E : Type 0} (p : Posed) (m : Model) (s : Declarations) (given : Entities) (request : Request) (literals : List Uid)
    (r : Result World E) → s ≡ p.schema → given ≡ given_of p.schema m → request ≡ request_of p.schema p.env m → literals ≡ p.literals
    → IsWorldWith s given request literals r → IsWorldOfModel p m r
of_model p m s given request literals r schema_is given_is request_is literals_are h =
    subst (λ (ls : List Uid). IsWorldWith p.schema (given_of p.schema m) (request_of p.schema p.env m) ls r) literals_are
    (subst (λ (q : Request). IsWorldWith p.schema (given_of p.schema m) q literals r) request_is
    (subst (λ (es : Entities). IsWorldWith p.schema es request literals r) given_is
    (subst (λ (d : Declarations). IsWorldWith d given request literals r) schema_is h)))

-- what is proved of models and their worlds
pub record WorldLaws : Type 0 where
  pub possible : CanBeRebuilt
  pub holds_there : RebuiltHoldsModel
  pub right : TruthsAreRight
  pub covered : PlainIsCovered

-- ---- the literal of an atom

atom_literal : (number : Tree → ℕ) (t : Tree) (l : Lit) → IsLiteral number t l → is_opposite t ≡ false → l ≡ positive (number t)
atom_literal number _ _ of_false e = absurd cc
atom_literal number _ _ (of_not a l h) e = absurd cc
atom_literal number _ _ (of_atom t o) e = refl

-- ---- the world of a model

module _ (laws : WorldLaws) (p : Posed) (posed : IsPosed p) (lawful : (c : Clause) → Contains (defining p) c → IsClauseOf p c)
    (m : Assignment) (is : IsConsistent p m) (names : List (List ℕ))
    (model_is : IsModel p.schema p.env (goal_term p) (model p m names)) where
  module _ (w : World) (rebuilt : IsRebuilt p.schema p.env p.literals (model p m names) w) where
    assigned_told : (t : Tree) → Closed p.schema p.env (goal_term p) t → tree_sort t ≡ sort.Bool → has_pick t ≡ false
        → is_true t w ≡ lit (truth_in p m) t
    unfolding model
    assigned_told t c s plain =
        let there = laws.holds_there p.schema p.env p.literals (goal_term p) (model p m names) w posed.lawful posed.goal_is model_is rebuilt in
        ap truth
        (laws.right p.schema p.env p.literals (goal_term p) (model p m names) w t posed.lawful posed.goal_is model_is there c s
        (laws.covered t plain))
        ∙ truth_yes (lit (truth_in p m) t)

    -- a closed truth value in which no member is picked has the truth of its literal
    told : (t : Tree) → Closed p.schema p.env (goal_term p) t → tree_sort t ≡ sort.Bool → has_pick t ≡ false
        → is_true t w ≡ holds (valued_in m) (literal_in p t)
    told t c s plain = assigned_told t c s plain ∙ sym (literal_told p posed lawful m is.total is.defined t)

    goal_true : is_true (goal_term p) w ≡ true
    goal_true =
        told (goal_term p) of_goal (sort_is p.schema p.env p.literals sort.Bool (goal_term p) posed.goal_is.term) posed.goal_is.plain
        ∙ goal_told p posed lawful m is.total is.defined

    atom_told : (n : ℕ) (t : Tree) → numbered (atoms p) n ≡ Some t → has_pick t ≡ false → value_of m n ≡ Some (truths p w n)
    atom_told n t e plain =
        let there : Has (atoms p) t = atom_there p n t e in
        let closed : Closed p.schema p.env (goal_term p) t =
        (posed.are_closed.just t).0 (Contains-from_Has (closed_terms p) t (filter_within is_atom (closed_terms p) t there)) in
        let (bool, upright) = and_parts (is_bool t) (not (is_opposite t)) (filter_passes is_atom (closed_terms p) t there) in
        let (least, most) = within_count (atoms p) n t e in
        let literal_is_number : literal_in p t ≡ positive n =
        atom_literal (atom_number p) t (literal_in p t) (literal_is (atom_number p) t) (not_true (is_opposite t) (sym upright))
        ∙ ap positive (number_is p posed n t e) in
        let value : is_true t w ≡ valued_in m n =
        told t closed (bool_sort t bool) plain ∙ ap (holds (valued_in m)) literal_is_number ∙ holds_positive (valued_in m) n in
        valued p posed lawful m is.total is.defined n (omega (arith, least)) most
        ∙ ap Some (sym value ∙ sym (ap (λ (o : Option Tree). is_true_at o w) e))

    truths_told : HasTruths p m w
    truths_told n = by (numbered (atoms p) n) refl
      where
        by : (o : Option Tree) → numbered (atoms p) n ≡ o → IfSome o (λ t. has_pick t ≡ false → value_of m n ≡ Some (truths p w n))
        by None e = tt
        by (Some t) e = atom_told n t e

  module _ {E : Type 0} (r : Result World E) (texts : AllByRecursion IsUtf8 names) (built : IsWorldOfModel p (model p m names) r) where
    pub well_formed : IfOk r (IsWorldOf p)
    well_formed =
        let can = laws.possible p.schema p.env p.literals (goal_term p) (model p m names) posed.lawful posed.goal_is model_is
        (are_texts p m names texts) in
        built.well_formed p.env can.0 can.1

    where_rebuilt : (P : World → Type 0)
        → ((w : World) → IsRebuilt p.schema p.env p.literals (model p m names) w → IsWorldOf p w → P w) → IfOk r P
    where_rebuilt P f = by r built.of_request built.value built.exact well_formed
      where
        by : (s : Result World E) → IfOk s (λ w. w.request ≡ request_of p.schema p.env (model p m names))
            → IfOk s (λ w. AreAsGiven p.schema (given_of p.schema (model p m names)) w.store)
            → IfOk s (λ w. StoresNamedWith p.schema (given_of p.schema (model p m names)) (request_of p.schema p.env (model p m names)) p.literals w.store)
            → IfOk s (IsWorldOf p) → IfOk s P
        by (Err e) asked value exact formed = tt
        by (Ok w) asked value exact formed =
            f w (record { request = asked; ascending = formed.proper.store; given = value; stored = exact }) formed

    pub has_truths : IfOk r (HasTruths p m)
    has_truths = where_rebuilt (HasTruths p m) (λ w rebuilt formed. truths_told w rebuilt)

    pub satisfies : IfOk r (Satisfies p)
    satisfies = where_rebuilt (Satisfies p) (λ w rebuilt formed. record { well_formed = formed; goal_true = goal_true w rebuilt })
