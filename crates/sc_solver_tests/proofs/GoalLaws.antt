-- What is made of goals is a goal, and stays one.
use Rattle.std.proofs.Common.{◌≡◌, ◌∙◌, ◌<◌, arith, ap, ℕ, List, [], Option, Some, Bool, true, false, option_map, slice_get, get_or, length, Contains, refl, sym, subst}
use Rattle.sc_schema.specs.declared.ty.Ty.{Ty}
use Rattle.sc_sorts.specs.Plain.{Field, plain_fields}
use Rattle.sc_sorts.specs.OfTypes.{sort_of}
use Rattle.sc_sorts.specs.declared.sort.Sort.{Sort}
use Rattle.sc_sorts.specs.declared.node.Leaf.TheVariants.{Context}
use Rattle.sc_sorts.specs.declared.node.Node.{Node}
use Rattle.sc_terms.specs.Trees.{Tree, leaf}
use Rattle.sc_terms.specs.Tables.{tree, Keeps, StandsFor}
use Rattle.sc_terms.specs.Folds.{truth_term, not_term, and_term, or_term, equal_term, field_term}
use Rattle.sc_term_laws.specs.Booleans.{IsBoolean, of_truth, of_attribute, of_not, of_two, attribute_term, names_of}
use Rattle.sc_term_laws.proofs.BooleansLaws.{not_boolean, and_boolean, or_boolean, equal_boolean, field_attribute}
use Rattle.std.proofs.lemmas.Option.{slice_get-map, slice_get_read, slice_get_within, get_or_from_slice_get}
use Rattle.std.specs.List.{AllByRecursion}
use Rattle.sc_lists.proofs.ListLaws.{contains_nothing}
use Rattle.sc_names.specs.declared.uid.Uid.{Uid}
use Rattle.sc_schema.specs.declared.declarations.Env.{Env}
use Rattle.sc_schema.specs.Declarations.{Declarations, environments}
use Rattle.sc_world.specs.Named.{IsDeclared}
use Rattle.sc_sorts.specs.declared.node.BinaryOp.TheVariants as binary
use Rattle.sc_term_laws.specs.Judging.{IsTerm, IsTermOf}
use Rattle.sc_closure_rules.specs.Goals as closing
use Rattle.sc_closure_rules.specs.Goals.{has_pick, uids_of}
use Rattle.sc_closure.specs.Atoms.{is_bool}
use Rattle.sc_footprint.proofs.TruthLaws.{bool_sort}
use Rattle.sc_solver_tests.specs.Goals.{IsGoal}

goal_of : (type : Ty) (nodes : List Node) (n : ℕ) (t : Tree) → StandsFor nodes n t → IsBoolean (Some type) t → IsGoal type nodes n
goal_of type nodes n t s h = record { within = s.within; boolean = subst (IsBoolean (Some type)) (sym s.is) h }

-- ---- attributes

named_there : (fields : List Field) (i : ℕ) (f : Field) → i < length fields → f ≡ get_or fields i f → Contains (names_of fields) f.0
named_there fields i f h e =
    let there : slice_get (names_of fields) i ≡ Some f.0 = slice_get-map (λ (g : Field). g.0) fields i ∙ ap (option_map (λ (g : Field). g.0)) (slice_get_read fields (length fields) i f refl h e) in
    (i, slice_get_within (names_of fields) i f.0 there, get_or_from_slice_get (names_of fields) i f.0 f.0 there)

pub attribute_goal : (ys zs : List Node) (type : Ty) (fields : List Field) (i : ℕ) (f : Field) (s : Sort) (name : List ℕ) (c n : ℕ)
    → Some fields ≡ plain_fields type → i < length fields → f ≡ get_or fields i f → s ≡ sort_of type → StandsFor ys c (leaf (Context s)) → name ≡ f.0
    → StandsFor zs n (field_term name (tree ys c)) → IsGoal type zs n
attribute_goal ys zs type fields i f s name c n plain within got sorted at named field =
    let boolean : IsBoolean (Some type) (attribute_term type f.0) = of_attribute type fields f.0 refl (sym plain) (named_there fields i f within got) in
    record { within = field.within; boolean = field_attribute type ys zs c n s name (subst (λ (x : List ℕ). IsBoolean (Some type) (attribute_term type x)) (sym named) boolean) sorted at field }

-- ---- truth values and connectives

pub truth_goal : (type : Ty) (ys : List Node) (b : Bool) (n : ℕ) → StandsFor ys n (truth_term b) → IsGoal type ys n
truth_goal type ys b n s = goal_of type ys n (truth_term b) s (of_truth b)

pub not_goal : (type : Ty) (xs ys : List Node) (a n : ℕ) → IsGoal type xs a → StandsFor ys n (not_term (tree xs a)) → IsGoal type ys n
not_goal type xs ys a n g s = goal_of type ys n (not_term (tree xs a)) s (not_boolean (Some type) g.boolean)

pub and_goal : (type : Ty) (xs ys : List Node) (a b n : ℕ) → IsGoal type xs a → IsGoal type xs b → StandsFor ys n (and_term (tree xs a) (tree xs b)) → IsGoal type ys n
and_goal type xs ys a b n g h s = goal_of type ys n (and_term (tree xs a) (tree xs b)) s (and_boolean (Some type) (tree xs a) (tree xs b) g.boolean h.boolean)

pub or_goal : (type : Ty) (xs ys : List Node) (a b n : ℕ) → IsGoal type xs a → IsGoal type xs b → StandsFor ys n (or_term (tree xs a) (tree xs b)) → IsGoal type ys n
or_goal type xs ys a b n g h s = goal_of type ys n (or_term (tree xs a) (tree xs b)) s (or_boolean (Some type) (tree xs a) (tree xs b) g.boolean h.boolean)

pub equal_goal : (type : Ty) (xs ys : List Node) (a b n : ℕ) → IsGoal type xs a → IsGoal type xs b → StandsFor ys n (equal_term (tree xs a) (tree xs b)) → IsGoal type ys n
equal_goal type xs ys a b n g h s = goal_of type ys n (equal_term (tree xs a) (tree xs b)) s (equal_boolean (Some type) (tree xs a) (tree xs b) g.boolean h.boolean)

-- what is a goal in a table is one in what the table grows to
pub goal_kept : (type : Ty) (old new : List Node) (n : ℕ) → Keeps old new → IsGoal type old n → IsGoal type new n
goal_kept type old new n kept g = record { within = omega (arith, kept.longer, g.within); boolean = subst (IsBoolean (Some type)) (sym (kept.same n g.within)) g.boolean }

-- ---- a goal that is a term as the constructors make it may be closed

picks_none : (context : Option Ty) (t : Tree) → IsBoolean context t → has_pick t ≡ false
unfolding has_pick field_term
picks_none context _ (of_truth b) = refl
picks_none context _ (of_attribute type fields name e f h) = refl
picks_none context _ (of_not a h) = picks_none context a h
picks_none context _ (of_two binary.And a b e h k) = rw (picks_none context a h, picks_none context b k) refl
picks_none context _ (of_two binary.Or a b e h k) = rw (picks_none context a h, picks_none context b k) refl
picks_none context _ (of_two binary.Equal a b e h k) = rw (picks_none context a h, picks_none context b k) refl
picks_none context _ (of_two _ a b e h k) = absurd cc

writes_none : (context : Option Ty) (t : Tree) → IsBoolean context t → uids_of t ≡ []
unfolding uids_of field_term
writes_none context _ (of_truth b) = refl
writes_none context _ (of_attribute type fields name e f h) = refl
writes_none context _ (of_not a h) = writes_none context a h
writes_none context _ (of_two o a b e h k) = rw (writes_none context a h, writes_none context b k) refl

pub closing_goal : (d : Declarations) (env : Env) (ls : List Uid) (type : Ty) (nodes : List Node) (n : ℕ) → Contains (environments d) env → ls ≡ [] → IsGoal type nodes n → is_bool (tree nodes n) ≡ true → IsTerm d env ls (tree nodes n)
    → closing.IsGoal d env ls (tree nodes n)
closing_goal d env ls type nodes n among none goal bool term =
    let t = tree nodes n in
    record {
      environment = among;
      term = subst (λ (k : Sort). IsTermOf d env ls k t) (bool_sort t bool) term;
      plain = picks_none (Some type) t goal.boolean;
      written = λ u k. absurd (contains_nothing u (subst (λ (us : List Uid). Contains us u) (writes_none (Some type) t goal.boolean) k));
      declared = subst (AllByRecursion (IsDeclared d)) (sym none) tt;
    }
