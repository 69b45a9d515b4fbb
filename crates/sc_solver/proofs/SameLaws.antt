-- Problems of one goal have the same instances and clauses, however their terms are numbered.
use Rattle.std.proofs.Common.{◌≡◌, ◌-◌, ◌==◌, ◌&&◌, ◌++◌, ℕ, List, [], ◌∷◌, Bool, true, false, cond, map, filter, flat_map, length, slice_get, slice_index_or, Option, Some, None, option_map, IsSomeAnd, IsTrue, Ok, refl, sym, ap, ◌∙◌, subst}
use Rattle.std.specs.Str.{bytes_eq}
use Rattle.std.proofs.lemmas.Option.{slice_get-map}
use Rattle.sc_clauses.specs.declared.step.Instance.{Instance}
use Rattle.sc_clauses.specs.declared.step.Step.{Step}
use Rattle.sc_clauses.specs.declared.step.Step.TheVariants as step
use Rattle.sc_clauses.specs.Clauses.{Clause, negation}
use Rattle.sc_schema.specs.declared.declarations.Env.{Env}
use Rattle.sc_schema.specs.Declarations.{Declarations}
use Rattle.sc_terms.specs.Tables.{tree}
use Rattle.sc_terms.specs.Trees.{Tree}
use Rattle.sc_footprint.specs.Atoms.{atoms_among}
use Rattle.sc_footprint.specs.Definitions.{defining, definition_clauses, address_clauses, is_address}
use Rattle.sc_footprint.specs.Problems.{Posed, IsPosed, AreClosed, atoms, closed_terms, goal_term, literal, literal_in, number_among, numbered, term_of}
use Rattle.sc_rule_laws.specs.Signed.{Signed, Said}
use Rattle.sc_rule_laws.specs.Equal.{eq1, eq2, eq3, eq4, eq5, eq6, eq7, eq8}
use Rattle.sc_rule_laws.specs.Sets.{se1, se2, se3, se4, se5, se6, se7, se8, se9, se10}
use Rattle.sc_rule_laws.specs.Entities.{en1, en2, en3, en4, en5, en6, en7, en8, eq9}
use Rattle.sc_rule_laws.specs.Strings.{Pattern, st1, st2, st3}
use Rattle.sc_rule_instances.specs.Clauses.{clause_for, is_clause, is_instance, said_clause}
use Rattle.sc_rule_instances.specs.Instances.{on_one, on_two, on_three, on_four, equal_said, set_said, entity_said, said_by, equal_of, set_of, entity_of}
use Rattle.sc_rule_instances.specs.Names.{equal_rule, set_rule, entity_rule}
use Rattle.sc_rule_instances.specs.declared.rule.EqualRule.{EqualRule}
use Rattle.sc_rule_instances.specs.declared.rule.EqualRule.TheVariants.{Eq1, Eq2, Eq3, Eq4, Eq5, Eq6, Eq7, Eq8}
use Rattle.sc_rule_instances.specs.declared.rule.SetRule.{SetRule}
use Rattle.sc_rule_instances.specs.declared.rule.SetRule.TheVariants.{Se1, Se2, Se3, Se4, Se5, Se6, Se7, Se8, Se9, Se10}
use Rattle.sc_rule_instances.specs.declared.rule.EntityRule.{EntityRule}
use Rattle.sc_rule_instances.specs.declared.rule.EntityRule.TheVariants.{En1, En2, En3, En4, En5, En6, En7, En8, Eq9}
use Rattle.th_strings_instances.specs.Instances.{with_term, all_at, on_all, said_of, string_of, IsCrowded, IsInstanceOf}
use Rattle.th_strings_instances.specs.Names.{string_rule}
use Rattle.th_strings_instances.specs.Patterns.{patterns, with_asked}
use Rattle.th_strings_instances.specs.declared.rule.StringRule.{StringRule}
use Rattle.th_strings_instances.specs.declared.rule.StringRule.TheVariants.{St1, St2, St3}
use Rattle.th_defs.specs.Instances.{is_definition, is_before_last, number_in}
use Rattle.sc_solver.specs.declared.family.Family.{Family}
use Rattle.sc_solver.specs.declared.family.Family.TheVariants.{Definition, Equal, Set, Entity, String, Other}
use Rattle.sc_solver.specs.Families.{family}
use Rattle.sc_solver.specs.Theories.{has_of, clause_of, HasRule, rule_clause}
use Rattle.sc_checker.specs.Streams.{IsAcceptedText}
use Rattle.sc_checker.specs.Verdicts.{IsAdded, Adds, no_step, first_step}

numbered_by : {X Y : Type 0} (f : X → Y) (xs : List X) (k : ℕ) (b : Bool) → option_map f (cond b None (slice_get xs k)) ≡ cond b None (slice_get (map f xs) k)
numbered_by f xs k true = refl
numbered_by f xs k false = sym (slice_get-map f xs k)

-- the one of a number among what a list is mapped to
numbered-map : {X Y : Type 0} (f : X → Y) (xs : List X) (n : ℕ) → option_map f (numbered xs n) ≡ numbered (map f xs) n
numbered-map f xs n = numbered_by f xs (n - 1) (n == 0)

same_said : {R : Type 0} (f g : R → Said) → ((r : R) → f r ≡ g r) → (o : Option R) → said_by f o ≡ said_by g o
same_said f g h (Some r) = h r
same_said f g h None = refl

module _ (p q : Posed) (schema : p.schema ≡ q.schema) (goal : goal_term p ≡ goal_term q) (closed : closed_terms p ≡ closed_terms q) where
  terms : (n : ℕ) → term_of p n ≡ term_of q n
  terms n = numbered-map (tree p.nodes) p.closed n ∙ (ap (λ (ts : List Tree). numbered ts n) closed ∙ sym (numbered-map (tree q.nodes) q.closed n))

  same_atoms : atoms p ≡ atoms q
  same_atoms = ap atoms_among closed

  same_literal : (t : Tree) → literal_in p t ≡ literal_in q t
  same_literal t = λ i. literal (number_among (same_atoms i)) t

  pub same_defining : defining p ≡ defining q
  same_defining = λ i.
      flat_map (definition_clauses (λ (t : Tree). literal (number_among (same_atoms i)) t)) (same_atoms i)
      ++ (flat_map (address_clauses (λ (t : Tree). literal (number_among (same_atoms i)) t)) (filter is_address (closed i))
      ++ (literal (number_among (same_atoms i)) (goal i) ∷ []) ∷ [])

  -- ---- what is said

  equal_same : (rule : EqualRule) → equal_said p rule ≡ equal_said q rule
  equal_same (Eq1 a b c) = λ i. on_three (terms a i) (terms b i) (terms c i) eq1
  equal_same (Eq2 x k) = λ i. on_one (terms x i) (λ t. eq2 t k)
  equal_same (Eq3 r s k) = λ i. on_two (terms r i) (terms s i) (λ t u. eq3 t u k)
  equal_same (Eq4 r s) = λ i. on_two (terms r i) (terms s i) eq4
  equal_same (Eq5 o u) = λ i. on_two (terms o i) (terms u i) eq5
  equal_same (Eq6 o u) = λ i. on_two (terms o i) (terms u i) eq6
  equal_same (Eq7 o v k) = λ i. on_two (terms o i) (terms v i) (λ t u. eq7 t u k)
  equal_same (Eq8 o) = λ i. on_one (terms o i) eq8

  set_same : (rule : SetRule) → set_said p rule ≡ set_said q rule
  set_same (Se1 x y s) = λ i. on_three (terms x i) (terms y i) (terms s i) se1
  set_same (Se2 x s) = λ i. on_two (terms x i) (terms s i) se2
  set_same (Se3 x s k) = λ i. on_two (terms x i) (terms s i) (λ t u. se3 t u k)
  set_same (Se4 s t x) = λ i. on_three (terms s i) (terms t i) (terms x i) se4
  set_same (Se5 s t k) = λ i. on_two (terms s i) (terms t i) (λ u v. se5 u v k)
  set_same (Se6 s t k) = λ i. on_two (terms s i) (terms t i) (λ u v. se6 u v k)
  set_same (Se7 s t x) = λ i. on_three (terms s i) (terms t i) (terms x i) se7
  set_same (Se8 s t k) = λ i. on_two (terms s i) (terms t i) (λ u v. se8 u v k)
  set_same (Se9 s t k) = λ i. on_two (terms s i) (terms t i) (λ u v. se9 u v k)
  set_same (Se10 s t k) = λ i. on_two (terms s i) (terms t i) (λ u v. se10 u v k)

  entity_same : (rule : EntityRule) → entity_said p rule ≡ entity_said q rule
  entity_same (En1 x y k) = λ i. on_two (terms x i) (terms y i) (λ t u. en1 t u k (terms k i))
  entity_same (En2 x s z) = λ i. on_three (terms x i) (terms s i) (terms z i) en2
  entity_same (En3 x y k) = λ i. on_two (terms x i) (terms y i) (λ t u. en3 t u k (terms k i))
  entity_same (En4 e) = λ i. on_one (terms e i) en4
  entity_same (En5 e f x u) = λ i. on_four (terms e i) (terms f i) (terms x i) (terms u i) en5
  entity_same (En6 a) = λ i. on_one (terms a i) en6
  entity_same (En7 s x) = λ i. on_two (terms s i) (terms x i) (en7 (schema i))
  entity_same (En8 x) = λ i. on_one (terms x i) (en8 (schema i))
  entity_same (Eq9 x) = λ i. on_one (terms x i) (eq9 (schema i))

  all_same : (ns : List ℕ) → all_at p ns ≡ all_at q ns
  all_same [] = refl
  all_same (n ∷ ns) = λ i. with_term (terms n i) (all_same ns i)

  same_patterns : patterns p ≡ patterns q
  same_patterns = ap (with_asked []) closed

  string_same : (rule : StringRule) → said_of p (patterns p) rule ≡ said_of q (patterns q) rule
  string_same (St1 a b k) = λ i. on_two (terms a i) (terms b i) (λ t u. st1 (same_patterns i) t u k)
  string_same (St2 v ns) = λ i. on_all (all_same ns i) (st2 (same_patterns i) v)
  string_same (St3 v ns) = λ i. on_all (all_same ns i) (st3 (same_patterns i) v)

  -- ---- instances and clauses

  same_clause_for : (parts : List Signed) → clause_for p parts ≡ clause_for q parts
  same_clause_for parts = λ i. map (λ (s : Signed). cond s.0 (same_literal s.1 i) (negation (same_literal s.1 i))) parts

  same_instance : (s t : Said) → s ≡ t → is_instance p s ≡ is_instance q t
  unfolding is_instance
  same_instance s t e = by s ∙ ap (is_instance q) e
    where
      by : (o : Said) → is_instance p o ≡ is_instance q o
      by None = refl
      by (Some parts) = ap is_clause (same_clause_for parts)

  same_said_clause : (s t : Said) → s ≡ t → said_clause p s ≡ said_clause q t
  unfolding said_clause
  same_said_clause s t e = by s ∙ ap (said_clause q) e
    where
      by : (o : Said) → said_clause p o ≡ said_clause q o
      by None = refl
      by (Some parts) = same_clause_for parts

  equal_is : (i : Instance) → equal_of p i ≡ equal_of q i
  equal_is i = same_said (equal_said p) (equal_said q) equal_same (equal_rule i)

  set_is : (i : Instance) → set_of p i ≡ set_of q i
  set_is i = same_said (set_said p) (set_said q) set_same (set_rule i)

  entity_is : (i : Instance) → entity_of p i ≡ entity_of q i
  entity_is i = same_said (entity_said p) (entity_said q) entity_same (entity_rule i)

  string_is : (i : Instance) → string_of p i ≡ string_of q i
  string_is i = same_said (λ r. said_of p (patterns p) r) (λ r. said_of q (patterns q) r) string_same (string_rule i)

  definition_is : (i : Instance) → is_definition p i ≡ is_definition q i
  definition_is i = ap (λ (cs : List Clause). bytes_eq i.rule [] && is_before_last cs (number_in i.words)) same_defining

  string_has : (o : Option StringRule) → IsSomeAnd o (IsInstanceOf p (patterns p)) → IsSomeAnd o (IsInstanceOf q (patterns q))
  string_has None h = h
  string_has (Some rule) h = (
    subst IsTrue (same_instance (said_of p (patterns p) rule) (said_of q (patterns q) rule) (string_same rule)) h.0,
    subst (λ (qs : List Pattern). IsCrowded qs rule) same_patterns h.1,
  )

  pub rule_moves : (i : Instance) → HasRule p i → HasRule q i
  unfolding has_of
  rule_moves i h = by (family i.rule) h
    where
      by : (f : Family) → has_of f p i → has_of f q i
      by Definition h = subst IsTrue (definition_is i) h
      by Equal h = subst IsTrue (same_instance (equal_of p i) (equal_of q i) (equal_is i)) h
      by Set h = subst IsTrue (same_instance (set_of p i) (set_of q i) (set_is i)) h
      by Entity h = subst IsTrue (same_instance (entity_of p i) (entity_of q i) (entity_is i)) h
      by String h = string_has (string_rule i) h
      by Other h = h

  pub clause_same : (i : Instance) → rule_clause p i ≡ rule_clause q i
  unfolding clause_of
  clause_same i = by (family i.rule)
    where
      by : (f : Family) → clause_of f p i ≡ clause_of f q i
      by Definition = ap (λ (cs : List Clause). slice_index_or cs (number_in i.words - 1) []) same_defining
      by Equal = same_said_clause (equal_of p i) (equal_of q i) (equal_is i)
      by Set = same_said_clause (set_of p i) (set_of q i) (set_is i)
      by Entity = same_said_clause (entity_of p i) (entity_of q i) (entity_is i)
      by String = same_said_clause (string_of p i) (string_of q i) (string_is i)
      by Other = refl

  -- ---- logs

  added_moves : (n : ℕ) (clauses : List Clause) (s : Step) (c : Clause) → IsAdded (HasRule p) (rule_clause p) n clauses s (Ok c) → IsAdded (HasRule q) (rule_clause q) n clauses s (Ok c)
  added_moves n clauses (step.Instance i) c a = (rule_moves i a.0, a.1 ∙ clause_same i)
  added_moves n clauses (step.Learned l) c a = a

  adds_move : (n : ℕ) (clauses : List Clause) (steps : List Step) (cs : List Clause) → Adds (HasRule p) (rule_clause p) n clauses steps cs → Adds (HasRule q) (rule_clause q) n clauses steps cs
  adds_move n _ _ _ (no_step clauses) = no_step clauses
  adds_move n _ _ _ (first_step clauses s ss c cs adds rest) = first_step clauses s ss c cs (added_moves n clauses s c adds) (adds_move n (clauses ++ c ∷ []) ss cs rest)

  pub text_moves : (text : List ℕ) → IsAcceptedText (HasRule p) (rule_clause p) p text → IsAcceptedText (HasRule q) (rule_clause q) q text
  text_moves text a =
      let before = a.accepted.before in
      let moved = adds_move (length (atoms p)) (defining p) a.steps (before ++ [] ∷ []) a.accepted.steps_add in
      record {
        steps = a.steps;
        writable = a.writable;
        text = a.text;
        accepted = record {
          before = before;
          steps_add = subst (λ (ds : List Clause). Adds (HasRule q) (rule_clause q) (length (atoms q)) ds a.steps (before ++ [] ∷ [])) same_defining
              (subst (λ (ts : List Tree). Adds (HasRule q) (rule_clause q) (length ts) (defining p) a.steps (before ++ [] ∷ [])) same_atoms moved);
        };
      }

-- ---- problems of one goal

abbrev pub OneClosed : Type 0
OneClosed = (d : Declarations) (env : Env) (goal : Tree) (ts us : List Tree) → AreClosed d env goal ts → AreClosed d env goal us → ts ≡ us

pub same_closed : OneClosed → (p q : Posed) → IsPosed p → IsPosed q → p.schema ≡ q.schema → p.env ≡ q.env → goal_term p ≡ goal_term q → closed_terms p ≡ closed_terms q
same_closed one p q a b schema env goal =
    one q.schema q.env (goal_term q) (closed_terms p) (closed_terms q)
    (subst (λ (d : Declarations). AreClosed d q.env (goal_term q) (closed_terms p)) schema
    (subst (λ (e : Env). AreClosed p.schema e (goal_term q) (closed_terms p)) env
    (subst (λ (t : Tree). AreClosed p.schema p.env t (closed_terms p)) goal a.are_closed))) b.are_closed

pub accepted_moves : OneClosed → (p q : Posed) (text : List ℕ) → IsPosed p → IsPosed q → p.schema ≡ q.schema → p.env ≡ q.env → goal_term p ≡ goal_term q → IsAcceptedText (HasRule p) (rule_clause p) p text
    → IsAcceptedText (HasRule q) (rule_clause q) q text
accepted_moves one p q text a b schema env goal h = text_moves p q schema goal (same_closed one p q a b schema env goal) text h
