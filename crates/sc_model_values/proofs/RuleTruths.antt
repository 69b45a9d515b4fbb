-- Where no instance is falsified, each rule holds at closed terms, where it speaks of closed terms alone.
use Rattle.std.proofs.Common.{◌≡◌, ℕ, Bool, true, false, inl, inr, List, [], ◌∷◌, length, Option, Some, None, IfSome, refl, sym, ap, ◌∙◌, subst}
use Rattle.std.specs.Bool.{⊤}
use Rattle.std.specs.List.{AllByRecursion}
use Rattle.sc_laws.proofs.BoolLaws.{never}
use Rattle.sc_lists.proofs.ListLaws.{all_weaker}
use Rattle.sc_lists.proofs.MemberLaws.{Has-from_Contains}
use Rattle.sc_lists.specs.Members.{Has}
use Rattle.sc_clauses.specs.declared.lit.Lit.{Lit}
use Rattle.sc_clauses.specs.Assignments.{Assignment}
use Rattle.sc_sorts.specs.declared.sort.Sort.{Sort, Sort-F, out-Sort}
use Rattle.sc_sorts.specs.declared.sort.Sort.TheOpen as s
use Rattle.sc_sorts.specs.contracts.sort.SortPartialEq.TheImpl.{ghosts as sorts}
use Rattle.sc_sorts.specs.declared.node.UnaryOp.{UnaryOp}
use Rattle.sc_sorts.specs.declared.node.UnaryOp.TheVariants as unary
use Rattle.sc_sorts.specs.declared.node.BinaryOp.TheVariants as binary
use Rattle.sc_terms.specs.Folds.{equal_term}
use Rattle.sc_terms.specs.Trees.{Tree, one, two}
use Rattle.sc_terms.specs.TreeSorts.{tree_sort}
use Rattle.sc_terms.specs.Tables.{tree}
use Rattle.sc_terms.proofs.OrderLaws.{tree_cmp_level}
use Rattle.sc_term_laws.specs.Judging.{IsTerm}
use Rattle.sc_footprint.specs.Atoms.{is_bool}
use Rattle.sc_footprint.specs.Problems.{Posed, IsPosed, closed_terms, goal_term, atoms, number_among, term_of}
use Rattle.sc_footprint.specs.Theories.{IsListed, TermsHold}
use Rattle.sc_footprint.proofs.NumberingLaws.{numbered_map, numbered_back}
use Rattle.sc_footprint.proofs.ProblemLaws.{literal_listed}
use Rattle.sc_rule_laws.specs.Signed.{Signed, Said, unless}
use Rattle.sc_rule_laws.specs.Equal.{eq1, eq2, eq3, eq4, eq5, eq6, eq7, eq8}
use Rattle.sc_rule_laws.specs.Sets.{se1, se2, se3, se4, se5, se6, se7, se8, se9, se10}
use Rattle.sc_rule_laws.specs.Places.{roots, half_by, half, under}
use Rattle.sc_rule_laws.specs.Entities.{en1_of, en1, en2, en3_of, en3, en4, en5, en6, en7, en8, eq9}
use Rattle.sc_rule_laws.specs.Strings.{Pattern, Signs, AreFew, st1, st3}
use Rattle.sc_rule_instances.specs.declared.rule.EqualRule.TheVariants.{Eq1, Eq2, Eq3, Eq4, Eq5, Eq6, Eq7, Eq8}
use Rattle.sc_rule_instances.specs.declared.rule.SetRule.TheVariants.{Se1, Se2, Se3, Se4, Se5, Se6, Se7, Se8, Se9, Se10}
use Rattle.sc_rule_instances.specs.declared.rule.EntityRule.TheVariants.{En1, En2, En3, En4, En5, En6, En7, En8, Eq9}
use Rattle.sc_rule_instances.specs.Clauses.{literal_for, clause_for}
use Rattle.sc_rule_instances.specs.Instances.{on_one, on_two, on_three, on_four}
use Rattle.sc_rule_instances.specs.Known.{is_falsified}
use Rattle.sc_model_laws.specs.Assignments.{some_hold}
use Rattle.sc_model_laws.specs.Consistent as rule
use Rattle.sc_model_laws.specs.Consistent.{IsRuleAt}
use Rattle.sc_model_values.specs.Models.{truth_in}
use Rattle.sc_model_values.specs.Laws.{IsClosed, AreClosed, FalsifiesNothing}
use Rattle.sc_model_values.proofs.ClauseTruths.{atom_truth, unbroken_true}
use Rattle.sc_model_values.proofs.LiteralTruths.{clause_told}
use Rattle.sc_model_values.proofs.PartSorts.{AreTruths, IsOfTruths}
use Rattle.sc_model_values.proofs.PlaceParts.{is_set_in, half_place, first_root, second_root}
use Rattle.sc_model_laws.proofs.ClosedLaws.{of_part}
use Rattle.sc_model_values.proofs.EqualParts.{eq1_truths, eq2_truths, eq3_truths, eq4_truths, eq5_truths, eq6_truths, eq7_truths, eq8_truths}
use Rattle.sc_model_values.proofs.SetParts.{se1_truths, se2_truths, se3_truths, se4_truths, se5_truths, se6_truths, se7_truths, se8_truths, se9_truths, se10_truths}
use Rattle.sc_model_values.proofs.EntityParts.{en1_truths, en2_truths, en3_truths, en4_truths, en5_truths, en6_truths, en7_truths, en8_truths, eq9_truths}

-- what is said holds, where it is of closed terms
abbrev pub HoldsIfClosed : Posed → Assignment → Said → Type 0
HoldsIfClosed p m None = ⊤
HoldsIfClosed p m (Some parts) = AreClosed p parts → some_hold (truth_in p m) parts ≡ true

-- ---- rules on closed terms

module _ (p : Posed) (m : Assignment) where
  abbrev Unbroken : Said → Type 0
  Unbroken said = is_falsified p m said ≡ false

  on_a : (rule : Tree → Said) (o : Option Tree) (a : Tree) → o ≡ Some a → Unbroken (on_one o rule) → Unbroken (rule a)
  on_a rule o a e h = subst (λ (z : Option Tree). Unbroken (on_one z rule)) e h

  on_ab : (rule : Tree → Tree → Said) (o q : Option Tree) (a b : Tree) → o ≡ Some a → q ≡ Some b → Unbroken (on_two o q rule) → Unbroken (rule a b)
  on_ab rule o q a b e f h =
      subst (λ (z : Option Tree). Unbroken (on_two (Some a) z rule)) f (subst (λ (z : Option Tree). Unbroken (on_two z q rule)) e h)

  on_abc : (rule : Tree → Tree → Tree → Said) (o q r : Option Tree) (a b c : Tree) → o ≡ Some a → q ≡ Some b → r ≡ Some c → Unbroken (on_three o q r rule)
      → Unbroken (rule a b c)
  on_abc rule o q r a b c e f g h =
      subst (λ (z : Option Tree). Unbroken (on_three (Some a) (Some b) z rule)) g
      (subst (λ (z : Option Tree). Unbroken (on_three (Some a) z r rule)) f (subst (λ (z : Option Tree). Unbroken (on_three z q r rule)) e h))

  on_abcd : (rule : Tree → Tree → Tree → Tree → Said) (o q r s : Option Tree) (a b c d : Tree) → o ≡ Some a → q ≡ Some b → r ≡ Some c → s ≡ Some d
      → Unbroken (on_four o q r s rule) → Unbroken (rule a b c d)
  on_abcd rule o q r s a b c d e f g i h =
      subst (λ (z : Option Tree). Unbroken (on_four (Some a) (Some b) (Some c) z rule)) i
      (subst (λ (z : Option Tree). Unbroken (on_four (Some a) (Some b) z s rule)) g
      (subst (λ (z : Option Tree). Unbroken (on_four (Some a) z r s rule)) f (subst (λ (z : Option Tree). Unbroken (on_four z q r s rule)) e h)))

module _ (laws : TermsHold) (p : Posed) (posed : IsPosed p) (m : Assignment) (nothing : FalsifiesNothing p m) (first : atom_truth m 1 ≡ true) where
  abbrev Is : Tree → Type 0
  Is = IsTerm p.schema p.env p.literals

  abbrev Truths : Said → Type 0
  Truths = IsOfTruths Is

  abbrev Holds : Said → Type 0
  Holds = HoldsIfClosed p m

  -- ---- closed terms

  term : (t : Tree) → IsClosed p t → Is t
  term t c = laws.closed p.schema p.env p.literals (goal_term p) t posed.lawful posed.goal_is c

  there : (t : Tree) → IsClosed p t → Has (closed_terms p) t
  there t c = Has-from_Contains (closed_terms p) t ((posed.are_closed.just t).1 c)

  -- each has a number
  number : Tree → ℕ
  number t = number_among (closed_terms p) t

  numbered : (t : Tree) → IsClosed p t → term_of p (number t) ≡ Some t
  unfolding number
  numbered t c = numbered_map (tree p.nodes) p.closed (number_among (closed_terms p) t) ∙ numbered_back tree_cmp_level (closed_terms p) t (there t c)

  -- ---- once for all rules: what isn't falsified holds

  listed : (parts : List Signed) → AreClosed p parts → AreTruths parts → (l : Lit) → Has (clause_for p parts) l → IsListed (length (atoms p)) l
  listed [] all truths l i = absurd i
  listed (s ∷ parts) all truths l (inl e) = subst (IsListed (length (atoms p))) e (by s all.0 truths.0)
    where
      by : (q : Signed) → IsClosed p q.1 → is_bool q.1 ≡ true → IsListed (length (atoms p)) (literal_for p q)
      by (true, t) c b = literal_listed laws p posed t ((posed.are_closed.just t).1 c) b
      by (false, t) c b = literal_listed laws p posed t ((posed.are_closed.just t).1 c) b
  listed (s ∷ parts) all truths l (inr i) = listed parts all.1 truths.1 l i

  said_holds : (said : Said) → is_falsified p m said ≡ false → Truths said → Holds said
  unfolding is_falsified
  said_holds None e truths = tt
  said_holds (Some parts) e truths = λ all.
      let are = truths (all_weaker (λ (s : Signed). IsClosed p s.1) (λ (s : Signed). Is s.1) (λ s c. term s.1 c) parts all) in
      sym (clause_told p posed m first parts) ∙ unbroken_true m (length (atoms p)) nothing.total first
      (clause_for p parts) (listed parts all are) e

  -- ---- like places of attributes and tags

  unsaid : is_falsified p m None ≡ false
  unfolding is_falsified
  unsaid = refl

  unsaid_under : (test : Bool) (guard : List Signed) → is_falsified p m (under test guard None) ≡ false
  unsaid_under true guard = unsaid
  unsaid_under false guard = unsaid

  unsaid_first : (r q : Tree) → is_falsified p m (en1_of r q None) ≡ false
  unsaid_first (one (unary.Attributes k) e) (one (unary.Attributes l) f) = unsaid_under (sorts.eq k l) (unless (equal_term e f) ∷ [])
  unsaid_first (one (unary.Attributes k) e) _ = unsaid
  unsaid_first _ q = unsaid

  unsaid_third : (r q : Tree) → is_falsified p m (en3_of r q None) ≡ false
  unsaid_third (two (binary.Tag j) e k) (two (binary.Tag o) f l) =
      unsaid_under (sorts.eq j o) (unless (equal_term e f) ∷ unless (equal_term k l) ∷ [])
  unsaid_third (two (binary.Tag j) e k) _ = unsaid
  unsaid_third _ q = unsaid

  -- a rule on two places, of which none is falsified whose number is that of the candidate
  module _ (rule : Tree → Tree → Said → Said) (none : (r q : Tree) → is_falsified p m (rule r q None) ≡ false) (x y : Tree) (cx : IsClosed p x) (cy : IsClosed p y)
      (known : (i : ℕ) → is_falsified p m (on_two (term_of p (number x)) (term_of p (number y)) (λ t u. rule (roots t u).0 (roots t u).1 (half t u i (term_of p i)))) ≡ false) where
    abbrev at : Said → Type 0
    at said = is_falsified p m (rule (roots x y).0 (roots x y).1 said) ≡ false

    known_at : (i : ℕ) → at (half x y i (term_of p i))
    known_at i =
        on_ab p m (λ t u. rule (roots t u).0 (roots t u).1 (half t u i (term_of p i))) (term_of p (number x)) (term_of p (number y)) x y
        (numbered x cx) (numbered y cy) (known i)

    half_at : (k : Sort-F Sort) → out-Sort (tree_sort x) ≡ k → (b : Bool) → is_set_in k ≡ b → (i : ℕ) (z : Option Tree) → IfSome z (IsClosed p) → at (half x y i z)
    half_at k e false n i z c =
        subst at (ap (λ (l : Sort-F Sort). half_by l x y i (term_of p i)) e ∙ half_place k x y i (term_of p i) z n ∙ ap (λ (l : Sort-F Sort). half_by l x y i z) (sym e)) (known_at i)
    half_at (s.Set j) e true n i (Some z) c =
        subst at (ap (λ (l : Sort-F Sort). half_by l x y (number z) (term_of p (number z))) e ∙ ap (half_by (s.Set j) x y i) (numbered z c) ∙ ap (λ (l : Sort-F Sort). half_by l x y i (Some z)) (sym e))
        (known_at (number z))
    half_at (s.Set j) e true n i None c = subst at (ap (λ (l : Sort-F Sort). half_by l x y i None) (sym e)) (none (roots x y).0 (roots x y).1)
    half_at k e true n i z c = never _ (sym n)

    places_unbroken : (i : ℕ) (z : Option Tree) → IfSome z (IsClosed p) → at (half x y i z)
    places_unbroken i z c = half_at (out-Sort (tree_sort x)) refl (is_set_in (out-Sort (tree_sort x))) refl i z c

  -- what two places are of is closed with them
  of_operator : (o : UnaryOp) (a : Tree) → IsClosed p (one o a) → IsClosed p a
  of_operator o a c = of_part p.schema p.env (goal_term p) (one o a) a c (inl refl)

  first_term : (x y : Tree) → IsClosed p x → Is (roots x y).0
  first_term x y c = term (roots x y).0 (first_root (IsClosed p) of_operator x y c)

  second_term : (x y : Tree) → IsClosed p y → Is (roots x y).1
  second_term x y c = term (roots x y).1 (second_root (IsClosed p) of_operator x y c)

  -- ---- strings

  st1_holds : (qs : List Pattern) (a b : Tree) (i : ℕ) → IsClosed p a → IsClosed p b → Holds (st1 qs a b i)
  st1_holds qs a b i ca cb = by (st1 qs a b i) refl
    where
      by : (said : Said) → st1 qs a b i ≡ said → Holds said
      by None e = tt
      by (Some parts) e = nothing.strings.st1 qs a b i parts ca cb e

  st3_holds : (qs : List Pattern) (v : Signs) (ts : List Tree) → AllByRecursion (IsClosed p) ts → AreFew qs v (length ts) → Holds (st3 qs v ts)
  st3_holds qs v ts all few = by (st3 qs v ts) refl
    where
      by : (said : Said) → st3 qs v ts ≡ said → Holds said
      by None e = tt
      by (Some parts) e = nothing.strings.st3 qs v ts parts all few e

  -- ---- each rule, at closed terms

  of_one : (rule : Tree → Said) (a : Tree) → IsClosed p a → is_falsified p m (on_one (term_of p (number a)) rule) ≡ false
      → Truths (rule a) → Holds (rule a)
  of_one rule a i h truths = said_holds (rule a) (on_a p m rule (term_of p (number a)) a (numbered a i) h) truths

  of_two : (rule : Tree → Tree → Said) (a b : Tree) → IsClosed p a → IsClosed p b
      → is_falsified p m (on_two (term_of p (number a)) (term_of p (number b)) rule) ≡ false → Truths (rule a b) → Holds (rule a b)
  of_two rule a b i j h truths =
      said_holds (rule a b) (on_ab p m rule (term_of p (number a)) (term_of p (number b)) a b (numbered a i) (numbered b j) h) truths

  of_three : (rule : Tree → Tree → Tree → Said) (a b c : Tree) → IsClosed p a → IsClosed p b → IsClosed p c
      → is_falsified p m (on_three (term_of p (number a)) (term_of p (number b)) (term_of p (number c)) rule) ≡ false
      → Truths (rule a b c) → Holds (rule a b c)
  of_three rule a b c i j k h truths =
      said_holds (rule a b c)
      (on_abc p m rule (term_of p (number a)) (term_of p (number b)) (term_of p (number c)) a b c (numbered a i) (numbered b j) (numbered c k) h) truths

  of_four : (rule : Tree → Tree → Tree → Tree → Said) (a b c d : Tree) → IsClosed p a → IsClosed p b → IsClosed p c → IsClosed p d
      → is_falsified p m (on_four (term_of p (number a)) (term_of p (number b)) (term_of p (number c)) (term_of p (number d)) rule) ≡ false
      → Truths (rule a b c d) → Holds (rule a b c d)
  of_four rule a b c d i j k l h truths =
      said_holds (rule a b c d)
      (on_abcd p m rule (term_of p (number a)) (term_of p (number b)) (term_of p (number c)) (term_of p (number d)) a b c d
      (numbered a i) (numbered b j) (numbered c k) (numbered d l) h) truths

  pub rule_holds : (said : Said) → IsRuleAt p.schema (IsClosed p) said → Holds said
  rule_holds _ (rule.of_eq1 a b c i j k) =
      of_three eq1 a b c i j k (nothing.equal (Eq1 (number a) (number b) (number c))) (eq1_truths p.schema p.env p.literals a b c)
  rule_holds _ (rule.of_eq2 x n i) =
      of_one (λ y. eq2 y n) x i (nothing.equal (Eq2 (number x) n)) (eq2_truths p.schema p.env p.literals x n (term x i))
  rule_holds _ (rule.of_eq3 r q n i j) =
      of_two (λ y z. eq3 y z n) r q i j (nothing.equal (Eq3 (number r) (number q) n))
      (eq3_truths p.schema p.env p.literals posed.lawful posed.goal_is.environment posed.goal_is.declared r q n (term r i) (term q j))
  rule_holds _ (rule.of_eq4 r q i j) =
      of_two eq4 r q i j (nothing.equal (Eq4 (number r) (number q)))
      (eq4_truths p.schema p.env p.literals posed.lawful posed.goal_is.environment posed.goal_is.declared r q (term r i) (term q j))
  rule_holds _ (rule.of_eq5 o q i j) =
      of_two eq5 o q i j (nothing.equal (Eq5 (number o) (number q)))
      (eq5_truths p.schema p.env p.literals posed.lawful posed.goal_is.environment posed.goal_is.declared o q (term o i) (term q j))
  rule_holds _ (rule.of_eq6 o q i j) =
      of_two eq6 o q i j (nothing.equal (Eq6 (number o) (number q)))
      (eq6_truths p.schema p.env p.literals posed.lawful posed.goal_is.environment posed.goal_is.declared o q (term o i) (term q j))
  rule_holds _ (rule.of_eq7 o q n i j) =
      of_two (λ y z. eq7 y z n) o q i j (nothing.equal (Eq7 (number o) (number q) n))
      (eq7_truths p.schema p.env p.literals posed.lawful posed.goal_is.environment posed.goal_is.declared o q n (term o i) (term q j))
  rule_holds _ (rule.of_eq8 o i) =
      of_one eq8 o i (nothing.equal (Eq8 (number o)))
      (eq8_truths p.schema p.env p.literals posed.lawful posed.goal_is.environment posed.goal_is.declared o (term o i))
  rule_holds _ (rule.of_se1 x y z i j k) =
      of_three se1 x y z i j k (nothing.sets (Se1 (number x) (number y) (number z))) (se1_truths p.schema p.env p.literals x y z)
  rule_holds _ (rule.of_se2 x z i j) =
      of_two se2 x z i j (nothing.sets (Se2 (number x) (number z))) (se2_truths p.schema p.env p.literals x z (term x i) (term z j))
  rule_holds _ (rule.of_se3 x z n i j) =
      of_two (λ a b. se3 a b n) x z i j (nothing.sets (Se3 (number x) (number z) n)) (se3_truths p.schema p.env p.literals x z n (term z j))
  rule_holds _ (rule.of_se4 y z x i j k) =
      of_three se4 y z x i j k (nothing.sets (Se4 (number y) (number z) (number x))) (se4_truths p.schema p.env p.literals y z x)
  rule_holds _ (rule.of_se5 y z n i j) =
      of_two (λ a b. se5 a b n) y z i j (nothing.sets (Se5 (number y) (number z) n)) (se5_truths p.schema p.env p.literals y z n)
  rule_holds _ (rule.of_se6 y z n i j) =
      of_two (λ a b. se6 a b n) y z i j (nothing.sets (Se6 (number y) (number z) n)) (se6_truths p.schema p.env p.literals y z n)
  rule_holds _ (rule.of_se7 y z x i j k) =
      of_three se7 y z x i j k (nothing.sets (Se7 (number y) (number z) (number x))) (se7_truths p.schema p.env p.literals y z x)
  rule_holds _ (rule.of_se8 y z n i j) =
      of_two (λ a b. se8 a b n) y z i j (nothing.sets (Se8 (number y) (number z) n)) (se8_truths p.schema p.env p.literals y z n (term y i) (term z j))
  rule_holds _ (rule.of_se9 y z n i j) =
      of_two (λ a b. se9 a b n) y z i j (nothing.sets (Se9 (number y) (number z) n)) (se9_truths p.schema p.env p.literals y z n)
  rule_holds _ (rule.of_se10 y z n i j) =
      of_two (λ a b. se10 a b n) y z i j (nothing.sets (Se10 (number y) (number z) n)) (se10_truths p.schema p.env p.literals y z n)
  rule_holds _ (rule.of_en1 x y n z i j k) =
      said_holds (en1 x y n z) (places_unbroken en1_of unsaid_first x y i j (λ w. nothing.entities (En1 (number x) (number y) w)) n z k)
      (en1_truths p.schema p.env p.literals x y n z (first_term x y i) (second_term x y j))
  rule_holds _ (rule.of_en2 x y z i j k) =
      of_three en2 x y z i j k (nothing.entities (En2 (number x) (number y) (number z))) (en2_truths p.schema p.env p.literals x y z (term y j) (term z k))
  rule_holds _ (rule.of_en3 x y n z i j k) =
      said_holds (en3 x y n z) (places_unbroken en3_of unsaid_third x y i j (λ w. nothing.entities (En3 (number x) (number y) w)) n z k)
      (en3_truths p.schema p.env p.literals x y n z (first_term x y i) (second_term x y j))
  rule_holds _ (rule.of_en4 e i) =
      of_one en4 e i (nothing.entities (En4 (number e))) (en4_truths p.schema p.env p.literals e)
  rule_holds _ (rule.of_en5 e f x u i j k l) =
      of_four en5 e f x u i j k l (nothing.entities (En5 (number e) (number f) (number x) (number u))) (en5_truths p.schema p.env p.literals e f x u)
  rule_holds _ (rule.of_en6 a i) =
      of_one en6 a i (nothing.entities (En6 (number a)))
      (en6_truths p.schema p.env p.literals posed.lawful posed.goal_is.environment posed.goal_is.declared a (term a i))
  rule_holds _ (rule.of_en7 y x i j) =
      of_two (en7 p.schema) y x i j (nothing.entities (En7 (number y) (number x))) (en7_truths p.schema p.env p.literals y x (term y i))
  rule_holds _ (rule.of_en8 x i) =
      of_one (en8 p.schema) x i (nothing.entities (En8 (number x))) (en8_truths p.schema p.env p.literals x)
  rule_holds _ (rule.of_eq9 x i) =
      of_one (eq9 p.schema) x i (nothing.entities (Eq9 (number x))) (eq9_truths p.schema p.env p.literals x)
  rule_holds _ (rule.of_st1 qs a b n i j) = st1_holds qs a b n i j
  rule_holds _ (rule.of_st3 qs v ts all few) = st3_holds qs v ts all few
