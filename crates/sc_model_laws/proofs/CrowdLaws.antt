-- There are as many texts with some signs as there are strings with them that a consistent assignment tells apart.
use Rattle.std.proofs.Common.{◌≡◌, ◌<◌, ◌≤◌, ◌||◌, ℕ, Bool, true, false, inl, inr, arith, cond, List, [], ◌∷◌, ◌++◌, map, length, Option, Some, None, ⊎_elim, refl, sym, ap, ◌∙◌, subst}
use Rattle.std.proofs.lemmas.Bool.{cases_lt, eq-eqb}
use Rattle.std.proofs.lemmas.List.{length-map}
use Rattle.std.specs.Cmp.Derive.{both_true}
use Rattle.std.specs.List.{AllByRecursion, flat_map, list_all}
use Rattle.std.specs.Str.{chars}
use Rattle.sc_laws.proofs.BoolLaws.{or_first, or_second}
use Rattle.sc_lists.proofs.ListLaws.{all_append, all_weaker, list_all_true}
use Rattle.sc_lists.specs.Members.{Has}
use Rattle.sc_lists.proofs.MemberLaws.{AllByRecursion-Has}
use Rattle.sc_schema.specs.declared.declarations.Env.{Env}
use Rattle.sc_schema.specs.Declarations.{Declarations}
use Rattle.sc_sorts.specs.declared.sort.Sort.{out-Sort}
use Rattle.sc_sorts.proofs.OutLaws.{out_String}
use Rattle.sc_languages.specs.Strings.{IsText, Obeys}
use Rattle.sc_terms.specs.Trees.{Tree}
use Rattle.sc_terms.specs.Folds.{equal_term, like_term}
use Rattle.sc_term_laws.specs.Tests.{string_level}
use Rattle.sc_rule_laws.specs.Signed.{Signed, so}
use Rattle.sc_rule_laws.specs.Terms.{is_string}
use Rattle.sc_rule_laws.specs.Strings.{Pattern, Signs, HasSigns, AreFew, other_sign, other_signs, some_equal, crowd, st3}
use Rattle.sc_closure_rules.specs.Closure.{Closed}
use Rattle.sc_model_laws.specs.Assignments.{Assignment, lit, holds_under, some_hold}
use Rattle.sc_model_laws.specs.Consistent.{IsConsistent, IsRuleAt, of_st3}
use Rattle.sc_model_laws.specs.Names.{Name, signs_of}
use Rattle.sc_model_laws.specs.Texts.{ArePatterns, AreApart, IsString, AreOthers, AreTextsFor}
use Rattle.sc_model_laws.proofs.ClosedLaws.{strings_equation, like_closed}
use Rattle.sc_model_laws.proofs.CountLaws.{distinct_within}
use Rattle.sc_model_laws.proofs.HoldLaws.{none_holds, fails}

-- each pattern is asked
abbrev asked : List Bool → Signs
asked v = map Some v

obeys : (qs : List Pattern) (v : List Bool) (text : List ℕ) → HasSigns qs (asked v) text → Obeys qs v text
unfolding HasSigns
obeys [] v text h = tt
obeys (q ∷ qs) [] text h = tt
obeys (q ∷ qs) (sign ∷ v) text h = (h.0, obeys qs v text h.1)

-- ---- strings that have their signs and differ

module _ (m : Assignment) where
  none_joined : (xs ys : List Signed) → some_hold m xs ≡ false → some_hold m ys ≡ false → some_hold m (xs ++ ys) ≡ false
  unfolding some_hold
  none_joined [] ys e f = f
  none_joined (x ∷ xs) ys e f =
      ap (λ (b : Bool). b || some_hold m (xs ++ ys)) (or_first (holds_under m x) (some_hold m xs) e) ∙ none_joined xs ys (or_second (holds_under m x) (some_hold m xs) e) f

  other_fails : (t : Tree) (q : Pattern) (sign : Bool) → lit m (like_term t q) ≡ sign → some_hold m (other_sign t q (Some sign)) ≡ false
  other_fails t q true e = fails m false (like_term t q) [] e (none_holds m)
  other_fails t q false e = fails m true (like_term t q) [] e (none_holds m)

  others_fail : (qs : List Pattern) (t : Tree) → some_hold m (other_signs qs (asked (signs_of m qs t)) t) ≡ false
  others_fail [] t = none_holds m
  others_fail (q ∷ qs) t =
      none_joined (other_sign t q (Some (lit m (like_term t q)))) (other_signs qs (asked (signs_of m qs t)) t) (other_fails t q (lit m (like_term t q)) refl) (others_fail qs t)

  all_fail : (qs : List Pattern) (v : List Bool) (ts : List Tree) → AllByRecursion (λ t. signs_of m qs t ≡ v) ts → some_hold m (flat_map (other_signs qs (asked v)) ts) ≡ false
  all_fail qs v [] h = none_holds m
  all_fail qs v (t ∷ ts) h =
      none_joined (other_signs qs (asked v) t) (flat_map (other_signs qs (asked v)) ts)
      (subst (λ (u : List Bool). some_hold m (other_signs qs (asked u) t) ≡ false) h.0 (others_fail qs t)) (all_fail qs v ts h.1)

  equal_fails : (t : Tree) (ts : List Tree) → AllByRecursion (λ u. lit m (equal_term t u) ≡ false) ts → some_hold m (map (λ u. so (equal_term t u)) ts) ≡ false
  equal_fails t [] h = none_holds m
  equal_fails t (u ∷ ts) h = fails m true (equal_term t u) (map (λ u. so (equal_term t u)) ts) h.0 (equal_fails t ts h.1)

  apart_fail : (ts : List Tree) → AreApart m ts → some_hold m (some_equal ts) ≡ false
  apart_fail [] h = none_holds m
  apart_fail (t ∷ ts) h = none_joined (map (λ u. so (equal_term t u)) ts) (some_equal ts) (equal_fails t ts h.0) (apart_fail ts h.1)

-- ---- what the rule says of them is of closed terms

module _ (d : Declarations) (env : Env) (goal : Tree) (qs : List Pattern) (patterns : ArePatterns d env goal qs) where
  abbrev IsPart : Signed → Type 0
  IsPart s = Closed d env goal s.1

  pub asked_closed : (x : Tree) (q : Pattern) → IsString d env goal x → Has qs q → Closed d env goal (like_term x q)
  asked_closed x q s h = let source = patterns.only q h in like_closed d env goal x source.0 q s.1 s.0 source.1

  other_closed : (t : Tree) (q : Pattern) (sign : Option Bool) → Closed d env goal (like_term t q) → AllByRecursion IsPart (other_sign t q sign)
  other_closed t q None c = tt
  other_closed t q (Some true) c = (c, tt)
  other_closed t q (Some false) c = (c, tt)

  others_closed : (ps : List Pattern) (v : Signs) (t : Tree) → ((q : Pattern) → Has ps q → Closed d env goal (like_term t q)) → AllByRecursion IsPart (other_signs ps v t)
  others_closed [] v t h = tt
  others_closed (q ∷ ps) [] t h = tt
  others_closed (q ∷ ps) (sign ∷ v) t h =
      all_append IsPart (other_sign t q sign) (other_signs ps v t) (other_closed t q sign (h q (inl refl))) (others_closed ps v t (λ p k. h p (inr k)))

  all_closed : (v : Signs) (ts : List Tree) → AllByRecursion (IsString d env goal) ts → AllByRecursion IsPart (flat_map (other_signs qs v) ts)
  all_closed v [] h = tt
  all_closed v (t ∷ ts) h =
      all_append IsPart (other_signs qs v t) (flat_map (other_signs qs v) ts) (others_closed qs v t (λ q k. asked_closed t q h.0 k)) (all_closed v ts h.1)

  equal_closed : (t : Tree) (ts : List Tree) → IsString d env goal t → AllByRecursion (IsString d env goal) ts → AllByRecursion IsPart (map (λ u. so (equal_term t u)) ts)
  equal_closed t [] s h = tt
  equal_closed t (u ∷ ts) s h = (strings_equation d env goal t u s.1 h.0.1 s.0 h.0.0, equal_closed t ts s h.1)

  apart_closed : (ts : List Tree) → AllByRecursion (IsString d env goal) ts → AllByRecursion IsPart (some_equal ts)
  apart_closed [] h = tt
  apart_closed (t ∷ ts) h = all_append IsPart (map (λ u. so (equal_term t u)) ts) (some_equal ts) (equal_closed t ts h.0 h.1) (apart_closed ts h.1)

  string_told : (t : Tree) → IsString d env goal t → is_string t ≡ true
  string_told t s = ap string_level (ap out-Sort s.1 ∙ out_String)

  all_strings : (ts : List Tree) → AllByRecursion (IsString d env goal) ts → list_all is_string ts ≡ true
  all_strings ts h = list_all_true is_string ts (all_weaker (IsString d env goal) (λ t. is_string t ≡ true) string_told ts h)

  -- ---- so there are texts

  module _ (m : Assignment) (is : IsConsistent d env goal m) (x : Tree) where
    abbrev signs : List Bool
    signs = signs_of m qs x

    signs_length : length (asked (signs_of m qs x)) ≡ length qs
    signs_length = length-map (signs_of m qs x) Some ∙ length-map qs (λ q. lit m (like_term x q))

    not_few : (ts : List Tree) → AreOthers d env goal m qs (signs_of m qs x) ts → AreFew qs (asked (signs_of m qs x)) (length ts) → ⊥
    not_few ts others few =
        let v : Signs = asked (signs_of m qs x) in
        let parts : List Signed = crowd qs v ts in
        let test = both_true (eq-eqb (length v) (length qs) signs_length) (all_strings ts others.strings) in
        let said : st3 qs v ts ≡ Some parts = ap (λ (b : Bool). cond b (Some parts) None) test in
        let closed = all_append IsPart (flat_map (other_signs qs v) ts) (some_equal ts) (all_closed v ts others.strings) (apart_closed ts others.strings) in
        let rule = of_st3 qs v ts (all_weaker (IsString d env goal) (Closed d env goal) (λ t s. s.0) ts others.strings) few in
        let holds : some_hold m parts ≡ true = is.rules parts (subst (IsRuleAt d (Closed d env goal)) said rule) closed in
        let none : some_hold m parts ≡ false =
        none_joined m (flat_map (other_signs qs v) ts) (some_equal ts) (all_fail m qs (signs_of m qs x) ts others.signed) (apart_fail m ts others.apart) in
        let both : true ≡ false = sym holds ∙ none in
        absurd cc

    pub texts_suffice : (texts : List Name) (ts : List Tree) → AreTextsFor d env goal m qs (signs_of m qs x) texts → AreOthers d env goal m qs (signs_of m qs x) ts → length ts ≤ length texts
    unfolding AreFew
    texts_suffice texts ts are others = ⊎_elim
        (λ (fewer : length texts < length ts). absurd (not_few ts others (λ words distinct all.
        let enough : length ts ≤ are.wanted = are.enough ts others in
        let size : length (map chars texts) ≡ length texts = length-map texts chars in
        let short : length (map chars texts) < are.wanted = omega (arith, enough, size, fewer) in
        let within : length words ≤ length (map chars texts) = distinct_within words (map chars texts) distinct (λ word k.
        let has = AllByRecursion-Has (λ text. IsText text × HasSigns qs (asked (signs_of m qs x)) text) words word all k in
        are.found.all short word has.0 (obeys qs (signs_of m qs x) word has.1)) in
        omega (arith, within, size, fewer))))
        (λ (most : length ts ≤ length texts). most)
        (cases_lt (length texts) (length ts))
