-- Which of an instance's literals an assignment makes false, and what it then tells of strings.
use Rattle.std.proofs.Common.{◌≡◌, ◌≤◌, ◌&&◌, zero, suc, Bool, true, false, List, [], ◌∷◌, ◌++◌, map, length, Option, Some, None, refl, subst, arith}
use Rattle.std.proofs.lemmas.Bool.{and_parts, and_from}
use Rattle.std.specs.Bool.{⊤}
use Rattle.std.specs.List.{AllByRecursion, flat_map}
use Rattle.sc_lists.proofs.ListLaws.{all_append}
use Rattle.sc_lists.proofs.MemberLaws.{Has-left, Has-right, AllByRecursion-Has, Has-AllByRecursion}
use Rattle.sc_clauses.specs.Assignments.{Assignment, is_false}
use Rattle.sc_terms.specs.Folds.{equal_term, like_term}
use Rattle.sc_terms.specs.Trees.{Tree}
use Rattle.sc_footprint.specs.Problems.{Posed, literal_in}
use Rattle.sc_rule_instances.proofs.FalseLaws.{false_known, known_false, false_negation, known_negation}
use Rattle.sc_rule_instances.specs.Clauses.{is_asked, literal_for, clause_for}
use Rattle.sc_rule_instances.specs.Known.{known, is_broken}
use Rattle.sc_rule_laws.specs.Signed.{Signed, so}
use Rattle.sc_rule_laws.specs.Strings.{Pattern, Signs, other_sign, other_signs, some_equal, crowd}
use Rattle.sc_falsified.specs.Crowds.{IsWithin}
use Rattle.th_strings.specs.Known.{like_known, row_at}

module _ (p : Posed) (m : Assignment) where
  abbrev is_out : Signed → Bool
  is_out s = is_asked (literal_for p s) && is_false m (literal_for p s)

  abbrev pub AreOut : List Signed → Type 0
  AreOut parts = AllByRecursion (λ s. is_out s ≡ true) parts

  -- both parts are false
  out_split : (these those : List Signed) → AreOut (these ++ those) → AreOut these × AreOut those
  out_split these those h = (
    Has-AllByRecursion (λ s. is_out s ≡ true) these (λ s there. AllByRecursion-Has (λ s. is_out s ≡ true) (these ++ those) s h (Has-left these those s there)),
    Has-AllByRecursion (λ s. is_out s ≡ true) those (λ s there. AllByRecursion-Has (λ s. is_out s ≡ true) (these ++ those) s h (Has-right these those s there)),
  )

  pub outs : (parts : List Signed) → is_broken m (clause_for p parts) ≡ true → AreOut parts
  outs [] h = tt
  outs (s ∷ parts) h = let r = and_parts (is_out s) (is_broken m (clause_for p parts)) h in (r.0, outs parts r.1)

  pub broken : (parts : List Signed) → AreOut parts → is_broken m (clause_for p parts) ≡ true
  broken [] h = refl
  broken (s ∷ parts) h = and_from (is_out s) (is_broken m (clause_for p parts)) h.0 (broken parts h.1)

  -- ---- signs

  other_out : (t : Tree) (q : Pattern) (s : Bool) → like_known p m t q ≡ Some s → AreOut (other_sign t q (Some s))
  other_out t q true e = (known_negation m (literal_in p (like_term t q)) e, tt)
  other_out t q false e = (known_false m (literal_in p (like_term t q)) e, tt)

  out_other : (t : Tree) (q : Pattern) (s : Bool) → AreOut (other_sign t q (Some s)) → like_known p m t q ≡ Some s
  out_other t q true h = false_negation m (literal_in p (like_term t q)) h.0
  out_other t q false h = false_known m (literal_in p (like_term t q)) h.0

  signs_out : (qs : List Pattern) (v : Signs) (t : Tree) → IsWithin v (row_at p m qs t) → AreOut (other_signs qs v t)
  signs_out [] v t inside = tt
  signs_out (q ∷ qs) [] t inside = tt
  signs_out (q ∷ qs) (a ∷ v) t inside =
      all_append (λ (s : Signed). is_out s ≡ true) (other_sign t q a) (other_signs qs v t) (by a (inside 0)) (signs_out qs v t (λ j s e. inside (suc j) s e))
    where
      by : (o : Option Bool) → ((s : Bool) → o ≡ Some s → like_known p m t q ≡ Some s) → AreOut (other_sign t q o)
      by None h = tt
      by (Some s) h = other_out t q s (h s refl)

  out_signs : (qs : List Pattern) (v : Signs) (t : Tree) → length v ≤ length qs → AreOut (other_signs qs v t) → IsWithin v (row_at p m qs t)
  out_signs qs [] t size h j s e = absurd cc
  out_signs [] (a ∷ v) t size h j s e = absurd (omega (arith, size))
  out_signs (q ∷ qs) (a ∷ v) t size h zero s e =
      let first = (out_split (other_sign t q a) (other_signs qs v t) h).0 in
      out_other t q s (subst (λ (o : Option Bool). AreOut (other_sign t q o)) e first)
  out_signs (q ∷ qs) (a ∷ v) t size h (suc j) s e = out_signs qs v t (omega (arith, size)) (out_split (other_sign t q a) (other_signs qs v t) h).1 j s e

  -- ---- equality

  -- two strings are known to differ
  abbrev pub AreApart : Tree → Tree → Type 0
  AreApart t u = known m (literal_in p (equal_term t u)) ≡ Some false

  -- several differ pairwise
  abbrev pub AreAllApart : List Tree → Type 0
  AreAllApart [] = ⊤
  AreAllApart (t ∷ ts) = AllByRecursion (AreApart t) ts × AreAllApart ts

  one_out : (t : Tree) (us : List Tree) → AllByRecursion (AreApart t) us → AreOut (map (λ u. so (equal_term t u)) us)
  one_out t [] h = tt
  one_out t (u ∷ us) h = (known_false m (literal_in p (equal_term t u)) h.0, one_out t us h.1)

  out_one : (t : Tree) (us : List Tree) → AreOut (map (λ u. so (equal_term t u)) us) → AllByRecursion (AreApart t) us
  out_one t [] h = tt
  out_one t (u ∷ us) h = (false_known m (literal_in p (equal_term t u)) h.0, out_one t us h.1)

  pairs_out : (ts : List Tree) → AreAllApart ts → AreOut (some_equal ts)
  pairs_out [] h = tt
  pairs_out (t ∷ ts) h = all_append (λ (s : Signed). is_out s ≡ true) (map (λ u. so (equal_term t u)) ts) (some_equal ts) (one_out t ts h.0) (pairs_out ts h.1)

  out_pairs : (ts : List Tree) → AreOut (some_equal ts) → AreAllApart ts
  out_pairs [] h = tt
  out_pairs (t ∷ ts) h = let r = out_split (map (λ u. so (equal_term t u)) ts) (some_equal ts) h in (out_one t ts r.0, out_pairs ts r.1)

  -- ---- a counting rule

  module _ (qs : List Pattern) (v : Signs) where
    all_signs_out : (ts : List Tree) → AllByRecursion (λ t. IsWithin v (row_at p m qs t)) ts → AreOut (flat_map (other_signs qs v) ts)
    all_signs_out [] h = tt
    all_signs_out (t ∷ ts) h = all_append (λ (s : Signed). is_out s ≡ true) (other_signs qs v t) (flat_map (other_signs qs v) ts) (signs_out qs v t h.0) (all_signs_out ts h.1)

    out_all_signs : (ts : List Tree) → length v ≤ length qs → AreOut (flat_map (other_signs qs v) ts) → AllByRecursion (λ t. IsWithin v (row_at p m qs t)) ts
    out_all_signs [] size h = tt
    out_all_signs (t ∷ ts) size h =
        let r = out_split (other_signs qs v t) (flat_map (other_signs qs v) ts) h in (out_signs qs v t size r.0, out_all_signs ts size r.1)

    pub crowd_out : (ts : List Tree) → AllByRecursion (λ t. IsWithin v (row_at p m qs t)) ts → AreAllApart ts → AreOut (crowd qs v ts)
    crowd_out ts h k = all_append (λ (s : Signed). is_out s ≡ true) (flat_map (other_signs qs v) ts) (some_equal ts) (all_signs_out ts h) (pairs_out ts k)

    pub out_crowd : (ts : List Tree) → length v ≤ length qs → AreOut (crowd qs v ts) → AllByRecursion (λ t. IsWithin v (row_at p m qs t)) ts × AreAllApart ts
    out_crowd ts size h = let r = out_split (flat_map (other_signs qs v) ts) (some_equal ts) h in (out_all_signs ts size r.0, out_pairs ts r.1)
