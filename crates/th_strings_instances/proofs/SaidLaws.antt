-- What a counting rule says of closed terms by their numbers in the table.
use Rattle.std.proofs.Common.{◌≡◌, ◌&&◌, ◌==◌, ℕ, Bool, true, false, List, [], ◌∷◌, ◌++◌, map, length, Option, Some, None, option_map, cond, refl, sym, ap, ◌∙◌}
use Rattle.std.proofs.lemmas.List.{append-nil, append_assoc}
use Rattle.std.specs.List.{list_all}
use Rattle.sc_clauses.specs.Clauses.{Clause}
use Rattle.sc_terms.specs.Tables.{tree}
use Rattle.sc_terms.specs.Trees.{Tree}
use Rattle.sc_footprint.specs.Problems.{Posed, numbered}
use Rattle.sc_rule_instances.specs.Clauses.{clause_for}
use Rattle.sc_rule_laws.specs.Strings.{Pattern, Signs, crowd, st3}
use Rattle.sc_rule_laws.specs.Terms.{is_string}
use Rattle.th_strings_instances.specs.Instances.{all_at, on_all, with_term}
use Rattle.th_strings_instances.specs.Places.{placed, with_place, with_places, is_string_at}

-- ---- closed terms, one after the other

pub places_first : (o : Option (List ℕ)) → with_places [] o ≡ o
places_first (Some ns) = refl
places_first None = refl

pub places_more : (ns : List ℕ) (n : ℕ) (o : Option ℕ) (rest : Option (List ℕ)) → o ≡ Some n → with_places (ns ++ n ∷ []) rest ≡ with_places ns (with_place o rest)
places_more ns n o (Some ms) e = ap Some (append_assoc ns (n ∷ []) ms) ∙ ap (λ (q : Option ℕ). with_places ns (with_place q (Some ms))) (sym e)
places_more ns n o None e = ap (λ (q : Option ℕ). with_places ns (with_place q None)) (sym e)

pub places_none : (ns : List ℕ) (o : Option ℕ) (rest whole : Option (List ℕ)) → with_places ns (with_place o rest) ≡ whole → o ≡ None → None ≡ whole
places_none ns o rest whole h e = ap (λ (q : Option ℕ). with_places ns (with_place q rest)) (sym e) ∙ h

pub places_end : (ns : List ℕ) (whole : Option (List ℕ)) → with_places ns (Some []) ≡ whole → Some ns ≡ whole
places_end ns whole h = ap Some (sym (append-nil ns)) ∙ h

-- ---- by their numbers in the table

all_placed : (p : Posed) (ns : List ℕ) → all_at p ns ≡ option_map (map (tree p.nodes)) (placed p ns)
all_placed p [] = refl
all_placed p (n ∷ ns) = ap (with_term (option_map (tree p.nodes) (numbered p.closed n))) (all_placed p ns) ∙ by (numbered p.closed n) (placed p ns)
  where
    by : (o : Option ℕ) (q : Option (List ℕ)) → with_term (option_map (tree p.nodes) o) (option_map (map (tree p.nodes)) q) ≡ option_map (map (tree p.nodes)) (with_place o q)
    by (Some k) (Some ks) = refl
    by (Some k) None = refl
    by None (Some ks) = refl
    by None None = refl

all_mapped : (p : Posed) (ns : List ℕ) → list_all is_string (map (tree p.nodes) ns) ≡ list_all (is_string_at p) ns
all_mapped p [] = refl
all_mapped p (n ∷ ns) = ap (λ (b : Bool). is_string (tree p.nodes n) && b) (all_mapped p ns)

module _ (p : Posed) (qs : List Pattern) (v : Signs) (ns : List ℕ) where
  abbrev Literals : Option (List Tree) → Option Clause
  Literals o = option_map (clause_for p) (on_all o (st3 qs v))

  -- where lengths differ
  pub literals_unequal : (length v == length qs) ≡ false → None ≡ Literals (all_at p ns)
  literals_unequal e = by (all_at p ns)
    where
      by : (o : Option (List Tree)) → None ≡ Literals o
      by (Some ts) = rw e refl
      by None = refl

  at_placed : (o : Option (List ℕ)) → o ≡ placed p ns → Literals (all_at p ns) ≡ Literals (option_map (map (tree p.nodes)) o)
  at_placed o e = ap Literals (all_placed p ns ∙ ap (option_map (map (tree p.nodes))) (sym e))

  -- where some number has no closed term
  pub literals_nowhere : (o : Option (List ℕ)) → o ≡ placed p ns → o ≡ None → None ≡ Literals (all_at p ns)
  literals_nowhere o e f = sym (at_placed o e ∙ ap (λ (q : Option (List ℕ)). Literals (option_map (map (tree p.nodes)) q)) f)

  -- where some term is no string, and where all are strings
  pub literals_other : (ms : List ℕ) → Some ms ≡ placed p ns → list_all (is_string_at p) ms ≡ false → None ≡ Literals (all_at p ns)
  literals_other ms e f = sym (at_placed (Some ms) e ∙ by (length v == length qs))
    where
      by : (b : Bool) → option_map (clause_for p) (cond (b && list_all is_string (map (tree p.nodes) ms)) (Some (crowd qs v (map (tree p.nodes) ms))) None) ≡ None
      by true = rw (all_mapped p ms ∙ f) refl
      by false = refl

  pub literals_are : (ms : List ℕ) (c : Clause) → (length v == length qs) ≡ true → Some ms ≡ placed p ns → list_all (is_string_at p) ms ≡ true → c ≡ clause_for p (crowd qs v (map (tree p.nodes) ms)) → Some c ≡ Literals (all_at p ns)
  literals_are ms c e f g h = ap Some h ∙ sym (at_placed (Some ms) f ∙ rw (e, all_mapped p ms ∙ g) refl)
