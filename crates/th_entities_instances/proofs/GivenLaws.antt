-- What an instance says at closed terms that are given by their numbers.
use Rattle.std.proofs.Common.{◌≡◌, ◌<◌, ◌++◌, ℕ, true, List, [], ◌∷◌, Option, Some, None, IsSomeAnd, sym, ap, ◌∙◌, subst}
use Rattle.sc_clauses.specs.declared.lit.Lit.{Lit}
use Rattle.sc_clauses.specs.Clauses.{positive}
use Rattle.sc_footprint.specs.Problems.{Posed, term_of}
use Rattle.sc_rule_instances.proofs.GivenLaws.{two_given}
use Rattle.sc_rule_instances.specs.Clauses.{said_clause}
use Rattle.sc_rule_instances.specs.Given.{IsGiven, term_at}
use Rattle.sc_rule_instances.specs.Instances.{entity_said}
use Rattle.sc_rule_instances.specs.declared.given.Closed.{Closed}
use Rattle.sc_rule_instances.specs.declared.rule.EntityRule.TheVariants.{En1, En3}
use Rattle.sc_rule_instances.specs.Saying.{count_of, literal_of}
use Rattle.sc_rule_laws.specs.Entities.{en1, en3}
use Rattle.sc_rule_laws.specs.Places.{half, under}
use Rattle.sc_rule_laws.specs.Signed.{Signed, Said}
use Rattle.th_entities_instances.specs.declared.alike.Alike.{Alike}
use Rattle.th_entities_instances.specs.declared.places.Pair.{Pair}
use Rattle.th_entities_instances.specs.declared.places.TagPairs.{TagPairs}
use Rattle.th_entities_instances.specs.declared.row.Row.{Row}
use Rattle.th_entities_instances.specs.declared.row.Row.TheVariants.{Attributes, Tags}
use Rattle.th_entities_instances.specs.Alike.{IsAlike, IsAlikeIf}
use Rattle.th_entities_instances.specs.Roots.{AreEntities, AreEntitiesIf, AreTags, AreTagsIf, unless_equal}
use Rattle.th_entities_instances.specs.Rows.{IsRow, row_said}

module _ (p : Posed) where
  -- ---- like places

  under_guard : (guard : List Signed) (said : Said) (parts : List Signed) → said ≡ Some parts → under true guard said ≡ Some (guard ++ parts)
  under_guard guard said parts e = ap (under true guard) e

  under_nothing : (guard : List Signed) (said : Said) → said ≡ None → under true guard said ≡ None
  under_nothing guard said e = ap (under true guard) e

  module _ (x y i : ℕ) (a b : Closed) (g : IsGiven p x a) (h : IsGiven p y b) where
    pub attributes_row : (q : Pair) (like : Alike) → AreEntities p a.term b.term q → IsAlike p a.term b.term i like → IsRow p (entity_said p (En1 x y i)) (Attributes q like)
    attributes_row q like are is = record {
      closed = (are.inside, is.inside);
      is = two_given p x y a b (λ t u. en1 t u i (term_of p i)) g h
          ∙ are.says (half (term_at p a) (term_at p b) i (term_of p i))
          ∙ under_guard (unless_equal p q ∷ []) (half (term_at p a) (term_at p b) i (term_of p i)) _ is.says;
    }

    pub no_entities : AreEntitiesIf p a.term b.term None → entity_said p (En1 x y i) ≡ None
    no_entities none = two_given p x y a b (λ t u. en1 t u i (term_of p i)) g h ∙ none (half (term_at p a) (term_at p b) i (term_of p i))

    pub attributes_unlike : (q : Pair) → AreEntities p a.term b.term q → IsAlikeIf p a.term b.term i None → entity_said p (En1 x y i) ≡ None
    attributes_unlike q are none =
        two_given p x y a b (λ t u. en1 t u i (term_of p i)) g h
        ∙ are.says (half (term_at p a) (term_at p b) i (term_of p i))
        ∙ under_nothing (unless_equal p q ∷ []) (half (term_at p a) (term_at p b) i (term_of p i)) none

    pub tags_row : (q : TagPairs) (like : Alike) → AreTags p a.term b.term q → IsAlike p a.term b.term i like → IsRow p (entity_said p (En3 x y i)) (Tags q like)
    tags_row q like are is = record {
      closed = (are.entities_in, are.keys_in, is.inside);
      is = two_given p x y a b (λ t u. en3 t u i (term_of p i)) g h
          ∙ are.says (half (term_at p a) (term_at p b) i (term_of p i))
          ∙ under_guard (unless_equal p q.entities ∷ unless_equal p q.keys ∷ []) (half (term_at p a) (term_at p b) i (term_of p i)) _ is.says;
    }

    pub no_tags : AreTagsIf p a.term b.term None → entity_said p (En3 x y i) ≡ None
    no_tags none = two_given p x y a b (λ t u. en3 t u i (term_of p i)) g h ∙ none (half (term_at p a) (term_at p b) i (term_of p i))

    pub tags_unlike : (q : TagPairs) → AreTags p a.term b.term q → IsAlikeIf p a.term b.term i None → entity_said p (En3 x y i) ≡ None
    tags_unlike q are none =
        two_given p x y a b (λ t u. en3 t u i (term_of p i)) g h
        ∙ are.says (half (term_at p a) (term_at p b) i (term_of p i))
        ∙ under_nothing (unless_equal p q.entities ∷ unless_equal p q.keys ∷ []) (half (term_at p a) (term_at p b) i (term_of p i)) none

  -- ---- counts and literals

  pub row_count : (said : Said) (row : Row) (n : Option ℕ) → IsRow p said row → n ≡ count_of (row_said p row) → n ≡ count_of said
  row_count said row n h e = e ∙ ap count_of (sym h.is)

  pub none_count : (said : Said) → said ≡ None → None ≡ count_of said
  none_count said e = ap count_of (sym e)

  pub row_place : (said : Said) (row : Row) (k : ℕ) → IsRow p said row → IsSomeAnd (count_of said) (λ n. k < n) → IsSomeAnd (count_of (row_said p row)) (λ n. k < n)
  row_place said row k h e = subst (λ (s : Said). IsSomeAnd (count_of s) (λ n. k < n)) h.is e

  pub row_literal : (said : Said) (row : Row) (k : ℕ) (l : Lit) → IsRow p said row → l ≡ literal_of p (row_said p row) k → l ≡ literal_of p said k
  row_literal said row k l h e = e ∙ ap (λ (s : Said). literal_of p s k) (sym h.is)

  pub none_literal : (said : Said) (k : ℕ) → said ≡ None → positive 0 ≡ literal_of p said k
  unfolding said_clause
  none_literal said k e = sym (ap (λ (s : Said). literal_of p s k) e)
