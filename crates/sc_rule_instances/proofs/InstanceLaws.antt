-- Each instance's clause has literals of listed atoms, none with its negation, and is true in every well-formed world of its problem: what its
-- rule says is true by the laws of that rule. And each has a text.
use Rattle.std.proofs.Common.{◌≡◌, ◌≢◌, ◌||◌, ◌==◌, ℕ, Bool, true, false, not, IsTrue, List, [], ◌∷◌, length, Option, Some, None, Contains, refl, sym, ap, ◌∙◌, subst}
use Rattle.std.proofs.lemmas.Bool.{and_parts, true≢false}
use Rattle.std.specs.List.{list_all}
use Rattle.std.specs.Str.{bytes_eq}
use Rattle.sc_laws.proofs.BoolLaws.{not_true}
use Rattle.sc_lists.proofs.ListLaws.{any_contained, contains_from_map}
use Rattle.sc_lists.proofs.MemberLaws.{Has-from_Contains}
use Rattle.sc_rule_laws.proofs.MemberLaws.{all_has}
use Rattle.sc_clauses.specs.declared.lit.Lit.{Lit}
use Rattle.sc_clauses.specs.declared.step.Instance.{Instance}
use Rattle.sc_clauses.specs.Clauses.{Clause, holds, clause_holds, negation, lit_eq, is_in}
use Rattle.sc_clauses.proofs.LitLaws.{holds_negation, lit_eq-itself}
use Rattle.sc_world.specs.declared.world.World.{World}
use Rattle.sc_terms.specs.Values.{truth}
use Rattle.sc_terms.proofs.FoldValues.{truth_yes}
use Rattle.sc_footprint.specs.Definitions.{is_tautology}
use Rattle.sc_footprint.specs.Problems.{Posed, IsPosed, atoms, atom_number, literal_in}
use Rattle.sc_footprint.specs.Truths.{truths, IsWorldOf, IsTrueIn}
use Rattle.sc_footprint.specs.Theories.{IsListed, IsClauseOf, TermsHold}
use Rattle.sc_footprint.specs.Written.{is_instance as is_writable}
use Rattle.sc_rule_laws.specs.Signed.{Signed, Said, holds_in, some_holds, Holds}
use Rattle.sc_rule_instances.specs.Clauses.{is_asked, is_clause, literal_for, clause_for, is_instance, said_clause}
use Rattle.sc_rule_instances.specs.Names.{equal_rule, set_rule, entity_rule}
use Rattle.sc_rule_instances.specs.Instances.{HasEqual, HasSet, HasEntity, equal_said, set_said, entity_said, equal_of, set_of, entity_of, equal_clause, set_clause, entity_clause, said_by}
use Rattle.sc_rule_instances.proofs.LiteralLaws.{literal_is, listed, told}
use Rattle.sc_rule_instances.proofs.NameLaws.{equal_text, set_text, entity_text}
use Rattle.sc_rule_instances.proofs.RulesHold.{equal_true, set_true, entity_true}

-- ---- literals that are asked

-- of an atom, and so of a listed one
pub asked_atom : (l : Lit) → is_asked l ≡ true → l.atom ≢ 0
asked_atom l h e = let f : not (l.atom == 0) ≡ true = (and_parts _ _ h).0 in let g : not (0 == 0) ≡ true = subst (λ (n : ℕ). not (n == 0) ≡ true) e f in cc

-- the literal of a signed term is of the term's atom
of_term : (p : Posed) (s : Signed) → is_asked (literal_for p s) ≡ true → (literal_in p s.1).atom ≢ 0
of_term p (true, t) h = asked_atom (literal_in p t) h
of_term p (false, t) h = asked_atom (negation (literal_in p t)) h

-- ---- lawful, once for all rules

asked_listed : (p : Posed) → IsPosed p → (s : Signed) → is_asked (literal_for p s) ≡ true → IsListed (length (atoms p)) (literal_for p s)
asked_listed p posed (true, t) h = listed p posed t (literal_in p t) (literal_is (atom_number p) t) (of_term p (true, t) h)
asked_listed p posed (false, t) h = listed p posed t (literal_in p t) (literal_is (atom_number p) t) (of_term p (false, t) h)

-- of a clause that is no tautology none stands with its negation
not_both : (c : Clause) (l : Lit) → is_tautology c ≡ false → Contains c l → Contains c (negation l) → ⊥
not_both c l plain h k =
    let there : is_in c (negation l) ≡ true = any_contained (lit_eq (negation l)) c (negation l) k (lit_eq-itself (negation l)) in
    true≢false (sym (any_contained (λ (m : Lit). is_in c (negation m)) c l h there) ∙ plain)

clause_lawful : (p : Posed) (parts : List Signed) → IsPosed p → is_clause (clause_for p parts) ≡ true → IsClauseOf p (clause_for p parts)
clause_lawful p parts posed h l k =
    let both = and_parts (list_all is_asked (clause_for p parts)) (not (is_tautology (clause_for p parts))) h in
    let of = contains_from_map (literal_for p) parts l k in
    let asked : is_asked l ≡ true = all_has is_asked (clause_for p parts) l both.0 (Has-from_Contains (clause_for p parts) l k) in (
      subst (IsListed (length (atoms p))) of.2 (asked_listed p posed of.0 (subst (λ (m : Lit). is_asked m ≡ true) (sym of.2) asked)),
      not_both (clause_for p parts) l (not_true (is_tautology (clause_for p parts)) (sym both.1)) k,
    )

pub said_lawful : (p : Posed) (said : Said) → IsPosed p → IsTrue (is_instance p said) → IsClauseOf p (said_clause p said)
unfolding is_instance said_clause
said_lawful p None posed h = absurd cc
said_lawful p (Some parts) posed h = clause_lawful p parts posed h

-- ---- true, from the truth of what is said

-- the literal of a signed term is true where the term has its truth
literal_true : (laws : TermsHold) (p : Posed) (w : World) → IsPosed p → IsWorldOf p w → (s : Signed) → is_asked (literal_for p s) ≡ true → holds (truths p w) (literal_for p s) ≡ holds_in w s
literal_true laws p w posed formed (true, t) h =
    let r = told p posed laws w formed t (literal_in p t) (literal_is (atom_number p) t) (of_term p (true, t) h) in
    r.2 ∙ sym (ap truth r.1 ∙ truth_yes r.0)
literal_true laws p w posed formed (false, t) h =
    let r = told p posed laws w formed t (literal_in p t) (literal_is (atom_number p) t) (of_term p (false, t) h) in
    holds_negation (truths p w) (literal_in p t) ∙ ap not (r.2 ∙ sym (ap truth r.1 ∙ truth_yes r.0))

clause_true : (laws : TermsHold) (p : Posed) (w : World) (parts : List Signed) → IsPosed p → IsWorldOf p w → list_all is_asked (clause_for p parts) ≡ true → clause_holds (truths p w) (clause_for p parts) ≡ some_holds w parts
unfolding some_holds
clause_true laws p w [] posed formed h = refl
clause_true laws p w (s ∷ parts) posed formed h =
    let both = and_parts (is_asked (literal_for p s)) (list_all is_asked (clause_for p parts)) h in
    ap (λ (b : Bool). b || clause_holds (truths p w) (clause_for p parts)) (literal_true laws p w posed formed s both.0)
    ∙ ap (λ (b : Bool). holds_in w s || b) (clause_true laws p w parts posed formed both.1)

pub said_true : (laws : TermsHold) (p : Posed) (w : World) (said : Said) → IsPosed p → IsWorldOf p w → IsTrue (is_instance p said) → Holds w said → IsTrueIn p w (said_clause p said)
unfolding is_instance said_clause
said_true laws p w None posed formed h e = absurd cc
said_true laws p w (Some parts) posed formed h e =
    clause_true laws p w parts posed formed (and_parts (list_all is_asked (clause_for p parts)) (not (is_tautology (clause_for p parts))) h).0 ∙ e

-- ---- each has a text: that of its rule's word, and of numbers that a log can hold

-- what is an instance names a rule
named : {R : Type 0} (p : Posed) (say : R → Said) (o : Option R) (P : Type 0) → ((r : R) → o ≡ Some r → P) → IsTrue (is_instance p (said_by say o)) → P
unfolding is_instance
named p say None P text h = absurd cc
named p say (Some r) P text h = text r refl

-- ---- the laws of the theories

pub equal_lawful : (p : Posed) (i : Instance) → TermsHold → IsPosed p → HasEqual p i → IsClauseOf p (equal_clause p i)
equal_lawful p i laws posed h = said_lawful p (equal_of p i) posed h

pub equal_sound : (p : Posed) (i : Instance) (w : World) → TermsHold → IsPosed p → HasEqual p i → IsWorldOf p w → IsTrueIn p w (equal_clause p i)
equal_sound p i w laws posed h formed = said_true laws p w (equal_of p i) posed formed h (equal_true laws p i w posed formed)

pub equal_written : (p : Posed) (i : Instance) → IsPosed p → HasEqual p i → bytes_eq i.rule [] ≡ false → is_writable i ≡ true
equal_written p i posed h e = named p (equal_said p) (equal_rule i) (is_writable i ≡ true) (equal_text i.rule i.words) h

pub set_lawful : (p : Posed) (i : Instance) → TermsHold → IsPosed p → HasSet p i → IsClauseOf p (set_clause p i)
set_lawful p i laws posed h = said_lawful p (set_of p i) posed h

pub set_sound : (p : Posed) (i : Instance) (w : World) → TermsHold → IsPosed p → HasSet p i → IsWorldOf p w → IsTrueIn p w (set_clause p i)
set_sound p i w laws posed h formed = said_true laws p w (set_of p i) posed formed h (set_true laws p i w posed formed)

pub set_written : (p : Posed) (i : Instance) → IsPosed p → HasSet p i → bytes_eq i.rule [] ≡ false → is_writable i ≡ true
set_written p i posed h e = named p (set_said p) (set_rule i) (is_writable i ≡ true) (set_text i.rule i.words) h

pub entity_lawful : (p : Posed) (i : Instance) → TermsHold → IsPosed p → HasEntity p i → IsClauseOf p (entity_clause p i)
entity_lawful p i laws posed h = said_lawful p (entity_of p i) posed h

pub entity_sound : (p : Posed) (i : Instance) (w : World) → TermsHold → IsPosed p → HasEntity p i → IsWorldOf p w → IsTrueIn p w (entity_clause p i)
entity_sound p i w laws posed h formed = said_true laws p w (entity_of p i) posed formed h (entity_true laws p i w posed formed)

pub entity_written : (p : Posed) (i : Instance) → IsPosed p → HasEntity p i → bytes_eq i.rule [] ≡ false → is_writable i ≡ true
entity_written p i posed h e = named p (entity_said p) (entity_rule i) (is_writable i ≡ true) (entity_text i.rule i.words) h
