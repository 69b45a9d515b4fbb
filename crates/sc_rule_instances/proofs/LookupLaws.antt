-- The literals of terms that are looked up in the table.
use Rattle.std.proofs.Common.{◌≡◌, ℕ, true, false, Option, Some, None, IfSome, is_some, refl, sym, ap, ◌∙◌}
use Rattle.sc_clauses.specs.declared.lit.Lit.{Lit}
use Rattle.sc_clauses.specs.Clauses.{positive, negation}
use Rattle.sc_sorts.specs.declared.node.Literal.{Literal}
use Rattle.sc_sorts.specs.declared.node.UnaryOp.TheVariants.{Bit, Present}
use Rattle.sc_sorts.specs.declared.node.BinaryOp.{BinaryOp}
use Rattle.sc_terms.specs.Trees.{Tree, one, two}
use Rattle.sc_terms.specs.Tables.{tree}
use Rattle.sc_sorts.specs.declared.sort.Sort.{Sort}
use Rattle.sc_terms.specs.Folds.{absent, present_by, present_term, literal_of, bit_by, bit_term}
use Rattle.sc_terms.specs.Finding.{IsFound}
use Rattle.sc_footprint.specs.Problems.{Posed, IsPosed, atom_number, literal, literal_in}
use Rattle.sc_rule_instances.proofs.LiteralLaws.{not_in_table, not_listed}

-- of a term that isn't in the table the number is 0
found_by : (p : Posed) (t : Tree) (found : Option ℕ) (l : Lit) → IsPosed p → literal_in p t ≡ positive (atom_number p t) → IsFound p.nodes t found → IfSome found (λ n. l ≡ literal_in p (tree p.nodes n))
    → (found ≡ None → l ≡ positive 0) → l ≡ literal_in p t
found_by p t (Some n) l posed is found some none = some ∙ ap (literal_in p) found.is
found_by p t None l posed is found some none = none refl ∙ sym (is ∙ ap positive (not_listed p t (not_in_table p t posed found)))

pub found_literal : (p : Posed) (o : BinaryOp) (a b : Tree) (found : Option ℕ) (l : Lit) → IsPosed p → IsFound p.nodes (two o a b) found → IfSome found (λ n. l ≡ literal_in p (tree p.nodes n)) → (found ≡ None → l ≡ positive 0)
    → l ≡ literal_in p (two o a b)
unfolding literal
found_literal p o a b found l posed = found_by p (two o a b) found l posed refl

pub found_present : (p : Posed) (a : Tree) (found : Option ℕ) (l : Lit) → IsPosed p → IsFound p.nodes (one Present a) found → IfSome found (λ n. l ≡ literal_in p (tree p.nodes n)) → (found ≡ None → l ≡ positive 0)
    → l ≡ literal_in p (one Present a)
unfolding literal
found_present p a found l posed = found_by p (one Present a) found l posed refl

-- whether an option is present that is absent as it stands, and another
absent_literal_by : (p : Posed) (t : Tree) (o : Option Sort) → is_some o ≡ true → literal_in p (present_by o t) ≡ negation (positive 1)
unfolding literal
absent_literal_by p t (Some k) h = refl
absent_literal_by p t None h = cc

pub absent_literal : (p : Posed) (t : Tree) → is_some (absent t) ≡ true → literal_in p (present_term t) ≡ negation (positive 1)
unfolding present_term
absent_literal p t h = absent_literal_by p t (absent t) h

present_plain_by : (t : Tree) (o : Option Sort) → is_some o ≡ false → present_by o t ≡ one Present t
present_plain_by t (Some k) h = cc
present_plain_by t None h = refl

pub present_plain : (t : Tree) → is_some (absent t) ≡ false → present_term t ≡ one Present t
unfolding present_term
present_plain t h = present_plain_by t (absent t) h

-- a bit of a term that is no literal
pub found_bit : (p : Posed) (a : Tree) (i : ℕ) (found : Option ℕ) (l : Lit) → IsPosed p → IsFound p.nodes (one (Bit i) a) found → IfSome found (λ n. l ≡ literal_in p (tree p.nodes n)) → (found ≡ None → l ≡ positive 0)
    → l ≡ literal_in p (one (Bit i) a)
unfolding literal
found_bit p a i found l posed = found_by p (one (Bit i) a) found l posed refl

pub bit_plain : (t : Tree) (i : ℕ) → literal_of t ≡ None → bit_term t i ≡ one (Bit i) t
unfolding bit_term
bit_plain t i h = ap (λ (o : Option Literal). bit_by o t i) h
