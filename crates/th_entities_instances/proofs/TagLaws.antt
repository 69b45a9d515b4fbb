-- With a closed tag go, after what tells its value, the keys of its entity, whether its key is one, and whether it is the default.
use Rattle.std.proofs.Common.{◌≡◌, ◌<◌, ◌+◌, ◌++◌, ℕ, suc, true, List, [], ◌∷◌, length, slice_get, Option, Some, None, option_map, option_and_then, IfSome, ap, ◌∙◌, arith}
use Rattle.std.proofs.lemmas.List.{length-map}
use Rattle.sc_schema.specs.Declarations.{Declarations}
use Rattle.sc_sorts.specs.declared.sort.Sort.{Sort, Sort-F, out-Sort}
use Rattle.sc_sorts.specs.declared.sort.Sort.TheOpen as s
use Rattle.sc_sorts.specs.Inside.{SortField}
use Rattle.sc_sorts.specs.declared.node.BinaryOp.TheVariants as binary
use Rattle.sc_terms.specs.Trees.{Tree, two}
use Rattle.sc_terms.specs.TreeSorts.{tree_sort}
use Rattle.sc_terms.specs.Tables.{tree}
use Rattle.sc_terms.specs.Folds.{equal_term, default_term, field_term, bit_term}
use Rattle.sc_term_definitions.specs.Definitions.{definition, counted}
use Rattle.sc_term_definitions.proofs.MakingLaws.{counted_length}
use Rattle.sc_footprint.specs.Closure.{follow, inside, inside_by, choices, choices_by, uid_term, beside, parts, bit_terms}
use Rattle.sc_footprint.specs.Problems.{Posed, companion}
use Rattle.sc_rule_instances.specs.declared.given.Closed.{Closed}
use Rattle.sc_rule_instances.specs.Given.{IsClosed, term_at}
use Rattle.th_entities_instances.specs.Rows.{IsThere, inner_level, is_tag}

-- ---- how many terms tell the value

bits_length : (n : ℕ) (x : Tree) → length (bit_terms n x) ≡ n
bits_length n x = length-map (counted 0 n) (bit_term x) ∙ counted_length 0 n

level_length : (k : Sort-F Sort) (x : Tree) → length (inside_by k x) + length (choices_by k) ≡ inner_level k
level_length (s.Record fs) x = omega (arith, length-map fs (λ (f : SortField). field_term f.0 x))
level_length (s.Option held) x = omega arith
level_length (s.Entity name us) x = omega (arith, bits_length 0 x, length-map us (uid_term us))
level_length s.Bool x = omega (arith, bits_length 0 x)
level_length s.Long x = omega (arith, bits_length 64 x)
level_length s.String x = omega (arith, bits_length 0 x)
level_length s.Decimal x = omega (arith, bits_length 64 x)
level_length s.Ip x = omega (arith, bits_length 257 x)
level_length (s.Set k) x = omega (arith, bits_length 0 x)

-- ---- the terms that go with a tag

skip : (xs ys : List Tree) (i : ℕ) → slice_get (xs ++ ys) (length xs + i) ≡ slice_get ys i
skip [] ys i = let none : 0 + i ≡ i = omega arith in ap (slice_get ys) none
skip (x ∷ xs) ys i = let next : suc (length xs) + i ≡ suc (length xs + i) = omega arith in ap (slice_get (x ∷ (xs ++ ys))) next ∙ skip xs ys i

third : (xs ys zs : List Tree) (n : ℕ) → length xs + length ys ≡ n → slice_get (xs ++ (ys ++ zs)) (n + 2) ≡ slice_get zs 2
third xs ys zs n e = let at : n + 2 ≡ length xs + (length ys + 2) = omega (arith, e) in ap (slice_get (xs ++ (ys ++ zs))) at ∙ skip xs (ys ++ zs) (length ys + 2) ∙ skip ys zs 2

default_follows : (d : Declarations) (x : Tree) → is_tag x ≡ true → slice_get (follow d x) (inner_level (out-Sort (tree_sort x)) + 2) ≡ Some (equal_term x (default_term (tree_sort x)))
unfolding follow definition tree_sort
default_follows d (two (binary.Tag k) e l) h =
    third (inside (two (binary.Tag k) e l)) (choices (two (binary.Tag k) e l)) (beside d (two (binary.Tag k) e l) ++ parts (two (binary.Tag k) e l)) (inner_level (out-Sort k)) (level_length (out-Sort k) (two (binary.Tag k) e l))
default_follows d _ h = absurd cc

pub default_there : (p : Posed) (c : Closed) (m : ℕ) (o : Option ℕ) → IsClosed p c → is_tag (term_at p c) ≡ true → m ≡ inner_level (out-Sort (tree_sort (term_at p c))) → option_map (tree p.nodes) o ≡ companion p c.number (m + 2)
    → IfSome o (λ n. n < length p.nodes) → IsThere p (equal_term (term_at p c) (default_term (tree_sort (term_at p c)))) o
default_there p c m o h tag at e within =
    by o within
    (e ∙ ap (λ (x : Option Tree). option_and_then (λ (y : Tree). slice_get (follow p.schema y) (m + 2)) x) h.is ∙ ap (λ (k : ℕ). slice_get (follow p.schema (term_at p c)) (k + 2)) at ∙ default_follows p.schema (term_at p c) tag)
  where
    by : (q : Option ℕ) → IfSome q (λ n. n < length p.nodes) → option_map (tree p.nodes) q ≡ Some (equal_term (term_at p c) (default_term (tree_sort (term_at p c)))) → IsThere p (equal_term (term_at p c) (default_term (tree_sort (term_at p c)))) q
    by (Some n) b f = (b, (let same : tree p.nodes n ≡ equal_term (term_at p c) (default_term (tree_sort (term_at p c))) = cc in same))
    by None b f = absurd cc
