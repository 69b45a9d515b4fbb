-- Of a closed record or option its fields, and what it holds, go with it first.
use Rattle.std.proofs.Common.{◌≡◌, ◌<◌, ℕ, true, List, [], ◌∷◌, length, slice_get, Option, Some, None, option_map, option_and_then, IfSome, refl, sym, ap, ◌∙◌, subst, is_some}
use Rattle.std.proofs.lemmas.Bool.{and_parts}
use Rattle.sc_schema.specs.Declarations.{Declarations}
use Rattle.sc_sorts.specs.declared.sort.Sort.{Sort, Sort-F, out-Sort}
use Rattle.sc_sorts.specs.declared.sort.Sort.TheOpen as s
use Rattle.sc_sorts.specs.Inside.{SortField, SortFields, held_in, held_sort}
use Rattle.sc_terms.specs.Trees.{Tree}
use Rattle.sc_terms.specs.TreeSorts.{tree_sort}
use Rattle.sc_terms.specs.Tables.{tree}
use Rattle.sc_terms.specs.Folds.{equal_term, field_term, present_term, held_term, default_term}
use Rattle.sc_footprint.specs.Atoms.{is_bool_in}
use Rattle.sc_footprint.specs.Closure.{follow, inside, inside_by, field_terms}
use Rattle.sc_footprint.specs.Problems.{Posed, companion}
use Rattle.sc_rule_laws.specs.Equal.{are_options, field_at}
use Rattle.sc_rule_laws.specs.Terms.{fields_of, fields_level, is_option, one_sort}
use Rattle.sc_rule_laws.proofs.EqualSound.{one_sort_is}
use Rattle.sc_sorts.specs.Defaults.{is_option_level}
use Rattle.sc_rule_instances.proofs.FollowLaws.{follows, field_place}
use Rattle.sc_rule_instances.specs.declared.given.Closed.{Closed}
use Rattle.sc_rule_instances.specs.Given.{IsClosed, term_at}
use Rattle.th_equal.specs.Rows.{IsThere}

-- ---- records and options are no truth values

record_bool : (k : Sort-F Sort) (fs : SortFields) → fields_level k ≡ Some fs → k ≡ s.Record fs
record_bool (s.Record gs) fs e = let same : gs ≡ fs = cc in ap s.Record same
record_bool _ fs e = absurd cc

option_bool : (k : Sort-F Sort) → is_option_level Sort k ≡ true → k ≡ s.Option (held_in k)
option_bool (s.Option held) e = refl
option_bool _ e = absurd cc

-- ---- the terms that go first with a term

pub field_follows : (d : Declarations) (x : Tree) (fs : SortFields) (i : ℕ) (f : SortField) → fields_of x ≡ Some fs → slice_get fs i ≡ Some f → slice_get (follow d x) i ≡ Some (field_term f.0 x)
field_follows d x fs i f e g =
    let level : out-Sort (tree_sort x) ≡ s.Record fs = record_bool (out-Sort (tree_sort x)) fs e in
    let all : inside x ≡ field_terms fs x = ap (λ (k : Sort-F Sort). inside_by k x) level in
    let there : slice_get (inside x) i ≡ Some (field_term f.0 x) = ap (λ (l : List Tree). slice_get l i) all ∙ field_place fs x i f g in
    follows d x i (ap is_bool_in level) (ap is_some there) ∙ there

pub option_follows : (d : Declarations) (x : Tree) (i : ℕ) (t : Tree) → is_option x ≡ true
    → slice_get (present_term x ∷ held_term x ∷ equal_term (held_term x) (default_term (held_sort (tree_sort x))) ∷ []) i ≡ Some t → slice_get (follow d x) i ≡ Some t
option_follows d x i t e g =
    let level : out-Sort (tree_sort x) ≡ s.Option (held_sort (tree_sort x)) = option_bool (out-Sort (tree_sort x)) e in
    let all : inside x ≡ present_term x ∷ held_term x ∷ equal_term (held_term x) (default_term (held_sort (tree_sort x))) ∷ [] = ap (λ (k : Sort-F Sort). inside_by k x) level in
    let there : slice_get (inside x) i ≡ Some t = ap (λ (l : List Tree). slice_get l i) all ∙ g in
    follows d x i (ap is_bool_in level) (ap is_some there) ∙ there

-- ---- their numbers

module _ (p : Posed) where
  companion_there : (c : Closed) (i : ℕ) (o : Option ℕ) (t : Tree) → IsClosed p c → option_map (tree p.nodes) o ≡ companion p c.number i → IfSome o (λ n. n < length p.nodes) → slice_get (follow p.schema (term_at p c)) i ≡ Some t
      → IsThere p t o
  companion_there c i o t h e within k = by o within (e ∙ ap (λ (x : Option Tree). option_and_then (λ (y : Tree). slice_get (follow p.schema y) i) x) h.is ∙ k)
    where
      by : (q : Option ℕ) → IfSome q (λ n. n < length p.nodes) → option_map (tree p.nodes) q ≡ Some t → IsThere p t q
      by (Some n) b f = (b, (let same : tree p.nodes n ≡ t = cc in same))
      by None b f = absurd cc

  pub held_there : (o : Closed) (n : Option ℕ) → IsClosed p o → is_option (term_at p o) ≡ true → option_map (tree p.nodes) n ≡ companion p o.number 1 → IfSome n (λ m. m < length p.nodes) → IsThere p (held_term (term_at p o)) n
  held_there o n h k e b = companion_there o 1 n (held_term (term_at p o)) h e b (option_follows p.schema (term_at p o) 1 (held_term (term_at p o)) k refl)

  pub default_there : (o : Closed) (n : Option ℕ) → IsClosed p o → is_option (term_at p o) ≡ true → option_map (tree p.nodes) n ≡ companion p o.number 2 → IfSome n (λ m. m < length p.nodes)
      → IsThere p (equal_term (held_term (term_at p o)) (default_term (held_sort (tree_sort (term_at p o))))) n
  default_there o n h k e b = companion_there o 2 n _ h e b (option_follows p.schema (term_at p o) 2 _ k refl)

  pub field_there : (r : Closed) (i : ℕ) (n : Option ℕ) (f : SortField) → IsClosed p r → field_at (fields_of (term_at p r)) i ≡ Some f → option_map (tree p.nodes) n ≡ companion p r.number i → IfSome n (λ m. m < length p.nodes)
      → IsThere p (field_term f.0 (term_at p r)) n
  field_there r i n f h k e b = by (fields_of (term_at p r)) refl k
    where
      by : (fs : Option SortFields) → fields_of (term_at p r) ≡ fs → field_at fs i ≡ Some f → IsThere p (field_term f.0 (term_at p r)) n
      by (Some fs) g j = companion_there r i n (field_term f.0 (term_at p r)) h e b (field_follows p.schema (term_at p r) fs i f g j)
      by None g j = absurd cc

  -- records of one sort have the same fields
  pub other_field : (x y : Tree) (i : ℕ) (f : SortField) → one_sort x y ≡ true → field_at (fields_of x) i ≡ Some f → field_at (fields_of y) i ≡ Some f
  other_field x y i f e g = sym (ap (λ (k : Sort). field_at (fields_level (out-Sort k)) i) (one_sort_is x y e)) ∙ g

-- options of one sort are both options
pub other_option : (x y : Tree) → are_options x y ≡ true → is_option y ≡ true
other_option x y h =
    let both = and_parts (one_sort x y) (is_option x) h in
    subst (λ (k : Sort). is_option_level Sort (out-Sort k) ≡ true) (one_sort_is x y both.0) both.1
