-- Strings that are written: what rules say of these alone holds, since each part is a constant.
use Rattle.std.proofs.Common.{◌≡◌, ◌||◌, ◌&&◌, ◌==◌, ℕ, Bool, true, false, not, List, [], ◌∷◌, map, flat_map, length, Some, None, refl, sym, ap, ◌∙◌, subst}
use Rattle.std.specs.List.{AllByRecursion, list_all}
use Rattle.std.specs.Str.{IsUtf8}
use Rattle.sc_laws.proofs.BoolLaws.{never}
use Rattle.sc_lists.proofs.ListLaws.{all_append, all_of_elements}
use Rattle.sc_lists.proofs.MemberLaws.{Has-from_Contains}
use Rattle.sc_laws.proofs.OptionLaws.{same_some}
use Rattle.sc_lists.specs.Members.{Has}
use Rattle.sc_names.specs.declared.uid.Uid.{Uid}
use Rattle.sc_schema.specs.declared.declarations.Env.{Env}
use Rattle.sc_schema.specs.Declarations.{Declarations}
use Rattle.sc_world.specs.declared.world.World.{World}
use Rattle.sc_sorts.specs.declared.sort.Sort.{Sort}
use Rattle.sc_sorts.proofs.OutLaws.{out_Bool, out_Long, out_String, out_Decimal, out_Ip, out_Entity}
use Rattle.sc_sorts.specs.declared.node.Leaf.TheVariants.{Literal}
use Rattle.sc_sorts.specs.declared.node.Literal.{Literal as AnyLiteral}
use Rattle.sc_sorts.specs.declared.node.Literal.TheVariants as literal
use Rattle.sc_sorts.specs.Literals.{literal_like}
use Rattle.sc_terms.specs.Trees.{Tree, leaf}
use Rattle.sc_terms.specs.TreeSorts.{tree_sort}
use Rattle.sc_terms.specs.Order.{tree_eq}
use Rattle.sc_terms.specs.Folds.{truth_term, literal_term, literal_of, other_equal, equal_term, like_term}
use Rattle.sc_terms.specs.Values.{val}
use Rattle.sc_terms.proofs.FoldValues.{truth_yes}
use Rattle.sc_term_laws.specs.Judging.{IsTermOf, IsTerm}
use Rattle.sc_term_laws.specs.Judging as judged
use Rattle.sc_term_laws.specs.Tests.{string_level}
use Rattle.sc_footprint.specs.Atoms.{is_bool, is_bool_in}
use Rattle.sc_rule_laws.specs.Signed.{Signed, so, is_true, some_holds, Holds, given}
use Rattle.sc_rule_laws.specs.Terms.{is_string}
use Rattle.sc_rule_laws.specs.Strings.{Pattern, Signs, AreFew, other_signs, some_equal, crowd}
use Rattle.sc_rule_laws.proofs.SortValues.{IsAString}
use Rattle.sc_rule_laws.proofs.StringSound.{st3_holds}
use Rattle.sc_model_laws.specs.Assignments.{lit, some_hold}

-- ---- terms that are constants

record IsConstant (t : Tree) : Type 0 where
  value : Bool
  is : t ≡ truth_term value

abbrev AreConstants : List Signed → Type 0
AreConstants parts = AllByRecursion (λ (s : Signed). IsConstant s.1) parts

constant_told : (m : Tree → Bool) (w : World) (t : Tree) → IsConstant t → lit m t ≡ is_true t w
unfolding lit val
constant_told m w t c = ap (lit m) c.is ∙ sym (ap (λ (z : Tree). is_true z w) c.is ∙ truth_yes c.value)

constants_told : (m : Tree → Bool) (w : World) (parts : List Signed) → AreConstants parts → some_hold m parts ≡ some_holds w parts
unfolding some_hold some_holds
constants_told m w [] h = refl
constants_told m w ((true, t) ∷ parts) h =
    let first = constant_told m w t h.0 in
    let rest = constants_told m w parts h.1 in
    λ i. first i || rest i
constants_told m w ((false, t) ∷ parts) h =
    let first = constant_told m w t h.0 in
    let rest = constants_told m w parts h.1 in
    λ i. not (first i) || rest i

-- ---- strings that are written

pub record IsWritten (t : Tree) : Type 0 where
  pub text : List ℕ
  pub is : t ≡ literal_term (literal.String text)
  pub utf8 : IsUtf8 text

like_constant : (t : Tree) (q : Pattern) → IsWritten t → IsConstant (like_term t q)
unfolding like_term
like_constant t q h = record { value = literal_like (literal.String h.text) q; is = ap (λ (z : Tree). like_term z q) h.is }

signs_constant : (qs : List Pattern) (v : Signs) (t : Tree) → IsWritten t → AreConstants (other_signs qs v t)
signs_constant [] v t h = tt
signs_constant (q ∷ qs) [] t h = tt
signs_constant (q ∷ qs) (None ∷ v) t h = signs_constant qs v t h
signs_constant (q ∷ qs) (Some true ∷ v) t h = (like_constant t q h, signs_constant qs v t h)
signs_constant (q ∷ qs) (Some false ∷ v) t h = (like_constant t q h, signs_constant qs v t h)

all_signs_constant : (qs : List Pattern) (v : Signs) (ts : List Tree) → AllByRecursion IsWritten ts → AreConstants (flat_map (other_signs qs v) ts)
all_signs_constant qs v [] h = tt
all_signs_constant qs v (t ∷ ts) h =
    all_append (λ (s : Signed). IsConstant s.1) (other_signs qs v t) (flat_map (other_signs qs v) ts) (signs_constant qs v t h.0) (all_signs_constant qs v ts h.1)

texts_equal : (x y : List ℕ) → IsConstant (equal_term (literal_term (literal.String x)) (literal_term (literal.String y)))
unfolding equal_term
texts_equal x y = by (tree_eq (literal_term (literal.String x)) (literal_term (literal.String y)))
  where
    by : (same : Bool) → IsConstant (other_equal same (Some false) (literal_term (literal.String x)) (literal_term (literal.String y)))
    by true = record { value = true; is = refl }
    by false = record { value = false; is = refl }

equal_constant : (t u : Tree) → IsWritten t → IsWritten u → IsConstant (equal_term t u)
equal_constant t u h k =
    subst (λ (z : Tree). IsConstant (equal_term z u)) (sym h.is)
    (subst (λ (z : Tree). IsConstant (equal_term (literal_term (literal.String h.text)) z)) (sym k.is) (texts_equal h.text k.text))

equal_constants : (t : Tree) (us : List Tree) → IsWritten t → AllByRecursion IsWritten us → AreConstants (map (λ u. so (equal_term t u)) us)
equal_constants t [] h k = tt
equal_constants t (u ∷ us) h k = (equal_constant t u h k.0, equal_constants t us h k.1)

some_equal_constant : (ts : List Tree) → AllByRecursion IsWritten ts → AreConstants (some_equal ts)
some_equal_constant [] h = tt
some_equal_constant (t ∷ ts) h =
    all_append (λ (s : Signed). IsConstant s.1) (map (λ u. so (equal_term t u)) ts) (some_equal ts) (equal_constants t ts h.0 h.1) (some_equal_constant ts h.1)

crowd_constant : (qs : List Pattern) (v : Signs) (ts : List Tree) → AllByRecursion IsWritten ts → AreConstants (crowd qs v ts)
crowd_constant qs v ts h =
    all_append (λ (s : Signed). IsConstant s.1) (flat_map (other_signs qs v) ts) (some_equal ts) (all_signs_constant qs v ts h) (some_equal_constant ts h)

-- in any world a string that is written is a text
string_of : (w : World) (t : Tree) → IsWritten t → IsAString (val t w)
unfolding val
string_of w t h = record { bytes = h.text; is = ap (λ (z : Tree). val z w) h.is; text = h.utf8 }

-- some world
nobody : Uid
nobody = record { type_name = []; id = [] }

nowhere : World
nowhere = record { request = record { principal = nobody; action = nobody; resource = nobody; context = [] }; store = [] }

pub literal_at : (t : Tree) (l : AnyLiteral) → literal_of t ≡ Some l → t ≡ literal_term l
literal_at (leaf (Literal k)) l e = ap literal_term (same_some e)
literal_at _ l e = absurd cc

pub text_bool : (x : List ℕ) → is_bool (literal_term (literal.String x)) ≡ false
unfolding tree_sort
text_bool x = ap is_bool_in out_String

module _ (d : Declarations) (env : Env) (written : List Uid) where
  text_utf8 : (k : Sort) (x : List ℕ) → IsTermOf d env written k (literal_term (literal.String x)) → IsUtf8 x
  text_utf8 _ _ (judged.of_text x h) = h

  -- a literal of the sort of strings is written
  pub literal_written : (l : AnyLiteral) → IsTerm d env written (literal_term l) → is_string (literal_term l) ≡ true → IsWritten (literal_term l)
  unfolding tree_sort
  literal_written (literal.String x) h e = record { text = x; is = refl; utf8 = text_utf8 _ x h }
  literal_written (literal.Bool b) h e = never _ (sym e ∙ ap string_level out_Bool)
  literal_written (literal.Long n) h e = never _ (sym e ∙ ap string_level out_Long)
  literal_written (literal.Decimal n) h e = never _ (sym e ∙ ap string_level out_Decimal)
  literal_written (literal.Ip ip) h e = never _ (sym e ∙ ap string_level out_Ip)
  literal_written (literal.Entity u us) h e = never _ (sym e ∙ ap string_level (out_Entity u.type_name us))

-- ---- so a counting rule holds of strings that are written

pub written_crowd : (m : Tree → Bool) (qs : List Pattern) (v : Signs) (ts : List Tree) → ((t : Tree) → Has ts t → IsWritten t)
    → ((length v == length qs) && list_all is_string ts) ≡ true → AreFew qs v (length ts) → some_hold m (crowd qs v ts) ≡ true
written_crowd m qs v ts written test few =
    constants_told m nowhere (crowd qs v ts) (crowd_constant qs v ts (all_of_elements IsWritten ts (λ t i. written t (Has-from_Contains ts t i))))
    ∙ subst (λ (b : Bool). Holds nowhere (given b (crowd qs v ts))) test
    (st3_holds nowhere qs v ts (λ strings t i. string_of nowhere t (written t i)) few)
