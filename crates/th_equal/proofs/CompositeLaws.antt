-- Records and options are no literals.
use Rattle.std.proofs.Common.{◌≡◌, Bool, true, false, Some, None, refl, sym, ap, ◌∙◌}
use Rattle.std.proofs.lemmas.Bool.{true≢false}
use Rattle.sc_sorts.specs.declared.sort.Sort.{Sort, Sort-F, out-Sort}
use Rattle.sc_sorts.specs.declared.sort.Sort.TheOpen as s
use Rattle.sc_sorts.specs.Defaults.{is_option_level}
use Rattle.sc_sorts.specs.Inside.{SortFields}
use Rattle.sc_sorts.proofs.OutLaws.{out_Bool, out_Long, out_String, out_Decimal, out_Ip, out_Entity}
use Rattle.sc_sorts.specs.declared.node.Leaf.TheVariants as leafs
use Rattle.sc_sorts.specs.declared.node.Literal.TheVariants as literals
use Rattle.sc_terms.specs.Trees.{Tree, leaf}
use Rattle.sc_terms.specs.TreeSorts.{tree_sort}
use Rattle.sc_terms.specs.Folds.{literal_of}
use Rattle.sc_rule_laws.specs.Terms.{fields_level}

abbrev pub is_composite_level : Sort-F Sort → Bool
is_composite_level (s.Record fields) = true
is_composite_level (s.Option held) = true
is_composite_level _ = false

abbrev pub is_composite : Tree → Bool
is_composite t = is_composite_level (out-Sort (tree_sort t))

pub record_composite : (k : Sort-F Sort) (fs : SortFields) → fields_level k ≡ Some fs → is_composite_level k ≡ true
record_composite (s.Record gs) fs e = refl
record_composite _ fs e = absurd cc

pub option_composite : (k : Sort-F Sort) → is_option_level Sort k ≡ true → is_composite_level k ≡ true
option_composite (s.Option held) e = refl
option_composite _ e = absurd cc

simple : (k l : Sort-F Sort) → k ≡ l → is_composite_level l ≡ false → is_composite_level k ≡ true → ⊥
simple k l e f h = true≢false (sym h ∙ ap is_composite_level e ∙ f)

pub no_literal : (x : Tree) → is_composite x ≡ true → literal_of x ≡ None
unfolding tree_sort
no_literal (leaf (leafs.Literal (literals.Bool b))) h = absurd (simple _ _ out_Bool refl h)
no_literal (leaf (leafs.Literal (literals.Long n))) h = absurd (simple _ _ out_Long refl h)
no_literal (leaf (leafs.Literal (literals.String text))) h = absurd (simple _ _ out_String refl h)
no_literal (leaf (leafs.Literal (literals.Decimal d))) h = absurd (simple _ _ out_Decimal refl h)
no_literal (leaf (leafs.Literal (literals.Ip ip))) h = absurd (simple _ _ out_Ip refl h)
no_literal (leaf (leafs.Literal (literals.Entity u us))) h = absurd (simple _ _ (out_Entity u.type_name us) refl h)
no_literal _ h = refl
