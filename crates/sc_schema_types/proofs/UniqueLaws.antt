-- With an order common types have one meaning, by which each type of a resolved schema stands for a proper one.
use Rattle.std.proofs.Common.{◌≡◌, ℕ, List, Some, Contains, sym, ◌∙◌, subst}
use Rattle.sc_schema.specs.declared.resolved_type.ResolvedType.{ResolvedType}
use Rattle.sc_schema.specs.declared.resolved_schema.ResolvedSchema.{ResolvedSchema}
use Rattle.sc_schema.specs.Resolved.{common_types, common_names, IsResolvedType, IsResolved}
use Rattle.sc_schema.specs.Expanded.{IsTypeAmong}
use Rattle.sc_schema_types.specs.References.{Names, body_of, references, names_in}
use Rattle.sc_schema_types.specs.Orders.{IsOrder}
use Rattle.sc_schema_types.specs.Expansions.{kinds_of, Meaning, expanded, IsMeaning}
use Rattle.sc_schema_types.specs.Tables.{meaning_by}
use Rattle.sc_schema_types.proofs.AgreeLaws.{same_expanded}
use Rattle.sc_schema_types.proofs.DeclaredLaws.{body_in_order, body_resolved, named_has_body, names_declared}
use Rattle.sc_schema_types.proofs.LeadsLaws.{by_order}
use Rattle.sc_schema_types.proofs.MeaningLaws.{names_of_body, meant_by_order}
use Rattle.sc_schema_types.proofs.ProperLaws.{proper_expanded}

-- an order gives a meaning
pub order_means : (s : ResolvedSchema) (order : Names) → IsOrder s order → IsMeaning (kinds_of s) (body_of s) (meaning_by (kinds_of s) (body_of s) order)
order_means s order h name body is = (meant_by_order (kinds_of s) (body_of s) order h.leads_back).meant name body (body_in_order s order name body h is) is

-- what holds of the meaning of each common type, by those that its body names
module _ (s : ResolvedSchema) (resolved : IsResolved s) (order : Names) (ordered : IsOrder s order) (P : List ℕ → Type 0)
    (step : (q : List ℕ) (body : ResolvedType) → body_of s q ≡ Some body → IsResolvedType s body → ((r : List ℕ) → Contains (names_in body) r → P r) → P q) where
  IfDeclared : List ℕ → Type 0
  IfDeclared q = Contains (common_names s) q → P q

  one_step : (q : List ℕ) → ((r : List ℕ) → Contains (references (body_of s) q) r → IfDeclared r) → IfDeclared q
  unfolding IfDeclared
  one_step q before declared =
      let p = named_has_body (common_types s) q declared in
      let proper : IsResolvedType s p.0 = body_resolved s q p.0 resolved p.1 in
      step q p.0 p.1 proper (λ r has. before r (subst (λ (ns : Names). Contains ns r) (sym (names_of_body (body_of s) q p.0 p.1)) has) (names_declared s p.0 proper r has))

  pub each_common : (q : List ℕ) → Contains (common_names s) q → P q
  unfolding IfDeclared
  each_common q declared =
      let p = named_has_body (common_types s) q declared in
      by_order (references (body_of s)) order ordered.leads_back IfDeclared (λ r _ before. one_step r before) q (body_in_order s order q p.0 ordered p.1) declared

module _ (s : ResolvedSchema) (resolved : IsResolved s) (order : Names) (ordered : IsOrder s order) (m : Meaning) (means : IsMeaning (kinds_of s) (body_of s) m) where
  module _ (n : Meaning) (also : IsMeaning (kinds_of s) (body_of s) n) where
    same_meaning : (q : List ℕ) → Contains (common_names s) q → m q ≡ n q
    same_meaning = each_common s resolved order ordered (λ q. m q ≡ n q)
        (λ q body is _ before. means q body is ∙ same_expanded (kinds_of s) m n body (record { same = before }) ∙ sym (also q body is))

    -- a type has one expansion
    pub one_type : (type : ResolvedType) → IsResolvedType s type → expanded (kinds_of s) m type ≡ expanded (kinds_of s) n type
    one_type type h = same_expanded (kinds_of s) m n type (record { same = λ q has. same_meaning q (names_declared s type h q has) })

  proper_meaning : (q : List ℕ) → Contains (common_names s) q → IsTypeAmong (kinds_of s) (m q)
  proper_meaning = each_common s resolved order ordered (λ q. IsTypeAmong (kinds_of s) (m q))
      (λ q body is h before. subst (IsTypeAmong (kinds_of s)) (sym (means q body is)) (proper_expanded s m body h (record { over = before })))

  -- and that is a proper type
  pub proper_type : (type : ResolvedType) → IsResolvedType s type → IsTypeAmong (kinds_of s) (expanded (kinds_of s) m type)
  proper_type type h = proper_expanded s m type h (record { over = λ q has. proper_meaning q (names_declared s type h q has) })
