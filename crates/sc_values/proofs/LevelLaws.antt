-- What holds at every level of a value of one kind: at its first level, and of the values inside it.
use Rattle.std.proofs.Common.{◌↔◌, ℕ, List, subst}
use Rattle.std.specs.List.{AllByRecursion}
use Rattle.sc_values.specs.declared.value.Value.{Value, Value-F, every-Value}
use Rattle.sc_values.specs.declared.value.Value.TheOpen as v
use Rattle.sc_values.specs.declared.value.Value.TheVariants as value
use Rattle.sc_values.proofs.EveryLaws as every
use Rattle.sc_values.proofs.OutLaws as out

module _ (P : Value-F Value → Type 0) where
  pub in_Bool : (b : _) → every-Value P (value.Bool b) ↔ P (v.Bool b)
  in_Bool b = (λ h. subst P (out.out_Bool b) (every.every_level P (value.Bool b) h), every.every_Bool P b)

  pub in_Long : (n : _) → every-Value P (value.Long n) ↔ P (v.Long n)
  in_Long n = (λ h. subst P (out.out_Long n) (every.every_level P (value.Long n) h), every.every_Long P n)

  pub in_String : (text : _) → every-Value P (value.String text) ↔ P (v.String text)
  in_String text = (λ h. subst P (out.out_String text) (every.every_level P (value.String text) h), every.every_String P text)

  pub in_Entity : (u : _) → every-Value P (value.Entity u) ↔ P (v.Entity u)
  in_Entity u = (λ h. subst P (out.out_Entity u) (every.every_level P (value.Entity u) h), every.every_Entity P u)

  pub in_Decimal : (n : _) → every-Value P (value.Decimal n) ↔ P (v.Decimal n)
  in_Decimal n = (λ h. subst P (out.out_Decimal n) (every.every_level P (value.Decimal n) h), every.every_Decimal P n)

  pub in_Ip : (ip : _) → every-Value P (value.Ip ip) ↔ P (v.Ip ip)
  in_Ip ip = (λ h. subst P (out.out_Ip ip) (every.every_level P (value.Ip ip) h), every.every_Ip P ip)

  pub in_Set : (members : List Value) → every-Value P (value.Set members) ↔ (P (v.Set members) × AllByRecursion (every-Value P) members)
  in_Set members = (
    λ h. (subst P (out.out_Set members) (every.every_level P (value.Set members) h), every.every_members P members h),
    λ h. every.every_Set P members h.0 h.1,
  )

  pub in_Record : (fields : List (List ℕ × Value)) → every-Value P (value.Record fields) ↔ (P (v.Record fields) × AllByRecursion (λ (f : List ℕ × Value). every-Value P f.1) fields)
  in_Record fields = (
    λ h. (subst P (out.out_Record fields) (every.every_level P (value.Record fields) h), every.every_fields P fields h),
    λ h. every.every_Record P fields h.0 h.1,
  )
