-- What is reached by two ways, one behind the other.
use Rattle.std.proofs.Common.{◌≡◌, ◌⊎◌, inl, inr, sym, subst}
use Rattle.sc_graphs.specs.Reaching.{Reaches, step, on}

module _ {K : Type 0} {follows : K → K → Type 0} where
  pub further : {a b c : K} → Reaches follows a b → Reaches follows b c → Reaches follows a c
  further (step a b h) r = on a b _ h r
  further (on a m b h q) r = on a m _ h (further q r)

  pub then_one : {a b : K} (c : K) → Reaches follows a b → follows b c → Reaches follows a c
  then_one c (step a b h) e = on a b c h (step b c e)
  then_one d (on a b c h r) e = on a b d h (then_one d r e)

  pub led : {a b c : K} → (a ≡ b) ⊎ Reaches follows a b → Reaches follows b c → Reaches follows a c
  led {a} {b} {c} (inl same) r = subst (λ (x : K). Reaches follows x c) (sym same) r
  led (inr q) r = further q r

  pub leads_on : {a b c : K} → Reaches follows a b → (b ≡ c) ⊎ Reaches follows b c → Reaches follows a c
  leads_on {a} {b} {c} r (inl same) = subst (λ (x : K). Reaches follows a x) same r
  leads_on r (inr q) = further r q
