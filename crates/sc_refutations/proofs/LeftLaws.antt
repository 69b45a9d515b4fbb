-- What is left of a clause, by the number of the literal that was found.
use Rattle.std.proofs.Common.{◌≡◌, ℕ, Bool, true, false, cond, ◌==◌, Option, Some, None, sym, ap}
use Rattle.std.specs.Option.{option_to_list}
use Rattle.std.proofs.lemmas.Bool.{eq-eqb, ne_eqb}
use Rattle.sc_clauses.specs.declared.lit.Lit.{Lit}
use Rattle.sc_refutations.specs.declared.refuting.Residual.TheVariants.{Conflict, Unit}
use Rattle.sc_refutations.specs.Arenas.{lit_of, lit_found}
use Rattle.sc_refutations.specs.Refutations.{residual}

found_by : (code : ℕ) (t : Bool) → (code == 0) ≡ t → lit_found code ≡ cond t None (Some (lit_of code))
found_by code t e = ap (λ (b : Bool). cond b None (Some (lit_of code))) e

pub found_some : (code : ℕ) → (code ≡ 0 → ⊥) → lit_found code ≡ Some (lit_of code)
found_some code some = found_by code false (ne_eqb code 0 some)

pub none_found : (found : ℕ) → found ≡ 0 → Conflict ≡ residual (option_to_list (lit_found found))
none_found found none = ap (λ (o : Option Lit). residual (option_to_list o)) (sym (found_by found true (eq-eqb found 0 none)))

pub one_found : (found : ℕ) → (found ≡ 0 → ⊥) → Unit (lit_of found) ≡ residual (option_to_list (lit_found found))
one_found found some = ap (λ (o : Option Lit). residual (option_to_list o)) (sym (found_some found some))
