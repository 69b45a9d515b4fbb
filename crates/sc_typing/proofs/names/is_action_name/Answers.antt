use Rattle.std.proofs.Common.{◌≡◌, List, ℕ, Bool, false, nat_eq, codes, sym, ap, ◌∙◌}
use Rattle.std.specs.List.{ends_with}
use Rattle.std.specs.Str.{bytes_eq}
use Rattle.std.proofs.lemmas.Str.Pattern.{ends_text}
use Rattle.sc_typing.specs.Names.{is_action_name}
use Rattle.sc_typing.proofs.names.is_action_name.Goals as goal

-- a path that isn't `Action` alone
by_its_end : (r : Bool) (m n : List ℕ) → bytes_eq n (codes "Action") ≡ false → m ≡ n → r ≡ ends_with nat_eq m (codes "::Action") → r ≡ is_action_name n
by_its_end r m n other same tail = rw other (tail ∙ ap (λ z. ends_with nat_eq z (codes "::Action")) same)

pub returns-else-eq : goal.returns-else-eq
returns-else-eq c =
    by_its_end c.ends_with.result c.as_str-else-eq.result.now c.args.name.now
    (ap (λ z. bytes_eq z (codes "Action")) (sym c.as_str.ensures) ∙ sym c.if-eq.ensures)
    c.as_str-else-eq.ensures
    (ends_text c.ends_with.result (codes "::Action") c.as_str-else-eq.result.now c.ends_with.ensures.cases)
