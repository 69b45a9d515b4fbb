-- What is asked in parts, one after the other.
use Rattle.std.proofs.Common.{◌≡◌, List, ◌++◌, map, fold, ap, sym, ◌∙◌}
use Rattle.std.proofs.lemmas.List.Sums.{fold-append}
use Rattle.sc_ast.specs.declared.expr.Expr.{Expr}
use Rattle.sc_ast.specs.declared.expr.Variable.TheVariants.{Principal, Resource}
use Rattle.sc_ast.specs.declared.policy.Policy.{Policy}
use Rattle.sc_ast.specs.Conditions.{truth, joined, scope_part, action_part, clause, condition}

-- four lists, one after the other
fold-four : {A B : Type 0} (f : B → A → B) (a b c d : B) (xs ys zs ws : List A) → b ≡ fold f a xs → c ≡ fold f b ys → d ≡ fold f c zs → fold f d ws ≡ fold f a (xs ++ (ys ++ (zs ++ ws)))
fold-four f a b c d xs ys zs ws at_b at_c at_d =
    sym (fold-append f a xs (ys ++ (zs ++ ws))
    ∙ ap (λ z. fold f z (ys ++ (zs ++ ws))) (sym at_b)
    ∙ fold-append f b ys (zs ++ ws)
    ∙ ap (λ z. fold f z (zs ++ ws)) (sym at_c)
    ∙ fold-append f c zs ws
    ∙ ap (λ z. fold f z ws) (sym at_d))

-- the parts of a condition
pub condition-parts : (p : Policy) (b c d : Expr) → b ≡ fold joined (truth p.place) (scope_part Principal p.principal) → c ≡ fold joined b (action_part p.action) → d ≡ fold joined c (scope_part Resource p.resource) → fold joined d (map clause p.conditions) ≡ condition p
condition-parts p b c d at_b at_c at_d =
    fold-four joined (truth p.place) b c d (scope_part Principal p.principal) (action_part p.action) (scope_part Resource p.resource) (map clause p.conditions) at_b at_c at_d
