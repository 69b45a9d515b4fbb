use Rattle.std.proofs.Common.{◌∙◌, ◌≡◌, ◌∷◌, Bool, List, ℕ, map, rules, subst}
use Rattle.sc_smtlib.specs.Marks.{Marks}
use Rattle.sc_smtlib.proofs.MarkLaws.{marks_end, marks_rest}
use Rattle.sc_smtlib.proofs.marks.mark_all.Goals as goal

pub loop-part-preserved : goal.loop-part-preserved
loop-part-preserved c =
    let split : c.loop-part.rest.now ≡ c.in-Some.part.now ∷ c.in-Some.later.now = search rules in
    let keeps = subst (λ z. (d : List Bool) → Marks c.loop-part.marks.items d (map (λ (p : List ℕ × ℕ). p.1) z) → Marks c.args.marks.now.items d (map (λ (p : List ℕ × ℕ). p.1) c.args.parts.now))
    split c.loop-part.invariant.keeps in
    record {
      as_many = c.mark.ensures.as_many ∙ c.loop-part.invariant.as_many;
      within = search rules;
      keeps = marks_rest _ _ _ _ _ _ keeps c.mark.ensures;
    }

pub returns : goal.returns
returns c = marks_end _ _ c.loop-part.rest.now _ (search rules) c.loop-part.invariant.keeps
