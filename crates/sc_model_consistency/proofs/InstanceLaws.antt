-- Where no instance is falsified, no rule is whose numbers a log can hold.
use Rattle.std.proofs.Common.{◌≡◌, ℕ, Bool, true, false, IsTrue, List, Option, Some, refl, sym, ◌∙◌, subst}
use Rattle.std.specs.List.{list_all}
use Rattle.sc_laws.proofs.BoolLaws.{never}
use Rattle.sc_clauses.specs.Assignments.{Assignment, falsifies}
use Rattle.sc_clauses.specs.declared.step.Instance.{Instance}
use Rattle.sc_clauses.specs.declared.step.Word.{Word}
use Rattle.sc_footprint.specs.Problems.{Posed}
use Rattle.sc_footprint.specs.Written.{is_word}
use Rattle.sc_rule_laws.specs.Signed.{Said}
use Rattle.sc_rule_instances.specs.Clauses.{is_instance, said_clause}
use Rattle.sc_rule_instances.specs.Instances.{said_by}
use Rattle.sc_rule_instances.specs.Known.{is_falsified}
use Rattle.sc_rule_instances.specs.Names.{numbers_of, numbers_in}
use Rattle.sc_rule_instances.proofs.FalseLaws.{falsified_instance}

-- what is said isn't falsified as an instance
abbrev pub IsRight : Posed → Assignment → Said → Type 0
IsRight p m said = IsTrue (is_instance p said) → falsifies m (said_clause p said) ≡ false

-- so it isn't at all
pub none_falsified : (p : Posed) (m : Assignment) (said : Said) → IsRight p m said → is_falsified p m said ≡ false
none_falsified p m said right = by (is_falsified p m said) refl
  where
    by : (b : Bool) → is_falsified p m said ≡ b → b ≡ false
    by true e = let both = falsified_instance m p said e in never _ (sym both.1 ∙ right both.0)
    by false e = refl

-- the instance of a rule's word and numbers
abbrev pub written : List ℕ → List Word → Instance
written word ws = record { rule = word; words = ws }

pub rule_free : {R : Type 0} (p : Posed) (m : Assignment) (rule_of : Instance → Option R) (say : R → Said)
    → ((i : Instance) → IsRight p m (said_by say (rule_of i))) → (i : Instance) (rule : R) → rule_of i ≡ Some rule → is_falsified p m (say rule) ≡ false
rule_free {R} p m rule_of say right i rule e =
    none_falsified p m (say rule) (subst (λ (o : Option R). IsRight p m (said_by say o)) e (right i))

-- words that a log can hold are the numbers that they are
pub numbers_back : (ws : List Word) → list_all is_word ws ≡ true → numbers_in ws ≡ numbers_of ws
numbers_back ws small = rw small refl
