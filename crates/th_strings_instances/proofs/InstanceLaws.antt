-- Each instance's clause has literals of listed atoms, none with its negation, and is true in every well-formed world of its problem: what its
-- rule says is true by the laws of that rule. And each has a text.
use Rattle.std.proofs.Common.{◌≡◌, true, false, [], Option, Some, None, refl}
use Rattle.std.specs.Option.{IsSomeAnd}
use Rattle.std.specs.Str.{bytes_eq}
use Rattle.sc_clauses.specs.declared.step.Instance.{Instance}
use Rattle.sc_world.specs.declared.world.World.{World}
use Rattle.sc_footprint.specs.Problems.{Posed, IsPosed}
use Rattle.sc_footprint.specs.Truths.{IsWorldOf, IsTrueIn}
use Rattle.sc_footprint.specs.Theories.{IsClauseOf, TermsHold}
use Rattle.sc_footprint.specs.Written.{is_instance as is_writable}
use Rattle.sc_rule_instances.specs.Clauses.{said_clause}
use Rattle.sc_rule_instances.specs.Instances.{said_by}
use Rattle.sc_rule_instances.proofs.InstanceLaws.{said_lawful, said_true}
use Rattle.th_strings_instances.specs.Instances.{string_said, IsInstanceOf, HasString, string_clause}
use Rattle.th_strings_instances.specs.Names.{string_rule}
use Rattle.th_strings_instances.specs.Patterns.{patterns}
use Rattle.th_strings_instances.specs.declared.rule.StringRule.{StringRule}
use Rattle.th_strings_instances.proofs.NameLaws.{string_text}
use Rattle.th_strings_instances.proofs.RulesHold.{string_holds}

-- ---- the laws of the theory

pub string_lawful : (p : Posed) (i : Instance) → TermsHold → IsPosed p → HasString p i → IsClauseOf p (string_clause p i)
string_lawful p i laws posed = by (string_rule i)
  where
    by : (o : Option StringRule) → IsSomeAnd o (IsInstanceOf p (patterns p)) → IsClauseOf p (said_clause p (said_by (string_said p) o))
    by (Some rule) h = said_lawful p (string_said p rule) posed h.0
    by None h = absurd h

pub string_sound : (p : Posed) (i : Instance) (w : World) → TermsHold → IsPosed p → HasString p i → IsWorldOf p w → IsTrueIn p w (string_clause p i)
string_sound p i w laws posed has formed = by (string_rule i) has
  where
    by : (o : Option StringRule) → IsSomeAnd o (IsInstanceOf p (patterns p)) → IsTrueIn p w (said_clause p (said_by (string_said p) o))
    by (Some rule) h = said_true laws p w (string_said p rule) posed formed h.0 (string_holds laws p w posed formed (patterns p) rule h.1)
    by None h = absurd h

-- each has a text: that of its rule's word, and of words that a log can hold
pub string_written : (p : Posed) (i : Instance) → IsPosed p → HasString p i → bytes_eq i.rule [] ≡ false → is_writable i ≡ true
string_written p i posed has e = by (string_rule i) refl has
  where
    by : (o : Option StringRule) → string_rule i ≡ o → IsSomeAnd o (IsInstanceOf p (patterns p)) → is_writable i ≡ true
    by (Some rule) f h = string_text i.rule i.words rule f
    by None f h = absurd h
