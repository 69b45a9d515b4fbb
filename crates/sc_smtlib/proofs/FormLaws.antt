-- Which sort is that of addresses, and which goals are in a script.
use Rattle.std.proofs.Common.{◌≡◌, ◌<◌, ◌+◌, ℕ, Bool, true, false, List, refl, sym, ap, ◌∙◌, subst}
use Rattle.sc_names.specs.declared.uid.Uid.{Uid}
use Rattle.sc_sorts.specs.declared.sort.Sort.{Sort}
use Rattle.sc_sorts.specs.declared.sort.Sort.TheVariants as sort
use Rattle.sc_sorts.proofs.OutLaws.{out_Bool, out_Long, out_String, out_Decimal, out_Ip, out_Entity, out_Set, out_Record, out_Option}
use Rattle.sc_sorts.specs.declared.node.Node.{Node}
use Rattle.sc_terms.specs.Trees.{Tree}
use Rattle.sc_terms.specs.Tables.{tree}
use Rattle.sc_smtlib.specs.Marks.{is_marked, AreMarked}
use Rattle.sc_smtlib_terms.specs.Forms.{IsSubterm, is_ip_level, is_ip, has_form, IsInScript}
use Rattle.sc_smtlib.specs.Spoken.{is_spoken}
use Rattle.sc_smtlib.proofs.MarkLaws.{has_mark, past_marks}
use Rattle.std.specs.Prelude.{if◌then◌else◌}

pub ip_Bool : is_ip sort.Bool ≡ false
ip_Bool = ap is_ip_level out_Bool

pub ip_Long : is_ip sort.Long ≡ false
ip_Long = ap is_ip_level out_Long

pub ip_String : is_ip sort.String ≡ false
ip_String = ap is_ip_level out_String

pub ip_Decimal : is_ip sort.Decimal ≡ false
ip_Decimal = ap is_ip_level out_Decimal

pub ip_Ip : is_ip sort.Ip ≡ true
ip_Ip = ap is_ip_level out_Ip

pub ip_Entity : (name : List ℕ) (choices : List Uid) → is_ip (sort.Entity name choices) ≡ false
ip_Entity name choices = ap is_ip_level (out_Entity name choices)

pub ip_Set : (member : Sort) → is_ip (sort.Set member) ≡ false
ip_Set member = ap is_ip_level (out_Set member)

pub ip_Record : (fields : List (List ℕ × Sort)) → is_ip (sort.Record fields) ≡ false
ip_Record fields = ap is_ip_level (out_Record fields)

pub ip_Option : (held : Sort) → is_ip (sort.Option held) ≡ false
ip_Option held = ap is_ip_level (out_Option held)

spoken_form : (xs : List Node) (marks : List Bool) (n : ℕ) → is_marked marks n ≡ true → is_spoken xs marks n ≡ true → has_form (tree xs n) ≡ true
spoken_form xs marks n m h = sym (ap (λ (b : Bool). if b then has_form (tree xs n) else true) m) ∙ h

-- all numbers up to the goal's are spoken
pub all_spoken : (xs : List Node) (goal : ℕ) (marks : List Bool) → AreMarked xs goal 0 marks
    → ((n : ℕ) → n < goal + 1 → is_spoken xs marks n ≡ true) → IsInScript (tree xs goal)
all_spoken xs goal marks is all = record { each = λ t h. by t h }
  where
    within : (n : ℕ) → is_marked marks n ≡ true → n < goal + 1
    within n e = subst (λ z. n < z) is.as_many (past_marks marks n e)

    by : (t : Tree) → IsSubterm (tree xs goal) t → has_form t ≡ true
    by t h = let m = has_mark xs goal marks is t h in subst (λ z. has_form z ≡ true) m.2 (spoken_form xs marks m.0 m.1 (all m.0 (within m.0 m.1)))

-- one isn't
pub one_unspoken : (xs : List Node) (goal n : ℕ) (marks : List Bool) → AreMarked xs goal 0 marks → is_spoken xs marks n ≡ false → IsInScript (tree xs goal) → ⊥
one_unspoken xs goal n marks is h each = by (is_marked marks n) refl
  where
    by : (b : Bool) → is_marked marks n ≡ b → ⊥
    by true e =
        let f : true ≡ false = sym (each.each (tree xs n) (is.sound n e)) ∙ sym (ap (λ (b : Bool). if b then has_form (tree xs n) else true) e) ∙ h in absurd cc
    by false e = let f : true ≡ false = sym (ap (λ (b : Bool). if b then has_form (tree xs n) else true) e) ∙ h in absurd cc
