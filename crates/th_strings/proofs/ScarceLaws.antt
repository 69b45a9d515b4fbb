-- The scarce strings, one number after the other.
use Rattle.std.proofs.Common.{◌≡◌, ◌≤◌, ◌+◌, ℕ, Bool, true, false, inl, inr, List, [], ◌∷◌, ◌++◌, length, sym, ◌∙◌, subst, arith, length-append, ◌⊎◌, IsTrue, ◌↔◌}
use Rattle.std.specs.List.{AllByRecursion}
use Rattle.sc_lists.proofs.ListLaws.{all_append}
use Rattle.sc_lists.proofs.MemberLaws.{Has-left, Has-last}
use Rattle.sc_lists.specs.Members.{Has}
use Rattle.sc_clauses.specs.Assignments.{Assignment}
use Rattle.sc_footprint.specs.Problems.{Posed}
use Rattle.sc_rule_laws.specs.Strings.{Pattern}
use Rattle.th_strings.specs.Scarce.{AreScarce, IsScarce}

-- the scarce ones among the numbers that were read and those to come
pub record AreScarceSoFar (p : Posed) (m : Assignment) (qs : List Pattern) (count : ℕ) (numbers rest scarce : List ℕ) : Type 0 where
  pub few : length scarce + length rest ≤ length numbers
  pub each : AllByRecursion (IsScarce p m qs count) scarce
  pub all : (n : ℕ) → Has numbers n → IsScarce p m qs count n → Has scarce n ⊎ Has rest n

module _ (p : Posed) (m : Assignment) (qs : List Pattern) (count : ℕ) (numbers : List ℕ) where
  pub scarce_first : AreScarceSoFar p m qs count numbers numbers []
  scarce_first = record { few = omega arith; each = tt; all = λ n h k. inr h }

  pub scarce_more : (n : ℕ) (rest scarce : List ℕ) (b : Bool) → AreScarceSoFar p m qs count numbers (n ∷ rest) scarce → b ≡ true → (IsTrue b ↔ IsScarce p m qs count n)
      → AreScarceSoFar p m qs count numbers rest (scarce ++ n ∷ [])
  scarce_more n rest scarce b h is told = record {
    few = omega (arith, h.few, length-append scarce (n ∷ []));
    each = all_append (IsScarce p m qs count) scarce (n ∷ []) h.each (told.0 is, tt);
    all = λ k there own. elim (h.all k there own) [
      | inl so ↦ inl (Has-left scarce (n ∷ []) k so)
      | inr left ↦ elim left [
        | inl e ↦ inl (subst (Has (scarce ++ n ∷ [])) e (Has-last scarce n))
        | inr later ↦ inr later
      ]
    ];
  }

  pub scarce_skip : (n : ℕ) (rest scarce : List ℕ) (b : Bool) → AreScarceSoFar p m qs count numbers (n ∷ rest) scarce → b ≡ false → (IsTrue b ↔ IsScarce p m qs count n) → AreScarceSoFar p m qs count numbers rest scarce
  scarce_skip n rest scarce b h isnt told = record {
    few = omega (arith, h.few);
    each = h.each;
    all = λ k there own. elim (h.all k there own) [
      | inl so ↦ inl so
      | inr left ↦ elim left [
        | inl e ↦ (let holds : b ≡ true = told.1 (subst (IsScarce p m qs count) (sym e) own) in let never : true ≡ false = sym holds ∙ isnt in absurd cc)
        | inr later ↦ inr later
      ]
    ];
  }

  pub scarce_end : (scarce : List ℕ) → AreScarceSoFar p m qs count numbers [] scarce → AreScarce p m qs count numbers scarce
  scarce_end scarce h = record { few = omega (arith, h.few); each = h.each; all = λ n there own. elim (h.all n there own) [ inl so ↦ so | inr left ↦ absurd left ] }
