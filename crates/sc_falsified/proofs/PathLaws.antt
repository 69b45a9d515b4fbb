-- The search for a gap, one number after the other.
use Rattle.std.proofs.Common.{◌≡◌, ℕ, ◌<◌, ◌+◌, Bool, true, false, List, length, get_or, Option, Some, None, ⊎_elim, sym, ◌∙◌, subst, arith}
use Rattle.sc_falsified.specs.Truths.{Truth}
use Rattle.sc_falsified.specs.Paths.{NoGap, IsReach, ReachesNone, NoEnd, NoStart, NoMiddle}
use Rattle.sc_laws.proofs.NumberLaws.{last_or_before}

pub none_first : (reach : List (Option Bool)) → ReachesNone reach 0
unfolding ReachesNone
none_first reach c less = absurd (omega arith)

pub none_more : (reach : List (Option Bool)) (c : ℕ) → ¬ (get_or reach c None ≡ Some true) → ReachesNone reach c → ReachesNone reach (c + 1)
unfolding ReachesNone
none_more reach c other h d less =
    ⊎_elim (h d) (λ (same : d ≡ c). subst (λ m. ¬ (get_or reach m None ≡ Some true)) (sym same) other) (last_or_before d c less)

-- where no end is reached, no start makes a gap
pub none_reached : (first second third : Truth) (starts ends b : ℕ) (reach : List (Option Bool)) → IsReach second ends b reach → ReachesNone reach (length reach)
    → NoStart first second third starts ends b
unfolding ReachesNone NoStart NoEnd
none_reached first second third starts ends b reach is none a less on c low joined off = none c (omega (arith, is.sized, low)) (is.at c low ∙ joined)

pub end_first : (second third : Truth) (a b : ℕ) → NoEnd second third 0 a b
unfolding NoEnd
end_first second third a b c less = absurd (omega arith)

-- an end was looked at
pub end_more : (second third : Truth) (a b c : ℕ) → ¬ ((second b c ≡ Some true) × (third a c ≡ Some false)) → NoEnd second third c a b → NoEnd second third (c + 1) a b
unfolding NoEnd
end_more second third a b c other h d less on off =
    ⊎_elim (λ l. h d l on off)
    (λ (same : d ≡ c). other (subst (λ m. second b m ≡ Some true) same on, subst (λ m. third a m ≡ Some false) same off))
    (last_or_before d c less)

pub end_unreached : (second third : Truth) (ends a b c : ℕ) (reach : List (Option Bool)) → IsReach second ends b reach → c < ends → ¬ (get_or reach c None ≡ Some true)
    → NoEnd second third c a b → NoEnd second third (c + 1) a b
end_unreached second third ends a b c reach is less other = end_more second third a b c (λ both. other (is.at c less ∙ both.0))

pub end_joined : (second third : Truth) (a b c : ℕ) → ¬ (third a c ≡ Some false) → NoEnd second third c a b → NoEnd second third (c + 1) a b
end_joined second third a b c other = end_more second third a b c (λ both. other both.1)

pub start_first : (first second third : Truth) (ends b : ℕ) → NoStart first second third 0 ends b
unfolding NoStart
start_first first second third ends b a less = absurd (omega arith)

pub start_skip : (first second third : Truth) (ends b a : ℕ) → ¬ (first a b ≡ Some true) → NoStart first second third a ends b → NoStart first second third (a + 1) ends b
unfolding NoStart
start_skip first second third ends b a other h d less on =
    ⊎_elim (λ l. h d l on) (λ (same : d ≡ a). absurd (other (subst (λ m. first m b ≡ Some true) same on))) (last_or_before d a less)

pub start_more : (first second third : Truth) (ends b a : ℕ) → NoEnd second third ends a b → NoStart first second third a ends b → NoStart first second third (a + 1) ends b
unfolding NoStart
start_more first second third ends b a now h d less on =
    ⊎_elim (λ l. h d l on) (λ (same : d ≡ a). subst (λ m. NoEnd second third ends m b) (sym same) now) (last_or_before d a less)

pub middle_first : (first second third : Truth) (starts ends : ℕ) → NoMiddle first second third starts 0 ends
unfolding NoMiddle
middle_first first second third starts ends b less = absurd (omega arith)

pub middle_more : (first second third : Truth) (starts ends b : ℕ) → NoStart first second third starts ends b → NoMiddle first second third starts b ends
    → NoMiddle first second third starts (b + 1) ends
unfolding NoMiddle
middle_more first second third starts ends b now h d less =
    ⊎_elim (λ l. h d l) (λ (same : d ≡ b). subst (λ m. NoStart first second third starts ends m) (sym same) now) (last_or_before d b less)

pub no_gap : (first second third : Truth) (starts middles ends : ℕ) → NoMiddle first second third starts middles ends → NoGap first second third starts middles ends
unfolding NoMiddle NoStart NoEnd
no_gap first second third starts middles ends h a b c one two three is = h b two a one is.joined c three is.goes_on is.apart
