-- All that closed terms name is listed, and what holds of each in the list holds of what any closed term names.
use Rattle.std.proofs.Common.{◌≡◌, ◌+◌, ℕ, List, [], ◌∷◌, filter, length, refl, arith}
use Rattle.std.specs.List.{AllByRecursion}
use Rattle.sc_lists.proofs.MemberLaws.{Has-left, Has-last, AllByRecursion-Has}
use Rattle.sc_lists.specs.Members.{Has}
use Rattle.sc_footprint.specs.Problems.{Posed}
use Rattle.sc_rule_laws.proofs.MemberLaws.{filter_kept}
use Rattle.th_sets.specs.declared.named.Named.{Named}
use Rattle.th_sets.specs.declared.named.Named.TheVariants.{Member, Subset, Common, Other}
use Rattle.th_sets.specs.Named.{named_at, IsNameAmong, AreNames, IsNamePut, AreFirst, is_of_sets, IsAmongSets, AreOfSets}
use Rattle.th_sets.proofs.FreeLaws.{first_more}

-- ---- one name more

still_has : (xs ys : List Named) (added by : Named) → IsNamePut xs added ys → Has xs by → Has ys by
still_has xs ys (Member x s) by e h = rw e (Has-left xs (Member x s ∷ []) by h)
still_has xs ys (Subset s t) by e h = rw e (Has-left xs (Subset s t ∷ []) by h)
still_has xs ys (Common s t) by e h = rw e (Has-left xs (Common s t ∷ []) by h)
still_has xs ys Other by e h = rw e h

among_still : (xs ys : List Named) (added by : Named) → IsNamePut xs added ys → IsNameAmong xs by → IsNameAmong ys by
among_still xs ys added (Member x s) e h = still_has xs ys added (Member x s) e h
among_still xs ys added (Subset s t) e h = still_has xs ys added (Subset s t) e h
among_still xs ys added (Common s t) e h = still_has xs ys added (Common s t) e h
among_still xs ys added Other e h = tt

among_now : (xs ys : List Named) (by : Named) → IsNamePut xs by ys → IsNameAmong ys by
among_now xs ys (Member x s) e = rw e (Has-last xs (Member x s))
among_now xs ys (Subset s t) e = rw e (Has-last xs (Subset s t))
among_now xs ys (Common s t) e = rw e (Has-last xs (Common s t))
among_now xs ys Other e = tt

pub names_more : (p : Posed) (n : ℕ) (xs ys : List Named) (by : Named) → by ≡ named_at p (n + 1) → IsNamePut xs by ys → AreFirst p (IsNameAmong xs) n → AreFirst p (IsNameAmong ys) (n + 1)
unfolding AreFirst
names_more p n xs ys by is put before =
    first_more p (IsNameAmong ys) n by is (among_now xs ys by put) (λ k less. among_still xs ys by (named_at p (k + 1)) put (before k less))

-- ---- those of two sets

pub of_sets : (p : Posed) (names : List Named) → AreNames p names → AreOfSets p (filter is_of_sets names)
of_sets p names among n = by (named_at p n) (among n)
  where
    by : (b : Named) → IsNameAmong names b → IsAmongSets (filter is_of_sets names) b
    by (Member x s) h = tt
    by (Subset s t) h = filter_kept is_of_sets names (Subset s t) h refl
    by (Common s t) h = filter_kept is_of_sets names (Common s t) h refl
    by Other h = tt

-- ---- what holds of each name, one less at a time

module _ (p : Posed) (P : Named → Type 0) where
  -- it holds of what any closed term names, if of these
  abbrev pub IsLeft : List Named → Type 0
  IsLeft xs = AllByRecursion P xs → (n : ℕ) → P (named_at p n)

  pub left_all : (names : List Named) → P Other → AreNames p names → IsLeft names
  left_all names other among all n = by (named_at p n) (among n)
    where
      by : (b : Named) → IsNameAmong names b → P b
      by (Member x s) h = AllByRecursion-Has P names (Member x s) all h
      by (Subset s t) h = AllByRecursion-Has P names (Subset s t) all h
      by (Common s t) h = AllByRecursion-Has P names (Common s t) all h
      by Other h = other

  pub left_sets : (names : List Named) → P Other → ((x s : ℕ) → P (Member x s)) → AreOfSets p names → IsLeft names
  left_sets names other member among all n = by (named_at p n) (among n)
    where
      by : (b : Named) → IsAmongSets names b → P b
      by (Member x s) h = member x s
      by (Subset s t) h = AllByRecursion-Has P names (Subset s t) all h
      by (Common s t) h = AllByRecursion-Has P names (Common s t) all h
      by Other h = other

  pub left_less : (xs ys : List Named) (by : Named) → xs ≡ by ∷ ys → P by → IsLeft xs → IsLeft ys
  left_less xs ys by is here left all = left (rw is (here, all))

  pub left_none : (xs : List Named) → length xs ≡ 0 → IsLeft xs → (n : ℕ) → P (named_at p n)
  left_none [] e left = left tt
  left_none (by ∷ xs) e left = absurd (omega (arith, e))
