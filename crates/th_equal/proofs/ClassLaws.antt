-- Classes of items: the lowest item of one, two that become one, and labels.
use Rattle.std.proofs.Common.{◌≡◌, ◌≢◌, ℕ, ◌<◌, ◌≤◌, ◌+◌, ◌++◌, List, [], ◌∷◌, length, get_or, set, refl, sym, ap, ◌∙◌, subst, arith, ⊎_elim}
use Rattle.std.proofs.lemmas.Bool.{cases_lt, cases_eq}
use Rattle.std.proofs.lemmas.List.{length-set, length-append, get_or-set_same, get_or-set_other, get_or_append_left, get_or_push}
use Rattle.sc_laws.proofs.NumberLaws.{last_or_before}
use Rattle.th_equal.specs.Classes.{AreParents, IsAlong, AreFirstAlong, IsSame, IsRoot, IsCoarser}

pub same_itself : (ps : List ℕ) (i : ℕ) → IsSame ps i i
same_itself ps i = record { same = λ ls h. refl }

pub same_turned : (ps : List ℕ) (i j : ℕ) → IsSame ps i j → IsSame ps j i
same_turned ps i j h = record { same = λ ls k. sym (h.same ls k) }

pub same_through : (ps : List ℕ) (i j k : ℕ) → IsSame ps i j → IsSame ps j k → IsSame ps i k
same_through ps i j k h g = record { same = λ ls l. h.same ls l ∙ g.same ls l }

-- ---- the lowest item

pub root_step : (ps : List ℕ) (i at p : ℕ) → at < length ps → get_or ps at 0 ≡ p → IsSame ps i at → IsSame ps i p
root_step ps i at p less e h = record { same = λ ls l. h.same ls l ∙ l.along at less ∙ ap (λ (n : ℕ). get_or ls n 0) e }

pub root_end : (ps : List ℕ) (i at : ℕ) → at < length ps → get_or ps at 0 ≡ at → IsSame ps i at → IsRoot ps i at
root_end ps i at less e h = record { within = less; own = e; class = h }

-- ---- coarser classes

pub coarser_itself : (ps : List ℕ) → AreParents ps → IsCoarser ps ps
coarser_itself ps h = record { sized = refl; parents = h; kept = λ ls l. l }

pub coarser_through : (ps qs rs : List ℕ) → IsCoarser ps qs → IsCoarser qs rs → IsCoarser ps rs
coarser_through ps qs rs h g = record { sized = g.sized ∙ h.sized; parents = g.parents; kept = λ ls l. h.kept ls (g.kept ls l) }

pub same_coarser : (ps qs : List ℕ) (i j : ℕ) → IsCoarser ps qs → IsSame ps i j → IsSame qs i j
same_coarser ps qs i j h g = record { same = λ ls l. g.same ls (h.kept ls l) }

module _ (ps qs : List ℕ) (i p : ℕ) (less : i < length ps) (is : qs ≡ set ps i p) where
  size : length qs ≡ length ps
  size = ap length is ∙ length-set ps i p

  here : get_or qs i 0 ≡ p
  here = ap (λ (l : List ℕ). get_or l i 0) is ∙ get_or-set_same ps i p 0 less

  others : (j : ℕ) → j ≢ i → get_or qs j 0 ≡ get_or ps j 0
  others j apart = ap (λ (l : List ℕ). get_or l j 0) is ∙ get_or-set_other ps i j p 0 apart

  pub put_coarser : get_or ps i 0 ≡ i → p ≤ i → AreParents ps → IsCoarser ps qs
  put_coarser own low h = record {
    sized = size;
    parents = record {
      low = λ j under.
          ⊎_elim (λ (same : j ≡ i). let at = ap (λ (k : ℕ). get_or qs k 0) same ∙ here in omega (arith, at, low, same))
          (λ apart. let at = others j apart in let old = h.low j (omega (arith, under, size)) in omega (arith, at, old))
          (cases_eq j i);
    };
    kept = λ ls l. record {
      along = λ j under.
          ⊎_elim (λ (same : j ≡ i). sym (ap (λ (k : ℕ). get_or ls (get_or ps k 0) 0) same ∙ ap (λ (k : ℕ). get_or ls k 0) own ∙ ap (λ (k : ℕ). get_or ls k 0) (sym same)))
          (λ apart. l.along j (omega (arith, under, size)) ∙ ap (λ (k : ℕ). get_or ls k 0) (others j apart))
          (cases_eq j i);
    };
  }

  pub put_same : IsSame qs i p
  put_same = record { same = λ ls l. l.along i (omega (arith, less, size)) ∙ ap (λ (k : ℕ). get_or ls k 0) here }

-- the classes of two become one
pub join_same : (ps qs : List ℕ) (i j a b : ℕ) → IsRoot ps i a → IsRoot ps j b → IsCoarser ps qs → IsSame qs a b → IsSame qs i j
join_same ps qs i j a b h g coarser same =
    same_through qs i a j (same_coarser ps qs i a coarser h.class)
    (same_through qs a b j same (same_turned qs j b (same_coarser ps qs j b coarser g.class)))

pub join_turned : (ps qs : List ℕ) (i j a b : ℕ) → IsRoot ps i a → IsRoot ps j b → IsCoarser ps qs → IsSame qs b a → IsSame qs i j
join_turned ps qs i j a b h g coarser same = join_same ps qs i j a b h g coarser (same_turned qs b a same)

-- ---- each a class of its own

pub alone_next : (ps : List ℕ) (n : ℕ) → length ps ≡ n → AreParents ps → AreParents (ps ++ n ∷ [])
alone_next ps n size h = record {
  low = λ i less.
      ⊎_elim (λ (l : i < length ps). subst (λ (k : ℕ). k ≤ i) (sym (get_or_append_left ps (n ∷ []) 0 i l)) (h.low i l))
      (λ (l : length ps ≤ i). ⊎_elim
      (λ (m : n < i). absurd (omega (arith, less, m, size, length-append ps (n ∷ []))))
      (λ (m : i ≤ n). let same : length ps ≡ i = omega (arith, m, l, size) in subst (λ (k : ℕ). k ≤ i) (sym (get_or_push ps n 0 i same)) (omega (arith, same, size)))
      (cases_lt n i))
      (cases_lt i (length ps));
}

-- ---- labels

pub label_next : (ps ls : List ℕ) (n l : ℕ) → AreParents ps → n < length ps → (get_or ps n 0 < n → l ≡ get_or ls (get_or ps n 0) 0) → (n ≤ get_or ps n 0 → l ≡ n) → AreFirstAlong ps ls n → AreFirstAlong ps (ls ++ l ∷ []) (n + 1)
label_next ps ls n l h less low own some = record {
  sized = omega (arith, length-append ls (l ∷ []), some.sized);
  along = λ i under. ⊎_elim (before i) last (last_or_before i n under);
}
  where
    left : (i : ℕ) → i < n → get_or (ls ++ l ∷ []) i 0 ≡ get_or ls i 0
    left i under = get_or_append_left ls (l ∷ []) 0 i (omega (arith, under, some.sized))

    before : (i : ℕ) → i < n → get_or (ls ++ l ∷ []) i 0 ≡ get_or (ls ++ l ∷ []) (get_or ps i 0) 0
    before i under = left i under ∙ some.along i under ∙ sym (left (get_or ps i 0) (omega (arith, under, less, h.low i (omega (arith, under, less)))))

    last : {i : ℕ} → i ≡ n → get_or (ls ++ l ∷ []) i 0 ≡ get_or (ls ++ l ∷ []) (get_or ps i 0) 0
    last {i} same = subst (λ (k : ℕ). get_or (ls ++ l ∷ []) k 0 ≡ get_or (ls ++ l ∷ []) (get_or ps k 0) 0) (sym same)
        (⊎_elim (λ (k : get_or ps n 0 < n). get_or_push ls l 0 n some.sized ∙ low k ∙ sym (left (get_or ps n 0) k))
        (λ (k : n ≤ get_or ps n 0). ap (λ (j : ℕ). get_or (ls ++ l ∷ []) j 0) (omega (arith, k, h.low n less)))
        (cases_lt (get_or ps n 0) n))

pub labels_end : (ps ls : List ℕ) (n : ℕ) → n ≡ length ps → AreFirstAlong ps ls n → IsAlong ps ls
labels_end ps ls n e h = record { along = λ i less. h.along i (omega (arith, less, e)) }
