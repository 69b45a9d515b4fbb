-- Numbers that are put behind others while the table grows, and what the row of a term tells.
use Rattle.std.proofs.Common.{◌≡◌, ℕ, zero, suc, Bool, true, false, ◌+◌, ◌-◌, ◌<◌, ◌≤◌, List, [], ◌∷◌, ◌++◌, map, length, refl, sym, ap, ◌∙◌, subst, arith}
use Rattle.std.proofs.Common.{append_assoc, append-nil}
use Rattle.std.proofs.lemmas.List.{map-append, length-map}
use Rattle.std.specs.List.{AllByRecursion}
use Rattle.sc_terms.proofs.TableLaws.{keeps_then, keeps_itself}
use Rattle.sc_sorts.proofs.OutLaws.{out_Long}
use Rattle.sc_sorts.specs.declared.node.Node.{Node}
use Rattle.sc_sorts.specs.declared.node.BinaryOp.TheVariants as binary
use Rattle.sc_terms.specs.Trees.{Tree, two}
use Rattle.sc_terms.specs.TreeSorts.{tree_sort}
use Rattle.sc_terms.specs.Tables.{tree, Keeps, StandsFor}
use Rattle.sc_terms.specs.Folds.{equal_term, bit_term}
use Rattle.sc_term_definitions.specs.declared.row.Row.{Row}
use Rattle.sc_term_definitions.specs.declared.row.Row.TheVariants as row
use Rattle.sc_term_definitions.specs.Definitions.{Definition, definition, counted, bits_in, bit_count, sign_equations, upper_bits, agreements, range_inputs, shape_of, inputs_of}
use Rattle.sc_term_definitions.specs.Making.{stood, Puts, HasBit, operator, IsRowOf, inputs_by, shape_by, count_by, definition_by}
use Rattle.sc_term_definitions.proofs.MemberLaws.{within_later, within_append}

-- what the numbers of a table stand for stays
pub stood_later : (xs ys : List Node) → Keeps xs ys → (ns : List ℕ) → AllByRecursion (λ n. n < length xs) ns → stood ys ns ≡ stood xs ns
stood_later xs ys e [] h = refl
stood_later xs ys e (n ∷ ns) h =
    let f = e.same n h.0 in
    let g = stood_later xs ys e ns h.1 in
    cc

-- a number stands for the same of equal terms
pub stands_same : {xs : List Node} {n : ℕ} (f : Tree → Tree) {t u : Tree} → t ≡ u → StandsFor xs n (f t) → StandsFor xs n (f u)
stands_same {xs} {n} f e s = subst (λ (z : Tree). StandsFor xs n (f z)) e s

pub puts_nothing : (xs : List Node) (ns : List ℕ) → Puts xs xs ns ns []
puts_nothing xs ns = record { kept = keeps_itself xs; more = []; is = sym (append-nil ns); within = tt; stands = refl }

-- two numbers that are there already
pub puts_these : (xs : List Node) (ns ms : List ℕ) (a b : ℕ) → a < length xs → b < length xs → ms ≡ ns ++ a ∷ b ∷ [] → Puts xs xs ns ms (tree xs a ∷ tree xs b ∷ [])
puts_these xs ns ms a b g h e = record { kept = keeps_itself xs; more = a ∷ b ∷ []; is = e; within = (g, (h, tt)); stands = refl }

-- and three
pub puts_those : (xs : List Node) (ns ms : List ℕ) (a b c : ℕ) → a < length xs → b < length xs → c < length xs → ms ≡ ns ++ a ∷ b ∷ c ∷ [] → Puts xs xs ns ms (tree xs a ∷ tree xs b ∷ tree xs c ∷ [])
puts_those xs ns ms a b c f g h e = record { kept = keeps_itself xs; more = a ∷ b ∷ c ∷ []; is = e; within = (f, (g, (h, tt))); stands = refl }

-- one number
pub puts_one : (xs ys : List Node) (ns ms : List ℕ) (n : ℕ) (t : Tree) → Keeps xs ys → StandsFor ys n t → ms ≡ ns ++ n ∷ [] → Puts xs ys ns ms (t ∷ [])
puts_one xs ys ns ms n t k s e = record { kept = k; more = n ∷ []; is = e; within = (s.within, tt); stands = ap (λ (u : Tree). u ∷ []) s.is }

-- three numbers
pub puts_three : (xs ys : List Node) (ns ms : List ℕ) (a b c : ℕ) (t u v : Tree) → Keeps xs ys → StandsFor ys a t → StandsFor ys b u → StandsFor ys c v → ms ≡ ns ++ a ∷ b ∷ c ∷ []
    → Puts xs ys ns ms (t ∷ u ∷ v ∷ [])
puts_three xs ys ns ms a b c t u v k f g h e = record {
  kept = k;
  more = a ∷ b ∷ c ∷ [];
  is = e;
  within = (f.within, (g.within, (h.within, tt)));
  stands = λ i. f.is i ∷ g.is i ∷ h.is i ∷ [];
}

-- what is put, and then what more
module _ (xs ys zs : List Node) (ns ms ls : List ℕ) (ts us : List Tree) where
  pub puts_then : Puts xs ys ns ms ts → Puts ys zs ms ls us → Puts xs zs ns ls (ts ++ us)
  puts_then p q = record {
    kept = keeps_then xs ys zs p.kept q.kept;
    more = p.more ++ q.more;
    is = q.is ∙ ap (λ (l : List ℕ). l ++ q.more) p.is ∙ append_assoc ns p.more q.more;
    within = within_append (length zs) p.more q.more (within_later (length ys) (length zs) q.kept.longer p.more p.within) q.within;
    stands = map-append (tree zs) p.more q.more ∙ ap (λ (l : List Tree). l ++ stood zs q.more) (stood_later ys zs q.kept p.more p.within ∙ p.stands)
        ∙ ap (λ (l : List Tree). ts ++ l) q.stands;
  }

-- the same of equal lists of terms
pub puts_same : (xs ys : List Node) (ns ms : List ℕ) (ts us : List Tree) → ts ≡ us → Puts xs ys ns ms ts → Puts xs ys ns ms us
puts_same xs ys ns ms ts us e p = subst (Puts xs ys ns ms) e p

-- what is put once the table has grown
pub puts_later : (xs ys zs : List Node) (ns ms : List ℕ) (ts : List Tree) → Keeps xs ys → Puts ys zs ns ms ts → Puts xs zs ns ms ts
puts_later xs ys zs ns ms ts e p = record { kept = keeps_then xs ys zs e p.kept; more = p.more; is = p.is; within = p.within; stands = p.stands }

-- of a product that is made first
pub upper_put : (xs ys zs : List Node) (ns ms : List ℕ) (n : ℕ) (a b : Tree) → Keeps xs ys → StandsFor ys n (two binary.Multiply a b) → Puts ys zs ns ms (sign_equations (tree ys n))
    → Puts xs zs ns ms (upper_bits a b)
upper_put xs ys zs ns ms n a b e s p = puts_later xs ys zs ns ms (upper_bits a b) e (subst (λ (t : Tree). Puts ys zs ns ms (sign_equations t)) s.is p)

-- of a range: the version, and then the places
pub range_put : (xs ys zs : List Node) (ns ms ls : List ℕ) (n a b : ℕ) → Keeps xs ys → a < length xs → b < length xs → StandsFor ys n (equal_term (bit_term (tree xs a) 0) (bit_term (tree xs b) 0))
    → ms ≡ ns ++ n ∷ [] → Puts ys zs ms ls (agreements (tree ys a) (tree ys b)) → Puts xs zs ns ls (range_inputs (tree xs a) (tree xs b))
range_put xs ys zs ns ms ls n a b e g h s m p =
    let places = subst (λ (t : Tree). Puts ys zs ms ls (agreements (tree xs a) t)) (e.same b h) (subst (λ (t : Tree). Puts ys zs ms ls (agreements t (tree ys b))) (e.same a g) p) in
    puts_then xs ys zs ns ms ls (equal_term (bit_term (tree xs a) 0) (bit_term (tree xs b) 0) ∷ []) (agreements (tree xs a) (tree xs b))
    (puts_one xs ys ns ms n (equal_term (bit_term (tree xs a) 0) (bit_term (tree xs b) 0)) e s m) places

-- ---- numbers that are counted, one more at a time

pub counted_next : (from n : ℕ) → counted from (suc n) ≡ counted from n ++ (from + n) ∷ []
unfolding counted
counted_next from zero = let e : from ≡ from + 0 = omega arith in ap (λ (k : ℕ). k ∷ []) e
counted_next from (suc n) =
    let e : suc from + n ≡ from + suc n = omega arith in
    ap (λ (ks : List ℕ). from ∷ ks) (counted_next (suc from) n ∙ ap (λ (k : ℕ). counted (suc from) n ++ k ∷ []) e)

pub counted_length : (from n : ℕ) → length (counted from n) ≡ n
unfolding counted
counted_length from zero = refl
counted_length from (suc n) = ap suc (counted_length (suc from) n)

-- a term for each place from one on: none yet, and one more
pub puts_start : (xs ys : List Node) (f : ℕ → Tree) (ns : List ℕ) (from : ℕ) → Keeps xs ys → Puts xs ys ns ns (map f (counted from (from - from)))
unfolding counted
puts_start xs ys f ns from e =
    let none : from - from ≡ 0 = omega arith in
    rw none (record { kept = e; more = []; is = sym (append-nil ns); within = tt; stands = refl })

module _ (s0 s1 s2 : List Node) (f : ℕ → Tree) (ls ms : List ℕ) (from p k : ℕ) (start : from ≤ p) where
  places : map f (counted from (p - from)) ++ f p ∷ [] ≡ map f (counted from (p + 1 - from))
  places =
      let at : from + (p - from) ≡ p = omega (arith, start) in
      let next : p + 1 - from ≡ suc (p - from) = omega (arith, start) in
      rw next (sym (ap (map f) (counted_next from (p - from)) ∙ map-append f (counted from (p - from)) ((from + (p - from)) ∷ []) ∙ ap (λ (n : ℕ). map f (counted from (p - from)) ++ f n ∷ []) at))

  pub puts_place : Puts s0 s1 ls ms (map f (counted from (p - from))) → Keeps s1 s2 → StandsFor s2 k (f p) → Puts s0 s2 ls (ms ++ k ∷ []) (map f (counted from (p + 1 - from)))
  puts_place x e s =
      puts_same s0 s2 ls (ms ++ k ∷ []) (map f (counted from (p - from)) ++ f p ∷ []) (map f (counted from (p + 1 - from))) places
      (puts_then s0 s1 s2 ls ms (ms ++ k ∷ []) (map f (counted from (p - from))) (f p ∷ []) x (puts_one s1 s2 ms (ms ++ k ∷ []) k (f p) e s refl))

-- all of them
pub puts_end : (xs ys : List Node) (f : ℕ → Tree) (ns ms : List ℕ) (from p n : ℕ) → p ≡ from + n → Puts xs ys ns ms (map f (counted from (p - from))) → Puts xs ys ns ms (map f (counted from n))
puts_end xs ys f ns ms from p n e x = let same : p - from ≡ n = omega (arith, e) in subst (λ (k : ℕ). Puts xs ys ns ms (map f (counted from k))) same x

-- ---- the row of a term

pub shape_is : (xs : List Node) (x : Tree) (r : Row) → IsRowOf xs x r → shape_by r ≡ shape_of x
shape_is xs x r h = ap (λ (q : Definition). q.shape) (sym h.defines)

mapped_length : (f : ℕ → Tree) (from n : ℕ) → n ≡ length (map f (counted from n))
mapped_length f from n = sym (length-map (counted from n) f ∙ counted_length from n)

counts : (xs : List Node) (r : Row) → count_by r ≡ length (inputs_by xs r)
counts xs row.Free = refl
counts xs (row.Fixed b) = refl
counts xs (row.Pair f a b) = refl
counts xs (row.Choice c a b) = refl
counts xs (row.Bits count a b) = mapped_length _ 0 count
counts xs (row.Sum f difference s a b i) = refl
counts xs (row.ProductBit m i) = refl
counts xs (row.Product f m a b i j) = refl
counts xs (row.Overflow difference a b) = refl
counts xs (row.ProductOverflow a b) = mapped_length _ 64 64
counts xs (row.Low a b i) = refl
counts xs (row.Less a b) = refl
counts xs (row.Range a b) = ap suc (mapped_length _ 0 128)

pub count_is : (xs : List Node) (x : Tree) (r : Row) → IsRowOf xs x r → count_by r ≡ length (inputs_of x)
count_is xs x r h = counts xs r ∙ ap (λ (q : Definition). length q.inputs) (sym h.defines)

-- the inputs of a term's row are those of the term
pub puts_inputs : (xs ys : List Node) (x : Tree) (r : Row) (ns ms : List ℕ) → definition x ≡ definition_by xs r → Puts xs ys ns ms (inputs_by xs r) → Puts xs ys ns ms (inputs_of x)
puts_inputs xs ys x r ns ms e p = puts_same xs ys ns ms (inputs_by xs r) (inputs_of x) (ap (λ (q : Definition). q.inputs) (sym e)) p

-- ---- bits of terms

-- a bit that a number's term has stays one
pub bit_later : (xs ys : List Node) (a i : ℕ) → Keeps xs ys → a < length xs → HasBit xs a i → HasBit ys a i
bit_later xs ys a i e within h = subst (λ (t : Tree). i < bit_count (tree_sort t)) (sym (e.same a within)) h

-- what has the last bit of an address has the first
pub first_bit : (xs : List Node) (a : ℕ) → HasBit xs a 256 → HasBit xs a 0
first_bit xs a h = omega (arith, h)

-- and so are those below it
pub bit_below : (xs : List Node) (a i j : ℕ) → i ≤ j → HasBit xs a j → HasBit xs a i
bit_below xs a i j l h = omega (arith, l, h)

sum_places : (difference : Bool) (a b : Tree) → 63 < bit_count (tree_sort (two (operator difference) a b))
unfolding tree_sort
sum_places true a b = subst (λ (n : ℕ). 63 < n) (sym (ap bits_in out_Long)) (omega arith)
sum_places false a b = subst (λ (n : ℕ). 63 < n) (sym (ap bits_in out_Long)) (omega arith)

-- a sum or a difference has a sign
pub sum_has : (xs : List Node) (n : ℕ) (difference : Bool) (a b : Tree) → StandsFor xs n (two (operator difference) a b) → HasBit xs n 63
sum_has xs n difference a b s = subst (λ (t : Tree). 63 < bit_count (tree_sort t)) (sym s.is) (sum_places difference a b)
