-- How many atoms there are among numbers of a table.
use Rattle.std.proofs.Common.{◌≡◌, ℕ, suc, ◌+◌, ◌<◌, ◌≤◌, Bool, true, false, cond, List, [], ◌∷◌, ◌++◌, take, drop, length, slice_get, Some, None, refl, sym, ap, ◌∙◌, arith}
use Rattle.std.proofs.Common.{length-append, add-one}
use Rattle.std.proofs.Math.Seq.{drop-cons}
use Rattle.std.proofs.Math.ListN.{drop_of_length-le}
use Rattle.std.proofs.lemmas.List.{take-append-drop, take_all, length-map}
use Rattle.std.proofs.lemmas.List.Elements.{filter-append}
use Rattle.std.specs.List.{AllByRecursion}
use Rattle.sc_lists.proofs.MemberLaws.{Has-at}
use Rattle.sc_schema.specs.declared.declarations.Env.{Env}
use Rattle.sc_schema.specs.Declarations.{Declarations}
use Rattle.sc_sorts.specs.declared.node.Node.{Node}
use Rattle.sc_terms.specs.Trees.{Tree}
use Rattle.sc_terms.specs.Tables.{tree, Keeps}
use Rattle.sc_closure_rules.specs.Making.{stood}
use Rattle.sc_closure_rules.proofs.MemberLaws.{within_Has}
use Rattle.sc_closure.specs.Atoms.{is_atom}
use Rattle.sc_closure.specs.Following.{put_new, seeds, atoms_of}
use Rattle.sc_closure.proofs.ClosingLaws.{place_read, nothing_read}
use Rattle.sc_closure.proofs.PuttingLaws.{put_take, put_fewer}

pub atoms_stay : (xs ys : List Node) → Keeps xs ys → (ns : List ℕ) → AllByRecursion (λ n. n < length xs) ns → atoms_of ys ns ≡ atoms_of xs ns
atoms_stay xs ys e [] h = refl
atoms_stay xs ys e (n ∷ ns) h =
    let here : is_atom (tree ys n) ≡ is_atom (tree xs n) = ap is_atom (e.same n h.0) in
    let rest = atoms_stay xs ys e ns h.1 in
    λ i. cond (here i) (n ∷ rest i) (rest i)

-- those of numbers that have been put, and those of further ones
pub atoms_more : (xs ys : List Node) (ns ms : List ℕ) → Keeps xs ys → AllByRecursion (λ n. n < length xs) ns
    → length (atoms_of ys (put_new ns ms)) ≡ length (atoms_of xs ns) + length (atoms_of ys (drop (length ns) (put_new ns ms)))
atoms_more xs ys ns ms e h =
    let all = put_new ns ms in
    let front : take (length ns) all ≡ ns = put_take ns ms (length ns) (omega arith) ∙ take_all (length ns) ns (omega arith) in
    let parts : atoms_of ys all ≡ atoms_of xs ns ++ atoms_of ys (drop (length ns) all) =
    ap (atoms_of ys) (sym (take-append-drop (length ns) all)) ∙ filter-append (λ n. is_atom (tree ys n)) (take (length ns) all) (drop (length ns) all)
    ∙ ap (λ (l : List ℕ). atoms_of ys l ++ atoms_of ys (drop (length ns) all)) front ∙ ap (λ (l : List ℕ). l ++ atoms_of ys (drop (length ns) all)) (atoms_stay xs ys e ns h) in
    ap (λ (l : List ℕ). length l) parts ∙ length-append (atoms_of xs ns) (atoms_of ys (drop (length ns) all))

pub atoms_grow : (xs ys : List Node) (ns ms ks : List ℕ) (from atoms more : ℕ) → Keeps xs ys → AllByRecursion (λ n. n < length xs) ns → ks ≡ put_new ns ms → from ≡ length ns → atoms ≡ length (atoms_of xs ns)
    → more ≡ length (atoms_of ys (drop from ks)) → atoms + more ≡ length (atoms_of ys ks)
atoms_grow xs ys ns ms ks from atoms more e h is at old new =
    let added : more ≡ length (atoms_of ys (drop (length ns) (put_new ns ms))) = new ∙ ap (λ (n : ℕ). length (atoms_of ys (drop n ks))) at ∙ ap (λ (l : List ℕ). length (atoms_of ys (drop (length ns) l))) is in
    omega (arith, old, added, atoms_more xs ys ns ms e h, ap (λ (l : List ℕ). length (atoms_of ys l)) is)

-- no more than there are numbers
pub atoms_fewer : (xs : List Node) (ns : List ℕ) → length (atoms_of xs ns) ≤ length ns
atoms_fewer xs [] = omega arith
atoms_fewer xs (n ∷ ns) = by (is_atom (tree xs n)) (atoms_fewer xs ns)
  where
    by : (b : Bool) → length (atoms_of xs ns) ≤ length ns → length (cond b (n ∷ atoms_of xs ns) (atoms_of xs ns)) ≤ length (n ∷ ns)
    by true h = omega (arith, h)
    by false h = omega (arith, h)

-- the closure begins with no more than four
pub seeds_few : (d : Declarations) (env : Env) (goal : Tree) (xs : List Node) (ns : List ℕ) → stood xs ns ≡ seeds d env goal → length (put_new [] ns) ≤ 4
seeds_few d env goal xs ns e = omega (arith, put_fewer [] ns, length-map ns (tree xs), ap (λ (l : List Tree). length l) e)

-- ---- one place after the other

pub read_below : (l : ℕ) (ns : List ℕ) (i n : ℕ) → AllByRecursion (λ m. m < l) ns → Some n ≡ slice_get ns i → n < l
read_below l ns i n h read = let r = place_read ns i n read in within_Has l ns h n (Has-at ns i n r.0 r.1)

-- what is left begins with what is read
drop_read : (ns : List ℕ) (i n : ℕ) → Some n ≡ slice_get ns i → drop i ns ≡ n ∷ drop (i + 1) ns
drop_read ns i n e = let r = place_read ns i n e in rw add-one (drop-cons ns i n r.0 ∙ ap (λ (k : ℕ). k ∷ drop (suc i) ns) r.1)

drop_past : (ns : List ℕ) (i : ℕ) → None ≡ slice_get ns i → drop i ns ≡ []
drop_past ns i e = drop_of_length-le ns (nothing_read ns i e)

pub atom_counted : (xs : List Node) (ns : List ℕ) (i n : ℕ) → Some n ≡ slice_get ns i → is_atom (tree xs n) ≡ true → length (atoms_of xs (drop i ns)) ≡ 1 + length (atoms_of xs (drop (i + 1) ns))
atom_counted xs ns i n read e = rw (drop_read ns i n read, e) (omega arith)

pub other_passed : (xs : List Node) (ns : List ℕ) (i n : ℕ) → Some n ≡ slice_get ns i → is_atom (tree xs n) ≡ false → length (atoms_of xs (drop i ns)) ≡ length (atoms_of xs (drop (i + 1) ns))
other_passed xs ns i n read e = rw (drop_read ns i n read, e) refl

pub none_left : (xs : List Node) (ns : List ℕ) (i : ℕ) → None ≡ slice_get ns i → length (atoms_of xs (drop i ns)) ≡ 0
none_left xs ns i e = rw (drop_past ns i e) refl
