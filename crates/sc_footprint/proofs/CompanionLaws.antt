-- What goes with terms, listed one term after the other.
use Rattle.std.proofs.Common.{◌≡◌, ℕ, zero, suc, ◌+◌, ◌-◌, ◌<◌, ◌≤◌, ◌==◌, Bool, false, cond, List, [], ◌∷◌, ◌++◌, take, drop, length, slice_get, Option, Some, None, option_map, option_and_then, IfSome, Contains, refl, sym, ap, ◌∙◌, subst, arith}
use Rattle.std.proofs.Common.{append-nil, append_assoc, length-append}
use Rattle.std.proofs.Math.Seq.{drop-append_seam}
use Rattle.std.proofs.lemmas.List.{drop-append-le, length-drop, take-append-le}
use Rattle.std.proofs.lemmas.Option.{slice_get-map}
use Rattle.std.specs.List.{AllByRecursion, AllZip}
use Rattle.std.proofs.lemmas.Slice.Zip.{AllZip-long}
use Rattle.sc_lists.proofs.ListLaws.{contains_place, zip_push}
use Rattle.sc_lists.proofs.MemberLaws.{Has-map, map-Has, Has-from_Contains, Contains-from_Has}
use Rattle.sc_laws.proofs.OptionLaws.{same_some}
use Rattle.sc_lists.specs.Members.{Has}
use Rattle.sc_schema.specs.Declarations.{Declarations}
use Rattle.sc_sorts.specs.declared.node.Node.{Node}
use Rattle.sc_terms.proofs.TableLaws.{keeps_itself, keeps_then}
use Rattle.sc_terms.specs.Trees.{Tree}
use Rattle.sc_terms.specs.Tables.{tree, Keeps, IsTable}
use Rattle.sc_closure.proofs.MakingLaws.{stood_later}
use Rattle.sc_closure.proofs.MemberLaws.{within_later, within_append, within_push, within_Has}
use Rattle.sc_closure.specs.Making.{stood, Puts, IsSomeTerm}
use Rattle.sc_closure.specs.Closure.{follow, Closed, next}
use Rattle.sc_footprint.specs.declared.companions.Span.{Span}
use Rattle.sc_footprint.specs.declared.shelves.Shelf.{Shelf}
use Rattle.sc_footprint.specs.Companions.{between, IsSpanOf, AreListed, IsListing}
use Rattle.sc_footprint.specs.Indices.{IsKept}
use Rattle.sc_footprint.specs.Problems.{Posed, goal_term, closed_terms, term_of, companion}

-- ---- lists in lockstep

zip_weaker : {X Y : Type 0} (R S : X → Y → Type 0) (xs : List X) (ys : List Y) → AllByRecursion (λ x. (y : Y) → R x y → S x y) xs → AllZip R xs ys → AllZip S xs ys
zip_weaker R S [] [] w h = tt
zip_weaker R S [] (b ∷ ys) w h = absurd h
zip_weaker R S (a ∷ xs) [] w h = absurd h
zip_weaker R S (a ∷ xs) (b ∷ ys) w h = (w.0 b h.0, zip_weaker R S xs ys w.1 h.1)

-- ---- parts of lists

pub take_all : {X : Type 0} (i : ℕ) (xs : List X) → length xs ≤ i → take i xs ≡ xs
take_all zero [] h = refl
take_all zero (x ∷ xs) h = absurd (omega (arith, h))
take_all (suc i) [] h = refl
take_all {X} (suc i) (x ∷ xs) h = ap (λ (ys : List X). x ∷ ys) (take_all i xs (omega (arith, h)))

-- what stands between two places stays where more is put behind
between_stays : (s : Span) (ns ms : List ℕ) → s.from ≤ s.until → s.until ≤ length ns → between (ns ++ ms) s ≡ between ns s
between_stays s ns ms h k =
    ap (take (s.until - s.from)) (drop-append-le s.from ns ms (omega (arith, h, k)))
    ∙ take-append-le (s.until - s.from) (drop s.from ns) ms (let e = length-drop s.from ns in omega (arith, h, k, e))

within_between : (l i j : ℕ) (ns : List ℕ) → AllByRecursion (λ n. n < l) ns → AllByRecursion (λ n. n < l) (take i (drop j ns))
within_between l zero j ns h = tt
within_between l (suc i) zero [] h = tt
within_between l (suc i) zero (n ∷ ns) h = (h.0, within_between l i zero ns h.1)
within_between l (suc i) (suc j) [] h = tt
within_between l (suc i) (suc j) (n ∷ ns) h = within_between l (suc i) j ns h.1

module _ (d : Declarations) where
  -- where what goes with a term stands stays so
  span_later : (xs ys : List Node) (ns ms : List ℕ) (n : ℕ) → Keeps xs ys → n < length xs → AllByRecursion (λ k. k < length xs) ns → (s : Span) → IsSpanOf d xs ns n s → IsSpanOf d ys (ns ++ ms) n s
  span_later xs ys ns ms n e below within s h = record {
    ordered = h.ordered;
    within = let l = length-append ns ms in let w = h.within in omega (arith, l, w);
    term = h.term;
    stands = ap (stood ys) (between_stays s ns ms h.ordered h.within) ∙ stood_later xs ys e (between ns s) (within_between (length xs) (s.until - s.from) s.from ns within) ∙ h.stands
        ∙ ap (follow d) (sym (e.same n below));
  }

  spans_later : (xs ys : List Node) (ns ms : List ℕ) (terms : List ℕ) → Keeps xs ys → AllByRecursion (λ n. n < length xs) terms → AllByRecursion (λ k. k < length xs) ns
      → AllByRecursion (λ n. (s : Span) → IsSpanOf d xs ns n s → IsSpanOf d ys (ns ++ ms) n s) terms
  spans_later xs ys ns ms [] e below within = tt
  spans_later xs ys ns ms (n ∷ terms) e below within = (span_later xs ys ns ms n e below.0 within, spans_later xs ys ns ms terms e below.1 within)

  pub listing_start : (xs : List Node) (all rest : List ℕ) (spans : List Span) (ns : List ℕ) → rest ≡ all → spans ≡ [] → ns ≡ []
      → AllByRecursion (λ n. n < length xs) all → AllByRecursion (λ n. IsSomeTerm (tree xs n)) all → IsListing d xs xs all rest spans ns
  listing_start xs all rest spans ns same no_spans none within terms = record {
    kept = keeps_itself xs;
    done = [];
    are = sym same;
    done_within = tt;
    rest_within = subst (AllByRecursion (λ n. n < length xs)) (sym same) within;
    rest_terms = subst (AllByRecursion (λ n. IsSomeTerm (tree xs n))) (sym same) terms;
    listed = record {
      within = subst (AllByRecursion (λ n. n < length xs)) (sym none) tt;
      each = subst (AllZip (IsSpanOf d xs ns) []) (sym no_spans) tt;
    };
  }

  -- of the next term
  module _ (first now later : List Node) (all : List ℕ) (n : ℕ) (rest : List ℕ) (spans : List Span) (ns ms : List ℕ) (s : Span)
      (is : IsListing d first now all (n ∷ rest) spans ns) (put : Puts now later ns ms (follow d (tree now n)))
      (term_is : s.term ≡ n) (from_is : s.from ≡ length ns) (until_is : s.until ≡ length ms) where
    long : length ms ≡ length ns + length put.more
    long = ap length put.is ∙ length-append ns put.more

    below_now : n < length now
    below_now = let a = is.rest_within.0 in let b = is.kept.longer in omega (arith, a, b)

    there : between ms s ≡ put.more
    there =
        ap (λ (l : List ℕ). take (s.until - s.from) (drop s.from l)) put.is
        ∙ ap (λ (k : ℕ). take (s.until - k) (drop k (ns ++ put.more))) from_is
        ∙ ap (take (s.until - length ns)) (drop-append_seam ns put.more)
        ∙ take_all (s.until - length ns) put.more (let l = long in omega (arith, l, until_is))

    here : IsSpanOf d later ms n s
    here = record {
      ordered = let l = long in omega (arith, l, from_is, until_is);
      within = omega (arith, until_is);
      term = term_is;
      stands = ap (stood later) there ∙ put.stands ∙ ap (follow d) (sym (put.kept.same n below_now));
    }

    done_now : AllByRecursion (λ k. k < length now) is.done
    done_now = within_later (length first) (length now) is.kept.longer is.done is.done_within

    pub listing_step : IsListing d first later all rest (spans ++ s ∷ []) ms
    listing_step = record {
      kept = keeps_then first now later is.kept put.kept;
      done = is.done ++ n ∷ [];
      are = is.are ∙ sym (append_assoc is.done (n ∷ []) rest);
      done_within = within_push (length first) n is.done is.done_within is.rest_within.0;
      rest_within = is.rest_within.1;
      rest_terms = is.rest_terms.1;
      listed = record {
        within = subst (AllByRecursion (λ k. k < length later)) (sym put.is) (within_append (length later) ns put.more (within_later (length now) (length later) put.kept.longer ns is.listed.within) put.within);
        each = zip_push (IsSpanOf d later ms) is.done spans n s
            (subst (λ (l : List ℕ). AllZip (IsSpanOf d later l) is.done spans) (sym put.is)
            (zip_weaker (IsSpanOf d now ns) (IsSpanOf d later (ns ++ put.more)) is.done spans (spans_later now later ns put.more is.done put.kept done_now is.listed.within) is.listed.each))
            here;
      };
    }

  pub listing_end : (first now : List Node) (all rest : List ℕ) (spans : List Span) (ns : List ℕ) → rest ≡ [] → IsListing d first now all rest spans ns → AreListed d now all spans ns
  listing_end first now all rest spans ns e is =
      let whole : is.done ≡ all = sym (is.are ∙ ap (λ (l : List ℕ). is.done ++ l) e ∙ append-nil is.done) in
      subst (λ (l : List ℕ). AreListed d now l spans ns) whole is.listed

-- ---- where a term's companions are read

read_zip : {X Y : Type 0} (R : X → Y → Type 0) (xs : List X) (ys : List Y) (i : ℕ) (y : Y) → AllZip R xs ys → slice_get ys i ≡ Some y → (x : X) × (slice_get xs i ≡ Some x) × R x y
read_zip R [] [] i y h e = absurd cc
read_zip R [] (b ∷ ys) i y h e = absurd h
read_zip R (a ∷ xs) [] i y h e = absurd h
read_zip R (a ∷ xs) (b ∷ ys) zero y h e = (a, refl, subst (R a) (same_some e) h.0)
read_zip R (a ∷ xs) (b ∷ ys) (suc i) y h e = read_zip R xs ys i y h.1 e

none_zip : {X Y : Type 0} (R : X → Y → Type 0) (xs : List X) (ys : List Y) (i : ℕ) → AllZip R xs ys → slice_get ys i ≡ None → slice_get xs i ≡ None
none_zip R [] [] i h e = refl
none_zip R [] (b ∷ ys) i h e = absurd h
none_zip R (a ∷ xs) [] i h e = absurd h
none_zip R (a ∷ xs) (b ∷ ys) zero h e = absurd cc
none_zip R (a ∷ xs) (b ∷ ys) (suc i) h e = none_zip R xs ys i h.1 e

read_within : (l : ℕ) (ns : List ℕ) (i : ℕ) → AllByRecursion (λ n. n < l) ns → IfSome (slice_get ns i) (λ n. n < l)
read_within l [] i h = tt
read_within l (n ∷ ns) zero h = h.0
read_within l (n ∷ ns) (suc i) h = read_within l ns i h.1

module _ (p : Posed) (atom_terms : List ℕ) (spans : List Span) (companions : List ℕ) (ss : List Shelf) (kept : IsKept p atom_terms spans companions ss) (n i : ℕ) (some : (n == 0) ≡ false) where
  term_read : (o : Option ℕ) → slice_get p.closed (n - 1) ≡ o → term_of p n ≡ option_map (tree p.nodes) o
  term_read o e = ap (λ (b : Bool). option_map (tree p.nodes) (cond b None (slice_get p.closed (n - 1)))) some ∙ ap (option_map (tree p.nodes)) e

  module _ (s : Span) (is : slice_get spans (n - 1) ≡ Some s) where
    abbrev at : (x : ℕ) × (slice_get p.closed (n - 1) ≡ Some x) × IsSpanOf p.schema p.nodes companions x s
    at = read_zip (IsSpanOf p.schema p.nodes companions) p.closed spans (n - 1) s kept.companions_are.each is

    pub span_ordered : s.from ≤ s.until
    span_ordered = at.2.ordered

    pub companion_value : option_map (tree p.nodes) (slice_get (between companions s) i) ≡ companion p n i
    companion_value =
        sym (slice_get-map (tree p.nodes) (between companions s) i) ∙ ap (λ (ts : List Tree). slice_get ts i) at.2.stands
        ∙ sym (ap (λ (o : Option Tree). option_and_then (λ (x : Tree). slice_get (follow p.schema x) i) o) (term_read (Some at.0) at.1))

    pub companion_within : IfSome (slice_get (between companions s) i) (λ t. t < length p.nodes)
    companion_within = read_within (length p.nodes) (between companions s) i (within_between (length p.nodes) (s.until - s.from) s.from companions kept.companions_are.within)

    pub companion_closed : IsTable p.nodes → IfSome (slice_get (between companions s) i) (λ t. Contains p.closed t)
    companion_closed table = by (slice_get (between companions s) i) refl companion_within
      where
        x_closed : Closed p.schema p.env (goal_term p) (tree p.nodes at.0)
        x_closed = (kept.posed.are_closed.just (tree p.nodes at.0)).0 (Contains-from_Has (closed_terms p) (tree p.nodes at.0) (Has-map (tree p.nodes) p.closed at.0 (Has-from_Contains p.closed at.0 (contains_place p.closed (n - 1) at.0 at.1))))

        by : (o : Option ℕ) → slice_get (between companions s) i ≡ o → IfSome o (λ t. t < length p.nodes) → IfSome o (λ t. Contains p.closed t)
        by None e h = tt
        by (Some t) e h =
            let among : Has (follow p.schema (tree p.nodes at.0)) (tree p.nodes t) =
            subst (λ (ts : List Tree). Has ts (tree p.nodes t)) at.2.stands (Has-map (tree p.nodes) (between companions s) t (Has-from_Contains (between companions s) t (contains_place (between companions s) i t e))) in
            let closed : Closed p.schema p.env (goal_term p) (tree p.nodes t) = next (tree p.nodes at.0) (tree p.nodes t) x_closed (Contains-from_Has (follow p.schema (tree p.nodes at.0)) (tree p.nodes t) among) in
            let there = map-Has (tree p.nodes) p.closed (tree p.nodes t) (Has-from_Contains (closed_terms p) (tree p.nodes t) ((kept.posed.are_closed.just (tree p.nodes t)).1 closed)) in
            let below : there.0 < length p.nodes = within_Has (length p.nodes) p.closed kept.posed.within there.0 there.1 in
            let same : there.0 ≡ t = table.apart there.0 t below h there.2 in
            subst (λ (k : ℕ). Contains p.closed k) same (Contains-from_Has p.closed there.0 there.1)

  pub companion_none : slice_get spans (n - 1) ≡ None → None ≡ companion p n i
  companion_none is =
      sym (ap (λ (o : Option Tree). option_and_then (λ (x : Tree). slice_get (follow p.schema x) i) o) (term_read None (none_zip (IsSpanOf p.schema p.nodes companions) p.closed spans (n - 1) kept.companions_are.each is)))

pub companions_many : (d : Declarations) (xs : List Node) (terms : List ℕ) (spans : List Span) (ns : List ℕ) → AreListed d xs terms spans ns → length terms ≡ length spans
companions_many d xs terms spans ns h = sym (AllZip-long (IsSpanOf d xs ns) terms spans h.each)
