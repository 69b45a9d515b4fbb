-- The search meets every reachable set of active items.
use Rattle.std.proofs.Common.{◌≡◌, ℕ, ◌+◌, ◌<◌, ◌≤◌, Bool, true, false, not, ◌&&◌, ◌==◌, ◌⊎◌, inl, inr, ⊎_elim, List, [], ◌∷◌, ◌++◌, take, length, get_or, slice_get, Some, None, refl, sym, ◌∙◌, ap, subst, append_assoc, append-nil, arith, length-append}
use Rattle.std.proofs.lemmas.List.{take_more, map-append, take_at, take_all}
use Rattle.std.proofs.lemmas.Bool.{and_parts, and_from, or_cases, or_parts, eqb-true, eq-eqb, cases_Bool, cases_lt}
use Rattle.std.specs.Char.{IsScalar}
use Rattle.sc_lists.proofs.MemberLaws.{Has-left, Has-last, Has-push, Has-map, map-Has}
use Rattle.sc_lists.specs.Members.{Has}
use Rattle.sc_languages.specs.declared.item.Item.{Item}
use Rattle.sc_languages.specs.Items.{start, step, accepts, completes, obeys, is_dead}
use Rattle.sc_languages.specs.Strings.{IsText}
use Rattle.sc_languages.specs.Searching.{Entry, places_of, IsPut, StandsFor, Covers, IsOn, IsOff, begins, is_on, is_one, IsMet, IsStepped, IsEntry, IsFollowed, IsEnd, IsFound, IsVisited, AreEntries, IsWalk, IsAt, IsSearch}
use Rattle.sc_languages.proofs.ListLaws.{take_longer, take_past, Has-at, Has-read}
use Rattle.sc_languages.proofs.StepLaws.{completes_next, completes_end, dead_for_good}
use Rattle.sc_languages.proofs.SymbolLaws.{step_alike}

text_push : (text : List ℕ) (c : ℕ) → IsText text → IsScalar c → IsText (text ++ c ∷ [])
text_push [] c h scalar = (scalar, tt)
text_push (d ∷ text) c h scalar = (h.0, text_push text c h.1 scalar)

text_has : (text : List ℕ) (c : ℕ) → IsText text → Has text c → IsScalar c
text_has [] c h has = absurd has
text_has (d ∷ text) c h (inl e) = subst IsScalar e h.0
text_has (d ∷ text) c h (inr k) = text_has text c h.1 k

-- ---- excluded texts

begins_true : (word whole : List ℕ) → begins word whole ≡ true → (rest : List ℕ) × (whole ≡ word ++ rest)
begins_true [] whole h = (whole, refl)
begins_true (c ∷ word) [] h = absurd cc
begins_true (c ∷ word) (d ∷ whole) h =
    let both = and_parts (d == c) (begins word whole) h in
    let first : d ≡ c = eqb-true d c both.0 in
    let rest = begins_true word whole both.1 in
    (rest.0, ap (λ x. x ∷ whole) first ∙ ap (λ l. c ∷ l) rest.1)

begins_own : (word rest : List ℕ) → begins word (word ++ rest) ≡ true
begins_own [] rest = refl
begins_own (c ∷ word) rest = and_from (c == c) (begins word (word ++ rest)) (eq-eqb c c refl) (begins_own word rest)

both_begin : (word other : List ℕ) → begins word other ≡ true → begins other word ≡ true → other ≡ word
both_begin [] [] h g = refl
both_begin [] (d ∷ other) h g = absurd cc
both_begin (c ∷ word) [] h g = absurd cc
both_begin (c ∷ word) (d ∷ other) h g =
    let one = and_parts (d == c) (begins word other) h in
    let two = and_parts (c == d) (begins other word) g in
    let first : d ≡ c = eqb-true d c one.0 in
    ap (λ x. x ∷ other) first ∙ ap (λ l. c ∷ l) (both_begin word other one.1 two.1)

on_true : (words : List (List ℕ)) (word : List ℕ) → is_on words word ≡ true → IsOn words word
on_true [] word h = absurd cc
on_true (w ∷ words) word h =
    ⊎_elim (λ e. let r = begins_true word w e in (r.0, inl r.1)) (λ e. let r = on_true words word e in (r.0, inr r.1)) (or_cases (begins word w) (is_on words word) h)

on_false : (words : List (List ℕ)) (word : List ℕ) → is_on words word ≡ false → IsOff words word
on_false [] word h rest has = has
on_false (w ∷ words) word h rest (inl e) =
    let no = (or_parts (begins word w) (is_on words word) h).0 in
    let yes : begins word w ≡ true = subst (λ l. begins word l ≡ true) (sym e) (begins_own word rest) in
    absurd cc
on_false (w ∷ words) word h rest (inr k) = on_false words word (or_parts (begins word w) (is_on words word) h).1 rest k

one_true : (words : List (List ℕ)) (word : List ℕ) → is_one words word ≡ true → Has words word
one_true [] word h = absurd cc
one_true (w ∷ words) word h =
    ⊎_elim
    (λ e. let both = and_parts (begins word w) (begins w word) e in inl (both_begin word w both.0 both.1))
    (λ e. inr (one_true words word e))
    (or_cases (begins word w && begins w word) (is_one words word) h)

one_false : (words : List (List ℕ)) (word : List ℕ) → is_one words word ≡ false → ¬ (Has words word)
one_false [] word h has = has
one_false (w ∷ words) word h (inl e) =
    let no = (or_parts (begins word w && begins w word) (is_one words word) h).0 in
    let own : begins word word ≡ true = subst (λ l. begins word l ≡ true) (append-nil word) (begins_own word []) in
    let same : (begins word w && begins w word) ≡ true = subst (λ l. (begins word l && begins l word) ≡ true) (sym e) (and_from (begins word word) (begins word word) own own) in
    absurd cc
one_false (w ∷ words) word h (inr k) = one_false words word (or_parts (begins word w && begins w word) (is_one words word) h).1 k

off_more : (words : List (List ℕ)) (word : List ℕ) (c : ℕ) → IsOff words word → IsOff words (word ++ c ∷ [])
off_more words word c off rest has = off (c ∷ rest) (subst (λ l. Has words l) (append_assoc word (c ∷ []) rest) has)

off_whole : (words : List (List ℕ)) (word : List ℕ) → IsOff words word → ¬ (Has words word)
off_whole words word off has = off [] (subst (λ l. Has words l) (sym (append-nil word)) has)

-- ---- appended entries leave the others in the queue

places_more : (old more new : List Entry) (b : List Bool) → new ≡ old ++ more → Has (places_of old) b → Has (places_of new) b
places_more old more new b e h =
    subst (λ (l : List Entry). Has (places_of l) b) (sym e)
    (subst (λ (l : List (List Bool)). Has l b) (sym (map-append (λ (x : Entry). x.0) old more)) (Has-left (places_of old) (places_of more) b h))

place_last : (old new : List Entry) (b : List Bool) (w : List ℕ) → new ≡ old ++ (b, w) ∷ [] → Has (places_of new) b
place_last old new b w e =
    subst (λ (l : List Entry). Has (places_of l) b) (sym e) (Has-map (λ (x : Entry). x.0) (old ++ (b, w) ∷ []) (b, w) (Has-last old (b, w)))

met_more : (items : List Item) (old more new : List Entry) (b : List Bool) → new ≡ old ++ more → IsMet items old b → IsMet items new b
met_more items old more new b e m = ⊎_elim (λ k. inl (places_more old more new b e k)) inr m

visited_more : (items : List Item) (symbols : List ℕ) (words : List (List ℕ)) (old more new : List Entry) (word : List ℕ) → new ≡ old ++ more
    → IsVisited items symbols words old word → IsVisited items symbols words new word
visited_more items symbols words old more new word e v = record {
  marks = v.marks;
  leads = v.leads;
  known = v.known;
  met = λ d h. ⊎_elim inl (λ m. inr (met_more items old more new (step d false false items v.marks) e m)) (v.met d h);
}

-- ---- one character more

module _ (items : List Item) (words : List (List ℕ)) (marks : List Bool) (word : List ℕ) (d : ℕ) (next : List Bool) (is : next ≡ step d false false items marks) where
  pub stepped_lost : (old : List Entry) → true ≡ is_dead false false items next → IsStepped items words marks word d old old
  stepped_lost old lost =
      inl (refl, inr (inr (λ text. dead_for_good false false false items (step d false false items marks) text (subst (λ b. is_dead false false items b ≡ true) is (sym lost)) (λ k. refl) (λ k. absurd cc))))

  pub stepped_seen : (old : List Entry) → Has (places_of old) next → IsStepped items words marks word d old old
  stepped_seen old h = inl (refl, inr (inl (subst (λ b. Has (places_of old) b) is h)))

  module _ (further : List ℕ) (more : further ≡ word ++ d ∷ []) where
    pub stepped_on : (old : List Entry) → true ≡ is_on words further → IsStepped items words marks word d old old
    stepped_on old on = inl (refl, inl (subst (λ l. IsOn words l) more (on_true words further (sym on))))

    pub stepped_end : IsScalar d → true ≡ accepts false items next → false ≡ is_on words further → IsEnd items words marks word further
    stepped_end scalar end on = record {
      last = d;
      scalar = scalar;
      ends = subst (λ b. accepts false items b ≡ true) is (sym end);
      is = more;
      off = on_false words further (sym on);
    }

    pub stepped_put : (old new : List Entry) → false ≡ accepts false items next → false ≡ is_on words further → IsPut old new next further → IsStepped items words marks word d old new
    stepped_put old new end on (inl p) = inl (p.0, inr (inl (subst (λ b. Has (places_of old) b) is p.1)))
    stepped_put old new end on (inr e) =
        inr (
          e ∙ ap (λ b. old ++ (b, further) ∷ []) is ∙ ap (λ w. old ++ (step d false false items marks, w) ∷ []) more,
          subst (λ b. accepts false items b ≡ false) is (sym end),
          subst (λ l. IsOff words l) more (on_false words further (sym on)),
        )

-- ---- each character of the alphabet

module _ (items : List Item) (words : List (List ℕ)) (marks : List Bool) (word : List ℕ) where
  abbrev after : ℕ → List Bool
  after d = step d false false items marks

  pub followed_start : (es : List Entry) → IsFollowed items [] words marks word es es
  followed_start es = record { longer = ([], sym (append-nil es)); only = λ e h. inl h; all = λ d h. absurd h }

  followed_next : (front : List ℕ) (d : ℕ) (old mid new : List Entry) → IsFollowed items front words marks word old mid → IsScalar d
      → IsStepped items words marks word d mid new → IsFollowed items (front ++ d ∷ []) words marks word old new
  followed_next front d old mid new f scalar (inl s) = record {
    longer = (f.longer.0, s.0 ∙ f.longer.1);
    only = λ e h. f.only e (subst (λ (l : List Entry). Has l e) s.0 h);
    all = λ c h.
        let there : IsOn words (word ++ c ∷ []) ⊎ IsMet items mid (after c) =
        ⊎_elim (λ k. f.all c k) (λ is. subst (λ m. IsOn words (word ++ m ∷ []) ⊎ IsMet items mid (after m)) is s.1) (Has-push front d c h) in
        subst (λ (l : List Entry). IsOn words (word ++ c ∷ []) ⊎ IsMet items l (after c)) (sym s.0) there;
  }
  followed_next front d old mid new f scalar (inr s) = record {
    longer = (f.longer.0 ++ (after d, word ++ d ∷ []) ∷ [], s.0 ∙ ap (λ (l : List Entry). l ++ (after d, word ++ d ∷ []) ∷ []) f.longer.1 ∙ append_assoc old f.longer.0 ((after d, word ++ d ∷ []) ∷ []));
    only = λ e h.
        ⊎_elim (λ k. f.only e k) (λ is. inr (d, scalar, s.1, sym is, s.2)) (Has-push mid (after d, word ++ d ∷ []) e (subst (λ (l : List Entry). Has l e) s.0 h));
    all = λ c h.
        ⊎_elim
        (λ k. ⊎_elim inl (λ m. inr (met_more items mid ((after d, word ++ d ∷ []) ∷ []) new (after c) s.0 m)) (f.all c k))
        (λ is. inr (inl (subst (λ m. Has (places_of new) (after m)) is (place_last mid new (after d) (word ++ d ∷ []) s.0))))
        (Has-push front d c h);
  }

  pub followed_more : (symbols : List ℕ) (j d : ℕ) (old mid new : List Entry) → j < length symbols → d ≡ get_or symbols j d → IsFollowed items (take j symbols) words marks word old mid
      → IsScalar d → IsStepped items words marks word d mid new → IsFollowed items (take (j + 1) symbols) words marks word old new
  followed_more symbols j d old mid new within read f scalar s =
      subst (λ (l : List ℕ). IsFollowed items l words marks word old new) (ap (λ m. take j symbols ++ m ∷ []) read ∙ sym (take_more symbols j d within))
      (followed_next (take j symbols) d old mid new f scalar s)

-- ---- the prefixes of an excluded text

module _ (items : List Item) (words : List (List ℕ)) (marks : List Bool) (word : List ℕ) (at : IsAt items marks word) where
  pub at_sought : (found : List ℕ) → true ≡ (accepts false items marks && not (is_one words word)) → found ≡ word → IsFound items words found
  at_sought found sought is =
      let both = and_parts (accepts false items marks) (not (is_one words word)) (sym sought) in
      let none : is_one words word ≡ false = ⊎_elim (λ e. absurd (let k = both.1 in cc)) (λ e. e) (cases_Bool (is_one words word)) in
      subst (λ l. IsFound items words l) (sym is) (record {
        is_text = at.is_text;
        obeyed = ap (λ l. obeys items l) (sym (append-nil word)) ∙ sym (at.leads []) ∙ completes_end items marks ∙ both.0;
        other = one_false words word none;
      })

  pub at_known : false ≡ (accepts false items marks && not (is_one words word)) → accepts false items marks ≡ true → Has words word
  at_known sought end =
      ⊎_elim (λ e. one_true words word e) (λ e. absurd (let all : (accepts false items marks && not (is_one words word)) ≡ true = and_from _ _ end (ap not e) in cc)) (cases_Bool (is_one words word))

  pub at_end : (found : List ℕ) → IsEnd items words marks word found → IsFound items words found
  at_end found end = record {
    is_text = subst IsText (sym end.is) (text_push word end.last at.is_text end.scalar);
    obeyed = ap (λ l. obeys items l) end.is ∙ sym (at.leads (end.last ∷ [])) ∙ sym (completes_next end.last items marks []) ∙ completes_end items (step end.last false false items marks) ∙ end.ends;
    other = off_whole words found end.off;
  }

  leads_more : (c : ℕ) (text : List ℕ) → completes items (step c false false items marks) false text ≡ obeys items ((word ++ c ∷ []) ++ text)
  leads_more c text = completes_next c items marks text ∙ at.leads (c ∷ text) ∙ ap (λ l. obeys items l) (sym (append_assoc word (c ∷ []) text))

  -- one character further
  pub at_more : (c : ℕ) (next : List Bool) (further whole : List ℕ) (i : ℕ) → IsText whole → i < length whole → c ≡ get_or whole i c → next ≡ step c false false items marks
      → further ≡ word ++ c ∷ [] → IsAt items next further
  at_more c next further whole i text within read is more =
      subst (λ b. IsAt items b further) (sym is) (subst (λ l. IsAt items (step c false false items marks) l) (sym more) (record {
        is_text = text_push word c at.is_text (text_has whole c text (Has-read whole i c within read));
        leads = leads_more c;
      }))

  -- what is appended are entries
  entries_more : (symbols : List ℕ) (old new : List Entry) → IsFollowed items symbols words marks word old new → ((e : Entry) → Has old e → IsEntry items words e)
      → (e : Entry) → Has new e → IsEntry items words e
  entries_more symbols old new f es e h =
      ⊎_elim (es e)
      (λ t. subst (λ (x : Entry). IsEntry items words x) (sym t.3) (record { is_text = text_push word t.0 at.is_text t.1; leads = leads_more t.0; quiet = t.2; off = t.4 }))
      (f.only e h)

  pub walk_more : (symbols whole : List ℕ) (i : ℕ) (old mid new : List Entry) → word ≡ take i whole → IsWalk items symbols words old mid whole i
      → (accepts false items marks ≡ true → Has words word) → IsFollowed items symbols words marks word mid new → IsWalk items symbols words old new whole (i + 1)
  walk_more symbols whole i old mid new is w known f = record {
    longer = (w.longer.0 ++ f.longer.0, f.longer.1 ∙ ap (λ (l : List Entry). l ++ f.longer.0) w.longer.1 ∙ append_assoc old w.longer.0 f.longer.0);
    entries = entries_more symbols mid new f w.entries;
    walked = λ k below.
        ⊎_elim
        (λ less. visited_more items symbols words mid f.longer.0 new (take k whole) f.longer.1 (w.walked k less))
        (λ most.
        let same : i ≡ k = omega (arith, below, most) in
        subst (λ l. IsVisited items symbols words new l) (is ∙ ap (λ n. take n whole) same) (record { marks = marks; leads = at.leads; known = known; met = f.all }))
        (cases_lt k i);
  }

pub at_start : (items : List Item) (marks : List Bool) (word : List ℕ) → marks ≡ start true items → word ≡ [] → IsAt items marks word
at_start items marks word is empty =
    subst (λ b. IsAt items b word) (sym is) (subst (λ l. IsAt items (start true items) l) (sym empty) (record { is_text = tt; leads = λ text. refl }))

pub walk_end : (items : List Item) (symbols : List ℕ) (words : List (List ℕ)) (old new : List Entry) (whole : List ℕ) (i : ℕ) → length whole ≤ i → i ≤ length whole
    → IsWalk items symbols words old new whole (i + 1) → IsWalk items symbols words old new whole (length whole + 1)
walk_end items symbols words old new whole i past within w =
    let same : i ≡ length whole = omega (arith, past, within) in
    subst (λ n. IsWalk items symbols words old new whole (n + 1)) same w

pub walk_start : (items : List Item) (symbols : List ℕ) (words : List (List ℕ)) (es : List Entry) (whole : List ℕ) → ((e : Entry) → Has es e → IsEntry items words e)
    → IsWalk items symbols words es es whole 0
walk_start items symbols words es whole h = record { longer = ([], sym (append-nil es)); entries = h; walked = λ k below. absurd (omega (arith, below)) }

-- ---- all excluded texts

pub entries_start : (items : List Item) (symbols : List ℕ) (words : List (List ℕ)) (old es : List Entry) (whole : List ℕ) → whole ≡ []
    → IsWalk items symbols words old es whole (length whole + 1) → AreEntries items symbols words [] es
entries_start items symbols words old es whole empty w = record {
  entries = w.entries;
  first = w.walked 0 (omega arith);
  walked = λ x h. absurd h;
}

pub entries_next : (items : List Item) (symbols : List ℕ) (words : List (List ℕ)) (i : ℕ) (word : List ℕ) (old new : List Entry) → i < length words → word ≡ get_or words i word
    → AreEntries items symbols words (take i words) old → IsWalk items symbols words old new word (length word + 1) → AreEntries items symbols words (take (i + 1) words) new
entries_next items symbols words i word old new within read es w = record {
  entries = w.entries;
  first = visited_more items symbols words old w.longer.0 new [] w.longer.1 es.first;
  walked = λ x h k below.
      ⊎_elim
      (λ there. visited_more items symbols words old w.longer.0 new (take k x) w.longer.1 (es.walked x there k below))
      (λ is.
      let same : word ≡ x = read ∙ is in
      subst (λ l. IsVisited items symbols words new (take k l)) same (w.walked k (subst (λ l. k < length l + 1) (sym same) below)))
      (Has-push (take i words) (get_or words i word) x (subst (λ (l : List (List ℕ)). Has l x) (take_more words i word within) h));
}

pub entries_all : (items : List Item) (symbols : List ℕ) (words : List (List ℕ)) (i : ℕ) (es : List Entry) → length words ≤ i
    → AreEntries items symbols words (take i words) es → AreEntries items symbols words words es
entries_all items symbols words i es past a = subst (λ (l : List (List ℕ)). AreEntries items symbols words l es) (take_all i words past) a

-- ---- the whole search

pub search_start : (items : List Item) (symbols : List ℕ) (words : List (List ℕ)) (es : List Entry) → AreEntries items symbols words words es → IsSearch items symbols words es 0
search_start items symbols words es a = record { are = a; done = λ e h. absurd h }

entry_at : (items : List Item) (words : List (List ℕ)) (e : Entry) → IsEntry items words e → IsAt items e.0 e.1
entry_at items words e h = record { is_text = h.is_text; leads = h.leads }

module _ (items : List Item) (symbols : List ℕ) (words : List (List ℕ)) (es : List Entry) (i : ℕ) (s : IsSearch items symbols words es i) where
  -- one entry more was followed
  pub search_step : (none : List (List ℕ)) (e : Entry) (new : List Entry) → none ≡ [] → slice_get es i ≡ Some e → IsFollowed items symbols none e.0 e.1 es new → IsSearch items symbols words new (i + 1)
  search_step none e new empty at f =
      let here = s.are.entries e (Has-at es i e at) in
      let more = leads_more items words e.0 e.1 (entry_at items words e here) in
      record {
        are = record {
          entries = λ x h.
              ⊎_elim (s.are.entries x)
              (λ t.
              subst (λ (y : Entry). IsEntry items words y) (sym t.3)
              (record { is_text = text_push e.1 t.0 here.is_text t.1; leads = more t.0; quiet = t.2; off = off_more words e.1 t.0 here.off }))
              (f.only x h);
          first = visited_more items symbols words es f.longer.0 new [] f.longer.1 s.are.first;
          walked = λ w h k below. visited_more items symbols words es f.longer.0 new (take k w) f.longer.1 (s.are.walked w h k below);
        };
        done = λ x h d among.
            ⊎_elim
            (λ k. met_more items es f.longer.0 new (step d false false items x.0) f.longer.1 (s.done x k d among))
            (λ is.
            subst (λ (y : Entry). IsMet items new (step d false false items y.0)) is
            (⊎_elim (λ on. absurd (subst (λ (l : List (List ℕ)). Has l ((e.1 ++ d ∷ []) ++ on.0)) empty on.1)) (λ m. m) (f.all d among)))
            (Has-push (take i es) e x (subst (λ (l : List Entry). Has l x) (ap (λ (l : List Entry). take (i + 1) l) f.longer.1 ∙ take_longer es f.longer.0 i e at) h));
      }

  -- one character more gives a text that is sought
  pub search_found : (none : List (List ℕ)) (e : Entry) (found : List ℕ) → slice_get es i ≡ Some e → IsEnd items none e.0 e.1 found → IsFound items words found
  search_found none e found at end =
      let here = s.are.entries e (Has-at es i e at) in
      at_end items words e.0 e.1 (entry_at items words e here) found (record {
        last = end.last;
        scalar = end.scalar;
        ends = end.ends;
        is = end.is;
        off = subst (λ l. IsOff words l) (sym end.is) (off_more words e.1 end.last here.off);
      })

  module _ (past : slice_get es i ≡ None) (covers : Covers items words symbols) where
    steps_same : (c d : ℕ) (b : List Bool) → StandsFor items words d c → step c false false items b ≡ step d false false items b
    steps_same c d b (inl e) = ap (λ x. step x false false items b) (sym e)
    steps_same c d b (inr e) = step_alike c d false false items b e.0

    -- from the queue no further text is sought
    never : (text : List ℕ) → IsText text → (b : List Bool) → Has (places_of es) b → completes items b false text ≡ false
    never [] h b there =
        let k = map-Has (λ (x : Entry). x.0) es b there in
        completes_end items b ∙ subst (λ (l : List Bool). accepts false items l ≡ false) k.2 (s.are.entries k.0 k.1).quiet
    never (c ∷ text) h b there =
        let k = map-Has (λ (x : Entry). x.0) es b there in
        let d = covers c h.0 in
        let front : Has (take i es) k.0 = subst (λ (l : List Entry). Has l k.0) (sym (take_past es i past)) k.1 in
        let next : IsMet items es (step d.0 false false items b) =
        subst (λ (l : List Bool). IsMet items es (step d.0 false false items l)) k.2 (s.done k.0 front d.0 d.1) in
        sym (completes_next c items b text) ∙ ap (λ (l : List Bool). completes items l false text) (steps_same c d.0 b d.2)
        ∙ ⊎_elim (λ m. never text h.1 (step d.0 false false items b) m) (λ m. m text) next

    never_met : (text : List ℕ) → IsText text → (b : List Bool) → IsMet items es b → completes items b false text ≡ false
    never_met text h b (inl m) = never text h b m
    never_met text h b (inr m) = m text

    -- a visited text is a prefix of an excluded one, or isn't sought
    on_again : (word : List ℕ) (c d : ℕ) → StandsFor items words d c → IsOn words (word ++ d ∷ []) → IsOn words (word ++ c ∷ [])
    on_again word c d (inl e) on = subst (λ x. IsOn words (word ++ x ∷ [])) e on
    on_again word c d (inr e) on = absurd (e.1 ((word ++ d ∷ []) ++ on.0) on.1 (Has-left (word ++ d ∷ []) on.0 d (Has-last word d)))

    visited_on : (word : List ℕ) → IsOn words word → IsVisited items symbols words es word
    visited_on word on =
        subst (λ l. IsVisited items symbols words es l) (take_at word on.0 (length word) refl)
        (s.are.walked (word ++ on.0) on.1 (length word) (omega (arith, length-append word on.0)))

    all_known : (rest word : List ℕ) → IsText rest → IsVisited items symbols words es word → obeys items (word ++ rest) ≡ true → Has words (word ++ rest)
    all_known [] word text v obeyed =
        subst (λ l. Has words l) (sym (append-nil word)) (v.known (sym (completes_end items v.marks) ∙ v.leads [] ∙ obeyed))
    all_known (c ∷ rest) word text v obeyed =
        let d = covers c text.0 in
        ⊎_elim
        (λ on.
        let further : IsOn words (word ++ c ∷ []) = on_again word c d.0 d.2 on in
        subst (λ l. Has words l) (append_assoc word (c ∷ []) rest)
        (all_known rest (word ++ c ∷ []) text.1 (visited_on (word ++ c ∷ []) further) (ap (λ l. obeys items l) (append_assoc word (c ∷ []) rest) ∙ obeyed)))
        (λ m.
        let no : completes items v.marks false (c ∷ rest) ≡ false =
        sym (completes_next c items v.marks rest) ∙ ap (λ (l : List Bool). completes items l false rest) (steps_same c d.0 v.marks d.2) ∙ never_met rest text.1 (step d.0 false false items v.marks) m in
        let yes = v.leads (c ∷ rest) in
        absurd cc)
        (v.met d.0 d.1)

    pub search_none : (text : List ℕ) → IsText text → obeys items text ≡ true → Has words text
    search_none text h obeyed = all_known text [] h s.are.first obeyed
