-- Crowds: what is chosen one after the other, and what can't be one.
use Rattle.std.proofs.Common.{◌≡◌, ℕ, suc, ◌<◌, ◌≤◌, ◌+◌, ◌-◌, Bool, true, false, List, [], ◌∷◌, ◌++◌, length, get_or, Option, Some, None, Result, Ok, Err, IfOk, IfNone, ⊎_elim, refl, sym, ◌∙◌, ap, subst, arith, length-append}
use Rattle.std.proofs.lemmas.Bool.{cases_Bool, cases_lt}
use Rattle.std.proofs.lemmas.List.{get_or_past}
use Rattle.std.proofs.lemmas.List.Elements.{All-push, All-nil, All-weaker}
use Rattle.std.proofs.lemmas.List.Quantifiers.{all_pairs_push}
use Rattle.std.specs.List.{All, AllPairs}
use Rattle.sc_falsified.specs.Truths.{Truth}
use Rattle.sc_falsified.specs.Crowds.{Signs, Few, IsWithin, Fits, IsChosen, NoneCrowded, agreed, IsRow, IsMeet, one_if, count_from, IsFurther, HasRoom, HasRoomFrom, NoneOn, NoneIn, NoneAfter}
use Rattle.sc_falsified.proofs.CountLaws.{is_in, AreDistinct, members, all_in, in_cases}

-- what holds where nothing is found, carried on
pub if_none : {T E A B : Type 0} (r : Result (Option T) E) → (A → B) → IfOk r (λ o. IfNone o A) → IfOk r (λ o. IfNone o B)
if_none (Ok None) f h = f h
if_none (Ok (Some x)) f h = h
if_none (Err e) f h = h

-- ---- signs

agreed_parts : (a b : Option Bool) (s : Bool) → agreed a b ≡ Some s → (a ≡ Some s) × (b ≡ Some s)
agreed_parts None b s e = absurd cc
agreed_parts (Some true) None s e = absurd cc
agreed_parts (Some false) None s e = absurd cc
agreed_parts (Some true) (Some true) s e = (e, e)
agreed_parts (Some true) (Some false) s e = absurd cc
agreed_parts (Some false) (Some true) s e = absurd cc
agreed_parts (Some false) (Some false) s e = (e, e)

agreed_same : (s : Bool) → agreed (Some s) (Some s) ≡ Some s
agreed_same true = refl
agreed_same false = refl

-- a sign that is asked has its place in the list
pub asked_place : (v : Signs) (p : ℕ) (s : Bool) → get_or v p None ≡ Some s → p < length v
asked_place v p s e =
    ⊎_elim (λ h. h) (λ (h : length v ≤ p). let past = get_or_past v p None h in absurd cc) (cases_lt p (length v))

module _ (sign : Truth) (v : Signs) (t : ℕ) (met : Signs) (is : IsMeet sign v t met) where
  met_parts : (p : ℕ) (s : Bool) → get_or met p None ≡ Some s → (get_or v p None ≡ Some s) × (sign t p ≡ Some s)
  met_parts p s e =
      let size = is.sized in
      let place : p < length v = subst (λ n. p < n) size (asked_place met p s e) in
      agreed_parts (get_or v p None) (sign t p) s (sym (is.at p place) ∙ e)

  met_within : IsWithin met v
  met_within p s e = (met_parts p s e).0

  met_fits : Fits sign met t
  met_fits p s e = (met_parts p s e).1

  met_most : (w : Signs) → IsWithin w v → Fits sign w t → IsWithin w met
  met_most w inside fit p s e =
      let one = inside p s e in
      is.at p (asked_place v p s one) ∙ ap (λ o. agreed o (sign t p)) one ∙ ap (λ o. agreed (Some s) o) (fit p s e) ∙ agreed_same s

module _ (sign : Truth) (patterns t : ℕ) (row : Signs) (is : IsRow sign patterns t row) where
  pub row_fits : Fits sign row t
  row_fits p s e =
      let size = is.sized in
      sym (is.at p (subst (λ n. p < n) size (asked_place row p s e))) ∙ e

  pub row_most : (w : Signs) → length w ≡ patterns → Fits sign w t → IsWithin w row
  row_most w size fit p s e = is.at p (subst (λ n. p < n) size (asked_place w p s e)) ∙ fit p s e

pub fits_less : (sign : Truth) (w v : Signs) (t : ℕ) → IsWithin w v → Fits sign v t → Fits sign w t
fits_less sign w v t inside fit p s e = fit p s (inside p s e)

-- ---- the chosen items

module _ (truth sign : Truth) (few : Few) (n patterns : ℕ) where
  pub chosen_more : (chosen further : List ℕ) (v met : Signs) (t : ℕ) → IsChosen truth sign n patterns chosen v → IsMeet sign v t met → further ≡ chosen ++ t ∷ [] → t < n
      → All (λ c. truth c t ≡ Some false) chosen → IsChosen truth sign n patterns further met
  chosen_more chosen further v met t h is more less away = subst (λ l. IsChosen truth sign n patterns l met) (sym more) (record {
    within = All-push (λ (i : ℕ). i < n) chosen t h.within less;
    apart = all_pairs_push (λ (i : ℕ) (j : ℕ). truth i j ≡ Some false) chosen t h.apart away;
    sized = is.sized ∙ h.sized;
    fit = All-push (Fits sign met) chosen t (All-weaker (Fits sign v) (Fits sign met) (λ c fit. fits_less sign met v c (met_within sign v t met is) fit) chosen h.fit) (met_fits sign v t met is);
  })

  pub chosen_first : (chosen : List ℕ) (row : Signs) (t : ℕ) → IsRow sign patterns t row → chosen ≡ t ∷ [] → t < n → IsChosen truth sign n patterns chosen row
  chosen_first chosen row t is one less = subst (λ l. IsChosen truth sign n patterns l row) (sym one) (record {
    within = All-push (λ (i : ℕ). i < n) [] t (All-nil (λ (i : ℕ). i < n)) less;
    apart = λ i j d low high. absurd (omega arith);
    sized = is.sized;
    fit = All-push (Fits sign row) [] t (All-nil (Fits sign row)) (row_fits sign patterns t row is);
  })

  -- ---- further items

  pub further_later : (chosen : List ℕ) (at : ℕ) (test : ℕ → Bool) (w : Signs) → IsFurther truth sign n chosen at test w → IsFurther truth sign n chosen (suc at) test w
  further_later chosen at test w h = record {
    apart = λ t u low less high one two. h.apart t u (omega arith) less high one two;
    away = λ t low high one. h.away t (omega arith) high one;
    fit = λ t low high one. h.fit t (omega arith) high one;
  }

  further_taken : (chosen : List ℕ) (at : ℕ) (test : ℕ → Bool) (w : Signs) → at < n → test at ≡ true → IsFurther truth sign n chosen at test w
      → IsFurther truth sign n (chosen ++ at ∷ []) (suc at) test w
  further_taken chosen at test w less now h = record {
    apart = λ t u low under high one two. h.apart t u (omega arith) under high one two;
    away = λ t low high one. All-push (λ (c : ℕ). truth c t ≡ Some false) chosen at (h.away t (omega arith) high one) (h.apart at t (omega arith) (omega arith) high now one);
    fit = λ t low high one. h.fit t (omega arith) high one;
  }

  pub count_yes : (test : ℕ → Bool) (at : ℕ) → at < n → test at ≡ true → count_from test at (n - at) ≡ suc (count_from test (suc at) (n - suc at))
  count_yes test at less e =
      let size : n - at ≡ suc (n - suc at) = omega arith in
      let one : one_if true + count_from test (suc at) (n - suc at) ≡ suc (count_from test (suc at) (n - suc at)) = omega arith in
      ap (λ m. count_from test at m) size ∙ ap (λ b. one_if b + count_from test (suc at) (n - suc at)) e ∙ one

  pub count_no : (test : ℕ → Bool) (at : ℕ) → at < n → test at ≡ false → count_from test at (n - at) ≡ count_from test (suc at) (n - suc at)
  count_no test at less e =
      let size : n - at ≡ suc (n - suc at) = omega arith in
      let none : one_if false + count_from test (suc at) (n - suc at) ≡ count_from test (suc at) (n - suc at) = omega arith in
      ap (λ m. count_from test at m) size ∙ ap (λ b. one_if b + count_from test (suc at) (n - suc at)) e ∙ none

  pub none_counted : (test : ℕ → Bool) (at : ℕ) → n ≤ at → count_from test at (n - at) ≡ 0
  none_counted test at past = let size : n - at ≡ 0 = omega arith in ap (λ m. count_from test at m) size

  -- ---- how many there can be

  pub room_end : (chosen : List ℕ) (at : ℕ) → n ≤ at → HasRoom truth sign n chosen at 0
  unfolding HasRoom
  room_end chosen at past test w h = let e = none_counted test at past in omega arith

  pub room_skip : (chosen : List ℕ) (at most : ℕ) → at < n → ¬ (All (λ c. truth c at ≡ Some false) chosen) → HasRoom truth sign n chosen (at + 1) most
      → HasRoom truth sign n chosen at most
  unfolding HasRoom
  room_skip chosen at most less other room test w h =
      let next : at + 1 ≡ suc at = omega arith in
      let rest = subst (λ m. HasRoom truth sign n chosen m most) next room test w (further_later chosen at test w h) in
      ⊎_elim (λ (e : test at ≡ true). absurd (other (h.away at (omega arith) less e)))
      (λ (e : test at ≡ false). let c = count_no test at less e in omega arith)
      (cases_Bool (test at))

  pub room_more : (chosen : List ℕ) (at most : ℕ) → at < n → HasRoom truth sign n chosen (at + 1) most → HasRoom truth sign n chosen at (most + 1)
  unfolding HasRoom
  room_more chosen at most less room test w h =
      let next : at + 1 ≡ suc at = omega arith in
      let rest = subst (λ m. HasRoom truth sign n chosen m most) next room test w (further_later chosen at test w h) in
      ⊎_elim (λ (e : test at ≡ true). let c = count_yes test at less e in omega arith)
      (λ (e : test at ≡ false). let c = count_no test at less e in omega arith)
      (cases_Bool (test at))

  pub room_here : (chosen : List ℕ) (at above most : ℕ) → above ≡ at → HasRoom truth sign n chosen above most → HasRoom truth sign n chosen at most
  room_here chosen at above most e h = subst (λ m. HasRoom truth sign n chosen m most) e h

  -- ---- no crowd

  module _ (asked : Signs → Type 0) (chosen : List ℕ) where
    on_skip : (at : ℕ) → at < n → ¬ (All (λ c. truth c at ≡ Some false) chosen) → NoneOn truth sign few n asked chosen (suc at) → NoneOn truth sign few n asked chosen at
    on_skip at less other rest w test inside h too_many =
        ⊎_elim (λ (e : test at ≡ true). other (h.away at (omega arith) less e))
        (λ (e : test at ≡ false).
        rest w test inside (further_later chosen at test w h) (subst (λ m. few w (length chosen + m)) (count_no test at less e) too_many))
        (cases_Bool (test at))

    on_take : (at : ℕ) (next : Signs → Type 0) → at < n → ((w : Signs) → asked w → Fits sign w at → next w)
        → NoneOn truth sign few n next (chosen ++ at ∷ []) (suc at) → NoneOn truth sign few n asked chosen (suc at) → NoneOn truth sign few n asked chosen at
    on_take at next less narrow taken rest w test inside h too_many =
        ⊎_elim
        (λ (e : test at ≡ true).
        let counted = count_yes test at less e in
        let size : length (chosen ++ at ∷ []) ≡ length chosen + 1 = length-append chosen (at ∷ []) in
        let same : length chosen + count_from test at (n - at) ≡ length (chosen ++ at ∷ []) + count_from test (suc at) (n - suc at) = omega arith in
        taken w test (narrow w inside (h.fit at (omega arith) less e)) (further_taken chosen at test w less e h) (subst (λ m. few w m) same too_many))
        (λ (e : test at ≡ false).
        rest w test inside (further_later chosen at test w h) (subst (λ m. few w (length chosen + m)) (count_no test at less e) too_many))
        (cases_Bool (test at))

  module _ (greater : (v : Signs) (k l : ℕ) → k ≤ l → few v k → few v l) (more_asked : (w v : Signs) (k : ℕ) → IsWithin w v → few w k → few v k) where
    -- too few items are left for one
    pub in_room : (chosen : List ℕ) (v : Signs) (at most : ℕ) → HasRoom truth sign n chosen at most → ¬ (few v (length chosen + most)) → NoneIn truth sign few n v chosen at
    unfolding HasRoom NoneIn
    in_room chosen v at most room other w test inside h too_many =
        let counted = room test w h in
        other (greater v _ _ (omega arith) (more_asked w v _ inside too_many))

    pub in_end : (chosen : List ℕ) (v : Signs) (at : ℕ) → n ≤ at → ¬ (few v (length chosen)) → NoneIn truth sign few n v chosen at
    in_end chosen v at past other = in_room chosen v at 0 (room_end chosen at past) (λ h. other (subst (λ m. few v m) (omega arith) h))

  pub in_skip : (chosen : List ℕ) (v : Signs) (at : ℕ) → at < n → ¬ (All (λ c. truth c at ≡ Some false) chosen) → NoneIn truth sign few n v chosen (suc at)
      → NoneIn truth sign few n v chosen at
  unfolding NoneIn
  in_skip chosen v at = on_skip (λ w. IsWithin w v) chosen at

  pub in_take : (chosen further : List ℕ) (v met : Signs) (at : ℕ) → at < n → IsMeet sign v at met → further ≡ chosen ++ at ∷ []
      → NoneIn truth sign few n met further (suc at) → NoneIn truth sign few n v chosen (suc at) → NoneIn truth sign few n v chosen at
  unfolding NoneIn
  in_take chosen further v met at less is more taken rest =
      on_take (λ w. IsWithin w v) chosen at (λ w. IsWithin w met) less (λ w inside fit. met_most sign v at met is w inside fit)
      (subst (λ l. NoneIn truth sign few n met l (suc at)) more taken) rest

  pub in_next : (chosen further : List ℕ) (v met : Signs) (at above : ℕ) → above ≡ at + 1 → at < n → IsMeet sign v at met → further ≡ chosen ++ at ∷ []
      → NoneIn truth sign few n met further (at + 1) → NoneIn truth sign few n v chosen above → NoneIn truth sign few n v chosen at
  in_next chosen further v met at above next less is more taken rest =
      let step : above ≡ suc at = omega arith in
      let same : at + 1 ≡ suc at = omega arith in
      in_take chosen further v met at less is more (subst (λ m. NoneIn truth sign few n met further m) same taken) (subst (λ m. NoneIn truth sign few n v chosen m) step rest)

  pub after_take : (chosen : List ℕ) (row : Signs) (at : ℕ) → at < n → IsRow sign patterns at row → chosen ≡ at ∷ []
      → NoneIn truth sign few n row chosen (suc at) → NoneAfter truth sign few n patterns (suc at) → NoneAfter truth sign few n patterns at
  unfolding NoneIn NoneAfter
  after_take chosen row at less is one taken rest =
      on_take (λ w. length w ≡ patterns) [] at (λ w. IsWithin w row) less (λ w size fit. row_most sign patterns at row is w size fit)
      (subst (λ l. NoneIn truth sign few n row l (suc at)) one taken) rest

  -- too few are left for a crowd with this item
  pub in_tight : ((v : Signs) (k l : ℕ) → k ≤ l → few v k → few v l) → ((w v : Signs) (k : ℕ) → IsWithin w v → few w k → few v k)
      → (chosen : List ℕ) (v met : Signs) (from at above most : ℕ) → above ≡ at + 1 → from ≤ at → at < n → IsMeet sign v at met → HasRoomFrom truth sign n chosen from most
      → ¬ (few met (length chosen + most)) → NoneIn truth sign few n v chosen above → NoneIn truth sign few n v chosen at
  unfolding NoneIn HasRoom
  in_tight greater more_asked chosen v met from at above most next low less is room other rest w test inside h too_many =
      let step : above ≡ suc at = omega arith in
      let after = subst (λ m. NoneIn truth sign few n v chosen m) step rest in
      ⊎_elim
      (λ (e : test at ≡ true).
      let narrow = met_most sign v at met is w inside (h.fit at (omega arith) less e) in
      let counted = room at low (omega arith) test w h in
      let bound : length chosen + count_from test at (n - at) ≤ length chosen + most = omega arith in
      other (greater met _ _ bound (more_asked w met _ narrow too_many)))
      (λ (e : test at ≡ false).
      after w test inside (further_later chosen at test w h) (subst (λ m. few w (length chosen + m)) (count_no test at less e) too_many))
      (cases_Bool (test at))

  -- too few are left for a crowd that begins here
  pub after_room : ((v : Signs) (k l : ℕ) → k ≤ l → few v k → few v l) → ((w v : Signs) (k : ℕ) → IsWithin w v → few w k → few v k)
      → (empty : List ℕ) (row : Signs) (at most : ℕ) → empty ≡ [] → at < n → IsRow sign patterns at row → HasRoomFrom truth sign n empty 0 most → ¬ (few row most)
      → NoneAfter truth sign few n patterns (at + 1) → NoneAfter truth sign few n patterns at
  unfolding NoneAfter HasRoom
  after_room greater more_asked empty row at most none less is room other rest w test size h too_many =
      let next : at + 1 ≡ suc at = omega arith in
      let after = subst (λ m. NoneAfter truth sign few n patterns m) next rest in
      ⊎_elim
      (λ (e : test at ≡ true).
      let inside = row_most sign patterns at row is w size (h.fit at (omega arith) less e) in
      let counted = subst (λ (l : List ℕ). HasRoomFrom truth sign n l 0 most) none room at (omega arith) (omega arith) test w h in
      let bound : length {A = ℕ} [] + count_from test at (n - at) ≤ most = omega arith in
      other (greater row _ _ bound (more_asked w row _ inside too_many)))
      (λ (e : test at ≡ false).
      after w test size (further_later [] at test w h) (subst (λ m. few w (length {A = ℕ} [] + m)) (count_no test at less e) too_many))
      (cases_Bool (test at))

  pub after_next : (chosen : List ℕ) (row : Signs) (at : ℕ) → at < n → IsRow sign patterns at row → chosen ≡ at ∷ []
      → NoneIn truth sign few n row chosen (at + 1) → NoneAfter truth sign few n patterns (at + 1) → NoneAfter truth sign few n patterns at
  after_next chosen row at less is one taken rest =
      let next : at + 1 ≡ suc at = omega arith in
      after_take chosen row at less is one (subst (λ m. NoneIn truth sign few n row chosen m) next taken) (subst (λ m. NoneAfter truth sign few n patterns m) next rest)

  pub after_end : (at : ℕ) → n ≤ at → ((v : Signs) → few v 0 → ⊥) → NoneAfter truth sign few n patterns at
  unfolding NoneAfter
  after_end at past never w test size h too_many =
      let counted = none_counted test at past in
      let none : length {A = ℕ} [] + count_from test at (n - at) ≡ 0 = omega arith in
      never w (subst (λ m. few w m) none too_many)

  -- ---- lists of items

  module _ (reflexive : (i : ℕ) → truth i i ≡ Some false → ⊥) where
    distinct : (items : List ℕ) → AllPairs (λ t u. truth t u ≡ Some false) items → AreDistinct items
    distinct [] h = tt
    distinct (t ∷ ts) h =
        let from_first : All (λ u. truth t u ≡ Some false) ts = λ k d less. h 0 (suc k) d (omega arith) (omega arith) in (
          ⊎_elim (λ (e : is_in ts t ≡ true). absurd (reflexive t (all_in (λ u. truth t u ≡ Some false) ts t from_first e))) (λ e. e) (cases_Bool (is_in ts t)),
          distinct ts (λ i j d low high. h (suc i) (suc j) d (omega arith) (omega arith)),
        )

    module _ (symmetric : (i j : ℕ) → truth i j ≡ truth j i) where
      both_in : (items : List ℕ) → AllPairs (λ t u. truth t u ≡ Some false) items → (t u : ℕ) → ¬ (t ≡ u) → is_in items t ≡ true → is_in items u ≡ true → truth t u ≡ Some false
      both_in [] h t u other one two = absurd cc
      both_in (x ∷ xs) h t u other one two =
          let from_first : All (λ y. truth x y ≡ Some false) xs = λ k d less. h 0 (suc k) d (omega arith) (omega arith) in
          let rest : AllPairs (λ t u. truth t u ≡ Some false) xs = λ i j d low high. h (suc i) (suc j) d (omega arith) (omega arith) in
          ⊎_elim
          (λ (a : t ≡ x). ⊎_elim
          (λ (b : u ≡ x). absurd (other (a ∙ sym b)))
          (λ (b : is_in xs u ≡ true). subst (λ m. truth m u ≡ Some false) (sym a) (all_in (λ y. truth x y ≡ Some false) xs u from_first b))
          (in_cases x xs u two))
          (λ (a : is_in xs t ≡ true). ⊎_elim
          (λ (b : u ≡ x). symmetric t u ∙ subst (λ m. truth m t ≡ Some false) (sym b) (all_in (λ y. truth x y ≡ Some false) xs t from_first a))
          (λ (b : is_in xs u ≡ true). both_in xs rest t u other a b)
          (in_cases x xs u two))
          (in_cases x xs t one)

      pub none_crowded : (greater : (v : Signs) (k l : ℕ) → k ≤ l → few v k → few v l) → NoneAfter truth sign few n patterns 0 → NoneCrowded truth sign few n patterns
      unfolding NoneAfter
      none_crowded greater none items v crowd =
          let h = crowd.chosen in
          let counted = members n items h.within (distinct items h.apart) in
          let whole : n - 0 ≡ n = omega arith in
          let same : count_from (is_in items) 0 (n - 0) ≡ count_from (is_in items) 0 n = ap (λ m. count_from (is_in items) 0 m) whole in
          let most : length items ≤ length {A = ℕ} [] + count_from (is_in items) 0 (n - 0) = omega arith in
          none v (is_in items) h.sized
          (record {
            apart = λ t u low less high one two. both_in items h.apart t u (λ (e : t ≡ u). absurd (omega arith)) one two;
            away = λ t low high one. All-nil (λ (c : ℕ). truth c t ≡ Some false);
            fit = λ t low high one. all_in (Fits sign v) items t h.fit one;
          })
          (greater v _ _ most crowd.too_many)
