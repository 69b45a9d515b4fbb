-- Bytes are read in one way.
use Rattle.std.proofs.Common.{◌≡◌, ◌≢◌, ◌+◌, ◌<◌, ◌==◌, ℕ, suc, List, [], ◌∷◌, ◌++◌, length, true, false, not, nat_lt, None, Result, Ok, Err, IfOk, IfErr, IsTrue, inl, inr, refl, sym, ap, ◌∙◌, subst, arith, append_assoc}
use Rattle.std.specs.List.{list_all, join_with_byte}
use Rattle.std.proofs.lemmas.Bool.{and_parts, and_from, ltb-true, ne_eqb, eq-eqb, true≢false}
use Rattle.sc_lists.specs.declared.fault.Fault.{Fault}
use Rattle.sc_lists.specs.declared.fault.Fault.TheVariants.{Told, NoMemory}
use Rattle.sc_lists.specs.Told.{Gives}
use Rattle.sc_clauses.specs.declared.step.Step.{Step}
use Rattle.sc_logs.specs.declared.reading.Malformed.{Malformed}
use Rattle.sc_logs.specs.Writable.{is_writable}
use Rattle.sc_logs.specs.Texts.{step_words, step_line, has_no_newline, steps_text, first_line, log_text}
use Rattle.sc_logs.specs.Readings.{Reads, IfTold, AreWritable, IsText, BeginsWith, StopsAt, IsFault, no_log, no_line, IsReading}
use Rattle.sc_logs.proofs.LineStepLaws.{line_injective}
use Rattle.sc_logs.proofs.LineLaws.{is_visible, step_visible, first_same, rest_same, cons_same}

-- ---- lines

visible_no_newline : (w : List ℕ) → is_visible w ≡ true → has_no_newline w ≡ true
visible_no_newline [] e = refl
visible_no_newline (b ∷ w) e =
    let parts = and_parts (nat_lt 32 b) (is_visible w) e in
    let above : 32 < b = ltb-true 32 b parts.0 in
    and_from (not (b == 10)) (has_no_newline w) (ap not (ne_eqb b 10 (λ (q : b ≡ 10). absurd (omega arith)))) (visible_no_newline w parts.1)

append_no_newline : (a b : List ℕ) → has_no_newline a ≡ true → has_no_newline b ≡ true → has_no_newline (a ++ b) ≡ true
append_no_newline [] b e f = f
append_no_newline (x ∷ a) b e f =
    let parts = and_parts (not (x == 10)) (has_no_newline a) e in
    and_from (not (x == 10)) (has_no_newline (a ++ b)) parts.0 (append_no_newline a b parts.1 f)

join_no_newline : (ws : List (List ℕ)) → list_all is_visible ws ≡ true → has_no_newline (join_with_byte 32 ws) ≡ true
join_no_newline [] e = refl
join_no_newline (w ∷ []) e = visible_no_newline w (and_parts (is_visible w) true e).0
join_no_newline (w ∷ x ∷ ws) e =
    let parts = and_parts (is_visible w) (list_all is_visible (x ∷ ws)) e in
    append_no_newline w (32 ∷ join_with_byte 32 (x ∷ ws)) (visible_no_newline w parts.0) (join_no_newline (x ∷ ws) parts.1)

pub line_no_newline : (s : Step) → is_writable s ≡ true → has_no_newline (step_line s) ≡ true
line_no_newline s e = join_no_newline (step_words s) (step_visible s e)

ten_not : (b : ℕ) → not (b == 10) ≡ true → b ≡ 10 → ⊥
ten_not b h e = true≢false (sym h ∙ ap not (eq-eqb b 10 e))

-- lines end at the first newline
pub newline_cut : (a b x y : List ℕ) → has_no_newline a ≡ true → has_no_newline b ≡ true → a ++ 10 ∷ x ≡ b ++ 10 ∷ y → (a ≡ b) × (x ≡ y)
newline_cut [] [] x y e f h = (refl, rest_same h)
newline_cut [] (c ∷ b) x y e f h = absurd (ten_not c (and_parts (not (c == 10)) (has_no_newline b) f).0 (sym (first_same h)))
newline_cut (c ∷ a) [] x y e f h = absurd (ten_not c (and_parts (not (c == 10)) (has_no_newline a) e).0 (first_same h))
newline_cut (c ∷ a) (d ∷ b) x y e f h =
    let parts = newline_cut a b x y (and_parts (not (c == 10)) (has_no_newline a) e).1 (and_parts (not (d == 10)) (has_no_newline b) f).1 (rest_same h) in
    (cons_same (first_same h) parts.0, parts.1)

-- a first line that isn't read is no step's
pub next_none : (bytes line rest : List ℕ) → bytes ≡ line ++ 10 ∷ rest → has_no_newline line ≡ true → Reads is_writable step_line line None → (s : Step) → is_writable s ≡ true → ¬ BeginsWith bytes s
next_none bytes line rest is free none s t begins =
    none s t (newline_cut (step_line s) line begins.0 rest (line_no_newline s t) free (sym begins.1 ∙ is)).0

-- ---- one text, one value

step_same : (s t : Step) (x y : List ℕ) → is_writable s ≡ true → is_writable t ≡ true → step_line s ++ 10 ∷ x ≡ step_line t ++ 10 ∷ y → (s ≡ t) × (x ≡ y)
step_same s t x y e f h =
    let parts = newline_cut (step_line s) (step_line t) x y (line_no_newline s e) (line_no_newline t f) h in
    (line_injective s t e f parts.0, parts.1)

-- ---- lists of steps

-- the line of a step, and then more lines
pub line_first : (s : Step) (ss : List Step) (rest : List ℕ) → steps_text (s ∷ ss) ++ rest ≡ step_line s ++ 10 ∷ (steps_text ss ++ rest)
line_first s ss rest = append_assoc (step_line s ++ 10 ∷ []) (steps_text ss) rest ∙ append_assoc (step_line s) (10 ∷ []) (steps_text ss ++ rest)

pub line_only : (s : Step) (ss : List Step) → steps_text (s ∷ ss) ≡ step_line s ++ 10 ∷ steps_text ss
line_only s ss = append_assoc (step_line s) (10 ∷ []) (steps_text ss)

not_nil : (a x : List ℕ) (b : ℕ) → a ++ b ∷ x ≡ [] → ⊥
not_nil [] x b e = absurd cc
not_nil (c ∷ a) x b e = absurd cc

steps_injective : (ss tt : List Step) → AreWritable ss → AreWritable tt → steps_text ss ≡ steps_text tt → ss ≡ tt
steps_injective [] [] e f h = refl
steps_injective [] (t ∷ ts) e f h = absurd (not_nil (step_line t) (steps_text ts) 10 (sym (line_only t ts) ∙ sym h))
steps_injective (s ∷ ss) [] e f h = absurd (not_nil (step_line s) (steps_text ss) 10 (sym (line_only s ss) ∙ h))
steps_injective (s ∷ ss) (t ∷ ts) e f h =
    let p = and_parts (is_writable s) (list_all is_writable ss) e in
    let q = and_parts (is_writable t) (list_all is_writable ts) f in
    let same = step_same s t (steps_text ss) (steps_text ts) p.0 q.0 (sym (line_only s ss) ∙ h ∙ line_only t ts) in
    cons_same same.0 (steps_injective ss ts p.1 q.1 same.1)

-- the rest, which begins with no step's line, is no more lines of steps
no_more : (before ss : List Step) (rest : List ℕ) → AreWritable before → AreWritable ss → rest ≢ [] → ((s : Step) → IsTrue (is_writable s) → ¬ BeginsWith rest s) → steps_text before ++ rest ≡ steps_text ss → ⊥
no_more [] [] rest e f more none h = more h
no_more [] (s ∷ ss) rest e f more none h = none s (and_parts (is_writable s) (list_all is_writable ss) f).0 (steps_text ss, h ∙ line_only s ss)
no_more (b ∷ bs) [] rest e f more none h = not_nil (step_line b) (steps_text bs ++ rest) 10 (sym (line_first b bs rest) ∙ h)
no_more (b ∷ bs) (s ∷ ss) rest e f more none h =
    let p = and_parts (is_writable b) (list_all is_writable bs) e in
    let q = and_parts (is_writable s) (list_all is_writable ss) f in
    no_more bs ss rest p.1 q.1 more none (step_same b s (steps_text bs ++ rest) (steps_text ss) p.0 q.0 (sym (line_first b bs rest) ∙ h ∙ line_only s ss)).1

same_stop : (a b : List Step) (x y : List ℕ) → AreWritable a → AreWritable b → ((s : Step) → IsTrue (is_writable s) → ¬ BeginsWith x s) → ((s : Step) → IsTrue (is_writable s) → ¬ BeginsWith y s)
    → steps_text a ++ x ≡ steps_text b ++ y → length a ≡ length b
same_stop [] [] x y e f m n h = refl
same_stop [] (t ∷ b) x y e f m n h = absurd (m t (and_parts (is_writable t) (list_all is_writable b) f).0 (steps_text b ++ y, h ∙ line_first t b y))
same_stop (s ∷ a) [] x y e f m n h = absurd (n s (and_parts (is_writable s) (list_all is_writable a) e).0 (steps_text a ++ x, sym h ∙ line_first s a x))
same_stop (s ∷ a) (t ∷ b) x y e f m n h =
    let p = and_parts (is_writable s) (list_all is_writable a) e in
    let q = and_parts (is_writable t) (list_all is_writable b) f in
    ap suc (same_stop a b x y p.1 q.1 m n (step_same s t (steps_text a ++ x) (steps_text b ++ y) p.0 q.0 (sym (line_first s a x) ∙ h ∙ line_first t b y)).1)

stops_once : (bytes : List ℕ) (m n : ℕ) → StopsAt bytes m → StopsAt bytes n → m ≡ n
stops_once bytes m n a b =
    a.number_is ∙ ap (λ k. k + 1) (same_stop a.before b.before a.rest b.rest a.writable b.writable a.no_step b.no_step (sym a.text ∙ b.text)) ∙ sym b.number_is

stops_no_steps : (bytes : List ℕ) (n : ℕ) (ss : List Step) → StopsAt bytes n → AreWritable ss → bytes ≡ steps_text ss → ⊥
stops_no_steps bytes n ss a e h = no_more a.before ss a.rest a.writable e a.more a.no_step (sym a.text ∙ h)

-- ---- files

first_cancel : (x y : List ℕ) → first_line ++ x ≡ first_line ++ y → x ≡ y
first_cancel x y e = rest_same (rest_same (rest_same (rest_same (rest_same (rest_same e)))))

first_not_nil : (x : List ℕ) → first_line ++ x ≡ [] → ⊥
first_not_nil x e = absurd cc

pub text_once : (bytes : List ℕ) (ss tt : List Step) → AreWritable ss → AreWritable tt → IsText bytes ss → IsText bytes tt → ss ≡ tt
text_once bytes ss tt e f (inl a) (inl b) = steps_injective ss tt e f (first_cancel (steps_text ss) (steps_text tt) (sym a ∙ b))
text_once bytes ss tt e f (inl a) (inr b) = absurd (first_not_nil (steps_text ss) (sym a ∙ b.0))
text_once bytes ss tt e f (inr a) (inl b) = absurd (first_not_nil (steps_text tt) (sym b ∙ a.0))
text_once bytes ss tt e f (inr a) (inr b) = a.1 ∙ sym b.1

text_no_fault : (bytes : List ℕ) (ss : List Step) (n : ℕ) → AreWritable ss → IsText bytes ss → IsFault bytes n → ⊥
text_no_fault bytes ss n e (inl a) (no_log more none) = none (steps_text ss) a
text_no_fault bytes ss n e (inr a) (no_log more none) = more a.0
text_no_fault bytes ss n e (inl a) (no_line rest is stops) = stops_no_steps rest n ss stops e (first_cancel rest (steps_text ss) (sym is ∙ a))
text_no_fault bytes ss n e (inr a) (no_line rest is stops) = first_not_nil rest (sym is ∙ a.0)

fault_once : (bytes : List ℕ) (m n : ℕ) → IsFault bytes m → IsFault bytes n → m ≡ n
fault_once bytes m n (no_log more none) (no_log more' none') = refl
fault_once bytes m n (no_log more none) (no_line rest is stops) = absurd (none rest is)
fault_once bytes m n (no_line rest is stops) (no_log more none) = absurd (none rest is)
fault_once bytes m n (no_line rest is stops) (no_line rest' is' stops') =
    stops_once rest m n stops (subst (λ (r : List ℕ). StopsAt r n) (first_cancel rest' rest (sym is' ∙ is)) stops')

-- ---- what is read

pub not_empty : (bytes : List ℕ) → false ≡ (length bytes == 0) → bytes ≢ []
not_empty bytes e h = true≢false (sym (e ∙ ap (λ (bs : List ℕ). length bs == 0) h))

pub stops_at : (bytes rest : List ℕ) (f : Fault Malformed) → bytes ≡ first_line ++ rest → IfTold f (λ m. StopsAt rest m.step) → IfTold f (λ m. IsFault bytes m.step)
stops_at bytes rest (Told m) is stops = no_line rest is stops
stops_at bytes rest NoMemory is stops = tt

pub exact_of : (bytes : List ℕ) (result : Result (List Step) (Fault Malformed)) (told : Result (List Step) Malformed)
    → IfOk result (λ g. AreWritable g × IsText bytes g) → IfErr result (λ f. IfTold f (λ m. IsFault bytes m.step)) → IsReading bytes told → Gives result told
exact_of bytes (Ok g) (Ok h) found fault told = ap Ok (text_once bytes h g told.0 found.0 told.1 found.1)
exact_of bytes (Ok g) (Err m) found fault told = absurd (text_no_fault bytes g m.step found.0 found.1 told)
exact_of bytes (Err (Told m)) (Ok h) found fault told = absurd (text_no_fault bytes h m.step told.0 told.1 fault)
exact_of bytes (Err (Told m)) (Err k) found fault told = let same : k.step ≡ m.step = fault_once bytes k.step m.step told fault in λ i. Err (record { step = same i })
exact_of bytes (Err NoMemory) told found fault is = tt

pub back_of : (bytes : List ℕ) (result : Result (List Step) (Fault Malformed)) (g : List Step)
    → IfOk result (λ g. AreWritable g × IsText bytes g) → IfErr result (λ f. IfTold f (λ m. IsFault bytes m.step)) → AreWritable g → bytes ≡ log_text g → Gives result (Ok g)
back_of bytes result g found fault e is = exact_of bytes result (Ok g) found fault (e, inl is)
