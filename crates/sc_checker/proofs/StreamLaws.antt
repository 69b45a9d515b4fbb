-- What is held after the bytes of lines.
use Rattle.std.proofs.Common.{◌≡◌, ◌≢◌, ◌+◌, ◌<◌, ◌==◌, ℕ, suc, List, [], ◌∷◌, ◌++◌, length, Bool, true, false, not, Option, Some, None, is_some, refl, sym, ap, ◌∙◌, subst, append_assoc, arith}
use Rattle.std.specs.List.{list_all}
use Rattle.std.proofs.Math.Dec.{eqb-suc-zero}
use Rattle.std.proofs.lemmas.Bool.{and_parts, and_from, eq-eqb, eqb-true, true≢false}
use Rattle.std.proofs.lemmas.List.{append-nil, length-append}
use Rattle.sc_clauses.specs.Clauses.{Clause}
use Rattle.sc_clauses.specs.declared.step.Instance as instance
use Rattle.sc_clauses.specs.declared.step.Learned as learned
use Rattle.sc_clauses.specs.declared.step.Step.{Step}
use Rattle.sc_clauses.specs.declared.step.Step.TheVariants.{Instance, Learned}
use Rattle.sc_refutations.specs.Arenas.{has_code}
use Rattle.sc_footprint.specs.Problems.{Posed}
use Rattle.sc_checker.specs.declared.checking.Reason.{Reason}
use Rattle.sc_checker.specs.declared.checking.Reason.TheVariants.{Malformed}
use Rattle.sc_logs.specs.LineSteps.{step_of}
use Rattle.sc_checker.specs.Progress.{Progress, start, failed, taken, IsTaken, AfterStep, is_past_fault, is_taken, AfterSteps, unless_at_fault}
use Rattle.sc_logs.specs.Readings.{AreWritable, Reads}
use Rattle.sc_checker.specs.Streams.{Checking, unread, first_words, after_first, AfterReading, AfterLine, is_first, is_later, AfterByte, is_unread, ends_line, is_in_line, lengthened, After}
use Rattle.sc_logs.specs.Texts.{has_no_newline, step_line, steps_text, first_line}
use Rattle.sc_checker.specs.Verdicts.{IsOfInstance, of_learned}
use Rattle.sc_logs.specs.Writable.{is_lit, is_learned, is_writable}
use Rattle.sc_footprint.specs.Written.{is_instance}
use Rattle.sc_logs.proofs.LineLaws.{neither_read}
use Rattle.sc_logs.proofs.LineStepLaws.{step_is}
use Rattle.sc_checker.proofs.ProgressLaws.{none_is, some_is, instance_step, learned_step}
use Rattle.sc_logs.proofs.ReadingLaws.{line_first, line_no_newline}

abbrev pub held : Bool → List ℕ → Progress → Checking
held begun line g = record { begun = begun; line = line; progress = g }

-- bytes more of a line
abbrev pub longer : Checking → List ℕ → Checking
longer c bytes = record { begun = c.begun; line = c.line ++ bytes; progress = c.progress }

-- between lines
abbrev pub between : Progress → Checking
between g = record { begun = true; line = []; progress = g }

-- a line of which nothing more comes
longer_nil : (c : Checking) → longer c [] ≡ c
longer_nil c = λ i. held c.begun (append-nil c.line i) c.progress

-- one byte, and then more
longer_one : (c : Checking) (b : ℕ) (bs : List ℕ) → longer (longer c (b ∷ [])) bs ≡ longer c (b ∷ bs)
longer_one c b bs = λ i. held c.begun (append_assoc c.line (b ∷ []) bs i) c.progress

-- where a step was at fault, nothing is kept
pub kept_at_fault : (c : Checking) (bytes : List ℕ) → true ≡ is_some c.progress.fault → c ≡ lengthened c bytes
kept_at_fault c bytes e = let f = some_is c.progress.fault e in sym (ap (λ (o : Option (ℕ × Reason)). unless_at_fault o c (longer c bytes)) f.1)

pub kept_on : (c d : Checking) (bytes : List ℕ) → false ≡ is_some c.progress.fault → d ≡ longer c bytes → d ≡ lengthened c bytes
kept_on c d bytes e is = is ∙ sym (ap (λ (o : Option (ℕ × Reason)). unless_at_fault o c (longer c bytes)) (none_is c.progress.fault e))

none_and_some : {X : Type 0} (o : Option X) (x : X) → o ≡ Some x → o ≡ None → ⊥
none_and_some o x e f = absurd (let both : Some x ≡ None = sym e ∙ f in cc)

module _ (has : instance.Instance → Type 0) (clause_of : instance.Instance → Clause) where
  -- ---- pieces

  -- two pieces leave what they leave as one
  pub after_joined : (c d e : Checking) (a b : List ℕ) → After has clause_of c a d → After has clause_of d b e → After has clause_of c (a ++ b) e
  unfolding After
  after_joined c d e [] b first second = subst (λ (x : Checking). After has clause_of x b e) first second
  after_joined c d e (x ∷ a) b first second = (first.0, first.1, after_joined first.0 d e a b first.2 second)

  pub after_split : (c e : Checking) (a b : List ℕ) → After has clause_of c (a ++ b) e → (d : Checking) × After has clause_of c a d × After has clause_of d b e
  unfolding After
  after_split c e [] b h = (c, refl, h)
  after_split c e (x ∷ a) b h = let later = after_split h.0 e a b h.2 in (later.0, (h.0, h.1, later.1), later.2)

  pub parts_read : (c d e : Checking) (bytes a b : List ℕ) → After has clause_of c a d → After has clause_of d b e → bytes ≡ a ++ b → After has clause_of c bytes e
  parts_read c d e bytes a b first second whole = subst (λ (bs : List ℕ). After has clause_of c bs e) (sym whole) (after_joined c d e a b first second)

  -- no bytes
  pub nothing_read : (c : Checking) (bytes : List ℕ) → bytes ≡ [] → After has clause_of c bytes c
  unfolding After
  nothing_read c bytes none = subst (λ (bs : List ℕ). After has clause_of c bs c) (sym none) refl

  pub nothing_is : (c d : Checking) → After has clause_of c [] d → d ≡ c
  unfolding After
  nothing_is c d a = a

  -- ---- faults

  byte_unread : (c d : Checking) (b : ℕ) (f : ℕ × Reason) → c.progress.fault ≡ Some f → AfterByte has clause_of c b d → d ≡ c
  byte_unread c d b f e (is_unread k is same) = same
  byte_unread c d b f e (ends_line none is line) = absurd (none_and_some c.progress.fault f e none)
  byte_unread c d b f e (is_in_line none other is) = absurd (none_and_some c.progress.fault f e none)

  -- where a step was at fault, nothing is looked at
  pub after_fault : (c d : Checking) (bytes : List ℕ) (f : ℕ × Reason) → c.progress.fault ≡ Some f → After has clause_of c bytes d → d ≡ c
  unfolding After
  after_fault c d [] f e h = h
  after_fault c d (b ∷ bs) f e h = after_fault c d bs f e (subst (λ (x : Checking). After has clause_of x bs d) (byte_unread c h.0 b f e h.1) h.2)

  pub fault_stays_read : (c : Checking) (bytes : List ℕ) (f : ℕ × Reason) → c.progress.fault ≡ Some f → After has clause_of c bytes c
  unfolding After
  fault_stays_read c [] f e = refl
  fault_stays_read c (b ∷ bs) f e = (c, is_unread f e refl, fault_stays_read c bs f e)

  pub stopped_stays : (c : Checking) (bytes : List ℕ) → true ≡ is_some c.progress.fault → After has clause_of c bytes c
  stopped_stays c bytes e = let f = some_is c.progress.fault e in fault_stays_read c bytes f.0 f.1

  -- ---- the bytes of a line

  not_newline : (b : ℕ) → not (b == 10) ≡ true → b ≢ 10
  not_newline b h e = true≢false (sym h ∙ ap not (eq-eqb b 10 e))

  pub part_read : (c : Checking) (bytes : List ℕ) → c.progress.fault ≡ None → has_no_newline bytes ≡ true → After has clause_of c bytes (longer c bytes)
  unfolding After
  part_read c [] e h = longer_nil c
  part_read c (b ∷ bs) e h =
      let parts = and_parts (not (b == 10)) (has_no_newline bs) h in (
        longer c (b ∷ []),
        is_in_line e (not_newline b parts.0) refl,
        subst (λ (d : Checking). After has clause_of (longer c (b ∷ [])) bs d) (longer_one c b bs) (part_read (longer c (b ∷ [])) bs e parts.1),
      )

  byte_longer : (c d : Checking) (b : ℕ) → c.progress.fault ≡ None → b ≢ 10 → AfterByte has clause_of c b d → d ≡ longer c (b ∷ [])
  byte_longer c d b e h (is_unread f is same) = absurd (none_and_some c.progress.fault f is e)
  byte_longer c d b e h (ends_line none is line) = absurd (h is)
  byte_longer c d b e h (is_in_line none other is) = is

  -- a part of a line makes it longer
  pub part_is : (c d : Checking) (bytes : List ℕ) → c.progress.fault ≡ None → has_no_newline bytes ≡ true → After has clause_of c bytes d → d ≡ longer c bytes
  unfolding After
  part_is c d [] e h a = a ∙ sym (longer_nil c)
  part_is c d (b ∷ bs) e h a =
      let parts = and_parts (not (b == 10)) (has_no_newline bs) h in
      let first : a.0 ≡ longer c (b ∷ []) = byte_longer c a.0 b e (not_newline b parts.0) a.1 in
      part_is (longer c (b ∷ [])) d bs e parts.1 (subst (λ (x : Checking). After has clause_of x bs d) first a.2) ∙ longer_one c b bs

  newline_is : (c d : Checking) → c.progress.fault ≡ None → AfterByte has clause_of c 10 d → AfterLine has clause_of c.begun c.line c.progress d
  newline_is c d e (is_unread f is same) = absurd (none_and_some c.progress.fault f is e)
  newline_is c d e (ends_line none is line) = line
  newline_is c d e (is_in_line none other is) = absurd (other refl)

  line_ended : (c d : Checking) (part : List ℕ) → c.progress.fault ≡ None → has_no_newline part ≡ true → AfterLine has clause_of c.begun (c.line ++ part) c.progress d → After has clause_of c (part ++ 10 ∷ []) d
  unfolding After
  line_ended c d part e free line = after_joined c (longer c part) d part (10 ∷ []) (part_read c part e free) (d, ends_line e refl line, refl)

  pub end_read : (c d : Checking) (part whole : List ℕ) → false ≡ is_some c.progress.fault → has_no_newline part ≡ true → whole ≡ c.line ++ part → AfterLine has clause_of c.begun whole c.progress d
      → After has clause_of c (part ++ 10 ∷ []) d
  end_read c d part whole e free same line =
      line_ended c d part (none_is c.progress.fault e) free (subst (λ (l : List ℕ). AfterLine has clause_of c.begun l c.progress d) same line)

  part_kept : (c : Checking) (part : List ℕ) (o : Option (ℕ × Reason)) → c.progress.fault ≡ o → has_no_newline part ≡ true → After has clause_of c part (unless_at_fault o c (longer c part))
  part_kept c part None e free = part_read c part e free
  part_kept c part (Some f) e free = fault_stays_read c part f e

  pub kept_read : (c d : Checking) (part : List ℕ) → has_no_newline part ≡ true → d ≡ lengthened c part → After has clause_of c part d
  kept_read c d part free is = subst (λ (x : Checking). After has clause_of c part x) (sym is) (part_kept c part c.progress.fault refl free)

  -- a line, and what stands behind it
  pub piece_more : (c d end : Checking) (line later rest : List ℕ) → rest ≡ line ++ 10 ∷ later → After has clause_of c (line ++ 10 ∷ []) d → After has clause_of d later end → After has clause_of c rest end
  piece_more c d end line later rest is first second =
      subst (λ (bs : List ℕ). After has clause_of c bs end) (append_assoc line (10 ∷ []) later ∙ sym is) (after_joined c d end (line ++ 10 ∷ []) later first second)

  pub after_whole : (begun : Bool) (g : Progress) (line rest : List ℕ) (end : Checking) → g.fault ≡ None → has_no_newline line ≡ true → After has clause_of (held begun [] g) (line ++ 10 ∷ rest) end
      → (d : Checking) × AfterLine has clause_of begun line g d × After has clause_of d rest end
  unfolding After
  after_whole begun g line rest end none free a =
      let cut = after_split (held begun [] g) end line (10 ∷ rest) a in
      let here : cut.0 ≡ held begun line g = part_is (held begun [] g) cut.0 line none free cut.1 in
      let there : After has clause_of (held begun line g) (10 ∷ rest) end = subst (λ (x : Checking). After has clause_of x (10 ∷ rest) end) here cut.2 in
      (there.0, newline_is (held begun line g) there.0 none there.1, there.2)

  pub line_read : (begun : Bool) (g : Progress) (line rest : List ℕ) (d end : Checking) → g.fault ≡ None → has_no_newline line ≡ true → AfterLine has clause_of begun line g d → After has clause_of d rest end
      → After has clause_of (held begun [] g) (line ++ 10 ∷ rest) end
  line_read begun g line rest d end none free here later = piece_more (held begun [] g) d end line rest (line ++ 10 ∷ rest) refl (line_ended (held begun [] g) d line none free here) later

  -- ---- the lines of steps

  pub later_line : (g : Progress) (line : List ℕ) (d : Checking) → AfterLine has clause_of true line g d → (h : Progress) × AfterReading has clause_of g (step_of line) h × (d ≡ between h)
  later_line g line d (is_first e is) = absurd (true≢false e)
  later_line g line d (is_later e h reading is) = (h, reading, is)

  step_read : (s : Step) → is_writable s ≡ true → step_of (step_line s) ≡ Some s
  step_read s w = sym (step_is (step_line s) (Some s) (w, refl))

  -- the line of a step is read as that step
  line_of_step : (g : Progress) (s : Step) (rest : List ℕ) (end : Checking) → g.fault ≡ None → is_writable s ≡ true → After has clause_of (between g) (step_line s ++ 10 ∷ rest) end
      → (h : Progress) × AfterStep has clause_of g s h × After has clause_of (between h) rest end
  line_of_step g s rest end none w a =
      let read = after_whole true g (step_line s) rest end none (line_no_newline s w) a in
      let later = later_line g (step_line s) read.0 read.1 in
      (later.0, subst (λ (o : Option Step). AfterReading has clause_of g o later.0) (step_read s w) later.1, subst (λ (x : Checking). After has clause_of x rest end) later.2 read.2)

  line_at_fault : (g : Progress) (s : Step) (rest : List ℕ) (end : Checking) (f : ℕ × Reason) → g.fault ≡ Some f → After has clause_of (between g) (step_line s ++ 10 ∷ rest) end
      → (h : Progress) × AfterStep has clause_of g s h × After has clause_of (between h) rest end
  line_at_fault g s rest end f e a =
      let same : end ≡ between g = after_fault (between g) end (step_line s ++ 10 ∷ rest) f e a in
      (g, is_past_fault f e refl, subst (λ (x : Checking). After has clause_of (between g) rest x) (sym same) (fault_stays_read (between g) rest f e))

  step_line_read : (g : Progress) (s : Step) (rest : List ℕ) (end : Checking) (o : Option (ℕ × Reason)) → g.fault ≡ o → is_writable s ≡ true → After has clause_of (between g) (step_line s ++ 10 ∷ rest) end
      → (h : Progress) × AfterStep has clause_of g s h × After has clause_of (between h) rest end
  step_line_read g s rest end None e w a = line_of_step g s rest end e w a
  step_line_read g s rest end (Some f) e w a = line_at_fault g s rest end f e a

  pub steps_read : (g : Progress) (ss : List Step) (rest : List ℕ) (end : Checking) → AreWritable ss → After has clause_of (between g) (steps_text ss ++ rest) end
      → (h : Progress) × AfterSteps has clause_of g ss h × After has clause_of (between h) rest end
  unfolding AfterSteps
  steps_read g [] rest end w a = (g, refl, a)
  steps_read g (s ∷ ss) rest end w a =
      let parts = and_parts (is_writable s) _ w in
      let one = step_line_read g s (steps_text ss ++ rest) end g.fault refl parts.0 (subst (λ (bs : List ℕ). After has clause_of (between g) bs end) (line_first s ss rest) a) in
      let more = steps_read one.0 ss rest end parts.1 one.2 in
      (more.0, (one.0, one.1, more.1), more.2)

  pub step_line_built : (g h : Progress) (s : Step) (rest : List ℕ) (end : Checking) → is_writable s ≡ true → AfterStep has clause_of g s h → After has clause_of (between h) rest end
      → After has clause_of (between g) (step_line s ++ 10 ∷ rest) end
  step_line_built g h s rest end w (is_past_fault f e same) later =
      let c = between g in
      let here : After has clause_of c rest end = subst (λ (x : Progress). After has clause_of (between x) rest end) same later in
      let stays : end ≡ c = after_fault c end rest f e here in
      subst (λ (x : Checking). After has clause_of c (step_line s ++ 10 ∷ rest) x) (sym stays) (fault_stays_read c (step_line s ++ 10 ∷ rest) f e)
  step_line_built g h s rest end w (is_taken e t) later =
      let reading : AfterReading has clause_of g (step_of (step_line s)) h = subst (λ (o : Option Step). AfterReading has clause_of g o h) (sym (step_read s w)) (is_taken e t) in
      line_read true g (step_line s) rest (between h) end e (line_no_newline s w) (is_later refl h reading refl) later

  -- ---- the first line

  first_is : (line : List ℕ) (g : Progress) (d : Checking) → AfterLine has clause_of false line g d → d ≡ after_first line g
  first_is line g d (is_first e is) = is
  first_is line g d (is_later e h reading is) = absurd (true≢false (sym e))

  pub first_line_read : (g : Progress) (line rest : List ℕ) (end : Checking) → g.fault ≡ None → has_no_newline line ≡ true → After has clause_of (held false [] g) (line ++ 10 ∷ rest) end
      → After has clause_of (after_first line g) rest end
  first_line_read g line rest end none free a =
      let read = after_whole false g line rest end none free a in
      subst (λ (x : Checking). After has clause_of x rest end) (first_is line g read.0 read.1) read.2

  pub log_begun : (p : Posed) (rest : List ℕ) (end : Checking) → After has clause_of (unread p) (first_line ++ rest) end → After has clause_of (between (start p)) rest end
  log_begun p rest end a = first_line_read (start p) first_words rest end refl refl a

  -- ---- what the code leaves

  -- the line of a learned clause, that of an instance, and a line of neither
  pub learned_line : (line : List ℕ) (g h : Progress) (l : learned.Learned) → g.fault ≡ None → Reads is_learned (λ k. step_line (Learned k)) line (Some l) → h ≡ taken (of_learned g.listed g.clauses l) g
      → AfterReading has clause_of g (step_of line) h
  learned_line line g h l none read is =
      subst (λ (o : Option Step). AfterReading has clause_of g o h) (step_is line (Some (Learned l)) read) (learned_step has clause_of g h (Learned l) l none refl is)

  pub instance_line : (line : List ℕ) (g h : Progress) (i : instance.Instance) → g.fault ≡ None → Reads is_instance (λ k. step_line (Instance k)) line (Some i) → IsTaken (IsOfInstance has clause_of i) g h
      → AfterReading has clause_of g (step_of line) h
  instance_line line g h i none read is =
      subst (λ (o : Option Step). AfterReading has clause_of g o h) (step_is line (Some (Instance i)) read) (instance_step has clause_of g h (Instance i) i none refl is)

  pub other_line : (line : List ℕ) (g h : Progress) (number : ℕ) → Reads is_learned (λ k. step_line (Learned k)) line None → Reads is_instance (λ k. step_line (Instance k)) line None → number ≡ g.steps + 1
      → h ≡ failed number Malformed g → AfterReading has clause_of g (step_of line) h
  other_line line g h number no_learned no_instance next is =
      subst (λ (o : Option Step). AfterReading has clause_of g o h) (step_is line None (neither_read line no_learned no_instance)) (is ∙ ap (λ (n : ℕ). failed n Malformed g) next)

  -- a line of a step that is taken
  pub line_taken : (begun : Bool) (kept line : List ℕ) (c : Checking) (g h : Progress) → held begun kept g ≡ c → begun ≡ true → c.line ≡ [] → AfterReading has clause_of g (step_of line) h → AfterLine has clause_of c.begun line c.progress (held begun kept h)
  line_taken begun kept line c g h is has_begun empty reading =
      let nothing : kept ≡ [] = ap (λ (k : Checking). k.line) is ∙ empty in
      is_later (sym (ap (λ (k : Checking). k.begun) is) ∙ has_begun) h (subst (λ (x : Progress). AfterReading has clause_of x (step_of line) h) (ap (λ (k : Checking). k.progress) is) reading)
      (λ i. held (has_begun i) (nothing i) h)

  -- a learned clause whose line bytes begin with, where a line begins
  pub whole_taken : (begun : Bool) (line : List ℕ) (c : Checking) (g h : Progress) (bytes later : List ℕ) (l : learned.Learned) (end : Checking) → held begun line g ≡ c → c ≡ between c.progress → c.progress.fault ≡ None
      → is_learned l ≡ true → bytes ≡ step_line (Learned l) ++ 10 ∷ later → h ≡ taken (of_learned g.listed g.clauses l) g → After has clause_of (held begun line h) later end → After has clause_of c bytes end
  whole_taken begun line c g h bytes later l end is begins none fits text next rest =
      let has_begun : begun ≡ true = ap (λ (k : Checking). k.begun) (is ∙ begins) in
      let nothing : line ≡ [] = ap (λ (k : Checking). k.line) (is ∙ begins) in
      let going : g.fault ≡ None = ap (λ (k : Checking). k.progress.fault) is ∙ none in
      let here : between g ≡ c = (λ i. held (sym has_begun i) (sym nothing i) g) ∙ is in
      let there : held begun line h ≡ between h = λ i. held (has_begun i) (nothing i) h in
      subst (λ (x : Checking). After has clause_of x bytes end) here
      (subst (λ (bs : List ℕ). After has clause_of (between g) bs end) (sym text)
      (step_line_built g h (Learned l) later end fits (learned_step has clause_of g h (Learned l) l going refl next) (subst (λ (x : Checking). After has clause_of x later end) there rest)))

-- each literal of a learned clause that has a text has a number
lits_coded : (c : Clause) → list_all is_lit c ≡ true → list_all has_code c ≡ true
lits_coded [] e = refl
lits_coded (l ∷ c) e =
    let parts = and_parts (is_lit l) (list_all is_lit c) e in
    and_from (has_code l) (list_all has_code c) (and_parts (has_code l) _ parts.0).0 (lits_coded c parts.1)

pub learned_coded : (l : learned.Learned) → is_learned l ≡ true → list_all has_code l.clause ≡ true
learned_coded l e = lits_coded l.clause (and_parts (list_all is_lit l.clause) _ e).0

-- a line of which nothing was kept
pub whole_line : (kept part : List ℕ) → true ≡ (length kept == 0) → part ≡ kept ++ part
whole_line [] part e = refl
whole_line (b ∷ kept) part e = absurd (true≢false (e ∙ eqb-suc-zero (length kept)))

-- bytes behind a newline are fewer
pub line_shorter : (bytes line later : List ℕ) → bytes ≡ line ++ 10 ∷ later → length later < length bytes
line_shorter bytes line later is =
    let long : length bytes ≡ length line + suc (length later) = ap length is ∙ length-append line (10 ∷ later) in
    omega (arith, long)

-- ---- where a line ends

pub data Cut (bytes : List ℕ) : Type 0 where
  no_end : has_no_newline bytes ≡ true → Cut bytes
  ends : (line rest : List ℕ) → bytes ≡ line ++ 10 ∷ rest → has_no_newline line ≡ true → Cut bytes

cut_more : (b : ℕ) (bs : List ℕ) (t : Bool) → (b == 10) ≡ t → Cut bs → Cut (b ∷ bs)
cut_more b bs true e cut = ends [] bs (ap (λ (x : ℕ). x ∷ bs) (eqb-true b 10 e)) refl
cut_more b bs false e (no_end free) = no_end (and_from (not (b == 10)) (has_no_newline bs) (ap not e) free)
cut_more b bs false e (ends line rest is free) = ends (b ∷ line) rest (ap (λ (xs : List ℕ). b ∷ xs) is) (and_from (not (b == 10)) (has_no_newline line) (ap not e) free)

pub cut_of : (bytes : List ℕ) → Cut bytes
cut_of [] = no_end refl
cut_of (b ∷ bs) = cut_more b bs (b == 10) refl (cut_of bs)

-- bytes with a newline
pub has_newline : (line rest : List ℕ) → has_no_newline (line ++ 10 ∷ rest) ≡ true → ⊥
has_newline [] rest e = true≢false (sym e)
has_newline (b ∷ line) rest e = has_newline line rest (and_parts (not (b == 10)) (has_no_newline (line ++ 10 ∷ rest)) e).1
