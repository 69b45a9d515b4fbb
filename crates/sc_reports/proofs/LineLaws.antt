-- Lines are put out one after another.
use Rattle.std.proofs.Common.{◌≡◌, ◌+◌, ◌<◌, ◌≤◌, ℕ, List, [], ◌∷◌, ◌++◌, Result, Ok, Err, length, get_or, take, drop, refl, sym, ap, ◌∙◌, append_assoc}
use Rattle.std.proofs.lemmas.List.{take_more, take_all, take-append-drop}
use Rattle.sc_outside.proofs.WriteLaws.{appended-after}
use Rattle.sc_outside.specs.Writes.{Written, Writes, all_appended, appended}
use Rattle.sc_outside.specs.declared.faults.SinkFault.{SinkFault}
use Rattle.sc_outside.specs.declared.faults.SinkFault.TheVariants.{Failed, NoMemory}
use Rattle.sc_reports.specs.Lines.{CutLines, FirstLines, PutsLines}

pub first-none : (o : Written) (lines : List (List ℕ)) → o ≡ all_appended o (take 0 lines)
first-none o lines = refl

-- one more line is put out
pub line-more : (lines : List (List ℕ)) (i : ℕ) (d : List ℕ) (old mid new : Written) → i < length lines → mid ≡ all_appended old (take i lines) → new ≡ appended mid (get_or lines i d)
    → new ≡ all_appended old (take (i + 1) lines)
line-more lines i d old mid new h e f =
    f ∙ ap (λ o. appended o (get_or lines i d)) e ∙ appended-after old (take i lines) (get_or lines i d) ∙ ap (all_appended old) (sym (take_more lines i d h))

line-next : (lines : List (List ℕ)) (i : ℕ) (d : List ℕ) → i < length lines → take i lines ++ get_or lines i d ∷ drop (i + 1) lines ≡ lines
line-next lines i d h =
    sym (append_assoc (take i lines) (get_or lines i d ∷ []) (drop (i + 1) lines)) ∙ ap (λ xs. xs ++ drop (i + 1) lines) (sym (take_more lines i d h)) ∙ take-append-drop (i + 1) lines

-- a failed write puts out a front of the next line
pub lines-cut : (lines : List (List ℕ)) (i : ℕ) (d : List ℕ) (old mid new : Written) (n : ℕ) → i < length lines → mid ≡ all_appended old (take i lines) → new ≡ appended mid (take n (get_or lines i d)) → CutLines lines old new
lines-cut lines i d old mid new n h e f = record {
  whole = take i lines;
  next = get_or lines i d;
  rest = drop (i + 1) lines;
  kept = n;
  in_order = line-next lines i d h;
  text = f ∙ ap (λ o. appended o (take n (get_or lines i d))) e;
}

-- one that finds no memory puts out nothing
pub lines-stop : (lines : List (List ℕ)) (i : ℕ) (old mid new : Written) → mid ≡ all_appended old (take i lines) → new ≡ mid → FirstLines lines old new
lines-stop lines i old mid new e f = record { whole = take i lines; rest = drop i lines; in_order = take-append-drop i lines; text = f ∙ e }

pub lines-all : (lines : List (List ℕ)) (i : ℕ) (old new : Written) → length lines ≤ i → new ≡ all_appended old (take i lines) → new ≡ all_appended old lines
lines-all lines i old new h e = e ∙ ap (all_appended old) (take_all i lines h)

-- a write of the next line that fails
pub puts-stop : (lines : List (List ℕ)) (i : ℕ) (d : List ℕ) (old mid new : Written) (rose : Type 0) → i < length lines → mid ≡ all_appended old (take i lines)
    → (e : SinkFault) → Writes mid new (get_or lines i d) (Err e) → (e ≡ Failed → rose) → PutsLines lines old new rose (Err e)
puts-stop lines i d old mid new rose h p Failed w risen = (risen refl, lines-cut lines i d old mid new w.0 h p w.2)
puts-stop lines i d old mid new rose h p NoMemory w risen = lines-stop lines i old mid new p w

-- ---- a line before others

cut-after : (first : List ℕ) (rest : List (List ℕ)) (old mid new : Written) → mid ≡ appended old first → CutLines rest mid new → CutLines (first ∷ rest) old new
cut-after first rest old mid new e h = record {
  whole = first ∷ h.whole;
  next = h.next;
  rest = h.rest;
  kept = h.kept;
  in_order = ap (λ ls. first ∷ ls) h.in_order;
  text = h.text ∙ ap (λ o. appended (all_appended o h.whole) (take h.kept h.next)) e;
}

first-after : (first : List ℕ) (rest : List (List ℕ)) (old mid new : Written) → mid ≡ appended old first → FirstLines rest mid new → FirstLines (first ∷ rest) old new
first-after first rest old mid new e h = record {
  whole = first ∷ h.whole;
  rest = h.rest;
  in_order = ap (λ ls. first ∷ ls) h.in_order;
  text = h.text ∙ ap (λ o. all_appended o h.whole) e;
}

-- a line is put out, and then the others are
pub puts-first : (first : List ℕ) (rest : List (List ℕ)) (old mid new : Written) (risen rose : Type 0) → (risen → rose) → mid ≡ appended old first → (r : Result Unit SinkFault) → PutsLines rest mid new risen r → PutsLines (first ∷ rest) old new rose r
puts-first first rest old mid new risen rose since e (Ok x) h = h ∙ ap (λ o. all_appended o rest) e
puts-first first rest old mid new risen rose since e (Err Failed) h = (since h.0, cut-after first rest old mid new e h.1)
puts-first first rest old mid new risen rose since e (Err NoMemory) h = first-after first rest old mid new e h

-- a write of the first line that fails
pub puts-none : (first : List ℕ) (rest : List (List ℕ)) (old new : Written) (rose : Type 0) (e : SinkFault) → Writes old new first (Err e) → (e ≡ Failed → rose) → PutsLines (first ∷ rest) old new rose (Err e)
puts-none first rest old new rose Failed w risen = (risen refl, record { whole = []; next = first; rest = rest; kept = w.0; in_order = refl; text = w.2 })
puts-none first rest old new rose NoMemory w risen = record { whole = []; rest = first ∷ rest; in_order = refl; text = w }
