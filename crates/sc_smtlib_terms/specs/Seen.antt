-- What is told of each sort, by what is told of the sorts inside it.
use Rattle.sc_sorts.specs.declared.sort.Sort.{Sort, Sort-F, roll-Sort, map-Sort, fold-Sort}

-- a sort beside what is told of it
abbrev pub Seen : Type 0 → Type 0
Seen A = Sort × A

abbrev pub sorts_seen : (A : Type 0) → Sort-F (Seen A) → Sort-F Sort
sorts_seen A = map-Sort (Seen A) Sort (λ x. x.0)

-- what is told, of the sort itself and what it is made of
abbrev pub Step : Type 0 → Type 0
Step A = Sort → Sort-F (Seen A) → A

abbrev pub seen_by : (A : Type 0) → Step A → Sort-F (Seen A) → Seen A
seen_by A step x = (roll-Sort (sorts_seen A x), step (roll-Sort (sorts_seen A x)) x)

unfoldable pub told_by : (A : Type 0) → Step A → Sort → A
told_by A step x = (fold-Sort (Seen A) (seen_by A step) x).1
