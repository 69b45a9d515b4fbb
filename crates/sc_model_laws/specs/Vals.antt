-- The value of a closed term, by its sort, as an assignment tells it.
use Rattle.std.specs.Prelude.{◌&&◌, ℕ, Bool, true, false, List, [], ◌∷◌, map, flat_map, Some, None, unwrap_or, if◌then◌else◌}
use Rattle.sc_names.specs.declared.uid.Uid.{Uid}
use Rattle.sc_values.specs.declared.value.Value.TheVariants as value
use Rattle.sc_sorts.specs.declared.sort.Sort.{Sort, Sort-F, fold-Sort}
use Rattle.sc_sorts.specs.declared.sort.Sort.TheOpen as s
use Rattle.sc_sorts.specs.declared.node.BinaryOp.TheVariants.{Member}
use Rattle.sc_bits.specs.Bits.{of_bits64}
use Rattle.sc_bits.specs.Addresses.{ip_of}
use Rattle.sc_terms.specs.Trees.{Tree, two}
use Rattle.sc_terms.specs.Order.{tree_eq}
use Rattle.sc_terms.specs.Folds.{bit_term, present_term, held_term, field_term}
use Rattle.sc_terms.specs.Values.{Val, it, maybe, yes, value_in, field_of, set_from}
use Rattle.sc_rule_laws.specs.Terms.{written}
use Rattle.sc_model_laws.specs.Assignments.{Assignment, lit}

-- an assignment, the closed terms, and which text a string is and which entity an entity
pub record Model : Type 0 where
  pub truths : Assignment
  pub closed : List Tree
  pub text : Tree → List ℕ
  pub uid : Tree → Uid

-- what is assigned to a set: each y of a closed term `member y x` that is true
abbrev pub member_in : Assignment → Tree → Tree → List Tree
member_in m x (two Member y z) = if tree_eq z x && m (two Member y z) then y ∷ [] else []
member_in m x _ = []

abbrev pub assigned : Model → Tree → List Tree
assigned m x = flat_map (member_in m.truths x) m.closed

-- the terms of its members: of a set term those that stand there, of any other set what is assigned to it
abbrev pub elements : Model → Tree → List Tree
elements m x = unwrap_or (written x) (assigned m x)

abbrev pub bits_of : Model → Tree → ℕ → Bool
bits_of m x i = lit m.truths (bit_term x i)

abbrev pub held_by : Bool → Val → Val
held_by true x = maybe (Some (value_in x))
held_by false x = maybe None

-- each sort inside is seen as the values of the terms of it
abbrev pub val_step : Model → Sort-F (Tree → Val) → Tree → Val
val_step m s.Bool x = yes (lit m.truths x)
val_step m s.Long x = it (value.Long (of_bits64 (bits_of m x)))
val_step m s.String x = it (value.String (m.text x))
val_step m s.Decimal x = it (value.Decimal (of_bits64 (bits_of m x)))
val_step m s.Ip x = it (value.Ip (ip_of (bits_of m x)))
val_step m (s.Entity name choices) x = it (value.Entity (m.uid x))
val_step m (s.Set member) x = it (value.Set (set_from (map (λ y. value_in (member y)) (elements m x))))
val_step m (s.Record fields) x =
    it (value.Record (flat_map (λ (f : List ℕ × (Tree → Val)). field_of (f.0, f.1 (field_term f.0 x))) fields))
val_step m (s.Option held) x = held_by (lit m.truths (present_term x)) (held (held_term x))

-- the value of a term of a sort
unfoldable pub val_of : Model → Sort → Tree → Val
val_of m = fold-Sort (Tree → Val) (val_step m)
