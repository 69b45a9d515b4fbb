-- Where in a tree a value stands: steps that lead to it, and the JSON pointer of these (RFC 6901).
use Rattle.std.specs.Prelude.{ℕ, ◌+◌, List, [], ◌∷◌}
use Rattle.std.specs.Fmt.{decimal}
use Rattle.serde_json.specs.Data.{Data, array, object, Items, item, Members, member}
use Rattle.sc_json.specs.Pointers.{below}

-- a step into a value: to a member of an object by its name, or to an item of a list by its number
pub data Step : Type 0 where
  to_member : List ℕ → Step
  to_item : ℕ → Step

-- how a step is written
abbrev pub word : Step → List ℕ
word (to_member name) = name
word (to_item n) = decimal n

-- the JSON pointer of these steps (RFC 6901)
abbrev pub pointer : List Step → List ℕ
pointer [] = []
pointer (step ∷ steps) = below (word step) (pointer steps)

-- one of the members has this name and this value
pub data HasMember : Members → List ℕ → Data → Type 0 where
  first_member : (name : List ℕ) (value : Data) (others : Members) → HasMember (member name value others) name value
  later_member : (other : List ℕ) (beside : Data) (others : Members) (name : List ℕ) (value : Data)
      → HasMember others name value → HasMember (member other beside others) name value

-- the items being counted from n on, this value has this number
pub data HasItem : ℕ → Items → ℕ → Data → Type 0 where
  first_item : (n : ℕ) (value : Data) (others : Items) → HasItem n (item value others) n value
  later_item : (n : ℕ) (beside : Data) (others : Items) (place : ℕ) (value : Data)
      → HasItem (n + 1) others place value → HasItem n (item beside others) place value

-- the steps lead from a value to one inside of it
pub data LeadsTo : Data → List Step → Data → Type 0 where
  itself : (d : Data) → LeadsTo d [] d
  by_member : (members : Members) (name : List ℕ) (value : Data) (steps : List Step) (end : Data)
      → HasMember members name value → LeadsTo value steps end → LeadsTo (object members) (to_member name ∷ steps) end
  by_item : (items : Items) (place : ℕ) (value : Data) (steps : List Step) (end : Data)
      → HasItem 0 items place value → LeadsTo value steps end → LeadsTo (array items) (to_item place ∷ steps) end
