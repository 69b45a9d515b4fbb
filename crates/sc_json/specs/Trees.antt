-- Which bytes are the text of which tree, and what the tree of a file says or has as its fault.
use Rattle.std.specs.Prelude.{◌≡◌, ℕ, List, [], ◌∷◌, Option, Some, None, ⊤}
use Rattle.std.specs.List.{AllByRecursion}
use Rattle.std.specs.List.Sorted.{IsStrictlySortedBy}
use Rattle.std.specs.Str.{IsUtf8}
use Rattle.serde_json.specs.Data.{Data, null, boolean, number, string, array, object, Items, no_items, item, Members, no_members, member}
use Rattle.serde_json.specs.Read.{read}
use Rattle.sc_names.specs.Uids.{text_cmp}

-- the bytes are the text of a tree
pub record HasTree (bytes : List ℕ) (d : Data) : Type 0 where
  pub text : IsUtf8 bytes
  pub tree : read bytes ≡ Some d

-- ---- what a file says

-- the bytes say a value: their tree has no fault, and means it
pub record Says {W F : Type 0} (first_fault : Data → Option F) (meaning : Data → W) (bytes : List ℕ)
    (w : W) : Type 0 where
  pub d : Data
  pub tree : HasTree bytes d
  pub no_fault : first_fault d ≡ None
  pub meant : w ≡ meaning d

-- the bytes have a fault: they are the text of no tree, or their tree has it first
pub data Fails {F : Type 0} (not_json : F) (first_fault : Data → Option F) (bytes : List ℕ) : F → Type 0 where
  no_tree : ((d : Data) → ¬ HasTree bytes d) → Fails not_json first_fault bytes not_json
  in_tree : (d : Data) (fault : F) → HasTree bytes d → first_fault d ≡ Some fault
      → Fails not_json first_fault bytes fault

-- ---- trees that are read

-- the names of members
abbrev pub keys : Members → List (List ℕ)
keys no_members = []
keys (member key value members) = key ∷ keys members

-- what holds of each object of a tree, its members set aside
pub record IsTidyObject (members : Members) : Type 0 where
  pub ascending : IsStrictlySortedBy text_cmp (keys members)
  pub texts : AllByRecursion IsUtf8 (keys members)

abbrev mutual
  pub IsTidy : Data → Type 0
  IsTidy null = ⊤
  IsTidy (boolean truth) = ⊤
  IsTidy (number n) = ⊤
  IsTidy (string text) = IsUtf8 text
  IsTidy (array items) = AreTidyItems items
  IsTidy (object members) = IsTidyObject members × AreTidyMembers members

  pub AreTidyItems : Items → Type 0
  AreTidyItems no_items = ⊤
  AreTidyItems (item value items) = IsTidy value × AreTidyItems items

  pub AreTidyMembers : Members → Type 0
  AreTidyMembers no_members = ⊤
  AreTidyMembers (member key value members) = IsTidy value × AreTidyMembers members
