-- Which bytes spell which world, and which fault they have.
use Rattle.std.specs.Prelude.{◌≡◌, ◌⊎◌, ◌≤◌, ℕ, List, IsTrue, ⊤}
use Rattle.serde_json.specs.Data.{depth}
use Rattle.serde_json.specs.Read.{max_depth}
use Rattle.sc_json.specs.Trees.{Says, Fails}
use Rattle.sc_lists.specs.declared.fault.Fault.{Fault}
use Rattle.sc_lists.specs.declared.fault.Fault.TheVariants.{Told, NoMemory}
use Rattle.sc_world.specs.declared.world.World.{World}
use Rattle.sc_world.specs.WellFormed.{IsProperWorld}
use Rattle.sc_world_json.specs.declared.fault.WorldFault.{WorldFault}
use Rattle.sc_world_json.specs.declared.fault.WorldFault.TheVariants.{NotJson}
use Rattle.sc_world_json.specs.Faults.{first_fault}
use Rattle.sc_world_json.specs.PlainKeys.{plain_keys}
use Rattle.sc_world_json.specs.Text.{world_data}
use Rattle.sc_world_json.specs.Worlds.{world_of}

-- the bytes spell a world: their tree has no fault, and says it
abbrev pub SpellsWorld : List ℕ → World → Type 0
SpellsWorld = Says first_fault world_of

-- the bytes have a fault: they are the text of no tree, or their tree has it first
abbrev pub HasFault : List ℕ → WorldFault → Type 0
HasFault = Fails NotJson first_fault

-- what it says of bytes that they were refused with this fault
abbrev pub RefusesWorld : List ℕ → Fault WorldFault → Type 0
RefusesWorld bytes (Told fault) = HasFault bytes fault
RefusesWorld bytes NoMemory = ⊤

-- bytes spell just one world or have just one fault, and not both
pub record IsSettled (bytes : List ℕ) : Type 0 where
  pub one_world : (v w : World) → SpellsWorld bytes v → SpellsWorld bytes w → v ≡ w
  pub one_fault : (a b : WorldFault) → HasFault bytes a → HasFault bytes b → a ≡ b
  pub not_both : (w : World) (a : WorldFault) → SpellsWorld bytes w → ¬ HasFault bytes a
  pub either : ((w : World) × SpellsWorld bytes w) ⊎ ((fault : WorldFault) × HasFault bytes fault)

-- a world that is made of values, whose records have plain keys, and whose JSON nests no deeper than what is read
pub record IsReadable (w : World) : Type 0 where
  pub proper : IsProperWorld w
  pub plain : IsTrue (plain_keys w)
  pub nests : depth (world_data w) ≤ max_depth
