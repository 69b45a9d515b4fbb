-- Bytes spell just one world or have just one fault, and not both.
use Rattle.std.proofs.Common.{ℕ, List}
use Rattle.sc_json.proofs.TreesLaws.{one_value, one_fault, not_both, either}
use Rattle.sc_world_json.specs.declared.fault.WorldFault.TheVariants.{NotJson}
use Rattle.sc_world_json.specs.Faults.{first_fault}
use Rattle.sc_world_json.specs.Worlds.{world_of}
use Rattle.sc_world_json.specs.Reading.{IsSettled}

pub settled : (bytes : List ℕ) → IsSettled bytes
settled bytes =
    record {
      one_world = one_value first_fault world_of bytes;
      one_fault = one_fault NotJson first_fault bytes;
      not_both = not_both NotJson first_fault world_of bytes;
      either = either NotJson first_fault world_of bytes;
    }
