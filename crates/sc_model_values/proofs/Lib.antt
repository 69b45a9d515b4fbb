pub use Rattle.sc_model_laws.proofs.SortedVals
mod ClauseTruths
mod LiteralTruths
mod ShapeLaws
mod DefinitionTruths
mod PartSorts
mod EqualParts
mod SetParts
mod PlaceParts
mod EntityParts
mod RuleTruths
pub mod WrittenStrings
mod StringTruths
pub mod ConsistentLaws
mod TruthLaws
mod PlaceLaws
mod InsideLaws
mod BitLaws
pub mod AssignedLaws
mod ValueLaws
mod NameLaws
