pub use Rattle.sc_rule_instances.proofs.LiteralLaws
mod NumberLaws
mod PlaceLaws
mod InstanceLaws
mod RulesFree
mod PatternLaws
mod StringsFree
mod TruthLaws
mod CrowdLaws
mod StringsHold
mod ConsistencyLaws
