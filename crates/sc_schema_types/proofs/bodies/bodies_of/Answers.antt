use Rattle.std.proofs.Common.{ap}
use Rattle.std.specs.BTreeMap.{is_at}
use Rattle.std.specs.Map.{lookup}
use Rattle.std.specs.Option.{option_copied}
use Rattle.sc_names.specs.Uids.{text_cmp}
use Rattle.sc_schema_types.specs.References.{body_among}
use Rattle.sc_schema_types.proofs.BodiesLaws.{more_namespaces, Entries}
use Rattle.sc_schema_types.proofs.bodies.bodies_of.Goals as goal

pub loop-namespace-init : goal.loop-namespace-init
unfolding body_among
loop-namespace-init c = λ q. ap (λ (es : Entries). option_copied (lookup (is_at (text_cmp q)) es)) c.new-bodies.ensures.empty

pub loop-namespace-preserved : goal.loop-namespace-preserved
loop-namespace-preserved c =
    λ q. more_namespaces c.as_slice-namespace-items.result.now c.loop-namespace.namespace-index c.namespace-item.result c.as_slice.result.now q _ _
    c.loop-namespace-test.true c.namespace-item.is c.as_slice.ensures (c.loop-namespace.invariant q) (c.in_ok-put_all.ensures q)
