-- `plan::graph::Graph::first_edge` meets its contract. The sources rise, so those below i stand in front.
use Rattle.std.proofs.Common.{ltb, rules}
use Rattle.std.proofs.lemmas.List.Sorted.{IsPartitionPoint-from_clause, IsPartitionedBy-ltb, IsNonDecreasingBy-from_default}
use Rattle.plan.proofs.Waiting.{sources_rise, parts_at}
use Rattle.plan.proofs.graph.Graph.first_edge.Goals as goal

pub returns : goal.returns
returns c =
    let rises = IsNonDecreasingBy-from_default (λ x. x) c.args.self.sources.now 0 (sources_rise _ _ _ c.args.self.edges) in
    let parted = IsPartitionedBy-ltb (λ x. x) c.args.self.sources.now c.args.i rises in
    let point = IsPartitionPoint-from_clause (λ x. ltb x c.args.i) _ _ c.partition_point.ensures.partitioned parted (λ a r q k. search rules) in
    parts_at _ _ _ c.args.self.edges _ _ c.partition_point.ensures.bound point
