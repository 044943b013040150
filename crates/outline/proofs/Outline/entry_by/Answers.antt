use Rattle.std.proofs.Common.{leb, rules}
use Rattle.std.proofs.lemmas.List.Sorted.{IsPartitionPoint-from_clause}
use Rattle.outline.specs.Outlines.{sealed_entries}
use Rattle.outline.proofs.Rises.{parted, point_some, point_stands}
use Rattle.outline.proofs.Outline.entry_by.Goals as goal

pub overflow_sub-result : goal.overflow_sub-result
overflow_sub-result c =
    let sound = c.args.self.now.sound_before in
    let point = IsPartitionPoint-from_clause (λ e. leb e.number c.args.n) c.sealed_entries.result.now _ c.partition_point.ensures.partitioned (parted _ _ c.args.n c.sealed_entries.ensures sound.rises) (λ a r q k. search rules) in
    point_some (sealed_entries c.args.self.now) _ c.sealed_entries.ensures c.args.self.now.count c.args.n _ sound.leads c.requires _ c.partition_point.ensures.bound point

pub returns : goal.returns
returns c =
    let sound = c.args.self.now.sound_before in
    let point = IsPartitionPoint-from_clause (λ e. leb e.number c.args.n) c.sealed_entries.result.now _ c.partition_point.ensures.partitioned (parted _ _ c.args.n c.sealed_entries.ensures sound.rises) (λ a r q k. search rules) in
    point_stands (sealed_entries c.args.self.now) _ c.sealed_entries.ensures c.args.self.now.count c.args.n _ sound.leads c.requires _ c.partition_point.ensures.bound point
