use Rattle.std.proofs.Common.{◌≡◌, None, replicate, length, rules}
use Rattle.std.proofs.lemmas.List.{length-replicate}
use Rattle.cdcl_core.proofs.Marks.{none_kept}
use Rattle.cdcl_core.proofs.trail.Trail.new.Goals as goal

pub invariant_of-result : goal.invariant_of-result
invariant_of-result c =
    let none : c.in_ok-vec.field-0.items ≡ replicate c.args.size None = search rules in
    let size : length c.in_ok-vec-2.field-0.items ≡ c.args.size = search (rules, length-replicate) in
    none_kept c.args.size c.in_ok-vec.field-0.items c.in_ok-vec-2.field-0.items c.new.result.items none size c.new.ensures.items
