use Rattle.std.proofs.Common.{◌∙◌, ◌<◌, length, refl, ap, subst, sym, ℕ}
use Rattle.std.specs.Option.{IsSome}
use Rattle.bv_dag.specs.BitVectors.{BitVector}
use Rattle.bv_dag.specs.Graphs.{Graph, width_of}
use Rattle.term_trees.specs.Trees.{tree_of}
use Rattle.term_simplify.specs.Ends.{ends_of}
use Rattle.term_simplify.proofs.Keeping.{ends_here, few_here, kept_at, some_kept}
use Rattle.term_simplify.proofs.known.Known.ends_of.Goals as goal

pub unwrap-kept-requires : goal.unwrap-kept-requires
unwrap-kept-requires c =
    let there = subst (λ (g : Graph). c.args.id < length g.nodes) (sym c.self.view_is) c.requires in
    subst IsSome (sym (c.get.ensures ∙ kept_at c.self.inside.terms c.self.inside.ends c.args.id c.self.invariant there)) refl

pub new-requires : goal.new-requires
new-requires c =
    let g = c.self.inside.terms in
    let there = subst (λ (h : Graph). c.args.id < length h.nodes) (sym c.self.view_is) c.requires in
    let told = some_kept (sym c.unwrap-kept.ensures ∙ c.get.ensures ∙ kept_at g c.self.inside.ends c.args.id c.self.invariant there) in
    record {
      not_empty = c.width_of-width.ensures.not_empty;
      at_most_64 = c.width_of-width.ensures.at_most_64;
      in_range = rw (told, c.width_of-width.ensures.value) (few_here g c.args.id c.self.invariant.dag there).0;
    }

pub new-requires-2 : goal.new-requires-2
new-requires-2 c =
    let g = c.self.inside.terms in
    let there = subst (λ (h : Graph). c.args.id < length h.nodes) (sym c.self.view_is) c.requires in
    let told = some_kept (sym c.unwrap-kept.ensures ∙ c.get.ensures ∙ kept_at g c.self.inside.ends c.args.id c.self.invariant there) in
    record {
      not_empty = c.width_of-width.ensures.not_empty;
      at_most_64 = c.width_of-width.ensures.at_most_64;
      in_range = rw (told, c.width_of-width.ensures.value) (few_here g c.args.id c.self.invariant.dag there).1;
    }

pub returns-clause-is : goal.returns-clause-is
returns-clause-is c =
    let g = c.self.inside.terms in
    let there = subst (λ (h : Graph). c.args.id < length h.nodes) (sym c.self.view_is) c.requires in
    let told = some_kept (sym c.unwrap-kept.ensures ∙ c.get.ensures ∙ kept_at g c.self.inside.ends c.args.id c.self.invariant there) in
    let word = λ (n : ℕ). ap {B = BitVector} (λ w. record { width = w; number = n }) c.width_of-width.ensures.value in
    ends_here g c.args.id c.self.invariant.dag there c.new.result c.new-2.result c.unwrap-kept.result
    (c.new.ensures ∙ word c.unwrap-kept.result.least) (c.new-2.ensures ∙ word c.unwrap-kept.result.greatest) told
    ∙ ap (λ (h : Graph). ends_of (tree_of h c.args.id)) c.self.view_is

pub returns-clause-wide : goal.returns-clause-wide
returns-clause-wide c = record {
  least = ap (λ (v : BitVector). v.width) c.new.ensures ∙ c.width_of-width.ensures.value ∙ ap (λ (h : Graph). width_of h c.args.id) c.self.view_is;
  greatest = ap (λ (v : BitVector). v.width) c.new-2.ensures ∙ c.width_of-width.ensures.value ∙ ap (λ (h : Graph). width_of h c.args.id) c.self.view_is;
}
