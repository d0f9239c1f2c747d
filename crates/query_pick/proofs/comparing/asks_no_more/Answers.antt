use Rattle.std.proofs.Common.{◌≡◌, ◌↔◌, ℕ, List, arith, get_or, map, sym, ap, subst, ◌∙◌}
use Rattle.std.specs.Prelude.{IsTrue}
use Rattle.bv_dag.specs.Graphs.{Graph}
use Rattle.query_pick.specs.Shapes.{AreAmong, AreNumbered}
use Rattle.query_pick.proofs.OneShape.{asks_is_among, bits_there}
use Rattle.query_pick.proofs.comparing.asks_no_more.Goals as goal

pub numbers_at-requires : goal.numbers_at-requires
numbers_at-requires c =
    let g = c.args.less.now.graph in
    let first = subst (λ (h : Graph). AreNumbered c.new-shapes.result c.numbers.new.self h c.in_ok-of_less.of_less.items) c.dag.ensures c.in_ok-of_less.ensures.numbered in
    let each = bits_there c.args.less.now c.asserted.ensures.bits in
    rw (c.asserted.ensures.value, c.deref.ensures.value) (λ k d l. omega (arith, each k d l, first.long))

pub numbers_at-requires-2 : goal.numbers_at-requires-2
numbers_at-requires-2 c =
    let second = subst (λ (h : Graph). AreNumbered c.numbers.new.self c.numbers-2.new.self h c.in_ok-of_more.of_more.items) c.dag-2.ensures c.in_ok-of_more.ensures.numbered in
    let each = bits_there c.args.more.now c.asserted-2.ensures.bits in
    rw (c.asserted-2.ensures.value, c.deref-2.ensures.value) (λ k d l. omega (arith, each k d l, second.long))

pub returns : goal.returns
returns c =
    let less = c.args.less.now in
    let more = c.args.more.now in
    let of_less = c.in_ok-of_less.of_less.items in
    let of_more = c.in_ok-of_more.of_more.items in
    let first = subst (λ (h : Graph). AreNumbered c.new-shapes.result c.numbers.new.self h of_less) c.dag.ensures c.in_ok-of_less.ensures.numbered in
    let second = subst (λ (h : Graph). AreNumbered c.numbers.new.self c.numbers-2.new.self h of_more) c.dag-2.ensures c.in_ok-of_more.ensures.numbered in
    let inputs : less.graph.inputs ≡ more.graph.inputs = sym c.inputs.ensures ∙ c.if-inputs.false ∙ c.inputs-2.ensures in
    let is_among = asks_is_among less more c.new-shapes.result c.numbers.new.self c.numbers-2.new.self of_less of_more inputs c.asserted.ensures.bits c.asserted-2.ensures.bits first second c.in_ok-of_more.ensures.shapes in
    let some_are : c.deref-3.result.now ≡ map (λ id. get_or of_less id 0) less.asserted =
    c.deref-3.ensures.value ∙ c.in_ok-some.ensures
    ∙ ap (λ (ns : List ℕ). map (λ id. get_or ns id 0) c.asserted.result.now) c.deref.ensures.value
    ∙ ap (map (λ id. get_or of_less id 0)) c.asserted.ensures.value in
    let others_are : c.deref-4.result.now ≡ map (λ id. get_or of_more id 0) more.asserted =
    c.deref-4.ensures.value ∙ c.in_ok-others.ensures
    ∙ ap (λ (ns : List ℕ). map (λ id. get_or ns id 0) c.asserted-2.result.now) c.deref-2.ensures.value
    ∙ ap (map (λ id. get_or of_more id 0)) c.asserted-2.ensures.value in
    let tells : IsTrue c.are_among.result ↔ AreAmong (map (λ id. get_or of_less id 0) less.asserted) (map (λ id. get_or of_more id 0) more.asserted) =
    subst (λ (ks : List ℕ). IsTrue c.are_among.result ↔ AreAmong ks (map (λ id. get_or of_more id 0) more.asserted)) some_are
    (subst (λ (ks : List ℕ). IsTrue c.are_among.result ↔ AreAmong c.deref-3.result.now ks) others_are c.are_among.ensures) in
    (λ yes. is_among.0 (tells.0 yes), λ asks. tells.1 (is_among.1 asks))
