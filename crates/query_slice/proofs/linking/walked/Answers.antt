use Rattle.std.proofs.Common.{◌<◌, ◌≤◌, ◌++◌, ◌∷◌, [], ℕ, List, Option, length, map, take, get_or, sym, ap, subst, ◌∙◌, arith}
use Rattle.std.specs.List.{range_with_len}
use Rattle.std.proofs.lemmas.List.{map-append, take_all, take_more}
use Rattle.std.proofs.lemmas.List.Elements.{All-get_or}
use Rattle.bv_dag.specs.Graphs.{IsDag}
use Rattle.bv_dag.proofs.Fitting.{some_at}
use Rattle.query_pick.specs.Cones.{HasOperands, IsCone, IsUnder}
use Rattle.query_pick.specs.Operands.{operands}
use Rattle.query_slice.specs.Classes.{first_under, joined_all}
use Rattle.query_slice.proofs.Walked.{IsWalked, walked_end, walked_first, walked_more}
use Rattle.query_slice.proofs.linking.walked.Goals as goal

pub loop-id-init : goal.loop-id-init
loop-id-init g c = (
  (λ none. absurd (omega (arith, none))),
  c.in_ok-firsts.ensures.items,
  (λ tops cone. walked_first (record { graph = g.T.Table.graph c.args.terms.now; asserted = tops }) c.new-classes.result
      (c.new-classes.ensures ∙ ap (range_with_len 0) c.inputs.ensures)),
)

pub join_operands-requires-clause-operands : goal.join_operands-requires-clause-operands
join_operands-requires-clause-operands g c =
    let graph = g.T.Table.graph c.args.terms.now in
    let i = c.loop-id.id-index in
    let listed = c.deref-id-items.ensures.value in
    subst (λ (ps : List ℕ). HasOperands graph ps (get_or c.deref-id-items.result.now i 0)) (sym c.deref.ensures.value)
    (subst (λ (ps : List ℕ). HasOperands graph c.args.places.items (get_or ps i 0)) (sym listed)
    (All-get_or (HasOperands graph c.args.places.items) c.args.places.items i 0 (subst (λ (ps : List ℕ). i < length ps) listed c.loop-id-test.true) c.requires.1.operands_in))

pub loop-id-preserved : goal.loop-id-preserved
loop-id-preserved g c =
    let graph = g.T.Table.graph c.args.terms.now in
    let i = c.loop-id.id-index in
    let places = c.deref-id-items.result.now in
    let id : ℕ = get_or places i 0 in
    let made = c.join_operands in
    let first = c.in_ok-first in (
      (λ some. made.ensures.fit),
      c.in_ok-push.ensures.items
          ∙ ap (λ (fs : List (Option ℕ)). fs ++ first.first ∷ []) c.loop-id.invariant.1
          ∙ ap (λ (o : Option ℕ). map (first_under graph) (take i places) ++ o ∷ []) first.ensures.first
          ∙ sym (map-append (first_under graph) (take i places) (id ∷ []))
          ∙ ap (map (first_under graph)) (sym (take_more places i 0 c.loop-id-test.true)),
      (λ tops cone.
          let node = some_at graph.nodes id (All-get_or (λ k. k < length graph.nodes) places i 0 c.loop-id-test.true cone.there) in
          subst (IsWalked (record { graph = graph; asserted = tops }) made.new.classes) (sym (take_more places i 0 c.loop-id-test.true))
          (walked_more (record { graph = graph; asserted = tops }) made.ensures.fit c.loop-id.classes made.new.classes (take i places) id node.0 node.1
          (All-get_or (IsUnder graph tops) places i 0 c.loop-id-test.true cone.under)
          (first.ensures.classes node.0 node.1 ∙ ap (λ (o : Option ℕ). joined_all graph o c.loop-id.classes (operands node.0)) first.ensures.first)
          (c.loop-id.invariant.2 tops cone))),
    )

pub returns : goal.returns
returns g c tops cone =
    let graph = g.T.Table.graph c.args.terms.now in
    let listed = c.deref-id-items.ensures.value in
    let past : length c.deref-id-items.result.now ≤ c.loop-id.id-index = omega (arith, c.loop-id-test.false) in
    let all = take_all c.loop-id.id-index c.deref-id-items.result.now past ∙ listed in
    let fit : (0 < length c.args.places.items → IsDag graph) = λ some. c.loop-id.invariant.0 (omega (arith, some, past, ap (λ (ps : List ℕ). length ps) listed)) in
    record {
      cone = cone;
      fit = fit;
      each = c.loop-id.invariant.1 ∙ ap (map (first_under graph)) all;
      classes =
          walked_end (record { graph = graph; asserted = tops }) c.loop-id.classes c.args.places.items fit cone
          (subst (IsWalked (record { graph = graph; asserted = tops }) c.loop-id.classes) all (c.loop-id.invariant.2 tops (subst (IsCone graph tops) (sym listed) cone)));
    }
