use Rattle.std.proofs.Common.{◌≡◌, ℕ, List, Option, [], ◌∷◌, ◌++◌, length, take, None, Some, refl, ap}
use Rattle.std.proofs.lemmas.Result.{IfOk-weaker}
use Rattle.bv_dag.specs.Inputs.{inputs_under, node_inputs}
use Rattle.query_pick.specs.Operands.{operands}
use Rattle.query_slice.specs.Classes.{first_of, first_under}
use Rattle.query_slice.proofs.Found.{first_is, one_joined, one_resized, one_there, one_turned, operands_found, three_there, two_combined, two_joined, two_there}
use Rattle.query_slice.proofs.linking.join_operands.Goals as goal

-- the first of the bytes under two operands
abbrev IsFirstOfBoth : (one other first : Option ℕ) → Type 0
IsFirstOfBoth one other first = (under above : List ℕ) → one ≡ first_of under → other ≡ first_of above → first ≡ first_of (under ++ above)

pub first_at-requires-in-Not-clause-there : goal.first_at-requires-in-Not-clause-there
first_at-requires-in-Not-clause-there g c =
    one_there (g.T.Table.graph c.args.terms.now) c.args.id c.node.result c.node.ensures.fit c.node.ensures.is (take (length c.args.firsts.now) c.args.places.now) (operands_found (g.T.Table.graph c.args.terms.now) c.args.places.now (length c.args.firsts.now) c.args.id c.node.ensures.fit c.requires.increasing c.requires.next c.requires.operands) c.in-Not.a [] (one_turned (inputs_under (g.T.Table.graph c.args.terms.now)) c.node.result c.in-Not.a c.in-Not.is).0

pub returns-in-Not-clause-first : goal.returns-in-Not-clause-first
returns-in-Not-clause-first g c =
    first_is (g.T.Table.graph c.args.terms.now) c.args.id c.node.result c.node.ensures.fit c.node.ensures.is (inputs_under (g.T.Table.graph c.args.terms.now) c.in-Not.a) c.first_at-in-Not.result (one_turned (inputs_under (g.T.Table.graph c.args.terms.now)) c.node.result c.in-Not.a c.in-Not.is).1 (c.first_at-in-Not.ensures (g.T.Table.graph c.args.terms.now) c.requires.firsts)

pub returns-in-Not-clause-classes : goal.returns-in-Not-clause-classes
returns-in-Not-clause-classes g c =
    one_joined (g.T.Table.graph c.args.terms.now) c.args.id c.node.result c.node.ensures.fit c.node.ensures.is c.args.classes.now c.first_at-in-Not.result c.in-Not.a (one_turned (inputs_under (g.T.Table.graph c.args.terms.now)) c.node.result c.in-Not.a c.in-Not.is).0 (c.first_at-in-Not.ensures (g.T.Table.graph c.args.terms.now) c.requires.firsts)

pub first_at-requires-in-Extract-clause-there : goal.first_at-requires-in-Extract-clause-there
first_at-requires-in-Extract-clause-there g c =
    one_there (g.T.Table.graph c.args.terms.now) c.args.id c.node.result c.node.ensures.fit c.node.ensures.is (take (length c.args.firsts.now) c.args.places.now) (operands_found (g.T.Table.graph c.args.terms.now) c.args.places.now (length c.args.firsts.now) c.args.id c.node.ensures.fit c.requires.increasing c.requires.next c.requires.operands) c.in-Extract.operand [] (one_resized (inputs_under (g.T.Table.graph c.args.terms.now)) c.node.result c.in-Extract.operand c.in-Extract.is).0

pub returns-in-Extract-clause-first : goal.returns-in-Extract-clause-first
returns-in-Extract-clause-first g c =
    first_is (g.T.Table.graph c.args.terms.now) c.args.id c.node.result c.node.ensures.fit c.node.ensures.is (inputs_under (g.T.Table.graph c.args.terms.now) c.in-Extract.operand) c.first_at-in-Extract.result (one_resized (inputs_under (g.T.Table.graph c.args.terms.now)) c.node.result c.in-Extract.operand c.in-Extract.is).1 (c.first_at-in-Extract.ensures (g.T.Table.graph c.args.terms.now) c.requires.firsts)

pub returns-in-Extract-clause-classes : goal.returns-in-Extract-clause-classes
returns-in-Extract-clause-classes g c =
    one_joined (g.T.Table.graph c.args.terms.now) c.args.id c.node.result c.node.ensures.fit c.node.ensures.is c.args.classes.now c.first_at-in-Extract.result c.in-Extract.operand (one_resized (inputs_under (g.T.Table.graph c.args.terms.now)) c.node.result c.in-Extract.operand c.in-Extract.is).0 (c.first_at-in-Extract.ensures (g.T.Table.graph c.args.terms.now) c.requires.firsts)

pub first_at-one-requires-in-Binary-clause-there : goal.first_at-one-requires-in-Binary-clause-there
first_at-one-requires-in-Binary-clause-there g c =
    one_there (g.T.Table.graph c.args.terms.now) c.args.id c.node.result c.node.ensures.fit c.node.ensures.is (take (length c.args.firsts.now) c.args.places.now) (operands_found (g.T.Table.graph c.args.terms.now) c.args.places.now (length c.args.firsts.now) c.args.id c.node.ensures.fit c.requires.increasing c.requires.next c.requires.operands) c.in-Binary.a (c.in-Binary.b ∷ []) (two_combined (inputs_under (g.T.Table.graph c.args.terms.now)) c.node.result c.in-Binary.a c.in-Binary.b c.in-Binary.is).0

pub first_at-requires-in-Binary-clause-there : goal.first_at-requires-in-Binary-clause-there
first_at-requires-in-Binary-clause-there g c =
    two_there (g.T.Table.graph c.args.terms.now) c.args.id c.node.result c.node.ensures.fit c.node.ensures.is (take (length c.args.firsts.now) c.args.places.now) (operands_found (g.T.Table.graph c.args.terms.now) c.args.places.now (length c.args.firsts.now) c.args.id c.node.ensures.fit c.requires.increasing c.requires.next c.requires.operands) c.in-Binary.a c.in-Binary.b [] (two_combined (inputs_under (g.T.Table.graph c.args.terms.now)) c.node.result c.in-Binary.a c.in-Binary.b c.in-Binary.is).0

pub returns-in-Binary-clause-first : goal.returns-in-Binary-clause-first
returns-in-Binary-clause-first g c =
    let graph = g.T.Table.graph c.args.terms.now in
    let a = inputs_under graph c.in-Binary.a in
    let b = inputs_under graph c.in-Binary.b in
    IfOk-weaker c.join_two-in-Binary.result (IsFirstOfBoth c.first_at-one-in-Binary.result c.first_at-in-Binary.result) (λ first. first ≡ first_under graph c.args.id)
    (λ first is. first_is graph c.args.id c.node.result c.node.ensures.fit c.node.ensures.is (a ++ b) first (two_combined (inputs_under graph) c.node.result c.in-Binary.a c.in-Binary.b c.in-Binary.is).1
    (is a b (c.first_at-one-in-Binary.ensures graph c.requires.firsts) (c.first_at-in-Binary.ensures graph c.requires.firsts)))
    c.join_two-in-Binary.ensures.first

pub first_at-one-requires-clause-there : goal.first_at-one-requires-clause-there
first_at-one-requires-clause-there g c =
    one_there (g.T.Table.graph c.args.terms.now) c.args.id c.node.result c.node.ensures.fit c.node.ensures.is (take (length c.args.firsts.now) c.args.places.now) (operands_found (g.T.Table.graph c.args.terms.now) c.args.places.now (length c.args.firsts.now) c.args.id c.node.ensures.fit c.requires.increasing c.requires.next c.requires.operands) c.in-Concat.high (c.in-Concat.low ∷ []) (two_joined (inputs_under (g.T.Table.graph c.args.terms.now)) c.node.result c.in-Concat.high c.in-Concat.low c.in-Concat.is).0

pub first_at-requires-clause-there : goal.first_at-requires-clause-there
first_at-requires-clause-there g c =
    two_there (g.T.Table.graph c.args.terms.now) c.args.id c.node.result c.node.ensures.fit c.node.ensures.is (take (length c.args.firsts.now) c.args.places.now) (operands_found (g.T.Table.graph c.args.terms.now) c.args.places.now (length c.args.firsts.now) c.args.id c.node.ensures.fit c.requires.increasing c.requires.next c.requires.operands) c.in-Concat.high c.in-Concat.low [] (two_joined (inputs_under (g.T.Table.graph c.args.terms.now)) c.node.result c.in-Concat.high c.in-Concat.low c.in-Concat.is).0

pub returns-in-Concat-clause-first : goal.returns-in-Concat-clause-first
returns-in-Concat-clause-first g c =
    let graph = g.T.Table.graph c.args.terms.now in
    let a = inputs_under graph c.in-Concat.high in
    let b = inputs_under graph c.in-Concat.low in
    IfOk-weaker c.join_two.result (IsFirstOfBoth c.first_at-one.result c.first_at.result) (λ first. first ≡ first_under graph c.args.id)
    (λ first is. first_is graph c.args.id c.node.result c.node.ensures.fit c.node.ensures.is (a ++ b) first (two_joined (inputs_under graph) c.node.result c.in-Concat.high c.in-Concat.low c.in-Concat.is).1
    (is a b (c.first_at-one.ensures graph c.requires.firsts) (c.first_at.ensures graph c.requires.firsts)))
    c.join_two.ensures.first

pub first_at-one-requires-in-Ite-clause-there : goal.first_at-one-requires-in-Ite-clause-there
first_at-one-requires-in-Ite-clause-there g c =
    one_there (g.T.Table.graph c.args.terms.now) c.args.id c.node.result c.node.ensures.fit c.node.ensures.is (take (length c.args.firsts.now) c.args.places.now) (operands_found (g.T.Table.graph c.args.terms.now) c.args.places.now (length c.args.firsts.now) c.args.id c.node.ensures.fit c.requires.increasing c.requires.next c.requires.operands) c.in-Ite.condition (c.in-Ite.yes ∷ c.in-Ite.no ∷ []) (ap operands c.in-Ite.is)

pub first_at-two-requires-clause-there : goal.first_at-two-requires-clause-there
first_at-two-requires-clause-there g c =
    two_there (g.T.Table.graph c.args.terms.now) c.args.id c.node.result c.node.ensures.fit c.node.ensures.is (take (length c.args.firsts.now) c.args.places.now) (operands_found (g.T.Table.graph c.args.terms.now) c.args.places.now (length c.args.firsts.now) c.args.id c.node.ensures.fit c.requires.increasing c.requires.next c.requires.operands) c.in-Ite.condition c.in-Ite.yes (c.in-Ite.no ∷ []) (ap operands c.in-Ite.is)

pub first_at-three-requires-clause-there : goal.first_at-three-requires-clause-there
first_at-three-requires-clause-there g c =
    three_there (g.T.Table.graph c.args.terms.now) c.args.id c.node.result c.node.ensures.fit c.node.ensures.is (take (length c.args.firsts.now) c.args.places.now) (operands_found (g.T.Table.graph c.args.terms.now) c.args.places.now (length c.args.firsts.now) c.args.id c.node.ensures.fit c.requires.increasing c.requires.next c.requires.operands) c.in-Ite.condition c.in-Ite.yes c.in-Ite.no (ap operands c.in-Ite.is)

pub returns-in-Num-clause-first : goal.returns-in-Num-clause-first
returns-in-Num-clause-first g c =
    first_is (g.T.Table.graph c.args.terms.now) c.args.id c.node.result c.node.ensures.fit c.node.ensures.is [] None (ap (node_inputs (inputs_under (g.T.Table.graph c.args.terms.now))) c.in-Num.is) refl

pub returns-in-Input-clause-first : goal.returns-in-Input-clause-first
returns-in-Input-clause-first g c =
    first_is (g.T.Table.graph c.args.terms.now) c.args.id c.node.result c.node.ensures.fit c.node.ensures.is (c.in-Input.place ∷ []) (Some c.in-Input.place) (ap (node_inputs (inputs_under (g.T.Table.graph c.args.terms.now))) c.in-Input.is) refl

pub returns-in_ok-join-in-Ite-3-clause-first : goal.returns-in_ok-join-in-Ite-3-clause-first
returns-in_ok-join-in-Ite-3-clause-first g c =
    let graph = g.T.Table.graph c.args.terms.now in
    let a = inputs_under graph c.in-Ite.condition in
    let b = inputs_under graph c.in-Ite.yes in
    let d = inputs_under graph c.in-Ite.no in
    first_is graph c.args.id c.node.result c.node.ensures.fit c.node.ensures.is (a ++ b ++ d) c.either-first.result (ap (node_inputs (inputs_under graph)) c.in-Ite.is)
    (c.either-first.ensures (a ++ b) d
    (c.either.ensures a b (c.first_at-one-in-Ite.ensures graph c.requires.firsts) (c.first_at-two.ensures graph c.requires.firsts))
    (c.first_at-three.ensures graph c.requires.firsts))
