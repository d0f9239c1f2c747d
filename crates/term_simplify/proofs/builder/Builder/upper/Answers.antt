use Rattle.std.proofs.Common.{arith, sym, refl, ◌∙◌}
use Rattle.bv_dag.specs.declared.nodes.BinaryOp.TheVariants.{Mul}
use Rattle.term_simplify.proofs.Stepping.{as_upper, Stands-itself, Stands-kept, Stands-grown, if_ok, extract_step, extend_step, binary_step, term_before, on_ok}
use Rattle.term_simplify.proofs.builder.Builder.upper.Goals as goal

pub step-requires-2 : goal.step-requires-2
step-requires-2 c =
    let later = Stands-grown c.args.b 32 c.step.ensures.continues c.requires.second (omega arith) in
    (omega (arith, later.width), omega arith, omega (arith, later.width))

pub step-requires-3 : goal.step-requires-3
step-requires-3 c =
    let later = Stands-grown c.args.b 32 c.step.ensures.continues c.requires.second (omega arith) in
    let left = Stands-kept c.step-2.ensures.continues (extend_step 32 c.args.first (Stands-itself c.args.self.now c.args.a 32 c.requires.first (omega arith)) c.in_ok-left.ensures.ok) in
    let right = extend_step 32 c.args.second later c.in_ok-right.ensures.ok in
    (omega (arith, left.width), left.width ∙ sym right.width)

pub step-requires-4 : goal.step-requires-4
step-requires-4 c =
    let later = Stands-grown c.args.b 32 c.step.ensures.continues c.requires.second (omega arith) in
    let left = Stands-kept c.step-2.ensures.continues (extend_step 32 c.args.first (Stands-itself c.args.self.now c.args.a 32 c.requires.first (omega arith)) c.in_ok-left.ensures.ok) in
    let right = extend_step 32 c.args.second later c.in_ok-right.ensures.ok in
    let product = binary_step Mul left right c.in_ok-product.ensures.ok in
    (omega arith, omega (arith, product.width))

pub returns-clause-second : goal.returns-clause-second
returns-clause-second c =
    on_ok _ (term_before c.args.b 32 c.step.ensures.continues c.requires.second (omega arith) c.step-2.ensures.term.0)

pub returns-clause-ok : goal.returns-clause-ok
returns-clause-ok c =
    let later = Stands-grown c.args.b 32 c.step.ensures.continues c.requires.second (omega arith) in
    let left = Stands-kept c.step-2.ensures.continues (extend_step 32 c.args.first (Stands-itself c.args.self.now c.args.a 32 c.requires.first (omega arith)) c.in_ok-left.ensures.ok) in
    let right = extend_step 32 c.args.second later c.in_ok-right.ensures.ok in
    let product = binary_step Mul left right c.in_ok-product.ensures.ok in
    if_ok _ _ _ c.step-4.ensures.ok (λ id n. as_upper c.args.first c.args.second _ _ (extract_step 63 32 32 refl product n))
