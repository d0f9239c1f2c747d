use Rattle.std.proofs.Common.{arith, ap}
use Rattle.bv_dag.specs.BitVectors.{BitVector}
use Rattle.term_simplify.proofs.ExtensionPlans.{extension_plain, extension_number, inner_sum, inner_fits, extension_stays, extension_of_zeros, extension_of_signs}
use Rattle.term_simplify.proofs.Reading.{Makes-same, has_term, width_at}
use Rattle.term_simplify.proofs.extensions.extension.Goals as goal
use Rattle.term_simplify.proofs.extensions.extension.Goals.{else-fill-via-then-fill+else-not-signed, else-fill-via-else-fill}

pub node-requires : goal.node-requires
node-requires c = has_term c.args.terms.now c.args.id c.requires.0

pub new-requires : goal.new-requires
new-requires c = c.node.ensures.fit.all_fit c.args.id _ c.in-Num.ensures.is

pub extended-requires : goal.extended-requires
extended-requires c =
    omega (
      arith,
      c.requires.2,
      width_at c.args.terms.now c.args.id _ c.node.ensures.fit
          c.in-Num.ensures.is,
      ap (λ (x : BitVector). x.width) c.new.ensures,
    )

pub overflow_add-result : goal.overflow_add-result
overflow_add-result c = omega (
  arith,
  inner_sum c.args.terms.now c.args.id c.args.by c.args.signed
      c.node.ensures.fit _ _ _ c.in-Extend.ensures.is c.requires,
)

pub returns-in-Num-clause-makes : goal.returns-in-Num-clause-makes
returns-in-Num-clause-makes c =
    Makes-same c.args.terms.now _ _ _ (c.number.ensures c.args.terms.now)
    (extension_number c.args.terms.now c.args.id c.args.by c.args.signed c.node.ensures.fit _ _
    c.new.result c.extended.result c.in-Num.ensures.is c.new.ensures c.extended.ensures)

pub returns-then-not-signed-clause-makes : goal.returns-then-not-signed-clause-makes
returns-then-not-signed-clause-makes c = record {
  is = extension_stays c.args.terms.now c.args.id
      c.args.by c.args.signed c.node.ensures.fit _ _ _ c.in-Extend.ensures.is c.if-fill.true
      c.if-not-signed.true;
  fits = c.requires;
}

pub returns-else-fill-clause-makes : goal.returns-else-fill-clause-makes
returns-else-fill-clause-makes c = record {
  is =
      elim c.else-fill.branch [
        | else-fill-via-then-fill+else-not-signed w ↦ extension_of_signs c.args.terms.now c.args.id
            c.args.by c.args.signed c.node.ensures.fit _ _ _ c.in-Extend.ensures.is w.if-fill.true
            w.if-not-signed.false
        | else-fill-via-else-fill w ↦ extension_of_zeros c.args.terms.now c.args.id c.args.by
            c.args.signed c.node.ensures.fit _ _ _ c.in-Extend.ensures.is w.if-fill.false
      ];
  fits = inner_fits c.args.terms.now c.args.id c.args.by c.args.signed c.node.ensures.fit _ _ _ c.in-Extend.ensures.is c.requires;
}

pub returns-in_default-clause-makes : goal.returns-in_default-clause-makes
returns-in_default-clause-makes c = record {
  is = extension_plain c.args.terms.now c.args.id
      c.args.by c.args.signed c.node.ensures.fit c.node.result c.node.ensures.is c.in_default.not-Num
      c.in_default.not-Extend;
  fits = c.requires;
}
