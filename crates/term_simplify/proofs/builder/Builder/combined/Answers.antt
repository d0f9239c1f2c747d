use Rattle.std.proofs.Common.{refl}
use Rattle.bv_dag.specs.BitVectors.{bvadd, bvsub, bvmul, bvand, bvor, bvxor}
use Rattle.bv_dag.specs.declared.nodes.BinaryOp.TheVariants.{Shl, Lshr, Ashr}
use Rattle.rv_decode.specs.declared.ops.RegisterOp.TheVariants.{Add, Sub, Sll, Xor, Srl, Sra, Or, And, Mul}
use Rattle.term_simplify.specs.Steps.{shift_word}
use Rattle.term_simplify.proofs.MachineBuilds.{register_builds}
use Rattle.term_simplify.proofs.OperationNumbers.{add_number, sub_number, xor_number, or_number, and_number, mul_number, left_number, right_number, right_signed_number}
use Rattle.term_simplify.proofs.Stepping.{if_ok}
use Rattle.term_simplify.proofs.builder.Builder.combined.Goals as goal

pub returns-in-Add-clause-ok : goal.returns-in-Add-clause-ok
returns-in-Add-clause-ok c =
    rw c.in-Add.is (if_ok _ _ _ c.add.ensures.ok (λ id n. register_builds Add c.args.a c.args.b
    bvadd add_number c.requires.first c.requires.second c.requires.first n))

pub returns-in-Sub-clause-ok : goal.returns-in-Sub-clause-ok
returns-in-Sub-clause-ok c =
    rw c.in-Sub.is (if_ok _ _ _ c.sub.ensures.ok (λ id n. register_builds Sub c.args.a c.args.b
    bvsub sub_number c.requires.first c.requires.second c.requires.first n))

pub returns-in-Xor-clause-ok : goal.returns-in-Xor-clause-ok
returns-in-Xor-clause-ok c =
    rw c.in-Xor.is (if_ok _ _ _ c.xor.ensures.ok (λ id n. register_builds Xor c.args.a c.args.b
    bvxor xor_number c.requires.first c.requires.second c.requires.first n))

pub returns-in-Or-clause-ok : goal.returns-in-Or-clause-ok
returns-in-Or-clause-ok c =
    rw c.in-Or.is (if_ok _ _ _ c.or.ensures.ok (λ id n. register_builds Or c.args.a c.args.b
    bvor or_number c.requires.first c.requires.second c.requires.first n))

pub returns-in-And-clause-ok : goal.returns-in-And-clause-ok
returns-in-And-clause-ok c =
    rw c.in-And.is (if_ok _ _ _ c.and.ensures.ok (λ id n. register_builds And c.args.a c.args.b
    bvand and_number c.requires.first c.requires.second c.requires.first n))

pub returns-in-Mul-clause-ok : goal.returns-in-Mul-clause-ok
returns-in-Mul-clause-ok c =
    rw c.in-Mul.is (if_ok _ _ _ c.mul.ensures.ok (λ id n. register_builds Mul c.args.a c.args.b
    bvmul mul_number c.requires.first c.requires.second c.requires.first n))

pub returns-in-Sll-clause-ok : goal.returns-in-Sll-clause-ok
returns-in-Sll-clause-ok c =
    rw c.in-Sll.is (if_ok _ _ _ c.shift.ensures.ok (λ id n. register_builds Sll c.args.a
    c.args.b (shift_word Shl) left_number c.requires.first c.requires.second refl n))

pub returns-in-Srl-clause-ok : goal.returns-in-Srl-clause-ok
returns-in-Srl-clause-ok c =
    rw c.in-Srl.is (if_ok _ _ _ c.shift-in-Srl.ensures.ok (λ id n. register_builds Srl c.args.a
    c.args.b (shift_word Lshr) right_number c.requires.first c.requires.second refl n))

pub returns-in-Sra-clause-ok : goal.returns-in-Sra-clause-ok
returns-in-Sra-clause-ok c =
    rw c.in-Sra.is (if_ok _ _ _ c.shift-in-Sra.ensures.ok (λ id n. register_builds Sra c.args.a
    c.args.b (shift_word Ashr) right_signed_number c.requires.first c.requires.second refl n))
