use Rattle.std.proofs.Common.{subst, arith}
use Rattle.bv_dag.specs.Nodes.{Fits, widths_of}
use Rattle.term_simplify.proofs.Reading.{has_term, has_second_term}
use Rattle.bv_dag.proofs.Fitting.{has_place}
use Rattle.term_simplify.proofs.narrowing.narrowing_of.Goals as goal

pub of_negative-requires : goal.of_negative-requires
of_negative-requires c =
    let g = c.args.terms.now in
    has_term g c.in-Neg.a (subst (Fits g.inputs (widths_of g.nodes)) c.in-Neg.is c.requires)

pub of_binary-requires : goal.of_binary-requires
of_binary-requires c =
    let g = c.args.terms.now in
    let fits = subst (Fits g.inputs (widths_of g.nodes)) c.in-Binary.is c.requires in
    record { first = has_term g _ fits.0; second = has_second_term g _ _ fits.0 fits.1 }

pub of_pair-requires : goal.of_pair-requires
of_pair-requires c =
    let g = c.args.terms.now in
    let fits = subst (Fits g.inputs (widths_of g.nodes)) c.in-Compare.is c.requires in
    record { first = has_term g _ fits.0; second = has_second_term g _ _ fits.0 fits.1 }

pub of_choice-requires : goal.of_choice-requires
of_choice-requires c =
    let g = c.args.terms.now in
    let fits = subst (Fits g.inputs (widths_of g.nodes)) c.in-Ite.is c.requires in
    record {
      condition = has_place g.nodes c.in-Ite.condition (omega (arith, fits.0));
      first = has_term g _ fits.1;
      second = has_second_term g _ _ fits.1 fits.2;
    }
