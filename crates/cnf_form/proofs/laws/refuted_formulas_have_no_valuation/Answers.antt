use Rattle.cnf_form.proofs.Soundness.{no_valuation}
use Rattle.cnf_form.proofs.laws.refuted_formulas_have_no_valuation.Goals as goal

pub returns : goal.returns
returns c = no_valuation
