use Rattle.std.proofs.Common.{◌≡◌, ℕ, List, false}
use Rattle.bv_dag.specs.Queries.{IsUnsatisfiable}
use Rattle.sym_state.specs.Symbolic.{stands_for}
use Rattle.cert_audit.proofs.Asking.{not_tried_ok}
use Rattle.cert_audit.proofs.Showing.{shown_ok}
use Rattle.cert_audit.proofs.proof.is_tried.Goals as goal

pub returns-clause-tried : goal.returns-clause-tried
returns-clause-tried c =
    shown_ok c.is_excluded.result (IsUnsatisfiable c.in_ok-part.part) ((input : List ℕ) → stands_for c.args.run.now input ≡ false) c.is_excluded.ensures.excluded
    c.in_ok-part.ensures.none

pub returns-clause-not_tried : goal.returns-clause-not_tried
returns-clause-not_tried c =
    not_tried_ok c.is_excluded.result c.args.run.now c.args.new c.in_ok-part.part c.in_ok-part.ensures.cut c.is_excluded.ensures.not_excluded
