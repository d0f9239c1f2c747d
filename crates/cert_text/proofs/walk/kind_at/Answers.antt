use Rattle.std.proofs.Common.{◌∙◌, ℕ, List, ap, option_map}
use Rattle.cert_text.specs.declared.kind.LineKind.{LineKind}
use Rattle.cert_text.proofs.walk.kind_at.Goals as goal

pub returns-in_err-kind : goal.returns-in_err-kind
returns-in_err-kind c = c.from_residual.ensures ∙ ap (option_map (λ (p : LineKind × List ℕ). p.0)) c.in_err-kind.ensures

pub returns : goal.returns
returns c = ap (option_map (λ (p : LineKind × List ℕ). p.0)) c.in_ok-kind.ensures
