use Rattle.std.proofs.Common.{◌≡◌, ℕ, List, true, false, get_or, sym, ap, subst, ◌∙◌}
use Rattle.std.specs.Prelude.{Contains}
use Rattle.std.proofs.lemmas.List.Elements.{Contains-get_or}
use Rattle.query_cache.specs.Fingerprints.{prints_of}
use Rattle.query_cache.proofs.Filtering.{prints_among}
use Rattle.query_cache.proofs.fingerprinted.Fingerprinted.may_ask_no_more.Goals as goal

pub returns-then-not-has_print : goal.returns-then-not-has_print
returns-then-not-has_print c denied asks =
    let print = get_or c.deref-print-items.result.now c.loop-print.print-index 0 in
    let items : c.deref-print-items.result.now ≡ prints_of c.args.self.now = c.deref-print-items.ensures.value ∙ c.self.invariant.each ∙ ap prints_of c.self.view_is in
    let there : Contains (prints_of c.args.self.now) print =
    subst (λ (ps : List ℕ). Contains ps print) items (Contains-get_or c.deref-print-items.result.now c.loop-print.print-index 0 c.loop-print-test.true) in
    let both : true ≡ false = sym (c.has_print.ensures.1 (prints_among c.args.self.now c.args.other.now print asks there)) ∙ c.if-not-has_print.true in cc
