use Rattle.std.proofs.Common.{◌≡◌, ◌-◌, ℕ, List, true, false, length, sym, ap, subst, ◌∙◌}
use Rattle.std.specs.Prelude.{Contains}
use Rattle.query_cache.specs.Fingerprints.{prints_of}
use Rattle.query_cache.proofs.Filtering.{Contains-slice_get, prints_among}
use Rattle.query_cache.proofs.fingerprinted.Fingerprinted.may_have_last.Goals as goal

pub returns-in-Some : goal.returns-in-Some
returns-in-Some c denied asks =
    let last = c.in-Some.last.now in
    let items : c.deref.result.now ≡ prints_of c.args.self.now = c.deref.ensures.value ∙ c.self.invariant.each ∙ ap prints_of c.self.view_is in
    let there : Contains (prints_of c.args.self.now) last =
    subst (λ (ps : List ℕ). Contains ps last) items (Contains-slice_get c.deref.result.now (length c.deref.result.now - 1) last (sym c.in-Some.ensures.value)) in
    let both : true ≡ false = sym (c.has_print.ensures.1 (prints_among c.args.self.now c.args.other.now last asks there)) ∙ denied in cc
