use Rattle.std.proofs.Common.{List, sym, subst, ◌∙◌, arith}
use Rattle.std.specs.Prelude.{All}
use Rattle.std.proofs.lemmas.List.{take_all}
use Rattle.std.proofs.lemmas.Grind.{take_at_read}
use Rattle.cow_pages.specs.declared.byte.Byte.{Byte}
use Rattle.cow_pages.specs.declared.byte.Byte.TheVariants.{Number}
use Rattle.sym_state.proofs.Grown.{IsGrown-trans}
use Rattle.sym_state.specs.Values.{IsByte}
use Rattle.sym_state.proofs.Growing.{IsByte-grown}
use Rattle.run_leaves.specs.Leaving.{AreTermsOfBytes}
use Rattle.run_leaves.proofs.Leaving.{grown_none, no_terms, terms-more}
use Rattle.run_leaves.proofs.leaf.output_terms.Goals as goal

pub loop-byte-init : goal.loop-byte-init
loop-byte-init c = record {
  grown = grown_none c.args.state.now c.output.ensures.formed;
  terms = rw c.in_ok-ids.ensures.items (no_terms c.args.state.now.terms);
}

pub byte_term-requires : goal.byte_term-requires
byte_term-requires c =
    let same = c.deref-byte-items.ensures.value ∙ c.in_ok-bytes.ensures ∙ c.output.ensures.value in
    let bytes = subst (λ (bs : List Byte). All (IsByte c.args.state.now.terms) bs) (sym same) c.output.ensures.formed.bytes in
    record { is_byte = IsByte-grown c.args.state.now.terms c.loop-byte.state.terms _ c.loop-byte.invariant.grown.continues (bytes c.loop-byte.byte-index (Number 0) c.loop-byte-test.true) }

pub loop-byte-preserved : goal.loop-byte-preserved
loop-byte-preserved c =
    let same = c.deref-byte-items.ensures.value ∙ c.in_ok-bytes.ensures ∙ c.output.ensures.value in
    let bytes = subst (λ (bs : List Byte). All (IsByte c.args.state.now.terms) bs) (sym same) c.output.ensures.formed.bytes in
    record {
      grown = IsGrown-trans c.args.state.now c.loop-byte.state c.byte_term.new.self c.loop-byte.invariant.grown c.in_ok-byte_term.ensures.ok.grown;
      terms = rw (c.in_ok-push.ensures.items, (take_at_read c.deref-byte-items.result.now c.loop-byte.byte-index (Number 0) c.loop-byte-test.true).1)
          (terms-more c.args.state.now.terms c.loop-byte.state.terms c.byte_term.new.self.terms _ _ c.loop-byte.ids.items c.in_ok-byte_term.field-0
          c.loop-byte.invariant.grown.continues (bytes c.loop-byte.byte-index (Number 0) c.loop-byte-test.true) c.loop-byte.invariant.terms
          c.in_ok-byte_term.ensures.ok.gives);
    }

pub returns-clause-grown : goal.returns-clause-grown
returns-clause-grown c = c.loop-byte.invariant.grown

pub returns-clause-terms : goal.returns-clause-terms
returns-clause-terms c =
    subst (λ (bs : List Byte). AreTermsOfBytes c.args.state.now.terms bs c.loop-byte.state.terms c.loop-byte.ids.items)
    (take_all c.loop-byte.byte-index c.deref-byte-items.result.now (omega (arith, c.loop-byte-test.false))
    ∙ c.deref-byte-items.ensures.value ∙ c.in_ok-bytes.ensures ∙ c.output.ensures.value)
    c.loop-byte.invariant.terms
