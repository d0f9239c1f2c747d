use Rattle.std.proofs.Common.{take}
use Rattle.sym_state.specs.Moves.{IsGrown}
use Rattle.run_leaves.specs.Leaving.{AreTermsOfBytes}
use Rattle.run_leaves.proofs.leaf.output_terms.Given as goal

-- the terms of the bytes so far
abbrev pub invariant-loop-byte : goal.invariant-loop-byte
invariant-loop-byte l = record {
  grown : IsGrown l.fn.state l.state;
  terms : AreTermsOfBytes l.fn.state.terms (take l.byte-index l.byte-items) l.state.terms l.ids.items;
}
