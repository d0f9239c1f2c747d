use Rattle.std.proofs.Common.{◌≡◌, ◌++◌, string_bytes, take}
use Rattle.std.specs.Prelude.{All}
use Rattle.std.specs.List.{flat_map}
use Rattle.cnf_form.specs.Literals.{Literal}
use Rattle.fork_spec.specs.Leaves.{IsSmall}
use Rattle.spent_text.specs.LearntLine.{literal_text}
use Rattle.spent_text.proofs.clause.write_literals.Given as goal

abbrev pub invariant-loop-literal : goal.invariant-loop-literal
invariant-loop-literal l = record {
  written : string_bytes l.text ≡ string_bytes l.fn.text ++ flat_map literal_text (take l.literal-index l.literals);
  small : All (λ (k : Literal). IsSmall k.variable) (take l.literal-index l.literals);
}
