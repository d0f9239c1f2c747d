-- How a run ends whose terms are worth given words.
use Rattle.std.specs.Prelude.{◌≡◌, List, Option, Some, None}
use Rattle.bv_dag.specs.BitVectors.{BitVector}
use Rattle.bv_dag.specs.Nodes.{vector_at}
use Rattle.rv_decode.specs.declared.ends.End.{End}
use Rattle.rv_decode.specs.declared.ends.End.TheVariants.{Exit, Trapped}
use Rattle.fork_spec.specs.declared.end.LeafEnd.{LeafEnd}
use Rattle.fork_spec.specs.declared.end.LeafEnd.TheVariants.{Exits, Traps, Cut}

-- the word of the status, if there is one, is a byte
abbrev pub IsByteEnd : List BitVector → LeafEnd → Type 0
IsByteEnd words (Exits status) = (vector_at words status).width ≡ 8
IsByteEnd words (Traps trap) = Unit {0}
IsByteEnd words (Cut cause) = Unit {0}

-- the end, with the status among the words, and none where it is cut
abbrev pub sample_end : List BitVector → LeafEnd → Option End
sample_end words (Exits status) = Some (Exit (vector_at words status).number)
sample_end words (Traps trap) = Some (Trapped trap)
sample_end words (Cut cause) = None
