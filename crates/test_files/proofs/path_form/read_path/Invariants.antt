use Rattle.std.proofs.Common.{◌≡◌, ◌++◌, length, option_map}
use Rattle.test_files.specs.Forms.{path_of}
use Rattle.test_files.proofs.path_form.read_path.Given as goal

abbrev pub invariant-loop-rest : goal.invariant-loop-rest
invariant-loop-rest l = path_of l.fn.text ≡ option_map (λ later. l.path.items ++ later) (path_of l.rest)

abbrev pub decreases-loop-rest : goal.decreases-loop-rest
decreases-loop-rest l = length l.rest
