use Rattle.std.proofs.Common.{rules}
use Rattle.std.proofs.lemmas.List.Elements.{filter_from_retain}
use Rattle.elf_load.specs.Fields.{is_segment}
use Rattle.elf_load.proofs.program_check.keep_segments.Goals as goal

pub returns : goal.returns
returns c = filter_from_retain _ is_segment (λ p x b q h. search rules) _ _ _ c.retain.ensures.filtered
