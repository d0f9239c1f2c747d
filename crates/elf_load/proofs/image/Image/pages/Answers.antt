use Rattle.std.proofs.Common.{sym, ap, ◌∙◌}
use Rattle.std.specs.FinMap as map
use Rattle.elf_load.specs.Images.{Image}
use Rattle.elf_load.proofs.Finding.{entries_kept}
use Rattle.elf_load.proofs.image.Image.pages.Goals as goal

pub returns : goal.returns
returns c = c.iter.ensures.rest ∙ sym (entries_kept c.self.inside.pages c.iter.ensures.ordered) ∙ ap (λ (i : Image). map.entries i.pages) c.self.view_is
