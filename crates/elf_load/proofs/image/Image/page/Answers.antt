use Rattle.std.proofs.Common.{◌≡◌, Option, Some, None, is_some, option_copied, Bor, refl, sym, ap, ◌∙◌}
use Rattle.elf_load.specs.declared.page.Page.{Page}
use Rattle.std.specs.FinMap as map
use Rattle.elf_load.specs.Images.{Image}
use Rattle.elf_load.proofs.Finding.{found_at}
use Rattle.elf_load.proofs.image.Image.page.Goals as goal

same_presence : (found : Option (Bor Page)) → is_some found ≡ is_some (option_copied found)
same_presence None = refl
same_presence (Some p) = refl

pub returns-clause-value : goal.returns-clause-value
returns-clause-value c = c.get.ensures.value ∙ sym (found_at c.self.inside.pages c.args.number) ∙ ap (λ (i : Image). map.get i.pages c.args.number) c.self.view_is

pub returns-clause-mapped : goal.returns-clause-mapped
returns-clause-mapped c = same_presence c.get.result ∙ ap is_some (c.get.ensures.value ∙ sym (found_at c.self.inside.pages c.args.number) ∙ ap (λ (i : Image). map.get i.pages c.args.number) c.self.view_is)
