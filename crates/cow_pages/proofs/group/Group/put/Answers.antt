use Rattle.std.proofs.Common.{Some, set, ap, ◌∙◌}
use Rattle.std.specs.Arc.{arc_value}
use Rattle.cow_pages.specs.Groups.{Places}
use Rattle.cow_pages.proofs.SharedPlaces.{shared_places-set}
use Rattle.cow_pages.proofs.group.Group.put.Goals as goal

pub returns : goal.returns
returns c =
    shared_places-set c.self.inside.pages.items c.args.place (Some c.args.page)
    ∙ ap (λ (ps : Places). set ps c.args.place (Some (arc_value c.args.page))) c.self.view_is
