use Rattle.std.proofs.Common.{true, ap, ◌∙◌}
use Rattle.term_simplify.specs.Plain.{further}
use Rattle.term_simplify.proofs.Building.{room_for_signs, room_for_zeros}
use Rattle.term_simplify.proofs.builder.Builder.followed.Goals as goal

pub further-requires-clause-room : goal.further-requires-clause-room
further-requires-clause-room c = room_for_signs c.stand.new.self c.in_ok-core.core c.args.recipe.above.signs c.args.recipe.above.zeros _ c.in_ok-core.ensures.tree c.requires.room

pub further-requires-2-clause-room : goal.further-requires-2-clause-room
further-requires-2-clause-room c =
    room_for_zeros c.further.new.self c.in_ok-signed.signed c.args.recipe.above.signs c.args.recipe.above.zeros _
    (c.in_ok-signed.ensures.tree ∙ ap (further c.args.recipe.above.signs true) c.in_ok-core.ensures.tree) c.requires.room
