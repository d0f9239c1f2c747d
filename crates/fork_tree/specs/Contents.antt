-- What nodes hold.
use Rattle.std.specs.Prelude.{Option, List, map}
use Rattle.std.specs.Arc.{arc_value}
use Rattle.tree_core.specs.declared.cause.Cause.{Cause}
use Rattle.tree_core.specs.declared.choice.Choice.{Choice}
use Rattle.tree_core.specs.declared.event.Kid.{Kid}
use Rattle.fork_spec.specs.Partings.{Place}
use Rattle.fork_tree.specs.declared.content.Content.{Content}
use Rattle.fork_tree.specs.declared.content.Content.TheVariants.{Open, Shut}

-- a content has the place of its state or of its leaf
abbrev pub place_in : {S L : Type 0} → (S → Place) → (L → Place) → Content S L → Place
place_in of_state of_leaf (Open a) = of_state (arc_value a)
place_in of_state of_leaf (Shut l) = of_leaf l

-- why a content was cut, if it is a leaf that was
abbrev pub cut_in : {S L : Type 0} → (S → Place) → (L → Place) → Content S L → Option Cause
cut_in of_state of_leaf c = (place_in of_state of_leaf c).cut

-- the choices of kids
abbrev pub choices_in : {R : Type 0} → List (Kid R) → List Choice
choices_in {R} kids = map (λ (kid : Kid R). kid.choice) kids
