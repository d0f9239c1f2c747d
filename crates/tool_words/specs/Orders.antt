-- The order of claims, as the words name it.
use Rattle.std.specs.Prelude.{ℕ, List, Option, None, Some, if◌then◌else◌, codes}
use Rattle.std.specs.Str.{bytes_eq}
use Rattle.clap.specs.Words.{Row, first_of}
use Rattle.tree_core.specs.declared.order.Order.{Order}
use Rattle.tree_core.specs.declared.order.Order.TheVariants.{Deepest, Oldest, Mixed}

-- the order where no option says another
abbrev pub default_order : Order
default_order = Deepest

-- the order that a text names
unfoldable pub order_said : List ℕ → Option Order
order_said text =
    if bytes_eq text (codes "deepest") then Some Deepest else
    if bytes_eq text (codes "oldest") then Some Oldest else
    if bytes_eq text (codes "mixed") then Some Mixed else None

-- the order of the option with this value, and the default where the option isn't given
abbrev pub order_given : Option (List ℕ) → Option Order
order_given None = Some default_order
order_given (Some value) = order_said value

-- --order, from what `clap` finds
abbrev pub order_found : List Row → Option Order
order_found rows = order_given (first_of (codes "order") rows)
