use Rattle.std.proofs.Common.{sym, ◌∙◌}
use Rattle.term_table.proofs.Keeping.{get_or-kept_widths_past}
use Rattle.term_table.proofs.entry.width_at.Goals as goal

pub returns-in-None : goal.returns-in-None
returns-in-None c = sym (get_or-kept_widths_past c.args.entries.now c.args.id (sym c.get.ensures ∙ c.in-None.is))
