use Rattle.std.proofs.Common.{◌∙◌, ap, sym, option_map, ℕ, List, Bor}
use Rattle.leaf_reader.proofs.CursorSteps.{named_here, named_on, named_past}
use Rattle.leaf_reader.proofs.cursor.named.Goals as goal

pub returns-in-Some : goal.returns-in-Some
returns-in-Some g c =
    let f : (Bor (List ℕ) × g.row.X.Denot) → (List ℕ × g.row.X.Denot) = λ entry. (entry.0.now, entry.1) in
    let is = sym c.behind.ensures ∙ ap (option_map (λ (r : Bor (List ℕ)). r.now)) c.in-Some.is in
    sym (named_here f c.args.table.now c.loop-entry.entry-index c.args.text.now c.entry-item.result c.in-Some.rest.now c.loop-entry-test.true c.entry-item.is is)
    ∙ c.loop-entry.invariant

pub loop-entry-preserved : goal.loop-entry-preserved
loop-entry-preserved g c =
    let f : (Bor (List ℕ) × g.row.X.Denot) → (List ℕ × g.row.X.Denot) = λ entry. (entry.0.now, entry.1) in
    let is = sym c.behind.ensures ∙ ap (option_map (λ (r : Bor (List ℕ)). r.now)) c.in_default.is in
    sym (named_on f c.args.table.now c.loop-entry.entry-index c.args.text.now c.entry-item.result c.loop-entry-test.true c.entry-item.is is)
    ∙ c.loop-entry.invariant

pub returns : goal.returns
returns g c =
    let f : (Bor (List ℕ) × g.row.X.Denot) → (List ℕ × g.row.X.Denot) = λ entry. (entry.0.now, entry.1) in
    sym (named_past f c.args.table.now c.loop-entry.entry-index c.args.text.now c.loop-entry-test.false)
    ∙ c.loop-entry.invariant
