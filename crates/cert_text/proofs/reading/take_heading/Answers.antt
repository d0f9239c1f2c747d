use Rattle.std.proofs.Common.{◌≡◌, ◌∙◌, ℕ, List, None, Some, ap, option_map, sym, Bor}
use Rattle.elf_load.specs.declared.region.Region.{Region}
use Rattle.cert_text.specs.LineReading.{regions_line}
use Rattle.cert_text.proofs.Whole.{heading_read, refused_first, refused_second, refused_third}
use Rattle.cert_text.proofs.reading.take_heading.Goals as goal

-- what was found, with the text behind it
abbrev seen : List Region × Bor (List ℕ) → List Region × List ℕ
seen p = (p.0, p.1.now)

pub returns-in_default-clause-refused : goal.returns-in_default-clause-refused
returns-in_default-clause-refused c = refused_first c.args.text.now (sym c.in_default.ensures)

pub returns-in_default-2-clause-refused : goal.returns-in_default-2-clause-refused
returns-in_default-2-clause-refused c =
    let none : regions_line c.in-Some.rest.now ≡ None = sym c.in_ok-regions.ensures ∙ ap (option_map seen) c.in_default-2.is in
    refused_second c.args.text.now c.in-Some.rest.now (sym c.in-Some.ensures) none

pub returns-in-Some-take_budgets-clause-read : goal.returns-in-Some-take_budgets-clause-read
returns-in-Some-take_budgets-clause-read c =
    let regions : regions_line c.in-Some.rest.now ≡ Some (c.in-Some-2.regions, c.in-Some-2.rest.now) =
    sym c.in_ok-regions.ensures ∙ ap (option_map seen) c.in-Some-2.is in
    heading_read c.args.text.now c.in-Some.rest.now c.in-Some-2.regions c.in-Some-2.rest.now c.in-Some-take_budgets.budgets c.in-Some-take_budgets.rest.now
    (sym c.in-Some.ensures) regions (sym c.in-Some-take_budgets.ensures)

pub returns-in-None-clause-refused : goal.returns-in-None-clause-refused
returns-in-None-clause-refused c =
    let regions : regions_line c.in-Some.rest.now ≡ Some (c.in-Some-2.regions, c.in-Some-2.rest.now) =
    sym c.in_ok-regions.ensures ∙ ap (option_map seen) c.in-Some-2.is in
    refused_third c.args.text.now c.in-Some.rest.now c.in-Some-2.regions c.in-Some-2.rest.now (sym c.in-Some.ensures) regions (sym c.in-None.ensures)
