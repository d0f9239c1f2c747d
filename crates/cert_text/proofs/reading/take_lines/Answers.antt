use Rattle.std.proofs.Common.{rules, ◌≡◌, ◌∙◌, ◌+◌, ◌<◌, ℕ, List, None, Some, ap, arith, length, option_map, subst, sym, Bor}
use Rattle.cert_form.specs.declared.line.CertLine.{CertLine}
use Rattle.cert_text.specs.LineReading.{walk_line}
use Rattle.cert_text.proofs.Walking.{HasRead, read_one_more, refused_here, shorter}
use Rattle.cert_text.proofs.reading.take_lines.Goals.{In-Some}
use Rattle.cert_text.proofs.reading.take_lines.Goals as goal

-- what was found, with the text behind it
abbrev seen : CertLine × Bor (List ℕ) → CertLine × List ℕ
seen p = (p.0, p.1.now)

pub lines-preserved : goal.lines-preserved
lines-preserved c =
    let found : walk_line c.lines.rest.now ≡ Some (c.in-Some.line, c.in-Some.more.now) =
    sym c.in_ok-line.ensures ∙ ap (option_map seen) c.in-Some.is in
    subst (λ lines. HasRead c.args.text.now lines c.in-Some.more.now) (sym c.in_ok-push.ensures.items)
    (read_one_more c.args.text.now c.lines.lines.items c.lines.rest.now c.in-Some.line c.in-Some.more.now c.lines.invariant found)

pub lines-smaller : goal.lines-smaller
lines-smaller c =
    shorter c.lines.rest.now c.in-Some.line c.in-Some.more.now (sym c.in_ok-line.ensures ∙ ap (option_map seen) c.in-Some.is)

pub returns-in_default-clause-refused : goal.returns-in_default-clause-refused
returns-in_default-clause-refused c =
    let none : walk_line c.lines.rest.now ≡ None = sym c.in_ok-line.ensures ∙ ap (option_map seen) c.in_default.is in
    let some : 0 < length c.lines.rest.now = search (rules, arith, c.lines-test.true) in
    refused_here c.args.text.now c.lines.lines.items c.lines.rest.now (3 + c.len.result + 1) c.lines.invariant some none (omega (arith, c.len.ensures, c.lines.lines.ok.0))
