use Rattle.std.proofs.Common.{◌≡◌, ◌∙◌, ◌++◌, ℕ, List, [], Vec, Global, ap, sym}
use Rattle.std.specs.List.{flat_map}
use Rattle.cert_form.specs.Certificates.{Certificate}
use Rattle.cert_form.specs.declared.cert.Limits.{Limits}
use Rattle.cert_form.specs.declared.line.CertLine.{CertLine}
use Rattle.elf_load.specs.declared.region.Region.{Region}
use Rattle.cert_text.specs.Texts.{FormatLine, RegionsLine, BudgetsLine, cert_text, text_of}
use Rattle.cert_text.specs.Lines.{line_text}
use Rattle.cert_text.proofs.Walking.{in_parts}
use Rattle.cert_text.proofs.printing.print_cert.Goals as goal

-- the text, from its parts
made_of : (c : Certificate) (regions : List Region) (budgets : Limits) (lines : List CertLine) (new one whole : List ℕ) → regions ≡ c.regions → budgets ≡ c.budgets → lines ≡ c.lines →
    new ≡ [] → one ≡ ((new ++ text_of FormatLine) ++ text_of (RegionsLine regions)) ++ text_of (BudgetsLine budgets) → whole ≡ one ++ flat_map line_text lines → whole ≡ cert_text c
made_of c regions budgets lines new one whole er eb el en e1 e2 =
    e2 ∙ ap (λ (ls : List CertLine). one ++ flat_map line_text ls) el
    ∙ ap (λ (t : List ℕ). t ++ flat_map line_text c.lines) (e1
    ∙ ap (λ (t : List ℕ). ((t ++ text_of FormatLine) ++ text_of (RegionsLine regions)) ++ text_of (BudgetsLine budgets)) en
    ∙ ap (λ (rs : List Region). (text_of FormatLine ++ text_of (RegionsLine rs)) ++ text_of (BudgetsLine budgets)) er
    ∙ ap (λ (b : Limits). (text_of FormatLine ++ text_of (RegionsLine c.regions)) ++ text_of (BudgetsLine b)) eb)
    ∙ sym (in_parts c)

pub returns : goal.returns
returns c =
    c.from_vec.ensures ∙ ap (λ (v : Vec ℕ Global). v.items) c.into_bytes.ensures.value
    ∙ made_of c.args.cert.now c.as_slice.result.now c.cert.inside.budgets c.deref.result.now _ _ _
    (c.as_slice.ensures ∙ ap (λ (x : Certificate). x.regions) c.cert.view_is)
    (ap (λ (x : Certificate). x.budgets) c.cert.view_is)
    (c.deref.ensures.value ∙ ap (λ (x : Certificate). x.lines) c.cert.view_is)
    c.new-text.ensures.bytes c.in_ok-write_heading.ensures c.in_ok-write_lines.ensures
