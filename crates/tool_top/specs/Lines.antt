-- What is said where nothing is done.
use Rattle.std.specs.Prelude.{ℕ, ◌+◌, List, ◌++◌, codes, decimal}
use Rattle.cert_audit.specs.declared.auditing.Verdict.{Verdict as Judgement}
use Rattle.cert_audit.specs.declared.auditing.Verdict.TheVariants.{Yes, No}
use Rattle.cert_audit.specs.declared.walking.Leaves.{Leaves}
use Rattle.cert_query.specs.Faults.{number_of}
use Rattle.cert_query.specs.declared.fault.Reason.{Reason}
use Rattle.elf_load.specs.Names.{refused_number, refused_name, unfit_number, unfit_name}
use Rattle.elf_load.specs.declared.refused.Refused.{Refused as WhyRefused}
use Rattle.elf_load.specs.declared.unfit.Unfit.{Unfit as WhyUnfit}
use Rattle.test_files.specs.Refusals.{test_refused_name as test_name, test_refused_number as test_number}
use Rattle.test_files.specs.declared.refused.TestRefused.{TestRefused as WhyNoTest}

abbrev pub usage : List ℕ
usage =
    codes "usage: rvklee explore [--steps N] [--targets N] [--conflicts N] [--workers N] [--nodes N] [--order O] PROGRAM OUT INPUT..\n"
    ++ codes "       rvklee replay PROGRAM TEST\n"
    ++ codes "       rvklee bench NUMBER WORKERS OUT\n"
    ++ codes "       rvklee upgrade TEST OUT\n"
    ++ codes "       rvklee audit PROGRAM CERT\n"

abbrev pub program_refused : ℕ → List ℕ → List ℕ
program_refused number name =
    codes "program refused " ++ decimal number ++ codes " " ++ name ++ codes "\n"

abbrev pub inputs_refused : ℕ → List ℕ → List ℕ
inputs_refused number name =
    codes "inputs refused " ++ decimal number ++ codes " " ++ name ++ codes "\n"

-- why a file is that of no program
abbrev pub refused_line : WhyRefused → List ℕ
refused_line why = program_refused (refused_number why) (refused_name why)

-- why an input isn't taken
abbrev pub unfit_line : WhyUnfit → List ℕ
unfit_line why = inputs_refused (unfit_number why) (unfit_name why)

abbrev pub read_fault : List ℕ
read_fault = codes "read fault\n"

abbrev pub no_memory : List ℕ
no_memory = codes "no memory\n"

-- why a text is no test
abbrev pub test_refused : WhyNoTest → List ℕ
test_refused why = codes "test refused " ++ decimal (test_number why) ++ codes " " ++ test_name why
    ++ codes "\n"

abbrev pub same : List ℕ
same = codes "same\n"

abbrev pub upgraded_line : List ℕ
upgraded_line = codes "upgraded\n"

-- of a certificate that shows its leaves: how many there are, and how many of them are finished and cut
abbrev pub audit_yes : Leaves → List ℕ
audit_yes leaves = codes "audit yes leaves " ++ decimal (leaves.finished + leaves.cut)
    ++ codes " finished " ++ decimal leaves.finished ++ codes " cut " ++ decimal leaves.cut
    ++ codes "\n"

-- of one that doesn't: its first line at fault, and why
abbrev pub audit_no : (line : ℕ) → Reason → List ℕ
audit_no line reason =
    codes "audit no " ++ decimal line ++ codes " " ++ decimal (number_of reason) ++ codes "\n"

abbrev pub audit_line : Judgement → List ℕ
audit_line (Yes leaves) = audit_yes leaves
audit_line (No line reason) = audit_no line reason

-- the line of `bench`: which program it explored, and the summary of its report
abbrev pub bench_line : (number : ℕ) → (summary : List ℕ) → List ℕ
bench_line number summary = codes "bench " ++ decimal number ++ codes " " ++ summary
