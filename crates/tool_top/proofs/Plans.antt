-- Making a plan, from what its parts are.
use Rattle.std.proofs.Common.{◌≡◌, ℕ, zero, suc, ◌+◌, ◌/◌, ◌^◌, ◌<◌, true, false, List, [], ◌∷◌, refl, sym, subst, inl, inr, arith}
use Rattle.std.specs.Prelude.{All, Bool, not, ◌&&◌, ◌==◌, if◌then◌else◌, nat_lt, sum_by, Option, None, Some, Result, Ok, Err, IfOk, OnErr}
use Rattle.std.proofs.lemmas.Bool.Decides.{nat_tests}
use Rattle.std.proofs.lemmas.Bool.{or_parts}
use Rattle.std.proofs.lemmas.List.Elements.{All-cons, All-nil}
use Rattle.std.specs.FinMap.{contains_key}
use Rattle.std.specs.List.{list_any, range_with_len}
use Rattle.std.specs.declared.alloc.AllocError.{AllocError}
use Rattle.tool_io.specs.Told.{Seen, after, IsPrefix}
use Rattle.tool_io.proofs.Deeds.{after-nothing}
use Rattle.elf_load.specs.Fits.{is_in_image, is_unmapped, unfit, unfit_empty, unfit_too_long, unfit_too_many, unfit_unmapped}
use Rattle.elf_load.specs.Images.{Image, Loads}
use Rattle.elf_load.specs.Refusals.{refusal}
use Rattle.elf_load.specs.declared.refused.Refused.{Refused as WhyRefused}
use Rattle.elf_load.specs.declared.region.Region.{Region}
use Rattle.elf_load.specs.declared.unfit.Unfit.{Unfit as WhyUnfit}
use Rattle.elf_load.specs.declared.unfit.Unfit.TheVariants.{Empty, TooLong, TooMany, Unmapped}
use Rattle.fork_spec.specs.Leaves.{IsSmall}
use Rattle.tool_words.specs.Job.{Bench, Job}
use Rattle.rv_spec.specs.Memory.{count_of}
use Rattle.tree_core.specs.declared.budgets.Budgets.{Budgets}
use Rattle.report_text.proofs.ClaimsLegible.{sum_count}
use Rattle.tool_top.specs.Reports.{IsReportOf}
use Rattle.tool_top.specs.Lines.{refused_line, unfit_line, usage}
use Rattle.tool_top.specs.Plan.{IsBenched, IsPlan, IsPlanned, OnlyReads, Plan, Treats}
use Rattle.tool_top.specs.declared.plan.Plan.{Plan as Made}
use Rattle.tool_top.specs.declared.verdict.Verdict.TheVariants.{Done, NoJob, Refused, Unfit}

-- the words have no job
pub planned_usage : (old new : Seen) (job : Option Job) (made : Result Made AllocError) → job ≡ None → new.told ≡ after old.told (record { names = []; puts = []; said = [] }) → IfOk made (λ p. p.verdict ≡ NoJob) → IfOk made (λ p. p.files.items ≡ []) → IfOk made (λ p. p.text ≡ usage) → IfOk made (λ p. IsPlanned old new job p.verdict p.files.items p.text)
planned_usage old new None (Err e) none c v f t = tt
planned_usage old new None (Ok p) none c v f t = record {
  names = [];
  plan = inl (λ i. record { verdict = v i; names = []; puts = f i; text = t i });
  changes = c;
}
planned_usage old new (Some job) made none c v f t = cc

-- a bench reads nothing
pub planned_bench : (old : Seen) (job : Option Job) (number workers : ℕ) (out : List ℕ) (made : Result Made AllocError) → job ≡ Some (Bench number workers out)
    → IfOk made (λ p. IsBenched number workers out p.verdict p.files.items p.text) → IfOk made (λ p. IsPlanned old old job p.verdict p.files.items p.text)
planned_bench old job number workers out (Err e) is benched = tt
planned_bench old job number workers out (Ok p) is benched =
    let plan : Plan = record { verdict = p.verdict; names = []; puts = p.files.items; text = p.text } in
    record {
      names = [];
      plan = subst (λ (j : Option Job). IsPlan old old j plan) (sym is) (inl (refl, benched));
      changes = sym (after-nothing old.told);
    }

-- some names were read, whatever came then
pub only_reads : {T : Type 0} (old new : Seen) (whole names : List (List ℕ)) (made : Result T AllocError) → IsPrefix names whole → new.told ≡ after old.told (record { names = names; puts = []; said = [] }) → OnErr made (OnlyReads old new whole)
only_reads old new whole names (Ok p) begins c = tt
only_reads old new whole names (Err e) begins c = record { names = names; begins = begins; changes = c }

module _ (out bytes : List ℕ) (asked : List Region) (budgets : Budgets) (workers : ℕ) where
  -- the file is that of no program
  pub treats_refused : (why : WhyRefused) (made : Result Made AllocError) → refusal bytes ≡ Some why
      → IfOk made (λ p. p.verdict ≡ Refused) → IfOk made (λ p. p.files.items ≡ []) → IfOk made (λ p. p.text ≡ refused_line why)
      → IfOk made (λ p. Treats out bytes asked budgets workers p.verdict p.files.items p.text)
  treats_refused why (Err e) refuses v f t = tt
  treats_refused why (Ok made) refuses v f t = inr (inl (record { why = why; refuses = refuses; is = v; no_files = f; line = t }))

  -- the input doesn't fit
  pub treats_misfit : (image : Image) (why : WhyUnfit) (made : Result Made AllocError) → Loads bytes image → unfit image asked ≡ Some why
      → IfOk made (λ p. p.verdict ≡ Unfit) → IfOk made (λ p. p.files.items ≡ []) → IfOk made (λ p. p.text ≡ unfit_line why)
      → IfOk made (λ p. Treats out bytes asked budgets workers p.verdict p.files.items p.text)
  treats_misfit image why (Err e) loads is v f t = tt
  treats_misfit image why (Ok made) loads is v f t = inr (inr (record {
    image = image;
    loads = loads;
    why = why;
    misfits = is;
    is = v;
    no_files = f;
    line = t;
  }))

  -- the report of a program, for an input that fits
  pub treats_reported : (image : Image) (made : Result Made AllocError) → Loads bytes image → unfit image asked ≡ None
      → IfOk made (λ q. q.verdict ≡ Done) → IfOk made (λ q. IsReportOf out image asked budgets workers q.files.items q.text)
      → IfOk made (λ q. Treats out bytes asked budgets workers q.verdict q.files.items q.text)
  treats_reported image (Err e) loads fits v r = tt
  treats_reported image (Ok made) loads fits v r = inl (record {
    image = image;
    loads = loads;
    fits = fits;
    done = v;
    report = r;
  })

-- no reason is answered where none of the tests holds
passed : {T : Type 0} (holds : Bool) (why : T) (rest : Option T) → (if holds then Some why else rest) ≡ None → (holds ≡ false) × (rest ≡ None)
passed true why rest is = cc
passed false why rest is = (refl, is)

-- regions that fit have few bytes
pub few_bytes : (image : Image) (asked : List Region) → unfit image asked ≡ None → IsSmall (count_of asked)
unfolding unfit
few_bytes image asked fits =
    let few = passed (unfit_too_many asked) TooMany _ fits in
    let some = passed (unfit_empty asked) Empty _ few.1 in
    let short : nat_lt 1024 (sum_by (λ (r : Region). r.count) asked) ≡ false = (passed (unfit_too_long asked) TooLong _ some.1).0 in
    let same = sum_count asked in
    grind (arith, nat_tests, short, same)

-- the first byte of a region that fits is on a mapped page
first_mapped : (image : Image) (start count : ℕ) → (count == 0) ≡ false → list_any (λ address. not (is_in_image image address)) (range_with_len start count) ≡ false → start < 2 ^ 32
first_mapped image start zero some none = cc
first_mapped image start (suc count) some none =
    let here = or_parts (not (is_in_image image start)) (list_any (λ address. not (is_in_image image address)) (range_with_len (start + 1) count)) none in
    go (nat_lt start 4294967296) (contains_key image.pages (start / 256)) refl here.0
  where
    go : (a b : Bool) → nat_lt start 4294967296 ≡ a → not (a && b) ≡ false → start < 2 ^ 32
    go true b is mapped = grind (arith, nat_tests, is)
    go false b is mapped = cc

starts_from : (image : Image) (asked : List Region) → unfit_empty asked ≡ false → unfit_unmapped image asked ≡ false → All (λ (r : Region). r.start < 2 ^ 32) asked
starts_from image [] some mapped = All-nil (λ (r : Region). r.start < 2 ^ 32)
starts_from image (r ∷ rs) some mapped =
    let not_empty = or_parts (r.count == 0) (unfit_empty rs) some in
    let on_pages = or_parts (is_unmapped image r) (unfit_unmapped image rs) mapped in
    All-cons (λ (r : Region). r.start < 2 ^ 32) r rs (first_mapped image r.start r.count not_empty.0 on_pages.0) (starts_from image rs not_empty.1 on_pages.1)

-- regions that fit begin at addresses
pub region_starts : (image : Image) (asked : List Region) → unfit image asked ≡ None → All (λ (r : Region). r.start < 2 ^ 32) asked
unfolding unfit
region_starts image asked fits =
    let few = passed (unfit_too_many asked) TooMany _ fits in
    let some = passed (unfit_empty asked) Empty _ few.1 in
    let short = passed (unfit_too_long asked) TooLong _ some.1 in
    let mapped = passed (unfit_unmapped image asked) Unmapped _ short.1 in
    starts_from image asked some.0 mapped.0
